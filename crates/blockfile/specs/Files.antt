-- A file: the header, and then the section blocks, of which all but the last are full.
use Rattle.std.specs.Prelude.{ℕ, zero, suc, ◌+◌, ◌-◌, ◌*◌, ◌/◌, ◌%◌, min, Bool, ◌&&◌, List, [], ◌++◌, map, length, take, drop, Some, None, Ok, Err, Option, Result, ◌==◌, nat_le, nat_lt}
use Rattle.std.specs.List.{range_with_len}
use Rattle.lists.specs.Bytes.{value}
use Rattle.lists.specs.Places.{demand, then, first_fault}
use Rattle.blockfile.specs.declared.row.Row.{Row}
use Rattle.blockfile.specs.declared.fault.BlockFault.{BlockFault}
use Rattle.blockfile.specs.declared.fault.FileFault.{FileFault}
use Rattle.blockfile.specs.declared.fault.FileFault.TheVariants.{Length, Block}
use Rattle.blockfile.specs.Blocks.{header, section_block, row_in}
use Rattle.blockfile.specs.Judging.{Judged, blocks_for, header_judged, sections_judged, at_block}

-- the rows of section block j + 1: up to 41 of them from row 41 * j on
abbrev pub chunk : ℕ → List Row → List Row
chunk j rows = take 41 (drop (41 * j) rows)

-- the first j section blocks
unfoldable pub section_part : ℕ → List Row → ℕ → List ℕ
section_part code rows zero = []
section_part code rows (suc j) = section_part code rows j ++ section_block code (j + 1) (chunk j rows)

-- the file of n stations and these sections
abbrev pub file_of : ℕ → ℕ → List Row → List ℕ
file_of n code rows = header n code (length rows) ++ section_part code rows (blocks_for (length rows))

-- the length of a file with that many sections
abbrev pub file_size : ℕ → ℕ
file_size total = 512 * (1 + blocks_for total)

-- a length is that of whole blocks, at least one
abbrev pub whole_blocks : ℕ → Bool
whole_blocks len = nat_lt 0 len && len % 512 == 0

-- a buffer of that length takes a file with that many sections
abbrev pub has_room : ℕ → ℕ → Bool
has_room len total = whole_blocks len && nat_le (file_size total) len

-- block k of a file
abbrev pub block_at : ℕ → List ℕ → List ℕ
block_at k file = take 512 (drop (k * 512) file)

-- the total of sections that the header of a file gives
abbrev pub total_in : List ℕ → ℕ
total_in file = value 4 (block_at 0 file) 10

-- row i of a file
abbrev pub row_of : List ℕ → ℕ → Row
row_of file i = row_in (block_at (i / 41 + 1) file) (i % 41)

-- the rows of a file
abbrev pub rows_of : List ℕ → List Row
rows_of file = map (row_of file) (range_with_len 0 (total_in file))

-- how many records section block j + 1 holds
abbrev pub count_in : ℕ → ℕ → ℕ
count_in total j = min 41 (total - 41 * j)

-- the row before section block j + 1: none before the first, and else the last of the full block before it
abbrev pub before_block : List ℕ → ℕ → Option Row
before_block file zero = None
before_block file (suc j) = Some (row_in (block_at (j + 1) file) 40)

-- section block j + 1 of a file with that total
abbrev pub block_judged : ℕ → (ℕ → Bool) → ℕ → List ℕ → ℕ → ℕ → Judged BlockFault
block_judged n readable code file total j =
    at_block (j + 1) (sections_judged n readable code (j + 1) (count_in total j) (before_block file j) (block_at (j + 1) file))

-- all section blocks of a file, the first fault first
abbrev pub sections_of_file_judged : ℕ → (ℕ → Bool) → ℕ → List ℕ → Judged BlockFault
sections_of_file_judged n readable code file =
    first_fault (block_judged n readable code file (total_in file)) (length file / 512 - 1) 0

-- a fault of the block layer as one of the file layer
abbrev pub in_file : Judged BlockFault → Judged FileFault
in_file (Ok x) = Ok x
in_file (Err f) = Err (Block f)

-- a file is judged: its length, the header, the section blocks; an accepted file gives its total of sections
abbrev pub file_judged : ℕ → (ℕ → Bool) → ℕ → List ℕ → Result ℕ FileFault
file_judged n readable code file =
    demand (whole_blocks (length file)) Length
    (then (in_file (at_block 0 (header_judged n code (length file / 512) (block_at 0 file))))
    (then (in_file (sections_of_file_judged n readable code file)) (Ok (total_in file))))
