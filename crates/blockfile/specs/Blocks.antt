-- The 512 bytes of a block. Whole numbers stand with their lowest byte first; what holds no field is zero.
use Rattle.std.specs.Prelude.{ℕ, zero, suc, ◌+◌, ◌-◌, ◌*◌, ◌%◌, Bool, ◌&&◌, List, [], ◌∷◌, ◌++◌, length, ◌==◌}
use Rattle.std.specs.List.{flat_map}
use Rattle.lists.specs.Bytes.{le, value}
use Rattle.lists.specs.Writes.{filled}
use Rattle.blockfile.specs.declared.row.Row.{Row}
use Rattle.blockfile.specs.declared.block.Kind.{Kind}
use Rattle.blockfile.specs.declared.block.Kind.TheVariants.{Header, Sections}
use Rattle.blockfile.specs.declared.block.Front.{Front}

-- the 16-bit word at place j of a block
abbrev pub word : List ℕ → ℕ → ℕ
word b j = value 2 b (2 * j)

-- the sum of the first j words
unfoldable pub plain_sum : List ℕ → ℕ → ℕ
plain_sum b zero = 0
plain_sum b (suc j) = plain_sum b j + word b j

-- the sum of the first j words, where the word at place i counts 254 - i times
unfoldable pub weighted_sum : List ℕ → ℕ → ℕ
weighted_sum b zero = 0
weighted_sum b (suc j) = weighted_sum b j + (254 - j) * word b j

-- the first check sum of a block, over the 254 words of its first 508 bytes
abbrev pub first_check : List ℕ → ℕ
first_check b = plain_sum b 254 % 65535

-- the second check sum of a block, in which the place of a word counts too
abbrev pub second_check : List ℕ → ℕ
second_check b = weighted_sum b 254 % 65535

-- a block from its first 508 bytes: the two check sums follow in bytes 508-509 and 510-511
abbrev pub sealed : List ℕ → List ℕ
sealed body = body ++ (le 2 (first_check body) ++ le 2 (second_check body))

-- a block that begins with these bytes and is blank from there to its check sums
abbrev pub block_from : List ℕ → List ℕ
block_from fields = sealed (filled 508 fields)

-- the byte that says of which kind a block is
abbrev pub kind_byte : Kind → ℕ
kind_byte Header = 1
kind_byte Sections = 2

-- what every block begins with: bytes 0-3 its number, 4-5 its record count, 6 its kind, 7 the measure's code
abbrev pub front : Front → List ℕ
front f = le 4 f.number ++ (le 2 f.count ++ (kind_byte f.kind ∷ f.code ∷ []))

-- what the header begins with: it is block 0, of kind 1, and has no records
abbrev pub header_front : ℕ → Front
header_front code = record { number = 0; count = 0; kind = Header; code = code }

-- what a section block begins with: it is of kind 2
abbrev pub section_front : ℕ → ℕ → ℕ → Front
section_front k count code = record { number = k; count = count; kind = Sections; code = code }

-- the header: behind its front the number of stations in bytes 8-9 and the total of sections in bytes 10-13
abbrev pub header : ℕ → ℕ → ℕ → List ℕ
header n code total = block_from (front (header_front code) ++ (le 2 n ++ le 4 total))

-- the twelve bytes of a record: two ends of 2 bytes each and the number of the weight in 8
abbrev pub entry_of : Row → List ℕ
entry_of r = le 2 r.low ++ (le 2 r.high ++ le 8 r.number)

-- section block k: its records, at most 41, begin at byte 8
abbrev pub section_block : ℕ → ℕ → List Row → List ℕ
section_block code k rows = block_from (front (section_front k (length rows) code) ++ flat_map entry_of rows)

-- the row that stands at a place of a section block
abbrev pub row_in : List ℕ → ℕ → Row
row_in b place = record {
  low = value 2 b (8 + 12 * place);
  high = value 2 b (10 + 12 * place);
  number = value 8 b (12 + 12 * place);
}

-- the check sums that a block holds are those of its words
abbrev pub checks_hold : List ℕ → Bool
checks_hold b = value 2 b 508 == first_check b && value 2 b 510 == second_check b
