-- What an accepted judgement says of each of its parts.
use Rattle.std.proofs.Common.{◌≡◌, ℕ, ◌+◌, ◌-◌, ◌*◌, ◌/◌, ◌%◌, ◌^◌, ◌<◌, Bool, true, eqb, ltb, List, length, Ok, Err, Option, sym, refl, ap, ◌∙◌, arith}
use Rattle.std.proofs.lemmas.Bool.{eqb-true, ltb-true, and_parts}
use Rattle.lists.specs.Bytes.{value}
use Rattle.lists.specs.Places.{first_fault}
use Rattle.lists.proofs.Failing.{demand_ok, then_ok, none_at}
use Rattle.blockfile.specs.declared.fault.Flaw.{Flaw}
use Rattle.blockfile.specs.declared.fault.Flaw.TheVariants as flaws
use Rattle.blockfile.specs.declared.fault.BlockFault.{BlockFault}
use Rattle.blockfile.specs.declared.fault.FileFault.TheVariants.{Length}
use Rattle.blockfile.specs.Rows.{FitRow}
use Rattle.blockfile.specs.Blocks.{header_front, section_front, row_in}
use Rattle.blockfile.specs.declared.row.Row.{Row}
use Rattle.blockfile.specs.Judging.{Judged, at_block, sections_judged, front_judged, sizes_judged, unused_judged, header_judged, blocks_for, good_row, follows, row_before, record_judged}
use Rattle.blockfile.specs.Files.{in_file, whole_blocks, file_size, block_at, total_in, count_in, before_block, block_judged, sections_of_file_judged, file_judged}

pub at_block_ok : (k : ℕ) (r : Judged Flaw) → at_block k r ≡ Ok tt → r ≡ Ok tt
at_block_ok k (Ok x) e = refl
at_block_ok k (Err f) e = let z : ◌≡◌ {A = ℕ} 0 1 = cc in absurd (omega arith)

pub in_file_ok : (r : Judged BlockFault) → in_file r ≡ Ok tt → r ≡ Ok tt
in_file_ok (Ok x) e = refl
in_file_ok (Err f) e = let z : ◌≡◌ {A = ℕ} 0 1 = cc in absurd (omega arith)

-- what the header's sizes are
pub record Sized (n blocks : ℕ) (b : List ℕ) : Type 0 where
  pub stations : value 2 b 8 ≡ n
  pub total : 1 + blocks_for (value 4 b 10) ≡ blocks

pub sizes_ok : (n blocks : ℕ) (b : List ℕ) → sizes_judged n blocks b ≡ Ok tt → Sized n blocks b
sizes_ok n blocks b e =
    let first = demand_ok (eqb (value 2 b 8) n) flaws.Stations _ tt e in
    let second = demand_ok (eqb (1 + blocks_for (value 4 b 10)) blocks) flaws.Total (Ok tt) tt first.1 in
    record { stations = eqb-true (value 2 b 8) n first.0; total = eqb-true (1 + blocks_for (value 4 b 10)) blocks second.0 }

pub record HeaderOk (n code blocks : ℕ) (b : List ℕ) : Type 0 where
  pub front : front_judged b (header_front code) ≡ Ok tt
  pub sized : Sized n blocks b
  pub unused : unused_judged b 14 ≡ Ok tt

pub header_ok : (n code blocks : ℕ) (b : List ℕ) → header_judged n code blocks b ≡ Ok tt → HeaderOk n code blocks b
header_ok n code blocks b e =
    let first = then_ok (front_judged b (header_front code)) _ tt e in
    let second = then_ok (sizes_judged n blocks b) (unused_judged b 14) tt first.1 in
    record { front = first.0; sized = sizes_ok n blocks b second.0; unused = second.1 }

-- whole blocks, by the numbers
pub whole_is : (len : ℕ) → whole_blocks len ≡ true → (0 < len) × (len ≡ 512 * (len / 512))
whole_is len e =
    let h = and_parts (ltb 0 len) (eqb (len % 512) 0) e in
    let r : len % 512 ≡ 0 = eqb-true (len % 512) 0 h.1 in
    (ltb-true 0 len h.0, omega arith)

-- the length of a file whose header was accepted
pub size_is : (len n code : ℕ) (b : List ℕ) → whole_blocks len ≡ true → header_judged n code (len / 512) b ≡ Ok tt → len ≡ file_size (value 4 b 10)
size_is len n code b w e =
    let h = whole_is len w in
    let s = (header_ok n code (len / 512) b e).sized.total in
    h.1 ∙ ap (λ k. 512 * k) (sym s)

-- the judgement on a block or a record, at what the code has in its hands
pub judged_alike : (n : ℕ) (readable : ℕ → Bool) (code : ℕ) (file : List ℕ) (j : ℕ) {count : ℕ} {before : Option Row} {b : List ℕ} {r : Judged BlockFault} → count ≡ count_in (total_in file) j → before ≡ before_block file j → b ≡ block_at (j + 1) file → r ≡ at_block (j + 1) (sections_judged n readable code (j + 1) count before b) → block_judged n readable code file (total_in file) j ≡ r
judged_alike n readable code file j e f g h =
    sym (h ∙ (λ i. at_block (j + 1) (sections_judged n readable code (j + 1) (e i) (f i) (g i))))

pub good_alike : (n : ℕ) (readable : ℕ → Bool) (before : Option Row) (b : List ℕ) (place : ℕ) {last : Option Row} {row : Row} {r : Bool} → last ≡ row_before before b place → row ≡ row_in b place → r ≡ good_row n readable last row → good_row n readable (row_before before b place) (row_in b place) ≡ r
good_alike n readable before b place e f h = sym (h ∙ (λ i. good_row n readable (e i) (f i)))

-- what a good row is, in each of its parts
pub fit_row : (n : ℕ) (readable : ℕ → Bool) (before : Option Row) (r : Row) → good_row n readable before r ≡ true → r.number < 2 ^ 64 → FitRow n readable r
fit_row n readable before r e h =
    let first = and_parts (ltb r.low r.high) _ e in
    let second = and_parts (ltb r.high n) _ first.1 in
    let third = and_parts (readable r.number) (follows before r) second.1 in
    record { ends = ltb-true r.low r.high first.0; below = ltb-true r.high n second.0; reads = third.0; eight = h }

pub good_follows : (n : ℕ) (readable : ℕ → Bool) (before : Option Row) (r : Row) → good_row n readable before r ≡ true → follows before r ≡ true
good_follows n readable before r e =
    let first = and_parts (ltb r.low r.high) _ e in
    let second = and_parts (ltb r.high n) _ first.1 in
    (and_parts (readable r.number) (follows before r) second.1).1

pub record SectionsOk (n : ℕ) (readable : ℕ → Bool) (code k count : ℕ) (before : Option Row) (b : List ℕ) : Type 0 where
  pub front : front_judged b (section_front k count code) ≡ Ok tt
  pub unused : unused_judged b (8 + 12 * count) ≡ Ok tt
  pub records : (p : ℕ) → p < count → good_row n readable (row_before before b p) (row_in b p) ≡ true

pub sections_ok : (n : ℕ) (readable : ℕ → Bool) (code k count : ℕ) (before : Option Row) (b : List ℕ) → sections_judged n readable code k count before b ≡ Ok tt → SectionsOk n readable code k count before b
sections_ok n readable code k count before b e =
    let first = then_ok (front_judged b (section_front k count code)) _ tt e in
    let second = then_ok (unused_judged b (8 + 12 * count)) (first_fault (record_judged n readable before b) count 0) tt first.1 in
    record {
      front = first.0;
      unused = second.0;
      records =
          λ p l.
          (demand_ok (good_row n readable (row_before before b p) (row_in b p)) (flaws.Record (8 + 12 * p)) (Ok tt) tt
          (none_at (record_judged n readable before b) count 0 second.1 p (omega arith) (omega arith))).0;
    }

-- what an accepted file passed
pub record FileOk (n : ℕ) (readable : ℕ → Bool) (code : ℕ) (file : List ℕ) (total : ℕ) : Type 0 where
  pub sum : total ≡ total_in file
  pub size : length file ≡ file_size (total_in file)
  pub header : HeaderOk n code (length file / 512) (block_at 0 file)
  pub sections : (j : ℕ) → j < blocks_for (total_in file) → SectionsOk n readable code (j + 1) (count_in (total_in file) j) (before_block file j) (block_at (j + 1) file)

pub file_ok : (n : ℕ) (readable : ℕ → Bool) (code : ℕ) (file : List ℕ) (total : ℕ) → file_judged n readable code file ≡ Ok total → FileOk n readable code file total
file_ok n readable code file total e =
    let m = total_in file in
    let judged = header_judged n code (length file / 512) (block_at 0 file) in
    let first = demand_ok (whole_blocks (length file)) Length _ total e in
    let second = then_ok (in_file (at_block 0 judged)) _ total first.1 in
    let third = then_ok (in_file (sections_of_file_judged n readable code file)) (Ok m) total second.1 in
    let accepted : judged ≡ Ok tt = at_block_ok 0 judged (in_file_ok (at_block 0 judged) second.0) in
    let size : length file ≡ file_size m = size_is (length file) n code (block_at 0 file) first.0 accepted in
    record {
      sum = cc;
      size = size;
      header = header_ok n code (length file / 512) (block_at 0 file) accepted;
      sections =
          λ j l.
          sections_ok n readable code (j + 1) (count_in m j) (before_block file j) (block_at (j + 1) file)
          (at_block_ok (j + 1) _
          (none_at (block_judged n readable code file m) (length file / 512 - 1) 0
          (in_file_ok (sections_of_file_judged n readable code file) third.0) j (omega arith) (omega arith)));
    }
