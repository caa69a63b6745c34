-- What writing and reading have to do with each other.
use Rattle.std.specs.Prelude.{◌≡◌, ℕ, Bool, List, length, Ok}
use Rattle.blockfile.specs.declared.row.Row.{Row}
use Rattle.blockfile.specs.Rows.{FitRows}
use Rattle.blockfile.specs.Files.{file_of, file_size, file_judged, rows_of}

-- a file reads back as these rows: whatever numbers are readable, fit rows are accepted and come back the same
abbrev pub ReadsBack : ℕ → ℕ → List Row → List ℕ → Type 0
ReadsBack n code rows file =
    (readable : ℕ → Bool) → FitRows n readable rows
    → (file_judged n readable code file ≡ Ok (length rows)) × (rows_of file ≡ rows)

-- an accepted file: its rows are fit, and it is the one file that is written of them
pub record Accepted (n : ℕ) (readable : ℕ → Bool) (code : ℕ) (file : List ℕ) (total : ℕ) : Type 0 where
  pub count : length (rows_of file) ≡ total
  pub size : length file ≡ file_size total
  pub fit : FitRows n readable (rows_of file)
  pub only : file ≡ file_of n code (rows_of file)
