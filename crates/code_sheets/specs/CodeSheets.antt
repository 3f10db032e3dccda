-- The code sheet (document 01, "The two sheets"): one byte 4, then edition 1, n, r, K, one byte each;
-- one byte N, then N rows of 8 bytes, low byte first.
use Rattle.std.specs.Prelude.{List, [], ◌∷◌, ◌++◌, ℕ, ◌+◌, ◌*◌, take, drop, get_or}
use Rattle.codes.specs.Codes.{LinearCode, symbols, matrix, rows_of}
use Rattle.sheets.specs.Bytes.{low_first, low_bytes}

-- Rows of 8 bytes, one after the other
unfoldable pub row_bytes : List ℕ → List ℕ
row_bytes [] = []
row_bytes (row ∷ rows) = low_bytes 8 row ++ row_bytes rows

-- The length of a sheet of so many symbols
abbrev pub sheet_length : ℕ → ℕ
sheet_length count = 6 + 8 * count

-- Row s of a sheet: it stands behind the head and the s rows before it
unfoldable pub row_in : List ℕ → ℕ → ℕ
row_in sheet s = low_first (take 8 (drop (sheet_length s) sheet))

-- The sheet of a code
unfoldable pub code_sheet : LinearCode → List ℕ
code_sheet code =
    4 ∷ 1 ∷ code.layout.disks ∷ code.layout.height ∷ code.data_symbols ∷ symbols code ∷ row_bytes (matrix code)

-- The code of a sheet
unfoldable pub code_in : List ℕ → LinearCode
code_in sheet =
    record {
      layout = record { disks = get_or sheet 2 0; height = get_or sheet 3 0 };
      data_symbols = get_or sheet 4 0;
      rows = rows_of (get_or sheet 5 0) (row_in sheet);
    }
