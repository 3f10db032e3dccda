-- The desk program (document 01): standard input is "one disk byte, two bytes (low first) with the code sheet's length, that sheet,
-- and a plan sheet to the end; it checks and prints." The lines that it prints are in lines/Lines.
use Rattle.std.specs.Prelude.{cond, List, [], ◌∷◌, ℕ, leb, length, take, drop, get_or}
use Rattle.plans.specs.Check.{checked}
use Rattle.lines.specs.Lines.{lines_of}
use Rattle.code_sheets.specs.CodeReading.{reading}
use Rattle.sheets.specs.Buffers.{at_front}
use Rattle.sheets.specs.Bytes.{two_bytes_at}

-- ------------------------------------------------------------------
-- The parts of the input. "Under three bytes of input count as an empty code sheet; where the length runs past the end, the code sheet
-- is what there is and the plan sheet is empty": `take` and `drop` are so by themselves (proofs/InputLaws)

-- One disk byte
abbrev pub disk_in : List ℕ → ℕ
disk_in input = get_or input 0 0

-- Two bytes, low first, with the code sheet's length
unfoldable pub sheet_length_in : List ℕ → ℕ
sheet_length_in input = two_bytes_at input 1

-- That sheet
unfoldable pub code_sheet_in : List ℕ → List ℕ
code_sheet_in input = take (sheet_length_in input) (drop 3 input)

-- A plan sheet to the end
unfoldable pub plan_sheet_in : List ℕ → List ℕ
plan_sheet_in input = drop (sheet_length_in input) (drop 3 input)

-- ------------------------------------------------------------------
-- The text

-- What the desk prints for an input: it asks about the set of its one disk
unfoldable pub desk_text : List ℕ → List ℕ
desk_text input =
    let read = reading (code_sheet_in input) in
    lines_of read.verdict read.code (disk_in input) (checked (code_sheet_in input) (disk_in input ∷ []) (plan_sheet_in input))

-- ------------------------------------------------------------------
-- The text in a buffer: at its front where there is room for it, bytes behind it stay; nowhere else

-- The length that is answered, 0 where there is no room
unfoldable pub written_length : List ℕ → List ℕ → ℕ
written_length text out = cond (leb (length text) (length out)) (length text) 0

-- The buffer afterwards
unfoldable pub written_over : List ℕ → List ℕ → List ℕ
written_over text out = cond (leb (length text) (length out)) (at_front text out) out
