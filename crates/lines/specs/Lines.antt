-- The lines that the desk program prints (document 01), each ended by a newline. Text is a list of ASCII codes.
use Rattle.std.specs.Prelude.{List, [], ◌∷◌, ◌++◌, ℕ}
use Rattle.codes.specs.Codes.{LinearCode}
use Rattle.refusals.specs.Orders.{Outcome, Fine, Refused, Answer, Gives, Refuses}
use Rattle.texts.specs.Decimals.{labelled}

abbrev pub newline : List ℕ
newline = 10 ∷ []

-- `code n r K`
unfoldable pub code_line : ℕ → ℕ → ℕ → List ℕ
code_line disks height data_symbols =
    labelled (99 ∷ 111 ∷ 100 ∷ 101 ∷ 32 ∷ []) disks ++ labelled (32 ∷ []) height ++ labelled (32 ∷ []) data_symbols ++ newline

-- `disk d`
unfoldable pub disk_line : ℕ → List ℕ
disk_line disk = labelled (100 ∷ 105 ∷ 115 ∷ 107 ∷ 32 ∷ []) disk ++ newline

-- `accepted`, then `reads m`
unfoldable pub accepted_lines : ℕ → List ℕ
accepted_lines reads =
    labelled (97 ∷ 99 ∷ 99 ∷ 101 ∷ 112 ∷ 116 ∷ 101 ∷ 100 ∷ 10 ∷ 114 ∷ 101 ∷ 97 ∷ 100 ∷ 115 ∷ 32 ∷ []) reads ++ newline

-- `refused N at P`
unfoldable pub refusal_line : ℕ → ℕ → List ℕ
refusal_line number place =
    labelled (114 ∷ 101 ∷ 102 ∷ 117 ∷ 115 ∷ 101 ∷ 100 ∷ 32 ∷ []) number ++ labelled (32 ∷ 97 ∷ 116 ∷ 32 ∷ []) place ++ newline

-- What the check answers
abbrev pub answer_lines : Answer ℕ → List ℕ
answer_lines (Gives reads) = accepted_lines reads
answer_lines (Refuses refusal) = refusal_line refusal.number refusal.place

-- "If the code sheet is refused, the refusal line stands alone"; else the code, the disk and the answer
abbrev pub lines_of : Outcome → LinearCode → ℕ → Answer ℕ → List ℕ
lines_of (Refused refusal) code disk answer = refusal_line refusal.number refusal.place
lines_of Fine code disk answer =
    code_line code.layout.disks code.layout.height code.data_symbols ++ disk_line disk ++ answer_lines answer
