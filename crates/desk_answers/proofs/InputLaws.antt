-- Laws of the parts of the input. Assumes nothing.
use mathlib.Core.Path.{◌≡◌, sym, ap, ◌∙◌}
use mathlib.Core.List.{List, []}
use Prim.Native.Nat.{ℕ, ◌+◌, ◌-◌, ◌≤◌, ◌<◌}
use native.Mathlib.Omega.{arith}
use lib.ListN.{length, take, drop, length-drop, drop_of_length-le}
use lib.Seq.{take_all, take-nil, drop-drop}
use Rattle.sheets.proofs.PartLaws.{part_to_end, part_whole}
use Rattle.desk_answers.specs.DeskAnswers.{sheet_length_in, code_sheet_in, plan_sheet_in}

-- Under three bytes of input count as an empty code sheet
pub code_sheet_empty_if_under_three : (input : List ℕ) → length input < 3 → code_sheet_in input ≡ []
unfolding code_sheet_in
code_sheet_empty_if_under_three input h =
    ap (take (sheet_length_in input)) (drop_of_length-le input {i = 3} (omega arith)) ∙ take-nil (sheet_length_in input)

-- Where the length runs past the end, the code sheet is what there is
pub code_sheet_is_the_rest : (input : List ℕ) → length input ≤ 3 + sheet_length_in input → code_sheet_in input ≡ drop 3 input
unfolding code_sheet_in
code_sheet_is_the_rest input h = take_all (sheet_length_in input) (drop 3 input) (simp length-drop (omega arith))

-- And the plan sheet is empty
pub plan_sheet_empty_past_end : (input : List ℕ) → length input ≤ 3 + sheet_length_in input → plan_sheet_in input ≡ []
unfolding plan_sheet_in
plan_sheet_empty_past_end input h = drop_of_length-le (drop 3 input) {i = sheet_length_in input} (simp length-drop (omega arith))

module _ (input : List ℕ) (size : ℕ) (e : size ≡ sheet_length_in input) where
  -- The code sheet as a part that the end cuts off
  pub code_sheet_cut : length input < 3 + size → take (length input - 3) (drop 3 input) ≡ code_sheet_in input
  code_sheet_cut h = part_to_end input 3 ∙ sym (code_sheet_is_the_rest input (omega arith))

  -- The code sheet as a part of its length
  pub code_sheet_whole : take (3 + size - 3) (drop 3 input) ≡ code_sheet_in input
  unfolding code_sheet_in
  code_sheet_whole = part_whole input 3 size ∙ ap (λ (n : ℕ). take n (drop 3 input)) e

  -- No plan sheet where the end cuts the code sheet off
  pub plan_sheet_cut : length input < 3 + size → [] ≡ plan_sheet_in input
  plan_sheet_cut h = sym (plan_sheet_empty_past_end input (omega arith))

  -- The plan sheet as the part behind the code sheet
  pub plan_sheet_to_end : take (length input - (3 + size)) (drop (3 + size) input) ≡ plan_sheet_in input
  unfolding plan_sheet_in
  plan_sheet_to_end =
      part_to_end input (3 + size) ∙ sym (drop-drop size 3 input) ∙ ap (λ (n : ℕ). drop n (drop 3 input)) e
