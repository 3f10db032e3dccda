-- The invariant of `desk_answers::copy_text`: the bytes passed are the text's, the others as they were.
use mathlib.Core.Path.{◌≡◌}
use Rattle.bits.proofs.StoreLaws.{overwritten}
use Rattle.desk_answers.proofs.copy_text.Given as goal

abbrev pub invariant-loop-i : goal.invariant-loop-i
invariant-loop-i l = l.out ≡ overwritten l.initial.out l.text l.i
