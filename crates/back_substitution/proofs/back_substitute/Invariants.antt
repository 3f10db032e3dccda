-- The invariant of `back_substitution::back_substitute`: back substitution has come down to row s.
use Rattle.bits.specs.Numerals.{numeral, numerals}
use Rattle.back_substitution.proofs.SubstitutionLaws.{SubstitutedFrom}
use Rattle.back_substitution.proofs.back_substitute.Given as goal

abbrev pub invariant-loop-s : goal.invariant-loop-s
invariant-loop-s l = SubstitutedFrom (numerals l.pivots) (numerals l.rows) (numeral l.initial.left) l.s (numeral l.subset) (numeral l.left)
