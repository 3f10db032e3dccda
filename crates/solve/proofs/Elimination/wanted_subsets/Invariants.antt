-- The invariant of `solve::Elimination::wanted_subsets`: the subsets of the symbols before `target` are in the list.
use mathlib.Core.Path.{◌≡◌}
use lib.ListN.{length, take}
use Rattle.bits.specs.BitSets.{has}
use Rattle.bits.specs.Numerals.{numeral, numerals}
use Rattle.solve.specs.InnerSolving.{wanted_subsets}
use Rattle.solve.proofs.Elimination.wanted_subsets.Given as goal

abbrev pub invariant-loop-target : goal.invariant-loop-target
invariant-loop-target l = record {
  count : length l.subsets.items ≡ l.target;
  so_far : numerals l.subsets.items
      ≡ take l.target (wanted_subsets (numerals l.self.pivots.items) (numerals l.self.surviving.items) (numerals l.rows) (length l.rows) (has (numeral l.wanted)));
}
