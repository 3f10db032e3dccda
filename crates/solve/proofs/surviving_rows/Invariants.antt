-- The invariant of `solve::surviving_rows`: the rows of the symbols before the next are in the list, those of the known ones alone.
use mathlib.Core.Path.{◌≡◌}
use lib.ListN.{length, take}
use Rattle.bits.specs.BitSets.{has}
use Rattle.bits.specs.Numerals.{numeral, numerals}
use Rattle.gf2.specs.InnerSubsetPlans.{survivors}
use Rattle.solve.proofs.surviving_rows.Given as goal

abbrev pub invariant-loop-s : goal.invariant-loop-s
invariant-loop-s l = record {
  count : length l.surviving.items ≡ l.s;
  so_far : numerals l.surviving.items ≡ take l.s (survivors (has (numeral l.known)) (numerals l.rows));
}
