-- The invariant of `fewest::columns`: the columns of the bits before `bit` are in the list.
use mathlib.Core.Path.{◌≡◌}
use Prim.Native.Nat.{ℕ, ◌<◌}
use lib.ListN.{length, get_or}
use Rattle.bits.specs.Numerals.{numerals}
use Rattle.fewest.specs.InnerFewest.{IsColumn}
use Rattle.fewest.proofs.columns.Given as goal

abbrev pub invariant-loop-bit : goal.invariant-loop-bit
invariant-loop-bit l = record {
  count : length l.images.items ≡ l.bit;
  columns : (j : ℕ) → j < l.bit → IsColumn (numerals l.rows) j (get_or (numerals l.images.items) j 0);
}
