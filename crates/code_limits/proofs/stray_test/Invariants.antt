-- The invariants of `code_limits::stray_test`: no place before the row, and none of the row before the bit, is stray, and none was found.
use Rattle.std.proofs.Common.{◌≡◌, ℕ, ◌+◌, ◌*◌, ◌≤◌, ◌<◌, false}
use Rattle.std.specs.Prelude.{None}
use Rattle.bits.specs.Numerals.{numerals}
use Rattle.code_limits.specs.CodeLimits.{stray_at}
use Rattle.code_limits.proofs.stray_test.Given as goal

abbrev pub invariant-search : goal.invariant-search
invariant-search l = (l.stray ≡ None) × ((j : ℕ) → j < l.row * 64 → stray_at (numerals l.rows) l.data_symbols j ≡ false)

abbrev pub invariant-loop-bit : goal.invariant-loop-bit
invariant-loop-bit l = (l.stray ≡ None) × (l.data_symbols ≤ l.bit) × ((j : ℕ) → j < l.row * 64 + l.bit → j < l.row * 64 + 64 → stray_at (numerals l.rows) l.data_symbols j ≡ false)
