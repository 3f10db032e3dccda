-- The search for a row's pivot.
use Rattle.std.specs.Prelude.{cond, ℕ, eqb}

-- The first set, or the second where the first is empty
abbrev pub first_nonempty : ℕ → ℕ → ℕ
first_nonempty first second = cond (eqb first 0) second first
