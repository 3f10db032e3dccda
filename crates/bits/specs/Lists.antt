-- Lists by their entries, searches and counts.
use Rattle.std.specs.Prelude.{Bool, cond, List, [], ◌∷◌, ℕ, zero, suc, ◌+◌}

-- The list of the given length whose entry i is `entry i`
unfoldable pub tabulate : ℕ → (ℕ → ℕ) → List ℕ
tabulate zero entry = []
tabulate (suc size) entry = entry 0 ∷ tabulate size (λ i. entry (suc i))

-- The symbols of a set, rising: those of `count` numbers from `start` on
unfoldable pub symbols_in : (ℕ → Bool) → ℕ → ℕ → List ℕ
symbols_in set start zero = []
symbols_in set start (suc count) = cond (set start) (start ∷ symbols_in set (suc start) count) (symbols_in set (suc start) count)

-- The first number from `start` on, of `count`, at which the test holds; start + count where there is none
unfoldable pub first_from : (ℕ → Bool) → ℕ → ℕ → ℕ
first_from test start zero = start
first_from test start (suc count) = cond (test start) start (first_from test (suc start) count)

-- How many numbers from `start` on, of `count`, pass the test
unfoldable pub count_from : (ℕ → Bool) → ℕ → ℕ → ℕ
count_from test start zero = 0
count_from test start (suc count) = cond (test start) 1 0 + count_from test (suc start) count
