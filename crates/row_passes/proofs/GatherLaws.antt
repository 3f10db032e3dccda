-- Laws of the data symbols that a row takes: the next one, those of a pass, and the sum of them all. Assumes nothing.
use mathlib.Core.Path.{◌≡◌, refl, sym, ap, ◌∙◌, subst, subst⁻¹}
use mathlib.Core.Bool.{Bool, true, false, cond}
use mathlib.Core.List.Memᴰ
use mathlib.Core.List.{List, [], ◌∷◌, ◌++◌, append_assoc, Memᴰ}
use Prim.Native.Nat.{ℕ, zero, suc, ◌+◌, ◌-◌, ◌*◌, ◌≤◌, ◌<◌}
use native.Mathlib.Nat.{add-zero}
use native.Mathlib.Omega.{arith}
use Rattle.bits.specs.BitSets.{has}
use Rattle.bits.specs.Lists.{symbols_in, first_from}
use Rattle.bits.specs.Numerals.{set_width}
use Rattle.bits.proofs.SearchLaws.{first_from_none, first_from_found, first_from_holds, first_from_between, none_before_first_from}
use Rattle.gf2.specs.Stripes.{symbol, xor_bytes, encoded_symbol}
use Rattle.gf2.proofs.SymbolLaws.{symbol_ends_within}
use Rattle.passes.specs.InnerSums.{summed_parts, summed, EachWithin}
use Rattle.std.specs.List.{All}
use Rattle.passes.proofs.SumLaws.{all_members}
use Rattle.row_passes.specs.InnerPasses.{DataSymbolFits, Gathers}

-- ------------------------------------------------------------------
-- The symbols of a set, rising

module _ (set : ℕ → Bool) where
  -- They begin with the first number that is in the set
  symbols_has : (start count : ℕ) → set start ≡ true → symbols_in set start (suc count) ≡ start ∷ symbols_in set (suc start) count
  unfolding symbols_in
  symbols_has start count e = rw e

  -- and one that isn't is passed over
  symbols_lacks : (start count : ℕ) → set start ≡ false → symbols_in set start (suc count) ≡ symbols_in set (suc start) count
  unfolding symbols_in
  symbols_lacks start count e = rw e

  -- From there on they are all that there are
  symbols_from_first : (count start : ℕ) → symbols_in set start count ≡ symbols_in set (first_from set start count) (start + count - first_from set start count)
  unfolding symbols_in first_from
  symbols_from_first zero start =
      let none : start + 0 - start ≡ 0 = omega arith in
      rw none
  symbols_from_first (suc count) start = by_first (set start) refl (symbols_from_first count (suc start))
    where
      by_first : (here : Bool) → set start ≡ here
          → symbols_in set (suc start) count ≡ symbols_in set (first_from set (suc start) count) (suc start + count - first_from set (suc start) count)
          → cond here (start ∷ symbols_in set (suc start) count) (symbols_in set (suc start) count)
          ≡ symbols_in set (cond here start (first_from set (suc start) count)) (start + suc count - cond here start (first_from set (suc start) count))
      by_first true e later =
          let all : start + suc count - start ≡ suc count = omega arith in
          sym (ap (symbols_in set start) all ∙ symbols_has start count e)
      by_first false e later =
          let same : suc start + count ≡ start + suc count = omega arith in
          later ∙ ap (λ (n : ℕ). symbols_in set (first_from set (suc start) count) (n - first_from set (suc start) count)) same

  -- Each is below the end of the numbers searched
  symbols_below : (count start t : ℕ) → Memᴰ t (symbols_in set start count) → t < start + count
  unfolding symbols_in
  symbols_below zero start t m = absurd (Memᴰ.not-nil m)
  symbols_below (suc count) start t m = by_first (set start) (symbols_below count (suc start) t) m
    where
      by_first : (here : Bool) → (Memᴰ t (symbols_in set (suc start) count) → t < suc start + count)
          → Memᴰ t (cond here (start ∷ symbols_in set (suc start) count) (symbols_in set (suc start) count)) → t < start + suc count
      by_first true later (Memᴰ.head e) = omega arith
      by_first true later (Memᴰ.tail n) = omega (arith, later n)
      by_first false later n = omega (arith, later n)

-- ------------------------------------------------------------------
-- The data symbols of a row, of K

module _ (row K : ℕ) where
  -- Those from one on
  abbrev pub taken_from : ℕ → List ℕ
  taken_from from = symbols_in (has row) from (K - from)

  -- None behind the last
  pub taken_behind : (from : ℕ) → K ≤ from → taken_from from ≡ []
  unfolding symbols_in
  taken_behind from h =
      let none : K - from ≡ 0 = omega arith in
      rw none

  -- One that the row takes, and those behind it
  pub taken_here : (s : ℕ) → s < K → has row s ≡ true → taken_from s ≡ s ∷ taken_from (s + 1)
  taken_here s h here =
      let left : K - s ≡ suc (K - (s + 1)) = omega arith in
      let next : suc s ≡ s + 1 = omega arith in
      ap (symbols_in (has row) s) left ∙ symbols_has (has row) s (K - (s + 1)) here ∙ ap (λ (n : ℕ). s ∷ symbols_in (has row) n (K - (s + 1))) next

  -- What the search for the next one finds
  pub record NextOf (from next : ℕ) : Type 0 where
    pub next_from : from ≤ next
    pub next_to : next ≤ K
    pub next_taken : next < K → has row next ≡ true
    pub from_next : taken_from from ≡ taken_from next

  pub next_found : (from next : ℕ) → from ≤ K → next ≡ first_from (has row) from (K - from) → NextOf from next
  next_found from next h e = subst (NextOf from) (sym e) found
    where
      first : ℕ
      first = first_from (has row) from (K - from)

      found : NextOf from first
      found =
          let between = first_from_between (has row) (K - from) from in
          let all : from + (K - from) ≡ K = omega arith in
          record {
            next_from = between.0;
            next_to = omega (arith, between.1);
            next_taken = λ l. first_from_holds (has row) (K - from) from (omega arith);
            from_next = symbols_from_first (has row) (K - from) from ∙ ap (λ (n : ℕ). symbols_in (has row) first (n - first)) all;
          }

  -- A search that goes on behind K finds the same, if it finds one below K
  pub next_within : (width from next : ℕ) → from ≤ K → K ≤ width → next ≡ first_from (has row) from (width - from) → next < K
      → next ≡ first_from (has row) from (K - from)
  next_within width from next h narrow e l =
      let between = first_from_between (has row) (width - from) from in
      sym
      (first_from_found (has row) (K - from) from next (omega arith) (omega arith)
      (λ j a b. none_before_first_from (has row) (width - from) from j a (omega arith))
      (subst (λ (n : ℕ). has row n ≡ true) (sym e) (first_from_holds (has row) (width - from) from (omega arith))))

  -- and if it finds none below K, there is none
  pub next_behind : (width from next : ℕ) → from ≤ K → K ≤ width → next ≡ first_from (has row) from (width - from) → K ≤ next
      → K ≡ first_from (has row) from (K - from)
  next_behind width from next h narrow e l =
      let all : from + (K - from) ≡ K = omega arith in
      sym (first_from_none (has row) (K - from) from (λ j a b. none_before_first_from (has row) (width - from) from j a (omega arith)) ∙ all)

  -- ----------------------------------------------------------------
  -- Gathered for a pass

  -- Nothing yet
  pub gathers_none : (from next : ℕ) (sources : List ℕ) → sources ≡ [] → NextOf from next → Gathers row K from sources next
  gathers_none from next sources none found =
      subst⁻¹ (λ (held : List ℕ). Gathers row K from held next) none
      (record { next_from = found.next_from; next_to = found.next_to; next_taken = found.next_taken; rising = found.from_next })

  -- One more
  pub gathers_more : (from next further : ℕ) (sources more : List ℕ) → Gathers row K from sources next → next < K
      → more ≡ sources ++ (next ∷ []) → NextOf (next + 1) further → Gathers row K from more further
  gathers_more from next further sources more so_far h added found =
      subst⁻¹ (λ (held : List ℕ). Gathers row K from held further) added
      (record {
        next_from = omega (arith, so_far.next_from, found.next_from);
        next_to = found.next_to;
        next_taken = found.next_taken;
        rising =
            so_far.rising
            ∙ ap (λ (l : List ℕ). sources ++ l) (taken_here next h (so_far.next_taken h) ∙ ap (λ (l : List ℕ). next ∷ l) found.from_next)
            ∙ sym (append_assoc sources (next ∷ []) (taken_from further));
      })

  -- Each source is a data symbol
  pub gathered_below : (from next : ℕ) (sources : List ℕ) → from ≤ K → Gathers row K from sources next → (s : ℕ) → Memᴰ s sources → s < K
  gathered_below from next sources h gathers s m =
      let all : from + (K - from) ≡ K = omega arith in
      omega (arith, symbols_below (has row) (K - from) from s (subst (Memᴰ s) (sym gathers.rising) (Memᴰ.append_left (taken_from next) m)))

  -- and lies within the data
  pub gathered_within : (L bytes from next : ℕ) (sources : List ℕ) → from ≤ K → bytes ≡ K * L → Gathers row K from sources next → EachWithin L bytes sources
  gathered_within L bytes from next sources h e gathers s m = rw e (symbol_ends_within s K L (gathered_below from next sources h gathers s m))

  -- A data symbol fits the data
  pub symbol_fits_data : (L bytes s : ℕ) → K ≤ set_width → bytes ≡ K * L → s < K → DataSymbolFits L bytes s
  symbol_fits_data L bytes s narrow e h = (omega arith, rw e (symbol_ends_within s K L h))

  -- and so do the sources
  pub gathered_fit : (L bytes from next : ℕ) (sources : List ℕ) → K ≤ set_width → from ≤ K → bytes ≡ K * L → Gathers row K from sources next
      → All (DataSymbolFits L bytes) sources
  gathered_fit L bytes from next sources narrow h e gathers =
      all_members (DataSymbolFits L bytes) sources (λ s m. symbol_fits_data L bytes s narrow e (gathered_below from next sources h gathers s m))

-- ------------------------------------------------------------------
-- The sum of them all

-- One data symbol further
encoded_next : (L : ℕ) (bytes : List ℕ) (row t : ℕ) (bit : Bool) → has row t ≡ bit
    → cond bit (xor_bytes (encoded_symbol L bytes row t) (symbol L bytes t)) (encoded_symbol L bytes row t) ≡ encoded_symbol L bytes row (suc t)
unfolding encoded_symbol
encoded_next L bytes row t bit e = ap (λ (b : Bool). cond b (xor_bytes (encoded_symbol L bytes row t) (symbol L bytes t)) (encoded_symbol L bytes row t)) (sym e)

-- The first source is added first
pub summed_first : (L : ℕ) (bytes first : List ℕ) (s : ℕ) (sources : List ℕ)
    → summed L bytes first (s ∷ sources) ≡ summed L bytes (xor_bytes first (symbol L bytes s)) sources
unfolding summed_parts
summed_first L bytes first s sources = refl

-- An encoded symbol is the sum of what the row takes, added to what it takes before
pub taken_sum : (L : ℕ) (bytes : List ℕ) (row count from : ℕ)
    → summed L bytes (encoded_symbol L bytes row from) (symbols_in (has row) from count) ≡ encoded_symbol L bytes row (from + count)
unfolding summed_parts symbols_in
taken_sum L bytes row zero from = ap (encoded_symbol L bytes row) (sym (add-zero from))
taken_sum L bytes row (suc count) from = by_bit (has row from) refl ∙ taken_sum L bytes row count (suc from) ∙ ap (encoded_symbol L bytes row) (omega arith)
  where
    step : (bit : Bool) → has row from ≡ bit
        → cond bit (xor_bytes (encoded_symbol L bytes row from) (symbol L bytes from)) (encoded_symbol L bytes row from) ≡ encoded_symbol L bytes row (suc from)
    step bit e = encoded_next L bytes row from bit e

    by_bit : (bit : Bool) → has row from ≡ bit
        → summed L bytes (encoded_symbol L bytes row from) (cond bit (from ∷ symbols_in (has row) (suc from) count) (symbols_in (has row) (suc from) count))
        ≡ summed L bytes (encoded_symbol L bytes row (suc from)) (symbols_in (has row) (suc from) count)
    by_bit true e = summed_first L bytes (encoded_symbol L bytes row from) from (symbols_in (has row) (suc from) count) ∙ ap (λ (l : List ℕ). summed L bytes l (symbols_in (has row) (suc from) count)) (step true e)
    by_bit false e = ap (λ (l : List ℕ). summed L bytes l (symbols_in (has row) (suc from) count)) (step false e)
