-- Laws of the search for the lowest column: byte i of the sum of an equation's symbols is what the equation selects from column i. Assumes nothing.
use mathlib.Core.Path.{◌≡◌, sym, ap, ◌∙◌, subst}
use mathlib.Core.List.{List}
use Prim.Native.Nat.{ℕ, ◌+◌, ◌*◌, ◌≤◌, ◌<◌}
use native.Mathlib.Decide.{dec_lt}
use native.Mathlib.Omega.{arith}
use lib.ListN.{length, get_or, take}
use lib.Seq.{get_or-take, length-take-le}
use Rattle.gf2.specs.Selection.{select}
use Rattle.gf2.specs.Stripes.{encoded_symbol}
use Rattle.gf2.proofs.Columns.{column, get_or_encoded_symbol}
use Rattle.gf2.proofs.SymbolLaws.{length_encoded_symbol}
use Rattle.spans.specs.Equations.{MeetsAll}
use Rattle.soundness.specs.InnerColumns.{FirstNonzero, LowestFailing}

-- What meets some equations meets the first of them
meets_first : (equations values : List ℕ) (few many : ℕ) → few ≤ many → many ≤ length equations → MeetsAll (take many equations) values → MeetsAll (take few equations) values
meets_first equations values few many fewer within met k h =
    let before : k < few = omega (arith, length-take-le few equations (omega arith)) in
    ap (select values) (get_or-take few equations k 0 before ∙ sym (get_or-take many equations k 0 (omega arith)))
    ∙ met k (omega (arith, length-take-le many equations within))

-- No column is below the first: where an equation fails there, no other counts
pub lowest_is_first : (L symbols : ℕ) (x equations : List ℕ) (few many : ℕ) → few ≤ many → many ≤ length equations → {lowest : ℕ} → lowest ≡ 0
    → LowestFailing L symbols x (take few equations) lowest → LowestFailing L symbols x (take many equations) lowest
lowest_is_first L symbols x equations few many fewer within {lowest} first so_far =
    record {
      within = so_far.within;
      met_before = λ i h. absurd (omega arith);
      fails_there = λ h met. so_far.fails_there h (meets_first equations (column L symbols x lowest) few many fewer within met);
    }

module _ (L symbols : ℕ) (x : List ℕ) (x_length : length x ≡ symbols * L) (equations : List ℕ) where
  -- With no equation none fails
  pub lowest_of_none : {lowest : ℕ} → lowest ≡ L → LowestFailing L symbols x (take 0 equations) lowest
  lowest_of_none e = record { within = omega arith; met_before = λ i h e' q. absurd (omega arith); fails_there = λ h. absurd (omega arith) }

  module _ (e : ℕ) (within : e < length equations) {lowest : ℕ} (so_far : LowestFailing L symbols x (take e equations) lowest) {sum : List ℕ}
      (sum_is : sum ≡ encoded_symbol L x (get_or equations e 0) symbols) {first : ℕ} (found : FirstNonzero (take lowest sum) first) where
    sum_length : length sum ≡ L
    sum_length = ap {B = ℕ} length sum_is ∙ length_encoded_symbol L x (get_or equations e 0) symbols (omega arith)

    -- A byte of the sum
    byte_of_sum : (i : ℕ) → i < L → get_or sum i 0 ≡ select (column L symbols x i) (get_or equations e 0)
    byte_of_sum i h = ap (λ (l : List ℕ). get_or l i 0) sum_is ∙ get_or_encoded_symbol L x (get_or equations e 0) symbols i (omega arith) h

    -- A column that meets the equations so far and this one
    meets_more : (i : ℕ) → MeetsAll (take e equations) (column L symbols x i) → select (column L symbols x i) (get_or equations e 0) ≡ 0 → MeetsAll (take (e + 1) equations) (column L symbols x i)
    meets_more i met here k h = by_side (dec_lt k e)
      where
        below : k < e + 1
        below = omega (arith, length-take-le (e + 1) equations (omega arith))

        by_side : Dec (k < e) → select (column L symbols x i) (get_or (take (e + 1) equations) k 0) ≡ 0
        by_side (yes before) =
            ap (select (column L symbols x i)) (get_or-take (e + 1) equations k 0 below ∙ sym (get_or-take e equations k 0 before)) ∙ met k (omega (arith, length-take-le e equations (omega arith)))
        by_side (no after) =
            let same : k ≡ e = omega (arith, below) in
            ap (select (column L symbols x i)) (get_or-take (e + 1) equations k 0 below ∙ ap (λ (n : ℕ). get_or equations n 0) same) ∙ here

    meets_last : (i : ℕ) → MeetsAll (take (e + 1) equations) (column L symbols x i) → select (column L symbols x i) (get_or equations e 0) ≡ 0
    meets_last i met =
        ap (select (column L symbols x i)) (sym (get_or-take (e + 1) equations e 0 (omega arith))) ∙ met e (omega (arith, length-take-le (e + 1) equations (omega arith)))

    -- The lowest column of those so far and this equation: the first byte before the lowest so far that is not zero
    pub lowest_with_one_more : LowestFailing L symbols x (take (e + 1) equations) first
    lowest_with_one_more =
        record {
          within = omega (arith, first_to, so_far.within);
          met_before =
              λ i h.
              let before : i < lowest = omega (arith, first_to) in
              meets_more i (so_far.met_before i before)
              (sym (byte_of_sum i (omega (arith, so_far.within))) ∙ sym (get_or-take lowest sum i 0 before) ∙ found.zero_before i h);
          fails_there = λ h met. by_side (dec_lt first lowest) h met;
        }
      where
        front_length : length (take lowest sum) ≡ lowest
        front_length = length-take-le lowest sum (omega (arith, sum_length, so_far.within))

        first_to : first ≤ lowest
        first_to = omega (arith, found.within, front_length)

        by_side : Dec (first < lowest) → first < L → MeetsAll (take (e + 1) equations) (column L symbols x first) → ⊥
        by_side (yes lower) within_symbol met =
            found.not_there (omega (arith, front_length))
            (get_or-take lowest sum first 0 lower ∙ byte_of_sum first (omega (arith, so_far.within)) ∙ meets_last first met)
        by_side (no h) within_symbol met =
            let same : first ≡ lowest = omega (arith, first_to) in
            so_far.fails_there (omega (arith, same))
            (meets_first equations (column L symbols x lowest) e (e + 1) (omega arith) (omega arith)
            (subst (λ (i : ℕ). MeetsAll (take (e + 1) equations) (column L symbols x i)) same met))
