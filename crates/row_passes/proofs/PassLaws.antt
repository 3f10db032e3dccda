-- Laws of the passes that make an encoded symbol: what is summed and what the row still takes are the whole. Assumes nothing.
use mathlib.Core.Path.{◌≡◌, sym, ap, ◌∙◌, subst⁻¹}
use mathlib.Core.Bool.{true}
use mathlib.Core.List.{List}
use Prim.Native.Nat.{ℕ, ◌+◌, ◌*◌, ◌≤◌, ◌<◌}
use native.Mathlib.Nat.{zero-add, sub-zero}
use native.Mathlib.Omega.{arith}
use lib.Bits.{bit_xor, xor_zero_l}
use lib.ListN.{length, get_or, replicate, length-replicate, get_or-replicate}
use Rattle.bits.specs.BitSets.{has}
use Rattle.bits.specs.Lists.{symbols_in}
use Rattle.gf2.specs.Stripes.{symbol, SymbolWithin, xor_bytes, encoded_symbol}
use Rattle.gf2.proofs.SymbolLaws.{length_symbol, length_xor_bytes, get_or_xor_bytes, equal_if_bytes_equal, symbol_fits}
use Rattle.passes.specs.InnerSums.{summed_parts, summed}
use Rattle.passes.proofs.SumLaws.{length_added, length_summed, summed_append}
use Rattle.row_passes.specs.InnerPasses.{Gathers}
use Rattle.row_passes.proofs.GatherLaws.{taken_from, taken_behind, taken_here, NextOf, gathered_within, summed_first, taken_sum}

-- ------------------------------------------------------------------
-- Pass after pass

-- A symbol added to zero bytes is that symbol
zeros_added : (L : ℕ) (a : List ℕ) → length a ≡ L → xor_bytes (replicate L 0) a ≡ a
zeros_added L a e =
    let same : length (replicate {A = ℕ} L 0) ≡ length a = length-replicate L 0 ∙ sym e in
    equal_if_bytes_equal L (xor_bytes (replicate L 0) a) a (length_xor_bytes (replicate L 0) a same ∙ length-replicate L 0) e
    (λ i h. get_or_xor_bytes (replicate L 0) a same i ∙ ap (λ (x : ℕ). bit_xor x (get_or a i 0)) (get_or-replicate L i 0 0 h) ∙ xor_zero_l (get_or a i 0))

-- What the target holds, with what the row still takes added to it, is the encoded symbol
pub record SummedTo (row K L : ℕ) (bytes target : List ℕ) (next : ℕ) : Type 0 where
  pub next_to : next ≤ K
  pub next_taken : next < K → has row next ≡ true
  pub size_kept : length target ≡ L
  pub completes : summed L bytes target (taken_from row K next) ≡ encoded_symbol L bytes row K

module _ (row K L : ℕ) (bytes : List ℕ) (whole : length bytes ≡ K * L) where
  -- All that the row takes, added to zero bytes
  from_zeros : summed L bytes (replicate L 0) (taken_from row K 0) ≡ encoded_symbol L bytes row K
  unfolding encoded_symbol
  from_zeros = ap (λ (n : ℕ). summed L bytes (replicate L 0) (symbols_in (has row) 0 n)) (sub-zero K) ∙ taken_sum L bytes row K 0 ∙ ap (encoded_symbol L bytes row) (zero-add K)

  -- A row that takes nothing: zero bytes
  pub none_taken : (next : ℕ) → NextOf row K 0 next → next ≡ K → replicate L 0 ≡ encoded_symbol L bytes row K
  unfolding summed_parts
  none_taken next found behind = sym (ap (summed L bytes (replicate L 0)) (found.from_next ∙ taken_behind row K next (omega arith))) ∙ from_zeros

  module _ (first next : ℕ) (sources : List ℕ) (h : first < K) (gathers : Gathers row K (first + 1) sources next) where
    fits : SymbolWithin L (length bytes) first
    fits = symbol_fits L K bytes first whole h

    -- A pass over a target that some bytes and the first stand for: they, the first and the sources are summed
    passed : (start : List ℕ) → length start ≡ L → has row first ≡ true → summed L bytes start (taken_from row K first) ≡ encoded_symbol L bytes row K
        → SummedTo row K L bytes (summed L bytes (xor_bytes start (symbol L bytes first)) sources) next
    passed start start_length here completes =
        record {
          next_to = gathers.next_to;
          next_taken = gathers.next_taken;
          size_kept =
              length_summed L bytes (xor_bytes start (symbol L bytes first)) sources (length_added L bytes start first start_length fits)
              (gathered_within row K L (length bytes) (first + 1) next sources (omega arith) whole gathers);
          completes =
              sym (summed_append L bytes (xor_bytes start (symbol L bytes first)) sources (taken_from row K next))
              ∙ ap (summed L bytes (xor_bytes start (symbol L bytes first))) (sym gathers.rising)
              ∙ sym (summed_first L bytes start first (taken_from row K (first + 1)))
              ∙ sym (ap (summed L bytes start) (taken_here row K first h here))
              ∙ completes;
        }

    -- The first pass: the first symbol copied
    pub first_pass : NextOf row K 0 first → (target : List ℕ) → target ≡ summed L bytes (symbol L bytes first) sources → SummedTo row K L bytes target next
    first_pass found target e =
        let begun : target ≡ summed L bytes (xor_bytes (replicate L 0) (symbol L bytes first)) sources =
        e ∙ ap (λ (l : List ℕ). summed L bytes l sources) (sym (zeros_added L (symbol L bytes first) (length_symbol L bytes first fits))) in
        subst⁻¹ (λ (l : List ℕ). SummedTo row K L bytes l next) begun
        (passed (replicate L 0) (length-replicate L 0) (found.next_taken h) (ap (summed L bytes (replicate L 0)) (sym found.from_next) ∙ from_zeros))

    -- A pass more: the first symbol added
    pub next_pass : (before : List ℕ) → SummedTo row K L bytes before first → (target : List ℕ) → target ≡ summed L bytes (xor_bytes before (symbol L bytes first)) sources
        → SummedTo row K L bytes target next
    next_pass before so_far target e = subst⁻¹ (λ (l : List ℕ). SummedTo row K L bytes l next) e (passed before so_far.size_kept (so_far.next_taken h) so_far.completes)

  -- Behind the last
  pub all_passed : (target : List ℕ) (next : ℕ) → K ≤ next → SummedTo row K L bytes target next → target ≡ encoded_symbol L bytes row K
  unfolding summed_parts
  all_passed target next behind so_far = sym (ap (summed L bytes target) (taken_behind row K next behind)) ∙ so_far.completes
