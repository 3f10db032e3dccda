-- Laws of a symbol that is replaced, and replaced again. Assumes nothing.
use mathlib.Core.Path.{◌≡◌, sym, ap, ap₂, ◌∙◌}
use mathlib.Core.List.{List, ◌++◌}
use mathlib.Core.Logic.{◌≢◌}
use Prim.Native.Nat.{ℕ, ◌+◌, ◌*◌}
use native.Mathlib.Omega.{arith}
use lib.ListN.{length, take, drop}
use lib.Seq.{length-take-le, take_at, drop_at, drop-drop}
use Rattle.gf2.specs.Stripes.{symbol, SymbolWithin, xor_bytes, put_symbol}
use Rattle.gf2.proofs.SymbolLaws.{equal_if_bytes_equal, symbols_equal_if_bytes_equal, length_symbol, get_or_symbol}
use Rattle.gf2.proofs.SymbolLaws.{length_put_symbol, get_or_put_symbol_inside, get_or_put_symbol_outside, outside_other_symbol}

module _ (L : ℕ) (x : List ℕ) (t : ℕ) (v : List ℕ) (fits : SymbolWithin L (length x) t) (v_length : length v ≡ L) where
  -- The stripe in which the symbol is replaced
  abbrev put : List ℕ
  put = put_symbol L x t v

  -- It has the same symbols within it
  within : (s : ℕ) → SymbolWithin L (length x) s → SymbolWithin L (length put) s
  within s h = rw (length_put_symbol L x t v fits v_length) h

  -- The symbol is the new one
  symbol_put_same : symbol L put t ≡ v
  symbol_put_same =
      equal_if_bytes_equal L (symbol L put t) v (length_symbol L put t (within t fits)) v_length
      (λ i h. get_or_symbol L put t i h ∙ get_or_put_symbol_inside L x t v fits v_length i h)

  -- Any other is as it was
  symbol_put_other : (s : ℕ) → SymbolWithin L (length x) s → s ≢ t → symbol L put s ≡ symbol L x s
  symbol_put_other s h apart =
      symbols_equal_if_bytes_equal L put x s s (within s h) h
      (λ i below. get_or_put_symbol_outside L x t v fits v_length (s * L + i) (outside_other_symbol L t s i below apart))

  -- Replaced again, it is the last one
  put_put : (w : List ℕ) → put_symbol L put t w ≡ put_symbol L x t w
  unfolding put_symbol
  put_put w =
      let front : length (take (t * L) x) ≡ t * L = length-take-le (t * L) x (omega arith) in
      let back = drop (t * L + L) x in
      ap₂ (λ (a b : List ℕ). a ++ (w ++ b)) (take_at (take (t * L) x) (v ++ back) (t * L) front)
      (sym (drop-drop L (t * L) (take (t * L) x ++ (v ++ back)))
      ∙ ap (drop L) (drop_at (take (t * L) x) (v ++ back) (t * L) front)
      ∙ drop_at v back L v_length)

  -- Another symbol added to it: replaced by the new one with that added
  pub add_to_put : (s : ℕ) → SymbolWithin L (length x) s → s ≢ t
      → put_symbol L put t (xor_bytes (symbol L put t) (symbol L put s)) ≡ put_symbol L x t (xor_bytes v (symbol L x s))
  add_to_put s h apart = ap₂ (λ (a b : List ℕ). put_symbol L put t (xor_bytes a b)) symbol_put_same (symbol_put_other s h apart) ∙ put_put (xor_bytes v (symbol L x s))
