-- Laws of the passes over the bytes of one symbol of a stripe: each turn stores one byte, and a source that is the target or another symbol
-- still has its next byte. Assumes nothing.
use mathlib.Core.Path.{◌≡◌, refl, sym, ap, ap₂, ◌∙◌}
use mathlib.Core.List.{List, [], ◌∷◌, ◌++◌, map, append_assoc}
use Prim.Native.Nat.{ℕ, suc, ◌+◌, ◌*◌, ◌≤◌, ◌<◌}
use native.Mathlib.Decide.{dec_lt}
use native.Mathlib.Nat.{mul-le-mul_right}
use native.Mathlib.Omega.{arith}
use lib.ListN.{length, get_or, set, take, drop}
use lib.Seq.{paste}
use Rattle.bits.proofs.StoreLaws.{stored_more, stored_all, stored_before, stored_behind}
use Rattle.gf2.specs.Stripes.{symbol, SymbolWithin, put_symbol}
use Rattle.gf2.proofs.SymbolLaws.{length_symbol, get_or_symbol}
use Rattle.passes.specs.InnerSums.{summed, EachWithin, summed_byte, part_bytes, symbol_bytes}
use Rattle.passes.specs.InnerStarts.{Starts}
use Rattle.passes.proofs.SumLaws.{symbols_whole, length_summed, get_or_summed_parts}

-- The stripe with the first `done` bytes of the symbol replaced by the new ones
abbrev pub symbol_to : ℕ → List ℕ → ℕ → List ℕ → ℕ → List ℕ
symbol_to L old t new done = paste old (t * L) new done

module _ (L : ℕ) (old : List ℕ) (t : ℕ) (new : List ℕ) (fits : SymbolWithin L (length old) t) (new_length : length new ≡ L) where
  room : t * L + length new ≤ length old
  room = omega arith

  -- One more byte stored
  pub symbol_to_more : (now : List ℕ) (i x : ℕ) → i < L → now ≡ symbol_to L old t new i → x ≡ get_or new i 0
      → set now (t * L + i) x ≡ symbol_to L old t new (i + 1)
  symbol_to_more now i x h e f = stored_more old new (t * L) room now i x (omega arith) e f

  -- All bytes stored: the symbol is replaced
  pub symbol_to_all : (now : List ℕ) (i : ℕ) → i ≡ L → now ≡ symbol_to L old t new i → now ≡ put_symbol L old t new
  unfolding put_symbol
  symbol_to_all now i done e =
      stored_all old new (t * L) room now i (omega arith) e
      ∙ ap (λ (n : ℕ). take (t * L) old ++ new ++ drop (t * L + n) old) new_length
      ∙ append_assoc (take (t * L) old) new (drop (t * L + L) old)

  -- The next byte of any symbol, the target or another, is as it was
  pub next_byte_kept : (i : ℕ) → i < L → (now : List ℕ) (s : ℕ) → now ≡ symbol_to L old t new i → get_or now (s * L + i) 0 ≡ get_or (symbol L old s) i 0
  next_byte_kept i h now s e = ap (λ (l : List ℕ). get_or l (s * L + i) 0) e ∙ by_order (dec_lt s t) ∙ sym (get_or_symbol L old s i h)
    where
      by_order : Dec (s < t) → get_or (symbol_to L old t new i) (s * L + i) 0 ≡ get_or old (s * L + i) 0
      by_order (yes q) = stored_before old new (t * L) room i (omega arith) (s * L + i) (omega (arith, mul-le-mul_right {m = suc s} {n = t} L q))
      by_order (no q) = stored_behind old new (t * L) room i (omega arith) (s * L + i) (omega (arith, mul-le-mul_right {m = t} {n = s} L (omega arith)))

-- ------------------------------------------------------------------
-- A pass

-- Bytes i of symbols, read where these still have them
bytes_unread : (L : ℕ) (stripe now : List ℕ) (i : ℕ) → ((s : ℕ) → get_or now (s * L + i) 0 ≡ get_or (symbol L stripe s) i 0) → (sources : List ℕ)
    → symbol_bytes L now i sources ≡ part_bytes i (map (symbol L stripe) sources)
bytes_unread L stripe now i same [] = refl
bytes_unread L stripe now i same (s ∷ sources) = ap₂ ◌∷◌ (same s) (bytes_unread L stripe now i same sources)

module _ (L : ℕ) (old : List ℕ) (t : ℕ) (t_fits : SymbolWithin L (length old) t) (sources : List ℕ) (within : EachWithin L (length old) sources)
    (makes : ℕ → ℕ → ℕ → Type 0) (source : ℕ) (start : List ℕ) (starts : Starts makes (symbol L old t) (symbol L old source) start) where
  -- What a pass leaves of the target
  abbrev total : List ℕ
  total = summed L old start sources

  start_length : length start ≡ L
  start_length = starts.whole ∙ length_symbol L old t t_fits

  -- It has L bytes
  length_total : length total ≡ L
  length_total = length_summed L old start sources start_length within

  -- One more byte summed
  pub sum_more : (now : List ℕ) (i own other first x : ℕ) → i < L → now ≡ symbol_to L old t total i → own ≡ get_or now (t * L + i) 0
      → other ≡ get_or now (source * L + i) 0 → makes own other first → x ≡ summed_byte first (symbol_bytes L now i sources)
      → set now (t * L + i) x ≡ symbol_to L old t total (i + 1)
  sum_more now i own other first x h e own_is other_is made x_is =
      let kept = λ (s : ℕ). next_byte_kept L old t total t_fits length_total i h now s e in
      let inside : i < length (symbol L old t) = omega (arith, length_symbol L old t t_fits) in
      let first_is = starts.each i first inside (rw (sym (kept t), sym own_is, sym (kept source), sym other_is) made) in
      symbol_to_more L old t total t_fits length_total now i x h e
      (x_is ∙ ap₂ summed_byte first_is (bytes_unread L old now i kept sources)
      ∙ get_or_summed_parts L i start (map (symbol L old) sources) start_length (symbols_whole L old sources within))

  -- All bytes
  pub sum_all : (now : List ℕ) (i : ℕ) → i ≡ L → now ≡ symbol_to L old t total i → now ≡ put_symbol L old t total
  sum_all = symbol_to_all L old t total t_fits length_total
