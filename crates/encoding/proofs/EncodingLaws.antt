-- Laws of the loop over symbols. Assumes nothing.
use mathlib.Core.Path.{◌≡◌, sym, ap, ap₂, ◌∙◌}
use mathlib.Core.List.{List, [], ◌∷◌, ◌++◌, append-nil, append_assoc}
use Prim.Native.Nat.{ℕ, ◌+◌, ◌-◌, ◌*◌, ◌≤◌, ◌<◌}
use native.Mathlib.Nat.{mul-le-mul_right, zero-mul}
use native.Mathlib.Numerals.{add-one}
use native.Mathlib.Omega.{arith}
use lib.ListN.{length, get_or, take, drop, drop_of_length-le}
use lib.Seq.{length-take-le, take_all, take_at, drop_at, drop-drop, take-suc}
use borrow.Rule.Slice.PartMut.{put_mid}
use Rattle.bits.specs.Numerals.{set_width}
use Rattle.gf2.proofs.SymbolLaws.{part_length, length_encoding}
use Rattle.gf2.specs.Stripes.{encoded_symbol, encoding}

-- ------------------------------------------------------------------
-- Symbol after symbol

-- One row more encodes one symbol more
encoding_more : (size data_symbols : ℕ) (rows : List ℕ) (row : ℕ) (bytes : List ℕ)
    → encoding size data_symbols (rows ++ (row ∷ [])) bytes ≡ encoding size data_symbols rows bytes ++ encoded_symbol size bytes row data_symbols
unfolding encoding
encoding_more size data_symbols [] row bytes = append-nil (encoded_symbol size bytes row data_symbols)
encoding_more size data_symbols (first ∷ rows) row bytes =
    ap (λ (l : List ℕ). encoded_symbol size bytes first data_symbols ++ l) (encoding_more size data_symbols rows row bytes)
    ∙ sym (append_assoc (encoded_symbol size bytes first data_symbols) (encoding size data_symbols rows bytes) (encoded_symbol size bytes row data_symbols))

-- The stripe when so many symbols are written: the others hold what they held
abbrev pub written_to : ℕ → ℕ → List ℕ → List ℕ → List ℕ → ℕ → List ℕ
written_to size data_symbols rows bytes stripe s = encoding size data_symbols (take s rows) bytes ++ drop (s * size) stripe

module _ (size data_symbols : ℕ) (rows bytes stripe : List ℕ) (exact : length bytes ≡ data_symbols * size) where
  -- Before the first
  pub written_none : stripe ≡ written_to size data_symbols rows bytes stripe 0
  unfolding encoding
  written_none = ap (λ (n : ℕ). drop n stripe) (sym (zero-mul size))

  length_front : (s : ℕ) → s ≤ length rows → length (encoding size data_symbols (take s rows) bytes) ≡ s * size
  length_front s h =
      length_encoding size data_symbols (take s rows) bytes exact ∙ ap (λ (n : ℕ). n * size) (length-take-le s rows h)

  -- One symbol more
  pub written_more : (s : ℕ) (now new : List ℕ) → s < length rows → now ≡ written_to size data_symbols rows bytes stripe s
      → new ≡ encoded_symbol size bytes (get_or rows s 0) data_symbols
      → put_mid (s * size) ((s + 1) * size - s * size) now new ≡ written_to size data_symbols rows bytes stripe (s + 1)
  written_more s now new h e f =
      let front : List ℕ = encoding size data_symbols (take s rows) bytes in
      let fits : length front ≡ s * size = length_front s (omega arith) in
      let before : take (s * size) now ≡ front = ap (take (s * size)) e ∙ take_at front (drop (s * size) stripe) (s * size) fits in
      let from : drop (s * size) now ≡ drop (s * size) stripe =
      ap (drop (s * size)) e ∙ drop_at front (drop (s * size) stripe) (s * size) fits in
      let next : s * size + size ≡ (s + 1) * size = omega arith in
      let behind : drop ((s + 1) * size - s * size) (drop (s * size) now) ≡ drop ((s + 1) * size) stripe =
      ap₂ (λ (n : ℕ) (l : List ℕ). drop n l) (part_length s size) from ∙ drop-drop size (s * size) stripe
      ∙ ap (λ (n : ℕ). drop n stripe) next in
      let one_more : front ++ new ≡ encoding size data_symbols (take (s + 1) rows) bytes =
      ap (λ (l : List ℕ). front ++ l) f
      ∙ sym (encoding_more size data_symbols (take s rows) (get_or rows s 0) bytes)
      ∙ ap (λ (l : List ℕ). encoding size data_symbols l bytes) (sym (take-suc rows s 0 h) ∙ ap (λ (n : ℕ). take n rows) (sym (add-one s))) in
      ap₂ (λ (a b : List ℕ). a ++ (new ++ b)) before behind
      ∙ sym (append_assoc front new (drop ((s + 1) * size) stripe))
      ∙ ap (λ (l : List ℕ). l ++ drop ((s + 1) * size) stripe) one_more

  -- All of them
  pub written_all : (count : ℕ) → length stripe ≤ count * size → written_to size data_symbols rows bytes stripe count ≡ encoding size data_symbols (take count rows) bytes
  written_all count whole =
      ap (λ (behind : List ℕ). encoding size data_symbols (take count rows) bytes ++ behind) (drop_of_length-le stripe {i = count * size} whole)
      ∙ append-nil (encoding size data_symbols (take count rows) bytes)

  -- All of them, where each has its row
  pub written_whole : (count : ℕ) → length rows ≤ count → length stripe ≤ count * size → written_to size data_symbols rows bytes stripe count ≡ encoding size data_symbols rows bytes
  written_whole count h whole = written_all count whole ∙ ap (λ (some : List ℕ). encoding size data_symbols some bytes) (take_all count rows h)

-- Where a symbol ends, in numbers far from a word's last
pub symbol_end_small : (s count size : ℕ) → count ≤ set_width → size ≤ 65536 → s < count → (s + 1) * size ≤ set_width * 65536
symbol_end_small s count size few small h =
    let below : s + 1 ≤ set_width = omega arith in
    omega (arith, mul-le-mul_right size below)
