-- What is gone: the lost patterns tell it, none do where the survivors decide the wanted symbols, and then alone. Assumes nothing.
use mathlib.Core.Path.{◌≡◌, refl, sym, ap, ap₂, ◌∙◌, subst, fun_ext}
use mathlib.Core.Bool.{Bool, true, cond}
use mathlib.Core.List.{List, [], ◌∷◌, map}
use Prim.Native.Nat.{ℕ, zero, suc, ◌+◌, ◌*◌, ◌/◌, ◌%◌, ◌^◌, ◌≤◌, ◌<◌}
use native.Mathlib.Nat.{pow-suc}
use native.Mathlib.Omega.{arith}
use lib.Bits.{bit_xor, xor_self, xor_lt}
use lib.ListN.{length, get_or, replicate, get_or-replicate}
use lib.Pow.{pow_pos}
use Rattle.bits.specs.BitSets.{overlap}
use Rattle.bits.proofs.Booleans.{bool_cases}
use Rattle.bits.proofs.OverlapLaws.{overlap_zero_left, overlap_zero_right, overlap_xor_left}
use Rattle.gf2.specs.Plans.{PlacesBelow, AgreeOn}
use Rattle.gf2.specs.Selection.{select, Below}
use Rattle.gf2.specs.Stripes.{symbol, encoding, Valid, pattern_contents, pattern_stripe, zero_stripe, SameSymbols}
use Rattle.gf2.specs.InnerElimination.{remaining, StartsWithUnits}
use Rattle.gf2.specs.InnerSubsetPlans.{survivors}
use Rattle.gf2.proofs.Columns.{length_pattern_contents}
use Rattle.gf2.proofs.EliminationLaws.{remaining_below, starts_with_units_below}
use Rattle.gf2.proofs.PlanningLaws.{get_or_survivors}
use Rattle.gf2.proofs.SelectionLaws.{select_linear}
use Rattle.gf2.proofs.StripeLaws.{length_valid, symbol_zero_stripe, symbol_pattern_stripe}
use Rattle.gf2.proofs.SymbolLaws.{get_or_symbol, symbol_fits, symbols_equal_if_bytes_equal}
use Rattle.spans.specs.Gone.{AreBits, ValidBits, image, image_sum, DifferByOne, Gone}
use Rattle.spans.specs.InnerSpans.{lost_patterns, AlikeOn, OneSubset}
use Rattle.spans.proofs.SpanLaws.{select_unit, overlap_select}
use Rattle.spans.proofs.LostPatternLaws.{lost_below, one_subset_of_lost, lost_even_on_surviving}

-- ------------------------------------------------------------------
-- Data that are bits

-- The pattern whose bits the data are
unfoldable data_pattern : List ℕ → ℕ
data_pattern [] = 0
data_pattern (bit ∷ bits) = data_pattern bits * 2 + bit

-- Data that are bits are the data of that pattern
contents_are_pattern : (bits : List ℕ) → AreBits bits → pattern_contents 1 (length bits) (data_pattern bits) ≡ bits
unfolding data_pattern pattern_contents
contents_are_pattern [] are = refl
contents_are_pattern (bit ∷ bits) are =
    let low_bit : (data_pattern bits * 2 + bit) % 2 ≡ bit = omega (arith, are 0) in
    let half : (data_pattern bits * 2 + bit) / 2 ≡ data_pattern bits = omega (arith, are 0) in
    ap₂ (λ (x y : ℕ). x ∷ pattern_contents 1 (length bits) y) low_bit half ∙ ap (λ (l : List ℕ). bit ∷ l) (contents_are_pattern bits (λ i. are (suc i)))

data_pattern_below : (bits : List ℕ) → AreBits bits → data_pattern bits < 2 ^ length bits
unfolding data_pattern
data_pattern_below [] are = pow_pos 0
data_pattern_below (bit ∷ bits) are =
    omega (arith, are 0, data_pattern_below bits (λ i. are (suc i)), pow-suc 2 (length bits))

-- A pattern's data are bits
pattern_contents_bits : (count pattern : ℕ) → AreBits (pattern_contents 1 count pattern)
unfolding pattern_contents
pattern_contents_bits zero pattern i = omega arith
pattern_contents_bits (suc count) pattern zero = omega arith
pattern_contents_bits (suc count) pattern (suc i) = pattern_contents_bits count (pattern / 2) i

-- A pattern's stripe is valid for symbols of one bit
pub pattern_stripe_valid_bits : (data_symbols : ℕ) (rows : List ℕ) (pattern : ℕ) → ValidBits data_symbols rows (pattern_stripe 1 data_symbols rows pattern)
pattern_stripe_valid_bits data_symbols rows pattern =
    let counted : length (pattern_contents 1 data_symbols pattern) ≡ data_symbols = omega (arith, length_pattern_contents 1 data_symbols pattern) in
    record { contents = pattern_contents 1 data_symbols pattern; contents_length = counted; contents_bits = pattern_contents_bits data_symbols pattern; gives = refl }

-- The pattern that gives a stripe of symbols of one bit
record GivenBy (data_symbols : ℕ) (rows stripe : List ℕ) : Type 0 where
  pattern : ℕ
  below : pattern < 2 ^ data_symbols
  gives : stripe ≡ pattern_stripe 1 data_symbols rows pattern

given_by : (data_symbols : ℕ) (rows stripe : List ℕ) → ValidBits data_symbols rows stripe → GivenBy data_symbols rows stripe
given_by data_symbols rows stripe valid =
    let bits = valid.contents in
    record {
      pattern = data_pattern bits;
      below = subst (λ (n : ℕ). data_pattern bits < 2 ^ n) valid.contents_length (data_pattern_below bits valid.contents_bits);
      gives =
          valid.gives
          ∙ ap (encoding 1 data_symbols rows)
          (sym (contents_are_pattern bits valid.contents_bits) ∙ ap (λ (n : ℕ). pattern_contents 1 n (data_pattern bits)) valid.contents_length);
    }

-- It is valid for symbols of one byte
valid_bytes_if_bits : (data_symbols : ℕ) (rows stripe : List ℕ) → ValidBits data_symbols rows stripe → Valid 1 data_symbols rows stripe
valid_bytes_if_bits data_symbols rows stripe valid =
    let one_byte : length valid.contents ≡ data_symbols * 1 = omega (arith, valid.contents_length) in
    record { contents = valid.contents; contents_length = one_byte; contents_bytes = λ i. omega (arith, valid.contents_bits i); gives = valid.gives }

-- ------------------------------------------------------------------
-- Images

-- The byte of a symbol of one byte
byte_of_symbol : (x : List ℕ) (s : ℕ) → get_or x s 0 ≡ get_or (symbol 1 x s) 0 0
byte_of_symbol x s =
    let position : s ≡ s * 1 + 0 = omega arith in
    ap (λ (n : ℕ). get_or x n 0) position ∙ sym (get_or_symbol 1 x s 0 (omega arith))

module _ (data_symbols : ℕ) (rows : List ℕ) (rows_below : Below data_symbols rows) where
  -- The image of a pattern is its overlap with the symbol's row
  pub image_is_overlap : (s : ℕ) → s < length rows → (pattern : ℕ) → image data_symbols rows s pattern ≡ overlap pattern (get_or rows s 0)
  image_is_overlap s s-below pattern =
      byte_of_symbol (pattern_stripe 1 data_symbols rows pattern) s
      ∙ ap (λ (l : List ℕ). get_or l 0 0) (symbol_pattern_stripe 1 data_symbols rows pattern s rows_below s-below)
      ∙ get_or-replicate 1 0 (overlap pattern (get_or rows s 0)) 0 (omega arith)

  -- The XOR of the images of a subset is the overlap of the subset's sum
  image_sum_is_overlap : (s : ℕ) → s < length rows → (patterns : List ℕ) (subset : ℕ)
      → image_sum data_symbols rows patterns subset s ≡ overlap (select patterns subset) (get_or rows s 0)
  image_sum_is_overlap s s-below patterns subset =
      ap (λ (f : ℕ → ℕ). select (map f patterns) subset) (fun_ext (image_is_overlap s s-below)) ∙ sym (overlap_select patterns subset (get_or rows s 0))

  -- Two stripes given by patterns differ by the overlap of the patterns' sum
  difference_is_overlap : (s : ℕ) → s < length rows → (a b : ℕ) {x y : List ℕ} → x ≡ pattern_stripe 1 data_symbols rows a → y ≡ pattern_stripe 1 data_symbols rows b
      → bit_xor (get_or x s 0) (get_or y s 0) ≡ overlap (bit_xor a b) (get_or rows s 0)
  difference_is_overlap s s-below a b x-is y_is =
      ap₂ (λ (u v : List ℕ). bit_xor (get_or u s 0) (get_or v s 0)) x-is y_is
      ∙ ap₂ bit_xor (image_is_overlap s s-below a) (image_is_overlap s s-below b)
      ∙ sym (overlap_xor_left a b (get_or rows s 0))

  -- ------------------------------------------------------------------
  -- The lost patterns tell what is gone

  module _ (known wanted : ℕ → Bool) (known_below : PlacesBelow (length rows) known) (wanted_below : PlacesBelow (length rows) wanted) where
    -- A pattern that is even on every known row is zero on every survivor
    pub zero_on_known : (pattern : ℕ) → ((s : ℕ) → known s ≡ true → overlap pattern (get_or rows s 0) ≡ 0) → (L : ℕ)
        → SameSymbols L known (pattern_stripe L data_symbols rows pattern) (zero_stripe L (length rows))
    zero_on_known pattern even L s is_known =
        symbol_pattern_stripe L data_symbols rows pattern s rows_below (known_below s is_known)
        ∙ ap (replicate L) (even s is_known)
        ∙ sym (symbol_zero_stripe L (length rows) s (known_below s is_known))

    known_row : (s : ℕ) → known s ≡ true → get_or (survivors known rows) s 0 ≡ get_or rows s 0
    known_row s is_known = get_or_survivors known rows s ∙ ap (λ (c : Bool). cond c (get_or rows s 0) 0) is_known

    -- What is even on each known row is even on each surviving one
    even_on_surviving : (x : ℕ) → ((s : ℕ) → known s ≡ true → overlap x (get_or rows s 0) ≡ 0) → (j : ℕ) → overlap x (get_or (survivors known rows) j 0) ≡ 0
    even_on_surviving x even j =
        ap (overlap x) (get_or_survivors known rows j)
        ∙ bool_cases (λ c. known j ≡ c → overlap x (cond c (get_or rows j 0) 0) ≡ 0) (λ q. even j q) (λ q. overlap_zero_right x) (known j) refl

    -- Patterns look alike on the wanted rows if they do on each wanted symbol's
    alike_if_wanted_alike : (x y : ℕ) → ((s : ℕ) → wanted s ≡ true → overlap x (get_or rows s 0) ≡ overlap y (get_or rows s 0)) → AlikeOn (survivors wanted rows) x y
    alike_if_wanted_alike x y same j =
        ap (overlap x) (get_or_survivors wanted rows j)
        ∙ bool_cases (λ c. wanted j ≡ c → overlap x (cond c (get_or rows j 0) 0) ≡ overlap y (cond c (get_or rows j 0) 0)) (λ q. same j q)
        (λ q. overlap_zero_right x ∙ sym (overlap_zero_right y)) (wanted j) refl
        ∙ ap (overlap y) (sym (get_or_survivors wanted rows j))

    wanted_alike : (x y : ℕ) → AlikeOn (survivors wanted rows) x y → (s : ℕ) → wanted s ≡ true → overlap x (get_or rows s 0) ≡ overlap y (get_or rows s 0)
    wanted_alike x y alike s is_wanted =
        let row : get_or (survivors wanted rows) s 0 ≡ get_or rows s 0 = get_or_survivors wanted rows s ∙ ap (λ (c : Bool). cond c (get_or rows s 0) 0) is_wanted in
        ap (overlap x) (sym row) ∙ alike s ∙ ap (overlap y) row

    -- Stripes that patterns give differ as the one subset for the patterns' sum says
    differ_by_one : (patterns : List ℕ) (a b : ℕ) → OneSubset (survivors wanted rows) patterns (bit_xor a b) → (x y : List ℕ)
        → x ≡ pattern_stripe 1 data_symbols rows a → y ≡ pattern_stripe 1 data_symbols rows b → DifferByOne data_symbols rows wanted patterns x y
    differ_by_one patterns a b one x y x-is y_is =
        record {
          subset = one.subset;
          of_patterns = one.below;
          differ =
              λ s is_wanted.
              difference_is_overlap s (wanted_below s is_wanted) a b x-is y_is
              ∙ wanted_alike (bit_xor a b) (select patterns one.subset) one.alike s is_wanted
              ∙ sym (image_sum_is_overlap s (wanted_below s is_wanted) patterns one.subset);
          only =
              λ other below differ.
              one.only other below
              (alike_if_wanted_alike (bit_xor a b) (select patterns other)
              (λ s is_wanted.
              sym (difference_is_overlap s (wanted_below s is_wanted) a b x-is y_is)
              ∙ differ s is_wanted
              ∙ image_sum_is_overlap s (wanted_below s is_wanted) patterns other));
        }

    -- The lost patterns tell what is gone
    pub lost_patterns_tell : (patterns : List ℕ) → StartsWithUnits data_symbols patterns
        → Gone data_symbols rows known wanted (lost_patterns (remaining patterns (survivors known rows)) (survivors wanted rows))
    lost_patterns_tell patterns start =
        let surviving = survivors known rows in
        let lost = lost_patterns (remaining patterns surviving) (survivors wanted rows) in
        record {
          bits = λ i h. lost_below data_symbols (remaining patterns surviving) (survivors wanted rows) (remaining_below data_symbols patterns surviving (starts_with_units_below data_symbols patterns start)) i;
          zero_on_survivors =
              λ i h.
              zero_on_known (get_or lost i 0)
              (λ s is_known. ap (overlap (get_or lost i 0)) (sym (known_row s is_known)) ∙ lost_even_on_surviving patterns surviving (survivors wanted rows) i s);
          exactly_one =
              λ x y x_valid y_valid agree.
              let a = given_by data_symbols rows x x_valid in
              let b = given_by data_symbols rows y y_valid in
              let even : (s : ℕ) → known s ≡ true → overlap (bit_xor a.pattern b.pattern) (get_or rows s 0) ≡ 0 =
              λ s is_known.
              sym (difference_is_overlap s (known_below s is_known) a.pattern b.pattern a.gives b.gives)
              ∙ ap (λ (v : ℕ). bit_xor v (get_or y s 0)) (agree s is_known)
              ∙ xor_self (get_or y s 0) in
              differ_by_one lost a.pattern b.pattern
              (one_subset_of_lost data_symbols patterns start surviving (survivors wanted rows) (bit_xor a.pattern b.pattern)
              (xor_lt data_symbols a.pattern b.pattern a.below b.below) (even_on_surviving (bit_xor a.pattern b.pattern) even))
              x y a.gives b.gives;
        }

    -- ------------------------------------------------------------------
    -- Nothing is gone

    -- Where the survivors decide the wanted symbols, nothing is gone
    pub nothing_gone_if_decided : ((x y : List ℕ) → Valid 1 data_symbols rows x → Valid 1 data_symbols rows y → SameSymbols 1 known x y → SameSymbols 1 wanted x y)
        → Gone data_symbols rows known wanted []
    unfolding select
    nothing_gone_if_decided decided =
        record {
          bits = λ i h. pow_pos data_symbols;
          zero_on_survivors = λ i h. absurd (omega arith);
          exactly_one =
              λ x y x_valid y_valid agree.
              let x_bytes = valid_bytes_if_bits data_symbols rows x x_valid in
              let y_bytes = valid_bytes_if_bits data_symbols rows y y_valid in
              let same = decided x y x_bytes y_bytes (same_symbols x y (length_valid 1 data_symbols rows x x_bytes) (length_valid 1 data_symbols rows y y_bytes) agree) in
              record {
                subset = 0;
                of_patterns = omega arith;
                differ = λ s is_wanted. ap (λ (v : ℕ). bit_xor v (get_or y s 0)) (byte_of_symbol x s ∙ ap (λ (l : List ℕ). get_or l 0 0) (same s is_wanted) ∙ sym (byte_of_symbol y s)) ∙ xor_self (get_or y s 0);
                only = λ other h differ. omega arith;
              };
        }
      where
        same_symbols : (x y : List ℕ) → length x ≡ length rows * 1 → length y ≡ length rows * 1 → AgreeOn known x y → SameSymbols 1 known x y
        same_symbols x y x_length y_length agree s is_known =
            symbols_equal_if_bytes_equal 1 x y s s (symbol_fits 1 (length rows) x s x_length (known_below s is_known)) (symbol_fits 1 (length rows) y s y_length (known_below s is_known))
            (λ i h.
            let position : s * 1 + i ≡ s = omega arith in
            ap (λ (n : ℕ). get_or x n 0) position ∙ agree s is_known ∙ ap (λ (n : ℕ). get_or y n 0) (sym position))

    -- Where a pattern is even on every known row and odd on a wanted one, something is
    pub something_gone_if_odd : (pattern : ℕ) → ((s : ℕ) → known s ≡ true → overlap pattern (get_or rows s 0) ≡ 0) → (t : ℕ) → wanted t ≡ true
        → overlap pattern (get_or rows t 0) ≡ 1 → Gone data_symbols rows known wanted [] → ⊥
    unfolding select
    something_gone_if_odd pattern even t is_wanted odd gone =
        let x = pattern_stripe 1 data_symbols rows pattern in
        let y = pattern_stripe 1 data_symbols rows 0 in
        let one =
        gone.exactly_one x y (pattern_stripe_valid_bits data_symbols rows pattern) (pattern_stripe_valid_bits data_symbols rows 0)
        (λ s is_known. image_is_overlap s (known_below s is_known) pattern ∙ even s is_known ∙ sym (image_is_overlap s (known_below s is_known) 0 ∙ overlap_zero_left (get_or rows s 0))) in
        let differ : bit_xor (get_or x t 0) (get_or y t 0) ≡ 0 = one.differ t is_wanted in
        let odd_there : bit_xor (get_or x t 0) (get_or y t 0) ≡ 1 =
        ap₂ bit_xor (image_is_overlap t (wanted_below t is_wanted) pattern ∙ odd) (image_is_overlap t (wanted_below t is_wanted) 0 ∙ overlap_zero_left (get_or rows t 0)) in
        absurd (omega (arith, differ, odd_there))

    -- ------------------------------------------------------------------
    -- No pattern is one too many

    -- A second pattern is not empty, and is not the first again: no two subsets may differ two stripes alike
    pub second_is_another : (first second : ℕ) (more : List ℕ) → Gone data_symbols rows known wanted (first ∷ second ∷ more)
        → (second ≡ 0 → ⊥) × (second ≡ first → ⊥)
    second_is_another first second more gone = (
      (λ is_zero. absurd (omega (arith, alone, sums_to_zero 2 (omega (arith, four_subsets)) (select_unit patterns 1 ∙ is_zero)))),
      (λ is_first.
          absurd
          (omega (
            arith,
            alone,
            sums_to_zero 3 (omega (arith, four_subsets))
                ((select_linear patterns).of_sum 1 2 ∙ ap₂ bit_xor (select_unit patterns 0) (select_unit patterns 1 ∙ is_first) ∙ xor_self first),
          ))),
    )
      where
        patterns : List ℕ
        patterns = first ∷ second ∷ more

        zero_stripe : List ℕ
        zero_stripe = pattern_stripe 1 data_symbols rows 0

        one : DifferByOne data_symbols rows wanted patterns zero_stripe zero_stripe
        one =
            gone.exactly_one zero_stripe zero_stripe (pattern_stripe_valid_bits data_symbols rows 0) (pattern_stripe_valid_bits data_symbols rows 0) (λ s is_known. refl)

        four_subsets : 4 ≤ 2 ^ length patterns
        four_subsets = omega (arith, pow-suc 2 (suc (length more)), pow-suc 2 (length more), pow_pos (length more))

        -- A subset whose sum is 0 is the one by which a stripe differs from itself
        sums_to_zero : (subset : ℕ) → subset < 2 ^ length patterns → select patterns subset ≡ 0 → subset ≡ one.subset
        sums_to_zero subset below sum_is_zero =
            one.only subset below
            (λ s is_wanted.
            xor_self (get_or zero_stripe s 0)
            ∙ sym
            (image_sum_is_overlap s (wanted_below s is_wanted) patterns subset
            ∙ ap (λ (sum : ℕ). overlap sum (get_or rows s 0)) sum_is_zero
            ∙ overlap_zero_left (get_or rows s 0)))

        -- which is the empty one
        alone : 0 ≡ one.subset
        alone = sums_to_zero 0 (omega (arith, four_subsets)) (select_linear patterns).of_zero
