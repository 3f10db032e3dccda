-- The sets of lost disks: a strip is what lies below its end and not below its first symbol, and all symbols but those of the strips survive. Assumes
-- nothing.
use mathlib.Core.Path.{◌≡◌, refl, sym, ap, ap₂, ◌∙◌, fun_ext}
use mathlib.Core.Bool.{Bool, true, false, cond, not, ◌&&◌, ◌||◌, and-false}
use mathlib.Core.List.{List}
use Prim.Native.Nat.{ℕ, ◌+◌, ◌-◌, ◌^◌, ◌≤◌, ◌<◌}
use native.Mathlib.Omega.{arith}
use native.Mathlib.Decide.{dec_lt}
use lib.Bits.{bit_or, bit_xor}
use lib.Dec.{eqb, ltb}
use lib.ListN.{length, get_or, take}
use lib.Pow.{pow_pos, pow_mono}
use lib.Seq.{take_all}
use borrow.Author.Tests.{lt-ltb, le-ltb}
use Rattle.codes.specs.Layouts.{symbols_of, first_symbol, height_of, disk_of, on_disk}
use Rattle.codes.specs.declared.Layout.{Layout}
use Rattle.codes.proofs.LayoutLaws.{strip_within, on_disk_above, on_disk_before, on_disk_between, on_disk_of}
use Rattle.bits.specs.BitSets.{has, below, count}
use Rattle.bits.specs.Lists.{count_from}
use Rattle.bits.specs.Numerals.{set_width}
use Rattle.bits.proofs.CountLaws.{count_from_enough, count_is_count_from}
use Rattle.bits.proofs.SetLaws.{has_empty, has_sum, has_union, has_below}
use Rattle.lists.specs.Lists.{listed}
use Rattle.lists.proofs.ListLaws.{listed_none, listed_more}
use Rattle.plans.specs.Judgement.{lost, survives, lost_count}

-- ------------------------------------------------------------------
-- A strip

module _ (layout : Layout) (some : 1 ≤ layout.height) (disk : ℕ) where
  -- The strip, from its first symbol up to its end
  pub strip_as_set : (s : ℕ) → has (bit_xor (below (first_symbol layout disk + height_of layout disk)) (below (first_symbol layout disk))) s ≡ eqb (disk_of layout s) disk
  strip_as_set s =
      has_sum (below end) (below first) s
      ∙ ap (λ (c : Bool). cond c (not (has (below end) s)) (has (below end) s)) (has_below first s)
      ∙ ap (λ (c : Bool). cond (ltb s first) (not c) c) (has_below end s)
      ∙ by_side (dec_lt s first)
      ∙ on_disk_of layout some disk s
    where
      first : ℕ
      first = first_symbol layout disk

      end : ℕ
      end = first_symbol layout disk + height_of layout disk

      by_side : Dec (s < first) → cond (ltb s first) (not (ltb s end)) (ltb s end) ≡ on_disk layout disk s
      by_side (yes h) = rw (lt-ltb s first h, lt-ltb s end (omega arith), on_disk_before layout disk s h)
      by_side (no h) = rw (le-ltb s first (omega arith), on_disk_above layout disk s (omega arith))

  -- It lies within the array
  pub strip_inside : disk < layout.disks → (s : ℕ) → eqb (disk_of layout s) disk ≡ (ltb s (symbols_of layout) && eqb (disk_of layout s) disk)
  strip_inside disk_below s = by_test (eqb (disk_of layout s) disk) refl
    where
      by_test : (on : Bool) → eqb (disk_of layout s) disk ≡ on → on ≡ (ltb s (symbols_of layout) && on)
      by_test true e =
          let between = on_disk_between layout disk s (on_disk_of layout some disk s ∙ e) in
          sym (ap (λ (c : Bool). c && true) (lt-ltb s (symbols_of layout) (omega (arith, between.1, strip_within layout disk disk_below))))
      by_test false e = sym (and-false (ltb s (symbols_of layout)))

-- A set of numbers below a bound is small
pub below_small : (bound width : ℕ) → bound ≤ width → below bound < 2 ^ width
unfolding below
below_small bound width h = omega (arith, pow_mono h, pow_pos bound)

-- ------------------------------------------------------------------
-- The strips of the disks

module _ (layout : Layout) (disks : List ℕ) where
  -- Before the first disk nothing is lost
  pub none_lost : (s : ℕ) → has 0 s ≡ (ltb s (symbols_of layout) && listed (take 0 disks) (disk_of layout s))
  none_lost s = has_empty s ∙ sym (and-false (ltb s (symbols_of layout))) ∙ ap (λ (c : Bool). ltb s (symbols_of layout) && c) (sym (has_empty (disk_of layout s)) ∙ listed_none disks (disk_of layout s))

  -- A disk's strip joins those before it
  pub strip_joins : (i : ℕ) → i < length disks → (set strip : ℕ)
      → ((s : ℕ) → has set s ≡ (ltb s (symbols_of layout) && listed (take i disks) (disk_of layout s)))
      → ((s : ℕ) → has strip s ≡ (ltb s (symbols_of layout) && eqb (disk_of layout s) (get_or disks i 0))) → {set' : ℕ} → set' ≡ bit_or set strip
      → (s : ℕ) → has set' s ≡ (ltb s (symbols_of layout) && listed (take (i + 1) disks) (disk_of layout s))
  strip_joins i h set strip so_far strip_is set_is s =
      rw set_is
      (has_union set strip s
      ∙ ap₂ (λ (a b : Bool). a || b) (so_far s) (strip_is s)
      ∙ by_bits (ltb s (symbols_of layout)) (listed (take i disks) (disk_of layout s)) (eqb (disk_of layout s) (get_or disks i 0))
      ∙ ap (λ (c : Bool). ltb s (symbols_of layout) && c) (sym (listed_more disks i h (disk_of layout s))))
    where
      by_bits : (inside some here : Bool) → ((inside && some) || (inside && here)) ≡ (inside && (here || some))
      by_bits true true true = refl
      by_bits true true false = refl
      by_bits true false true = refl
      by_bits true false false = refl
      by_bits false some here = refl

  -- Behind the last disk all are
  pub all_lost : (i : ℕ) → length disks ≤ i → (set : ℕ) → ((s : ℕ) → has set s ≡ (ltb s (symbols_of layout) && listed (take i disks) (disk_of layout s)))
      → (s : ℕ) → has set s ≡ lost layout disks s
  all_lost i all set so_far s = so_far s ∙ ap (λ (l : List ℕ). ltb s (symbols_of layout) && listed l (disk_of layout s)) (take_all i disks all)

  -- All symbols but the lost ones
  pub rest_as_set : (gone : ℕ) → ((s : ℕ) → has gone s ≡ lost layout disks s) → (s : ℕ)
      → has (bit_xor (below (symbols_of layout)) gone) s ≡ survives layout disks s
  rest_as_set gone gone_is s =
      has_sum (below (symbols_of layout)) gone s
      ∙ ap (λ (c : Bool). cond c (not (has (below (symbols_of layout)) s)) (has (below (symbols_of layout)) s)) (gone_is s)
      ∙ ap (λ (c : Bool). cond (lost layout disks s) (not c) c) (has_below (symbols_of layout) s)
      ∙ by_bits (ltb s (symbols_of layout)) (listed disks (disk_of layout s))
    where
      by_bits : (inside on : Bool) → cond (inside && on) (not inside) inside ≡ (inside && not on)
      by_bits true true = refl
      by_bits true false = refl
      by_bits false on = refl

  -- The set's count is the number of lost symbols
  pub lost_counted : symbols_of layout ≤ set_width → (gone : ℕ) → gone < 2 ^ set_width → ((s : ℕ) → has gone s ≡ lost layout disks s) → count gone ≡ lost_count layout disks
  lost_counted fits gone small gone_is =
      let more : symbols_of layout + (set_width - symbols_of layout) ≡ set_width = omega arith in
      count_is_count_from set_width gone small
      ∙ ap (λ (test : ℕ → Bool). count_from test 0 set_width) (fun_ext gone_is)
      ∙ ap (count_from (lost layout disks) 0) (sym more)
      ∙ count_from_enough (lost layout disks) (symbols_of layout) (set_width - symbols_of layout) (λ s h. ap (λ (c : Bool). c && listed disks (disk_of layout s)) (le-ltb s (symbols_of layout) h))
