-- How many symbols are lost with disks and how many survive, and how many steps a plan can take. Assumes nothing.
use mathlib.Core.Path.{◌≡◌, refl, sym, ap, ap₂, ◌∙◌, subst}
use mathlib.Core.Bool.{Bool, true, false, not, ◌&&◌, or-false, true≢false}
use mathlib.Core.List.{List, [], ◌∷◌}
use Prim.Native.Nat.{ℕ, ◌+◌, ◌-◌, ◌*◌, ◌≤◌, ◌<◌}
use native.Mathlib.Omega.{arith}
use native.Mathlib.Decide.{dec_le}
use native.Mathlib.Nat.{mul-le-mul}
use lib.Dec.{ltb}
use borrow.Author.Tests.{lt-ltb, le-ltb}
use Rattle.plans.specs.Judgement.{lost, survives, lost_count}
use Rattle.codes.specs.Layouts.{symbols_of, first_symbol, height_of, disk_of, on_disk}
use Rattle.codes.specs.declared.Layout.{Layout}
use Rattle.codes.proofs.LayoutLaws.{strip_within, on_disk_above, on_disk_before, on_disk_of}
use Rattle.bits.specs.Lists.{count_from}
use Rattle.bits.proofs.CountLaws.{count_from_add, count_from_all, count_from_none, count_from_halves}
use Rattle.lists.specs.Lists.{listed}

-- ------------------------------------------------------------------
-- How many are lost and how many survive

module _ (layout : Layout) (disks : List ℕ) where
  both_counted : count_from (lost layout disks) 0 (symbols_of layout) + count_from (survives layout disks) 0 (symbols_of layout) ≡ symbols_of layout
  both_counted =
      count_from_halves (lost layout disks) (survives layout disks) 0 (symbols_of layout)
      (λ s h. other_half s (ltb s (symbols_of layout)) (lt-ltb s (symbols_of layout) (omega arith)))
    where
      other_half : (s : ℕ) (c : Bool) → c ≡ true → (c && not (listed disks (disk_of layout s))) ≡ not (c && listed disks (disk_of layout s))
      other_half s true e = refl
      other_half s false e = absurd (true≢false (sym e))

  -- All symbols but the lost ones survive
  pub count_survivors : count_from (survives layout disks) 0 (symbols_of layout) ≡ symbols_of layout - lost_count layout disks
  count_survivors = omega (arith, both_counted)

module _ (layout : Layout) (some : 1 ≤ layout.height) (disk : ℕ) (disk_below : disk < layout.disks) where
  -- The symbols lost with one disk are those on it
  lost_on_disk : (s : ℕ) → lost layout (disk ∷ []) s ≡ (ltb s (symbols_of layout) && on_disk layout disk s)
  unfolding listed
  lost_on_disk s = ap (λ (c : Bool). ltb s (symbols_of layout) && c) (or-false _ ∙ sym (on_disk_of layout some disk s))

  not_before : (s : ℕ) → s < first_symbol layout disk → lost layout (disk ∷ []) s ≡ false
  not_before s h =
      let in_array = lt-ltb s (symbols_of layout) (omega (arith, strip_within layout disk disk_below)) in
      lost_on_disk s ∙ ap₂ (λ (a b : Bool). a && b) in_array (on_disk_before layout disk s h)

  lost_within : (s : ℕ) → first_symbol layout disk ≤ s → s < first_symbol layout disk + height_of layout disk → lost layout (disk ∷ []) s ≡ true
  lost_within s a b =
      let in_array = lt-ltb s (symbols_of layout) (omega (arith, strip_within layout disk disk_below)) in
      lost_on_disk s ∙ ap₂ (λ (c d : Bool). c && d) in_array (on_disk_above layout disk s a ∙ lt-ltb s (first_symbol layout disk + height_of layout disk) b)

  not_behind : (s : ℕ) → first_symbol layout disk + height_of layout disk ≤ s → s < symbols_of layout → lost layout (disk ∷ []) s ≡ false
  not_behind s a b =
      let on = on_disk_above layout disk s (omega arith) ∙ le-ltb s (first_symbol layout disk + height_of layout disk) a in
      lost_on_disk s ∙ ap₂ (λ (c d : Bool). c && d) (lt-ltb s (symbols_of layout) b) on

  -- Of one disk as many symbols are lost as it has rows
  pub lost_of_one : lost_count layout (disk ∷ []) ≡ height_of layout disk
  lost_of_one =
      let gone = lost layout (disk ∷ []) in
      let first = first_symbol layout disk in
      let height = height_of layout disk in
      let behind = symbols_of layout - (first + height) in
      let whole : symbols_of layout ≡ first + (height + behind) = omega (arith, strip_within layout disk disk_below) in
      let from_zero : 0 + first ≡ first = omega arith in
      let before_count = count_from_none gone 0 first (λ s a b. not_before s (omega arith)) in
      let within_count = count_from_all gone first height (λ s a b. lost_within s a b) in
      let behind_count = count_from_none gone (first + height) behind (λ s a b. not_behind s a (omega arith)) in
      let split = count_from_add gone 0 first (height + behind) in
      let split_again = count_from_add gone first height behind in
      ap (count_from gone 0) whole
      ∙ split
      ∙ ap (λ (n : ℕ). count_from gone 0 first + count_from gone n (height + behind)) from_zero
      ∙ omega (arith, before_count, within_count, behind_count, split_again)

-- ------------------------------------------------------------------
-- The step bound

-- The product of two numbers, the one d more than the other, by the square of their sum
product_by_square : (a d : ℕ) → (a + (a + d)) * (a + (a + d)) ≤ 64 * 64 → a * (a + d) ≤ 1024
product_by_square a d h = omega arith

-- Two numbers whose sum is at most 64 have a product of at most 1,024
pub product_small : (a b : ℕ) → a + b ≤ 64 → a * b ≤ 1024
product_small a b h = by_side (dec_le a b)
  where
    by_side : Dec (a ≤ b) → a * b ≤ 1024
    by_side (yes a_less) =
        let more : a + (b - a) ≡ b = omega arith in
        let sum : a + (a + (b - a)) ≤ 64 = omega arith in
        subst (λ (n : ℕ). a * n ≤ 1024) more (product_by_square a (b - a) (mul-le-mul sum sum))
    by_side (no b_less) =
        let more : b + (a - b) ≡ a = omega arith in
        let sum : b + (b + (a - b)) ≤ 64 = omega arith in
        omega (arith, subst (λ (n : ℕ). b * n ≤ 1024) more (product_by_square b (a - b) (mul-le-mul sum sum)))
