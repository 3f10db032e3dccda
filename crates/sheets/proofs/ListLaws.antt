-- Laws of a list behind its count, stored one entry after the other. Assumes nothing.
use mathlib.Core.Path.{◌≡◌, refl, ap, ◌∙◌}
use mathlib.Core.List.{List, [], ◌∷◌}
use Prim.Native.Nat.{ℕ, ◌+◌, ◌≤◌, ◌<◌}
use native.Mathlib.Omega.{arith}
use lib.ListN.{length, get_or, set, length-set}
use lib.Seq.{paste, length-paste, sets-eq}
use Rattle.bits.proofs.StoreLaws.{stored_more, stored_all}
use Rattle.sheets.specs.Buffers.{from_place}
use Rattle.sheets.specs.Bytes.{counted}
use Rattle.sheets.proofs.BufferLaws.{from_place_append}

-- A buffer with the count of a list at a place and its first entries behind it
abbrev pub with_entries : List ℕ → ℕ → List ℕ → ℕ → List ℕ
with_entries list at buffer stored = paste (set buffer at (length list)) (at + 1) list stored

module _ (list : List ℕ) (at : ℕ) (buffer : List ℕ) (room : at + 1 + length list ≤ length buffer) where
  -- It keeps its length
  pub length_with_entries : {written : List ℕ} {stored : ℕ} → stored ≤ length list → written ≡ with_entries list at buffer stored → length written ≡ length buffer
  length_with_entries {stored = stored} h e =
      let first = length-set buffer at (length list) in
      ap length e ∙ length-paste (set buffer at (length list)) (at + 1) list stored (omega (arith, first)) h ∙ first

  -- One entry more is stored
  pub with_entries_next : {written : List ℕ} {i : ℕ} → i < length list → written ≡ with_entries list at buffer i
      → set written (at + 1 + i) (get_or list i 0) ≡ with_entries list at buffer (i + 1)
  with_entries_next {written} {i} h e =
      stored_more (set buffer at (length list)) list (at + 1) (omega (arith, length-set buffer at (length list))) written i (get_or list i 0) h e refl

  -- All are: the count and the list stand there
  pub list_stored : {written : List ℕ} {i : ℕ} → written ≡ with_entries list at buffer i → i ≡ length list
      → written ≡ from_place at (counted list) buffer
  list_stored {written} {i} e all =
      stored_all (set buffer at (length list)) list (at + 1) (omega (arith, length-set buffer at (length list))) written i all e
      ∙ ap (from_place (at + 1) list) (sets-eq (length list ∷ []) buffer at (omega arith))
      ∙ from_place_append at (length list ∷ []) list buffer (omega arith)
