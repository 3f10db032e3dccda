-- Survivors that meet the equations in every column agree with some valid stripe, and those that don't in some column agree with none. Assumes nothing.
use mathlib.Core.Path.{◌≡◌, refl, sym, ap, ap₂, ◌∙◌, subst}
use mathlib.Core.Bool.{Bool, true}
use mathlib.Core.List.{List, map}
use Prim.Native.Nat.{ℕ, ◌+◌, ◌*◌, ◌/◌, ◌%◌, ◌<◌}
use native.Mathlib.Decide.{dec_lt}
use native.Mathlib.Nat.{mul-add-mod_self_right, mod-eq_of_lt, mul-add-div_right, div-eq_of_lt}
use native.Mathlib.Omega.{arith}
use lib.ListN.{length, get_or, replicate, length-replicate, get_or-eq_default}
use lib.Seq.{ext_get_or}
use Rattle.bits.specs.Lists.{tabulate}
use Rattle.bits.proofs.ListLaws.{length_tabulate, get_or_tabulate, get_or_tabulate_behind}
use Rattle.gf2.specs.Plans.{PlacesBelow}
use Rattle.gf2.specs.Selection.{select}
use Rattle.gf2.specs.Stripes.{AreBytes, encoding, Valid}
use Rattle.gf2.proofs.Columns.{column, length_column, get_or_column, column_encoding}
use Rattle.gf2.proofs.SelectionLaws.{select_linear, get_or_map_linear}
use Rattle.gf2.proofs.StripeLaws.{length_valid}
use Rattle.gf2.proofs.SymbolLaws.{replicate_bytes, symbol_fits, symbols_equal_if_bytes_equal, bytes_equal_if_symbols_equal}
use Rattle.spans.specs.Equations.{ComeFromData, MeetsAll, EquationsAmong}
use Rattle.spans.specs.Soundness.{SomeValidAgrees, SomeAgreesInColumn, LowestWithoutAgreement}

-- ------------------------------------------------------------------
-- A stripe from the data of its columns

-- A byte's place within its symbol, and the symbol
position_column : (t L i : ℕ) → i < L → (t * L + i) % L ≡ i
position_column t L i h = mul-add-mod_self_right t L i ∙ mod-eq_of_lt h

position_symbol : (t L i : ℕ) → i < L → (t * L + i) / L ≡ t
position_symbol t L i h = mul-add-div_right (omega arith) t i ∙ omega (arith, div-eq_of_lt h)

module _ (L data_symbols : ℕ) (data_of : ℕ → List ℕ) where
  -- The data whose column i is that of column i
  abbrev joined : List ℕ
  joined = tabulate (data_symbols * L) (λ p. get_or (data_of (p % L)) (p / L) 0)

  joined_length : length joined ≡ data_symbols * L
  joined_length = length_tabulate (data_symbols * L) (λ p. get_or (data_of (p % L)) (p / L) 0)

  joined_bytes : ((i : ℕ) → AreBytes (data_of i)) → AreBytes joined
  joined_bytes bytes p = by_side (dec_lt p (data_symbols * L))
    where
      by_side : Dec (p < data_symbols * L) → get_or joined p 0 < 256
      by_side (yes h) = subst (λ (x : ℕ). x < 256) (sym (get_or_tabulate (data_symbols * L) (λ q. get_or (data_of (q % L)) (q / L) 0) p h)) (bytes (p % L) (p / L))
      by_side (no h) = subst (λ (x : ℕ). x < 256) (sym (get_or_tabulate_behind (data_symbols * L) (λ q. get_or (data_of (q % L)) (q / L) 0) p (omega arith))) (omega arith)

  column_joined : (i : ℕ) → i < L → length (data_of i) ≡ data_symbols → column L data_symbols joined i ≡ data_of i
  column_joined i h counted =
      ext_get_or 0 (column L data_symbols joined i) (data_of i) (length_column L data_symbols joined i ∙ sym counted)
      (λ t q.
      let t_below : t < data_symbols = subst (λ (m : ℕ). t < m) (length_column L data_symbols joined i) q in
      get_or_column L data_symbols joined i t t_below
      ∙ get_or_tabulate (data_symbols * L) (λ p. get_or (data_of (p % L)) (p / L) 0) (t * L + i) (omega (arith, symbol_fits L data_symbols joined t joined_length t_below, joined_length))
      ∙ ap₂ (λ (c : ℕ) (r : ℕ). get_or (data_of c) r 0) (position_column t L i h) (position_symbol t L i h))

  module _ (rows : List ℕ) (counted : (i : ℕ) → length (data_of i) ≡ data_symbols) (bytes : (i : ℕ) → AreBytes (data_of i)) where
    -- The stripe that they give is valid
    joined_valid : Valid L data_symbols rows (encoding L data_symbols rows joined)
    joined_valid = record { contents = joined; contents_length = joined_length; contents_bytes = joined_bytes bytes; gives = refl }

    -- and byte i of symbol s is the row's selection from the data of column i
    byte_of_joined : (s i : ℕ) → s < length rows → i < L → get_or (encoding L data_symbols rows joined) (s * L + i) 0 ≡ select (data_of i) (get_or rows s 0)
    byte_of_joined s i s-below h =
        sym (get_or_column L (length rows) (encoding L data_symbols rows joined) i s s-below)
        ∙ ap (λ (l : List ℕ). get_or l s 0) (column_encoding L data_symbols rows joined i joined_length h ∙ ap (λ (d : List ℕ). map (select d) rows) (column_joined i h (counted i)))
        ∙ get_or_map_linear (select_linear (data_of i)) rows s

-- ------------------------------------------------------------------
-- Columns

-- A column of bytes has bytes
column_bytes : (L n : ℕ) (x : List ℕ) → AreBytes x → (i : ℕ) → AreBytes (column L n x i)
column_bytes L n x bytes i s = by_side (dec_lt s n)
  where
    by_side : Dec (s < n) → get_or (column L n x i) s 0 < 256
    by_side (yes h) = subst (λ (v : ℕ). v < 256) (sym (get_or_column L n x i s h)) (bytes (s * L + i))
    by_side (no h) = subst (λ (v : ℕ). v < 256) (sym (get_or-eq_default (column L n x i) 0 {n = s} (omega (arith, length_column L n x i)))) (omega arith)

module _ (L data_symbols : ℕ) (rows : List ℕ) (known : ℕ → Bool) (known_below : PlacesBelow (length rows) known) (x : List ℕ) (x_length : length x ≡ length rows * L) (x_bytes : AreBytes x) where
  -- Column i of the stripe
  abbrev column_of : ℕ → List ℕ
  column_of i = column L (length rows) x i

  -- The data of a column within a symbol, and no more than some data behind it
  record ColumnData (i : ℕ) : Type 0 where
    contents : List ℕ
    counted : length contents ≡ data_symbols
    bytes : AreBytes contents
    gives : (s : ℕ) → known s ≡ true → i < L → select contents (get_or rows s 0) ≡ get_or x (s * L + i) 0

  column_data : (i : ℕ) → (i < L → ComeFromData data_symbols rows known (column_of i)) → ColumnData i
  column_data i from = by_side (dec_lt i L)
    where
      by_side : Dec (i < L) → ColumnData i
      by_side (yes h) =
          record {
            contents = (from h).contents;
            counted = (from h).contents_length;
            bytes = (from h).contents_bytes;
            gives = λ s is_known q. (from h).gives s is_known ∙ get_or_column L (length rows) x i s (known_below s is_known);
          }
      by_side (no h) =
          record {
            contents = replicate data_symbols 0;
            counted = length-replicate data_symbols 0;
            bytes = replicate_bytes data_symbols 0 (omega arith);
            gives = λ s is_known q. absurd (omega arith);
          }

  module _ (all : (i : ℕ) → ColumnData i) where
    abbrev made : List ℕ
    made = encoding L data_symbols rows (joined L data_symbols (λ i. (all i).contents))

    made_valid : Valid L data_symbols rows made
    made_valid = joined_valid L data_symbols (λ i. (all i).contents) rows (λ i. (all i).counted) (λ i. (all i).bytes)

    made_agrees : (s i : ℕ) → known s ≡ true → i < L → get_or made (s * L + i) 0 ≡ get_or x (s * L + i) 0
    made_agrees s i is_known h =
        byte_of_joined L data_symbols (λ c. (all c).contents) rows (λ c. (all c).counted) (λ c. (all c).bytes) s i (known_below s is_known) h ∙ (all i).gives s is_known h

  -- Where each column's known symbols come from data, some valid stripe agrees
  agrees_if_from_data : ((i : ℕ) → i < L → ComeFromData data_symbols rows known (column_of i)) → SomeValidAgrees L data_symbols rows known x
  agrees_if_from_data from =
      record {
        stripe = made all;
        valid = made_valid all;
        agrees =
            λ s is_known.
            symbols_equal_if_bytes_equal L (made all) x s s
            (symbol_fits L (length rows) (made all) s (length_valid L data_symbols rows (made all) (made_valid all)) (known_below s is_known))
            (symbol_fits L (length rows) x s x_length (known_below s is_known))
            (λ i h. made_agrees all s i is_known h);
      }
    where
      all : (i : ℕ) → ColumnData i
      all i = column_data i (from i)

  -- The same for one column: every column of the stripe gets the one's data
  column_agrees_if_from_data : (i : ℕ) → i < L → ComeFromData data_symbols rows known (column_of i) → SomeAgreesInColumn L data_symbols rows known x i
  column_agrees_if_from_data i h from =
      record {
        stripe = encoding L data_symbols rows (joined L data_symbols (λ c. from.contents));
        valid = joined_valid L data_symbols (λ c. from.contents) rows (λ c. from.contents_length) (λ c. from.contents_bytes);
        agrees =
            λ s is_known.
            byte_of_joined L data_symbols (λ c. from.contents) rows (λ c. from.contents_length) (λ c. from.contents_bytes) s i (known_below s is_known) h
            ∙ from.gives s is_known
            ∙ get_or_column L (length rows) x i s (known_below s is_known);
      }

  -- Where a valid stripe agrees in a column, its known symbols come from data
  from_data_if_column_agrees : (i : ℕ) → i < L → SomeAgreesInColumn L data_symbols rows known x i → ComeFromData data_symbols rows known (column_of i)
  from_data_if_column_agrees i h some =
      let valid = some.valid in
      record {
        contents = column L data_symbols valid.contents i;
        contents_length = length_column L data_symbols valid.contents i;
        contents_bytes = column_bytes L data_symbols valid.contents valid.contents_bytes i;
        gives =
            λ s is_known.
            let s-below = known_below s is_known in
            sym (get_or_map_linear (select_linear (column L data_symbols valid.contents i)) rows s)
            ∙ ap (λ (l : List ℕ). get_or l s 0)
            (sym (ap (λ (y : List ℕ). column L (length rows) y i) valid.gives ∙ column_encoding L data_symbols rows valid.contents i valid.contents_length h))
            ∙ get_or_column L (length rows) some.stripe i s s-below
            ∙ some.agrees s is_known
            ∙ sym (get_or_column L (length rows) x i s s-below);
      }

  -- A stripe that agrees on every known byte agrees in each column
  column_agrees_if_all : SomeValidAgrees L data_symbols rows known x → (i : ℕ) → i < L → SomeAgreesInColumn L data_symbols rows known x i
  column_agrees_if_all some i h =
      record { stripe = some.stripe; valid = some.valid; agrees = λ s is_known. bytes_equal_if_symbols_equal L some.stripe x s s i h (some.agrees s is_known) }

  -- ------------------------------------------------------------------
  -- By equations

  module _ {equations : List ℕ} (among : EquationsAmong data_symbols rows known equations) where
    -- Survivors that meet the equations in every column agree with a valid stripe
    pub sound_if_all_met : ((i : ℕ) → i < L → MeetsAll equations (column_of i)) → SomeValidAgrees L data_symbols rows known x
    sound_if_all_met met = agrees_if_from_data (λ i h. among.enough (column_of i) (column_bytes L (length rows) x x_bytes i) (met i h))

    -- The lowest column in which they don't meet one is the lowest for which no valid stripe agrees
    pub unsound_if_one_fails : (lowest : ℕ) → lowest < L → ((i : ℕ) → i < lowest → MeetsAll equations (column_of i)) → (MeetsAll equations (column_of lowest) → ⊥)
        → LowestWithoutAgreement L data_symbols rows known x lowest
    unsound_if_one_fails lowest h met fails =
        let none : SomeAgreesInColumn L data_symbols rows known x lowest → ⊥ = λ some. fails (among.right (column_of lowest) (from_data_if_column_agrees lowest h some)) in
        record {
          within_symbol = h;
          none_there = none;
          some_before =
              λ i before.
              column_agrees_if_from_data i (omega arith) (among.enough (column_of i) (column_bytes L (length rows) x x_bytes i) (met i before));
          none_agrees = λ some. none (column_agrees_if_all some lowest h);
        }
