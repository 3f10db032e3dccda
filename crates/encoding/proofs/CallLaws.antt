-- Laws of the call: what its verdict says, and what it leaves in the stripe. Assumes nothing.
use mathlib.Core.Path.{◌≡◌, refl, sym, ap, ◌∙◌}
use mathlib.Core.List.{List}
use Prim.Native.Nat.{ℕ, ◌*◌, ◌≤◌}
use native.Mathlib.Omega.{arith}
use lib.ListN.{length}
use lib.Seq.{length-take-le}
use borrow.Author.Tests.{ltb-false, not-false, eqb-true}
use Rattle.bits.specs.Numerals.{numerals}
use Rattle.bits.specs.declared.BitSet.{BitSet}
use Rattle.bits.proofs.NumeralLaws.{length_numerals}
use Rattle.codes.specs.Codes.{LinearCode, WithinLimits, symbols, matrix}
use Rattle.encoding.specs.Encoding.{encode_faults, encode_verdict, encoding_of, encoded_stripe}
use Rattle.refusals.specs.Orders.{and_then, if_fine, Outcome, Fine, Refused}
use Rattle.refusals.specs.Refusals.{Numbered}
use Rattle.refusals.proofs.OrderLaws.{refusal_stands, fine_means_none_holds}
use Rattle.code_sheets.specs.CodeReading.{CodeRead, reading}

-- The rows of a code within the limits are as many as its symbols
pub rows_counted : (code : LinearCode) (rows : List BitSet) → WithinLimits code → numerals rows ≡ matrix code → length rows ≡ symbols code
rows_counted code rows within e = sym (length_numerals rows) ∙ ap length e ∙ length-take-le (symbols code) code.rows (omega (arith, within.rows_held, within.symbols_to))

-- What a fine verdict says of the lengths
pub record Fits (read : CodeRead) (count size data_bytes stripe_bytes : ℕ) : Type 0 where
  pub sheet_fine : read.verdict ≡ Fine
  pub size_to : size ≤ 65536
  pub data_whole : data_bytes ≡ read.code.data_symbols * size
  pub stripe_whole : stripe_bytes ≡ count * size

pub fine_fits : (read : CodeRead) (count size data_bytes stripe_bytes : ℕ)
    → and_then read.verdict (encode_faults count read.code.data_symbols size data_bytes stripe_bytes) ≡ Fine
    → Fits read count size data_bytes stripe_bytes
fine_fits read count size data_bytes stripe_bytes e =
    let none = fine_means_none_holds read.verdict (encode_faults count read.code.data_symbols size data_bytes stripe_bytes) e in
    record {
      sheet_fine = none.0;
      size_to = ltb-false 65536 size none.1.1.0;
      data_whole = eqb-true data_bytes (read.code.data_symbols * size) (not-false _ none.1.1.1.0);
      stripe_whole = eqb-true stripe_bytes (count * size) (not-false _ none.1.1.1.1.0);
    }

module _ (sheet contents stripe : List ℕ) (size : ℕ) (read : CodeRead) (as_read : read ≡ reading sheet) where
  -- The verdict is the definition's
  pub verdict_is : {answer : Outcome} {count : ℕ} → count ≡ symbols read.code
      → answer ≡ and_then read.verdict (encode_faults count read.code.data_symbols size (length contents) (length stripe))
      → answer ≡ encode_verdict sheet size (length contents) (length stripe)
  unfolding encode_verdict
  verdict_is counted e =
      e
      ∙ ap (λ (n : ℕ). and_then read.verdict (encode_faults n read.code.data_symbols size (length contents) (length stripe))) counted
      ∙ ap
      (λ (r : CodeRead). and_then r.verdict (encode_faults (symbols r.code) r.code.data_symbols size (length contents) (length stripe)))
      as_read

  -- A sheet that is refused: so is the call
  pub sheet_refused : (refusal : Numbered) → read.verdict ≡ Refused refusal → Refused refusal ≡ encode_verdict sheet size (length contents) (length stripe)
  sheet_refused refusal refused =
      let faults = encode_faults (symbols read.code) read.code.data_symbols size (length contents) (length stripe) in
      verdict_is refl (sym (ap (λ (verdict : Outcome). and_then verdict faults) refused ∙ refusal_stands refusal faults))

  -- Refused: the stripe is as it was
  pub stripe_refused : (answer : Outcome) (refusal : Numbered) → answer ≡ encode_verdict sheet size (length contents) (length stripe)
      → answer ≡ Refused refusal → stripe ≡ encoded_stripe sheet size contents stripe
  unfolding encoded_stripe
  stripe_refused answer refusal e f =
      sym (ap (λ (v : Outcome). if_fine v (encoding_of (reading sheet).code size contents) stripe) (sym e ∙ f))

  -- Fine: the stripe is the encoding
  pub stripe_encoded : (answer : Outcome) (left : List ℕ) → answer ≡ encode_verdict sheet size (length contents) (length stripe)
      → answer ≡ Fine → left ≡ encoding_of read.code size contents → left ≡ encoded_stripe sheet size contents stripe
  unfolding encoded_stripe
  stripe_encoded answer left e f g =
      g ∙ ap (λ (r : CodeRead). encoding_of r.code size contents) as_read
      ∙ sym (ap (λ (v : Outcome). if_fine v (encoding_of (reading sheet).code size contents) stripe) (sym e ∙ f))
