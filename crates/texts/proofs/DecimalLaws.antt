-- Laws of numbers as decimal text: what is printed of a number is its decimal text. Assumes nothing.
use Rattle.std.proofs.Common.{◌≡◌, refl, sym, ap, ◌∙◌, List, [], ◌∷◌, ◌++◌, Bool, true, false, cond, ℕ, zero, suc, ◌/◌, ◌%◌, ◌≤◌, ◌<◌, ◌^◌, arith}
use Rattle.std.specs.Fmt as printed
use Rattle.std.proofs.lemmas.Fmt.{AppendsLastDigit, decimal_from_appends, length-decimal-le_succ}
use borrow.Author.Tests.{lt-ltb, le-ltb, ltb-false}
use lib.Dec.{ltb}
use Rattle.texts.specs.Decimals.{digit, digits, decimal, labelled}

-- Two choices by one test are equal if their second parts are where it fails
cond_equal : (test : Bool) (first second other : List ℕ) → (test ≡ false → second ≡ other) → cond test first second ≡ cond test first other
cond_equal true first second other e = refl
cond_equal false first second other e = e refl

-- More digits allowed than a number counts make no difference
digits_settled : (more most number : ℕ) → number ≤ more → number ≤ most → digits more number ≡ digits most number
unfolding digits
digits_settled zero zero number h l = refl
digits_settled zero (suc most) number h l = simp (lt-ltb number 10 (omega arith))
digits_settled (suc more) zero number h l = simp (lt-ltb number 10 (omega arith))
digits_settled (suc more) (suc most) number h l =
    cond_equal (ltb number 10) _ _ _ (λ e.
    let ten = ltb-false number 10 e in
    ap (λ (front : List ℕ). front ++ (digit (number % 10) ∷ [])) (digits_settled more most (number / 10) (omega arith) (omega arith)))

-- The digits of a number below ten, and of any other
appends_last : AppendsLastDigit digits
unfolding digits
appends_last = record {
  one = λ k n h. simp (lt-ltb n 10 h);
  more = λ k n h. simp (le-ltb n 10 h);
}

-- What is printed of a number of 64 bits is its decimal text
pub printed_decimal : (number : ℕ) → number < 2 ^ 64 → printed.decimal number ≡ decimal number
unfolding decimal
printed_decimal number h =
    sym (digits_settled number (suc number) number (omega arith) (omega arith) ∙ decimal_from_appends digits appends_last (suc number) number h (omega (arith, length-decimal-le_succ number h)))

-- A label, and then what is printed of the number behind it
pub printed_behind : (label : List ℕ) (number : ℕ) → number < 2 ^ 64 → label ++ printed.decimal number ≡ labelled label number
unfolding labelled
printed_behind label number h = ap (λ (digits : List ℕ). label ++ digits) (printed_decimal number h)
