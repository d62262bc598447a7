-- The word that names a number is its decimal text.
use Rattle.std.proofs.Common.{◌≡◌, ℕ, ◌<◌, ◌≤◌, ◌^◌, Bool, true, false, ◌&&◌, cond, List, Option, Some, None, Result, Ok, refl, ◌∙◌, ap, arith}
use Rattle.std.proofs.lemmas.Bool.{and_from, and_parts, le-leb, leb-true}
use Rattle.std.proofs.lemmas.Fmt.{digits_value-decimal, parse-decimal}
use Rattle.std.proofs.lemmas.Slice.Eq.{bytes_eq-Decides}
use Rattle.std.proofs.lemmas.Str.Parse.{numerals_by_value, tells_digits}
use Rattle.std.specs.Fmt.{decimal}
use Rattle.std.specs.Prelude.{nat_le}
use Rattle.std.specs.Str.{bytes_eq}
use Rattle.std.specs.Str.Parse.{AllDigits, ParsesUnsigned, digits_value}
use Rattle.acas_drill_model.specs.Word.{names_number, number_within}

by_test : (b : Bool) (n k : ℕ) → cond b (Some n) None ≡ Some k → (b ≡ true) × (n ≡ k)
by_test true n k e = (refl, cc e)
by_test false n k e = absurd (cc e)

-- a number that a word names is within its limits, and the word is its text
pub record IsNamed (least greatest : ℕ) (word : List ℕ) (number : ℕ) : Type 0 where
  pub low : least ≤ number
  pub high : number ≤ greatest
  pub text : word ≡ decimal number

pub named : (least greatest : ℕ) (word : List ℕ) (number : ℕ) → number_within least greatest word ≡ Some number → IsNamed least greatest word number
unfolding number_within
named least greatest word number is =
    let n : ℕ = digits_value 10 word in
    let t = by_test (bytes_eq word (decimal n) && (nat_le least n && nat_le n greatest)) n number is in
    let both = and_parts (bytes_eq word (decimal n)) (nat_le least n && nat_le n greatest) t.0 in
    let limits = and_parts (nat_le least n) (nat_le n greatest) both.1 in
    let at_least : least ≤ n = leb-true least n limits.0 in
    let at_most : n ≤ greatest = leb-true n greatest limits.1 in
    record {
      low = omega (arith, at_least, t.1);
      high = omega (arith, at_most, t.1);
      text = (bytes_eq-Decides word (decimal n)).0 both.0 ∙ ap decimal t.1;
    }

pub names : (least greatest : ℕ) (word : List ℕ) (number : ℕ) → number < 2 ^ 32 → IsNamed least greatest word number → number_within least greatest word ≡ Some number
unfolding number_within
names least greatest word number small is =
    let value : digits_value 10 word ≡ number = ap (digits_value 10) is.text ∙ digits_value-decimal (numerals_by_value (AllDigits 10) tells_digits) number (omega (arith, small)) in
    let limits : (nat_le least number && nat_le number greatest) ≡ true = and_from (nat_le least number) (nat_le number greatest) (le-leb least number is.low) (le-leb number greatest is.high) in
    let test : (bytes_eq word (decimal number) && (nat_le least number && nat_le number greatest)) ≡ true =
    and_from (bytes_eq word (decimal number)) (nat_le least number && nat_le number greatest) ((bytes_eq-Decides word (decimal number)).1 is.text) limits in
    ap (names_number least greatest word) value ∙ ap (λ (b : Bool). cond b (Some number) None) test

-- a word that is no number's decimal text names none
pub names-none : (least greatest : ℕ) (word : List ℕ) → ((number : ℕ) → IsNamed least greatest word number → ⊥) → number_within least greatest word ≡ None
names-none least greatest word never = by_answer (number_within least greatest word) (λ k is. never k (named least greatest word k is))
  where
    by_answer : (o : Option ℕ) → ((k : ℕ) → o ≡ Some k → ⊥) → o ≡ None
    by_answer None h = refl
    by_answer (Some k) h = absurd (h k refl)

-- the decimal text of a number of 32 bits is parsed as it
pub parsed : {E : Type 0} (word : List ℕ) (number : ℕ) (r : Result ℕ E) → number < 2 ^ 32 → word ≡ decimal number → ParsesUnsigned 32 10 word r → r ≡ Ok number
parsed word number r small text parse = parse-decimal 32 number word r (omega (arith, small)) (omega (arith, small)) text parse
