-- How many there are of each kind.
use Rattle.std.proofs.Common.{◌≡◌, ◌+◌, not, Bool, true, false, List, [], ◌∷◌, ◌++◌, length, refl, sym, ◌∙◌, ap, arith, count_by, cond, map}
use Rattle.std.proofs.lemmas.List.Sums.{sum_by-append, sum_by-cons}
use Rattle.std.proofs.lemmas.List.Elements.{All-append, All-nil, All-cons}
use Rattle.std.proofs.lemmas.List.{length-map, map-append}
use Rattle.acas_report_lines.specs.Report.{Ruled, AreRuled}
use Rattle.acas_report_lines.specs.Plan.{certified_in, reported_in}

pub count_by-append : {X : Type 0} (p : X → Bool) (xs ys : List X) → count_by p (xs ++ ys) ≡ count_by p xs + count_by p ys
count_by-append p xs ys = sum_by-append (λ x. cond (p x) 1 0) xs ys

pub count_by-never : {X : Type 0} (xs : List X) → count_by (λ x. false) xs ≡ 0
count_by-never [] = refl
count_by-never (x ∷ xs) = sum_by-cons (λ y. 0) x xs ∙ ap (λ n. 0 + n) (count_by-never xs)

pub certified-append : {N R : Type 0} (certified : R → Bool) (rs ss : List (Ruled N R)) → certified_in certified (rs ++ ss) ≡ certified_in certified rs + certified_in certified ss
unfolding certified_in
certified-append certified rs ss = count_by-append (λ r. certified r.ruling) rs ss

pub reported-append : {N R : Type 0} (certified : R → Bool) (rs ss : List (Ruled N R)) → reported_in certified (rs ++ ss) ≡ reported_in certified rs + reported_in certified ss
unfolding reported_in
reported-append certified rs ss = count_by-append (λ r. not (certified r.ruling)) rs ss

one_kind : (b : Bool) → cond b 1 0 + cond (not b) 1 0 ≡ 1
one_kind true = refl
one_kind false = refl

-- each ruling is of one kind
both_kinds : {X : Type 0} (p : X → Bool) (xs : List X) → count_by p xs + count_by (λ x. not (p x)) xs ≡ length xs
both_kinds p [] = omega arith
both_kinds p (x ∷ xs) =
    omega (
      arith,
      both_kinds p xs,
      sum_by-cons (λ y. cond (p y) 1 0) x xs,
      sum_by-cons (λ y. cond (not (p y)) 1 0) x xs,
      one_kind (p x),
    )

-- as many are counted as are ruled on
pub kinds_all : {N R : Type 0} (IsRulingOf : N → R → Type 0) (certified : R → Bool) (names : List N) (rs : List (Ruled N R)) → AreRuled IsRulingOf names rs → certified_in certified rs + reported_in certified rs ≡ length names
unfolding certified_in reported_in
kinds_all IsRulingOf certified names rs are =
    both_kinds (λ r. certified r.ruling) rs ∙ sym (length-map rs (λ r. r.name)) ∙ ap length are.all

-- rulings of one list and of the next
pub ruled_append : {N R : Type 0} (IsRulingOf : N → R → Type 0) (xs ys : List N) (rs ss : List (Ruled N R)) → AreRuled IsRulingOf xs rs → AreRuled IsRulingOf ys ss → AreRuled IsRulingOf (xs ++ ys) (rs ++ ss)
ruled_append IsRulingOf xs ys rs ss first then = record {
  all =
      map-append (λ r. r.name) rs ss
      ∙ ap (λ l. l ++ map (λ r. r.name) ss) first.all
      ∙ ap (λ l. xs ++ l) then.all;
  each = All-append (λ r. IsRulingOf r.name r.ruling) rs ss first.each then.each;
}

pub ruled_none : {N R : Type 0} (IsRulingOf : N → R → Type 0) → AreRuled IsRulingOf [] []
ruled_none IsRulingOf = record { all = refl; each = All-nil (λ r. IsRulingOf r.name r.ruling) }

pub ruled_one : {N R : Type 0} (IsRulingOf : N → R → Type 0) (name : N) (ruling : R) → IsRulingOf name ruling → AreRuled IsRulingOf (name ∷ []) (record { name = name; ruling = ruling } ∷ [])
ruled_one IsRulingOf name ruling is = record {
  all = refl;
  each = All-cons (λ r. IsRulingOf r.name r.ruling) (record { name = name; ruling = ruling }) [] is (All-nil (λ r. IsRulingOf r.name r.ruling));
}
