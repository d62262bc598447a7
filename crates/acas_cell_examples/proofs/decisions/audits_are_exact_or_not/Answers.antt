use Rattle.std.proofs.Common.{◌≡◌, ℕ, zero, suc, ◌<◌, ◌||◌, nat_eq, [], ◌∷◌, false, true≢false, pos, refl, sym, ◌∙◌, arith, rules}
use Rattle.std.specs.Int.{bit_at}
use Rattle.std.proofs.lemmas.Bool.Decides.{nat_tests}
use Rattle.std.proofs.lemmas.Nat.Bits.{bit_at-suc, bit_at-zero}
use Rattle.acas_flight.specs.Contact.{IsEndangeredCell}
use Rattle.acas_flight_examples.specs.Numbers.{state}
use Rattle.acas_cells.specs.Cells.{cell_at}
use Rattle.acas_cells.specs.Corners.{is_advised}
use Rattle.acas_cells.specs.Sets.{holds}
use Rattle.acas_audit_blocks.specs.Audits.{AreExact, BlockAuditData, certified_at, reported_at, sets_at}
use Rattle.acas_cell_examples.specs.Tabled.{audit_of, sets_of, stacked, tabled}
use Rattle.acas_cell_examples.proofs.Decided.{first_second}
use Rattle.acas_cell_examples.proofs.decisions.audits_are_exact_or_not.Goals as goal

-- where the puck's lower edge is
upper_cell : IsEndangeredCell stacked 0 1 0 0 1
upper_cell = (1, state (pos 500) (pos 250) (pos 120) (pos 0) (pos 0), [], search rules)

abbrev both : BlockAuditData
both = audit_of (sets_of 0 2 ∷ sets_of 0 2 ∷ [])

exact : (i j k advice : ℕ) → i < 2 → j < 1 → k < 1 → advice < 2 → AreExact stacked tabled 0 0 i j k advice (sets_at both i j k)
exact zero zero zero zero a b c d = record {
  certified = (λ e. absurd (true≢false (sym e)), λ p. absurd (true≢false (sym p.0)));
  reported = (λ e. absurd (true≢false (sym e)), λ p. absurd (true≢false (sym p.0)));
}
exact zero zero zero (suc zero) a b c d = record {
  certified = (λ e. absurd (true≢false (sym e)), λ p. absurd (p.1 first_second));
  reported = (λ e. (refl, first_second), λ p. refl);
}
exact (suc zero) zero zero zero a b c d = record {
  certified = (λ e. absurd (true≢false (sym e)), λ p. absurd (true≢false (sym p.0)));
  reported = (λ e. absurd (true≢false (sym e)), λ p. absurd (true≢false (sym p.0)));
}
exact (suc zero) zero zero (suc zero) a b c d = record {
  certified = (λ e. absurd (true≢false (sym e)), λ p. absurd (p.1 upper_cell));
  reported = (λ e. (refl, upper_cell), λ p. refl);
}
exact (suc (suc i)) j k advice a b c d = absurd (omega (arith, a))
exact i (suc j) k advice a b c d = absurd (omega (arith, b))
exact i j (suc k) advice a b c d = absurd (omega (arith, c))
exact i j k (suc (suc advice)) a b c d = absurd (omega (arith, d))

-- no bit past the second is set
past_the_bits : (n : ℕ) → (holds (sets_of 0 2).certified (suc (suc n)) || holds (sets_of 0 2).reported (suc (suc n))) ≡ false
past_the_bits n =
    let none : bit_at 0 (suc (suc n)) ≡ 0 = bit_at-zero (suc (suc n)) in
    let last : bit_at 2 (suc (suc n)) ≡ 0 = bit_at-suc 2 (suc n) ∙ bit_at-suc 1 n ∙ bit_at-zero n in
    rw (none, last) refl

not_zero : (n : ℕ) → nat_eq (suc (suc n)) 0 ≡ false
not_zero n = grind (arith, nat_tests)

not_one : (n : ℕ) → nat_eq (suc (suc n)) 1 ≡ false
not_one n = grind (arith, nat_tests)

lower_unadvised : (n : ℕ) → is_advised stacked tabled (cell_at 0 0 0 0 0) (suc (suc n)) ≡ false
lower_unadvised n = rw (not_zero n, not_one n) refl

upper_unadvised : (n : ℕ) → is_advised stacked tabled (cell_at 0 0 1 0 0) (suc (suc n)) ≡ false
upper_unadvised n = rw (not_zero n, not_one n) refl

in_sets : (i j k advice : ℕ) → i < 2 → j < 1 → k < 1 → (holds (certified_at both i j k) advice || holds (reported_at both i j k) advice) ≡ is_advised stacked tabled (cell_at 0 0 i j k) advice
in_sets zero zero zero zero a b c = refl
in_sets zero zero zero (suc zero) a b c = refl
in_sets zero zero zero (suc (suc advice)) a b c = past_the_bits advice ∙ sym (lower_unadvised advice)
in_sets (suc zero) zero zero zero a b c = refl
in_sets (suc zero) zero zero (suc zero) a b c = refl
in_sets (suc zero) zero zero (suc (suc advice)) a b c = past_the_bits advice ∙ sym (upper_unadvised advice)
in_sets (suc (suc i)) j k advice a b c = absurd (omega (arith, a))
in_sets i (suc j) k advice a b c = absurd (omega (arith, b))
in_sets i j (suc k) advice a b c = absurd (omega (arith, c))

pub returns-clause-both : goal.returns-clause-both
returns-clause-both c = record {
  sets = refl;
  exact = λ i j k advice cell known. exact i j k advice (omega (arith, cell.i)) (omega (arith, cell.j)) (omega (arith, cell.k)) known;
  tabled = λ i j k advice cell. in_sets i j k advice (omega (arith, cell.i)) (omega (arith, cell.j)) (omega (arith, cell.k));
}

pub returns-clause-one_left_out : goal.returns-clause-one_left_out
returns-clause-one_left_out c a = omega (arith, a.sets)

pub returns-clause-one_too_many : goal.returns-clause-one_too_many
returns-clause-one_too_many c a = omega (arith, a.sets)

pub returns-clause-one_certified : goal.returns-clause-one_certified
returns-clause-one_certified c a = ((a.exact 1 0 0 1 (search rules) (omega arith)).certified.0 refl).1 upper_cell

pub returns-clause-no_such_advice : goal.returns-clause-no_such_advice
returns-clause-no_such_advice c a = true≢false (a.tabled 1 0 0 2 (search rules))
