-- An entry has no fault exactly where it is sound.
use Rattle.std.proofs.Common.{◌≡◌, ◌↔◌, ℕ, zero, suc, ◌<◌, ℤ, ◌≤ℤ◌, ◌<ℤ◌, Bool, true, false, cond, Option, Some, None, int_lt, refl, arith}
use Rattle.std.proofs.lemmas.Int.{ints}
use Rattle.acas_spec.specs.Limits.{IsModel}
use Rattle.acas_spec.specs.Model.{ModelData, choices_at}
use Rattle.acas_spec.specs.Table.{Table}
use Rattle.acas_spec.specs.declared.place.Vertex.{Vertex}
use Rattle.acas_policies.specs.Bounds.{IsSoundEntry, lower_value}
use Rattle.acas_process.proofs.Least.{le-least, least-le}
use Rattle.acas_bounds.specs.Sound.{allowed_lower, bound_fault, is_allowed, needed_upper, values_fault}
use Rattle.acas_spec.specs.declared.fault.BoundFault.{BoundFault}
use Rattle.acas_spec.specs.declared.fault.BoundFault.TheVariants.{AdviceNotAllowed}
use Rattle.acas_bounds.proofs.Allowed.{is_allowed-is}

pub lt-false : (x y : ℤ) → y ≤ℤ x → int_lt x y ≡ false
lt-false x y h = grind (arith, ints)

pub lt-true : (x y : ℤ) → x <ℤ y → int_lt x y ≡ true
lt-true x y h = grind (arith, ints)

pub le-of_lt : (x y : ℤ) → int_lt x y ≡ false → y ≤ℤ x
le-of_lt x y h = grind (arith, ints)

pub lt-of_lt : (x y : ℤ) → int_lt x y ≡ true → x <ℤ y
lt-of_lt x y h = grind (arith, ints)

-- the two tests of the values, by the outcome of each
neither_fails : (low high : Bool) (a b : BoundFault) → cond low (Some a) (cond high (Some b) None) ≡ None → (low ≡ false) × (high ≡ false)
neither_fails true high a b h = cc
neither_fails false true a b h = cc
neither_fails false false a b h = (refl, refl)

pub values_stand : (upper needed lower allowed : ℤ) → values_fault upper needed lower allowed ≡ None → (needed ≤ℤ upper) × (lower ≤ℤ allowed)
values_stand upper needed lower allowed h =
    let tests = neither_fails (int_lt upper needed) (int_lt allowed lower) _ _ h in
    (le-of_lt upper needed tests.0, le-of_lt allowed lower tests.1)

pub values_pass : (upper needed lower allowed : ℤ) → needed ≤ℤ upper → lower ≤ℤ allowed → values_fault upper needed lower allowed ≡ None
values_pass upper needed lower allowed h k = rw (lt-false upper needed h, lt-false allowed lower k) refl

-- what a choice between a fault and the rest leaves
pub passes : (allowed : Bool) (rest : Option BoundFault) (a : BoundFault) → cond allowed rest (Some a) ≡ None → (allowed ≡ true) × (rest ≡ None)
passes true rest a h = (refl, h)
passes false rest a h = cc

sound_of_none : (m : ModelData) (t : Table) (n p : ℕ) (x : Vertex) → bound_fault m t n p x ≡ None → IsSoundEntry m t n p x
sound_of_none m t zero p x h =
    let values = values_stand (t.upper 0 p x) (needed_upper m t 0 p x) (t.lower 0 p x) (allowed_lower m t 0 p x) h in
    (values.1, values.0)
sound_of_none m t (suc n) p x h =
    let parts = passes (is_allowed m p (t.advice (suc n) p x)) _ AdviceNotAllowed h in
    let values = values_stand (t.upper (suc n) p x) (needed_upper m t (suc n) p x) (t.lower (suc n) p x) (allowed_lower m t (suc n) p x) parts.1 in
    ((is_allowed-is m p (t.advice (suc n) p x)).0 parts.0, values.0, λ a chosen. omega (arith, ints, values.1, least-le (lower_value m (t.lower n) p x) (choices_at m p) a chosen))

none_of_sound : (m : ModelData) (t : Table) (n p : ℕ) (x : Vertex) → IsModel m → p < m.grid.advisories → IsSoundEntry m t n p x → bound_fault m t n p x ≡ None
none_of_sound m t zero p x valid known sound = values_pass (t.upper 0 p x) (needed_upper m t 0 p x) (t.lower 0 p x) (allowed_lower m t 0 p x) sound.1 sound.0
none_of_sound m t (suc n) p x valid known sound =
    rw ((is_allowed-is m p (t.advice (suc n) p x)).1 sound.0)
    (values_pass (t.upper (suc n) p x) (needed_upper m t (suc n) p x) (t.lower (suc n) p x) (allowed_lower m t (suc n) p x) sound.1
    (le-least (lower_value m (t.lower n) p x) (choices_at m p) (t.lower (suc n) p x) (valid.choices p known).some sound.2))

pub no_fault-is : (m : ModelData) (t : Table) (n p : ℕ) (x : Vertex) → IsModel m → p < m.grid.advisories → (bound_fault m t n p x ≡ None) ↔ IsSoundEntry m t n p x
no_fault-is m t n p x valid known = (sound_of_none m t n p x, none_of_sound m t n p x valid known)
