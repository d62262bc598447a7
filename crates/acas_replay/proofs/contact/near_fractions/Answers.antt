use Rattle.std.proofs.Common.{◌≡◌, ◌∙◌, refl, ℤ, pos, ◌+ℤ◌, ◌-ℤ◌, arith}
use Rattle.std.specs.Int.{int_max, int_min}
use Rattle.std.proofs.lemmas.Int.{ints, clamps}
use Rattle.acas_units.specs.declared.limits.TheConstants.{GREATEST_CLOSING}
use Rattle.acas_replay.specs.declared.parabola.Fractions.{Fractions}
use Rattle.acas_replay.proofs.Casts.{fits, whole}
use Rattle.acas_replay.proofs.contact.near_fractions.Goals as goal

same_fractions : {n x y n' x' y' : ℤ} → n ≡ n' → x ≡ x' → y ≡ y' →
    (let f : Fractions = record { parts = n; first = x; last = y } in f) ≡ (let f : Fractions = record { parts = n'; first = x'; last = y' } in f)
same_fractions e f g = rw (e, f, g) refl

pub returns : goal.returns
returns c =
    let s = c.args.second.now in
    let parts = whole s.closing GREATEST_CLOSING c.requires.second.closing (omega arith) in
    let first : c.max.result ≡ int_max (s.range -ℤ pos c.args.radius) (pos 0) = omega (arith, ints, clamps, c.max.ensures.value) in
    let last : c.min.result ≡ int_min (s.range +ℤ pos c.args.radius) s.closing = omega (arith, ints, clamps, c.min.ensures.value) in
    same_fractions parts (fits c.max.result c.max.type_inv ∙ first) (fits c.min.result c.min.type_inv ∙ last)
