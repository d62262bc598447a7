use Rattle.std.proofs.Common.{◌≡◌, ◌≤◌, ℕ, pos, ◌≤ℤ◌, ◌<ℤ◌, ℤ, to_z, of_z, Bool, true, false, not, refl, arith}
use Rattle.std.specs.Prelude.{IsTrue, ◌↔◌}
use Rattle.std.specs.Int.{w64}
use Rattle.std.proofs.lemmas.Int.{ints, clamps}
use Rattle.acas_units.specs.declared.limits.TheConstants.{GREATEST_RADIUS}
use Rattle.acas_replay.specs.Contact.{HasContact}
use Rattle.acas_replay.specs.Seconds.{IsSecond, near_fractions}
use Rattle.acas_replay.specs.Parabola.{AreFractions, ComesInside, StaysOutside}
use Rattle.acas_replay.specs.declared.parabola.Fractions.{Fractions}
use Rattle.acas_replay.specs.declared.parabola.Parabola.{Parabola}
use Rattle.acas_replay.specs.declared.second.Second.{Second}
use Rattle.acas_replay.specs.declared.second.TheConstants.{LARGEST_ALTITUDE, LARGEST_CHANGE, LARGEST_RATE}
use Rattle.acas_replay.proofs.Casts.{whole}
use Rattle.acas_replay.proofs.SecondContacts.{none_near, none_outside, parabola_of, some_inside}
use Rattle.acas_replay.proofs.contact.has_contact.Goals as goal

never : {A : Type 0} → false ≡ true → A
never e = let bad : ⊥ = cc in absurd bad

-- from both outcomes of the test
by_outcome : (b : Bool) (out inside contact : Type 0) → (b ≡ true → out) → (b ≡ false → inside) → (out → contact → ⊥) → (inside → contact) → IsTrue (not b) ↔ contact
by_outcome true out inside contact f g h k = (λ x. never x, λ e. absurd (h (f refl) e))
by_outcome false out inside contact f g h k = (λ x. k (g refl), λ e. refl)

-- where some fractions are near, they are over few parts
near_are_fractions : (radius : ℕ) (s : Second) → radius ≤ GREATEST_RADIUS → IsSecond s → (near_fractions radius s).first ≤ℤ (near_fractions radius s).last → AreFractions (near_fractions radius s)
near_are_fractions radius s few small order =
    let closing = small.closing in
    let range = small.range in
    record {
      some = small.some_closing;
      parts = small.closing;
      first = omega (arith, ints, clamps);
      last = omega (arith, ints, clamps);
      order = order;
    }

pub returns-then-during : goal.returns-then-during
returns-then-during c =
    let s = c.args.second.now in
    let order : c.near_fractions-during.result.last <ℤ c.near_fractions-during.result.first = omega (arith, ints, c.if-during.true) in
    (λ x. never x, λ e. absurd (none_near c.args.radius c.args.half s c.requires.second.some_closing (rw c.near_fractions-during.ensures at order) e))

pub stays_outside-requires-clause-during : goal.stays_outside-requires-clause-during
stays_outside-requires-clause-during c =
    let order : c.near_fractions-during.result.first ≤ℤ c.near_fractions-during.result.last = omega (arith, ints, c.if-during.false) in
    rw c.near_fractions-during.ensures
    (near_are_fractions c.args.radius c.args.second.now c.requires.radius c.requires.second (rw c.near_fractions-during.ensures at order))

same_parabola : {h d b h' d' b' : ℤ} → h ≡ h' → d ≡ d' → b ≡ b' →
    (let p : Parabola = record { level = h; slope = d; bend = b } in p) ≡ (let p : Parabola = record { level = h'; slope = d'; bend = b' } in p)
same_parabola e f g = rw (e, f, g) refl

-- a fact about the parabola and the fractions as the call gives them
as_called : {g g' : ℤ} {p p' : Parabola} {f f' : Fractions} (P : ℤ → Parabola → Fractions → Type 0) → g ≡ g' → p ≡ p' → f ≡ f' → P g p f → P g' p' f'
as_called P g p f h = rw (g, p, f) at h

pub returns : goal.returns
returns c =
    let s = c.args.second.now in
    let half : to_z w64 (of_z w64 c.from.result) ≡ pos c.args.half = omega (arith, ints, c.from.ensures) in
    let level = whole s.altitude LARGEST_ALTITUDE c.requires.second.altitude (omega arith) in
    let slope = whole s.rate LARGEST_RATE c.requires.second.rate (omega arith) in
    let bend = whole s.change LARGEST_CHANGE c.requires.second.change (omega arith) in
    by_outcome c.stays_outside.result
    (StaysOutside (pos c.args.half) (parabola_of s) (near_fractions c.args.radius s))
    (ComesInside (pos c.args.half) (parabola_of s) (near_fractions c.args.radius s))
    (HasContact c.args.radius c.args.half s)
    (λ x. as_called StaysOutside half (same_parabola level slope bend) c.near_fractions-during.ensures (c.stays_outside.ensures.apart x))
    (λ x. as_called ComesInside half (same_parabola level slope bend) c.near_fractions-during.ensures (c.stays_outside.ensures.meets x))
    (none_outside c.args.radius c.args.half s c.requires.second.some_closing)
    (some_inside c.args.radius c.args.half s c.requires.second.some_closing c.requires.some_half)
