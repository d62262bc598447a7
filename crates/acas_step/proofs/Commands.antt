-- The own command by its cases, and the moved point by its parts.
use Rattle.std.proofs.Common.{◌≡◌, ◌≤◌, ℕ, ℤ, unsigned_abs, w64, pos, neg_ℤ, ◌+ℤ◌, ◌-ℤ◌, ◌≤ℤ◌, ◌<ℤ◌, true, false, int_lt, arith, ap, ◌∙◌}
use Rattle.std.proofs.lemmas.Int.{clamps, ints}
use Rattle.std.specs.Int.{int_min}
use mir.Val.{SFits}
use Rattle.acas_spec.specs.Model.{ModelData, advisory_at, sigma_at}
use Rattle.acas_spec.specs.declared.parts.SigmaPoint.{SigmaPoint}
use Rattle.acas_spec.specs.declared.place.Point.{Point}
use Rattle.acas_spec.specs.declared.place.Vertex.{Vertex}
use Rattle.acas_process.specs.Step.{after_second, command, vertex_point}
use Rattle.acas_step.specs.Second.{led_past}

test-true : (x b : ℤ) → x <ℤ b → int_lt x b ≡ true
test-true x b h = grind (arith, ints)

test-false : (x b : ℤ) → b ≤ℤ x → int_lt x b ≡ false
test-false x b h = grind (arith, ints)

-- the lesser of two numbers is no larger than the larger
pub int_min-small : (x y least : ℤ) (most : ℕ) → least ≡ int_min x y → unsigned_abs x ≤ most → unsigned_abs y ≤ most → unsigned_abs least ≤ most
int_min-small x y least most e h k = omega (arith, ints, clamps)

-- a small number fits 64 bits, and so does its negation
pub SFits-small : (x : ℤ) → unsigned_abs x ≤ 20_000 → SFits w64 x × SFits w64 (pos 0 -ℤ x)
SFits-small x h = (omega (arith, ints), omega (arith, ints))

-- above hi the rate falls
pub command_above : (lo hi pull v fall r : ℤ) → lo ≤ℤ v → hi <ℤ v → fall ≡ int_min pull (v -ℤ hi) → r ≡ pos 0 -ℤ fall → r ≡ command lo hi pull v
command_above lo hi pull v fall r h k e f = rw (test-false v lo h, test-true hi v k) (omega (arith, ints, f, ap (λ z. neg_ℤ z) e))

pub point-same : {h h' v0 v0' v1 v1' : ℤ} → h ≡ h' → v0 ≡ v0' → v1 ≡ v1' → ◌≡◌ {A = Point} (record { h = h; v0 = v0; v1 = v1 }) (record { h = h'; v0 = v0'; v1 = v1' })
point-same p q r = cc

pub led_past-is : (m : ModelData) (x : Vertex) (a q : ℕ) (from : Point) (n : SigmaPoint) (own : ℤ) (to : Point) →
    from ≡ vertex_point m.grid x → n ≡ sigma_at m q → own ≡ command (advisory_at m a).lo (advisory_at m a).hi (pos m.pull) from.v0 +ℤ n.own → to ≡ after_second from own n.intruder → to ≡ led_past m x a q
led_past-is m x a q from n own to e f g h =
    let start : Point = vertex_point m.grid x in
    let rule : ℤ → ℤ = λ v. command (advisory_at m a).lo (advisory_at m a).hi (pos m.pull) v in
    h ∙ ap (λ z. after_second z own n.intruder) e
    ∙ ap (λ w. after_second start w n.intruder) (g ∙ ap (λ (z : Point). rule z.v0 +ℤ n.own) e ∙ ap (λ (z : SigmaPoint). rule start.v0 +ℤ z.own) f)
    ∙ ap (λ (z : SigmaPoint). after_second start (rule start.v0 +ℤ (sigma_at m q).own) z.intruder) f
