use Rattle.std.proofs.Common.{◌≡◌, ◌∙◌, ap, ap₂, subst, inr, ℕ, ◌+◌, ◌≤◌, pos, ◌-ℤ◌, ℤ, unsigned_abs, to_z, of_z, arith, rules}
use Rattle.std.specs.Int.{w64}
use Rattle.std.proofs.lemmas.Int.{ints}
use Rattle.acas_replay.specs.Parabola.{ComesDown, IsSmall, StaysAbove, lowered, turned}
use Rattle.acas_replay.specs.declared.parabola.Parabola.{Parabola}
use Rattle.acas_replay.specs.declared.parabola.TheConstants.{LARGEST_LEVEL}
use Rattle.acas_replay.proofs.Casts.{whole}
use Rattle.acas_replay.proofs.parabola.Parabola.stays_outside.Goals as goal

half_is : (n : ℕ) (half : ℤ) → n + unsigned_abs half ≤ LARGEST_LEVEL → to_z w64 (of_z w64 half) ≡ half
half_is n half room = whole half LARGEST_LEVEL (omega arith) (omega arith)

opposite : (x : ℤ) → unsigned_abs (pos 0 -ℤ x) ≡ unsigned_abs x
opposite x = omega (arith, ints)

turned-small : (p : Parabola) → IsSmall p → IsSmall (turned p)
turned-small p small = record { level = rw opposite small.level; slope = rw opposite small.slope; bend = rw opposite small.bend }

lowered-small : (p : Parabola) (half : ℤ) → IsSmall p → unsigned_abs p.level + unsigned_abs half ≤ LARGEST_LEVEL → IsSmall (lowered p half)
lowered-small p half small room = record { level = size p.level half room; slope = small.slope; bend = small.bend }
  where
    size : (x y : ℤ) → unsigned_abs x + unsigned_abs y ≤ LARGEST_LEVEL → unsigned_abs (x -ℤ y) ≤ LARGEST_LEVEL
    size x y h = omega (arith, ints)

pub lowered-requires : goal.lowered-requires
lowered-requires c = record { level = rw (half_is _ c.args.half c.requires.room) c.requires.room }

pub stays_above-requires : goal.stays_above-requires
stays_above-requires c =
    let top = c.lowered.ensures ∙ ap (lowered c.args.self.now) (half_is _ c.args.half c.requires.room) in
    record { small = rw top (lowered-small _ c.args.half c.requires.small c.requires.room); during = c.requires.during }

pub returns-then-stays_above-clause-apart : goal.returns-then-stays_above-clause-apart
returns-then-stays_above-clause-apart c = search rules

pub lowered-requires-2 : goal.lowered-requires-2
lowered-requires-2 c = record { level = rw (c.turned.ensures, half_is _ c.args.half c.requires.room, opposite) c.requires.room }

pub stays_above-requires-2 : goal.stays_above-requires-2
stays_above-requires-2 c =
    let p = c.args.self.now in
    let bottom = c.lowered-2.ensures ∙ ap₂ lowered c.turned.ensures (half_is _ c.args.half c.requires.room) in
    record { small = rw bottom (lowered-small (turned p) c.args.half (turned-small p c.requires.small) (rw opposite c.requires.room)); during = c.requires.during }

pub returns-clause-apart : goal.returns-clause-apart
returns-clause-apart c =
    let bottom = c.lowered-2.ensures ∙ ap₂ lowered c.turned.ensures (half_is _ c.args.half c.requires.room) in
    λ x. inr (subst (λ (p : Parabola). StaysAbove p c.args.during.now) bottom (c.stays_above-2.ensures.above x))

pub returns-clause-meets : goal.returns-clause-meets
returns-clause-meets c =
    let top = c.lowered.ensures ∙ ap (lowered c.args.self.now) (half_is _ c.args.half c.requires.room) in
    let bottom = c.lowered-2.ensures ∙ ap₂ lowered c.turned.ensures (half_is _ c.args.half c.requires.room) in
    λ x. (
      subst (λ (p : Parabola). ComesDown p c.args.during.now) top (c.stays_above.ensures.down c.if-stays_above.false),
      subst (λ (p : Parabola). ComesDown p c.args.during.now) bottom (c.stays_above-2.ensures.down x),
    )
