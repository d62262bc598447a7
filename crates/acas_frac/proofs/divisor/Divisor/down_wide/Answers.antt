use Rattle.std.proofs.Common.{◌≡◌, ◌+◌, ◌-◌, ◌*◌, ◌/◌, ◌^◌, ◌<◌, ◌≤◌, ◌%◌, ℕ, ap, ap₂, ◌∙◌, arith}
use Rattle.std.proofs.lemmas.Nat.{pow_pos}
use Rattle.acas_frac.proofs.WideQuotients.{upper-le, rest-below, quotients-joined, unit_room, short_shift, upper_fits}
use Rattle.acas_frac.proofs.divisor.Divisor.down_wide.Goals as goal

-- the part below the quotient's upper digits, as it is formed
product : (c : goal.After-from) → c.from.result * 2 ^ (62 - c.from-lower.result) % 2 ^ 128 ≡ c.args.x / 2 ^ (62 - c.from-lower.result) / c.args.self.by * 2 ^ (62 - c.from-lower.result)
product c =
    ap (λ (n : ℕ). n * 2 ^ (62 - c.from-lower.result) % 2 ^ 128) (c.from.ensures ∙ c.down.ensures)
    ∙ upper_fits c.args.x (2 ^ (62 - c.from-lower.result)) c.args.self.by c.requires.divisor.some c.ranges.x.fits

multiple : (c : goal.After-from) →
    c.from.result * 2 ^ (62 - c.from-lower.result) % 2 ^ 128 * c.from-by.result
    ≡ c.args.x / 2 ^ (62 - c.from-lower.result) / c.args.self.by * 2 ^ (62 - c.from-lower.result) * c.args.self.by
multiple c = ap₂ (λ (a b : ℕ). a * b) (product c) c.from-by.ensures

small : (c : goal.After-from) → c.from.result * 2 ^ (62 - c.from-lower.result) % 2 ^ 128 * c.from-by.result ≤ c.args.x
small c = omega (arith, multiple c, upper-le c.args.x (2 ^ (62 - c.from-lower.result)) c.args.self.by c.requires.divisor.some)

room : (c : goal.After-from) → c.args.x - c.from.result * 2 ^ (62 - c.from-lower.result) % 2 ^ 128 * c.from-by.result < 2 ^ 63
room c =
    let is = c.requires.divisor in
    let s : ℕ = c.from-lower.result in
    let rest = rest-below c.args.x (2 ^ (62 - s)) c.args.self.by is.some (pow_pos (62 - s)) in
    let few = short_shift c.args.self.by c.args.self.shift is.least c.requires.by in
    let most = unit_room c.args.self.by c.args.self.shift is.below few in
    let same : c.args.self.by * 2 ^ (62 - s) ≡ c.args.self.by * 2 ^ (62 - c.args.self.shift) = ap (λ (n : ℕ). c.args.self.by * 2 ^ (62 - n)) c.from-lower.ensures in
    omega (arith, multiple c, rest, most, same)

pub overflow_mul-rest : goal.overflow_mul-rest
overflow_mul-rest c = omega (arith, small c, c.ranges.x.fits)

pub overflow_sub-rest : goal.overflow_sub-rest
overflow_sub-rest c = small c

pub overflow_cast-rest : goal.overflow_cast-rest
overflow_cast-rest c = omega (arith, room c)

pub down-requires-2-clause-room : goal.down-requires-2-clause-room
down-requires-2-clause-room c = room c

pub returns : goal.returns
returns c =
    let rest : c.from-2.result ≡ (c.args.x - c.args.x / 2 ^ (62 - c.from-lower.result) / c.args.self.by * 2 ^ (62 - c.from-lower.result) * c.args.self.by) / c.args.self.by =
    c.from-2.ensures ∙ c.down-2.ensures ∙ ap (λ (n : ℕ). (c.args.x - n) / c.args.self.by) (multiple c.before.before) in
    ap₂ (λ (a b : ℕ). a + b) (product c.before.before) rest ∙ quotients-joined c.args.x (2 ^ (62 - c.from-lower.result)) c.args.self.by c.requires.divisor.some
