use Rattle.std.proofs.Common.{◌+◌, ◌/◌, ◌≤◌, ◌<◌, ◌≡◌, ◌∙◌, ap, sym, arith, length, ℕ}
use Rattle.std.specs.Fmt.{decimal}
use Rattle.itoa.proofs.Decimal.{length_one, length_two, length_pair}
use Rattle.acas_outside.proofs.line.short_count.Goals as goal

-- the digits below a hundred, and the two above
three : (n : ℕ) → 100 ≤ n → n < 1000 → length (decimal n) ≡ 3
three n least most = length_pair n least (omega (arith, most)) ∙ ap (λ (k : ℕ). k + 2) (length_one (n / 100) (omega (arith, most)))

four : (n : ℕ) → 1000 ≤ n → n < 10000 → length (decimal n) ≡ 4
four n least most = length_pair n (omega (arith, least)) (omega (arith, most)) ∙ ap (λ (k : ℕ). k + 2) (length_two (n / 100) (omega (arith, least)) (omega (arith, most)))

pub returns-then-n-ge1000 : goal.returns-then-n-ge1000
returns-then-n-ge1000 c = sym (four c.args.n c.if-n-ge1000.true c.requires)

pub returns-else-n-ge1000 : goal.returns-else-n-ge1000
returns-else-n-ge1000 c = sym (three c.args.n c.if-n-ge100.true c.if-n-ge1000.false)

pub returns-then-n-ge10 : goal.returns-then-n-ge10
returns-then-n-ge10 c = sym (length_two c.args.n c.if-n-ge10.true c.if-n-ge100.false)

pub returns-else-n-ge10 : goal.returns-else-n-ge10
returns-else-n-ge10 c = sym (length_one c.args.n c.if-n-ge10.false)
