use Rattle.std.proofs.Common.{ℕ, zero, suc, List, [], ◌∷◌, Bool, true, false, cond, ◌&&◌, ◌<◌, nat_eq, Contains, refl, arith}
use Rattle.acas_spec.specs.declared.place.Vertex.{Vertex}
use Rattle.acas_process.specs.Cost.{MayChoose}
use Rattle.acas_trajectories.specs.Memory.{GridState}
use Rattle.acas_examples.specs.Models.{levelling}
use Rattle.acas_examples.specs.Policies.{level_after_low, was_low}
use Rattle.acas_examples.proofs.trajectories.memory_goes_back_to_the_start.Goals as goal

-- clear and level may both be chosen under clear
either_is_listed : (b : Bool) → Contains {X = ℕ} (0 ∷ 1 ∷ []) (cond b 1 0)
either_is_listed true = (1, omega arith, refl)
either_is_listed false = (0, omega arith, refl)

clear_is_listed : Contains {X = ℕ} (0 ∷ []) 0
clear_is_listed = (0, omega arith, refl)

may_choose : (earlier : List GridState) (n p : ℕ) → p < 2 → (x : Vertex) → MayChoose levelling p (level_after_low earlier n p x)
may_choose earlier n zero h x = either_is_listed (nat_eq n 1 && was_low earlier)
may_choose earlier n (suc zero) h x = clear_is_listed
may_choose earlier n (suc (suc p)) h x = absurd (omega (arith, h))

pub returns-clause-policy : goal.returns-clause-policy
returns-clause-policy c = record { allowed = λ earlier. record { allowed = λ n p x some at. may_choose earlier n p at.present x } }
