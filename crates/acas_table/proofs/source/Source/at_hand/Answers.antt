use Rattle.std.proofs.Common.{take, drop, ◌∙◌, ap, arith, List, ℕ}
use Rattle.acas_table_text.specs.Format.{part}
use Rattle.acas_table.proofs.Ahead.{at_hand_first}
use Rattle.acas_table.proofs.source.Source.at_hand.Goals as goal

pub returns-clause-is : goal.returns-clause-is
returns-clause-is c =
    ap (λ (m : ℕ). take m (drop c.args.self.now.from c.deref.result.now)) (omega arith)
    ∙ ap (λ (l : List ℕ). part l c.args.self.now.from c.args.count) c.deref.ensures.value

pub returns-clause-value : goal.returns-clause-value
returns-clause-value c = λ bytes stands. returns-clause-is c ∙ at_hand_first c.args.self.now bytes c.args.count c.requires stands
