use Rattle.std.proofs.Common.{◌≡◌, ◌∙◌, Some, arith, refl}
use Rattle.acas_table_text.specs.Text.{entry_at}
use Rattle.acas_table.proofs.Found.{entry_good}
use Rattle.acas_table.proofs.Nexts.{next_checks, next_read}
use Rattle.acas_table.proofs.Standing.{stands_next}
use Rattle.acas_table.proofs.reader.TableReader.pass.Goals as goal

pub invariant_of-self : goal.invariant_of-self
invariant_of-self c =
    let r = c.args.self.now in
    let steps = c.pass.ensures.steps in
    let next = c.requires.next.1 in
    let reads = next_read r c.requires.next.0 next c.requires.not_done in
    record {
      limited = r.limited;
      sized = r.sized;
      count = omega (arith, c.requires.more);
      limit = steps.limit ∙ r.limit;
      expected = steps.expected ∙ r.expected;
      stands = λ sound more.
          stands_next r.format r.shape r.source c.pass.new.self r.given r.group r.place c.next-self.result r.limited r.sized c.requires.more (r.stands next.sound c.requires.not_done) (omega (arith, steps.place, reads.place)) (steps.mark ∙ reads.mark) c.next-self.ensures;
    }

pub returns-clause-given : goal.returns-clause-given
returns-clause-given c = λ entry next digest bytes stands.
    let found = next_checks c.args.self.now c.pass.new.self entry bytes next c.requires.not_done (c.pass.ensures.at bytes stands.source) stands.source stands.format in
    (found.1, found.0)

pub returns-clause-stands : goal.returns-clause-stands
returns-clause-stands c = λ digest bytes stands.
    let r = c.args.self.now in
    let next = c.requires.next.1 in
    entry_good (λ entry b. entry ≡ entry_at r.shape b r.given) (Some bytes) r _ c.requires.next.0 refl refl refl next.sound c.requires.not_done
    (λ at format. next_checks r c.pass.new.self c.requires.next.0 bytes next c.requires.not_done (c.pass.ensures.at bytes at) at format) digest stands
