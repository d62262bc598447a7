use Rattle.std.proofs.Common.{◌≡◌, ℕ, ◌+◌, refl, sym, ◌∙◌, ap, arith}
use Rattle.std.proofs.lemmas.Grind.{common_steps}
use Rattle.acas_table_text.specs.Format.{format_of}
use Rattle.acas_table.specs.Source.{bytes_taken}
use Rattle.acas_table.proofs.Answered.{answered}
use Rattle.acas_table.proofs.Within.{within_joined, within_once}
use Rattle.acas_table.proofs.Starts.{front_fails, header_given, model_fails}
use Rattle.acas_table.proofs.reader.TableReader.of_shape.Goals as goal

pub returns-in_err-format-clause-given : goal.returns-in_err-format-clause-given
returns-in_err-format-clause-given g c =
    front_fails (λ format bytes. format_of bytes ≡ format) _ c.args.name.now c.args.digest.now c.args.shape c.in-Ok.source c.read_format.new.source _ c.from_residual.result (answered _ c.from_residual.ensures.1)
    (c.in-Ok.ensures.expected ∙ c.length.ensures) c.in-Ok.ensures.at c.in_err-format.ensures.given

pub expect-requires : goal.expect-requires
expect-requires g c = grind (arith, common_steps)

pub check_model-requires : goal.check_model-requires
check_model-requires g c = grind (arith, common_steps)

pub returns-in_err-check_model-clause-given : goal.returns-in_err-check_model-clause-given
returns-in_err-check_model-clause-given g c =
    let front = c.in_ok-format.ensures in
    let is = answered c.from_residual-in_err-check_model.result c.from_residual-in_err-check_model.ensures.1 in
    model_fails _ _ c.args.name.now c.args.digest.now c.args.shape c.in_ok-format.format c.in-Ok.source c.read_format.new.source c.expect.new.self c.check_model.new.source _ c.from_residual-in_err-check_model.result is
    front.reads.frame.holds (c.in-Ok.ensures.expected ∙ c.length.ensures) (c.expect.ensures.expected ∙ c.length-2.ensures) c.in-Ok.ensures.at c.expect.ensures.at front.given c.in_err-check_model.ensures.given

pub returns-in_err-check_model-clause-at_most : goal.returns-in_err-check_model-clause-at_most
returns-in_err-check_model-clause-at_most g c =
    let front = c.in_ok-format.ensures.reads in
    let model = c.in_err-check_model.ensures.reads in
    let from = c.in-Ok.ensures.taken in
    let up = c.expect.ensures.taken in
    record {
      most_taken = grind (arith, common_steps);
      most_of_file = grind (arith, common_steps);
      once = within_once (g.F.Folder.holds c.args.folder.now) c.args.name.now (g.F.Folder.taken c.args.folder.now) _ (bytes_taken c.check_model.new.source)
          (within_joined _ _ _ _ _ _ _ _ (sym from) up front.frame.holds front.within model.within)
          (omega (arith, from, up, front.taken.later, front.taken.taken, model.taken.later, model.taken.taken));
    }

pub returns-clause-given : goal.returns-clause-given
returns-clause-given g c =
    let front = c.in_ok-format.ensures in
    header_given _ _ _ c.args.name.now c.args.digest.now c.args.shape c.in_ok-format.format c.in-Ok.source c.read_format.new.source c.expect.new.self _
    front.reads.frame.holds (c.in-Ok.ensures.expected ∙ c.length.ensures) (c.expect.ensures.expected ∙ c.length-2.ensures) c.in-Ok.ensures.at c.expect.ensures.at front.given c.in_ok-check_model.ensures.given
    refl refl refl refl refl

pub returns-in_err-format-clause-state : goal.returns-in_err-format-clause-state
returns-in_err-format-clause-state g c = rw (answered c.from_residual.result c.from_residual.ensures.1) tt

pub returns-in_err-format-clause-taken : goal.returns-in_err-format-clause-taken
returns-in_err-format-clause-taken g c = rw (answered c.from_residual.result c.from_residual.ensures.1) tt

pub returns-in_err-format-clause-most : goal.returns-in_err-format-clause-most
returns-in_err-format-clause-most g c = rw (answered c.from_residual.result c.from_residual.ensures.1) tt

pub returns-in_err-check_model-clause-state : goal.returns-in_err-check_model-clause-state
returns-in_err-check_model-clause-state g c = rw (answered c.from_residual-in_err-check_model.result c.from_residual-in_err-check_model.ensures.1) tt

pub returns-in_err-check_model-clause-taken : goal.returns-in_err-check_model-clause-taken
returns-in_err-check_model-clause-taken g c = rw (answered c.from_residual-in_err-check_model.result c.from_residual-in_err-check_model.ensures.1) tt

pub returns-in_err-check_model-clause-most : goal.returns-in_err-check_model-clause-most
returns-in_err-check_model-clause-most g c = rw (answered c.from_residual-in_err-check_model.result c.from_residual-in_err-check_model.ensures.1) tt

pub invariant_of-result : goal.invariant_of-result
invariant_of-result g c =
    let model = c.in_ok-check_model.ensures.reads.taken in
    record {
      limited = c.requires.limited;
      sized = c.group_size-group.ensures;
      count = omega arith;
      limit = model.limit ∙ c.expect.ensures.limit ∙ ap (λ (n : ℕ). n + 1) c.length-2.ensures;
      expected = model.expected ∙ c.expect.ensures.expected ∙ c.length-2.ensures;
      stands = λ sound more. grind (arith, common_steps);
    }
