use Rattle.std.proofs.Common.{◌≡◌, ℕ, ap, subst, arith}
use Rattle.std.proofs.lemmas.Result.{err_from_is_err_and}
use Rattle.acas_spec.specs.Model.{GridData, states}
use Rattle.acas_grid.specs.Grid.{state_number}
use Rattle.acas_table.specs.Reader.{Told, reader_state}
use Rattle.acas_table.specs.declared.reader.TableReader.{TableReader}
use Rattle.acas_accept.specs.Checking.{IsBeforeLayer, IsCheckOf, IsInLayer}
use Rattle.acas_accept.proofs.Frames.{reads_on, stays}
use Rattle.acas_accept.proofs.Planes.{last_plane}
use Rattle.acas_table.proofs.Told.{told_all, told_at, told_then}
use Rattle.acas_accept.proofs.check.TableCheck.layer.Goals as goal

pub loop-present-init : goal.loop-present-init
loop-present-init g c =
    let none : state_number c.args.model.now.grid 0 0 ≡ 0 = omega arith in
    rw none (record {
      check = c.begin_layer.ensures.check;
      given = λ digest. told_all _ c.args.name.now _ (λ bytes before. c.begin_layer.ensures.given digest bytes before);
      reads = stays g.F.Folder _ _ _ _ _ (ap (λ (r : TableReader). r.shape) c.begin_layer.ensures.reader) (ap (λ (r : TableReader). r.format) c.begin_layer.ensures.reader) (ap (λ (r : TableReader). (reader_state r).taken) c.begin_layer.ensures.reader);
    })

pub returns-in_err-plane : goal.returns-in_err-plane
returns-in_err-plane g c =
    let is = c.new-plane.ensures.present in
    let p = err_from_is_err_and c.from_residual.result c.from_residual.ensures.1 in
    rw (p.1, p.2) (record {
      given = λ digest.
          told_then _ c.args.name.now (λ bytes. IsBeforeLayer c.args.model.now digest c.args.self.now c.args.n bytes) (λ bytes. IsInLayer c.args.model.now digest c.loop-present.self c.args.n (state_number c.args.model.now.grid c.loop-present.present 0) bytes) _
          (c.loop-present.invariant.given digest) (told_at _ _ c.args.name.now _ c.loop-present.invariant.reads.frame.holds (rw is at (c.in_err-plane.ensures.given digest)));
      check = tt;
      reads = reads_on g.F.Folder _ _ _ _ _ _ _ _ _ c.loop-present.invariant.reads c.in_err-plane.ensures.reads;
    })

pub loop-present-preserved : goal.loop-present-preserved
loop-present-preserved g c =
    let is = c.new-plane.ensures.present in record {
      check = rw is at c.in_ok-plane.ensures.check;
      given = λ digest.
          told_then _ c.args.name.now (λ bytes. IsBeforeLayer c.args.model.now digest c.args.self.now c.args.n bytes) (λ bytes. IsInLayer c.args.model.now digest c.loop-present.self c.args.n (state_number c.args.model.now.grid c.loop-present.present 0) bytes) _
          (c.loop-present.invariant.given digest) (told_at _ _ c.args.name.now _ c.loop-present.invariant.reads.frame.holds (rw is at (c.in_ok-plane.ensures.given digest)));
      reads = reads_on g.F.Folder _ _ _ _ _ _ _ _ _ c.loop-present.invariant.reads c.in_ok-plane.ensures.reads;
    }

pub returns : goal.returns
returns g c =
    let end : c.loop-present.present ≡ c.args.model.now.grid.advisories = omega (arith, ap (λ (g : GridData). g.advisories) c.grid.ensures.value, ap (λ (g : GridData). g.advisories) c.behind-model.view_is) in
    let all : state_number c.args.model.now.grid c.loop-present.present 0 ≡ states c.args.model.now.grid = last_plane c.args.model.now.grid c.loop-present.present end in
    record {
      given = λ digest.
          subst (λ (s : ℕ). Told (g.F.Folder.holds c.args.folder.now) c.args.name.now (λ bytes. IsBeforeLayer c.args.model.now digest c.args.self.now c.args.n bytes → IsInLayer c.args.model.now digest c.loop-present.self c.args.n s bytes)) all
          (c.loop-present.invariant.given digest);
      check = subst (λ (s : ℕ). IsCheckOf c.args.model.now c.loop-present.self c.args.n s) all c.loop-present.invariant.check;
      reads = c.loop-present.invariant.reads;
    }
