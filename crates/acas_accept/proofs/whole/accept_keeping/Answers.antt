use Rattle.std.proofs.Common.{◌+◌, ◌∙◌, subst, sym, arith}
use Rattle.std.proofs.lemmas.Result.{err_from_is_err_and}
use Rattle.acas_accept.specs.declared.refusal.AcceptFault.TheVariants.{Memory}
use Rattle.acas_table.proofs.Told.{told_all, told_at}
use Rattle.acas_accept.proofs.Accepting.{Begins, fault_at_end, fault_in_layers, fault_read, none_left, whole_given, whole_read}
use Rattle.acas_accept.proofs.Answered.{start_answered}
use Rattle.acas_accept.proofs.Frames.{reads_both, reads_memory, reads_ok, reads_then}
use Rattle.acas_accept.proofs.Steps.{all_given}
use Rattle.acas_accept.proofs.whole.accept_keeping.Goals as goal

pub returns-in-Err-clause-given : goal.returns-in-Err-clause-given
returns-in-Err-clause-given g c =
    start_answered (λ bytes (kept : g.row.K.Denot). g.K.KeepsLayers.is_of kept c.args.model.now bytes (c.args.model.now.grid.horizon + 1)) c.args.model.now c.args.digest.now _ c.args.name.now c.in-Err.fault _ c.refused.ensures.answered c.in-Err.ensures.given

pub returns-in_err-kept : goal.returns-in_err-kept
returns-in_err-kept g c =
    let begins = subst (Begins g.F.Folder c.args.folder.now c.start.new.folder c.args.name.now c.args.model.now c.args.digest.now) (sym c.in_ok-check.ensures.reader) (record { starts = c.in-Ok.ensures.given; shape = c.in-Ok.ensures.state.shape; holds = c.start.ensures.frame.holds; taken = c.in-Ok.ensures.taken; within = c.in-Ok.ensures.within }) in
    let given = fault_in_layers (λ bytes (kept : g.row.K.Denot). g.K.KeepsLayers.is_of kept c.args.model.now bytes (c.args.model.now.grid.horizon + 1)) c.args.model.now c.args.digest.now _ c.args.name.now c.in_ok-check.check Memory begins.starts (told_all _ c.args.name.now _ (λ bytes accepted. tt)) in
    let p = err_from_is_err_and c.from_residual-in_err-kept.result c.from_residual-in_err-kept.ensures.1 in
    rw (p.1, p.2)
    (record { given = given; kept = tt; once = record { all_taken = tt; all_of_file = tt; at_most = c.start.ensures.at_most }; kind = tt; frame = reads_memory g.F.Folder _ _ _ _ c.start.ensures.frame })

pub returns-in_err-layer_means : goal.returns-in_err-layer_means
returns-in_err-layer_means g c =
    let begins = subst (Begins g.F.Folder c.args.folder.now c.start.new.folder c.args.name.now c.args.model.now c.args.digest.now) (sym c.in_ok-check.ensures.reader) (record { starts = c.in-Ok.ensures.given; shape = c.in-Ok.ensures.state.shape; holds = c.start.ensures.frame.holds; taken = c.in-Ok.ensures.taken; within = c.in-Ok.ensures.within }) in
    let given = fault_in_layers (λ bytes (kept : g.row.K.Denot). g.K.KeepsLayers.is_of kept c.args.model.now bytes (c.args.model.now.grid.horizon + 1)) c.args.model.now c.args.digest.now _ c.args.name.now c.in_ok-check.check Memory begins.starts (told_all _ c.args.name.now _ (λ bytes accepted. tt)) in
    let p = err_from_is_err_and c.from_residual-in_err-layer_means.result c.from_residual-in_err-layer_means.ensures.1 in
    rw (p.1, p.2)
    (record { given = given; kept = tt; once = record { all_taken = tt; all_of_file = tt; at_most = c.start.ensures.at_most }; kind = tt; frame = reads_memory g.F.Folder _ _ _ _ c.start.ensures.frame })

pub layers-requires-clause-check : goal.layers-requires-clause-check
layers-requires-clause-check g c = c.in_ok-check.ensures.check

pub layers-requires-clause-of : goal.layers-requires-clause-of
layers-requires-clause-of g c = c.in_ok-kept.ensures.of

pub finish-requires-clause-all : goal.finish-requires-clause-all
finish-requires-clause-all g c = all_given c.args.model.now c.layers.new.self c.in_ok-layers.ensures.check

pub returns-in_err-layers : goal.returns-in_err-layers
returns-in_err-layers g c =
    let begins = subst (Begins g.F.Folder c.args.folder.now c.start.new.folder c.args.name.now c.args.model.now c.args.digest.now) (sym c.in_ok-check.ensures.reader) (record { starts = c.in-Ok.ensures.given; shape = c.in-Ok.ensures.state.shape; holds = c.start.ensures.frame.holds; taken = c.in-Ok.ensures.taken; within = c.in-Ok.ensures.within }) in
    let p = err_from_is_err_and c.from_residual-in_err-layers.result c.from_residual-in_err-layers.ensures.1 in
    rw (p.1, p.2) (record {
      given =
          fault_in_layers (λ bytes (kept : g.row.K.Denot). g.K.KeepsLayers.is_of kept c.args.model.now bytes (c.args.model.now.grid.horizon + 1)) c.args.model.now c.args.digest.now _ c.args.name.now c.in_ok-check.check c.in_err-layers.field-0.0 begins.starts
          (told_at _ _ c.args.name.now _ c.start.ensures.frame.holds (c.in_err-layers.ensures.given c.args.digest.now));
      kept = tt;
      once = fault_read g.F.Folder _ _ _ _ _ c.args.model.now c.args.digest.now _ c.layers.new.self _ begins c.layers.ensures.reads (none_left _ c.args.name.now _ _) _ (omega arith);
      kind = c.in_err-layers.ensures.reads.kind;
      frame = reads_then g.F.Folder {X = Unit {0}} _ _ _ c.in_err-layers.field-0.0 _ _ c.start.ensures.frame c.in_err-layers.ensures.reads.frame;
    })

pub returns-in_err-finish : goal.returns-in_err-finish
returns-in_err-finish g c =
    let begins = subst (Begins g.F.Folder c.args.folder.now c.start.new.folder c.args.name.now c.args.model.now c.args.digest.now) (sym c.in_ok-check.ensures.reader) (record { starts = c.in-Ok.ensures.given; shape = c.in-Ok.ensures.state.shape; holds = c.start.ensures.frame.holds; taken = c.in-Ok.ensures.taken; within = c.in-Ok.ensures.within }) in
    let p = err_from_is_err_and c.from_residual-in_err-finish.result c.from_residual-in_err-finish.ensures.1 in
    rw (p.1, p.2) (record {
      given =
          fault_at_end (λ bytes (kept : g.row.K.Denot). g.K.KeepsLayers.is_of kept c.args.model.now bytes (c.args.model.now.grid.horizon + 1)) c.args.model.now c.args.digest.now _ c.args.name.now c.in_ok-check.check c.layers.new.self c.layers.new.kept c.in_err-finish.field-0.0
          begins.starts (told_at _ _ c.args.name.now _ c.start.ensures.frame.holds (c.in_ok-layers.ensures.given c.args.digest.now))
          (told_at _ _ c.args.name.now _ (c.layers.ensures.reads.frame.holds ∙ c.start.ensures.frame.holds) (c.in_err-finish.ensures.given c.args.model.now c.args.digest.now c.in_ok-layers.ensures.check));
      kept = tt;
      once = fault_read g.F.Folder _ _ _ _ _ c.args.model.now c.args.digest.now _ c.layers.new.self _ begins c.layers.ensures.reads c.finish.ensures.left _ c.finish.ensures.most_taken;
      kind = c.in_err-finish.ensures.kind;
      frame =
          reads_then g.F.Folder {X = Unit {0}} _ _ _ c.in_err-finish.field-0.0 _ _
          (reads_both g.F.Folder _ _ _ _ _ _ _ c.start.ensures.frame c.layers.ensures.reads.frame) c.in_err-finish.ensures.frame;
    })

pub returns : goal.returns
returns g c =
    let begins = subst (Begins g.F.Folder c.args.folder.now c.start.new.folder c.args.name.now c.args.model.now c.args.digest.now) (sym c.in_ok-check.ensures.reader) (record { starts = c.in-Ok.ensures.given; shape = c.in-Ok.ensures.state.shape; holds = c.start.ensures.frame.holds; taken = c.in-Ok.ensures.taken; within = c.in-Ok.ensures.within }) in
    record {
      given =
          whole_given (λ bytes (kept : g.row.K.Denot). g.K.KeepsLayers.is_of kept c.args.model.now bytes (c.args.model.now.grid.horizon + 1)) c.args.model.now c.args.digest.now _ c.args.name.now c.in_ok-check.check c.layers.new.self c.layers.new.kept
          c.in_ok-layers.ensures.check.valid c.fits-digest begins.starts
          (told_at _ _ c.args.name.now _ c.start.ensures.frame.holds (c.in_ok-layers.ensures.given c.args.digest.now))
          (told_at _ _ c.args.name.now _ (c.layers.ensures.reads.frame.holds ∙ c.start.ensures.frame.holds) (c.in_ok-finish.ensures.given c.args.model.now c.args.digest.now c.in_ok-layers.ensures.check));
      kept = c.in_ok-layers.ensures.kept;
      once = whole_read g.F.Folder _ _ _ _ _ c.args.model.now c.args.digest.now _ c.layers.new.self _ begins c.layers.ensures.reads c.finish.ensures.left _ c.in_ok-finish.ensures.all_taken;
      kind = tt;
      frame = reads_ok g.F.Folder _ _ _ _ _ (reads_both g.F.Folder _ _ _ _ _ _ _ (reads_both g.F.Folder _ _ _ _ _ _ _ c.start.ensures.frame c.layers.ensures.reads.frame) c.finish.ensures.frame);
    }
