use Rattle.std.proofs.Common.{sym}
use Rattle.toml.specs.View.{table_view}
use Rattle.acas_model.proofs.WithinLimits.{parts_within_limits}
use Rattle.acas_model.proofs.whole.model_in.Goals as goal

pub new-requires : goal.new-requires
new-requires c =
    rw c.in_ok-grid.ensures.value
    (parts_within_limits (table_view c.args.document.now) c.in_ok-version.version c.in_ok-horizon.horizon c.in_ok-axes.axes c.in_ok-numbers.numbers _ c.in_ok-sigmas.sigmas.items
    c.in_ok-horizon.ensures.value c.in_ok-axes.ensures c.in_ok-numbers.ensures.value c.in_ok-advised.ensures.value c.in_ok-sigmas.ensures.value
    (rw (← c.deref.ensures.value) (sym c.in_ok-weights.ensures)) (sym c.in_ok-window.ensures) (rw (← c.in_ok-grid.ensures.value) c.in_ok-grid.ensures.ok))
