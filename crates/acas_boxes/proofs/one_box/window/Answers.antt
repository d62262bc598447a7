use Rattle.std.proofs.Common.{rules}
use Rattle.acas_boxes.proofs.one_box.window.Goals as goal

pub is_flown-requires : goal.is_flown-requires
is_flown-requires c = search rules
