use Rattle.acas_boxes.proofs.Fitting.{fitting_ok, fitting_read}
use Rattle.acas_boxes.proofs.Pass.{understood}
use Rattle.acas_boxes.proofs.Read.{said}
use Rattle.acas_boxes.proofs.laws.fitting_texts_say_their_boxes.Goals as goal

pub returns : goal.returns
returns c m may bytes boxes valid = (
  λ is. let both = fitting_ok m may bytes boxes is in (said m bytes boxes valid both.0, both.1),
  λ says. fitting_read m may bytes boxes (understood m bytes boxes valid says.0) says.1,
)
