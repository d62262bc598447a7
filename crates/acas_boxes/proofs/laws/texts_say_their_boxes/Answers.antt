use Rattle.acas_boxes.proofs.Read.{said}
use Rattle.acas_boxes.proofs.Pass.{understood}
use Rattle.acas_boxes.proofs.laws.texts_say_their_boxes.Goals as goal

pub returns : goal.returns
returns c = λ m bytes boxes valid. (said m bytes boxes valid, understood m bytes boxes valid)
