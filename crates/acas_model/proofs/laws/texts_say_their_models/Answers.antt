use Rattle.acas_model.proofs.Said.{said}
use Rattle.acas_model.proofs.Understood.{understood}
use Rattle.acas_model.proofs.laws.texts_say_their_models.Goals as goal

pub returns : goal.returns
returns c = λ bytes m. (said bytes m, understood bytes m)
