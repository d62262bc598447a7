use Rattle.acas_replay.proofs.Read.{said}
use Rattle.acas_replay.proofs.Pass.{understood}
use Rattle.acas_replay.proofs.text_laws.texts_say_their_encounters.Goals as goal

pub returns : goal.returns
returns c = λ m bytes e valid. (said m bytes e valid, understood m bytes e valid)
