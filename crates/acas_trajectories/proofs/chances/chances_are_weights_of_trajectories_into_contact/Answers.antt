use Rattle.acas_trajectories.proofs.ContactLaws.{chance_over_trajectories}
use Rattle.acas_trajectories.proofs.chances.chances_are_weights_of_trajectories_into_contact.Goals as goal

pub returns : goal.returns
returns c = chance_over_trajectories
