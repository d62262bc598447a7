use Rattle.acas_frac.proofs.Lowest.{lowest-same}
use Rattle.acas_frac.proofs.laws.lowest_terms_are_one.Goals as goal

pub returns : goal.returns
returns c = lowest-same
