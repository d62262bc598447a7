use Rattle.acas_meeting_search.proofs.Chains.{passes_after}
use Rattle.acas_meeting_search.proofs.search.+search_from.Given as goal

abbrev pub decreases-search_from : goal.decreases-search_from
decreases-search_from l = passes_after l.stage
