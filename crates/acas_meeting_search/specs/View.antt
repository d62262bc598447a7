-- The hunt of a pursuit.
use Rattle.acas_rulings.specs.MeetingView.{may_of}
use Rattle.acas_witness_search.specs.Surveys.{search_of}
use Rattle.acas_rulings.specs.Hunt.{Hunt}
use Rattle.acas_meeting_search.specs.declared.pursuit.Pursuit.{Pursuit}

abbrev pub hunt_of : Pursuit → Hunt
hunt_of p = record { search = search_of p.survey; may = may_of p.may }
