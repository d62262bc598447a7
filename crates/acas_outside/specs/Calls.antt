-- The calls of one kind, of which some are to fail.
use Rattle.std.specs.Prelude.{ℕ, List, Contains}
use Rattle.acas_outside.specs.Counts.{raised}
use Rattle.acas_outside.specs.declared.listed_calls.ListedCalls.{ListedCalls}

pub record CallState : Type 0 where
  -- the numbers of those that are to fail
  pub listed : List ℕ
  -- how many were made, and how many of these failed as they were to
  pub made : ℕ
  pub failed : ℕ

-- what is seen of the calls of one kind
abbrev pub call_state : ListedCalls → CallState
call_state calls = record { listed = calls.listed.items; made = calls.made; failed = calls.failed }

-- no call was made
abbrev pub no_calls : List ℕ → CallState
no_calls listed = record { listed = listed; made = 0; failed = 0 }

-- the next call is to fail
abbrev pub IsListed : CallState → Type 0
IsListed calls = Contains calls.listed calls.made

-- after a call that was not to fail
abbrev pub made_one : CallState → CallState
made_one calls = record calls { made = raised calls.made 1 }

-- after a call that failed as it was to
abbrev pub failed_one : CallState → CallState
failed_one calls = record calls { made = raised calls.made 1; failed = raised calls.failed 1 }
