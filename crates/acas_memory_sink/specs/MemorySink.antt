-- What is seen of a sink in memory.
use Rattle.std.specs.Prelude.{◌≡◌, ◌⊎◌, ℕ, ◌+◌, min, List, [], ◌++◌, length, take, Result, Ok, Err}
use Rattle.acas_outside.specs.Calls.{CallState, call_state, no_calls, made_one, failed_one, IsListed}
use Rattle.acas_outside.specs.Counts.{raised}
use Rattle.acas_outside.specs.declared.sink.Failed.{Failed}
use Rattle.acas_memory_sink.specs.declared.memory_sink.MemorySink.{MemorySink}

pub record SinkState : Type 0 where
  -- all that was written
  pub written : List ℕ
  pub writes : CallState
  -- the greatest number of bytes per call
  pub most : ℕ
  -- how many writes failed for want of memory
  pub refused : ℕ

-- what is seen of a sink in memory
abbrev pub sink_state : MemorySink → SinkState
sink_state s = record {
  written = s.bytes.items;
  writes = call_state s.writes;
  most = s.most;
  refused = s.refused;
}

-- nothing is written, and no call was made
abbrev pub new_sink : List ℕ → ℕ → SinkState
new_sink writes most = record { written = []; writes = no_calls writes; most = most; refused = 0 }

-- the listed writes that failed, and those that failed for want of memory
abbrev pub faults_of : SinkState → ℕ
faults_of s = s.writes.failed + s.refused

-- a write takes as many bytes as it may, and fails exactly where it is listed or where memory was refused
abbrev pub WritesInMemory : SinkState → SinkState → List ℕ → Result ℕ Failed → Type 0
WritesInMemory old new piece (Ok n) = (IsListed old.writes → ⊥) × (n ≡ min (length piece) old.most)
    × (new ≡ record old { written = old.written ++ take n piece; writes = made_one old.writes })
WritesInMemory old new piece (Err e) =
    (IsListed old.writes × (new ≡ record old { writes = failed_one old.writes }))
    ⊎ ((IsListed old.writes → ⊥)
    × (new ≡ record old { writes = made_one old.writes; refused = raised old.refused 1 }))
