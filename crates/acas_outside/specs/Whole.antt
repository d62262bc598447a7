-- What a whole read answers.
use Rattle.std.specs.Prelude.{◌≡◌, ℕ, ◌<◌, ◌≤◌, List, [], length, take, Option, None, Some, Result, Ok, Err, IsSomeAnd, unwrap_or, Vec, ⊤}
use Rattle.std.specs.declared.alloc.Global.{Global}
use Rattle.acas_outside.specs.declared.whole.ReadFault.{ReadFault}
use Rattle.acas_outside.specs.declared.whole.ReadFault.TheVariants.{Absent, Failed, TooLong, Memory}

-- a whole read gives all bytes of a file of at most `limit` bytes, answers that it is absent only where it is not
-- held, and that it is too long only where it has more bytes than that
abbrev pub ReadsWhole : Option (List ℕ) → ℕ → Result (Vec ℕ Global) ReadFault → Type 0
ReadsWhole file limit (Ok bytes) = (file ≡ Some bytes.items) × (length bytes.items ≤ limit)
ReadsWhole file limit (Err Absent) = file ≡ None
ReadsWhole file limit (Err TooLong) = IsSomeAnd file (λ bytes. limit < length bytes)
ReadsWhole file limit (Err Failed) = ⊤
ReadsWhole file limit (Err Memory) = ⊤

-- these bytes are the file's first ones; of a file that is not held there are none
abbrev pub BeginsWith : Option (List ℕ) → List ℕ → Type 0
BeginsWith file bytes = bytes ≡ take (length bytes) (unwrap_or file [])

-- one read goes on from the first bytes of a file to more of them, and to none more only at its end
abbrev pub ReadsOn : Option (List ℕ) → List ℕ → List ℕ → Result ℕ ReadFault → Type 0
ReadsOn file old new (Ok n) = BeginsWith file old → BeginsWith file new × (n ≡ 0 → file ≡ Some new)
ReadsOn file old new (Err Absent) = file ≡ None
ReadsOn file old new (Err TooLong) = ⊤
ReadsOn file old new (Err Failed) = ⊤
ReadsOn file old new (Err Memory) = ⊤
