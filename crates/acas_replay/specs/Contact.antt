-- Contact of two aircraft within one second, at its fractions.
use Rattle.std.specs.Prelude.{ℕ, ◌*◌, ◌<◌, ◌≤◌, ℤ, pos, ◌+ℤ◌, ◌-ℤ◌, ◌*ℤ◌, unsigned_abs}
use Rattle.acas_replay.specs.declared.second.Second.{Second}

-- how far above the intruder is after a of q parts of a second in which the rate changes evenly, over q^2
abbrev pub separation : Second → ℕ → ℕ → ℤ
separation s q a = s.altitude *ℤ pos (q * q) +ℤ pos 2 *ℤ s.rate *ℤ pos (a * q) +ℤ s.change *ℤ pos (a * a)

-- after a of q parts of the second the intruder is in the puck, or at its edge
pub record IsContactAt (radius half : ℕ) (s : Second) (q a : ℕ) : Type 0 where
  pub some : 0 < q
  pub within : a ≤ q
  pub horizontal : unsigned_abs (s.range *ℤ pos q -ℤ s.closing *ℤ pos a) ≤ radius * q
  pub vertical : unsigned_abs (separation s q a) ≤ half * (q * q)

-- Some fraction of the second, its ends included, is in contact.
abbrev pub HasContact : ℕ → ℕ → Second → Type 0
HasContact radius half s = (q : ℕ) × (a : ℕ) × IsContactAt radius half s q a
