-- The model that parts make, and that the fields of a `Model` stand for.
use Rattle.std.specs.Prelude.{List, map, pos, Vec}
use Rattle.std.specs.declared.alloc.Global.{Global}
use Rattle.acas_spec.specs.Model.{GridData, ModelData}
use Rattle.acas_spec.specs.Limits.{IsModel}
use Rattle.acas_spec.specs.declared.parts.Advisory.{Advisory}
use Rattle.acas_spec.specs.declared.parts.Choice.{Choice}
use Rattle.acas_spec.specs.declared.parts.SigmaPoint.{SigmaPoint}
use Rattle.acas_base.specs.declared.numbers.Numbers.{Numbers}
use Rattle.acas_base.specs.declared.model.Model.TheInside.{Inside}

-- the model of these parts
abbrev pub model_with : GridData → Numbers → List Advisory → List (List Choice) → List SigmaPoint → ModelData
model_with grid numbers advisories choices sigmas = record {
  grid = grid;
  advisories = advisories;
  choices = choices;
  sigmas = sigmas;
  pull = numbers.pilot.pull;
  limit = numbers.pilot.limit;
  delay = numbers.pilot.delay;
  radius = numbers.puck.radius;
  half = numbers.puck.half;
  least_closing = numbers.closing.least;
  greatest_closing = numbers.closing.greatest;
  contact = numbers.contact;
}

-- the lists in a vector of vectors
abbrev pub lists_of : {A : Type 0} → Vec (Vec A Global) Global → List (List A)
lists_of v = map (λ l. l.items) v.items

-- the numbers of each part under the names of the plain data
abbrev pub model_view : Inside → ModelData
model_view m = model_with m.grid m.numbers m.advisories.items (lists_of m.choices) m.sigmas.items

-- each `Model` is a model within its limits
abbrev pub IsValid : Inside → Type 0
IsValid m = IsModel (model_view m)

-- the sigma point that a list holds where it ends
abbrev pub no_sigma : SigmaPoint
no_sigma = record { weight = pos 0; own = pos 0; intruder = pos 0 }
