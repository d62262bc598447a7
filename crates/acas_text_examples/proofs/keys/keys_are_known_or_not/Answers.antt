use Rattle.std.proofs.Common.{pos, codes, refl}
use Rattle.acas_text_examples.specs.Documents.{cost_keys}
use Rattle.acas_text_examples.proofs.Only.{only}
use Rattle.acas_text_examples.proofs.keys.keys_are_known_or_not.Goals as goal

pub returns-clause-only : goal.returns-clause-only
returns-clause-only c = only (codes "contact") (cost_keys (pos 1)) (refl, tt)

pub returns-clause-not_only : goal.returns-clause-not_only
returns-clause-not_only c h = h.none (codes "half_height") (record { there = refl; unknown = refl })
