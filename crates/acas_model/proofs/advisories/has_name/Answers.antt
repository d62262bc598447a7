use Rattle.std.proofs.Common.{rules, tests}
use Rattle.std.specs.Str.{bytes_eq}
use Rattle.std.proofs.lemmas.Iterator.{YieldsList-from_slice}
use Rattle.std.proofs.lemmas.Iterator.Search.{any_from_yields_List}
use Rattle.acas_model.proofs.advisories.has_name.Goals as goal

pub returns : goal.returns
returns c = any_from_yields_List (λ b. bytes_eq b.name c.args.name.now) _ _ _ c.any.ensures.ran (YieldsList-from_slice c.args.advisories.now cc) (λ x b q k. search (rules, tests))
