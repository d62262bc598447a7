-- A document that passes each rule says a model that is within its limits.
use Rattle.std.proofs.Common.{◌≡◌, ℕ, ◌+◌, ◌*◌, ◌≤◌, List, [], length, map, codes, pos, nat_le, sum_by, Ok, refl, sym, subst, ◌∙◌, arith}
use Rattle.std.proofs.lemmas.Bool.{leb-true}
use Rattle.toml.specs.Data.{Data, Members}
use Rattle.acas_units.specs.declared.limits.TheConstants.{LEAST_HORIZON, GREATEST_HORIZON, LEAST_ADVISORIES, GREATEST_ADVISORIES, GREATEST_TOTAL_WEIGHT, WINDOW_SECONDS, GREATEST_ENTRIES}
use Rattle.acas_spec.specs.Model.{GridData, entries, weight_of}
use Rattle.acas_spec.specs.Limits.{IsModel, AreDistinct}
use Rattle.acas_spec.specs.declared.parts.SigmaPoint.{SigmaPoint}
use Rattle.acas_spec.proofs.Each.{bind_ok, same_ok}
use Rattle.acas_doc.specs.Keys.{list_at}
use Rattle.acas_doc.proofs.Holds.{fault_as_ok, list_at_ok}
use Rattle.acas_model.specs.declared.axes.Axes.{Axes}
use Rattle.acas_base.specs.declared.numbers.Numbers.{Numbers}
use Rattle.acas_model.specs.declared.fault.ModelFault.{ModelFault}
use Rattle.acas_model.specs.declared.fault.ModelFault.TheVariants.{Window, TooManyEntries}
use Rattle.acas_model.specs.Document.{in_doc}
use Rattle.acas_model.specs.Axes.{axes_of}
use Rattle.acas_model.specs.Numbers.{numbers_of}
use Rattle.acas_model.specs.Advisories.{advisory_items, distinct}
use Rattle.acas_model.specs.Choices.{Advised, choice_lists, advised_of}
use Rattle.acas_model.specs.Noise.{sigmas_of, weights}
use Rattle.acas_base.specs.View.{model_with}
use Rattle.acas_model.specs.Whole.{horizon_of, window, few_entries, grid_from}
use Rattle.acas_model.specs.Text.{HoldsList}
use Rattle.acas_model.proofs.ReadNumbers.{passed_ok, IsNumber, number_ok, IsReadNumbers, numbers_ok}
use Rattle.acas_model.proofs.ReadAxes.{IsReadAxes, axes_ok}
use Rattle.acas_model.proofs.ReadAdvisories.{test_ok, AreReadAdvisories, advisories_ok, names_ok}
use Rattle.acas_model.proofs.ReadChoices.{AreReadLists, lists_ok}
use Rattle.acas_model.proofs.ReadNoise.{AreReadSigmas, sigmas_ok, weights_ok}

pub record IsReadAdvised (doc : Members) (a : Advised) : Type 0 where
  pub items : List Data
  pub there : HoldsList doc (codes "advisory") items
  pub some : LEAST_ADVISORIES ≤ length items
  pub few : length items ≤ GREATEST_ADVISORIES
  pub each : AreReadAdvisories items a.advisories
  pub names : AreDistinct [] (map (λ b. b.name) a.advisories)
  pub lists : AreReadLists a.advisories items a.choices

pub advised_ok : (doc : Members) (a : Advised) → advised_of doc ≡ Ok a → IsReadAdvised doc a
unfolding advised_of
advised_ok doc a e =
    let i = bind_ok (in_doc (list_at doc [] (codes "advisory") LEAST_ADVISORIES GREATEST_ADVISORIES)) _ a e in
    let b = bind_ok (advisory_items i.0) _ a i.2 in
    let d = passed_ok (distinct b.0) _ a b.2 in
    let c = bind_ok (choice_lists b.0 i.0) _ a d.2 in
    let made : Advised = record { advisories = b.0; choices = c.0 } in
    let same : made ≡ a = same_ok {E = ModelFault} _ _ c.2 in
    let l = list_at_ok doc [] (codes "advisory") LEAST_ADVISORIES GREATEST_ADVISORIES i.0 (fault_as_ok _ _ i.0 i.1) in
    subst (IsReadAdvised doc) same (record {
      items = i.0;
      there = l.0;
      some = l.1;
      few = l.2;
      each = advisories_ok i.0 b.0 b.1;
      names = names_ok b.0 d.0 d.1;
      lists = lists_ok b.0 i.0 c.0 c.1;
    })

pub horizon_ok : (doc : Members) (horizon : ℕ) → horizon_of doc ≡ Ok horizon → IsNumber doc (codes "horizon") LEAST_HORIZON GREATEST_HORIZON horizon
unfolding horizon_of
horizon_ok doc horizon e = number_ok doc [] (codes "horizon") LEAST_HORIZON GREATEST_HORIZON horizon e

pub window_ok : (horizon radius least : ℕ) → window horizon radius least ≡ Ok tt → horizon * least + 2 * radius ≤ WINDOW_SECONDS * least
unfolding window
window_ok horizon radius least e =
    leb-true (horizon * least + 2 * radius) (WINDOW_SECONDS * least) (test_ok (nat_le (horizon * least + 2 * radius) (WINDOW_SECONDS * least)) tt tt (Window (pos (horizon * least + 2 * radius)) (pos (WINDOW_SECONDS * least))) e).0

pub entries_ok : (g : GridData) → few_entries g ≡ Ok tt → entries g ≤ GREATEST_ENTRIES
unfolding few_entries
entries_ok g e = leb-true (entries g) GREATEST_ENTRIES (test_ok (nat_le (entries g) GREATEST_ENTRIES) tt tt (TooManyEntries (entries g)) e).0

pub within_limits : (doc : Members) (version horizon : ℕ) (axes : Axes) (numbers : Numbers) (advised : Advised) (sigmas : List SigmaPoint)
    → IsNumber doc (codes "horizon") LEAST_HORIZON GREATEST_HORIZON horizon → IsReadAxes doc axes → IsReadNumbers doc version numbers → IsReadAdvised doc advised → AreReadSigmas doc sigmas
    → sum_by weight_of sigmas ≤ GREATEST_TOTAL_WEIGHT → horizon * numbers.closing.least + 2 * numbers.puck.radius ≤ WINDOW_SECONDS * numbers.closing.least → entries (grid_from horizon axes advised) ≤ GREATEST_ENTRIES
    → IsModel (model_with (grid_from horizon axes advised) numbers advised.advisories advised.choices sigmas)
within_limits doc version horizon axes numbers advised sigmas seconds axis number given sigma light fits few = record {
  grid = record {
    altitudes = axis.h.is_axis;
    own_rates = axis.v0.is_axis;
    intruder_rates = axis.v1.is_axis;
    altitudes_within = axis.h.within;
    own_within = axis.v0.within;
    intruder_within = axis.v1.within;
    some_advisories = omega (arith, given.some, given.each.long);
    few_advisories = omega (arith, given.few, given.each.long);
    least_horizon = seconds.low;
    horizon = seconds.high;
    entries = few;
  };
  advisory_count = refl;
  advisories = λ a within. (given.each.at a (omega (arith, within, given.each.long))).says.is_advisory;
  names = given.names;
  choice_count = given.lists.long ∙ sym given.each.long;
  choices = λ p within. (given.lists.at p (omega (arith, within, given.each.long))).says.is_list;
  some_sigmas = sigma.some;
  few_sigmas = sigma.few;
  sigmas = λ q within. (sigma.at q (omega (arith, within, sigma.long))).says.is_sigma;
  weights = light;
  some_pull = number.pilot.pull.low;
  pull_within = number.pilot.limit.low;
  limit = number.pilot.limit.high;
  delay = number.pilot.delay.high;
  some_radius = number.puck.radius.low;
  radius = number.puck.radius.high;
  some_half = omega (arith, number.puck.half, number.puck.half_height.low);
  half = omega (arith, number.puck.half, number.puck.half_height.high);
  some_closing = number.closing.least.low;
  closing = number.closing.greatest.low;
  greatest_closing = number.closing.greatest.high;
  contact = number.contact.within;
  window = fits;
}

pub parts_within_limits : (doc : Members) (version horizon : ℕ) (axes : Axes) (numbers : Numbers) (advised : Advised) (sigmas : List SigmaPoint)
    → horizon_of doc ≡ Ok horizon → axes_of doc ≡ Ok axes → numbers_of doc version ≡ Ok numbers → advised_of doc ≡ Ok advised → sigmas_of doc ≡ Ok sigmas
    → weights sigmas ≡ Ok tt → window horizon numbers.puck.radius numbers.closing.least ≡ Ok tt → few_entries (grid_from horizon axes advised) ≡ Ok tt
    → IsModel (model_with (grid_from horizon axes advised) numbers advised.advisories advised.choices sigmas)
parts_within_limits doc version horizon axes numbers advised sigmas h a n d p w t f =
    within_limits doc version horizon axes numbers advised sigmas (horizon_ok doc horizon h) (axes_ok doc axes a) (numbers_ok doc version numbers n) (advised_ok doc advised d) (sigmas_ok doc sigmas p)
    (weights_ok sigmas w) (window_ok horizon numbers.puck.radius numbers.closing.least t) (entries_ok (grid_from horizon axes advised) f)
