-- The sigma points that a document says.
use Rattle.std.proofs.Common.{◌≡◌, ℕ, ◌<◌, ◌≤◌, false, List, [], length, take, get_or, codes, pos, nat_le, sum_by, Ok, subst, arith}
use Rattle.std.proofs.lemmas.Bool.{leb-true}
use Rattle.toml.specs.Data.{Data, Members, boolean, table}
use Rattle.acas_units.specs.declared.limits.TheConstants.{LEAST_WEIGHT, GREATEST_WEIGHT, GREATEST_TOTAL_WEIGHT, LEAST_NOISE, GREATEST_NOISE, LEAST_SIGMAS, GREATEST_SIGMAS}
use Rattle.acas_spec.specs.Model.{weight_of}
use Rattle.acas_spec.specs.Limits.{IsSigma}
use Rattle.acas_spec.specs.declared.parts.SigmaPoint.{SigmaPoint}
use Rattle.acas_spec.proofs.Each.{bind_ok, same_ok}
use Rattle.acas_base.specs.View.{no_sigma}
use Rattle.acas_doc.specs.Keys.{list_at, whole_at, table_item}
use Rattle.acas_doc.specs.Known.{only_known}
use Rattle.acas_doc.specs.Paths.{item_path}
use Rattle.acas_doc.proofs.Holds.{fault_as_ok, list_at_ok, whole_at_ok, table_item_ok}
use Rattle.acas_model.specs.declared.fault.ModelFault.{ModelFault}
use Rattle.acas_model.specs.declared.fault.ModelFault.TheVariants.{Weights}
use Rattle.acas_model.specs.Document.{in_doc}
use Rattle.acas_model.specs.Noise.{sigma_of, sigma_item, sigma_items, sigmas_of, weights}
use Rattle.acas_model.specs.Text.{HasOnly, HoldsWhole, HoldsList}
use Rattle.acas_model.proofs.Places.{each_places}
use Rattle.acas_model.proofs.ReadNumbers.{step_ok, only_ok}
use Rattle.acas_model.proofs.ReadAdvisories.{test_ok}

-- the table of a sigma point
pub record IsReadSigma (t : Members) (p : SigmaPoint) : Type 0 where
  pub keys : HasOnly (codes "weight own intruder") t
  pub weight : HoldsWhole t (codes "weight") p.weight
  pub own : HoldsWhole t (codes "own") p.own
  pub intruder : HoldsWhole t (codes "intruder") p.intruder
  pub is_sigma : IsSigma p

sigma_ok : (t : Members) (path : List ℕ) (p : SigmaPoint) → sigma_of t path ≡ Ok p → IsReadSigma t p
unfolding sigma_of
sigma_ok t path p e =
    let k = step_ok (in_doc (only_known path (codes "weight own intruder") t)) _ p e in
    let w = bind_ok (in_doc (whole_at t path (codes "weight") LEAST_WEIGHT GREATEST_WEIGHT)) _ p k.1 in
    let o = bind_ok (in_doc (whole_at t path (codes "own") LEAST_NOISE GREATEST_NOISE)) _ p w.2 in
    let i = bind_ok (in_doc (whole_at t path (codes "intruder") LEAST_NOISE GREATEST_NOISE)) _ p o.2 in
    let made : SigmaPoint = record { weight = w.0; own = o.0; intruder = i.0 } in
    let same : made ≡ p = same_ok {E = ModelFault} _ _ i.2 in
    let weight = whole_at_ok t path (codes "weight") LEAST_WEIGHT GREATEST_WEIGHT w.0 (fault_as_ok _ _ w.0 w.1) in
    let own = whole_at_ok t path (codes "own") LEAST_NOISE GREATEST_NOISE o.0 (fault_as_ok _ _ o.0 o.1) in
    let intruder = whole_at_ok t path (codes "intruder") LEAST_NOISE GREATEST_NOISE i.0 (fault_as_ok _ _ i.0 i.1) in
    subst (IsReadSigma t) same (record {
      keys = only_ok path (codes "weight own intruder") t k.0;
      weight = weight.0;
      own = own.0;
      intruder = intruder.0;
      is_sigma = record {
        weight = record { low = weight.1; high = weight.2 };
        own = record { low = own.1; high = own.2 };
        intruder = record { low = intruder.1; high = intruder.2 };
      };
    })

pub record IsReadSigmaItem (d : Data) (p : SigmaPoint) : Type 0 where
  pub inner : Members
  pub there : d ≡ table inner
  pub says : IsReadSigma inner p

sigma_item_ok : (place : ℕ) (d : Data) (p : SigmaPoint) → sigma_item place d ≡ Ok p → IsReadSigmaItem d p
unfolding sigma_item
sigma_item_ok place d p e =
    let b = bind_ok (in_doc (table_item (codes "sigma") place d)) _ p e in
    record {
      inner = b.0;
      there = table_item_ok (codes "sigma") place d b.0 (fault_as_ok _ _ b.0 b.1);
      says = sigma_ok b.0 (item_path (codes "sigma") place) p b.2;
    }

pub record AreReadSigmas (doc : Members) (sigmas : List SigmaPoint) : Type 0 where
  pub items : List Data
  pub there : HoldsList doc (codes "sigma") items
  pub long : length sigmas ≡ length items
  pub some : LEAST_SIGMAS ≤ length sigmas
  pub few : length sigmas ≤ GREATEST_SIGMAS
  pub at : (k : ℕ) → k < length items → IsReadSigmaItem (get_or items k (boolean false)) (get_or sigmas k no_sigma)

pub sigmas_ok : (doc : Members) (sigmas : List SigmaPoint) → sigmas_of doc ≡ Ok sigmas → AreReadSigmas doc sigmas
unfolding sigmas_of sigma_items
sigmas_ok doc sigmas e =
    let b = bind_ok (in_doc (list_at doc [] (codes "sigma") LEAST_SIGMAS GREATEST_SIGMAS)) _ sigmas e in
    let l = list_at_ok doc [] (codes "sigma") LEAST_SIGMAS GREATEST_SIGMAS b.0 (fault_as_ok _ _ b.0 b.1) in
    let r = each_places (λ before d. sigma_item (length before) d) sigmas b.0 (boolean false) no_sigma b.2 in
    record {
      items = b.0;
      there = l.0;
      long = r.long;
      some = omega (arith, r.long, l.1);
      few = omega (arith, r.long, l.2);
      at = λ k within. sigma_item_ok (length (take k sigmas)) _ _ (r.at k within);
    }

pub weights_ok : (sigmas : List SigmaPoint) → weights sigmas ≡ Ok tt → sum_by weight_of sigmas ≤ GREATEST_TOTAL_WEIGHT
unfolding weights
weights_ok sigmas e = leb-true (sum_by weight_of sigmas) GREATEST_TOTAL_WEIGHT (test_ok (nat_le (sum_by weight_of sigmas) GREATEST_TOTAL_WEIGHT) tt tt (Weights (pos (sum_by weight_of sigmas))) e).0
