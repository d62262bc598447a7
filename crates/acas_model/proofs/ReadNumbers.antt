-- The numbers of the tables `puck`, `closing`, `pilot` and `cost`, and the keys of each table.
use Rattle.std.proofs.Common.{◌≡◌, ℕ, ◌*◌, ◌<◌, ◌≤◌, nat_le, List, [], codes, ℤ, pos, unsigned_abs, Some, Result, Ok, Err, refl, sym, subst, ap, ◌∙◌, inl, inr, arith}
use Rattle.std.proofs.lemmas.Bool.{cases_Bool, leb-true, leb-false}
use Rattle.toml.specs.Data.{Members, table, get_member}
use Rattle.acas_units.specs.declared.limits.TheConstants.{LEAST_RADIUS, GREATEST_RADIUS, LEAST_HALF_HEIGHT, GREATEST_HALF_HEIGHT, LEAST_CLOSING, GREATEST_CLOSING, LEAST_PULL, GREATEST_LIMIT, GREATEST_DELAY, LEAST_COST, GREATEST_COST}
use Rattle.acas_units.specs.declared.ticks.TheConstants.{TICKS_PER_FOOT}
use Rattle.acas_spec.specs.Axis.{IsBetween}
use Rattle.acas_spec.specs.Steps.{◌>>◌}
use Rattle.acas_spec.proofs.Each.{bind_ok, same_ok}
use Rattle.acas_doc.specs.Keys.{table_at, whole_at}
use Rattle.acas_doc.specs.Known.{only_known}
use Rattle.acas_doc.proofs.Holds.{fault_as_ok, whole_at_ok, table_at_ok}
use Rattle.acas_doc.proofs.LeastUnknown.{only_known_passes}
use Rattle.acas_model.specs.declared.fault.ModelFault.{ModelFault}
use Rattle.acas_model.specs.declared.numbers.TheConstants.{DELAY_VERSION}
use Rattle.acas_base.specs.declared.numbers.Puck.{Puck}
use Rattle.acas_base.specs.declared.numbers.Closing.{Closing}
use Rattle.acas_base.specs.declared.numbers.Pilot.{Pilot}
use Rattle.acas_base.specs.declared.numbers.Numbers.{Numbers}
use Rattle.acas_model.specs.Document.{in_doc, number_at, closed_table}
use Rattle.acas_model.specs.Numbers.{puck_table, half_height, puck_of, closing_of, pilot_keys, delay_of, pilot_of, contact_of, numbers_of}
use Rattle.acas_model.specs.Text.{HasOnly, HoldsWhole}
use Rattle.acas_model.proofs.Numerals.{abs_between}

-- a step that gave nothing but that it passed
pub step_ok : {A E : Type 0} (u : Result (Unit {0}) E) (r : Result A E) (x : A) → (u >> r) ≡ Ok x → (u ≡ Ok tt) × (r ≡ Ok x)
step_ok (Ok y) r x e = (refl, e)
step_ok (Err d) r x e = absurd cc

-- a step of which nothing is used later
pub passed_ok : {A B E : Type 0} (r : Result B E) (s : Result A E) (x : A) → (r >> s) ≡ Ok x → (y : B) × (r ≡ Ok y) × (s ≡ Ok x)
passed_ok (Ok y) s x e = (y, refl, e)
passed_ok (Err d) s x e = absurd cc

pub only_ok : (path known : List ℕ) (ms : Members) → in_doc (only_known path known ms) ≡ Ok tt → HasOnly known ms
only_ok path known ms e = record { none = (only_known_passes path known ms).0 (fault_as_ok _ _ tt e) }

-- a number that was read
pub record IsNumber (ms : Members) (key : List ℕ) (least greatest n : ℕ) : Type 0 where
  pub holds : HoldsWhole ms key (pos n)
  pub low : least ≤ n
  pub high : n ≤ greatest

pub number_ok : (ms : Members) (path key : List ℕ) (least greatest n : ℕ) → number_at ms path key least greatest ≡ Ok n → IsNumber ms key least greatest n
unfolding number_at
number_ok ms path key least greatest n e =
    let b = bind_ok (in_doc (whole_at ms path key (pos least) (pos greatest))) (λ z. Ok (unsigned_abs z)) n e in
    let same : unsigned_abs b.0 ≡ n = same_ok {E = ModelFault} _ _ b.2 in
    let w = whole_at_ok ms path key (pos least) (pos greatest) b.0 (fault_as_ok _ _ b.0 b.1) in
    let size = abs_between least greatest b.0 w.1 w.2 in
    record {
      holds = subst (HoldsWhole ms key) (size.0 ∙ ap pos same) w.0;
      low = subst (λ k. least ≤ k) same size.1;
      high = subst (λ k. k ≤ greatest) same size.2;
    }

-- a table that was found
pub record IsTable (ms : Members) (key known : List ℕ) (inner : Members) : Type 0 where
  pub there : get_member key ms ≡ Some (table inner)
  pub keys : HasOnly known inner

pub table_ok : (doc : Members) (key known : List ℕ) (inner : Members) → closed_table doc key known ≡ Ok inner → IsTable doc key known inner
unfolding closed_table
table_ok doc key known inner e =
    let b = bind_ok (in_doc (table_at doc [] key)) (λ t. in_doc (only_known key known t) >> Ok t) inner e in
    let s = step_ok (in_doc (only_known key known b.0)) (Ok b.0) inner b.2 in
    let same : b.0 ≡ inner = same_ok {E = ModelFault} _ _ s.1 in
    record {
      there = subst (λ t. get_member key doc ≡ Some (table t)) same (table_at_ok doc [] key b.0 (fault_as_ok _ _ b.0 b.1));
      keys = subst (HasOnly known) same (only_ok key known b.0 s.0);
    }

pub record IsReadPuck (doc : Members) (p : Puck) : Type 0 where
  pub inner : Members
  pub is_table : IsTable doc (codes "puck") (codes "radius half_height") inner
  pub radius : IsNumber inner (codes "radius") LEAST_RADIUS GREATEST_RADIUS p.radius
  pub feet : ℕ
  pub half_height : IsNumber inner (codes "half_height") LEAST_HALF_HEIGHT GREATEST_HALF_HEIGHT feet
  pub half : p.half ≡ TICKS_PER_FOOT * feet

pub puck_ok : (doc : Members) (p : Puck) → puck_of doc ≡ Ok p → IsReadPuck doc p
unfolding puck_of puck_table half_height
puck_ok doc p e =
    let b = bind_ok (puck_table doc) _ p e in
    let r = bind_ok (number_at b.0 (codes "puck") (codes "radius") LEAST_RADIUS GREATEST_RADIUS) _ p b.2 in
    let h = bind_ok (half_height b.0) _ p r.2 in
    let same : record { radius = r.0; half = TICKS_PER_FOOT * h.0 } ≡ p = same_ok {E = ModelFault} _ _ h.2 in
    record {
      inner = b.0;
      is_table = table_ok doc (codes "puck") (codes "radius half_height") b.0 b.1;
      radius = subst (IsNumber b.0 (codes "radius") LEAST_RADIUS GREATEST_RADIUS) (ap (λ q. q.radius) same) (number_ok b.0 (codes "puck") (codes "radius") LEAST_RADIUS GREATEST_RADIUS r.0 r.1);
      feet = h.0;
      half_height = number_ok b.0 (codes "puck") (codes "half_height") LEAST_HALF_HEIGHT GREATEST_HALF_HEIGHT h.0 h.1;
      half = sym (ap (λ q. q.half) same);
    }

pub record IsReadClosing (doc : Members) (c : Closing) : Type 0 where
  pub inner : Members
  pub is_table : IsTable doc (codes "closing") (codes "least greatest") inner
  pub least : IsNumber inner (codes "least") LEAST_CLOSING GREATEST_CLOSING c.least
  pub greatest : IsNumber inner (codes "greatest") c.least GREATEST_CLOSING c.greatest

pub closing_ok : (doc : Members) (c : Closing) → closing_of doc ≡ Ok c → IsReadClosing doc c
unfolding closing_of
closing_ok doc c e =
    let b = bind_ok (closed_table doc (codes "closing") (codes "least greatest")) _ c e in
    let l = bind_ok (number_at b.0 (codes "closing") (codes "least") LEAST_CLOSING GREATEST_CLOSING) _ c b.2 in
    let g = bind_ok (number_at b.0 (codes "closing") (codes "greatest") l.0 GREATEST_CLOSING) _ c l.2 in
    let made : Closing = record { least = l.0; greatest = g.0 } in
    let same : made ≡ c = same_ok {E = ModelFault} _ _ g.2 in
    subst (IsReadClosing doc) same (record {
      inner = b.0;
      is_table = table_ok doc (codes "closing") (codes "least greatest") b.0 b.1;
      least = number_ok b.0 (codes "closing") (codes "least") LEAST_CLOSING GREATEST_CLOSING l.0 l.1;
      greatest = number_ok b.0 (codes "closing") (codes "greatest") l.0 GREATEST_CLOSING g.0 g.1;
    })

-- a delay that was read, or that the version does not say
pub record IsReadDelay (pilot : Members) (version n : ℕ) : Type 0 where
  pub unsaid : version < DELAY_VERSION → n ≡ 0
  pub said : DELAY_VERSION ≤ version → HoldsWhole pilot (codes "delay") (pos n)
  pub high : n ≤ GREATEST_DELAY

delay_ok : (pilot : Members) (version n : ℕ) → delay_of pilot version ≡ Ok n → IsReadDelay pilot version n
unfolding delay_of
delay_ok pilot version n e =
    elim (cases_Bool (nat_le DELAY_VERSION version)) [
      | inl has ↦
          let r = number_ok pilot (codes "pilot") (codes "delay") 0 GREATEST_DELAY n (rw has at e) in
          record { unsaid = λ before. absurd (omega (arith, before, leb-true DELAY_VERSION version has)); said = λ h. r.holds; high = r.high }
      | inr none ↦
          let zero_is : 0 ≡ n = same_ok {E = ModelFault} 0 n (rw none at e) in
          record { unsaid = λ h. sym zero_is; said = λ from. absurd (omega (arith, from, leb-false DELAY_VERSION version none)); high = omega (arith, zero_is) }
    ]

pub record IsReadPilot (doc : Members) (version : ℕ) (p : Pilot) : Type 0 where
  pub inner : Members
  pub is_table : IsTable doc (codes "pilot") (pilot_keys version) inner
  pub pull : IsNumber inner (codes "pull") LEAST_PULL GREATEST_LIMIT p.pull
  pub limit : IsNumber inner (codes "limit") p.pull GREATEST_LIMIT p.limit
  pub delay : IsReadDelay inner version p.delay

pub pilot_ok : (doc : Members) (version : ℕ) (p : Pilot) → pilot_of doc version ≡ Ok p → IsReadPilot doc version p
unfolding pilot_of
pilot_ok doc version p e =
    let b = bind_ok (closed_table doc (codes "pilot") (pilot_keys version)) _ p e in
    let l = bind_ok (number_at b.0 (codes "pilot") (codes "pull") LEAST_PULL GREATEST_LIMIT) _ p b.2 in
    let g = bind_ok (number_at b.0 (codes "pilot") (codes "limit") l.0 GREATEST_LIMIT) _ p l.2 in
    let d = bind_ok (delay_of b.0 version) _ p g.2 in
    let made : Pilot = record { pull = l.0; limit = g.0; delay = d.0 } in
    let same : made ≡ p = same_ok {E = ModelFault} _ _ d.2 in
    subst (IsReadPilot doc version) same (record {
      inner = b.0;
      is_table = table_ok doc (codes "pilot") (pilot_keys version) b.0 b.1;
      pull = number_ok b.0 (codes "pilot") (codes "pull") LEAST_PULL GREATEST_LIMIT l.0 l.1;
      limit = number_ok b.0 (codes "pilot") (codes "limit") l.0 GREATEST_LIMIT g.0 g.1;
      delay = delay_ok b.0 version d.0 d.1;
    })

pub record IsReadContact (doc : Members) (z : ℤ) : Type 0 where
  pub inner : Members
  pub is_table : IsTable doc (codes "cost") (codes "contact") inner
  pub contact : HoldsWhole inner (codes "contact") z
  pub within : IsBetween LEAST_COST GREATEST_COST z

pub contact_ok : (doc : Members) (z : ℤ) → contact_of doc ≡ Ok z → IsReadContact doc z
unfolding contact_of
contact_ok doc z e =
    let b = bind_ok (closed_table doc (codes "cost") (codes "contact")) _ z e in
    let w = whole_at_ok b.0 (codes "cost") (codes "contact") LEAST_COST GREATEST_COST z (fault_as_ok _ _ z b.2) in
    record {
      inner = b.0;
      is_table = table_ok doc (codes "cost") (codes "contact") b.0 b.1;
      contact = w.0;
      within = record { low = w.1; high = w.2 };
    }

pub record IsReadNumbers (doc : Members) (version : ℕ) (n : Numbers) : Type 0 where
  pub puck : IsReadPuck doc n.puck
  pub closing : IsReadClosing doc n.closing
  pub pilot : IsReadPilot doc version n.pilot
  pub contact : IsReadContact doc n.contact

pub numbers_ok : (doc : Members) (version : ℕ) (n : Numbers) → numbers_of doc version ≡ Ok n → IsReadNumbers doc version n
unfolding numbers_of
numbers_ok doc version n e =
    let p = bind_ok (puck_of doc) _ n e in
    let c = bind_ok (closing_of doc) _ n p.2 in
    let l = bind_ok (pilot_of doc version) _ n c.2 in
    let z = bind_ok (contact_of doc) _ n l.2 in
    let made : Numbers = record { puck = p.0; closing = c.0; pilot = l.0; contact = z.0 } in
    let same : made ≡ n = same_ok {E = ModelFault} _ _ z.2 in
    subst (IsReadNumbers doc version) same (record {
      puck = puck_ok doc p.0 p.1;
      closing = closing_ok doc c.0 c.1;
      pilot = pilot_ok doc version l.0 l.1;
      contact = contact_ok doc z.0 z.1;
    })
