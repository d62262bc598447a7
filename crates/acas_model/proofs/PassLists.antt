-- A document that says a model within its limits passes the rules of its lists.
use Rattle.std.proofs.Common.{◌≡◌, ◌≢◌, ℕ, zero, suc, ◌-◌, ◌^◌, ◌<◌, ◌≤◌, true, false, Bool, IsTrue, ◌==◌, eqb, List, [], ◌∷◌, length, map, take, get_or, position, codes, ℤ, pos, bytes_eq, Some, Ok, refl, sym, subst, ◌∙◌, inl, inr, arith}
use Rattle.std.specs.List.{IsDistinct, list_any, position_or_len}
use Rattle.std.proofs.lemmas.Bool.{cases_Bool, false≢true, eqb-true, le-leb}
use Rattle.std.proofs.lemmas.List.{get_or-map, get_or-take, length-map, length-take}
use Rattle.std.proofs.lemmas.Map.Steps.{length-le_from_distinct_below}
use Rattle.std.proofs.lemmas.Slice.Eq.{bytes_eq-Decides}
use Rattle.toml.specs.Data.{Members, no_members, integer, string, boolean, table}
use Rattle.acas_units.specs.declared.limits.TheConstants.{LEAST_RATE, GREATEST_RATE, LEAST_COST, GREATEST_COST, LEAST_ADVISORIES, GREATEST_ADVISORIES, LEAST_WEIGHT, GREATEST_WEIGHT, LEAST_NOISE, GREATEST_NOISE, LEAST_SIGMAS, GREATEST_SIGMAS}
use Rattle.acas_spec.specs.Axis.{IsBetween}
use Rattle.acas_spec.specs.Model.{ModelData}
use Rattle.acas_spec.specs.Limits.{is_name, IsModel, IsAdvisory, IsChoiceList, IsSigma, AreDistinct}
use Rattle.acas_spec.specs.declared.parts.Advisory.{Advisory}
use Rattle.acas_spec.specs.declared.parts.Choice.{Choice}
use Rattle.acas_spec.specs.declared.parts.SigmaPoint.{SigmaPoint}
use Rattle.acas_doc.specs.Paths.{key_path, item_path}
use Rattle.acas_doc.proofs.Holds.{true-int_le, whole_at_passes, text_at_passes, list_at_passes, text_item_passes, table_item_passes}
use Rattle.acas_model.specs.Advisories.{name_at, advisory_of, advisory_item, advisory_items, new_name, distinct}
use Rattle.acas_model.specs.Choices.{named, choice_item, choice_items, choices_from, some_choice, costs_of, choices_of, choices_item, choice_lists, Advised, advised_of}
use Rattle.acas_model.specs.Noise.{sigma_of, sigma_item, sigma_items, sigmas_of}
use Rattle.acas_model.specs.Text.{HasOnly, HoldsText, HoldsWhole, HoldsList, IsDocumentText}
use Rattle.acas_spec.proofs.Places.{all_from}
use Rattle.acas_model.proofs.Places.{each_from, none_from}
use Rattle.acas_model.proofs.Wholes.{wholes_pass}
use Rattle.acas_model.proofs.PassNumbers.{only_passes, ≤ℤ-trans}
use Rattle.acas_model.proofs.ReadAdvisories.{no_advisory}
use Rattle.acas_model.proofs.ReadChoices.{name_of, no_choice_there}
use Rattle.acas_base.specs.View.{no_sigma}

-- the first place that passes a test is found
pub position_found : {A : Type 0} (p : A → Bool) (xs : List A) (i : ℕ) (d : A) → i < length xs → p (get_or xs i d) ≡ true → ((k : ℕ) → k < i → p (get_or xs k d) ≡ false) → position_or_len p xs ≡ i
position_found p [] i d within here before = absurd (omega (arith, within))
position_found p (x ∷ xs) zero d within here before = rw here refl
position_found p (x ∷ xs) (suc i) d within here before =
    let first : p x ≡ false = before 0 (omega arith) in
    let more = position_found p xs i d (omega (arith, within)) here (λ k h. before (suc k) (omega (arith, h))) in
    rw (first, more) (omega arith)

position_is : {A : Type 0} (p : A → Bool) (xs : List A) (i : ℕ) (d : A) → i < length xs → p (get_or xs i d) ≡ true → ((k : ℕ) → k < i → p (get_or xs k d) ≡ false) → position p xs ≡ Some i
position_is p xs i d within here before = rw (position_found p xs i d within here before, le-leb (suc i) (length xs) (omega (arith, within))) refl

-- ---- distinct names and numbers

equal_bytes : (xs ys : List ℕ) → xs ≡ ys → bytes_eq xs ys ≡ true
equal_bytes xs ys e = (bytes_eq-Decides xs ys).1 e

other_bytes : (xs ys : List ℕ) → xs ≢ ys → bytes_eq xs ys ≡ false
other_bytes xs ys n = elim (cases_Bool (bytes_eq xs ys)) [ inl same ↦ absurd (n ((bytes_eq-Decides xs ys).0 same)) | inr differ ↦ differ ]

other_numbers : (a b : ℕ) → a ≢ b → (a == b) ≡ false
other_numbers a b n = elim (cases_Bool (a == b)) [ inl same ↦ absurd (n (eqb-true a b same)) | inr differ ↦ differ ]

-- two advisories of different places have different names
names_apart : (m : ModelData) → IsModel m → (i j : ℕ) → i < j → j < length m.advisories → (get_or m.advisories i no_advisory).name ≢ (get_or m.advisories j no_advisory).name
names_apart m valid i j above within same =
    let at_i = get_or-map (λ a. a.name) m.advisories i no_advisory [] (omega (arith, above, within)) in
    let at_j = get_or-map (λ a. a.name) m.advisories j no_advisory [] within in
    valid.names.apart i j above (omega (arith, within, length-map m.advisories (λ a. a.name))) (at_i ∙ same ∙ sym at_j)

new_name_passes : (m : ModelData) → IsModel m → (k : ℕ) → k < length m.advisories → new_name (take k m.advisories) (get_or m.advisories k no_advisory) ≡ Ok (get_or m.advisories k no_advisory)
unfolding new_name
new_name_passes m valid k within =
    let none : list_any (λ b. bytes_eq b.name (get_or m.advisories k no_advisory).name) (take k m.advisories) ≡ false =
    none_from (λ b. bytes_eq b.name (get_or m.advisories k no_advisory).name) (take k m.advisories) no_advisory (λ i h.
    let above : i < k = omega (arith, h, length-take k m.advisories) in
    rw (get_or-take k m.advisories i no_advisory above) (other_bytes _ _ (names_apart m valid i k above within))) in
    rw none refl

distinct_passes : (m : ModelData) → IsModel m → distinct m.advisories ≡ Ok m.advisories
unfolding distinct
distinct_passes m valid = each_from new_name [] m.advisories m.advisories no_advisory no_advisory (record { long = refl; at = λ k within. new_name_passes m valid k within })

-- ---- advisories

name_passes : (t : Members) (path name : List ℕ) → HoldsText t (codes "name") name → IsTrue (is_name name) → name_at t path ≡ Ok name
unfolding name_at
name_passes t path name holds is = rw (text_at_passes t path (codes "name") name holds, is) refl

advisory_passes : (t : Members) (path : List ℕ) (place : ℕ) (a : Advisory) → HasOnly (codes "name lo hi choices costs") t → HoldsText t (codes "name") a.name → HoldsWhole t (codes "lo") a.lo
    → HoldsWhole t (codes "hi") a.hi → IsAdvisory a → advisory_of t path place ≡ Ok a
unfolding advisory_of
advisory_passes t path place a keys name lo hi is =
    rw (
      only_passes path (codes "name lo hi choices costs") t keys,
      name_passes t path a.name name is.name,
      whole_at_passes t path (codes "lo") LEAST_RATE GREATEST_RATE a.lo lo is.low (≤ℤ-trans a.lo a.hi GREATEST_RATE is.rising is.high),
      whole_at_passes t path (codes "hi") LEAST_RATE GREATEST_RATE a.hi hi (≤ℤ-trans LEAST_RATE a.lo a.hi is.low is.rising) is.high,
      true-int_le a.lo a.hi is.rising,
    ) refl

advisory_item_passes : (place : ℕ) (t : Members) (a : Advisory) → HasOnly (codes "name lo hi choices costs") t → HoldsText t (codes "name") a.name → HoldsWhole t (codes "lo") a.lo
    → HoldsWhole t (codes "hi") a.hi → IsAdvisory a → advisory_item place (table t) ≡ Ok a
unfolding advisory_item
advisory_item_passes place t a keys name lo hi is =
    rw (table_item_passes (codes "advisory") place t) (advisory_passes t (item_path (codes "advisory") place) place a keys name lo hi is)

-- the place of an item is the number of items before it
place_is : {A : Type 0} (k : ℕ) (xs : List A) → k < length xs → length (take k xs) ≡ k
place_is k xs within = omega (arith, within, length-take k xs)

advisories_pass : (doc : Members) (m : ModelData) (says : IsDocumentText m doc) → IsModel m → advisory_items (map table says.advisory.tables) ≡ Ok m.advisories
unfolding advisory_items
advisories_pass doc m says valid =
    let ts = says.advisory.tables in
    each_from (λ before d. advisory_item (length before) d) [] m.advisories (map table ts) (boolean false) no_advisory (record {
      long = sym says.advisory.long ∙ sym (length-map ts table);
      at = λ k h.
          let in_ts : k < length ts = omega (arith, h, length-map ts table) in
          let in_list : k < length m.advisories = omega (arith, in_ts, says.advisory.long) in
          let item : get_or (map table ts) k (boolean false) ≡ table (get_or ts k no_members) = get_or-map table ts k no_members (boolean false) in_ts in
          let text = says.advisory.says k in_list in
          rw (item, place_is k m.advisories in_list)
          (advisory_item_passes k (get_or ts k no_members) (get_or m.advisories k no_advisory) (says.advisory.keys k in_list) text.name text.lo text.hi (valid.advisories k (omega (arith, in_list, valid.advisory_count))));
    })

-- ---- choices

pub named_is : (m : ModelData) → IsModel m → (a : ℕ) → a < length m.advisories → named m.advisories (name_of m.advisories a) ≡ Some a
named_is m valid a within =
    position_is (λ b. bytes_eq b.name (name_of m.advisories a)) m.advisories a no_advisory within (equal_bytes (name_of m.advisories a) (name_of m.advisories a) refl)
    (λ k above. other_bytes _ _ (names_apart m valid k a above within))

-- the numbers of the choices, and their costs
numbers_in : List Choice → List ℕ
numbers_in choices = map (λ c. c.advisory) choices

costs_in : List Choice → List ℤ
costs_in choices = map (λ c. c.cost) choices

together : (choices : List Choice) → choices_from (numbers_in choices) (costs_in choices) ≡ choices
unfolding numbers_in costs_in
together [] = refl
together (c ∷ choices) = λ i. c ∷ together choices i

choice_passes : (m : ModelData) → IsModel m → (path : List ℕ) (advisory : ℕ) (before : List ℕ) (a : ℕ) → a < length m.advisories → list_any (λ b. b == a) before ≡ false
    → choice_item m.advisories path advisory before (string (name_of m.advisories a)) ≡ Ok a
unfolding choice_item
choice_passes m valid path advisory before a within new = rw (text_item_passes path (length before) (name_of m.advisories a), named_is m valid a within, new) refl

chosen_pass : (m : ModelData) → IsModel m → (path : List ℕ) (advisory : ℕ) (chosen : List ℕ) → ((k : ℕ) → k < length chosen → get_or chosen k 0 < length m.advisories) → AreDistinct 0 chosen
    → choice_items m.advisories path advisory (map (λ a. string (name_of m.advisories a)) chosen) ≡ Ok chosen
unfolding choice_items
chosen_pass m valid path advisory chosen known distinct =
    let ds = map (λ a. string (name_of m.advisories a)) chosen in
    each_from (choice_item m.advisories path advisory) [] chosen ds (boolean false) 0 (record {
      long = sym (length-map chosen (λ a. string (name_of m.advisories a)));
      at = λ k h.
          let within : k < length chosen = omega (arith, h, length-map chosen (λ a. string (name_of m.advisories a))) in
          let item : get_or ds k (boolean false) ≡ string (name_of m.advisories (get_or chosen k 0)) = get_or-map (λ a. string (name_of m.advisories a)) chosen k 0 (boolean false) within in
          let new : list_any (λ b. b == get_or chosen k 0) (take k chosen) ≡ false = none_from (λ b. b == get_or chosen k 0) (take k chosen) 0 (λ i g.
          let above : i < k = omega (arith, g, length-take k chosen) in
          rw (get_or-take k chosen i 0 above) (other_numbers _ _ (distinct.apart i k above within))) in
          rw item (choice_passes m valid path advisory (take k chosen) (get_or chosen k 0) (known k within) new);
    })

-- different numbers below a count are not more than the count
distinct_from : (xs : List ℕ) → AreDistinct 0 xs → IsDistinct eqb xs
unfolding IsDistinct
distinct_from [] h = tt
distinct_from (x ∷ xs) h = (
  all_from (λ y. eqb x y ≡ false) xs 0 (λ k within. other_numbers x (get_or xs k 0) (h.apart 0 (suc k) (omega arith) (omega (arith, within)))),
  distinct_from xs (record { apart = λ i j above within. h.apart (suc i) (suc j) (omega (arith, above)) (omega (arith, within)) }),
)

below_from : (xs : List ℕ) (n : ℕ) → ((k : ℕ) → k < length xs → get_or xs k 0 < n) → (q : ℕ) → list_any (eqb q) xs ≡ true → q < n
below_from [] n below q any = absurd (false≢true any)
below_from (x ∷ xs) n below q any =
    elim (cases_Bool (eqb q x)) [
      | inl same ↦ subst (λ k. k < n) (sym (eqb-true q x same)) (below 0 (omega arith))
      | inr other ↦ below_from xs n (λ k within. below (suc k) (omega (arith, within))) q (rw other at any)
    ]

few_distinct : (xs : List ℕ) (n : ℕ) → AreDistinct 0 xs → ((k : ℕ) → k < length xs → get_or xs k 0 < n) → length xs ≤ n
few_distinct xs n h below = length-le_from_distinct_below xs n (distinct_from xs h) (below_from xs n below)

map_twice : {A B C : Type 0} (f : B → C) (g : A → B) (xs : List A) → map f (map g xs) ≡ map (λ x. f (g x)) xs
map_twice f g [] = refl
map_twice f g (x ∷ xs) = λ i. f (g x) ∷ map_twice f g xs i

some_passes : (advisory count : ℕ) → 0 < count → some_choice advisory count ≡ Ok tt
some_passes advisory count some = rw (other_numbers count 0 (λ e. absurd (omega (arith, some, e)))) refl

choices_pass : (m : ModelData) → IsModel m → (t : Members) (path : List ℕ) (advisory : ℕ) (choices : List Choice) → IsChoiceList (length m.advisories) choices
    → HoldsList t (codes "choices") (map (λ c. string (name_of m.advisories c.advisory)) choices) → HoldsList t (codes "costs") (map (λ c. integer c.cost) choices)
    → choices_of m.advisories t path advisory ≡ Ok choices
unfolding choices_of costs_of numbers_in costs_in
choices_pass m valid t path advisory choices is named_list cost_list =
    let chosen = numbers_in choices in
    let costs = costs_in choices in
    let items = map (λ a. string (name_of m.advisories a)) chosen in
    let named_items : HoldsList t (codes "choices") items = subst (HoldsList t (codes "choices")) (sym (map_twice (λ a. string (name_of m.advisories a)) (λ c. c.advisory) choices)) named_list in
    let cost_items : HoldsList t (codes "costs") (map integer costs) = subst (HoldsList t (codes "costs")) (sym (map_twice integer (λ c. c.cost) choices)) cost_list in
    let long : length items ≡ length choices = length-map chosen (λ a. string (name_of m.advisories a)) ∙ length-map choices (λ c. c.advisory) in
    let long_costs : length (map integer costs) ≡ length choices = length-map costs integer ∙ length-map choices (λ c. c.cost) in
    let known : (k : ℕ) → k < length chosen → get_or chosen k 0 < length m.advisories = λ k h.
    let within : k < length choices = omega (arith, h, length-map choices (λ c. c.advisory)) in
    subst (λ a. a < length m.advisories) (sym (get_or-map (λ c. c.advisory) choices k no_choice_there 0 within)) (is.each k within).advisory in
    let paid : (k : ℕ) → k < length costs → IsBetween LEAST_COST GREATEST_COST (get_or costs k (pos 0)) = λ k h.
    let within : k < length choices = omega (arith, h, length-map choices (λ c. c.cost)) in
    subst (IsBetween LEAST_COST GREATEST_COST) (sym (get_or-map (λ c. c.cost) choices k no_choice_there (pos 0) within)) (is.each k within).cost in
    let few : length items ≤ 2 ^ 32 - 1 = omega (arith, long, length-map choices (λ c. c.advisory), few_distinct chosen (length m.advisories) is.distinct known, valid.advisory_count, valid.grid.few_advisories) in
    rw (
      list_at_passes t path (codes "choices") 0 (2 ^ 32 - 1) items named_items (omega arith) few,
      some_passes advisory (length items) (omega (arith, long, is.some)),
      chosen_pass m valid (key_path path (codes "choices")) advisory chosen known is.distinct,
      list_at_passes t path (codes "costs") (length items) (length items) (map integer costs) cost_items (omega (arith, long, long_costs)) (omega (arith, long, long_costs)),
      wholes_pass (key_path path (codes "costs")) LEAST_COST GREATEST_COST costs (record { bounded = paid }),
      together choices,
    ) refl

choices_item_passes : (m : ModelData) → IsModel m → (place : ℕ) (t : Members) (choices : List Choice) → IsChoiceList (length m.advisories) choices
    → HoldsList t (codes "choices") (map (λ c. string (name_of m.advisories c.advisory)) choices) → HoldsList t (codes "costs") (map (λ c. integer c.cost) choices)
    → choices_item m.advisories place (table t) ≡ Ok choices
unfolding choices_item
choices_item_passes m valid place t choices is named_list cost_list =
    rw (table_item_passes (codes "advisory") place t) (choices_pass m valid t (item_path (codes "advisory") place) place choices is named_list cost_list)

lists_pass : (doc : Members) (m : ModelData) (says : IsDocumentText m doc) → IsModel m → choice_lists m.advisories (map table says.advisory.tables) ≡ Ok m.choices
unfolding choice_lists
lists_pass doc m says valid =
    let ts = says.advisory.tables in
    let count : length m.choices ≡ length m.advisories = valid.choice_count ∙ sym valid.advisory_count in
    each_from (λ before d. choices_item m.advisories (length before) d) [] m.choices (map table ts) (boolean false) [] (record {
      long = count ∙ sym says.advisory.long ∙ sym (length-map ts table);
      at = λ k h.
          let in_ts : k < length ts = omega (arith, h, length-map ts table) in
          let in_list : k < length m.advisories = omega (arith, in_ts, says.advisory.long) in
          let in_choices : k < length m.choices = omega (arith, in_list, count) in
          let item : get_or (map table ts) k (boolean false) ≡ table (get_or ts k no_members) = get_or-map table ts k no_members (boolean false) in_ts in
          let text = says.advisory.says k in_list in
          let is : IsChoiceList (length m.advisories) (get_or m.choices k []) = subst (λ n. IsChoiceList n (get_or m.choices k [])) (sym valid.advisory_count) (valid.choices k (omega (arith, in_list, valid.advisory_count))) in
          rw (item, place_is k m.choices in_choices) (choices_item_passes m valid k (get_or ts k no_members) (get_or m.choices k []) is text.choices text.costs);
    })

abbrev pub advised_in : ModelData → Advised
advised_in m = record { advisories = m.advisories; choices = m.choices }

pub advised_passes : (doc : Members) (m : ModelData) → IsDocumentText m doc → IsModel m → advised_of doc ≡ Ok (advised_in m)
unfolding advised_of
advised_passes doc m says valid =
    let ts = says.advisory.tables in
    let long : length (map table ts) ≡ m.grid.advisories = length-map ts table ∙ says.advisory.long ∙ valid.advisory_count in
    rw (
      list_at_passes doc [] (codes "advisory") LEAST_ADVISORIES GREATEST_ADVISORIES (map table ts) says.advisory.there (omega (arith, long, valid.grid.some_advisories)) (omega (arith, long, valid.grid.few_advisories)),
      advisories_pass doc m says valid,
      distinct_passes m valid,
      lists_pass doc m says valid,
    ) refl

-- ---- sigma points

sigma_passes : (t : Members) (path : List ℕ) (p : SigmaPoint) → HasOnly (codes "weight own intruder") t → HoldsWhole t (codes "weight") p.weight → HoldsWhole t (codes "own") p.own
    → HoldsWhole t (codes "intruder") p.intruder → IsSigma p → sigma_of t path ≡ Ok p
unfolding sigma_of
sigma_passes t path p keys weight own intruder is =
    rw (
      only_passes path (codes "weight own intruder") t keys,
      whole_at_passes t path (codes "weight") LEAST_WEIGHT GREATEST_WEIGHT p.weight weight is.weight.low is.weight.high,
      whole_at_passes t path (codes "own") LEAST_NOISE GREATEST_NOISE p.own own is.own.low is.own.high,
      whole_at_passes t path (codes "intruder") LEAST_NOISE GREATEST_NOISE p.intruder intruder is.intruder.low is.intruder.high,
    ) refl

sigma_item_passes : (place : ℕ) (t : Members) (p : SigmaPoint) → HasOnly (codes "weight own intruder") t → HoldsWhole t (codes "weight") p.weight → HoldsWhole t (codes "own") p.own
    → HoldsWhole t (codes "intruder") p.intruder → IsSigma p → sigma_item place (table t) ≡ Ok p
unfolding sigma_item
sigma_item_passes place t p keys weight own intruder is = rw (table_item_passes (codes "sigma") place t) (sigma_passes t (item_path (codes "sigma") place) p keys weight own intruder is)

pub sigmas_pass : (doc : Members) (m : ModelData) → IsDocumentText m doc → IsModel m → sigmas_of doc ≡ Ok m.sigmas
unfolding sigmas_of sigma_items
sigmas_pass doc m says valid =
    let ts = says.sigma.tables in
    let long : length (map table ts) ≡ length m.sigmas = length-map ts table ∙ says.sigma.long in
    let items : sigma_items (map table ts) ≡ Ok m.sigmas = each_from (λ before d. sigma_item (length before) d) [] m.sigmas (map table ts) (boolean false) no_sigma (record {
      long = sym long;
      at = λ k h.
          let in_ts : k < length ts = omega (arith, h, length-map ts table) in
          let in_list : k < length m.sigmas = omega (arith, in_ts, says.sigma.long) in
          let item : get_or (map table ts) k (boolean false) ≡ table (get_or ts k no_members) = get_or-map table ts k no_members (boolean false) in_ts in
          let text = says.sigma.says k in_list in
          rw (item, place_is k m.sigmas in_list) (sigma_item_passes k (get_or ts k no_members) (get_or m.sigmas k no_sigma) (says.sigma.keys k in_list) text.weight text.own text.intruder (valid.sigmas k in_list));
    }) in
    rw (list_at_passes doc [] (codes "sigma") LEAST_SIGMAS GREATEST_SIGMAS (map table ts) says.sigma.there (omega (arith, long, valid.some_sigmas)) (omega (arith, long, valid.few_sigmas)), items) refl
