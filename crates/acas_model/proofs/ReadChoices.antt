-- The choices that a document says.
use Rattle.std.proofs.Common.{◌≡◌, ◌≢◌, ℕ, zero, suc, ◌-◌, ◌^◌, ◌<◌, true, false, ◌==◌, List, [], ◌∷◌, length, map, take, get_or, codes, ℤ, pos, bytes_eq, Some, Ok, refl, sym, subst, ap, ◌∙◌, arith}
use Rattle.std.specs.List.{list_any}
use Rattle.std.proofs.lemmas.Bool.{false≢true}
use Rattle.std.proofs.lemmas.List.{get_or-map, get_or-take, length-map, length-take}
use Rattle.std.proofs.lemmas.List.Quantifiers.{position-Some}
use Rattle.std.proofs.lemmas.Slice.Eq.{bytes_eq-Decides}
use Rattle.toml.specs.Data.{Data, Members, boolean, integer, string, table}
use Rattle.acas_units.specs.declared.limits.TheConstants.{LEAST_COST, GREATEST_COST}
use Rattle.acas_spec.specs.Axis.{IsBetween}
use Rattle.acas_spec.specs.Limits.{IsChoiceList, AreDistinct}
use Rattle.acas_spec.specs.declared.parts.Advisory.{Advisory}
use Rattle.acas_spec.specs.declared.parts.Choice.{Choice}
use Rattle.acas_spec.proofs.Each.{bind_ok, same_ok}
use Rattle.acas_doc.specs.Values.{or_fault}
use Rattle.acas_doc.specs.Keys.{list_at, text_item, table_item}
use Rattle.acas_doc.specs.Paths.{key_path, item_path}
use Rattle.acas_doc.proofs.Holds.{or_fault_ok, fault_as_ok, list_at_ok, text_item_ok, table_item_ok}
use Rattle.acas_model.specs.declared.fault.ModelFault.{ModelFault}
use Rattle.acas_model.specs.declared.fault.ModelFault.TheVariants.{NoChoice, UnknownName, RepeatedName}
use Rattle.acas_model.specs.Document.{in_doc}
use Rattle.acas_model.specs.Choices.{named, choice_item, choice_items, choices_from, some_choice, costs_of, choices_of, choices_item, choice_lists}
use Rattle.acas_model.specs.Text.{HoldsList}
use Rattle.acas_model.proofs.Places.{ReadAt, each_places, none_at, same_lists}
use Rattle.acas_model.proofs.Wholes.{wholes_ok}
use Rattle.acas_model.proofs.ReadNumbers.{step_ok}
use Rattle.acas_model.proofs.ReadAdvisories.{untest_ok, no_advisory}

-- the name of an advisory by its number
abbrev pub name_of : List Advisory → ℕ → List ℕ
name_of advisories a = (get_or advisories a no_advisory).name

-- a choice that was read
pub record IsReadChoice (advisories : List Advisory) (before : List ℕ) (d : Data) (a : ℕ) : Type 0 where
  pub there : d ≡ string (name_of advisories a)
  pub known : a < length advisories
  pub new : list_any (λ b. b == a) before ≡ false

choice_ok : (advisories : List Advisory) (path : List ℕ) (advisory : ℕ) (before : List ℕ) (d : Data) (a : ℕ) → choice_item advisories path advisory before d ≡ Ok a → IsReadChoice advisories before d a
unfolding choice_item
choice_ok advisories path advisory before d a e =
    let t = bind_ok (in_doc (text_item path (length before) d)) _ a e in
    let unknown = UnknownName (record { advisory = advisory; choice = Some (length before) }) in
    let n = bind_ok (or_fault unknown (named advisories t.0)) _ a t.2 in
    let f = untest_ok (list_any (λ b. b == n.0) before) n.0 a (RepeatedName (record { advisory = advisory; choice = Some (length before) })) n.2 in
    let found = position-Some (λ b. bytes_eq b.name t.0) advisories n.0 no_advisory (or_fault_ok unknown (named advisories t.0) n.0 n.1) in
    let name : name_of advisories n.0 ≡ t.0 = (bytes_eq-Decides _ _).0 found.1 in
    subst (IsReadChoice advisories before d) f.1 (record {
      there = text_item_ok path (length before) d t.0 (fault_as_ok _ _ t.0 t.1) ∙ ap string (sym name);
      known = found.0;
      new = f.0;
    })

-- the choices of a list
record AreReadChoices (advisories : List Advisory) (ds : List Data) (chosen : List ℕ) : Type 0 where
  pub long : length chosen ≡ length ds
  pub there : ds ≡ map (λ a. string (name_of advisories a)) chosen
  pub known : (k : ℕ) → k < length chosen → get_or chosen k 0 < length advisories
  pub distinct : AreDistinct 0 chosen

chosen_ok : (advisories : List Advisory) (path : List ℕ) (advisory : ℕ) (ds : List Data) (chosen : List ℕ) → choice_items advisories path advisory ds ≡ Ok chosen → AreReadChoices advisories ds chosen
unfolding choice_items
chosen_ok advisories path advisory ds chosen e = record {
  long = read.long;
  there = same_lists ds (map (λ a. string (name_of advisories a)) chosen) (boolean false) (sym (length-map chosen (λ a. string (name_of advisories a)) ∙ read.long))
      (λ k within. (item k within).there ∙ sym (get_or-map (λ a. string (name_of advisories a)) chosen k 0 (boolean false) (omega (arith, within, read.long))));
  known = λ k within. (item k (omega (arith, within, read.long))).known;
  distinct = record { apart = apart };
}
  where
    read : ReadAt (choice_item advisories path advisory) [] ds chosen (boolean false) 0
    read = each_places (choice_item advisories path advisory) chosen ds (boolean false) 0 e

    item : (k : ℕ) → k < length ds → IsReadChoice advisories (take k chosen) (get_or ds k (boolean false)) (get_or chosen k 0)
    item k within = choice_ok advisories path advisory (take k chosen) _ _ (read.at k within)

    equal : (a b : ℕ) → a ≡ b → (a == b) ≡ true
    equal a b same = grind (arith, same)

    apart : (i j : ℕ) → i < j → j < length chosen → get_or chosen i 0 ≢ get_or chosen j 0
    apart i j above within same =
        let other = none_at (λ b. b == get_or chosen j 0) (take j chosen) i 0 (item j (omega (arith, within, read.long))).new (omega (arith, above, within, length-take j chosen)) in
        let differs : (get_or chosen i 0 == get_or chosen j 0) ≡ false = rw (get_or-take j chosen i 0 above) at other in
        false≢true (sym differs ∙ equal (get_or chosen i 0) (get_or chosen j 0) same)

-- what is seen of choices that were put together from their numbers and costs
pub chosen_again : {A : Type 0} (f : ℕ → A) (chosen : List ℕ) (costs : List ℤ) → length chosen ≡ length costs → map (λ c. f c.advisory) (choices_from chosen costs) ≡ map f chosen
chosen_again f [] [] long = refl
chosen_again f [] (z ∷ costs) long = absurd (omega (arith, long))
chosen_again f (a ∷ chosen) [] long = absurd (omega (arith, long))
chosen_again f (a ∷ chosen) (z ∷ costs) long =
    let more = chosen_again f chosen costs (omega (arith, long)) in
    λ i. f a ∷ more i

pub costs_again : {A : Type 0} (f : ℤ → A) (chosen : List ℕ) (costs : List ℤ) → length chosen ≡ length costs → map (λ c. f c.cost) (choices_from chosen costs) ≡ map f costs
costs_again f [] [] long = refl
costs_again f [] (z ∷ costs) long = absurd (omega (arith, long))
costs_again f (a ∷ chosen) [] long = absurd (omega (arith, long))
costs_again f (a ∷ chosen) (z ∷ costs) long =
    let more = costs_again f chosen costs (omega (arith, long)) in
    λ i. f z ∷ more i

pub map_same : {A : Type 0} (xs : List A) → map (λ x. x) xs ≡ xs
map_same [] = refl
map_same (x ∷ xs) = λ i. x ∷ map_same xs i

-- the choice where there is none
abbrev pub no_choice_there : Choice
no_choice_there = record { advisory = 0; cost = pos 0 }

choice_list : (count : ℕ) (chosen : List ℕ) (costs : List ℤ) → length chosen ≡ length costs → 0 < length chosen → ((k : ℕ) → k < length chosen → get_or chosen k 0 < count)
    → ((k : ℕ) → k < length costs → IsBetween LEAST_COST GREATEST_COST (get_or costs k (pos 0))) → AreDistinct 0 chosen → IsChoiceList count (choices_from chosen costs)
choice_list count chosen costs long some known within distinct = record {
  some = omega (arith, some, size);
  each = λ k h. record {
    advisory = subst (λ a. a < count) (number k h) (known k (omega (arith, h, size)));
    cost = subst (IsBetween LEAST_COST GREATEST_COST) (cost k h) (within k (omega (arith, h, size, long)));
  };
  distinct = subst (AreDistinct 0) (sym numbers) distinct;
}
  where
    numbers : map (λ c. c.advisory) (choices_from chosen costs) ≡ chosen
    numbers = chosen_again (λ a. a) chosen costs long ∙ map_same chosen

    paid : map (λ c. c.cost) (choices_from chosen costs) ≡ costs
    paid = costs_again (λ z. z) chosen costs long ∙ map_same costs

    size : length (choices_from chosen costs) ≡ length chosen
    size = sym (length-map (choices_from chosen costs) (λ c. c.advisory)) ∙ ap length numbers

    number : (k : ℕ) → k < length (choices_from chosen costs) → get_or chosen k 0 ≡ (get_or (choices_from chosen costs) k no_choice_there).advisory
    number k h = ap (λ xs. get_or xs k 0) (sym numbers) ∙ get_or-map (λ c. c.advisory) (choices_from chosen costs) k no_choice_there 0 h

    cost : (k : ℕ) → k < length (choices_from chosen costs) → get_or costs k (pos 0) ≡ (get_or (choices_from chosen costs) k no_choice_there).cost
    cost k h = ap (λ xs. get_or xs k (pos 0)) (sym paid) ∙ get_or-map (λ c. c.cost) (choices_from chosen costs) k no_choice_there (pos 0) h

some_choice_ok : (advisory count : ℕ) → some_choice advisory count ≡ Ok tt → 0 < count
some_choice_ok advisory count e = omega (arith, not_zero count (untest_ok (count == 0) tt tt (NoChoice advisory) e).0)
  where
    not_zero : (n : ℕ) → (n == 0) ≡ false → 0 < n
    not_zero zero f = absurd (false≢true (sym f))
    not_zero (suc n) f = omega arith

-- the choices and costs in the table of an advisory
pub record IsReadChoices (advisories : List Advisory) (t : Members) (list : List Choice) : Type 0 where
  pub choices : HoldsList t (codes "choices") (map (λ c. string (name_of advisories c.advisory)) list)
  pub costs : HoldsList t (codes "costs") (map (λ c. integer c.cost) list)
  pub is_list : IsChoiceList (length advisories) list

choices_ok : (advisories : List Advisory) (t : Members) (path : List ℕ) (advisory : ℕ) (choices : List Choice) → choices_of advisories t path advisory ≡ Ok choices → IsReadChoices advisories t choices
unfolding choices_of costs_of
choices_ok advisories t path advisory choices e =
    let i = bind_ok (in_doc (list_at t path (codes "choices") 0 (2 ^ 32 - 1))) _ choices e in
    let s = step_ok (some_choice advisory (length i.0)) _ choices i.2 in
    let c = bind_ok (choice_items advisories (key_path path (codes "choices")) advisory i.0) _ choices s.1 in
    let z = bind_ok (costs_of t path (length i.0)) _ choices c.2 in
    let l = bind_ok (in_doc (list_at t path (codes "costs") (length i.0) (length i.0))) _ z.0 z.1 in
    let made : choices_from c.0 z.0 ≡ choices = same_ok {E = ModelFault} _ _ z.2 in
    let named_list = list_at_ok t path (codes "choices") 0 (2 ^ 32 - 1) i.0 (fault_as_ok _ _ i.0 i.1) in
    let cost_list = list_at_ok t path (codes "costs") (length i.0) (length i.0) l.0 (fault_as_ok _ _ l.0 l.1) in
    let chosen = chosen_ok advisories (key_path path (codes "choices")) advisory i.0 c.0 c.1 in
    let costs = wholes_ok (key_path path (codes "costs")) LEAST_COST GREATEST_COST l.0 z.0 (fault_as_ok _ _ z.0 l.2) in
    let long : length c.0 ≡ length z.0 = omega (arith, chosen.long, costs.long, cost_list.1, cost_list.2) in
    let some : 0 < length c.0 = omega (arith, chosen.long, some_choice_ok advisory (length i.0) s.0) in
    subst (IsReadChoices advisories t) made (record {
      choices = subst (HoldsList t (codes "choices")) (chosen.there ∙ sym (chosen_again (λ a. string (name_of advisories a)) c.0 z.0 long)) named_list.0;
      costs = subst (HoldsList t (codes "costs")) (costs.there ∙ sym (costs_again integer c.0 z.0 long)) cost_list.0;
      is_list = choice_list (length advisories) c.0 z.0 long some chosen.known costs.within.bounded chosen.distinct;
    })

pub record IsReadChoicesItem (advisories : List Advisory) (d : Data) (choices : List Choice) : Type 0 where
  pub inner : Members
  pub there : d ≡ table inner
  pub says : IsReadChoices advisories inner choices

choices_item_ok : (advisories : List Advisory) (place : ℕ) (d : Data) (choices : List Choice) → choices_item advisories place d ≡ Ok choices → IsReadChoicesItem advisories d choices
unfolding choices_item
choices_item_ok advisories place d choices e =
    let b = bind_ok (in_doc (table_item (codes "advisory") place d)) _ choices e in
    record {
      inner = b.0;
      there = table_item_ok (codes "advisory") place d b.0 (fault_as_ok _ _ b.0 b.1);
      says = choices_ok advisories b.0 (item_path (codes "advisory") place) place choices b.2;
    }

pub record AreReadLists (advisories : List Advisory) (ds : List Data) (lists : List (List Choice)) : Type 0 where
  pub long : length lists ≡ length ds
  pub at : (k : ℕ) → k < length ds → IsReadChoicesItem advisories (get_or ds k (boolean false)) (get_or lists k [])

pub lists_ok : (advisories : List Advisory) (ds : List Data) (lists : List (List Choice)) → choice_lists advisories ds ≡ Ok lists → AreReadLists advisories ds lists
unfolding choice_lists
lists_ok advisories ds lists e =
    let r = each_places (λ before d. choices_item advisories (length before) d) lists ds (boolean false) [] e in
    record { long = r.long; at = λ k within. choices_item_ok advisories (length (take k lists)) _ _ (r.at k within) }
