-- One more entry, one more layer.
use Rattle.std.proofs.Common.{◌≡◌, ◌≢◌, ℕ, ◌+◌, ◌*◌, ◌<◌, ◌≤◌, false, List, length, get_or, set, Option, None, Some, Err, sym, ◌∙◌, ap, subst, arith, add-one}
use Rattle.std.proofs.lemmas.List.{get_or-set_other, get_or-set_same, length-set}
use Rattle.std.specs.Prelude.{Ok, Vec}
use Rattle.std.specs.Option.{option_map}
use Rattle.std.specs.declared.alloc.Global.{Global}
use borrow.Author.Count.{below_more}
use Rattle.acas_spec.specs.Model.{ModelData, entries, states}
use Rattle.acas_units.specs.declared.pair.Entry.{Entry}
use Rattle.acas_units.specs.declared.pair.Pair.{Pair}
use Rattle.acas_spec.specs.Table.{Table}
use Rattle.acas_process.specs.Cost.{MayChoose}
use Rattle.acas_grid.specs.States.{state_present, state_vertex}
use Rattle.acas_means.specs.Entries.{IsStateEntry}
use Rattle.acas_means.specs.Layer.{AreValuesOf, no_pair}
use Rattle.acas_means.specs.Means.{AreMeansOf}
use Rattle.acas_bounds.specs.Checks.{OfBelow, state_fault}
use Rattle.acas_spec.specs.declared.fault.BoundFault.{BoundFault}
use Rattle.acas_bounds.proofs.Faults.{OfBelow-map}
use Rattle.acas_table_text.specs.Faults.{entry_fault, first_below}
use Rattle.acas_table.specs.Reader.{reader_state, Finishes, GivesEntry, HasRead}
use Rattle.acas_table_text.specs.Shape.{entry_count, shape_of}
use Rattle.acas_table_text.specs.Text.{entry_at}
use Rattle.acas_table_text.specs.declared.fault.TableFault.{TableFault}
use Rattle.acas_table_text.specs.declared.shape.TableShape.{TableShape}
use Rattle.acas_table.specs.declared.reader.TableReader.{TableReader}
use Rattle.acas_table.proofs.Found.{none_below}
use Rattle.acas_accept.specs.Checking.{HasAccepted, HasNoRefusal, IsAnswer, IsBeforeLayer, IsCheckOf, IsInLayer}
use Rattle.acas_accept.specs.GivenTable.{entry_place, given_entry, given_table}
use Rattle.acas_accept.specs.Keeping.{AreRead, MayBeChosen, listed_entry}
use Rattle.acas_accept.specs.Refusals.{entry_refusal}
use Rattle.acas_accept.specs.declared.check.TableCheck.{TableCheck}
use Rattle.acas_accept.specs.Faults.{answered}
use Rattle.acas_accept.specs.declared.refusal.AcceptFault.{AcceptFault}
use Rattle.acas_accept.specs.declared.refusal.AcceptFault.TheVariants.{Refused}
use Rattle.acas_table_text.specs.declared.refusal.TableRefusal.TheVariants as refusals
use Rattle.acas_accept.proofs.Answered.{IsPast, entry_answered_as, entry_same, finish_answered_as, header_of}
use Rattle.acas_accept.proofs.Firsts.{at_end, in_entry, sound_refusal}
use Rattle.acas_accept.proofs.Given.{given-place}
use Rattle.acas_accept.proofs.Places.{entry_place-below}

pub past : (m : ModelData) (digest : List ℕ) (t : TableCheck) (n state : ℕ) (bytes : List ℕ) → IsCheckOf m t n state → HasAccepted m digest t (entry_place m.grid n state) bytes
    → IsPast m digest t.reader (entry_place m.grid n state) bytes
past m digest t n state bytes check accepted = record { stands = accepted.stands; none = accepted.none; shape = check.shape; given = check.given }

-- ---- an entry

pub more_entries : (m : ModelData) (t : TableCheck) (n state : ℕ) → IsCheckOf m t n state → n ≤ m.grid.horizon → state < states m.grid → t.reader.given < entry_count t.reader.shape
more_entries m t n state check seconds inside =
    subst (λ (s : TableShape). t.reader.given < entry_count s) (sym check.shape) (subst (λ (k : ℕ). k < entries m.grid) (sym check.given) (entry_place-below m.grid n state seconds inside))

-- what an entry that is given says of the bytes
pub record Takes (m : ModelData) (entry : Entry) (n state : ℕ) (bytes : List ℕ) : Type 0 where
  pub is : entry ≡ entry_at (shape_of m.grid) bytes (entry_place m.grid n state)
  pub form : entry_fault (shape_of m.grid) bytes (entry_place m.grid n state) ≡ None

pub takes : (m : ModelData) (digest : List ℕ) (r : TableReader) (n state : ℕ) (bytes : List ℕ) (entry : Entry) → IsPast m digest r (entry_place m.grid n state) bytes → GivesEntry digest (reader_state r) bytes (Ok entry) → Takes m entry n state bytes
takes m digest r n state bytes entry is gives = record {
  is = gives.0 ∙ ap (λ (s : TableShape). entry_at s bytes (reader_state r).given) is.shape ∙ ap (entry_at (shape_of m.grid) bytes) is.given;
  form = entry_same m digest r (entry_place m.grid n state) bytes is ∙ gives.1;
}

-- it is that of the table which the bytes are read as
taken_entry : (m : ModelData) (entry : Entry) (n state : ℕ) (bytes : List ℕ) → Takes m entry n state bytes → IsStateEntry m (given_table m.grid bytes) n state entry
taken_entry m entry n state bytes taken =
    let same : entry ≡ given_entry m.grid bytes n (state_present m.grid state) (state_vertex m.grid state) = taken.is ∙ sym (given-place m.grid bytes n state) in
    record { upper = ap (λ (e : Entry). e.pair.upper) same; lower = ap (λ (e : Entry). e.pair.lower) same; advice = ap (λ (e : Entry). e.advice) same }

-- what a check by the means says of it
abbrev pub Says : ModelData → List Pair → Entry → ℕ → ℕ → Option BoundFault → Type 0
Says m means entry n state fault =
    (t : Table) → IsStateEntry m t n state entry → OfBelow (λ k. AreMeansOf m t k means) n → state_fault m t n state ≡ fault

refusal_is : (m : ModelData) (digest : List ℕ) (t : TableCheck) (n state : ℕ) (bytes : List ℕ) (entry : Entry) (fault : Option BoundFault) → state < states m.grid → IsInLayer m digest t n state bytes
    → Takes m entry n state bytes → Says m t.means.items entry n state fault → entry_refusal m bytes (entry_place m.grid n state) ≡ option_map (refusals.Entry n state) fault
refusal_is m digest t n state bytes entry fault inside within taken says =
    sound_refusal m bytes n state fault inside taken.form (says (given_table m.grid bytes) (taken_entry m entry n state bytes taken) within.means)

-- an entry that is not as it is to be
pub fault_answered : (m : ModelData) (digest : List ℕ) (t : TableCheck) (n state : ℕ) (bytes : List ℕ) (fault : TableFault) (answer : AcceptFault) → answer ≡ answered fault
    → IsCheckOf m t n state → n ≤ m.grid.horizon → state < states m.grid → IsInLayer m digest t n state bytes → GivesEntry digest (reader_state t.reader) bytes (Err fault)
    → IsAnswer m digest bytes answer
fault_answered m digest t n state bytes fault answer is check seconds inside within gives =
    entry_answered_as m digest t.reader (entry_place m.grid n state) bytes fault answer is (past m digest t n state bytes check within.accepted) (entry_place-below m.grid n state seconds inside) gives

-- an entry that is not sound
pub unsound_answered : (m : ModelData) (digest : List ℕ) (t : TableCheck) (n state : ℕ) (bytes : List ℕ) (entry : Entry) (fault : BoundFault)
    → IsCheckOf m t n state → n ≤ m.grid.horizon → state < states m.grid → IsInLayer m digest t n state bytes → GivesEntry digest (reader_state t.reader) bytes (Ok entry)
    → Says m t.means.items entry n state (Some fault) → IsAnswer m digest bytes (Refused (refusals.Entry n state fault))
unsound_answered m digest t n state bytes entry fault check seconds inside within gives says =
    let is = past m digest t n state bytes check within.accepted in
    in_entry m digest bytes (entry_place m.grid n state) (refusals.Entry n state fault) (header_of m digest t.reader bytes is.stands is.shape) is.none (entry_place-below m.grid n state seconds inside)
    (refusal_is m digest t n state bytes entry (Some fault) inside within (takes m digest t.reader n state bytes entry is gives) says)

-- what a check keeps of an entry, when its reader has gone on
pub record Keeps (old : TableCheck) (r : TableReader) (new : TableCheck) (state : ℕ) (entry : Entry) : Type 0 where
  pub reader : new.reader ≡ r
  pub means : new.means ≡ old.means
  pub leasts : new.leasts ≡ old.leasts
  pub pairs : new.pairs.items ≡ set old.pairs.items state entry.pair
  pub advice : new.advice.items ≡ set old.advice.items state entry.advice

-- what a reader is after one more
pub record IsOn (old new : TableReader) : Type 0 where
  pub shape : (reader_state new).shape ≡ (reader_state old).shape
  pub given : (reader_state new).given ≡ (reader_state old).given + 1
  pub no_fault : (reader_state new).fault ≡ None
  pub not_done : (reader_state new).done ≡ false

-- the advices of the states below one that is written, and its own
chosen_next : (m : ModelData) (n state : ℕ) (advice : List ℕ) (byte : ℕ) → state < length advice → MayBeChosen m n state advice → (1 ≤ n → MayChoose m (state_present m.grid state) byte)
    → MayBeChosen m n (state + 1) (set advice state byte)
chosen_next m n state advice byte inside before here = record {
  each = λ s some below.
      below_more (λ (k : ℕ). MayChoose m (state_present m.grid k) (get_or (set advice state byte) k 0)) state
      (λ k h. let apart : k ≢ state = λ e. absurd (omega arith) in rw (get_or-set_other advice state k byte 0 apart) (before.each k some h))
      (rw (get_or-set_same advice state byte 0 inside) (here some)) s below;
}

pub check_next : (m : ModelData) (old : TableCheck) (r : TableReader) (new : TableCheck) (n state : ℕ) (entry : Entry) → IsCheckOf m old n state → n ≤ m.grid.horizon → state < states m.grid → IsOn old.reader r
    → Keeps old r new state entry → (1 ≤ n → MayChoose m (state_present m.grid state) entry.advice) → IsCheckOf m new n (state + 1)
check_next m old r new n state entry check seconds inside on keeps allowed = record {
  valid = check.valid;
  shape = ap (λ (x : TableReader). (reader_state x).shape) keeps.reader ∙ on.shape ∙ check.shape;
  given = ap (λ (x : TableReader). (reader_state x).given) keeps.reader ∙ on.given ∙ omega (arith, check.given);
  no_fault = ap (λ (x : TableReader). (reader_state x).fault) keeps.reader ∙ on.no_fault;
  not_done = ap (λ (x : TableReader). (reader_state x).done) keeps.reader ∙ on.not_done;
  pairs = ap length keeps.pairs ∙ length-set old.pairs.items state entry.pair ∙ check.pairs;
  advice = ap length keeps.advice ∙ length-set old.advice.items state entry.advice ∙ check.advice;
  means = ap (λ (v : Vec Pair Global). length v.items) keeps.means ∙ check.means;
  leasts = rw (keeps.means, keeps.leasts) check.leasts;
  allowed = subst (MayBeChosen m n (state + 1)) (sym keeps.advice) (chosen_next m n state old.advice.items entry.advice (omega (arith, check.advice)) check.allowed allowed);
}

-- the entries of the states below one that is written, and its own
read_next : (m : ModelData) (bytes : List ℕ) (n state : ℕ) (pairs : List Pair) (advice : List ℕ) (entry : Entry) → state < length pairs → state < length advice → AreRead m bytes n state pairs advice
    → entry ≡ entry_at (shape_of m.grid) bytes (entry_place m.grid n state) → AreRead m bytes n (state + 1) (set pairs state entry.pair) (set advice state entry.advice)
read_next m bytes n state pairs advice entry inside within before is = record { each = each }
  where
    each : (s : ℕ) → s < state + 1 → listed_entry (set pairs state entry.pair) (set advice state entry.advice) s ≡ entry_at (shape_of m.grid) bytes (entry_place m.grid n s)
    each =
        below_more (λ (s : ℕ). listed_entry (set pairs state entry.pair) (set advice state entry.advice) s ≡ entry_at (shape_of m.grid) bytes (entry_place m.grid n s)) state
        (λ s h.
        let apart : s ≢ state = λ e. absurd (omega arith) in
        rw (get_or-set_other pairs state s entry.pair no_pair apart, get_or-set_other advice state s entry.advice 0 apart) (before.each s h))
        (rw (get_or-set_same pairs state entry.pair no_pair inside, get_or-set_same advice state entry.advice 0 within) is)

place-next : (m : ModelData) (n state : ℕ) → entry_place m.grid n (state + 1) ≡ entry_place m.grid n state + 1
place-next m n state = omega arith

accepted_next : (m : ModelData) (digest : List ℕ) (old : TableCheck) (r : TableReader) (new : TableCheck) (n state : ℕ) (bytes : List ℕ) (entry : Entry) → IsCheckOf m old n state → n ≤ m.grid.horizon → state < states m.grid
    → IsInLayer m digest old n state bytes → Takes m entry n state bytes → HasRead digest r bytes → Says m old.means.items entry n state None → Keeps old r new state entry
    → HasAccepted m digest new (entry_place m.grid n (state + 1)) bytes
accepted_next m digest old r new n state bytes entry check seconds inside within taken stands says keeps = record {
  stands = subst (λ (x : TableReader). HasRead digest x bytes) (sym keeps.reader) stands;
  none =
      ap (first_below (entry_refusal m bytes)) (place-next m n state)
      ∙ none_below (entry_refusal m bytes) (entry_place m.grid n state) within.accepted.none (refusal_is m digest old n state bytes entry None inside within taken says);
}

-- an entry that is sound
pub in_layer_next : (m : ModelData) (digest : List ℕ) (old : TableCheck) (r : TableReader) (new : TableCheck) (n state : ℕ) (bytes : List ℕ) (entry : Entry) → IsCheckOf m old n state → n ≤ m.grid.horizon → state < states m.grid
    → IsInLayer m digest old n state bytes → GivesEntry digest (reader_state old.reader) bytes (Ok entry) → HasRead digest r bytes → Says m old.means.items entry n state None → Keeps old r new state entry
    → IsInLayer m digest new n (state + 1) bytes
in_layer_next m digest old r new n state bytes entry check seconds inside within gives stands says keeps =
    let taken = takes m digest old.reader n state bytes entry (past m digest old n state bytes check within.accepted) gives in
    record {
      accepted = accepted_next m digest old r new n state bytes entry check seconds inside within taken stands says keeps;
      read =
          subst (λ (xs : List Pair). AreRead m bytes n (state + 1) xs new.advice.items) (sym keeps.pairs)
          (subst (λ (xs : List ℕ). AreRead m bytes n (state + 1) (set old.pairs.items state entry.pair) xs) (sym keeps.advice)
          (read_next m bytes n state old.pairs.items old.advice.items entry (omega (arith, check.pairs)) (omega (arith, check.advice)) within.read taken.is));
      means = subst (λ (v : Vec Pair Global). OfBelow (λ k. AreMeansOf m (given_table m.grid bytes) k v.items) n) (sym keeps.means) within.means;
    }

-- ---- a layer

-- the same at an equal count
pub accepted_at : (m : ModelData) (digest : List ℕ) (t : TableCheck) (i j : ℕ) (bytes : List ℕ) → i ≡ j → HasAccepted m digest t i bytes → HasAccepted m digest t j bytes
accepted_at m digest t i j bytes same accepted = subst (λ (k : ℕ). HasAccepted m digest t k bytes) same accepted

-- before its first entry, with the means of the layer below it
pub in_layer_first : (m : ModelData) (digest : List ℕ) (old new : TableCheck) (n : ℕ) (bytes : List ℕ) → new.reader ≡ old.reader
    → ((t : Table) (k : ℕ) → AreValuesOf m t k old.pairs.items → AreMeansOf m t k new.means.items) → IsBeforeLayer m digest old n bytes → IsInLayer m digest new n 0 bytes
in_layer_first m digest old new n bytes reader means before =
    let at : n * states m.grid ≡ entry_place m.grid n 0 = omega arith in
    let accepted : HasAccepted m digest old (entry_place m.grid n 0) bytes = accepted_at m digest old (n * states m.grid) (entry_place m.grid n 0) bytes at before.accepted in
    record {
      accepted = record { stands = subst (λ (x : TableReader). HasRead digest x bytes) (sym reader) accepted.stands; none = accepted.none };
      read = record { each = λ s none. absurd (omega (arith, none)) };
      means =
          OfBelow-map (λ k. AreValuesOf m (given_table m.grid bytes) k old.pairs.items) (λ k. AreMeansOf m (given_table m.grid bytes) k new.means.items) n (λ k values. means (given_table m.grid bytes) k values) before.values;
    }

layer_values_are : (m : ModelData) (digest : List ℕ) (t : TableCheck) (n : ℕ) (bytes : List ℕ) → IsInLayer m digest t n (states m.grid) bytes → AreValuesOf m (given_table m.grid bytes) n t.pairs.items
layer_values_are m digest t n bytes within = record {
  upper = λ s inside. ap (λ (e : Entry). e.pair.upper) (within.read.each s inside ∙ sym (given-place m.grid bytes n s));
  lower = λ s inside. ap (λ (e : Entry). e.pair.lower) (within.read.each s inside ∙ sym (given-place m.grid bytes n s));
}

row_end : (n width : ℕ) → n * width + width ≡ (n + 1) * width
row_end n width = omega arith

-- a layer that is read is the one below the next
pub before_next_layer : (m : ModelData) (digest : List ℕ) (t : TableCheck) (n : ℕ) (bytes : List ℕ) → IsInLayer m digest t n (states m.grid) bytes → IsBeforeLayer m digest t (n + 1) bytes
before_next_layer m digest t n bytes whole = record {
  accepted = accepted_at m digest t (entry_place m.grid n (states m.grid)) ((n + 1) * states m.grid) bytes (row_end n (states m.grid)) whole.accepted;
  values = subst (λ (k : ℕ). OfBelow (λ j. AreValuesOf m (given_table m.grid bytes) j t.pairs.items) k) (sym (add-one n)) (layer_values_are m digest t n bytes whole);
}

row_next : (n width : ℕ) → n * width + width ≡ (n + 1) * width + 0
row_next n width = omega arith

pub check_next_layer : (m : ModelData) (t : TableCheck) (n : ℕ) → IsCheckOf m t n (states m.grid) → IsCheckOf m t (n + 1) 0
check_next_layer m t n check =
    let none : MayBeChosen m (n + 1) 0 t.advice.items = record { each = λ s some none. absurd (omega (arith, none)) } in
    record { valid = check.valid; shape = check.shape; given = check.given ∙ row_next n (states m.grid); no_fault = check.no_fault; not_done = check.not_done; pairs = check.pairs; advice = check.advice; means = check.means; leasts = check.leasts; allowed = none }

-- ---- what follows the entries

past_all : (m : ModelData) (digest : List ℕ) (t : TableCheck) (bytes : List ℕ) → IsCheckOf m t (m.grid.horizon + 1) 0 → HasAccepted m digest t (entries m.grid) bytes → IsPast m digest t.reader (entries m.grid) bytes
past_all m digest t bytes check accepted = record { stands = accepted.stands; none = accepted.none; shape = check.shape; given = omega (arith, check.given) }

pub all_given : (m : ModelData) (t : TableCheck) → IsCheckOf m t (m.grid.horizon + 1) 0 → t.reader.given ≡ entry_count t.reader.shape
all_given m t check = subst (λ (s : TableShape). t.reader.given ≡ entry_count s) (sym check.shape) (omega (arith, check.given))

pub end_answered : (X : Type 0) (m : ModelData) (digest : List ℕ) (t : TableCheck) (bytes : List ℕ) (fault : TableFault) (answer : AcceptFault) → answer ≡ answered fault → IsCheckOf m t (m.grid.horizon + 1) 0
    → HasAccepted m digest t (entries m.grid) bytes → Finishes {X = X} digest t.reader.shape bytes (Err fault) → IsAnswer m digest bytes answer
end_answered X m digest t bytes fault answer is check accepted ends =
    finish_answered_as X m digest t.reader bytes fault answer is (past_all m digest t bytes check accepted)
    (subst (λ (s : TableShape). Finishes {X = X} digest s bytes (Err fault)) check.shape ends)

pub whole : (X : Type 0) (m : ModelData) (digest : List ℕ) (t : TableCheck) (bytes : List ℕ) (x : X) → IsCheckOf m t (m.grid.horizon + 1) 0 → HasAccepted m digest t (entries m.grid) bytes
    → Finishes {X = X} digest t.reader.shape bytes (Ok x) → HasNoRefusal m digest bytes
whole X m digest t bytes x check accepted ends =
    let good = subst (λ (s : TableShape). Finishes {X = X} digest s bytes (Ok x)) check.shape ends in
    record {
      none = at_end m digest bytes None (header_of m digest t.reader bytes accepted.stands check.shape) accepted.none good.0;
      text = good.2;
    }
