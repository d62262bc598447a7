-- The files of a form say one model, one table's advices, one list of boxes and one encounter.
use Rattle.std.proofs.Common.{◌≡◌, ℕ, zero, suc, ◌+◌, ◌-◌, ◌*◌, ◌/◌, ◌%◌, ◌<◌, ◌≤◌, List, length, get_or, Option, Some, Result, Ok, sym, ap, subst, ◌∙◌, arith}
use Rattle.std.specs.FinMap.{get}
use Rattle.std.proofs.lemmas.List.{ext_get_or}
use Rattle.std.proofs.Math.Nat.{div-add-mod, div-lt_iff_lt-mul, mod-lt, mul_comm}
use Rattle.sha2.specs.Sha256.{sha256}
use Rattle.acas_spec.specs.Model.{ModelData, states}
use Rattle.acas_spec.specs.Table.{Table}
use Rattle.acas_spec.specs.declared.place.Vertex.{Vertex}
use Rattle.acas_grid.specs.Grid.{state_number, vertex_number}
use Rattle.acas_grid.specs.States.{state_present, state_vertex}
use Rattle.acas_grid.proofs.StateNumbers.{state_number-parts, state_present-below}
use Rattle.acas_process.specs.Cost.{IsEntry}
use Rattle.acas_means.proofs.NumberedStates.{IsVertex-state_vertex}
use Rattle.acas_table_text.specs.Shape.{shape_of}
use Rattle.acas_table_text.specs.Text.{entry_at}
use Rattle.acas_accept.specs.GivenTable.{entry_place}
use Rattle.acas_base.specs.Advices.{AdvicesData, AreAdvicesOf, advice_at}
use Rattle.acas_outside.specs.Files.{Files}
use Rattle.acas_doc.specs.declared.input_fault.InputFault.{InputFault}
use Rattle.acas_model.specs.Whole.{model_of}
use Rattle.acas_command.specs.InputFile.{IsInputFile}
use Rattle.acas_command.specs.ModelFile.{IsModelFile}
use Rattle.acas_table_file.specs.AcceptedFile.{IsTableOf}
use Rattle.acas_table_file.specs.Worth.{AreTabled}

same_bytes : (file : Option (List ℕ)) (a b : List ℕ) → file ≡ Some a → file ≡ Some b → a ≡ b
same_bytes file a b is other = let both = sym is ∙ other in cc both

-- a file is the text of one model
pub record IsOneModel (digest other : List ℕ) (m n : ModelData) : Type 0 where
  pub digests : digest ≡ other
  pub models : m ≡ n

pub one-model : (file : Option (List ℕ)) (digest other : List ℕ) (m n : ModelData) → IsModelFile file digest m → IsModelFile file other n → IsOneModel digest other m n
one-model file digest other m n is also =
    let same : is.bytes ≡ also.bytes = same_bytes file is.bytes also.bytes is.text.there also.text.there in
    let read : Ok m ≡ Ok n = sym is.read ∙ ap model_of same ∙ also.read in
    record { digests = is.hashed ∙ ap sha256 same ∙ sym also.hashed; models = cc read }

-- a file beside a model's says one thing
pub one-input : {A : Type 0} (read : List ℕ → Result A InputFault) (file : Option (List ℕ)) (said other : A) → IsInputFile read file said → IsInputFile read file other → said ≡ other
one-input {A} read file said other is also =
    let same : is.bytes ≡ also.bytes = same_bytes file is.bytes also.bytes is.text.there also.text.there in
    let both : Ok said ≡ Ok other = sym is.is_read ∙ ap read same ∙ also.is_read in
    cc both

-- ---- advices

-- the layer and the state of a place
pub record IsPlaceOf (h s place : ℕ) : Type 0 where
  pub layer : place / s < h
  pub state : place % s < s
  pub is : (place / s + 1 - 1) * s + place % s ≡ place

pub place-parts : (h s place : ℕ) → place < h * s → IsPlaceOf h s place
place-parts h zero place inside = absurd (omega (arith, inside))
place-parts h (suc s) place inside = record {
  layer = (div-lt_iff_lt-mul {k = suc s} {x = place} {y = h} (omega arith)).1 inside;
  state = mod-lt place {m = suc s} (omega arith);
  is = ap (λ (n : ℕ). n * suc s + place % suc s) (let one : place / suc s + 1 - 1 ≡ place / suc s = omega arith in one)
      ∙ omega (arith, div-add-mod place (suc s), mul_comm (suc s) (place / suc s));
}

-- advices of a model that are the same at each layer and state
pub one-advices : (m : ModelData) (a b : AdvicesData) → AreAdvicesOf m a → AreAdvicesOf m b
    → ((n state : ℕ) → 1 ≤ n → n ≤ m.grid.horizon → state < states m.grid → advice_at a n state ≡ advice_at b n state) → a ≡ b
one-advices m a b fits other each = λ i. record { horizon = horizons i; states = counts i; advisories = numbers i; advice = advices i }
  where
    horizons : a.horizon ≡ b.horizon
    horizons = fits.horizon ∙ sym other.horizon

    counts : a.states ≡ b.states
    counts = fits.states ∙ sym other.states

    numbers : a.advisories ≡ b.advisories
    numbers = fits.advisories ∙ sym other.advisories

    long : length a.advice ≡ length b.advice
    long = fits.count ∙ ap (λ (n : ℕ). n * a.states) horizons ∙ ap (λ (n : ℕ). b.horizon * n) counts ∙ sym other.count

    at : (place : ℕ) → place < length a.advice → get_or a.advice place 0 ≡ get_or b.advice place 0
    at place within =
        let p = place-parts a.horizon a.states place (subst (λ (n : ℕ). place < n) fits.count within) in
        let n : ℕ = place / a.states + 1 in
        let state : ℕ = place % a.states in
        let low : n ≤ m.grid.horizon = omega (arith, p.layer, fits.horizon) in
        let small : state < states m.grid = omega (arith, p.state, fits.states) in
        let same : get_or a.advice ((n - 1) * a.states + state) 0 ≡ get_or b.advice ((n - 1) * b.states + state) 0 = each n state (omega arith) low small in
        let here : (n - 1) * b.states + state ≡ place = ap (λ (s : ℕ). (n - 1) * s + state) (sym counts) ∙ p.is in
        ap (λ (k : ℕ). get_or a.advice k 0) (sym p.is) ∙ same ∙ ap (λ (k : ℕ). get_or b.advice k 0) here

    advices : a.advice ≡ b.advice
    advices = ext_get_or 0 a.advice b.advice long at

-- an accepted table of a model has one list of advices
pub record IsOneTable (m n : ModelData) (a b : AdvicesData) : Type 0 where
  pub models : m ≡ n
  pub advices : a ≡ b

pub one-table : (model table : List ℕ) (files : Files) (m n : ModelData) (a b : AdvicesData) → IsTableOf model table files m a → IsTableOf model table files n b → IsOneTable m n a b
one-table model table files m n a b is also = record { models = models.models; advices = of_one n models.models b also }
  where
    models : IsOneModel is.digest also.digest m n
    models = one-model (get files model) is.digest also.digest m n is.model_file also.model_file

    of_same : (other : AdvicesData) → IsTableOf model table files m other → a ≡ other
    of_same other o =
        let same : is.table_file.bytes ≡ o.table_file.bytes = same_bytes (get files table) is.table_file.bytes o.table_file.bytes is.table_file.there o.table_file.there in
        one-advices m a other is.fits o.fits (λ k state some low small.
        is.table_file.held.each k state some low small
        ∙ ap (λ (bytes : List ℕ). (entry_at (shape_of m.grid) bytes (entry_place m.grid k state)).advice) same
        ∙ sym (o.table_file.held.each k state some low small))

    of_one : (k : ModelData) → m ≡ k → (other : AdvicesData) → IsTableOf model table files k other → a ≡ other
    of_one k e other o = of_same other (subst (λ (x : ModelData). IsTableOf model table files x other) (sym e) o)

-- a table has one list of advices that fits a model
pub one-tabled : (m : ModelData) (t : Table) (a b : AdvicesData) → AreAdvicesOf m a → AreAdvicesOf m b → AreTabled m t a → AreTabled m t b → a ≡ b
one-tabled m t a b fits other tabled also =
    one-advices m a b fits other (λ n state some low small.
    let p : ℕ = state_present m.grid state in
    let x : Vertex = state_vertex m.grid state in
    let entry : IsEntry m n p x = record { seconds = low; present = state_present-below m.grid state small; vertex = IsVertex-state_vertex m.grid state small } in
    let is : state_number m.grid p (vertex_number m.grid x) ≡ state = state_number-parts m.grid state in
    subst (λ (s : ℕ). advice_at a n s ≡ advice_at b n s) is (tabled.each n p x some entry ∙ sym (also.each n p x some entry)))
