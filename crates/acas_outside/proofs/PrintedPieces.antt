-- Text that is printed piece by piece: what a loop over pieces keeps, and what a failure in it leaves.
use Rattle.std.proofs.Common.{◌≡◌, ℕ, ◌+◌, ◌<◌, ◌≤◌, zero, suc, List, [], ◌++◌, length, take, Option, None, Some, refl, sym, ◌∙◌, ap, subst, append_assoc, add-one, length-append, inl, inr, ◌⊎◌, arith}
use Rattle.std.proofs.lemmas.List.{append-nil, take-append-le}
use Rattle.std.proofs.lemmas.Bool.{cases_lt}
use Rattle.std.proofs.Math.Seq.{take-append-add}
use Rattle.std.specs.Io.KnownBytes.{append_known}
use Rattle.acas_outside.specs.Bytes.{Appends, AppendsPart}
use Rattle.acas_outside.specs.Printing.{Prints, below}
use Rattle.acas_outside.proofs.Appended.{append_known-append}

append_known-nil : (known : Option (List ℕ)) → append_known known [] ≡ known
append_known-nil None = refl
append_known-nil (Some xs) = ap Some (append-nil xs)

-- nothing is printed
pub prints_nothing : (told : Option (List ℕ)) (waits : List ℕ) → Prints told told waits waits []
prints_nothing told waits = record { sent = []; written = sym (append_known-nil told); all = append-nil waits }

-- one text and then another
pub prints_both : (old mid new : Option (List ℕ)) (w v u a b : List ℕ) → Prints old mid w v a → Prints mid new v u b → Prints old new w u (a ++ b)
prints_both old mid new w v u a b first then = record {
  sent = first.sent ++ then.sent;
  written =
      then.written ∙ ap (λ k. append_known k then.sent) first.written ∙ append_known-append old first.sent then.sent;
  all =
      sym (append_assoc w a b)
      ∙ ap (λ (l : List ℕ). l ++ b) first.all
      ∙ append_assoc first.sent v b
      ∙ ap (λ (l : List ℕ). first.sent ++ l) then.all
      ∙ sym (append_assoc first.sent then.sent u);
}

-- a part of a text is a part of a longer one
pub part_of_longer : (old new : Option (List ℕ)) (a b : List ℕ) → AppendsPart old new a → AppendsPart old new (a ++ b)
part_of_longer old new a b part = record {
  count = part.count;
  proper = omega (arith, length-append a b, part.proper);
  appended =
      subst (λ (l : List ℕ). Appends old new l) (sym (take-append-le part.count a b (omega (arith, part.proper)))) part.appended;
}

-- bytes that were sent, and then a part of others
part_after_sent : (old mid new : Option (List ℕ)) (sent rest : List ℕ) → Appends old mid sent → AppendsPart mid new rest → AppendsPart old new (sent ++ rest)
part_after_sent old mid new sent rest whole part = record {
  count = length sent + part.count;
  proper = omega (arith, length-append sent rest, part.proper);
  appended =
      part.appended
      ∙ ap (λ k. append_known k (take part.count rest)) whole
      ∙ append_known-append old sent (take part.count rest)
      ∙ ap (append_known old) (sym (take-append-add sent rest part.count));
}

-- a text, and then a part of the next
pub part_of_next : (old mid new : Option (List ℕ)) (w v a b : List ℕ) → Prints old mid w v a → AppendsPart mid new (v ++ b) → AppendsPart old new (w ++ (a ++ b))
part_of_next old mid new w v a b first part =
    let whole : first.sent ++ (v ++ b) ≡ w ++ (a ++ b) =
    sym (append_assoc first.sent v b) ∙ ap (λ (l : List ℕ). l ++ b) (sym first.all) ∙ append_assoc w a b in
    subst (AppendsPart old new) whole (part_after_sent old mid new first.sent (v ++ b) first.written part)

-- all that waited is written out
pub prints_all : (old mid new : Option (List ℕ)) (w v a : List ℕ) → Prints old mid w v a → Appends mid new v → Appends old new (w ++ a)
prints_all old mid new w v a first then =
    then
    ∙ ap (λ k. append_known k v) first.written
    ∙ append_known-append old first.sent v
    ∙ ap (append_known old) (sym first.all)

pub part_of_waiting : (old mid new : Option (List ℕ)) (w v a : List ℕ) → Prints old mid w v a → AppendsPart mid new v → AppendsPart old new (w ++ a)
part_of_waiting old mid new w v a first part =
    subst (AppendsPart old new) (sym first.all) (part_after_sent old mid new first.sent v first.written part)

-- below n f begins with f 0 to f k, for each k below n
pub record BelowBegins (f : ℕ → List ℕ) (n k : ℕ) : Type 0 where
  pub rest : List ℕ
  pub whole : below n f ≡ below k f ++ (f k ++ rest)

begins_next : (f : ℕ → List ℕ) (m k : ℕ) → k < suc m → (k < m → BelowBegins f m k) → ((k < m) ⊎ (m ≤ k)) → BelowBegins f (suc m) k
begins_next f m k here before (inl less) =
    let first = before less in
    record {
      rest = first.rest ++ f m;
      whole =
          ap (λ (l : List ℕ). l ++ f m) first.whole
          ∙ append_assoc (below k f) (f k ++ first.rest) (f m)
          ∙ ap (λ (l : List ℕ). below k f ++ l) (append_assoc (f k) first.rest (f m));
    }
begins_next f m k here before (inr last) =
    let same : m ≡ k = omega arith in
    record {
      rest = [];
      whole = ap (λ (i : ℕ). below i f ++ f i) same ∙ ap (λ (l : List ℕ). below k f ++ l) (sym (append-nil (f k)));
    }

below_begins : (f : ℕ → List ℕ) (n k : ℕ) → k < n → BelowBegins f n k
below_begins f zero k here = absurd (omega arith)
below_begins f (suc m) k here = begins_next f m k here (below_begins f m k) (cases_lt k m)

-- one more turn of a loop that prints f 0, f 1 and so on
pub prints_below : (old mid new : Option (List ℕ)) (w v u : List ℕ) (f : ℕ → List ℕ) (k : ℕ) → Prints old mid w v (below k f) → Prints mid new v u (f k) → Prints old new w u (below (k + 1) f)
prints_below old mid new w v u f k first then =
    rw add-one (prints_both old mid new w v u (below k f) (f k) first then)

-- a turn that fails
pub part_of_below : (old mid new : Option (List ℕ)) (w v : List ℕ) (f : ℕ → List ℕ) (k n : ℕ) → k < n → Prints old mid w v (below k f) → AppendsPart mid new (v ++ f k) → AppendsPart old new (w ++ below n f)
part_of_below old mid new w v f k n here first part =
    let begins = below_begins f n k here in
    let so_far = part_of_longer old new (w ++ (below k f ++ f k)) begins.rest (part_of_next old mid new w v (below k f) (f k) first part) in
    let whole : (w ++ (below k f ++ f k)) ++ begins.rest ≡ w ++ below n f =
    append_assoc w (below k f ++ f k) begins.rest
    ∙ ap (λ (l : List ℕ). w ++ l) (append_assoc (below k f) (f k) begins.rest ∙ sym begins.whole) in
    subst (AppendsPart old new) whole so_far
