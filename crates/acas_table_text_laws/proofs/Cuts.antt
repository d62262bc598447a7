-- A file that is cut short.
use Rattle.std.proofs.Common.{◌≡◌, ℕ, zero, suc, ◌+◌, ◌-◌, ◌<◌, ◌≤◌, List, [], ◌∷◌, length, take, Option, None, Some, refl, sym, ◌∙◌, ap, subst, arith, inl, inr}
use Rattle.std.proofs.lemmas.Bool.{cases_lt}
use Rattle.std.proofs.lemmas.List.{length-take-le}
use Rattle.sha2.specs.Sha256.{sha256}
use Rattle.acas_table_text.specs.Shape.{IsShape, entry_count}
use Rattle.acas_table_text.specs.Format.{digest_start, entry_start, expected_length, format_of, group_size, hashed_from, last_group, length_of, part}
use Rattle.acas_table_text.specs.Text.{entry_of}
use Rattle.acas_table_text.specs.Faults.{advice_fault, digest_field, end_fault, entry_fault, fault_at, fault_in, field_fault, fields_fault, first, first_below, first_fault, header_fault, header_fields, model_fields, more_fault, tail_fault, width_of, widths}
use Rattle.acas_table_text.specs.declared.format.Format.{Format}
use Rattle.acas_table_text.specs.declared.shape.TableShape.{TableShape}
use Rattle.acas_table_text.specs.declared.fault.TableFault.{TableFault}
use Rattle.acas_table_text.specs.declared.fault.TableFault.TheVariants.{Length}
use Rattle.acas_table_text.specs.declared.field.Field.{Field}
use Rattle.acas_table_text.proofs.Parts.{end_found, end_none, part-take}
use Rattle.acas_table_text.proofs.Nones.{first_none}
use Rattle.acas_table_text.proofs.Groups.{some_group}
use Rattle.acas_table_text.proofs.Formats.{bytes_as, digest_as, entry_as, entry_behind, faults_as, first_is, hashed_part, header_as, more_none, tail_as}
use Rattle.acas_table_text_laws.proofs.Behind.{Crosses, Follows, behind-all, behind-start, behind_of, hashed-before, length-last, placed}
use Rattle.acas_table_text_laws.proofs.TextFormats.{format_of_take}

-- of a file that is cut at n bytes, what ends at m is without fault if it is there, and else the file's length is
pub record Cut (e n m : ℕ) (fault : Option TableFault) : Type 0 where
  pub whole : m ≤ n → fault ≡ None
  pub ends : n < m → fault ≡ Some (Length e n)

cut_last : (e n m : ℕ) (a : Option TableFault) → Cut e n m a → Cut e n m (first (a ∷ []))
cut_last e n m a cut = record {
  whole = λ le. ap (λ (o : Option TableFault). first (o ∷ [])) (cut.whole le);
  ends = λ lt. ap (λ (o : Option TableFault). first (o ∷ [])) (cut.ends lt);
}

cut_cons : (e n m k : ℕ) (a : Option TableFault) (rest : List (Option TableFault)) → m ≤ k → Cut e n m a → (m ≤ n → Cut e n k (first rest)) → Cut e n k (first (a ∷ rest))
cut_cons e n m k a rest order cut after = record {
  whole = λ le. ap (λ (o : Option TableFault). first (o ∷ rest)) (cut.whole (omega arith)) ∙ (after (omega arith)).whole le;
  ends = λ lt. elim (cases_lt n m) [
    | inl before ↦ ap (λ (o : Option TableFault). first (o ∷ rest)) (cut.ends before)
    | inr le ↦ ap (λ (o : Option TableFault). first (o ∷ rest)) (cut.whole le) ∙ (after le).ends lt
  ];
}

-- a field without fault is so in the file that is cut behind it
field_there : (e d : ℕ) (bytes : List ℕ) (n at k : ℕ) (fault : List ℕ → Option TableFault) → n ≤ length bytes → at + k ≤ n
    → field_fault e bytes at k fault ≡ None → field_fault d (take n bytes) at k fault ≡ None
field_there e d bytes n at k fault within there none =
    let c = take n bytes in
    let long : length (take n bytes) ≡ n = length-take-le n bytes within in
    let good = first_none (end_fault e bytes at k) (fault (part bytes at k) ∷ []) none in
    let here = first_none (fault (part bytes at k)) [] good.1 in
    ap (λ (o : Option TableFault). first (o ∷ fault (part c at k) ∷ [])) (end_none d c at k (omega arith))
    ∙ ap (λ (p : List ℕ). first (fault p ∷ [])) (part-take bytes n at k there)
    ∙ ap (λ (o : Option TableFault). first (o ∷ [])) here.0

-- and one that is cut before its end has the fault that the file ends
field_ends : (d : ℕ) (bytes : List ℕ) (n at k : ℕ) (fault : List ℕ → Option TableFault) → n ≤ length bytes → n < at + k
    → field_fault d (take n bytes) at k fault ≡ Some (Length d n)
field_ends d bytes n at k fault within short =
    let c = take n bytes in
    let long : length (take n bytes) ≡ n = length-take-le n bytes within in
    ap (λ (o : Option TableFault). first (o ∷ fault (part c at k) ∷ [])) (end_found d c at k (omega arith)) ∙ ap (λ (m : ℕ). Some (Length d m)) long

cut_field : (e d : ℕ) (bytes : List ℕ) (n at k : ℕ) (fault : List ℕ → Option TableFault) → n ≤ length bytes
    → field_fault e bytes at k fault ≡ None → Cut d n (at + k) (field_fault d (take n bytes) at k fault)
cut_field e d bytes n at k fault within none = record {
  whole = λ there. field_there e d bytes n at k fault within there none;
  ends = λ short. field_ends d bytes n at k fault within short;
}

-- two in a row, and three
cut_two : (e n m k : ℕ) (a b c d : Option TableFault) → m ≤ k → (a ≡ None → Cut e n m c) → (m ≤ n → b ≡ None → Cut e n k d) → first (a ∷ b ∷ []) ≡ None → Cut e n k (first (c ∷ d ∷ []))
cut_two e n m k a b c d order fst snd none =
    let x = first_none a (b ∷ []) none in
    let y = first_none b [] x.1 in
    cut_cons e n m k c (d ∷ []) order (fst x.0) (λ there. cut_last e n k d (snd there y.0))

cut_three : (e n l m k : ℕ) (a b c x y z : Option TableFault) → l ≤ m → m ≤ k → (a ≡ None → Cut e n l x) → (l ≤ n → b ≡ None → Cut e n m y) → (m ≤ n → c ≡ None → Cut e n k z)
    → first (a ∷ b ∷ c ∷ []) ≡ None → Cut e n k (first (x ∷ y ∷ z ∷ []))
cut_three e n l m k a b c x y z lm mk fst snd thd none =
    let u = first_none a (b ∷ c ∷ []) none in
    cut_cons e n l k x (y ∷ z ∷ []) (omega arith) (fst u.0) (λ there. cut_two e n m k b c y z mk (snd there) thd u.1)

-- fields that follow one another
cut_fields : (e d at : ℕ) (all : List Field) (bytes : List ℕ) (n : ℕ) → at ≤ n → n ≤ length bytes → fields_fault e at all bytes ≡ None → Cut d n (at + widths all) (fields_fault d at all (take n bytes))
cut_fields e d at [] bytes n start within none = record { whole = λ le. refl; ends = λ lt. absurd (omega arith) }
cut_fields e d at (field ∷ rest) bytes n start within none =
    let c = take n bytes in
    let w = width_of field in
    let a = first_none (fault_at e at field bytes) (fields_fault e (at + w) rest bytes ∷ []) none in
    let b = first_none (fields_fault e (at + w) rest bytes) [] a.1 in
    let end : at + w + widths rest ≡ at + widths (field ∷ rest) = omega arith in
    subst (λ (m : ℕ). Cut d n m (fields_fault d at (field ∷ rest) c)) end
    (cut_cons d n (at + w) (at + w + widths rest) (fault_at d at field c) (fields_fault d (at + w) rest c ∷ []) (omega arith) (cut_field e d bytes n at w (fault_in field) within a.0)
    (λ there. cut_last d n (at + w + widths rest) (fields_fault d (at + w) rest c) (cut_fields e d (at + w) rest bytes n there within b.0)))

cut_header : (e d : ℕ) (model : List ℕ) (s : TableShape) (bytes : List ℕ) (n : ℕ) → n ≤ length bytes
    → fields_fault e 0 (header_fields model s) bytes ≡ None → Cut d n 60 (fields_fault d 0 (header_fields model s) (take n bytes))
unfolding model_fields
cut_header e d model s bytes n within none = cut_fields e d 0 (header_fields model s) bytes n (omega arith) within none

-- the digest of a group: of a file that is cut behind it, what it is over is there
cut_digest : (f : Format) (s : TableShape) (bytes : List ℕ) (n k : ℕ) → n ≤ length bytes → digest_as f s bytes k ≡ None
    → Cut (length_of f s) n (digest_start f s k + 32) (digest_as f s (take n bytes) k)
cut_digest f s bytes n k within none =
    let e = length_of f s in
    let c = take n bytes in
    let at = digest_start f s k in
    let from = hashed_from f s k in
    record {
      whole = λ there.
          ap (λ (p : List ℕ). field_fault e c at 32 (fault_in (digest_field f k (sha256 p)))) (part-take bytes n from (at - from) (omega (arith, hashed-before f s k)))
          ∙ field_there e e bytes n at 32 (fault_in (digest_field f k (sha256 (hashed_part f s bytes k)))) within there none;
      ends = λ short. field_ends e bytes n at 32 (fault_in (digest_field f k (sha256 (hashed_part f s c k)))) within short;
    }

cut_follows : (f : Format) (s : TableShape) (bytes : List ℕ) (n i : ℕ) → Follows (group_size f s) i → n ≤ length bytes → entry_as f s bytes i ≡ None
    → Cut (length_of f s) n (entry_start f s i + 17) (entry_as f s (take n bytes) i)
cut_follows f s bytes n i at within none =
    let e = length_of f s in
    let c = take n bytes in
    let m : ℕ = entry_start f s i + 17 in
    let here : entry_behind f s bytes i None ≡ None = subst (λ (o : Option ℕ). entry_behind f s bytes i o ≡ None) at.ended none in
    let field = first_none (bytes_as f s bytes i) [] here in
    subst (λ (o : Option ℕ). Cut e n m (entry_behind f s c i o)) (sym at.ended)
    (cut_last e n m (bytes_as f s c i) (cut_field e e bytes n (entry_start f s i) 17 (λ field. advice_fault s i (entry_of field).advice) within field.0))

cut_crosses : (f : Format) (s : TableShape) (bytes : List ℕ) (n i : ℕ) → Crosses (group_size f s) i → n ≤ length bytes → entry_as f s bytes i ≡ None
    → Cut (length_of f s) n (entry_start f s i + 17) (entry_as f s (take n bytes) i)
cut_crosses f s bytes n i at within none =
    let e = length_of f s in
    let c = take n bytes in
    let k = at.group in
    let m : ℕ = entry_start f s i + 17 in
    let here : entry_behind f s bytes i (Some k) ≡ None = subst (λ (o : Option ℕ). entry_behind f s bytes i o ≡ None) at.ended none in
    subst (λ (o : Option ℕ). Cut e n m (entry_behind f s c i o)) (sym at.ended)
    (cut_two e n (digest_start f s k + 32) m (digest_as f s bytes k) (bytes_as f s bytes i) (digest_as f s c k) (bytes_as f s c i) (omega (arith, at.start))
    (cut_digest f s bytes n k within)
    (λ _. cut_field e e bytes n (entry_start f s i) 17 (λ field. advice_fault s i (entry_of field).advice) within)
    here)

cut_entry : (f : Format) (s : TableShape) (bytes : List ℕ) (n i : ℕ) → 0 < group_size f s → n ≤ length bytes → entry_as f s bytes i ≡ None
    → Cut (length_of f s) n (entry_start f s i + 17) (entry_as f s (take n bytes) i)
cut_entry f s bytes n i some within none =
    elim (placed (group_size f s) i some) [
      | inl at ↦ cut_follows f s bytes n i at within none
      | inr at ↦ cut_crosses f s bytes n i at within none
    ]

cut_entries : (f : Format) (s : TableShape) (bytes : List ℕ) (n k : ℕ) → 0 < group_size f s → 60 ≤ n → n ≤ length bytes → first_below (entry_as f s bytes) k ≡ None
    → Cut (length_of f s) n (behind_of (group_size f s) k) (first_below (entry_as f s (take n bytes)) k)
cut_entries f s bytes n zero some header within none = record { whole = λ le. refl; ends = λ lt. absurd (omega arith) }
cut_entries f s bytes n (suc k) some header within none =
    let c = take n bytes in
    let g = group_size f s in
    cut_two (length_of f s) n (behind_of g k) (entry_start f s k + 17) (first_below (entry_as f s bytes) k) (entry_as f s bytes k) (first_below (entry_as f s c) k) (entry_as f s c k)
    (omega (arith, behind-start g k some))
    (cut_entries f s bytes n k some header within) (λ _. cut_entry f s bytes n k some within) none

cut_tail : (f : Format) (s : TableShape) (bytes : List ℕ) (n : ℕ) → n < length bytes → tail_as f s bytes ≡ None
    → Cut (length_of f s) n (digest_start f s (last_group f s) + 32) (tail_as f s (take n bytes))
cut_tail f s bytes n short none =
    let e = length_of f s in
    let c = take n bytes in
    let k = last_group f s in
    let d = first_none (digest_as f s bytes k) (more_fault e bytes ∷ []) none in
    let r = first_none (more_fault e bytes) [] d.1 in
    let most : length bytes ≤ length_of f s = more_none e bytes r.0 in
    let digest = cut_digest f s bytes n k (omega arith) d.0 in
    record {
      whole = λ le. absurd (omega (arith, length-last f s));
      ends = λ lt. ap (λ (o : Option TableFault). first (o ∷ more_fault e c ∷ [])) (digest.ends lt);
    }

-- a file that is cut in its header
cut_in_header : (model : List ℕ) (s : TableShape) (bytes : List ℕ) (n : ℕ) → first_fault model s bytes ≡ None → n < length bytes → n < 60
    → first_fault model s (take n bytes) ≡ Some (Length (expected_length s (take n bytes)) n)
unfolding first_fault header_fault
cut_in_header model s bytes n none short before =
    let c = take n bytes in
    let a = first_none (header_fault model s bytes) (first_below (entry_fault s bytes) (entry_count s) ∷ tail_fault s bytes ∷ []) none in
    ap (λ (o : Option TableFault). first (o ∷ first_below (entry_fault s c) (entry_count s) ∷ tail_fault s c ∷ []))
    ((cut_header (expected_length s bytes) (expected_length s c) model s bytes n (omega arith) a.0).ends before)

-- and behind it
cut_behind : (f : Format) (model : List ℕ) (s : TableShape) (bytes : List ℕ) (n : ℕ) → IsShape s → faults_as f model s bytes ≡ None → n < length bytes → 60 ≤ n
    → faults_as f model s (take n bytes) ≡ Some (Length (length_of f s) n)
cut_behind f model s bytes n shape none short header =
    let e = length_of f s in
    let c = take n bytes in
    let g = group_size f s in
    let count = entry_count s in
    let at = digest_start f s (last_group f s) in
    let within : n ≤ length bytes = omega arith in
    let a = first_none (header_as f model s bytes) (first_below (entry_as f s bytes) count ∷ tail_as f s bytes ∷ []) none in
    let b = first_none (first_below (entry_as f s bytes) count) (tail_as f s bytes ∷ []) a.1 in
    let t = first_none (tail_as f s bytes) [] b.1 in
    let d = first_none (digest_as f s bytes (last_group f s)) (more_fault e bytes ∷ []) t.0 in
    let r = first_none (more_fault e bytes) [] d.1 in
    let most : length bytes ≤ length_of f s = more_none e bytes r.0 in
    let all = cut_three e n 60 at (at + 32) (header_as f model s bytes) (first_below (entry_as f s bytes) count) (tail_as f s bytes)
    (header_as f model s c) (first_below (entry_as f s c) count) (tail_as f s c) (omega arith) (omega arith)
    (cut_header e e model s bytes n within)
    (λ _ entries. subst (λ (m : ℕ). Cut e n m (first_below (entry_as f s c) count)) (behind-all f s shape) (cut_entries f s bytes n count (some_group f s shape) header within entries))
    (λ _. cut_tail f s bytes n short) none in
    all.ends (omega (arith, length-last f s))

-- a proper prefix of bytes without fault is too short, and nothing else
pub prefix_short : (model : List ℕ) (s : TableShape) (bytes : List ℕ) (n : ℕ) → IsShape s → first_fault model s bytes ≡ None → n < length bytes
    → first_fault model s (take n bytes) ≡ Some (Length (expected_length s (take n bytes)) n)
prefix_short model s bytes n shape none short =
    let f = format_of bytes in
    elim (cases_lt n 60) [
      | inl before ↦ cut_in_header model s bytes n none short before
      | inr header ↦
          let same : format_of (take n bytes) ≡ format_of bytes = format_of_take bytes n (omega arith) (omega arith) in
          first_is f model s (take n bytes) same
          ∙ cut_behind f model s bytes n shape (sym (first_is f model s bytes refl) ∙ none) short header
          ∙ ap (λ (h : Format). Some (Length (length_of h s) n)) (sym same)
    ]
