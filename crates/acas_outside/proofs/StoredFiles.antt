-- Look-ups of the files of a map.
use Rattle.std.proofs.Common.{◌≡◌, ℕ, Bool, true, false, cond, List, [], ◌∷◌, map, Option, Some, refl, sym, ◌∙◌, ap, String, string_bytes, Vec}
use Rattle.std.specs.declared.alloc.Global.{Global}
use Rattle.std.specs.Option.{option_map}
use Rattle.std.specs.Ordering.{nat_cmp, eq_by_cmp}
use Rattle.std.specs.Cmp.{eq_by_cmp_equiv}
use Rattle.std.specs.Cmp.Lexicographic.{slice_cmp, nat_list_cmp_total}
use Rattle.std.specs.String.{string_cmp}
use Rattle.std.specs.Str.{bytes_eq}
use Rattle.std.specs.BTreeMap.{BTreeMap, get_by_text, UpdatesBy, is_at}
use Rattle.std.specs.Map.{lookup}
use Rattle.std.specs.FinMap.{get, find, insert, get-from_entries, get-insert, same_map, slice_cmp-IsAntisymmetric, nat_cmp-IsAntisymmetric}
use Rattle.std.proofs.lemmas.Map.Text.{btree_map_updates_text, is_eq-slice_cmp}
use Rattle.acas_outside.specs.Stored.{files_of}

option_map-cond : {A B : Type 0} (f : A → B) (b : Bool) (x : A) (o : Option A) → cond b (Some (f x)) (option_map f o) ≡ option_map f (cond b (Some x) o)
option_map-cond f true x o = refl
option_map-cond f false x o = refl

find-map : (q : List ℕ) (es : List (String Global × Vec ℕ Global)) → find (slice_cmp nat_cmp) q (map (λ e. (string_bytes e.0, e.1.items)) es) ≡ option_map (λ v. v.items) (lookup (is_at (λ k. slice_cmp nat_cmp q (string_bytes k))) es)
find-map q [] = refl
find-map q (e ∷ es) =
    ap (cond (is_at (λ k. slice_cmp nat_cmp q (string_bytes k)) e.0) (Some e.1.items)) (find-map q es)
    ∙ option_map-cond (λ v. v.items) (is_at (λ k. slice_cmp nat_cmp q (string_bytes k)) e.0) e.1 (lookup (is_at (λ k. slice_cmp nat_cmp q (string_bytes k))) es)

pub get-files_of : (m : BTreeMap (String Global) (Vec ℕ Global)) (q : List ℕ) → get (files_of m) q ≡ option_map (λ v. v.items) (get_by_text m q)
get-files_of m q = get-from_entries nat_list_cmp_total (map (λ e. (string_bytes e.0, e.1.items)) m.entries) q ∙ find-map q m.entries

-- after a change at one name
pub files_of-insert : (bs : List ℕ) (m n : BTreeMap (String Global) (Vec ℕ Global)) (v : Vec ℕ Global) → UpdatesBy string_cmp (λ k. slice_cmp nat_cmp bs (string_bytes k)) m n (Some v) → files_of n ≡ insert (files_of m) bs v.items
files_of-insert bs m n v updates =
    same_map nat_list_cmp_total (slice_cmp-IsAntisymmetric nat_cmp-IsAntisymmetric) _ _ (λ q.
    get-files_of n q
    ∙ ap (option_map (λ w. w.items)) (btree_map_updates_text bs m n (Some v) updates q)
    ∙ sym (option_map-cond (λ w. w.items) (bytes_eq bs q) v (get_by_text m q))
    ∙ ap (λ b. cond b (Some v.items) (option_map (λ w. w.items) (get_by_text m q))) (sym (is_eq-slice_cmp bs q) ∙ (eq_by_cmp_equiv nat_list_cmp_total).symm bs q)
    ∙ ap (cond (eq_by_cmp (slice_cmp nat_cmp) q bs) (Some v.items)) (sym (get-files_of m q))
    ∙ sym (get-insert nat_list_cmp_total (files_of m) bs v.items q))
