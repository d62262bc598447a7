-- Lists of whole numbers within limits.
use Rattle.std.proofs.Common.{◌≡◌, ℕ, ◌<◌, false, List, [], length, map, take, get_or, ℤ, pos, Ok, sym, ◌∙◌, arith}
use Rattle.std.proofs.lemmas.List.{get_or-map, length-map}
use Rattle.toml.specs.Data.{Data, boolean, integer}
use Rattle.acas_spec.specs.Axis.{IsBetween, IsWithin}
use Rattle.acas_doc.specs.Keys.{whole_item, whole_items}
use Rattle.acas_doc.proofs.Holds.{whole_item_ok, whole_item_passes}
use Rattle.acas_model.proofs.Places.{each_from, each_places, same_lists}

-- the items of a list that was read
pub record AreReadWholes (least greatest : ℤ) (ds : List Data) (zs : List ℤ) : Type 0 where
  pub long : length zs ≡ length ds
  pub there : ds ≡ map integer zs
  pub within : IsWithin least greatest zs

pub wholes_ok : (path : List ℕ) (least greatest : ℤ) (ds : List Data) (zs : List ℤ) → whole_items path least greatest ds ≡ Ok zs → AreReadWholes least greatest ds zs
unfolding whole_items
wholes_ok path least greatest ds zs e =
    let read = each_places (λ before d. whole_item path (length before) least greatest d) zs ds (boolean false) (pos 0) e in
    let item = λ (k : ℕ) (within : k < length ds). whole_item_ok path (length (take k zs)) least greatest _ _ (read.at k within) in
    record {
      long = read.long;
      there = same_lists ds (map integer zs) (boolean false) (sym (length-map zs integer ∙ read.long))
          (λ k within. (item k within).0 ∙ sym (get_or-map integer zs k (pos 0) (boolean false) (omega (arith, within, read.long))));
      within = record {
        bounded = λ k within.
            let w = item k (omega (arith, within, read.long)) in
            record { low = w.1; high = w.2 };
      };
    }

pub wholes_pass : (path : List ℕ) (least greatest : ℤ) (zs : List ℤ) → IsWithin least greatest zs → whole_items path least greatest (map integer zs) ≡ Ok zs
unfolding whole_items
wholes_pass path least greatest zs within =
    each_from (λ before d. whole_item path (length before) least greatest d) [] zs (map integer zs) (boolean false) (pos 0) (record {
      long = sym (length-map zs integer);
      at = λ k h.
          let inside : k < length zs = omega (arith, h, length-map zs integer) in
          let item : get_or (map integer zs) k (boolean false) ≡ integer (get_or zs k (pos 0)) = get_or-map integer zs k (pos 0) (boolean false) inside in
          let between : IsBetween least greatest (get_or zs k (pos 0)) = within.bounded k inside in
          rw item (whole_item_passes path (length (take k zs)) least greatest (get_or zs k (pos 0)) between.low between.high);
    })
