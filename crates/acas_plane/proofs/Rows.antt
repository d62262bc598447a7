-- Rows of pairs: their names at the laws of rows of any type, and a row as room, whatever stands there. Assumes `Logic`.
use Rattle.std.proofs.Common.{ℕ, ◌+◌, List, [], ◌∷◌, length, refl}
use Rattle.std.specs.Prelude.{Option, Some, None}
use Rattle.std.specs.Mem.{type_size}
use seplogic.Ra.Ura.{Ura}
use base.Fraction.{full_share}
use base.Fml.{fat, froom}
use base.Logic.{ent}
use borrow.Table.OneValue.{part_out}
use denote.Memory.{part_at}
use denote.Param.{layout}
use mir.Syntax.{ty_array}
use mir.Val.{Val}
use types.Kit.{‵, some, ◌⊛◌, ◌$◌, ◌∵◌, !, qed, by, move, drop, use1, pick, split}
use types.Logic.{Logic, sem}
use Rattle.core.proofs.mem.Param.{El}
use Rattle.circular_buffer.specs.Ownership.{slot, slots}
use Rattle.acas_units.specs.contracts.pair.Pair.{the_row}
use Rattle.acas_units.specs.declared.pair.Pair.{Pair}
use Rattle.acas_units.proofs.pair.Pair.TheLaws.{the_row_laws}
use Rattle.acas_plane.specs.Ownership.{one_pair}

-- the type of the items, with its laws
abbrev pub pairs : El
pairs = record { row = the_row; laws = the_row_laws }

-- the bytes of a pair
abbrev pub pair_size : ℕ
pair_size = type_size one_pair

module _ {M : Type 1} {𝓤 : Ura M} (𝓛 : Logic 𝓤) (b : ℕ) where
  open 𝓛 use {H}

  -- a place is room for a pair, whether or not it holds one
  pub slot-room : (o : ℕ) (c : Option Pair) → ent 𝓤 (sem 𝓛 (slot one_pair b o c)) (H.room (layout the_row) b o)
  slot-room o (Some x) = qed 𝓛 (‵ (part_at one_pair full_share x b o) ∷ []) ∵
      use1 𝓛 (some (λ (v : Val). ‵ (fat full_share (layout the_row) b o v) ⊛ ‵ (the_row.own_val x (v ∷ [])))) (part_out 𝓛 one_pair refl full_share x b o) $
      pick ! (λ v. split ! $ move ! (1 ∷ []) $ drop ! $ by ! (𝓛.laws.at_room (layout the_row) b o v))
  slot-room o None = 𝓛.laws.raw-room (layout the_row) b o

  -- places side by side are room for an array
  pub slots-room : (cs : List (Option Pair)) (o : ℕ) → ent 𝓤 (sem 𝓛 (slots one_pair b o cs)) (H.room (ty_array (layout the_row) (length cs)) b o)
  slots-room [] o = 𝓛.laws.room_nil (layout the_row) b o
  slots-room (c ∷ cs) o = qed 𝓛 (‵ (slot one_pair b o c) ∷ ‵ (slots one_pair b (o + pair_size) cs) ∷ []) ∵
      use1 𝓛 (‵ (froom (layout the_row) b o)) (slot-room o c) $ move ! (1 ∷ []) $
      use1 𝓛 (‵ (froom (ty_array (layout the_row) (length cs)) b (o + pair_size))) (slots-room cs (o + pair_size)) $ move ! (1 ∷ []) $
      by ! (𝓛.laws.room_cons (layout the_row) (length cs) b o)
