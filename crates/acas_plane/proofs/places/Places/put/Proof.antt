-- `put` takes one place out of the row, writes it, and puts it back. Assumes `Logic`.
use Rattle.std.proofs.Common.{◌+◌, ◌*◌, ◌^◌, ◌<◌, List, [], ◌∷◌, length, refl, sym, ap, subst, ◌∙◌, arith, w64}
use Rattle.std.proofs.raw_atomic.Walks.{proved}
use Rattle.std.specs.Prelude.{Some, None, get_or, slice_set}
use base.Fraction.{full_share}
use base.Fml.{ftrue, flft, froom}
use base.Logic.{id⊢, never}
use contract.Monad.{fact}
use contract.Running.{tables}
use denote.Builtin.{usize}
use denote.Memory.{cell_at}
use denote.Param.{layout}
use denote.Plain.{uint_vals, uint_Tells}
use denote.RawPtr.{Ptr, in_a_block}
use denote.Ref.{MutRef, mut_vals, mut_Tells}
use denote.Laws.{shows}
use denote.Signature.{plain}
use denote.Steps.{nothing, opens, closes, peeks, heard}
use denote.Triple.Walked.{Stays, walk_of, says, stay_ref, stay_dropped, Goes-ref, Goes-dropped, ends_at}
use lib.ListN.{length-set}
use mir.Syntax.{named}
use mir.Val.{Val, vunit}
use types.ByLocal.{alloc_all, pass_all, free_all, look_at, get, through, sets, env}
use types.Kit.{‵, raw, ◌⊛◌, at_ret, ◌$◌, ◌∵◌, !, qed, move, keep, use1, use2, split, join, fsplit, fsplit3, fjoin, fjoin3, feq_i, flt_l, flt_i, rewrite, suffices, frame, done}
use types.Part.{whole, sub, look_in}
use types.Run.{enter, of_opd, lit, unit_lit, bin, load, init, stop, fld, assigns_last, first, blocks, exec, returns}
use Rattle.core.proofs.ptr.Rows.{times_below}
use Rattle.core.proofs.alloc.Shapes.{after}
use Rattle.circular_buffer.specs.Ownership.{slot, slots, cells_own}
use Rattle.circular_buffer.proofs.Memory.{Besides, slot_out, slot_in, value_in}
use Rattle.acas_units.specs.contracts.pair.Pair.{the_row as Item}
use Rattle.acas_units.specs.declared.pair.Pair.{Pair}
use Rattle.acas_units.proofs.pair.Pair.TheLaws.{lowers as item, the_row_laws as item_laws}
use Rattle.acas_plane.specs.Ownership.{one_pair}
use Rattle.acas_plane.proofs.Rows.{pairs, pair_size, slot-room}
use Rattle.acas_plane.specs.contracts.places.Places.{the_row as R}
use Rattle.acas_plane.proofs.places.Places.TheLaws.{lowers}
use Rattle.acas_plane.specs.contracts.places.Places.put as f
use Rattle.acas_plane.proofs.places.Places.put.Statement.{statement}
use Rattle.acas_plane.proofs.places.Places.put.Code as code

abbrev stayed : Stays f.ended.signature.params f.ended.kept
stayed = (stay_ref (0 ∷ []) tt (plain (λ _. R)), (stay_dropped (plain (λ _. usize)) f.ended.kept.1.0, (stay_dropped (plain (λ _. Item)) f.ended.kept.1.1.0, tt)))

abbrev item_vals : Pair → List Val
item_vals pair = item.lowered pair ∷ []

pub put_spec : {M : Type 1} → statement M
put_spec 𝓤 𝓛 𝓜 𝓡 wired =
    let c = f.clauses 𝓛 𝓜.mem 𝓡.returns in let W = walk_of 𝓛 f.ended stayed c in let 𝓣 = tables 𝓤 𝓛.H 𝓜 𝓡 𝓡.env in
    proved 𝓛 f.ended stayed c 𝓜 𝓡
    (Goes-ref 𝓛 1 0 tt (plain (λ _. R)), (Goes-dropped 𝓛 1 (plain (λ _. usize)) f.ended.kept.1.0 (λ κs x w. refl), (Goes-dropped 𝓛 1 (plain (λ _. Item)) f.ended.kept.1.1.0 (λ κs x w. refl), tt)))
    f.Key.name code.function (code.unfolded 𝓤 𝓛.H 𝓜 𝓡 wired)
    (λ κs. (mut_vals, (uint_vals w64, (item_vals, tt)))) (λ κs. (mut_Tells (named 0) κs.0 R, (uint_Tells w64, (item.val_is, tt)))) (λ κs qs bounds a _ are.
    let b = a.0.ref_ptr.0 in let o = a.0.ref_ptr.1 in let h = a.0.now in let vs = mut_vals a.0 in
    let index = a.1.0 in let pair = a.1.1.0 in
    let y : W.Ghost = ((κs, qs, bounds, a, (vs, (uint_vals w64 index, (item_vals pair, tt)))), tt) in
    let new = record h { slots = slice_set h.slots index (Some pair) } in
    let good = ((item_laws.lawful 𝓛).typed pair (item_vals pair) are.1.1.0).0 in
    qed 𝓛 (((‵ (flft κs.0 qs.0) ⊛ ‵ ftrue) ⊛ ‵ ((MutRef (named 0) κs.0 R).own_val a.0 vs) ⊛ ‵ (usize.own_val index (uint_vals w64 index)) ⊛ ‵ (Item.own_val pair (item_vals pair)) ⊛ ‵ ftrue)
    ∷ raw (fact 𝓤 (index < length h.slots)) ∷ []) ∵
    move ! (1 ∷ []) $ heard ! _ (λ within.
    split ! $ split ! $ move ! (2 ∷ []) $ split ! $ move ! (1 ∷ []) $ split ! $ move ! (1 ∷ []) $ split ! $ keep ! (3 ∷ 4 ∷ 0 ∷ []) $
    enter ! _ _ _ _ _ $ alloc_all ! (λ l. pass_all ! refl ((tt, tt), ((tt, record { fits = are.1.0.1 }), (good, tt))) $
    fsplit3 ! $ move ! (1 ∷ 2 ∷ 3 ∷ []) $ opens ! tt R b o (λ us.
    move ! (1 ∷ []) $ peeks ! R _ (shows 𝓛 R) h us (λ is. fsplit ! $ move ! (1 ∷ []) $
    in_a_block ! h.at (λ p. cells_own one_pair p h.slots) (id⊢ 𝓤 (never 𝓤)) (λ b' o' e. fsplit ! $ flt_l ! (λ small.
    let s = pair_size in
    let far : index * s < 2 ^ 64 = omega (arith, times_below index (length h.slots) s (2 ^ 63) (omega arith) small) in
    let word = lowers.val_is h us is ∙ ap (λ (p : Ptr). lowers.lowered (record h { at = p }) ∷ []) e in
    let Cell = λ (ws : List Val). ‵ (cell_at full_share R.mir ws b o) in
    rewrite ! 2 Cell word refl $
    -- [the row; what the fields own; the struct's cell; the open borrow, in three entries; what says the address; the pair]
    first ! $ blocks ! $
    sets ! (of_opd ! (load ! (through ! refl (fld ! refl (stop !))) (look_in ! 2 (sub ! 0 refl (whole !))))) refl (tt, tt) $
    sets ! (bin ! (get ! refl) (lit ! tt) (record { fits = far })) refl (tt, record { fits = far }) $
    sets ! (bin ! (get ! refl) (get ! refl) tt) refl (tt, tt) $
    use1 𝓛 (‵ (slot one_pair b' (index * s + o') (get_or h.slots index None)) ⊛ ‵ (Besides pairs 𝓛 b' o' h.slots index)) (slot_out pairs 𝓛 b' o' h.slots index within) $ split ! $
    use1 𝓛 (‵ (froom (layout Item) b' (index * s + o'))) (slot-room 𝓛 b' (index * s + o') (get_or h.slots index None)) $
    assigns_last ! (of_opd ! (get ! refl)) (through ! refl (stop !)) (init ! 0 refl good) $
    exec ! 𝓣.C 𝓣.Λ (env code.Mir.locals l) (after 1 (code.function).body) (at_ret _ (W.post y)) $
    sets ! (of_opd ! (unit_lit !)) refl (tt, tt) $
    move ! (0 ∷ 8 ∷ []) $ use2 𝓛 (‵ (slot one_pair b' (index * s + o') (Some pair))) (value_in 0 Item item_laws 𝓛 pair b' (index * s + o') (item.lowered pair)) $
    use2 𝓛 (‵ (slots one_pair b' o' new.slots)) (slot_in pairs 𝓛 b' o' h.slots index within (Some pair)) $
    flt_i ! (length new.slots * s) (2 ^ 63) (subst (λ k. k * s < 2 ^ 63) (sym (length-set h.slots index (Some pair))) small) $ fjoin ! $
    rewrite ! 0 (λ (p : Ptr). ‵ (cells_own one_pair p new.slots)) (sym e) refl $ rewrite ! 2 Cell (sym word) refl $
    move ! (1 ∷ []) $ fjoin ! $ move ! (1 ∷ []) $ closes ! tt R new us b o $
    -- [two parts of self; the token; self's first part]
    returns ! (look_at ! 0 refl) $ free_all ! refl $
    suffices ! _ (ends_at 𝓛 f.ended stayed c y vunit tt (new, (tt, (tt, tt))) (tt, (tt, (tt, tt)))) $ says ! (refl, refl) $
    nothing ! $ move ! (3 ∷ 0 ∷ []) $ join ! $ frame ! $ move ! (2 ∷ 0 ∷ 1 ∷ []) $ fjoin3 ! $
    nothing ! $ nothing ! $ fjoin ! $ nothing ! $ fjoin ! $ move ! (1 ∷ 0 ∷ []) $ fjoin ! $ frame ! $
    feq_i ! (List Val) (vunit ∷ []) (vunit ∷ []) refl $ done !)))))))
