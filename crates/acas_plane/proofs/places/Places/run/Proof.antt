-- `run` shows the pairs of a run of places. Assumes `Logic`.
use Rattle.std.proofs.Common.{◌≡◌, ℕ, ◌+◌, ◌*◌, ◌^◌, ◌<◌, List, [], ◌∷◌, length, drop as drop_l, refl, sym, ap, arith, w64}
use Rattle.std.proofs.raw_atomic.Walks.{proved}
use Rattle.std.proofs.lemmas.List.{length-map}
use Rattle.std.specs.Prelude.{Some}
use seplogic.Ra.Ura.{Ura}
use base.Fml.{Lft, ftrue, flft}
use base.Logic.{ent, sep, id⊢, never}
use contract.Monad.{fact}
use contract.Running.{tables}
use denote.Builtin.{usize, RefOf}
use denote.Memory.{hidden_shr}
use denote.Opens.{hide, unhide}
use denote.Plain.{uint_vals, uint_Tells}
use denote.RattleType.{RattleType}
use denote.RawPtr.{RawPtr, in_a_block}
use denote.Ref.{ShrRef, shr_vals, shr_Tells}
use denote.Signature.{plain}
use denote.Slice.{elements_shared, slice_val}
use denote.Steps.{nothing, heard}
use denote.Struct.Lending.{lent_out}
use denote.Struct.Owning.{shape}
use denote.Struct.Struct.{Struct}
use denote.Triple.Walked.{Stays, walk_of, says, stay_dropped, Goes-dropped, ends_at}
use lib.ListN.{length-take, length-drop}
use mir.Syntax.{named}
use mir.Val.{Val}
use types.ByLocal.{alloc_all, pass_all, free_all, look_at, get, through, sets, sets_last, env}
use types.Kit.{‵, raw, ◌⊛◌, at_ret, ◌$◌, ◌∵◌, !, qed, move, keep, use1, split, join, fsplit, fjoin, feq_i, flt_l, flt_i, suffices, frame, done}
use types.Logic.{Logic, sem}
use types.Part.{agg}
use types.Run.{enter, of_opd, lit, bin, load, look, stop, fld, and_then, no_more, first, blocks, exec, returns}
use Rattle.core.proofs.ptr.Rows.{times_below}
use Rattle.core.proofs.alloc.Shapes.{after}
use Rattle.core.proofs.slots.Lent.{pointer_in, pointer_out}
use Rattle.circular_buffer.specs.Ownership.{cells_lent}
use Rattle.circular_buffer.specs.Places.{IsRun}
use Rattle.circular_buffer.proofs.Memory.{run_seen}
use Rattle.acas_units.specs.contracts.pair.Pair.{the_row as Item}
use Rattle.acas_plane.specs.Ownership.{one_pair}
use Rattle.acas_plane.proofs.Rows.{pairs, pair_size}
use Rattle.acas_plane.specs.contracts.places.Places as C
use Rattle.acas_plane.specs.contracts.places.Places.run as f
use Rattle.acas_plane.proofs.places.Places.run.Statement.{statement}
use Rattle.acas_plane.proofs.places.Places.run.Code as code

abbrev R : RattleType
R = C.the_row

abbrev stayed : Stays f.ended.signature.params f.ended.kept
stayed = (stay_dropped (RefOf (0 ∷ []) tt (plain (λ _. R)) (λ _. tt)) f.ended.kept.0, (stay_dropped (plain (λ _. usize)) f.ended.kept.1.0, (stay_dropped (plain (λ _. usize)) f.ended.kept.1.1.0, tt)))

-- a `&` to places is a `&` to their address, and what the places lend
shown : {M : Type 1} {𝓤 : Ura M} (𝓛 : Logic 𝓤) (κ : Lft) (d : R.Denot) (b o : ℕ)
    → ent 𝓤 (sem 𝓛 (hidden_shr R κ d b o)) (sep 𝓤 (sem 𝓛 (hidden_shr RawPtr κ d.at b (o + 0))) (sem 𝓛 (cells_lent one_pair d.at d.slots κ)))
shown {𝓤 = 𝓤} 𝓛 κ d b o = qed 𝓛 (‵ (hidden_shr R κ d b o) ∷ []) ∵
    use1 𝓛 (‵ (hidden_shr (Struct (shape C.the_type)) κ (d.at, tt) b o) ⊛ ‵ (cells_lent one_pair d.at d.slots κ)) (lent_out 𝓛 C.struct C.the_codes C.the_heap C.the_lent κ d b o) $ split ! $
    unhide ! $ fsplit ! $ fsplit ! $ keep ! (0 ∷ 3 ∷ []) $ done !

pub run_spec : {M : Type 1} → statement M
run_spec 𝓤 𝓛 𝓜 𝓡 wired =
    let c = f.clauses 𝓛 𝓜.mem 𝓡.returns in let W = walk_of 𝓛 f.ended stayed c in let 𝓣 = tables 𝓤 𝓛.H 𝓜 𝓡 𝓡.env in
    proved 𝓛 f.ended stayed c 𝓜 𝓡
    (Goes-dropped 𝓛 1 (RefOf (0 ∷ []) tt (plain (λ _. R)) (λ _. tt)) f.ended.kept.0 (λ κs x w. refl), (Goes-dropped 𝓛 1 (plain (λ _. usize)) f.ended.kept.1.0 (λ κs x w. refl), (Goes-dropped 𝓛 1 (plain (λ _. usize)) f.ended.kept.1.1.0 (λ κs x w. refl), tt)))
    f.Key.name code.function (code.unfolded 𝓤 𝓛.H 𝓜 𝓡 wired)
    (λ κs. (shr_vals, (uint_vals w64, (uint_vals w64, tt)))) (λ κs. (shr_Tells (named 0) κs.0 R, (uint_Tells w64, (uint_Tells w64, tt)))) (λ κs qs bounds a _ are.
    let rb = a.0.ref_ptr.0 in let ro = a.0.ref_ptr.1 in let h = a.0.now in let κ = κs.0 in
    let from = a.1.0 in let len = a.1.1.0 in
    let y : W.Ghost = ((κs, qs, bounds, a, (shr_vals a.0, (uint_vals w64 from, (uint_vals w64 len, tt)))), tt) in
    qed 𝓛 (((‵ (flft κ qs.0) ⊛ ‵ ftrue) ⊛ ‵ ((ShrRef (named 0) κ R).own_val a.0 (shr_vals a.0)) ⊛ ‵ (usize.own_val from (uint_vals w64 from)) ⊛ ‵ (usize.own_val len (uint_vals w64 len)) ⊛ ‵ ftrue)
    ∷ raw (fact 𝓤 (IsRun h.slots from len)) ∷ []) ∵
    move ! (1 ∷ []) $ heard ! _ (λ asked.
    let within = asked.0 in let xs = asked.1.0 in let filled = asked.1.1 in
    let long : length xs ≡ len = omega (arith, ap length filled, length-map xs Some, length-take len (drop_l from h.slots), length-drop from h.slots) in
    split ! $ split ! $ move ! (2 ∷ []) $ split ! $ fsplit ! $ keep ! (1 ∷ 3 ∷ []) $
    enter ! _ _ _ _ _ $ alloc_all ! (λ l. pass_all ! refl ((tt, tt), ((tt, record { fits = are.1.0.1 }), ((tt, record { fits = are.1.1.0.1 }), tt))) $
    use1 𝓛 (‵ (hidden_shr RawPtr κ h.at rb (ro + 0)) ⊛ ‵ (cells_lent one_pair h.at h.slots κ)) (shown 𝓛 κ h rb ro) $ split ! $ move ! (1 ∷ []) $
    in_a_block ! h.at (λ p. cells_lent one_pair p h.slots κ) (id⊢ 𝓤 (never 𝓤)) (λ b o e. fsplit ! $ flt_l ! (λ small.
    let s = pair_size in
    let far : from * s < 2 ^ 64 = omega (arith, times_below from (length h.slots) s (2 ^ 63) (omega arith) small) in
    let at : ℕ × ℕ = (b, from * s + o) in
    -- [what the places lend; a `&` to the address; the token]
    move ! (1 ∷ 2 ∷ []) $ first ! $ blocks ! $ pointer_in ! tt h.at b o e rb (ro + 0) (λ q'.
    sets ! (of_opd ! (load ! (through ! refl (fld ! refl (stop !))) (look ! 0 refl))) refl (tt, tt) $
    pointer_out ! tt h.at b o e rb (ro + 0) $ move ! (1 ∷ []) $
    sets ! (bin ! (get ! refl) (lit ! tt) (record { fits = far })) refl (tt, record { fits = far }) $
    sets ! (bin ! (get ! refl) (get ! refl) tt) refl (tt, tt) $
    use1 𝓛 (‵ (elements_shared Item xs b (from * s + o) κ)) (run_seen pairs 𝓛 b κ o h.slots from len xs (omega arith) filled) $ hide ! $
    sets_last ! (agg ! (and_then ! (get ! refl) (and_then ! (get ! refl) (no_more !)))) refl (tt, (tt, (record { fits = are.1.1.0.1 }, tt))) $
    exec ! 𝓣.C 𝓣.Λ (env code.Mir.locals l) (after 1 (code.function).body) (at_ret _ (W.post y)) $ sets ! (of_opd ! (get ! refl)) refl (tt, (tt, (record { fits = are.1.1.0.1 }, tt))) $
    flt_i ! (length xs * s) (2 ^ 63) (times_below (length xs) (length h.slots) s (2 ^ 63) (omega arith) small) $ flt_i ! (length xs) (2 ^ 64) (omega arith) $ fjoin ! $
    feq_i ! (List Val) (slice_val at len ∷ []) (slice_val at (length xs) ∷ []) (ap (λ k. slice_val at k ∷ []) (sym long)) $ fjoin ! $ fjoin ! $
    -- [the slice; the token]
    returns ! (look_at ! 0 refl) $ free_all ! refl $
    suffices ! _ (ends_at 𝓛 f.ended stayed c y (slice_val at len) (record { ref_ptr = at; now = xs }) (tt, (tt, (tt, tt))) (tt, (tt, (tt, tt)))) $ says ! filled $
    nothing ! $ move ! (2 ∷ 0 ∷ []) $ join ! $ frame ! $ nothing ! $ nothing ! $ fjoin ! $ nothing ! $ fjoin ! $ nothing ! $ fjoin ! $ done !))))))
