-- `make` cuts the new block into empty places, and keeps the right to give it back. Assumes `Logic`.
use Rattle.std.proofs.Common.{◌≡◌, ℕ, ◌*◌, ◌^◌, ◌<◌, ◌≤◌, List, [], ◌∷◌, ◌++◌, length, refl, sym, subst, arith, lit<, w64, Option, Some, None}
use base.Fml.{Lft, Share, ftrue, flft}
use base.Logic.{SProp, emp, id⊢}
use contract.BorrowLft.{◌⊑◌, ⊑_trans}
use contract.Monad.{fact, fact_i}
use contract.Running.{tables}
use denote.Param.{param, bounded}
use denote.RattleType.{RattleType, owns}
use denote.RawPtr.{Ptr, block_ptr}
use denote.Signature.{types_at, type_at}
use denote.Steps.{nothing, heard}
use denote.Struct.Tuple.{Tuple}
use denote.Triple.Call.{calls_at}
use denote.Triple.Entry.{alive}
use denote.Triple.Walked.{Stays, stay_dropped, walk_of, Goes-dropped}
use lib.ListN.{replicate, length-replicate}
use mir.MapTy.{inst_fn}
use mir.Syntax.{Ty, Fn, Args, a_type, dcons, dnil}
use mir.Val.{Val, vint, vptr, vcons, vnil}
use prog.Capped.{capped_is}
use prog.Wp.{Env, WpFn}
use types.ByLocal.{alloc_all, pass_all, free_all, look_at, get, get_in, get_tag, sets, sets_last, lands_as, env}
use types.Kit.{‵, raw, ◌⊛◌, later, prop, at_ret, ◌$◌, ◌∵◌, !, qed, by, move, drop, use0, use1, use2, split, join, regoal, fsplit, fjoin, flt_i, await}
use types.Match.{live, vrt, in_variant}
use types.Part.{whole, agg}
use types.Run.{stop, fld, lit, bin, of_opd, no_more, and_then, first, switches_on, exec, returns, enter}
use Rattle.core.proofs.alloc.Calls.{Al, seen, Takes, at_takes, Answered, Takes-goes, Takes-gives, answers}
use Rattle.core.proofs.alloc.Shapes.{after, head, arm_body}
use Rattle.core.proofs.atomic.Steps.{fm}
use Rattle.core.proofs.option.Made.{Some-of, none_of}
use Rattle.std_alloc.proofs.Pairs.{pair_of, pair_val}
use Rattle.std.proofs.raw_atomic.Walks.{proved_at, leaves}
use Rattle.circular_buffer.specs.Ownership.{slots}
use Rattle.circular_buffer.proofs.Memory.{of_room}
use Rattle.linked_list_allocator.proofs.Values.{list_val, list_own, list_made, lease_val, lease_own, lease_made}
use Rattle.linked_list_allocator.proofs.Walks.{slot_at, then_runs}
use Rattle.acas_units.specs.declared.pair.Pair.{Pair as Item}
use Rattle.acas_plane.specs.Ownership.{block_of, one_pair}
use Rattle.acas_plane.proofs.Rows.{pairs, pair_size}
use Rattle.acas_plane.specs.contracts.places.Places as places
use Rattle.acas_plane.specs.contracts.places.Right as right
use Rattle.acas_plane.specs.contracts.places.Places.make.{ended, clauses}
use Rattle.acas_plane.specs.contracts.places.Places.make.Key.{name as #self}
use Rattle.acas_plane.proofs.places.Places.make.Statement.{statement}
use Rattle.acas_plane.proofs.places.Places.make.Code as compiled

-- so many places that hold nothing
abbrev empty : ℕ → List (Option Item)
empty n = replicate n None

pub make_spec : {M : Type 1} → statement M
make_spec 𝓤 𝓛 𝓜 𝓡 wired A L g d dd met md =
    let H = 𝓛.H in
    let En₀ = ended A g d dd in
    let c = clauses A g d dd 𝓛 𝓜.mem 𝓡.returns in
    let args : Args = bounded (a_type ∷ []) (A, tt) (dcons d (dcons dd dnil)) in
    let fn : Fn = inst_fn args compiled.function in
    let stays : Stays En₀.signature.params En₀.kept = (stay_dropped (slot_at 0 En₀.signature.params) En₀.kept.0, (stay_dropped (slot_at 1 En₀.signature.params) En₀.kept.1.0, tt)) in
    let code_table = (tables 𝓤 H 𝓜 𝓡 𝓡.env).C in
    let layouts = (tables 𝓤 H 𝓜 𝓡 𝓡.env).Λ in
    proved_at 𝓛 En₀ stays c 𝓜 𝓡 (Goes-dropped 𝓛 2 (slot_at 0 En₀.signature.params) En₀.kept.0 (λ κs x f. refl), (Goes-dropped 𝓛 2 (slot_at 1 En₀.signature.params) En₀.kept.1.0 (λ κs x f. refl), tt)) (#self args) fn (compiled.unfolded 𝓤 H 𝓜 𝓡 wired (A, tt) d dd) (λ z are.
    let promised : Val → SProp 𝓤 = (walk_of 𝓛 En₀ stays c).post z in
    let given_values = z.0.3 in
    let words = z.0.4 in
    let source : Al = record { row = A; laws = L; g = g; d = d; drops = dd } in
    let life : Lft = z.0.0.0 in
    let share : Share = z.0.1.0 in
    let source_type : RattleType = param 0 A in
    let alloc_handle = given_values.0.now in
    let at = given_values.0.ref_ptr in
    let n = given_values.1.0 in
    let block_type : Ty = block_of n in
    let request = at_takes source 𝓛 𝓜.mem 𝓡.returns life share at alloc_handle (n * 16) 8 block_type in
    let Out : RattleType = type_at En₀.signature.result z.0.0 in
    let Both : RattleType = Tuple (places.the_row ∷ right.the_row source_type g ∷ []) in
    qed 𝓛 ((raw (alive 𝓛 En₀.signature z.0.0 z.0.1) ⊛ ‵ (owns (types_at En₀.signature.params z.0.0) given_values words)) ∷ (raw (fact 𝓤 (z.0.0.1.0 ⊑ A.lives)) ⊛ raw (fact 𝓤 (n ≤ 8000000))) ∷ []) ∵
    move ! (1 ∷ []) $ split ! $ heard ! (z.0.0.1.0 ⊑ A.lives) (λ le. heard ! (n ≤ 8000000) (λ few. split ! $ move ! (1 ∷ []) $
    let bytes : n * 16 < 2 ^ 64 = omega arith in
    let small : n * pair_size < 2 ^ 63 = omega arith in
    fsplit ! $ fsplit ! $ drop ! $ move ! (1 ∷ []) $ drop ! $ use1 𝓛 (‵ (seen source life at alloc_handle)) (id⊢ 𝓤 _) $ move ! (1 ∷ []) $ use1 𝓛 (‵ (flft life share) ⊛ ‵ (flft z.0.0.1.0 z.0.1.1.0) ⊛ ‵ ftrue) (id⊢ 𝓤 _) $ split ! $ move ! (2 ∷ 0 ∷ []) $
    regoal ! (λ (us : List Val). prop (WpFn 𝓤 H code_table layouts fn us promised)) (λ i. are.0.0 i ++ (are.1.0.0 i ++ [])) refl $
    enter ! code_table layouts fn (vptr at.0 at.1 ∷ vint w64 n ∷ []) promised $
    alloc_all ! (λ l. pass_all ! refl ((tt, tt), ((tt, record { fits = are.1.0.1 }), tt)) $ let locals_of : Env 𝓤 𝓛.H = env fn.locals l in
    sets ! (bin ! (get ! refl) (lit ! tt) (record { fits = bytes })) refl (tt, record { fits = bytes }) $
    use2 𝓛 (raw ((Takes source 𝓛 𝓜.mem 𝓡.returns).pre request)) (Takes-goes source 𝓛 𝓜.mem 𝓡.returns life share at alloc_handle (⊑_trans life z.0.0.1.0 A.lives z.0.2.0 le) (n * 16) 8 block_type (capped_is (n * 16) bytes) refl bytes (lit< tt)) $
    calls_at ! (fm 𝓛 𝓜 𝓡) (Takes source 𝓛 𝓜.mem 𝓡.returns) (met.allocate dd) request (and_then ! (get ! refl) (and_then ! (get ! refl) (and_then ! (lit ! tt) (no_more !)))) (λ v.
    use1 𝓛 (later (raw (Answered source 𝓛 𝓜.mem 𝓡.returns alloc_handle block_type v) ⊛ ‵ (flft life share))) (Takes-gives source 𝓛 𝓜.mem 𝓡.returns life share at alloc_handle (n * 16) 8 block_type v) $ await ! tt $ split ! $
    answers source ! 𝓜.mem 𝓡.returns alloc_handle block_type v
    (λ b o e. move ! (2 ∷ 3 ∷ []) $ join ! $ move ! (1 ∷ 2 ∷ []) $ lands_as ! (e) refl (tt, (record { fits = lit< tt }, (tt, tt))) $
    first ! $ switches_on ! (get_tag ! (vrt ! refl (fld ! refl (stop !))) (whole !)) $ exec ! code_table layouts locals_of (arm_body 0 (head (after 2 fn.body))) (then_runs 𝓛 code_table layouts locals_of (after 3 fn.body) (at_ret locals_of promised)) $
    sets ! (of_opd ! (get_in ! (vrt ! refl (fld ! refl (stop !))) (in_variant ! 0 0 refl refl (whole !)))) refl (tt, tt) $
    sets ! (of_opd ! (get ! refl)) refl (tt, tt) $
    sets ! (agg ! (no_more !)) refl (tt, tt) $
    sets ! (agg ! (and_then ! (get ! refl) (no_more !))) refl (tt, (tt, tt)) $
    sets ! (agg ! (and_then ! (get ! refl) (no_more !))) refl (tt, (tt, tt)) $
    sets ! (agg ! (and_then ! (get ! refl) (and_then ! (get ! refl) (no_more !)))) refl (tt, ((tt, tt), ((tt, tt), tt))) $
    sets_last ! (agg ! (and_then ! (lit ! tt) (and_then ! (get ! refl) (no_more !)))) refl (tt, (record { fits = lit< tt }, (((tt, tt), ((tt, tt), tt)), tt))) $
    exec ! code_table layouts locals_of (after 3 fn.body) (at_ret locals_of promised) $
    sets ! (of_opd ! (get ! refl)) refl (tt, (record { fits = lit< tt }, (((tt, tt), ((tt, tt), tt)), tt))) $
    returns ! (look_at ! 0 refl) $ free_all ! refl $
    let p : Ptr = block_ptr b o in let x : (places.the_row).Denot = record { at = p; slots = empty n } in let k : (right.the_row source_type g).Denot = record { marker = record {}; alloc = alloc_handle; at = p; len = n } in
    let v : Val = pair_val (list_val p) lease_val in
    -- [the block; the right to give it back; the tokens]
    use1 𝓛 (‵ (slots one_pair b o (empty n))) (of_room pairs 𝓛 b n o) $
    flt_i ! (length (empty n) * pair_size) (2 ^ 63) (subst (λ m. m * pair_size < 2 ^ 63) (sym (length-replicate n None)) small) $ fjoin ! $
    use0 𝓛 (‵ (list_own p (list_val p ∷ []))) (list_made 𝓛 p tt) $ fjoin ! $ move ! (1 ∷ []) $ use0 𝓛 (‵ (lease_own (lease_val ∷ []))) (lease_made 𝓛 tt) $ fjoin ! $ move ! (1 ∷ 0 ∷ []) $
    use2 𝓛 (‵ (Both.own_val (x, k) (pair_val (list_val p) lease_val ∷ []))) (pair_of 𝓛 places.the_row (right.the_row source_type g) x k (list_val p) lease_val) $
    use1 𝓛 (‵ (Out.own_val (Some (x, k)) (live 1 (vcons v vnil) ∷ []))) (Some-of 𝓛 Both (x, k) v) $
    use0 𝓛 (raw (fact 𝓤 ((empty n ≡ empty n) × (alloc_handle ≡ alloc_handle) × (p ≡ p) × (n ≡ n)))) (fact_i 𝓤 ((empty n ≡ empty n) × (alloc_handle ≡ alloc_handle) × (p ≡ p) × (n ≡ n)) (emp 𝓤) (refl, refl, refl, refl)) $ nothing ! $ nothing ! $ fjoin ! $ nothing ! $ fjoin ! $ move ! (3 ∷ 0 ∷ 2 ∷ 1 ∷ []) $
    by ! (leaves 𝓛 En₀ stays c z (live 1 (vcons v vnil)) (Some (x, k)) (tt, (tt, tt)) (tt, (tt, tt))))
    (λ e. join ! $ lands_as ! (e) refl (tt, (record { fits = lit< tt }, (tt, tt))) $
    first ! $ switches_on ! (get_tag ! (vrt ! refl (fld ! refl (stop !))) (whole !)) $ exec ! code_table layouts locals_of (arm_body 1 (head (after 2 fn.body))) (then_runs 𝓛 code_table layouts locals_of (after 3 fn.body) (at_ret locals_of promised)) $
    sets_last ! (agg ! (and_then ! (lit ! tt) (no_more !))) refl (tt, (record { fits = lit< tt }, tt)) $
    exec ! code_table layouts locals_of (after 3 fn.body) (at_ret locals_of promised) $
    sets ! (of_opd ! (get ! refl)) refl (tt, (record { fits = lit< tt }, tt)) $
    returns ! (look_at ! 0 refl) $ free_all ! refl $
    use0 𝓛 (‵ (Out.own_val None (live 0 vnil ∷ []))) (none_of 𝓛 Both) $ use0 𝓛 (raw (fact 𝓤 (Unit {0}))) (fact_i 𝓤 (Unit {0}) (emp 𝓤) tt) $ nothing ! $ nothing ! $ fjoin ! $ nothing ! $ fjoin ! $ move ! (3 ∷ 0 ∷ 2 ∷ 1 ∷ []) $
    by ! (leaves 𝓛 En₀ stays c z (live 0 vnil) None (tt, (tt, tt)) (tt, (tt, tt)))))))))
