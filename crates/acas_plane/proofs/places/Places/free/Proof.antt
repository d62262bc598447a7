-- `free` makes room of the row, whatever stands there, and hands it back with the right. Assumes `Logic`.
use Rattle.std.proofs.Common.{◌≡◌, ℕ, ◌*◌, ◌^◌, ◌<◌, List, [], ◌∷◌, ◌++◌, length, refl, ap, ◌∙◌, arith, lit<, w64}
use base.Fml.{Lft, Share, ftrue, flft, froom}
use base.Logic.{SProp, never, id⊢}
use contract.BorrowLft.{◌⊑◌, ⊑_trans}
use contract.Monad.{fact}
use contract.Running.{tables}
use denote.Param.{layout, bounded}
use denote.RattleType.{owns}
use denote.RawPtr.{Ptr, block_ptr, in_a_block}
use denote.Signature.{types_at}
use denote.Steps.{nothing, heard}
use denote.Triple.Call.{calls_at_last}
use denote.Triple.Entry.{alive}
use denote.Triple.Walked.{Stays, stay_dropped, walk_of, Goes-dropped}
use mir.MapTy.{inst_fn}
use mir.Syntax.{Ty, Fn, Args, a_type, dcons, dnil, place, ty_array}
use mir.Val.{Val, vint, vptr, vunit}
use prog.Capped.{capped_is}
use prog.Wp.{Env, WpFn}
use types.ByLocal.{alloc_all, pass_all, free_all, look_at, get, get_in, sets, lands_last, env}
use types.Kit.{‵, raw, ◌⊛◌, given, later, prop, settles, at_ret, ◌$◌, ◌∵◌, !, qed, by, move, drop, use1, use3, split, join, learn, rewrite, regoal, fsplit, fsplit3, fjoin, feq_i, flt_l, await}
use types.Part.{whole, sub}
use types.Run.{stop, fld, lit, bin, unit_lit, of_opd, no_more, and_then, first, blocks, exec, returns, enter}
use Rattle.core.proofs.alloc.Calls.{Al, seen, Goes-blank, Gives, at_gives, Gives-goes, Gives-Gives}
use Rattle.core.proofs.alloc.Shapes.{after}
use Rattle.core.proofs.atomic.Steps.{fm}
use Rattle.std.proofs.raw_atomic.Walks.{proved_at, leaves}
use Rattle.circular_buffer.specs.Ownership.{cells_own}
use Rattle.linked_list_allocator.proofs.Values.{list_val, list_told, lease_val, lease_told}
use Rattle.linked_list_allocator.proofs.Walks.{slot_at, then_runs, out_of_block}
use Rattle.acas_units.specs.contracts.pair.Pair.{the_row as Item}
use Rattle.acas_plane.specs.Ownership.{block_of, one_pair}
use Rattle.acas_plane.proofs.Rows.{slots-room}
use Rattle.acas_plane.specs.contracts.places.Places.free.{ended, clauses}
use Rattle.acas_plane.specs.contracts.places.Places.free.Key.{name as #self}
use Rattle.acas_plane.proofs.places.Places.free.Statement.{statement}
use Rattle.acas_plane.proofs.places.Places.free.Code as compiled

pub free_spec : {M : Type 1} → statement M
free_spec 𝓤 𝓛 𝓜 𝓡 wired A L g d dd met md =
    let H = 𝓛.H in
    let En₀ = ended A g d dd in
    let c = clauses A g d dd 𝓛 𝓜.mem 𝓡.returns in
    let args : Args = bounded (a_type ∷ []) (A, tt) (dcons d (dcons dd dnil)) in
    let fn : Fn = inst_fn args compiled.function in
    let params = En₀.signature.params in
    let stays : Stays params En₀.kept = (stay_dropped (slot_at 0 params) En₀.kept.0, (stay_dropped (slot_at 1 params) En₀.kept.1.0, (stay_dropped (slot_at 2 params) En₀.kept.1.1.0, (stay_dropped (slot_at 3 params) En₀.kept.1.1.1.0, tt)))) in
    let code_table = (tables 𝓤 H 𝓜 𝓡 𝓡.env).C in
    let layouts = (tables 𝓤 H 𝓜 𝓡 𝓡.env).Λ in
    proved_at 𝓛 En₀ stays c 𝓜 𝓡
    (Goes-blank 𝓛 2 (slot_at 0 params) En₀.kept.0 (λ κs x f. tt), (Goes-blank 𝓛 2 (slot_at 1 params) En₀.kept.1.0 (λ κs x f. tt), (Goes-dropped 𝓛 2 (slot_at 2 params) En₀.kept.1.1.0 (λ κs x f. refl), (Goes-dropped 𝓛 2 (slot_at 3 params) En₀.kept.1.1.1.0 (λ κs x f. refl), tt))))
    (#self args) fn (compiled.unfolded 𝓤 H 𝓜 𝓡 wired (A, tt) d dd) (λ z are.
    let promised : Val → SProp 𝓤 = (walk_of 𝓛 En₀ stays c).post z in
    let given_values = z.0.3 in
    let words = z.0.4 in
    let source : Al = record { row = A; laws = L; g = g; d = d; drops = dd } in
    let life : Lft = z.0.0.0 in
    let share : Share = z.0.1.0 in
    let x = given_values.0 in
    let k = given_values.1.0 in
    let alloc_handle = given_values.1.1.0.now in
    let handle = given_values.1.1.0.ref_ptr in
    let n = given_values.1.1.1.0 in
    let fits = are.1.1.1.0.1 in
    let told = list_told x.at words.0 are.0.0 in
    let block_type : Ty = block_of n in
    let Asked : Type 0 = (k.alloc ≡ alloc_handle) × (k.at ≡ x.at) × (k.len ≡ n) × (length x.slots ≡ n) in
    qed 𝓛 ((raw (alive 𝓛 En₀.signature z.0.0 z.0.1) ⊛ ‵ (owns (types_at params z.0.0) given_values words)) ∷ (raw (fact 𝓤 (z.0.0.1.0 ⊑ A.lives)) ⊛ raw (fact 𝓤 Asked)) ∷ []) ∵
    move ! (1 ∷ []) $ split ! $ heard ! (z.0.0.1.0 ⊑ A.lives) (λ le. heard ! Asked (λ asked. split ! $ move ! (1 ∷ []) $
    fsplit3 ! $ fsplit ! $ drop ! $ in_a_block ! x.at (λ p. cells_own one_pair p x.slots) (id⊢ 𝓤 (never 𝓤)) (λ b o at. fsplit ! $ flt_l ! (λ small.
    let some : length x.slots * 16 < 2 ^ 63 = small in let count : length x.slots ≡ n = asked.3 in
    let bytes : n * 16 < 2 ^ 64 = omega arith in
    use1 𝓛 (‵ (froom (ty_array (layout Item) (length x.slots)) b o)) (slots-room 𝓛 b x.slots o) $ rewrite ! 0 (λ (m : ℕ). ‵ (froom (block_of m) b o)) count refl $
    move ! (1 ∷ []) $ fsplit ! $ drop ! $
    rewrite ! 0 (λ (u : A.Denot × ℕ × Ptr). ‵ (g.dealloc_token u.0 (block_of u.1) u.2)) (λ i. (asked.0 i, asked.2 i, (asked.1 ∙ at) i)) refl $
    move ! (2 ∷ []) $ fsplit ! $ fsplit ! $ drop ! $ move ! (1 ∷ []) $ drop ! $ use1 𝓛 (‵ (seen source life handle alloc_handle)) (id⊢ 𝓤 _) $ move ! (3 ∷ []) $ use1 𝓛 (‵ (flft life share) ⊛ ‵ (flft z.0.0.1.0 z.0.1.1.0) ⊛ ‵ ftrue) (id⊢ 𝓤 _) $ split ! $ move ! (2 ∷ 0 ∷ []) $ join ! $ move ! (3 ∷ 2 ∷ []) $
    let request = at_gives source 𝓛 𝓜.mem 𝓡.returns life share handle alloc_handle b o (n * 16) 8 block_type in
    regoal ! (λ (us : List Val). prop (WpFn 𝓤 H code_table layouts fn us promised)) (λ i. (told.0 ∙ ap (λ (p : Ptr). list_val p ∷ []) at) i ++ ((lease_told words.1.0 are.1.0.0).0 i ++ (are.1.1.0.0 i ++ (are.1.1.1.0.0 i ++ [])))) refl $
    enter ! code_table layouts fn (list_val (block_ptr b o) ∷ lease_val ∷ vptr handle.0 handle.1 ∷ vint w64 n ∷ []) promised $
    alloc_all ! (λ l. pass_all ! refl ((tt, (tt, tt)), ((tt, (tt, tt)), ((tt, tt), ((tt, record { fits = fits }), tt)))) $ let locals_of : Env 𝓤 𝓛.H = env fn.locals l in
    sets ! (of_opd ! (get_in ! (fld ! refl (stop !)) (sub ! 0 refl (whole !)))) refl (tt, tt) $
    first ! $ blocks ! $
    sets ! (of_opd ! (get ! refl)) refl (tt, tt) $
    sets ! (bin ! (get ! refl) (lit ! tt) (record { fits = bytes })) refl (tt, record { fits = bytes }) $
    use3 𝓛 (raw ((Gives source 𝓛 𝓜.mem 𝓡.returns).pre request)) (Gives-goes source 𝓛 𝓜.mem 𝓡.returns life share handle alloc_handle (⊑_trans life z.0.0.1.0 A.lives z.0.2.0 le) b o (n * 16) 8 block_type (capped_is (n * 16) bytes) refl bytes (lit< tt)) $
    calls_at_last ! (fm 𝓛 𝓜 𝓡) (Gives source 𝓛 𝓜.mem 𝓡.returns) (met.deallocate dd) request (and_then ! (get ! refl) (and_then ! (get ! refl) (and_then ! (get ! refl) (and_then ! (lit ! tt) (no_more !))))) (λ v.
    use1 𝓛 (later (given (v ≡ vunit) (‵ (flft life share)))) (Gives-Gives source 𝓛 𝓜.mem 𝓡.returns life share handle alloc_handle b o (n * 16) 8 block_type v) $ await ! tt $ learn ! (λ e. join ! $
    regoal ! (λ (u : Val). settles locals_of (place 6 []) u (out_of_block 𝓛 (then_runs 𝓛 code_table layouts locals_of (after 2 fn.body) (at_ret locals_of promised)))) e refl $ lands_last ! refl (tt, tt) $
    exec ! code_table layouts locals_of (after 2 fn.body) (at_ret locals_of promised) $
    sets ! (of_opd ! (unit_lit !)) refl (tt, tt) $
    returns ! (look_at ! 0 refl) $ free_all ! refl $
    feq_i ! (List Val) (vunit ∷ []) (vunit ∷ []) refl $ nothing ! $ nothing ! $ nothing ! $ fjoin ! $ nothing ! $ fjoin ! $ nothing ! $ fjoin ! $ nothing ! $ fjoin ! $ move ! (3 ∷ 0 ∷ 2 ∷ 1 ∷ []) $
    by ! (leaves 𝓛 En₀ stays c z vunit tt (tt, (tt, (tt, (tt, tt)))) (tt, (tt, (tt, (tt, tt)))))))))))))
