use Rattle.std.proofs.Common.{◌≡◌, ℕ, ◌+◌, ◌*◌, ◌<◌, ◌∙◌, Ok, Err, refl, ap, sym, subst, arith}
use Rattle.std.proofs.lemmas.Result.{err_from_is_err_and}
use Rattle.acas_spec.specs.Model.{vertices}
use Rattle.acas_grid.specs.Grid.{state_number}
use Rattle.acas_table.specs.Reader.{Told, reader_state}
use Rattle.acas_table.specs.declared.reader.TableReader.{TableReader}
use Rattle.acas_accept.specs.Checking.{IsCheckOf, IsInLayer}
use Rattle.acas_accept.specs.Reading.{ReadsOn}
use Rattle.acas_accept.specs.declared.check.TableCheck.{TableCheck}
use Rattle.acas_accept.proofs.Frames.{reads_on, stays}
use Rattle.acas_accept.proofs.Planes.{next_plane, next_vertex, numbered, state_below}
use Rattle.acas_table.proofs.Told.{told_all, told_at, told_then}
use Rattle.acas_accept.proofs.check.TableCheck.plane.Goals as goal

pub loop-vertex-init : goal.loop-vertex-init
loop-vertex-init g c = record {
  check = c.find_leasts-found.ensures.check _ c.requires.check;
  given = λ digest. told_all _ c.args.name.now _ (λ bytes within. c.find_leasts-found.ensures.given digest _ bytes within);
  found = c.find_leasts-found.ensures.found;
  reads = stays g.F.Folder _ _ _ _ _ (ap (λ (r : TableReader). r.shape) c.find_leasts-found.ensures.reader) (ap (λ (r : TableReader). r.format) c.find_leasts-found.ensures.reader) (ap (λ (r : TableReader). (reader_state r).taken) c.find_leasts-found.ensures.reader);
}

pub quick_entry-requires : goal.quick_entry-requires
quick_entry-requires g c =
    let within : c.loop-vertex.vertex < vertices c.args.model.now.grid = omega (arith, c.vertices-vertices.ensures.value, ap vertices c.grid.ensures.value) in
    let number = numbered c.args.model.now.grid c.args.plane.now.present c.loop-vertex.vertex c.from.result c.vertices-vertices.result c.from.ensures (c.vertices-vertices.ensures.value ∙ ap vertices c.grid.ensures.value) in
    let inside = state_below c.args.model.now.grid c.args.plane.now.present c.loop-vertex.vertex (c.from.result * c.vertices-vertices.result + c.loop-vertex.vertex) c.requires.plane.present within number in
    let check = subst (λ (s : ℕ). IsCheckOf c.args.model.now c.loop-vertex.self c.args.n s) (sym number) c.loop-vertex.invariant.check in
    record { n = c.requires.n; plane = c.requires.plane; found = c.loop-vertex.invariant.found; vertex = within; state = inside; place = number; check = check }

pub entry-requires : goal.entry-requires
entry-requires g c =
    let within : c.loop-vertex.vertex < vertices c.args.model.now.grid = omega (arith, c.vertices-vertices.ensures.value, ap vertices c.grid.ensures.value) in
    let number = numbered c.args.model.now.grid c.args.plane.now.present c.loop-vertex.vertex c.from.result c.vertices-vertices.result c.from.ensures (c.vertices-vertices.ensures.value ∙ ap vertices c.grid.ensures.value) in
    let inside = state_below c.args.model.now.grid c.args.plane.now.present c.loop-vertex.vertex (c.from.result * c.vertices-vertices.result + c.loop-vertex.vertex) c.requires.plane.present within number in
    let check = subst (λ (s : ℕ). IsCheckOf c.args.model.now c.loop-vertex.self c.args.n s) (sym number) c.loop-vertex.invariant.check in
    record {
      served = rw c.loop-vertex.invariant.reads.frame.serves c.requires.served;
      at = record { seconds = c.requires.n; advisory = c.requires.plane.present; place = within; inside = inside; is = number };
      check = subst (λ (t : TableCheck). IsCheckOf c.args.model.now t c.args.n (c.from.result * c.vertices-vertices.result + c.loop-vertex.vertex)) (sym (c.if-quick_entry.ensures.none refl)) check;
    }

pub loop-vertex-preserved-then-quick_entry : goal.loop-vertex-preserved-then-quick_entry
loop-vertex-preserved-then-quick_entry g c =
    let state : ℕ = c.from.result * c.vertices-vertices.result + c.loop-vertex.vertex in
    let number = numbered c.args.model.now.grid c.args.plane.now.present c.loop-vertex.vertex c.from.result c.vertices-vertices.result c.from.ensures (c.vertices-vertices.ensures.value ∙ ap vertices c.grid.ensures.value) in
    let next : state + 1 ≡ state_number c.args.model.now.grid c.args.plane.now.present (c.loop-vertex.vertex + 1) = ap (λ (s : ℕ). s + 1) number ∙ next_vertex c.args.model.now.grid c.args.plane.now.present c.loop-vertex.vertex in
    record {
      check = subst (λ (s : ℕ). IsCheckOf c.args.model.now c.quick_entry.new.self c.args.n s) next (c.if-quick_entry.ensures.check refl);
      given = λ digest.
          subst (λ (s : ℕ). Told (g.F.Folder.holds c.args.folder.now) c.args.name.now (λ bytes. IsInLayer c.args.model.now digest c.args.self.now c.args.n (state_number c.args.model.now.grid c.args.plane.now.present 0) bytes → IsInLayer c.args.model.now digest c.quick_entry.new.self c.args.n s bytes)) next
          (told_then _ c.args.name.now (λ bytes. IsInLayer c.args.model.now digest c.args.self.now c.args.n (state_number c.args.model.now.grid c.args.plane.now.present 0) bytes) (λ bytes. IsInLayer c.args.model.now digest c.loop-vertex.self c.args.n state bytes) _
          (subst (λ (s : ℕ). Told (g.F.Folder.holds c.args.folder.now) c.args.name.now (λ bytes. IsInLayer c.args.model.now digest c.args.self.now c.args.n (state_number c.args.model.now.grid c.args.plane.now.present 0) bytes → IsInLayer c.args.model.now digest c.loop-vertex.self c.args.n s bytes)) (sym number) (c.loop-vertex.invariant.given digest))
          (told_all _ c.args.name.now _ (λ bytes within. c.if-quick_entry.ensures.given refl digest bytes within)));
      found = λ yes. rw (c.quick_entry.ensures.means, c.quick_entry.ensures.leasts) (c.loop-vertex.invariant.found yes);
      reads = reads_on g.F.Folder _ _ _ _ _ _ _ _ _ c.loop-vertex.invariant.reads (stays g.F.Folder _ _ _ _ tt c.quick_entry.ensures.shape c.quick_entry.ensures.format c.quick_entry.ensures.taken);
    }

pub returns-in_err-entry : goal.returns-in_err-entry
returns-in_err-entry g c =
    let p = err_from_is_err_and c.from_residual.result c.from_residual.ensures.1 in
    let state : ℕ = c.from.result * c.vertices-vertices.result + c.loop-vertex.vertex in
    let number = numbered c.args.model.now.grid c.args.plane.now.present c.loop-vertex.vertex c.from.result c.vertices-vertices.result c.from.ensures (c.vertices-vertices.ensures.value ∙ ap vertices c.grid.ensures.value) in
    rw (p.1, p.2) (record {
      given = λ digest.
          told_then _ c.args.name.now (λ bytes. IsInLayer c.args.model.now digest c.args.self.now c.args.n (state_number c.args.model.now.grid c.args.plane.now.present 0) bytes) (λ bytes. IsInLayer c.args.model.now digest c.quick_entry.new.self c.args.n state bytes) _
          (subst (λ (t : TableCheck). Told (g.F.Folder.holds c.args.folder.now) c.args.name.now (λ bytes. IsInLayer c.args.model.now digest c.args.self.now c.args.n (state_number c.args.model.now.grid c.args.plane.now.present 0) bytes → IsInLayer c.args.model.now digest t c.args.n state bytes)) (sym (c.if-quick_entry.ensures.none refl))
          (subst (λ (s : ℕ). Told (g.F.Folder.holds c.args.folder.now) c.args.name.now (λ bytes. IsInLayer c.args.model.now digest c.args.self.now c.args.n (state_number c.args.model.now.grid c.args.plane.now.present 0) bytes → IsInLayer c.args.model.now digest c.loop-vertex.self c.args.n s bytes)) (sym number) (c.loop-vertex.invariant.given digest)))
          (told_at _ _ c.args.name.now _ c.loop-vertex.invariant.reads.frame.holds (c.in_err-entry.ensures.given digest));
      check = tt;
      reads = reads_on g.F.Folder _ _ _ _ _ _ _ _ _ c.loop-vertex.invariant.reads (subst (λ (t : TableCheck). ReadsOn {X = Unit {0}} g.F.Folder c.loop-vertex.folder c.entry.new.folder c.args.name.now t c.entry.new.self (Err c.in_err-entry.field-0.0)) (c.if-quick_entry.ensures.none refl) c.in_err-entry.ensures.reads);
    })

pub loop-vertex-preserved : goal.loop-vertex-preserved
loop-vertex-preserved g c =
    let state : ℕ = c.from.result * c.vertices-vertices.result + c.loop-vertex.vertex in
    let number = numbered c.args.model.now.grid c.args.plane.now.present c.loop-vertex.vertex c.from.result c.vertices-vertices.result c.from.ensures (c.vertices-vertices.ensures.value ∙ ap vertices c.grid.ensures.value) in
    let next : state + 1 ≡ state_number c.args.model.now.grid c.args.plane.now.present (c.loop-vertex.vertex + 1) = ap (λ (s : ℕ). s + 1) number ∙ next_vertex c.args.model.now.grid c.args.plane.now.present c.loop-vertex.vertex in
    record {
      check = subst (λ (s : ℕ). IsCheckOf c.args.model.now c.entry.new.self c.args.n s) next c.in_ok-entry.ensures.check;
      given = λ digest.
          subst (λ (s : ℕ). Told (g.F.Folder.holds c.args.folder.now) c.args.name.now (λ bytes. IsInLayer c.args.model.now digest c.args.self.now c.args.n (state_number c.args.model.now.grid c.args.plane.now.present 0) bytes → IsInLayer c.args.model.now digest c.entry.new.self c.args.n s bytes)) next
          (told_then _ c.args.name.now (λ bytes. IsInLayer c.args.model.now digest c.args.self.now c.args.n (state_number c.args.model.now.grid c.args.plane.now.present 0) bytes) (λ bytes. IsInLayer c.args.model.now digest c.quick_entry.new.self c.args.n state bytes) _
          (subst (λ (t : TableCheck). Told (g.F.Folder.holds c.args.folder.now) c.args.name.now (λ bytes. IsInLayer c.args.model.now digest c.args.self.now c.args.n (state_number c.args.model.now.grid c.args.plane.now.present 0) bytes → IsInLayer c.args.model.now digest t c.args.n state bytes)) (sym (c.if-quick_entry.ensures.none refl))
          (subst (λ (s : ℕ). Told (g.F.Folder.holds c.args.folder.now) c.args.name.now (λ bytes. IsInLayer c.args.model.now digest c.args.self.now c.args.n (state_number c.args.model.now.grid c.args.plane.now.present 0) bytes → IsInLayer c.args.model.now digest c.loop-vertex.self c.args.n s bytes)) (sym number) (c.loop-vertex.invariant.given digest)))
          (told_at _ _ c.args.name.now _ c.loop-vertex.invariant.reads.frame.holds (c.in_ok-entry.ensures.given digest)));
      found = λ yes. rw (c.entry.ensures.means, c.entry.ensures.leasts, c.quick_entry.ensures.means, c.quick_entry.ensures.leasts) (c.loop-vertex.invariant.found yes);
      reads = reads_on g.F.Folder _ _ _ _ _ _ _ _ _ c.loop-vertex.invariant.reads (subst (λ (t : TableCheck). ReadsOn {X = Unit {0}} g.F.Folder c.loop-vertex.folder c.entry.new.folder c.args.name.now t c.entry.new.self (Ok tt)) (c.if-quick_entry.ensures.none refl) c.in_ok-entry.ensures.reads);
    }

pub returns : goal.returns
returns g c =
    let all : c.loop-vertex.vertex ≡ vertices c.args.model.now.grid = omega (arith, c.vertices-vertices.ensures.value, ap vertices c.grid.ensures.value) in
    let next = next_plane c.args.model.now.grid c.args.plane.now.present c.loop-vertex.vertex all in
    record {
      given = λ digest.
          subst (λ (s : ℕ). Told (g.F.Folder.holds c.args.folder.now) c.args.name.now (λ bytes. IsInLayer c.args.model.now digest c.args.self.now c.args.n (state_number c.args.model.now.grid c.args.plane.now.present 0) bytes → IsInLayer c.args.model.now digest c.loop-vertex.self c.args.n s bytes)) next
          (c.loop-vertex.invariant.given digest);
      check = subst (λ (s : ℕ). IsCheckOf c.args.model.now c.loop-vertex.self c.args.n s) next c.loop-vertex.invariant.check;
      reads = c.loop-vertex.invariant.reads;
    }
