use Rattle.std.proofs.Common.{ℕ, [], ◌++◌, Option, Some, sym, ◌∙◌, ap, unwrap_or, Vec, rules}
use Rattle.std.specs.declared.alloc.Global.{Global}
use Rattle.std.specs.Option.{option_map}
use Rattle.std.specs.FinMap.{get, insert}
use Rattle.acas_outside.specs.Stored.{files_of}
use Rattle.acas_outside.proofs.Appended.{on_err_always}
use Rattle.acas_outside.proofs.StoredFiles.{get-files_of, files_of-insert}
use Rattle.acas_outside.proofs.Inserted.{insert-same, not_held}
use Rattle.acas_outside.proofs.stored.grow.Goals as goal

pub returns-in_err-extend_from_slice-in-Some-clause-err :
    goal.returns-in_err-extend_from_slice-in-Some-clause-err
returns-in_err-extend_from_slice-in-Some-clause-err c =
    let held = get-files_of c.args.files.now c.args.name.now ∙ ap (option_map (λ (v : Vec ℕ Global). v.items)) (sym {A = Option (Vec ℕ Global)} c.in-Some.ensures.value) in
    on_err_always _ (
    files_of-insert c.args.name.now c.args.files.now (c.get_mut.follows.lender c.extend_from_slice.new.self) c.extend_from_slice.new.self ((c.get_mut.follows.holds c.extend_from_slice.new.self).3 (search rules))
    ∙ insert-same (files_of c.args.files.now) c.args.name.now c.extend_from_slice.new.self.items (held ∙ ap Some (sym c.in_err-extend_from_slice-in-Some.ensures.items)))

pub returns-in_ok-extend_from_slice-in-Some-clause-ok :
    goal.returns-in_ok-extend_from_slice-in-Some-clause-ok
returns-in_ok-extend_from_slice-in-Some-clause-ok c =
    let held = get-files_of c.args.files.now c.args.name.now ∙ ap (option_map (λ (v : Vec ℕ Global). v.items)) (sym {A = Option (Vec ℕ Global)} c.in-Some.ensures.value) in
    files_of-insert c.args.name.now c.args.files.now (c.get_mut.follows.lender c.extend_from_slice.new.self) c.extend_from_slice.new.self ((c.get_mut.follows.holds c.extend_from_slice.new.self).3 (search rules))
    ∙ ap (insert (files_of c.args.files.now) c.args.name.now) (
    c.in_ok-extend_from_slice-in-Some.ensures.items
    ∙ ap (λ o. unwrap_or o [] ++ c.args.bytes.now) (sym held))

pub returns-in-None-clause-ok : goal.returns-in-None-clause-ok
returns-in-None-clause-ok c =
    let missing = get-files_of c.args.files.now c.args.name.now ∙ ap (option_map (λ (v : Vec ℕ Global). v.items)) (sym {A = Option (Vec ℕ Global)} c.in-None.ensures.value) in
    absurd (not_held (get (files_of c.args.files.now) c.args.name.now) missing c.requires.held)
