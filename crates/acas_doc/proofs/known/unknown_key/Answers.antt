use Rattle.std.proofs.Common.{◌≡◌, false, true, rules, string_bytes}
use Rattle.std.specs.Map.Iter.{deref_pair}
use Rattle.std.proofs.lemmas.Map.Iter.{rest_more, rest_all}
use Rattle.acas_doc.specs.Known.{is_known}
use Rattle.acas_doc.proofs.KeyLoop.{known_next, known_ends, known_done}
use Rattle.acas_doc.proofs.known.unknown_key.Goals as goal

pub returns-then-not-names_key : goal.returns-then-not-names_key
returns-then-not-names_key c =
    let e = rest_more deref_pair c.loop-key.key-iterator c.next.new.self c.next.result (c.in-Some.key, c.in-Some.field-0-1) c.in-Some.is c.next.ensures.steps in
    let is : is_known c.args.known.now (string_bytes c.in-Some.key.now) ≡ false = search rules in
    rw c.as_str-then-not-names_key.ensures.value (known_ends _ _ _ _ _ _ e is c.loop-key.invariant)

pub loop-key-preserved : goal.loop-key-preserved
loop-key-preserved c =
    let e = rest_more deref_pair c.loop-key.key-iterator c.next.new.self c.next.result (c.in-Some.key, c.in-Some.field-0-1) c.in-Some.is c.next.ensures.steps in
    let is : is_known c.args.known.now (string_bytes c.in-Some.key.now) ≡ true = search rules in
    known_next _ _ _ _ _ _ e is c.loop-key.invariant

pub returns : goal.returns
returns c =
    let e = rest_all deref_pair c.loop-key.key-iterator c.next.new.self c.next.result c.in-None.is c.next.ensures.steps in
    known_done _ _ _ e c.loop-key.invariant
