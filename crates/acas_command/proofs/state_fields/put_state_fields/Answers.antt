use Rattle.std.proofs.Common.{◌≡◌, ◌++◌, rules}
use Rattle.std.specs.Fmt.{signed_decimal}
use Rattle.acas_spec.specs.Axis.{place_value}
use Rattle.acas_spec.specs.Model.{advisory_at}
use Rattle.acas_command.specs.Fields.{feet, field, state_fields}
use Rattle.acas_command.proofs.Fields.{one_piece_more}
use Rattle.acas_command.proofs.state_fields.put_state_fields.Goals as goal

pub returns-clause-value : goal.returns-clause-value
unfolding state_fields
returns-clause-value c =
    let line = c.args.line.now in
    let g = c.args.model.now.grid in
    let name = field (advisory_at c.args.model.now c.args.present).name in
    let altitude = field (signed_decimal (feet (place_value g.h c.args.vertex.i))) in
    let own = field (signed_decimal (place_value g.v0 c.args.vertex.j)) in
    let other = field (signed_decimal (place_value g.v1 c.args.vertex.k)) in
    let first : c.put_name_field.new.line ≡ line ++ name = search rules in
    let second = one_piece_more line name altitude _ c.put_number_field.new.line first (search rules) in
    let third = one_piece_more line (name ++ altitude) own _ c.put_number_field-2.new.line second (search rules) in
    one_piece_more line (name ++ altitude ++ own) other _ c.put_number_field-3.new.line third (search rules)
