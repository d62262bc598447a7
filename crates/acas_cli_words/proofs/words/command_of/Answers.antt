use Rattle.std.proofs.Common.{map, arith}
use Rattle.std.proofs.lemmas.Grind.{common_steps}
use Rattle.std.proofs.lemmas.List.{length-map}
use Rattle.std.specs.Prelude.{string_bytes}
use Rattle.acas_cli_words.proofs.OtherWords.{form_of-none}
use Rattle.acas_cli_words.proofs.words.command_of.Goals.{in_default-via-then-words-lt2, in_default-via-else-words-lt2+else-words-lt3+else-words-lt4+else-words-lt5+else-words-lt6}
use Rattle.acas_cli_words.proofs.words.command_of.Goals as goal

pub returns-in_default : goal.returns-in_default
returns-in_default c =
    let same = length-map c.args.words.now string_bytes in
    elim c.in_default.branch [
      | in_default-via-then-words-lt2 w ↦ form_of-none (map string_bytes c.args.words.now) (λ two. grind (arith, same, two)) (λ three. grind (arith, same, three)) (λ four. grind (arith, same, four)) (λ five. grind (arith, same, five))
      | in_default-via-else-words-lt2+else-words-lt3+else-words-lt4+else-words-lt5+else-words-lt6 w ↦ form_of-none (map string_bytes c.args.words.now) (λ two. grind (arith, same, two)) (λ three. grind (arith, same, three)) (λ four. grind (arith, same, four)) (λ five. grind (arith, same, five))
    ]

pub returns-in-len2 : goal.returns-in-len2
returns-in-len2 c = grind (arith, common_steps)

pub returns-in-len3 : goal.returns-in-len3
returns-in-len3 c = grind (arith, common_steps)

pub returns-in-len4 : goal.returns-in-len4
returns-in-len4 c = grind (arith, common_steps)

pub returns-in-len5 : goal.returns-in-len5
returns-in-len5 c = grind (arith, common_steps)
