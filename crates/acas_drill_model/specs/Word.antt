-- Words that name numbers, and the word that names a drill.
use Rattle.std.specs.Prelude.{ℕ, nat_le, ◌&&◌, List, Option, Some, None, if◌then◌else◌}
use Rattle.std.specs.Fmt.{decimal}
use Rattle.std.specs.Str.{bytes_eq}
use Rattle.std.specs.Str.Parse.{digits_value}
use Rattle.acas_units.specs.declared.limits.TheConstants.{GREATEST_DRILL_NUMBER, LEAST_DRILL_NUMBER}

-- a word names a number from the least to the greatest, where it is the number's decimal text
abbrev pub names_number : ℕ → ℕ → List ℕ → ℕ → Option ℕ
names_number least greatest word number = if bytes_eq word (decimal number) && (nat_le least number && nat_le number greatest) then Some number else None

-- the number that a word names: no other can be than that of its digits
unfoldable pub number_within : ℕ → ℕ → List ℕ → Option ℕ
number_within least greatest word = names_number least greatest word (digits_value 10 word)

-- the number of a drill
unfoldable pub drill_number : List ℕ → Option ℕ
drill_number word = number_within LEAST_DRILL_NUMBER GREATEST_DRILL_NUMBER word
