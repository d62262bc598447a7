-- One table in two files.
use Rattle.std.proofs.Common.{◌≡◌, ℕ, ◌+◌, ◌*◌, ◌<◌, List, [], ◌∷◌, length, None, sym, ◌∙◌, ap, subst, arith}
use Rattle.std.specs.Int.{w64}
use Rattle.std.specs.Prelude.{FitsSigned}
use Rattle.acas_units.specs.declared.pair.Entry.{Entry}
use Rattle.acas_outside.specs.Bytes.{IsBytes}
use Rattle.acas_table_text.specs.Shape.{IsShape, entry_count}
use Rattle.acas_table_text.specs.Format.{format_of}
use Rattle.acas_table_text.specs.Text.{text_of_layers}
use Rattle.acas_table_text.specs.Tables.{IsTable, as_layered, layers_at}
use Rattle.acas_table_text.specs.Faults.{advice_fault, entry_fault, first_below, first_fault, header_fault, tail_fault}
use Rattle.acas_table_text.specs.declared.format.Format.{Format}
use Rattle.acas_table_text.specs.declared.format.Format.TheVariants.{Layered}
use Rattle.acas_table_text.specs.declared.shape.TableShape.{TableShape}
use Rattle.acas_table_text.proofs.Backward.{good_is_text}
use Rattle.acas_table_text.proofs.Given.{entry_given, layers_given_even, length-layers_at}
use Rattle.acas_table_text.proofs.Nones.{each_none, first_none}
use Rattle.acas_table_text_laws.proofs.FieldFaults.{advice_passes, lower_fits, upper_fits}
use Rattle.acas_table_text_laws.proofs.TextLaws.{layers_again, place_below}

-- each entry of bytes without fault is without fault
pub each_entry_none : (digest : List ℕ) (s : TableShape) (bytes : List ℕ) (i : ℕ) → first_fault digest s bytes ≡ None → i < entry_count s → entry_fault s bytes i ≡ None
unfolding first_fault
each_entry_none digest s bytes i none within =
    let entries = first_below (entry_fault s bytes) (entry_count s) in
    let a = first_none (header_fault digest s bytes) (entries ∷ tail_fault s bytes ∷ []) none in
    let b = first_none entries (tail_fault s bytes ∷ []) a.1 in
    each_none (entry_fault s bytes) (entry_count s) i b.0 within

-- the layers that bytes without fault have are a table
pub is_table_at : (digest : List ℕ) (s : TableShape) (bytes : List ℕ) → length digest ≡ 32 → IsShape s → IsBytes bytes → first_fault digest s bytes ≡ None → IsTable digest s (layers_at s bytes)
is_table_at digest s bytes long shape small none = record {
  digest_is = long;
  shape = shape;
  count = length-layers_at s bytes;
  states = λ n seconds. layers_given_even s bytes n (omega (arith, length-layers_at s bytes));
  upper = λ n state seconds inside.
      subst (λ (e : Entry). FitsSigned w64 e.pair.upper) (sym (entry_given s bytes n state seconds inside)) (upper_fits s bytes (n * s.states + state) small);
  lower = λ n state seconds inside.
      subst (λ (e : Entry). FitsSigned w64 e.pair.lower) (sym (entry_given s bytes n state seconds inside)) (lower_fits s bytes (n * s.states + state) small);
  advice = λ n state seconds inside.
      ap (λ (e : Entry). advice_fault s (n * s.states + state) e.advice) (entry_given s bytes n state seconds inside)
      ∙ advice_passes s bytes (n * s.states + state) (each_entry_none digest s bytes (n * s.states + state) none (place_below s n state seconds inside));
}

pub same_layers : (digest : List ℕ) (s : TableShape) (first second : List ℕ) → IsShape s → IsBytes second → first_fault digest s second ≡ None → format_of second ≡ Layered
    → layers_at s first ≡ layers_at s second → second ≡ as_layered digest s first
same_layers digest s first second shape small none layered same =
    good_is_text digest s second shape small none
    ∙ ap (λ (f : Format). text_of_layers f digest s (layers_at s second)) layered
    ∙ ap (text_of_layers Layered digest s) (sym same)

pub made_layers : (digest : List ℕ) (s : TableShape) (first second : List ℕ) → length digest ≡ 32 → IsShape s → IsBytes first → first_fault digest s first ≡ None
    → second ≡ as_layered digest s first → layers_at s first ≡ layers_at s second
made_layers digest s first second long shape small none made =
    sym (layers_again Layered digest s (layers_at s first) (is_table_at digest s first long shape small none)) ∙ ap (layers_at s) (sym made)
