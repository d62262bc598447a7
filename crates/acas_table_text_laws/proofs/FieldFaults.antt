-- What is read of bytes without fault: values of 64 bits, and no advice in layer 0.
use Rattle.std.proofs.Common.{◌≡◌, ℕ, ◌<◌, ◌≤◌, Bool, true, cond, List, [], ◌∷◌, None, sym, ◌∙◌, ap, arith, w64, to_z, inl, inr}
use Rattle.std.proofs.Math.Facts.{sfits_to_z}
use Rattle.std.proofs.lemmas.Bool.{cases_lt, eqb-true, le-ltb, lt-ltb, ltb-true}
use Rattle.std.specs.Prelude.{◌==◌, FitsSigned, nat_lt}
use Rattle.byteorder.specs.Endian.{little_number}
use Rattle.byteorder.specs.Numbers.{little_from-lt}
use Rattle.acas_outside.specs.Bytes.{IsBytes}
use Rattle.acas_table_text.specs.Format.{ended_group, entry_start, expected_length, format_of, part}
use Rattle.acas_table_text.specs.Faults.{advice_fault, bytes_fault, end_fault, ended_fault, entry_fault}
use Rattle.acas_table_text.specs.Text.{entry_at, entry_of}
use Rattle.acas_table_text.specs.declared.shape.TableShape.{TableShape}
use Rattle.acas_table_text.proofs.Backward.{passed_if, small_part}
use Rattle.acas_table_text.proofs.Nones.{first_none}

number_fits : (bytes : List ℕ) → IsBytes bytes → FitsSigned w64 (to_z w64 (little_number 8 bytes))
number_fits bytes small = sfits_to_z (omega (arith, little_from-lt 0 8 bytes small))

pub upper_fits : (s : TableShape) (bytes : List ℕ) (i : ℕ) → IsBytes bytes → FitsSigned w64 (entry_at s bytes i).pair.upper
unfolding entry_of
upper_fits s bytes i small =
    let field = part bytes (entry_start (format_of bytes) s i) 17 in
    number_fits (part field 0 8) (small_part field 0 8 (small_part bytes (entry_start (format_of bytes) s i) 17 small))

pub lower_fits : (s : TableShape) (bytes : List ℕ) (i : ℕ) → IsBytes bytes → FitsSigned w64 (entry_at s bytes i).pair.lower
unfolding entry_of
lower_fits s bytes i small =
    let field = part bytes (entry_start (format_of bytes) s i) 17 in
    number_fits (part field 8 8) (small_part field 8 8 (small_part bytes (entry_start (format_of bytes) s i) 17 small))

-- the advice of an entry without fault is without fault
pub advice_passes : (s : TableShape) (bytes : List ℕ) (i : ℕ) → entry_fault s bytes i ≡ None → advice_fault s i (entry_at s bytes i).advice ≡ None
unfolding entry_fault bytes_fault
advice_passes s bytes i none =
    let advice = advice_fault s i (entry_at s bytes i).advice in
    let behind = first_none (ended_fault s bytes (ended_group (format_of bytes) s i)) (bytes_fault s bytes i ∷ []) none in
    let here = first_none (bytes_fault s bytes i) [] behind.1 in
    let field = first_none (end_fault (expected_length s bytes) bytes (entry_start (format_of bytes) s i) 17) (advice ∷ []) here.0 in
    (first_none advice [] field.1).0

-- an entry of layer 0 advises nothing
pub no_advice_at : (s : TableShape) (bytes : List ℕ) (i : ℕ) → i < s.states → entry_fault s bytes i ≡ None → (entry_at s bytes i).advice ≡ 255
no_advice_at s bytes i first none =
    let byte : ℕ = (entry_at s bytes i).advice in
    let passes : cond (nat_lt i s.states) (byte == 255) (nat_lt byte s.advisories) ≡ true = passed_if _ _ (advice_passes s bytes i none) in
    eqb-true byte 255 (ap (λ (b : Bool). cond b (byte == 255) (nat_lt byte s.advisories)) (sym (lt-ltb i s.states first)) ∙ passes)

-- an advice is a byte
pub advice_small : (s : TableShape) (bytes : List ℕ) (i : ℕ) → s.advisories ≤ 256 → entry_fault s bytes i ≡ None → (entry_at s bytes i).advice < 256
advice_small s bytes i few none =
    let byte : ℕ = (entry_at s bytes i).advice in
    let passes : cond (nat_lt i s.states) (byte == 255) (nat_lt byte s.advisories) ≡ true = passed_if _ _ (advice_passes s bytes i none) in
    elim (cases_lt i s.states) [
      | inl first ↦ omega (arith, no_advice_at s bytes i first none)
      | inr above ↦
          let known = ltb-true byte s.advisories (ap (λ (b : Bool). cond b (byte == 255) (nat_lt byte s.advisories)) (sym (le-ltb i s.states above)) ∙ passes) in
          omega (arith, known, few)
    ]
