-- A writer behind a header and behind layers.
use Rattle.std.proofs.Common.{◌≡◌, ℕ, ◌+◌, List, [], ◌∷◌, ◌++◌, sym, ◌∙◌, ap, subst}
use Rattle.std.proofs.lemmas.List.{length_push}
use Rattle.acas_units.specs.declared.pair.Entry.{Entry}
use Rattle.acas_table_text.specs.Growth.{base, next_base}
use Rattle.acas_table_writer.specs.Pieces.{Holds}
use Rattle.acas_table_writer.specs.Writer.{HasWritten}
use Rattle.acas_table_writer.specs.declared.writer.TableWriter.{TableWriter}
use Rattle.acas_table_text.specs.declared.format.Format.{Format}
use Rattle.acas_table_text.proofs.Versions.{base-more}

pub writes_layer : (old new : TableWriter) (layers : List (List Entry)) (layer : List Entry) → HasWritten old layers → new.format ≡ old.format → new.head.items ≡ old.head.items → new.given ≡ old.given + 1
    → Holds new.pieces (next_base old.format (base old.format old.head.items layers) layer) → HasWritten new (layers ++ layer ∷ [])
writes_layer old new layers layer written format head given holds = record {
  hashed =
      subst (λ (l : List ℕ). Holds new.pieces l)
      (sym (ap (λ (f : Format). base f new.head.items (layers ++ layer ∷ [])) format ∙ ap (λ (h : List ℕ). base old.format h (layers ++ layer ∷ [])) head ∙ base-more old.format old.head.items layers layer))
      holds;
  count = length_push layers layer ∙ ap (λ (n : ℕ). n + 1) written.count ∙ sym given;
}
