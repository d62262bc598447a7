-- The last line, and what was written then.
use Rattle.std.proofs.Common.{◌≡◌, ℕ, List, [], ◌∷◌, ◌++◌, length, Option, refl, sym, ◌∙◌, ap, subst, append_assoc, arith, map}
use Rattle.std.proofs.lemmas.List.{append-nil}
use Rattle.acas_outside.specs.Bytes.{Appends, AppendsPart}
use Rattle.acas_outside.proofs.Appended.{appends_none}
use Rattle.acas_outside.specs.Printing.{Prints}
use Rattle.acas_outside.proofs.PrintedPieces.{prints_both, prints_all, part_of_next, part_of_longer}
use Rattle.acas_report_lines.specs.Report.{Ruled, counts_of}
use Rattle.acas_report_lines.specs.Plan.{Plan, Progress, Wrote, Broke, lines_in, certified_in, reported_in, clear_in}
use Rattle.acas_report_lines.specs.declared.counts.Counts.{Counts}
use Rattle.acas_report_lines.proofs.Steps.{lines-append}

-- what waited and a last text are written out
prints_last : (old new : Option (List ℕ)) (waits last : List ℕ) → Appends old new (waits ++ last) → Prints old new waits [] last
prints_last old new waits last whole = record { sent = waits ++ last; written = whole; all = sym (append-nil (waits ++ last)) }

counts_same : (a b : Counts) → a.certified ≡ b.certified → a.reported ≡ b.reported → a.clear ≡ b.clear → a ≡ b
counts_same a b cert rep clr =
    let mk : ℕ → ℕ → ℕ → Counts = λ x y z. record { certified = x; reported = y; clear = z } in
    ap (λ x. mk x a.reported a.clear) cert ∙ ap (λ y. mk b.certified y a.clear) rep ∙ ap (λ z. mk b.certified b.reported z) clr

-- the counts, from none
pub counted : {N X R : Type 0} (plan : Plan N X R) (p q : Progress) (items : List X) (wrote : Wrote plan p q items) → p.counts.certified ≡ 0 → p.counts.reported ≡ 0 → p.counts.clear ≡ 0 → q.counts ≡ counts_of plan.certified wrote.ruled (clear_in plan items)
unfolding certified_in reported_in
counted plan p q items wrote cert rep clr =
    counts_same q.counts (counts_of plan.certified wrote.ruled (clear_in plan items))
    (omega (arith, wrote.certified, cert))
    (omega (arith, wrote.reported, rep))
    (omega (arith, wrote.clear, clr))

-- all lines, and then the last
pub appended : {N X R : Type 0} (plan : Plan N X R) (p q : Progress) (items : List X) (new : Option (List ℕ)) (last : List ℕ) (wrote : Wrote plan p q items) → p.waits ≡ [] → Appends q.written new (q.waits ++ last) → Appends p.written new (lines_in plan wrote.ruled ++ last)
appended plan p q items new last wrote empty whole =
    let both = prints_both _ _ _ _ _ _ _ _ wrote.printed (prints_last q.written new q.waits last whole) in
    subst (λ (l : List ℕ). Appends p.written new (l ++ (lines_in plan wrote.ruled ++ last))) empty
    (prints_all p.written new new p.waits [] (lines_in plan wrote.ruled ++ last) both (appends_none new))

-- a failure at the last line
pub part_of_last : {N X R : Type 0} (plan : Plan N X R) (p q : Progress) (items : List X) (new : Option (List ℕ)) (last : List ℕ) (wrote : Wrote plan p q items) → p.waits ≡ [] → AppendsPart q.written new (q.waits ++ last) → AppendsPart p.written new (lines_in plan wrote.ruled ++ last)
part_of_last plan p q items new last wrote empty part =
    subst (λ (l : List ℕ). AppendsPart p.written new (l ++ (lines_in plan wrote.ruled ++ last))) empty
    (part_of_next _ _ _ _ _ _ _ wrote.printed part)

-- a failure before it, whatever lines go on and whatever is last
pub part_before : {N X R : Type 0} (plan : Plan N X R) (old new : Option (List ℕ)) (waited : List ℕ) (items : List X) (others : List (Ruled N R)) (last : List ℕ) (broke : Broke plan old waited new items) → waited ≡ [] → AppendsPart old new (lines_in plan (broke.ruled ++ others) ++ last)
part_before plan old new waited items others last broke empty =
    let part : AppendsPart old new (lines_in plan broke.ruled) = subst (λ (l : List ℕ). AppendsPart old new (l ++ lines_in plan broke.ruled)) empty broke.part in
    rw (lines-append plan broke.ruled others, append_assoc (lines_in plan broke.ruled) (lines_in plan others) last)
    (part_of_longer old new (lines_in plan broke.ruled) (lines_in plan others ++ last) part)

-- nothing more is ruled on
pub no_others : {N R : Type 0} (others : List (Ruled N R)) → map (λ (r : Ruled N R). r.name) others ≡ [] → others ≡ []
no_others [] none = refl
no_others (r ∷ rest) none = absurd (omega (arith, ap length none))
