-- One that is ruled on: its line, and what is counted.
use Rattle.std.proofs.Common.{◌≡◌, ℕ, ◌+◌, ◌<◌, ◌^◌, not, Bool, true, false, List, [], ◌∷◌, ◌++◌, Option, refl, sym, ◌∙◌, ap, subst, arith, cond, add-zero}
use Rattle.std.proofs.lemmas.List.{append-nil}
use Rattle.acas_outside.specs.Bytes.{AppendsPart}
use Rattle.acas_outside.specs.Printing.{Prints}
use Rattle.acas_report_lines.specs.Report.{is_left_out, shown}
use Rattle.acas_report_lines.specs.Plan.{Progress, Wrote, Broke, Room, names_in, lines_in, certified_in, reported_in, clear_in, total, single_plan}
use Rattle.acas_report_lines.specs.declared.counts.Counts.{Counts}
use Rattle.acas_report_lines.specs.declared.counts.Which.{Which}
use Rattle.acas_report_lines.proofs.Counting.{ruled_one}

-- a line that is not left out
shown_line : (which : Which) (certified : Bool) (line : List ℕ) → is_left_out which certified ≡ false → shown which certified line ≡ line
shown_line which certified line kept = ap (λ b. cond b [] line) kept

pub prints_shown : (old new : Option (List ℕ)) (waited waits : List ℕ) (which : Which) (certified : Bool) (line bytes : List ℕ) → is_left_out which certified ≡ false → bytes ≡ line → Prints old new waited waits bytes → Prints old new waited waits (shown which certified line)
prints_shown old new waited waits which certified line bytes kept same printed =
    subst (λ l. Prints old new waited waits l) (same ∙ sym (shown_line which certified line kept)) printed

pub broke_shown : (old new : Option (List ℕ)) (waited : List ℕ) (which : Which) (certified : Bool) (line bytes : List ℕ) → is_left_out which certified ≡ false → bytes ≡ line → AppendsPart old new (waited ++ bytes) → AppendsPart old new (waited ++ shown which certified line)
broke_shown old new waited which certified line bytes kept same part =
    subst (λ l. AppendsPart old new (waited ++ l)) (same ∙ sym (shown_line which certified line kept)) part

-- one more where b is true, as a sum
pub if_so : (b : Bool) (m n : ℕ) → n ≡ cond b (m + 1) m → n ≡ m + (0 + cond b 1 0)
if_so true m n e = e
if_so false m n e = e ∙ sym (add-zero m)

if_not : (b : Bool) (m n : ℕ) → n ≡ cond b m (m + 1) → n ≡ m + (0 + cond (not b) 1 0)
if_not true m n e = e ∙ sym (add-zero m)
if_not false m n e = e

-- the counts p with one more, which is certified where b is true, are q
pub record OneMore (b : Bool) (p q : Counts) : Type 0 where
  pub certified : q.certified ≡ cond b (p.certified + 1) p.certified
  pub reported : q.reported ≡ cond b p.reported (p.reported + 1)
  pub clear : q.clear ≡ p.clear

pub counted_one : (b certified : Bool) (p q : Counts) → b ≡ certified → q.certified ≡ cond b (p.certified + 1) p.certified → q.reported ≡ cond b p.reported (p.reported + 1) → q.clear ≡ p.clear → OneMore certified p q
counted_one b certified p q same cert rep clr = subst (λ (c : Bool). OneMore c p q) same (record { certified = cert; reported = rep; clear = clr })

-- one that is ruled on, printed where it is not left out, and counted
pub wrote_name : {N R : Type 0} (IsRulingOf : N → R → Type 0) (certified : R → Bool) (line : N → R → List ℕ) (which : Which) (name : N) (ruling : R) (p q : Progress) → IsRulingOf name ruling → Prints p.written q.written p.waits q.waits (shown which (certified ruling) (line name ruling)) → OneMore (certified ruling) p.counts q.counts → Wrote (single_plan IsRulingOf certified line which) p q (name ∷ [])
unfolding names_in lines_in certified_in reported_in clear_in
wrote_name IsRulingOf certified line which name ruling p q is printed more = record {
  ruled = record { name = name; ruling = ruling } ∷ [];
  rulings = ruled_one IsRulingOf name ruling is;
  printed = rw (append-nil (shown which (certified ruling) (line name ruling))) printed;
  certified = if_so (certified ruling) p.counts.certified q.counts.certified more.certified;
  reported = if_not (certified ruling) p.counts.reported q.counts.reported more.reported;
  clear = more.clear ∙ sym (add-zero p.counts.clear);
}

-- one whose line could not be printed
pub broke_name : {N R : Type 0} (IsRulingOf : N → R → Type 0) (certified : R → Bool) (line : N → R → List ℕ) (which : Which) (name : N) (ruling : R) (old : Option (List ℕ)) (waited : List ℕ) (new : Option (List ℕ)) → IsRulingOf name ruling → AppendsPart old new (waited ++ shown which (certified ruling) (line name ruling)) → Broke (single_plan IsRulingOf certified line which) old waited new (name ∷ [])
unfolding names_in lines_in
broke_name IsRulingOf certified line which name ruling old waited new is part = record {
  first = name ∷ [];
  rest = [];
  order = refl;
  ruled = record { name = name; ruling = ruling } ∷ [];
  rulings = ruled_one IsRulingOf name ruling is;
  part = rw (append-nil (shown which (certified ruling) (line name ruling))) part;
}

-- one that is ruled on can be counted
pub room_single : {N R : Type 0} (IsRulingOf : N → R → Type 0) (certified : R → Bool) (line : N → R → List ℕ) (which : Which) (name : N) (counts : Counts) → Room (single_plan IsRulingOf certified line which) counts (name ∷ []) → total counts + 1 < 2 ^ 64
unfolding names_in
room_single IsRulingOf certified line which name counts room = omega (arith, room.fits)
