-- One item after another.
use Rattle.std.proofs.Common.{◌≡◌, ℕ, zero, suc, ◌+◌, ◌<◌, List, [], ◌++◌, length, Option, sym, ◌∙◌, ap, subst, append_assoc, add-one, arith, inl, inr, length-append}
use Rattle.std.proofs.lemmas.List.{append-nil}
use Rattle.std.proofs.lemmas.Grind.{flat_map-append}
use Rattle.std.proofs.lemmas.Bool.{cases_lt}
use Rattle.acas_outside.proofs.PrintedPieces.{prints_nothing, prints_both, part_of_next}
use Rattle.acas_cells.specs.Cells.{below}
use Rattle.acas_report_lines.specs.Report.{Ruled, shown}
use Rattle.acas_report_lines.specs.Plan.{Plan, Progress, Wrote, Broke, Room, names_in, lines_in, certified_in, reported_in, clear_in}
use Rattle.acas_report_lines.proofs.Counting.{count_by-append, certified-append, reported-append, kinds_all, ruled_append, ruled_none}

pub names-append : {N X R : Type 0} (plan : Plan N X R) (xs ys : List X) → names_in plan (xs ++ ys) ≡ names_in plan xs ++ names_in plan ys
unfolding names_in
names-append plan xs ys = flat_map-append plan.names xs ys

pub lines-append : {N X R : Type 0} (plan : Plan N X R) (rs ss : List (Ruled N R)) → lines_in plan (rs ++ ss) ≡ lines_in plan rs ++ lines_in plan ss
unfolding lines_in
lines-append plan rs ss = flat_map-append (λ r. shown plan.which (plan.certified r.ruling) (plan.line r.name r.ruling)) rs ss

pub clear-append : {N X R : Type 0} (plan : Plan N X R) (xs ys : List X) → clear_in plan (xs ++ ys) ≡ clear_in plan xs + clear_in plan ys
unfolding clear_in
clear-append plan xs ys = count_by-append plan.is_clear xs ys

-- nothing is written for no item
pub wrote_none : {N X R : Type 0} (plan : Plan N X R) (at : Progress) → Wrote plan at at []
unfolding names_in lines_in certified_in reported_in clear_in
wrote_none plan at = record {
  ruled = [];
  rulings = ruled_none plan.IsRulingOf;
  printed = prints_nothing at.written at.waits;
  certified = omega arith;
  reported = omega arith;
  clear = omega arith;
}

-- some items, and then others
wrote_both : {N X R : Type 0} (plan : Plan N X R) (p q r : Progress) (xs ys : List X) → Wrote plan p q xs → Wrote plan q r ys → Wrote plan p r (xs ++ ys)
wrote_both plan p q r xs ys first then = record {
  ruled = first.ruled ++ then.ruled;
  rulings = rw (names-append plan xs ys) (ruled_append plan.IsRulingOf _ _ first.ruled then.ruled first.rulings then.rulings);
  printed = rw (lines-append plan first.ruled then.ruled) (prints_both _ _ _ _ _ _ _ _ first.printed then.printed);
  certified = omega (arith, first.certified, then.certified, certified-append plan.certified first.ruled then.ruled);
  reported = omega (arith, first.reported, then.reported, reported-append plan.certified first.ruled then.ruled);
  clear = omega (arith, first.clear, then.clear, clear-append plan xs ys);
}

-- some items, and then a failure at others
broke_both : {N X R : Type 0} (plan : Plan N X R) (p q : Progress) (new : Option (List ℕ)) (xs ys : List X) → Wrote plan p q xs → Broke plan q.written q.waits new ys → Broke plan p.written p.waits new (xs ++ ys)
broke_both plan p q new xs ys first then = record {
  first = names_in plan xs ++ then.first;
  rest = then.rest;
  order =
      append_assoc (names_in plan xs) then.first then.rest
      ∙ ap (λ l. names_in plan xs ++ l) then.order
      ∙ sym (names-append plan xs ys);
  ruled = first.ruled ++ then.ruled;
  rulings = ruled_append plan.IsRulingOf _ _ first.ruled then.ruled first.rulings then.rulings;
  part = rw (lines-append plan first.ruled then.ruled) (part_of_next _ _ _ _ _ _ _ first.printed then.part);
}

-- a failure at some items is one at more
broke_longer : {N X R : Type 0} (plan : Plan N X R) (old : Option (List ℕ)) (waited : List ℕ) (new : Option (List ℕ)) (xs ys : List X) → Broke plan old waited new xs → Broke plan old waited new (xs ++ ys)
broke_longer plan old waited new xs ys broke = record {
  first = broke.first;
  rest = broke.rest ++ names_in plan ys;
  order =
      sym (append_assoc broke.first broke.rest (names_in plan ys))
      ∙ ap (λ l. l ++ names_in plan ys) broke.order
      ∙ sym (names-append plan xs ys);
  ruled = broke.ruled;
  rulings = broke.rulings;
  part = broke.part;
}

-- the items before a turn, its own, and those after it
pub record Split {X : Type 0} (f : ℕ → List X) (n i : ℕ) : Type 0 where
  pub rest : List X
  pub whole : below n f ≡ below i f ++ f i ++ rest

split_more : {X : Type 0} (f : ℕ → List X) (m i : ℕ) → Split f m i → Split f (suc m) i
split_more f m i s = record {
  rest = s.rest ++ f m;
  whole = ap (λ l. l ++ f m) s.whole ∙ append_assoc (below i f ++ f i) s.rest (f m);
}

split_last : {X : Type 0} (f : ℕ → List X) (m i : ℕ) → i ≡ m → Split f (suc m) i
split_last f m i same = record {
  rest = [];
  whole = subst (λ k. below m f ++ f m ≡ below k f ++ f k ++ []) (sym same) (sym (append-nil (below m f ++ f m)));
}

split_at : {X : Type 0} (f : ℕ → List X) (n i : ℕ) → i < n → Split f n i
split_at f zero i here = absurd (omega arith)
split_at f (suc m) i here =
    elim (cases_lt i m) [ inl before ↦ split_more f m i (split_at f m i before) | inr past ↦ split_last f m i (omega arith) ]

-- a turn of a loop
pub wrote_more : {N X R : Type 0} (plan : Plan N X R) (f : ℕ → List X) (i : ℕ) (p q r : Progress) → Wrote plan p q (below i f) → Wrote plan q r (f i) → Wrote plan p r (below (i + 1) f)
wrote_more plan f i p q r first then = rw (add-one i) (wrote_both plan p q r (below i f) (f i) first then)

-- all turns of a loop, once it is at its end
pub wrote_all : {N X R : Type 0} (plan : Plan N X R) (f : ℕ → List X) (n i : ℕ) (p q : Progress) → i ≡ n → Wrote plan p q (below i f) → Wrote plan p q (below n f)
wrote_all plan f n i p q ends wrote = subst (λ (x : ℕ). Wrote plan p q (below x f)) ends wrote

-- a turn of a loop in which printing failed
pub broke_more : {N X R : Type 0} (plan : Plan N X R) (f : ℕ → List X) (n i : ℕ) (p q : Progress) (new : Option (List ℕ)) → i < n → Wrote plan p q (below i f) → Broke plan q.written q.waits new (f i) → Broke plan p.written p.waits new (below n f)
broke_more plan f n i p q new here first then =
    let s = split_at f n i here in
    subst (Broke plan p.written p.waits new) (sym s.whole) (broke_longer plan p.written p.waits new (below i f ++ f i) s.rest (broke_both plan p q new (below i f) (f i) first then))

-- a turn's items can be counted where all can
pub room_left : {N X R : Type 0} (plan : Plan N X R) (f : ℕ → List X) (n i : ℕ) (p q : Progress) → i < n → Room plan p.counts (below n f) → Wrote plan p q (below i f) → Room plan q.counts (f i)
room_left plan f n i p q here room first =
    let s = split_at f n i here in
    record {
      fits = omega (
        arith,
        room.fits,
        ap (λ l. length (names_in plan l)) s.whole,
        ap length (names-append plan (below i f ++ f i) s.rest),
        ap length (names-append plan (below i f) (f i)),
        length-append (names_in plan (below i f ++ f i)) (names_in plan s.rest),
        length-append (names_in plan (below i f)) (names_in plan (f i)),
        ap (clear_in plan) s.whole,
        clear-append plan (below i f ++ f i) s.rest,
        clear-append plan (below i f) (f i),
        kinds_all plan.IsRulingOf plan.certified (names_in plan (below i f)) first.ruled first.rulings,
        first.certified,
        first.reported,
        first.clear,
      );
    }
