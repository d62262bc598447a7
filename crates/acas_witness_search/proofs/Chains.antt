-- From pass to pass.
use Rattle.std.proofs.Common.{◌≡◌, ℕ, ◌<◌, ap, sym, subst, ◌∙◌, Bool, true, true≢false, List, ◌∷◌, Some, None, lit<}
use Rattle.std.proofs.lemmas.Option.{same_Some}
use Rattle.acas_frac.specs.Fraction.{Fraction, Same}
use Rattle.acas_areas.specs.Value.{is_below}
use Rattle.acas_areas.proofs.Halvings.{is_below-Same}
use Rattle.acas_areas.specs.Flights.{value}
use Rattle.acas_areas.specs.Passes.{Pass, IsLast, here, later, below_at, IsGentle}
use Rattle.acas_areas.specs.Search.{Search, IsSearch, unit}
use Rattle.acas_pass_lemmas.proofs.Ends.{AllSome}
use Rattle.acas_pass_lemmas.proofs.Joins.{joined, own-end}
use Rattle.acas_pass_lemmas.proofs.Gentle.{each_gentle}
use Rattle.acas_pass_lemmas.proofs.Somes.{each_some}
use Rattle.acas_witness_search.specs.declared.quantity.Quantity.{Quantity}
use Rattle.acas_witness_search.specs.declared.quantity.Quantity.TheVariants.{Time, Altitude, Intruder, Aim, Pull, Hold, Own}
use Rattle.acas_witness_search.specs.declared.survey.Survey.{Survey}
use Rattle.acas_witness_plans.specs.declared.plan.Plan.{Plan}
use Rattle.acas_witness_search.specs.Surveys.{EndsNotBelow, StartsBelow, search_of, pass_of}
use Rattle.acas_witness_search.specs.Order.{next_of}
use Rattle.acas_witness_search.specs.Passes.{IsMissed, IsHit, IsEndOf, IsMissedIn, IsHitIn, IsEndIn, passes_from}

pub search_fine : (s : Survey) → IsSearch (search_of s)
search_fine s = record {
  demand = record { ordered = s.asked.ordered; some_pull = s.asked.some; pull_within = s.asked.pull };
  aims = record { least = s.asked.lo; greatest = s.asked.hi; ordered = s.asked.ordered };
  altitude = s.area.h.ordered;
  own = record { least = s.area.fits.own.least; greatest = s.area.fits.own.greatest; ordered = s.area.v0.ordered };
  intruder = record { least = s.area.fits.intruder.least; greatest = s.area.fits.intruder.greatest; ordered = s.area.v1.ordered };
  low = record { some = s.low_end.some; least = s.low_end.least; most = s.low_end.greatest };
  high = record { some = s.high_end.some; least = s.high_end.least; most = s.high_end.greatest };
}

pub gentle_of : (q : Quantity) (s : Search) → IsSearch s → IsGentle (value (unit s)) (pass_of q s)
gentle_of Time s is = (each_gentle s is).0
gentle_of Altitude s is = (each_gentle s is).1.0
gentle_of Intruder s is = (each_gentle s is).1.1.0
gentle_of Aim s is = (each_gentle s is).1.1.1.0
gentle_of Pull s is = (each_gentle s is).1.1.1.1.0
gentle_of Hold s is = (each_gentle s is).1.1.1.1.1.0
gentle_of Own s is = (each_gentle s is).1.1.1.1.1.1.0

pub all_some : (q : Quantity) (s : Search) → IsSearch s → AllSome (value (unit s)) (pass_of q s)
all_some Time s is = (each_some s is).0
all_some Altitude s is = (each_some s is).1.0
all_some Intruder s is = (each_some s is).1.1.0
all_some Aim s is = (each_some s is).1.1.1.0
all_some Pull s is = (each_some s is).1.1.1.1.0
all_some Hold s is = (each_some s is).1.1.1.1.1.0
all_some Own s is = (each_some s is).1.1.1.1.1.1.0

-- the test of a flight is that of its point
pub tested : (half : ℕ) (f g : Fraction) (b t : Bool) → 0 < f.den → 0 < g.den → Same f g → b ≡ is_below half f → b ≡ t → is_below half g ≡ t
tested half f g b t p q e h k = sym (is_below-Same half f g p q e) ∙ sym h ∙ k

-- ---- passes of any flights

pub first_below : {F : Type 0} (value : F → Fraction) (half : ℕ) (p p' : Pass F) → ((last : ℕ) → IsLast p last → p.point last ≡ p'.point 0) → IsMissed value half p → below_at value half p' 0 ≡ true
first_below value half p p' join m = ap (λ c. is_below half (value c)) (sym (join m.last m.is_last)) ∙ m.below

pub end_here : {F : Type 0} (value : F → Fraction) (half : ℕ) (p : Pass F) (rest : List (Pass F)) (Is : F → Type 0) → IsHit value half p Is → IsEndOf value half (p ∷ rest) Is
end_here value half p rest Is h = record { flight = p.point h.at_end; ends = here p rest h.last h.at_end h.is_last h.not_below h.halves; point = h.point }

pub end_later : {F : Type 0} (value : F → Fraction) (half : ℕ) (p : Pass F) (rest : List (Pass F)) (Is : F → Type 0) → IsMissed value half p → IsEndOf value half rest Is → IsEndOf value half (p ∷ rest) Is
end_later value half p rest Is m e = record { flight = e.flight; ends = later p rest m.last e.flight m.is_last m.below e.ends; point = e.point }

-- ---- the passes by the quantities that they move

-- how many passes come after one
abbrev pub passes_after : Quantity → ℕ
passes_after Time = 6
passes_after Altitude = 5
passes_after Intruder = 4
passes_after Aim = 3
passes_after Pull = 2
passes_after Hold = 1
passes_after Own = 0

pub fewer_after : (q next : Quantity) → next_of q ≡ Some next → passes_after next < passes_after q
fewer_after Time next e = subst (λ n. passes_after n < 6) (same_Some Altitude next e) (lit< tt)
fewer_after Altitude next e = subst (λ n. passes_after n < 5) (same_Some Intruder next e) (lit< tt)
fewer_after Intruder next e = subst (λ n. passes_after n < 4) (same_Some Aim next e) (lit< tt)
fewer_after Aim next e = subst (λ n. passes_after n < 3) (same_Some Pull next e) (lit< tt)
fewer_after Pull next e = subst (λ n. passes_after n < 2) (same_Some Hold next e) (lit< tt)
fewer_after Hold next e = subst (λ n. passes_after n < 1) (same_Some Own next e) (lit< tt)
fewer_after Own next e = absurd cc

-- after a pass that is missed the next one starts below
module _ (s : Survey) where
  starts : (q q' : Quantity) → ((last : ℕ) → IsLast (pass_of q (search_of s)) last → (pass_of q (search_of s)).point last ≡ (pass_of q' (search_of s)).point 0) → IsMissedIn s (pass_of q) → StartsBelow s (pass_of q')
  starts q q' join m = first_below (value (unit (search_of s))) s.half (pass_of q (search_of s)) (pass_of q' (search_of s)) join m

  pub missed_then : (q next : Quantity) → next_of q ≡ Some next → IsMissedIn s (pass_of q) → StartsBelow s (pass_of next)
  missed_then Time next e m = subst (λ n. StartsBelow s (pass_of n)) (same_Some Altitude next e) (starts Time Altitude (joined (search_of s) (search_fine s)).0 m)
  missed_then Altitude next e m = subst (λ n. StartsBelow s (pass_of n)) (same_Some Intruder next e) (starts Altitude Intruder (joined (search_of s) (search_fine s)).1.0 m)
  missed_then Intruder next e m = subst (λ n. StartsBelow s (pass_of n)) (same_Some Aim next e) (starts Intruder Aim (joined (search_of s) (search_fine s)).1.1.0 m)
  missed_then Aim next e m = subst (λ n. StartsBelow s (pass_of n)) (same_Some Pull next e) (starts Aim Pull (joined (search_of s) (search_fine s)).1.1.1.0 m)
  missed_then Pull next e m = subst (λ n. StartsBelow s (pass_of n)) (same_Some Hold next e) (starts Pull Hold (joined (search_of s) (search_fine s)).1.1.1.1.0 m)
  missed_then Hold next e m = subst (λ n. StartsBelow s (pass_of n)) (same_Some Own next e) (starts Hold Own (joined (search_of s) (search_fine s)).1.1.1.1.1.0 m)
  missed_then Own next e m = absurd cc

  -- the last pass is not missed
  pub never_missed_last : (q : Quantity) → next_of q ≡ None → EndsNotBelow s → IsMissedIn s (pass_of q) → ⊥
  never_missed_last Time e h m = cc
  never_missed_last Altitude e h m = cc
  never_missed_last Intruder e h m = cc
  never_missed_last Aim e h m = cc
  never_missed_last Pull e h m = cc
  never_missed_last Hold e h m = cc
  never_missed_last Own e h m = true≢false (sym m.below ∙ ap (λ x. is_below s.half (value (unit (search_of s)) x)) (own-end (search_of s) (search_fine s) m.last m.is_last) ∙ h)

  -- where a pass is hit the passes from it on end, and else where those after it do
  pub ends_here : (q : Quantity) (f : Plan) → IsHitIn s (pass_of q) f → IsEndIn s (passes_from q) f
  ends_here Time f h = end_here _ _ _ _ _ h
  ends_here Altitude f h = end_here _ _ _ _ _ h
  ends_here Intruder f h = end_here _ _ _ _ _ h
  ends_here Aim f h = end_here _ _ _ _ _ h
  ends_here Pull f h = end_here _ _ _ _ _ h
  ends_here Hold f h = end_here _ _ _ _ _ h
  ends_here Own f h = end_here _ _ _ _ _ h

  pub ends_later : (q next : Quantity) (f : Plan) → next_of q ≡ Some next → IsMissedIn s (pass_of q) → IsEndIn s (passes_from next) f → IsEndIn s (passes_from q) f
  ends_later Time next f e m h = end_later _ _ _ _ _ m (subst (λ n. IsEndIn s (passes_from n) f) (sym (same_Some Altitude next e)) h)
  ends_later Altitude next f e m h = end_later _ _ _ _ _ m (subst (λ n. IsEndIn s (passes_from n) f) (sym (same_Some Intruder next e)) h)
  ends_later Intruder next f e m h = end_later _ _ _ _ _ m (subst (λ n. IsEndIn s (passes_from n) f) (sym (same_Some Aim next e)) h)
  ends_later Aim next f e m h = end_later _ _ _ _ _ m (subst (λ n. IsEndIn s (passes_from n) f) (sym (same_Some Pull next e)) h)
  ends_later Pull next f e m h = end_later _ _ _ _ _ m (subst (λ n. IsEndIn s (passes_from n) f) (sym (same_Some Hold next e)) h)
  ends_later Hold next f e m h = end_later _ _ _ _ _ m (subst (λ n. IsEndIn s (passes_from n) f) (sym (same_Some Own next e)) h)
  ends_later Own next f e m h = absurd cc
