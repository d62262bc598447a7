-- From pass to pass.
use Rattle.std.proofs.Common.{◌≡◌, ℕ, ◌<◌, ap, sym, subst, ◌∙◌, false, true≢false, Some, None, lit<}
use Rattle.std.proofs.lemmas.Option.{same_Some}
use Rattle.acas_areas.specs.Value.{is_below}
use Rattle.acas_areas.specs.Passes.{IsGentle, IsLast}
use Rattle.acas_pass_lemmas.proofs.Ends.{AllSome}
use Rattle.acas_rulings.specs.Hunt.{high_course}
use Rattle.acas_hunt_lemmas.proofs.Gentle.{each_gentle}
use Rattle.acas_hunt_lemmas.proofs.Joins.{joined, own-end}
use Rattle.acas_hunt_lemmas.proofs.Somes.{each_some}
use Rattle.acas_witness_search.proofs.Chains.{end_here, end_later, first_below}
use Rattle.acas_witness_search.specs.declared.quantity.Quantity.TheVariants.{Time, Altitude, Intruder, Aim, Pull, Hold, Own}
use Rattle.acas_meeting_search.specs.declared.parts.Flown.{Flown}
use Rattle.acas_meeting_search.specs.declared.pursuit.Pursuit.{Pursuit}
use Rattle.acas_meeting_search.specs.declared.stage.Stage.{Stage}
use Rattle.acas_meeting_search.specs.declared.stage.Stage.TheVariants.{Of, Goal}
use Rattle.acas_meeting_search.specs.Courses.{IsEndFrom, IsHitIn, IsMissedIn, StartsBelow, value_at}
use Rattle.acas_meeting_search.specs.Stages.{next_of, pass_in}
use Rattle.acas_meeting_search.specs.View.{hunt_of}
use Rattle.acas_meeting_search.proofs.Pursuits.{hunt_fine}

-- how many passes come after one
abbrev pub passes_after : Stage → ℕ
passes_after (Of Time) = 7
passes_after (Of Altitude) = 6
passes_after Goal = 5
passes_after (Of Intruder) = 4
passes_after (Of Aim) = 3
passes_after (Of Pull) = 2
passes_after (Of Hold) = 1
passes_after (Of Own) = 0

pub fewer_after : (stage next : Stage) → next_of stage ≡ Some next → passes_after next < passes_after stage
fewer_after (Of Time) next e = subst (λ n. passes_after n < 7) (same_Some (Of Altitude) next e) (lit< tt)
fewer_after (Of Altitude) next e = subst (λ n. passes_after n < 6) (same_Some Goal next e) (lit< tt)
fewer_after Goal next e = subst (λ n. passes_after n < 5) (same_Some (Of Intruder) next e) (lit< tt)
fewer_after (Of Intruder) next e = subst (λ n. passes_after n < 4) (same_Some (Of Aim) next e) (lit< tt)
fewer_after (Of Aim) next e = subst (λ n. passes_after n < 3) (same_Some (Of Pull) next e) (lit< tt)
fewer_after (Of Pull) next e = subst (λ n. passes_after n < 2) (same_Some (Of Hold) next e) (lit< tt)
fewer_after (Of Hold) next e = subst (λ n. passes_after n < 1) (same_Some (Of Own) next e) (lit< tt)
fewer_after (Of Own) next e = absurd cc

module _ (p : Pursuit) where
  -- each pass is gentle, and the values of its courses are fractions
  pub gentle_of : (stage : Stage) → IsGentle (value_at p) (pass_in stage (hunt_of p))
  gentle_of (Of Time) = (each_gentle (hunt_of p) (hunt_fine p)).0
  gentle_of (Of Altitude) = (each_gentle (hunt_of p) (hunt_fine p)).1.0
  gentle_of Goal = (each_gentle (hunt_of p) (hunt_fine p)).1.1.0
  gentle_of (Of Intruder) = (each_gentle (hunt_of p) (hunt_fine p)).1.1.1.0
  gentle_of (Of Aim) = (each_gentle (hunt_of p) (hunt_fine p)).1.1.1.1.0
  gentle_of (Of Pull) = (each_gentle (hunt_of p) (hunt_fine p)).1.1.1.1.1.0
  gentle_of (Of Hold) = (each_gentle (hunt_of p) (hunt_fine p)).1.1.1.1.1.1.0
  gentle_of (Of Own) = (each_gentle (hunt_of p) (hunt_fine p)).1.1.1.1.1.1.1.0

  pub all_some : (stage : Stage) → AllSome (value_at p) (pass_in stage (hunt_of p))
  all_some (Of Time) = (each_some (hunt_of p) (hunt_fine p)).0
  all_some (Of Altitude) = (each_some (hunt_of p) (hunt_fine p)).1.0
  all_some Goal = (each_some (hunt_of p) (hunt_fine p)).1.1.0
  all_some (Of Intruder) = (each_some (hunt_of p) (hunt_fine p)).1.1.1.0
  all_some (Of Aim) = (each_some (hunt_of p) (hunt_fine p)).1.1.1.1.0
  all_some (Of Pull) = (each_some (hunt_of p) (hunt_fine p)).1.1.1.1.1.0
  all_some (Of Hold) = (each_some (hunt_of p) (hunt_fine p)).1.1.1.1.1.1.0
  all_some (Of Own) = (each_some (hunt_of p) (hunt_fine p)).1.1.1.1.1.1.1.0

  -- after a pass that is missed the next one starts below
  starts : (stage next : Stage) → ((last : ℕ) → IsLast (pass_in stage (hunt_of p)) last → (pass_in stage (hunt_of p)).point last ≡ (pass_in next (hunt_of p)).point 0) → IsMissedIn p stage → StartsBelow p next
  starts stage next join m = first_below (value_at p) p.survey.half (pass_in stage (hunt_of p)) (pass_in next (hunt_of p)) join m

  pub missed_then : (stage next : Stage) → next_of stage ≡ Some next → IsMissedIn p stage → StartsBelow p next
  missed_then (Of Time) next e m = subst (λ n. StartsBelow p n) (same_Some (Of Altitude) next e) (starts (Of Time) (Of Altitude) (joined (hunt_of p) (hunt_fine p)).0 m)
  missed_then (Of Altitude) next e m = subst (λ n. StartsBelow p n) (same_Some Goal next e) (starts (Of Altitude) Goal (joined (hunt_of p) (hunt_fine p)).1.0 m)
  missed_then Goal next e m = subst (λ n. StartsBelow p n) (same_Some (Of Intruder) next e) (starts Goal (Of Intruder) (joined (hunt_of p) (hunt_fine p)).1.1.0 m)
  missed_then (Of Intruder) next e m = subst (λ n. StartsBelow p n) (same_Some (Of Aim) next e) (starts (Of Intruder) (Of Aim) (joined (hunt_of p) (hunt_fine p)).1.1.1.0 m)
  missed_then (Of Aim) next e m = subst (λ n. StartsBelow p n) (same_Some (Of Pull) next e) (starts (Of Aim) (Of Pull) (joined (hunt_of p) (hunt_fine p)).1.1.1.1.0 m)
  missed_then (Of Pull) next e m = subst (λ n. StartsBelow p n) (same_Some (Of Hold) next e) (starts (Of Pull) (Of Hold) (joined (hunt_of p) (hunt_fine p)).1.1.1.1.1.0 m)
  missed_then (Of Hold) next e m = subst (λ n. StartsBelow p n) (same_Some (Of Own) next e) (starts (Of Hold) (Of Own) (joined (hunt_of p) (hunt_fine p)).1.1.1.1.1.1.0 m)
  missed_then (Of Own) next e m = absurd cc

  -- the last pass is not missed
  pub never_missed_last : (stage : Stage) → next_of stage ≡ None → is_below p.survey.half (value_at p (high_course (hunt_of p))) ≡ false → IsMissedIn p stage → ⊥
  never_missed_last (Of Time) e h m = cc
  never_missed_last (Of Altitude) e h m = cc
  never_missed_last Goal e h m = cc
  never_missed_last (Of Intruder) e h m = cc
  never_missed_last (Of Aim) e h m = cc
  never_missed_last (Of Pull) e h m = cc
  never_missed_last (Of Hold) e h m = cc
  never_missed_last (Of Own) e h m = true≢false (sym m.below ∙ ap (λ c. is_below p.survey.half (value_at p c)) (own-end (hunt_of p) (hunt_fine p) m.last m.is_last) ∙ h)

  -- where a pass is hit the passes from it on end, and else where those after it do
  pub ends_here : (stage : Stage) (f : Flown) → IsHitIn p stage f → IsEndFrom p stage f
  ends_here (Of Time) f h = end_here _ _ _ _ _ h
  ends_here (Of Altitude) f h = end_here _ _ _ _ _ h
  ends_here Goal f h = end_here _ _ _ _ _ h
  ends_here (Of Intruder) f h = end_here _ _ _ _ _ h
  ends_here (Of Aim) f h = end_here _ _ _ _ _ h
  ends_here (Of Pull) f h = end_here _ _ _ _ _ h
  ends_here (Of Hold) f h = end_here _ _ _ _ _ h
  ends_here (Of Own) f h = end_here _ _ _ _ _ h

  pub ends_later : (stage next : Stage) (f : Flown) → next_of stage ≡ Some next → IsMissedIn p stage → IsEndFrom p next f → IsEndFrom p stage f
  ends_later (Of Time) next f e m h = end_later _ _ _ _ _ m (subst (λ n. IsEndFrom p n f) (sym (same_Some (Of Altitude) next e)) h)
  ends_later (Of Altitude) next f e m h = end_later _ _ _ _ _ m (subst (λ n. IsEndFrom p n f) (sym (same_Some Goal next e)) h)
  ends_later Goal next f e m h = end_later _ _ _ _ _ m (subst (λ n. IsEndFrom p n f) (sym (same_Some (Of Intruder) next e)) h)
  ends_later (Of Intruder) next f e m h = end_later _ _ _ _ _ m (subst (λ n. IsEndFrom p n f) (sym (same_Some (Of Aim) next e)) h)
  ends_later (Of Aim) next f e m h = end_later _ _ _ _ _ m (subst (λ n. IsEndFrom p n f) (sym (same_Some (Of Pull) next e)) h)
  ends_later (Of Pull) next f e m h = end_later _ _ _ _ _ m (subst (λ n. IsEndFrom p n f) (sym (same_Some (Of Hold) next e)) h)
  ends_later (Of Hold) next f e m h = end_later _ _ _ _ _ m (subst (λ n. IsEndFrom p n f) (sym (same_Some (Of Own) next e)) h)
  ends_later (Of Own) next f e m h = absurd cc
