-- How what holds at each stop goes on from part to part.
use Rattle.std.specs.Prelude.{◌≡◌, Bool, List, [], ◌++◌}
use Rattle.std.proofs.Common.{IsTrue, sym, ◌∙◌, ap, subst, append_assoc}
use Rattle.std.proofs.lemmas.List.{append-nil}
use Rattle.host_core.specs.Paths.{Path}
use Rattle.host_core.specs.World.{World}
use Rattle.host_core.specs.Events.{Event, scripts_of}
use Rattle.host_core.specs.Host.{State, Silent, Reads, AllFailed, Since, OnlyScripts}
use Rattle.host_core.proofs.Moments.{since_start, since_reads, since_then, since_weaker, since_weaker_if, since_now}
use Rattle.host_core.proofs.Scripts.{since_silent}
use Rattle.undo_rows.specs.Stops.{AtEachStop}

module _ (Q : List Event → World → Type 0) where
  pub stops_start : (a : State) → Q a.events a.world → AtEachStop Q a a
  stops_start a here = since_start (λ so_far. Q (a.events ++ so_far)) a (subst (λ es. Q es a.world) (sym (append-nil a.events)) here)

  -- it holds in the end
  pub stops_now : (a b : State) → AtEachStop Q a b → IsTrue b.honest → Q b.events b.world
  stops_now a b since h = subst (λ es. Q es b.world) (sym since.events) (since_now (λ so_far. Q (a.events ++ so_far)) a b since h)

  -- of two parts, one after the other
  pub stops_then : (a b c : State) → AtEachStop Q a b → AtEachStop Q b c → AtEachStop Q a c
  stops_then a b c first second = since_then (λ so_far. Q (a.events ++ so_far)) a b c first
      (since_weaker (λ so_far. Q (b.events ++ so_far)) (λ so_far. Q (a.events ++ (first.added ++ so_far))) b c
      (λ so_far w is. subst (λ es. Q es w) (ap (λ (l : List Event). l ++ so_far) first.events ∙ append_assoc a.events first.added so_far) is) second)

  pub stops_weaker_if : (R : List Event → World → Type 0) (a b : State) → (IsTrue b.honest → (es : List Event) (w : World) → Q es w → R es w) → AtEachStop Q a b → AtEachStop R a b
  stops_weaker_if R a b so since = since_weaker_if (λ so_far. Q (a.events ++ so_far)) (λ so_far. R (a.events ++ so_far)) a b (λ h so_far w is. so h (a.events ++ so_far) w is) since

  -- looking at it
  pub stops_reads : (a b : State) → Reads a b → ((fs : List Event) → AllFailed fs → Q (a.events ++ fs) a.world) → AtEachStop Q a b
  stops_reads a b reads here = since_reads (λ so_far. Q (a.events ++ so_far)) a b reads here

  -- a part without a script call
  pub stops_quiet : (P : List Event → World → Type 0) (a b : State) → Silent a b → Since P a b → (IsTrue b.honest → (so_far : List Event) (w : World) → scripts_of so_far ≡ [] → P so_far w → Q (a.events ++ so_far) w) → AtEachStop Q a b
  stops_quiet P a b silent since so = since_weaker_if (λ so_far w. P so_far w × (scripts_of so_far ≡ [])) (λ so_far. Q (a.events ++ so_far)) a b (λ h so_far w is. so h so_far w is.1 is.0) (since_silent P a b silent since)

  -- script calls alone, where Q holds while they run
  pub stops_scripts : (kept : Path → Bool) (a b : State) → (IsTrue a.honest → (more : List Event) (v : World) → OnlyScripts kept a.world more v → Q (a.events ++ more) v) → Since (OnlyScripts kept a.world) a b → AtEachStop Q a b
  stops_scripts kept a b law since = since_weaker_if (OnlyScripts kept a.world) (λ so_far. Q (a.events ++ so_far)) a b (λ h so_far w is. law (since.honest h) so_far w is) since
