-- What holds at each stop of parts one after another.
use Rattle.std.proofs.Common.{◌≡◌, Bool, IsTrue, Result, Ok, Err, OnOk, List, ◌++◌, subst}
use Rattle.host_core.specs.Paths.{Path}
use Rattle.host_core.specs.World.{World}
use Rattle.host_core.specs.Events.{Event}
use Rattle.host_core.specs.Host.{State, Silent, Since, OnlyScripts}
use Rattle.undo_rows.specs.Stops.{AtEachStop}
use Rattle.undo_rows.proofs.Stops.{stops_scripts, stops_then}

pub nothing_done : (a : State) → Silent a a
nothing_done a = record { honest = λ h. h; scripts = λ i. Rattle.host_core.specs.Events.scripts_of a.events }

module _ (Task : Type 0) (stops : Task → List Event → World → Type 0) (t u : Task) (same : u ≡ t) where
  -- a part that has the same task
  pub next_part : (a b c : State) → AtEachStop (stops t) a b → AtEachStop (stops u) b c → AtEachStop (stops t) a c
  next_part a b c first second = stops_then (stops t) a b c first (subst (λ x. AtEachStop (stops x) b c) same second)

  -- script calls
  pub next_script : (kept : Path → Bool) (a b c : State) → (IsTrue b.honest → (more : List Event) (v : World) → OnlyScripts kept b.world more v → stops u (b.events ++ more) v) → AtEachStop (stops t) a b → Since (OnlyScripts kept b.world) b c → AtEachStop (stops t) a c
  next_script kept a b c law first second = next_part a b c first (stops_scripts (stops u) kept b c law second)

pub on_ok : {T E : Type 0} (P : Type 0) (result : Result T E) → P → OnOk result P
on_ok P (Ok x) is = is
on_ok P (Err e) is = tt
