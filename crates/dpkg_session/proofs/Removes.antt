-- What a removal or a purge carries over.
use Rattle.std.proofs.Common.{ℕ, Bool, List, [], ap, inl, refl}
use Rattle.std.specs.Prelude.{is_some}
use Rattle.host_core.specs.Host.{State, Since}
use Rattle.host_core.proofs.Moments.{since_start}
use Rattle.unit_reports.specs.Held.{Held}
use Rattle.unit_reports.specs.declared.report.Unit.{Unit as AUnit}
use Rattle.relation_index.specs.declared.package.Package.{Package}
use Rattle.unit_runs.specs.Turns.{TurnsTo}
use Rattle.removal_run.specs.Extents.{purges}
use Rattle.removal_run.specs.Run.{IsAmidRun, IsRemovalRun}
use Rattle.removal_run.specs.Turns.{RemovesTo}
use Rattle.removal_run.specs.Units.{IsRemoval}
use Rattle.removal_run.specs.declared.options.RemovalOptions.{RemovalOptions}
use Rattle.dpkg_session.proofs.Carries.{Carries, carries_here, carries_stages, carries_then}
use Rattle.dpkg_session.proofs.Staying.{stages_own}

removal_carries_one : (purge : Bool) (name : List ℕ) (before after : Held) (u : AUnit) (s t : State) → IsRemoval purge name before after u s t → Carries before after s t
removal_carries_one purge name before after u s t is =
    let whole = is.removed.removed in
    carries_stages name whole.stages is.failed before after s is.removed.m t [] u.calls.items (ap is_some whole.plan.found) (stages_own name whole.stages before.records.records before.lists whole.fit) whole.run is.removed.disk is.order is.ways

turns_carry : (options : RemovalOptions) (packages : List Package) (waiting : List (List ℕ)) (before : Held) (s : State) (us : List AUnit) (left : List (List ℕ)) (after : Held) (t : State) → RemovesTo options packages waiting before s us left after t → Carries before after s t
turns_carry options packages waiting before s us left after t TurnsTo.begun = carries_here before s
turns_carry options packages waiting before s us left after t (TurnsTo.turned done u mid_left later mid ends m end come turn) =
    carries_then before mid after s m t (turns_carry options packages waiting before s done mid_left mid m come) (removal_carries_one (purges options.extents mid.records.records turn.name) turn.name mid after u m t turn.is.is)

pub removal_carries : (names : List (List ℕ)) (options : RemovalOptions) (us : List AUnit) (before after : Held) (s t : State) → IsRemovalRun names options us before after s t → Carries before after s t
removal_carries names options us before after s t run = turns_carry options run.runs.packages _ before s run.runs.removed run.runs.waiting after t run.runs.turns

-- at the beginning, at which nothing is removed yet

pub since_none_removed : (names : List (List ℕ)) (options : RemovalOptions) (before : Held) (s : State) → Since (IsAmidRun names options before s) s s
since_none_removed names options before s = since_start (IsAmidRun names options before s) s (inl (record { same = refl; quiet = refl }))
