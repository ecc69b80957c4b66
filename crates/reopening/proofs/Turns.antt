-- Units one after another, of packages that are configured, removed or purged: the next opening can read all at each moment.
use Rattle.std.proofs.Common.{◌≡◌, inl, inr, ℕ, IsTrue, Bool, List, [], Option, refl, sym, subst}
use Rattle.configure_run.specs.Run.{HasRun as HasConfigureRun}
use Rattle.configure_run.specs.Turns.{IsAmidTurn as IsAmidConfigureTurn, IsAmidUnit as IsAmidConfigure, IsConfigured, IsTurn as IsConfigureTurn, IsUnit, IsUnitFor, StopTurns, given_by as configure_given}
use Rattle.configure_run.specs.declared.options.ConfigureOptions.{ConfigureOptions}
use Rattle.dependency_check.specs.Waiting.{Waiting}
use Rattle.file_lists.specs.Owners.{paths_of}
use Rattle.host_core.specs.Events.{Event}
use Rattle.host_core.specs.Host.{AtEachMomentOf, State}
use Rattle.host_core.proofs.Moments.{since_weaker_if}
use Rattle.host_core.specs.World.{World}
use Rattle.relation_index.specs.declared.package.Package.{Package}
use Rattle.removal_engine.proofs.Tables.{is_named}
use Rattle.removal_run.specs.Extents.{purges}
use Rattle.removal_run.specs.Run.{HasRun as HasRemovalRun}
use Rattle.removal_run.specs.Turns.{IsAmidTurn as IsAmidRemovalTurn, IsTurn as IsRemovalTurn}
use Rattle.removal_run.specs.Units.{IsAmidRemoval, IsRemoval, extent_of, given_by as removal_given}
use Rattle.removal_run.specs.declared.options.RemovalOptions.{RemovalOptions}
use Rattle.unit_reports.specs.Held.{Held}
use Rattle.unit_reports.specs.declared.report.Unit.{Unit as AUnit}
use Rattle.unit_runs.specs.Turns.{IsAmidNext, TurnsTo}
use Rattle.held_administration.specs.Order.{record_names}
use Rattle.reopening.proofs.Removals.{configure_plan_safe, removal_plan_safe}
use Rattle.reopening.proofs.Sounds.{Goes, IsSound, Opened, goes_here, goes_reads, goes_refused, goes_stages, goes_then, opened_here, opened_reads, opened_then, sound_held, sound_lists, sound_opens, still_opens}
use Rattle.reopening.proofs.Units.{configuring_opens, removing_opens}
use Rattle.reopening.specs.Opens.{CanBeOpened}

-- what is known of a run of units: how it goes on, and its moments
pub record Runs (before after : Held) (s t : State) : Type 0 where
  pub goes : Goes before after s t
  pub opened : (IsTrue s.honest → IsSound before s.world) → Opened s t

pub runs_then : (before mid after : Held) (s m t : State) → Runs before mid s m → Runs mid after m t → Runs before after s t
runs_then before mid after s m t first second = record {
  goes = goes_then before mid after s m t first.goes second.goes;
  opened = λ sound. opened_then s m t (first.opened sound) (second.opened (λ h. first.goes.sound h (sound (first.goes.falls h))));
}

pub runs_same : (before after : Held) (s t : State) → after ≡ before → t ≡ s → Runs before after s t
runs_same before after s t held same = subst (λ (h : Held). Runs before h s t) (sym held)
    (subst (Runs before before s) (sym same) (record { goes = goes_here before s; opened = λ sound. opened_here before s sound }))

-- and of one that may have been broken off
abbrev pub Ends : Held → State → State → Type 0
Ends before s t = (IsTrue s.honest → IsSound before s.world) → Opened s t

pub ends_then : (before mid : Held) (s m t : State) → Runs before mid s m → Ends mid m t → Ends before s t
ends_then before mid s m t first second sound = opened_then s m t (first.opened sound) (second (λ h. first.goes.sound h (sound (first.goes.falls h))))

-- one unit after another, where what is known of each turn is this

module _ {L : Type 0} (turn : L → Held → AUnit → L → Held → State → State → Type 0)
    (one : (q : L) (before : Held) (u : AUnit) (later : L) (after : Held) (s t : State) → turn q before u later after s t → Runs before after s t) where
  pub turns_run : (start : L) (before : Held) (s : State) (us : List AUnit) (q : L) (after : Held) (t : State) → TurnsTo turn start before s us q after t → Runs before after s t
  turns_run start before s us q after t TurnsTo.begun = runs_same before before s s refl refl
  turns_run start before s us q after t (TurnsTo.turned done u mid_q later mid ends m end come turned) =
      runs_then before mid after s m t (turns_run start before s done mid_q mid m come) (one mid_q mid u later after m t turned)

  -- and since then nothing was done, or the next unit was under way
  module _ (amid : L → L → Held → World → List Event → World → Type 0)
      (opens : (q later : L) (before : Held) (old : World) (so_far : List Event) (now : World) → IsSound before old → amid q later before old so_far now → CanBeOpened now) where
    next_opens : (q later : L) (before : Held) (old : World) (so_far : List Event) (now : World) → IsSound before old → IsAmidNext amid q later before old so_far now → CanBeOpened now
    next_opens q later before old so_far now sound (inl still) = still_opens before old now sound still.same
    next_opens q later before old so_far now sound (inr next) = opens q later before old so_far now sound next

    pub turns_end : (start q later : L) (before after : Held) (s m t : State) (us : List AUnit) → TurnsTo turn start before s us q after m → AtEachMomentOf (IsAmidNext amid q later after) m t → Ends before s t
    turns_end start q later before after s m t us come since =
        ends_then before after s m t (turns_run start before s us q after m come)
        (λ sound. since_weaker_if _ _ m t (λ h so_far w next. next_opens q later after m.world so_far w (sound (since.honest h)) next) since)

-- a configure

module _ (options : ConfigureOptions) where
  configured_goes : (name : List ℕ) (before after : Held) (u : AUnit) (s t : State) → IsSound before s.world → IsConfigured options.policy name before after u s t → Goes before after s t
  configured_goes name before after u s t sound is =
      let whole = is.configured.unit in
      let plan = whole.plan in
      goes_stages name whole.stages is.failed before after s is.configured.left t [] u.calls.items
      (λ r found. configure_plan_safe plan.entry options.policy (paths_of before.lists name) s.world is.configured.left.honest whole.stages name (is_named before.records.records name plan.entry plan.found) (sound_lists before s.world sound name) plan.plan)
      plan.entry plan.found whole.run is.configured.flushed is.order is.ways

  -- where what it begins with is sound
  sound_goes : (before after : Held) (s t : State) → (IsTrue t.honest → IsTrue s.honest) → (IsSound before s.world → Goes before after s t) → Goes before after s t
  sound_goes before after s t falls goes = record { falls = falls; sound = λ h sound. (goes sound).sound h sound }

  for_goes : (name : List ℕ) (before after : Held) (u : AUnit) (s t : State) → (IsTrue t.honest → IsTrue s.honest) → IsUnitFor options.policy name before after u s t → Goes before after s t
  for_goes name before after u s t falls (IsUnitFor.obstructed path there refused) = goes_refused _ name before after u s t refused
  for_goes name before after u s t falls (IsUnitFor.configured looked looks quiet none is) =
      sound_goes before after s t falls (λ sound. goes_then before before after s looked t (goes_reads before s looked looks) (configured_goes name before after u looked t (subst (IsSound before) (sym looks.world) sound) is))

  unit_goes : (packages : List Package) (p : Package) (before after : Held) (u : AUnit) (s t : State) → (IsTrue t.honest → IsTrue s.honest) → IsUnit options.policy packages p before after u s t → Goes before after s t
  unit_goes packages p before after u s t falls (IsUnit.broken y first refused) = goes_refused _ p.name before after u s t refused
  unit_goes packages p before after u s t falls (IsUnit.unbroken none is) = for_goes p.name before after u s t falls is

  configure_opens : (name : List ℕ) (before : Held) (old : World) (so_far : List Event) (now : World) → IsSound before old → IsAmidConfigure options.policy name before old so_far now → CanBeOpened now
  configure_opens name before old so_far now sound (inl still) = still_opens before old now sound still.same
  configure_opens name before old so_far now sound (inr amid) =
      configuring_opens (record_names before.records.records) before.ways (configure_given options.policy name before) old amid.during now (sound_held before old sound) (sound_opens before old sound) (sound_lists before old sound name) amid.holds

  module _ (silent : ℕ → Bool) where
    turn_runs : (q : Waiting) (before : Held) (u : AUnit) (later : Waiting) (after : Held) (s t : State) → IsConfigureTurn options silent q before u later after s t → Runs before after s t
    turn_runs q before u later after s t turn = record {
      goes = unit_goes q.packages turn.p before after u s t turn.moments.honest turn.is;
      opened = λ sound. since_weaker_if _ _ s t (λ h so_far now amid. configure_opens turn.p.name before s.world so_far now (sound (turn.moments.honest h)) amid) turn.moments;
    }

    turn_opens : (q later : Waiting) (before : Held) (old : World) (so_far : List Event) (now : World) → IsSound before old → IsAmidConfigureTurn options silent q before old so_far now → CanBeOpened now
    turn_opens q later before old so_far now sound next = configure_opens next.1.name before old so_far now sound next.3

    stop_ends : (start : Waiting) (before : Held) (s : State) (first now : List AUnit) (last : Option AUnit) (t : State) → StopTurns options silent start before s first now last t → Ends before s t
    stop_ends start before s first now last t (StopTurns.turning q after m turned since broken) =
        turns_end (IsConfigureTurn options silent) turn_runs (λ left later. IsAmidConfigureTurn options silent left) turn_opens start q q before after s m t turned.turned turned.come since
    stop_ends start before s first now last t (StopTurns.leaving q after front turned none refused broken) =
        (turns_run (IsConfigureTurn options silent) turn_runs start before s turned.turned q after t turned.come).opened

  pub configure_ends : (names : List (List ℕ)) (us : List AUnit) (last : Option AUnit) (before : Held) (s t : State) → HasConfigureRun names options us last before s t → Ends before s t
  configure_ends names us last before s t (HasConfigureRun.refusing refused reads broken) sound = opened_reads before s t sound reads
  configure_ends names us last before s t (HasConfigureRun.turning first refused silent start looked begins stop) sound =
      opened_then s looked t (opened_reads before s looked sound begins.looks)
      (stop_ends silent start before looked first us last t stop (λ h. subst (IsSound before) (sym begins.looks.world) (sound (begins.looks.honest h))))

-- a removal or a purge

module _ (purge : Bool) where
  removal_goes : (name : List ℕ) (before after : Held) (u : AUnit) (s t : State) → IsRemoval purge name before after u s t → Goes before after s t
  removal_goes name before after u s t is =
      let whole = is.removed.removed in
      let plan = whole.plan in
      goes_stages name whole.stages is.failed before after s is.removed.m t [] u.calls.items
      (λ r found. removal_plan_safe before.ways before.lists plan.entry (extent_of purge) s.world is.removed.m.honest whole.stages name (is_named before.records.records name plan.entry plan.found) plan.plan)
      plan.entry plan.found whole.run is.removed.disk is.order is.ways

  removal_opens : (name : List ℕ) (before : Held) (old : World) (so_far : List Event) (now : World) → IsSound before old → IsAmidRemoval purge name before old so_far now → CanBeOpened now
  removal_opens name before old so_far now sound amid =
      removing_opens (record_names before.records.records) before.ways (removal_given purge name before) old amid.front now (sound_held before old sound) (still_opens before old now sound) amid.amid

module _ (options : RemovalOptions) where
  module _ (packages : List Package) where
    removal_runs : (q : List (List ℕ)) (before : Held) (u : AUnit) (left : List (List ℕ)) (after : Held) (s t : State) → IsRemovalTurn options packages q before u left after s t → Runs before after s t
    removal_runs q before u left after s t turn = record {
      goes = removal_goes (purges options.extents before.records.records turn.name) turn.name before after u s t turn.is.is;
      opened = λ sound. since_weaker_if _ _ s t (λ h so_far now amid. removal_opens (purges options.extents before.records.records turn.name) turn.name before s.world so_far now (sound (turn.is.moments.honest h)) amid) turn.is.moments;
    }

    next_removal_opens : (q left : List (List ℕ)) (before : Held) (old : World) (so_far : List Event) (now : World) → IsSound before old → IsAmidRemovalTurn options packages q before old so_far now → CanBeOpened now
    next_removal_opens q left before old so_far now sound next = removal_opens (purges options.extents before.records.records next.0) next.0 before old so_far now sound next.2

  pub removal_ends : (names : List (List ℕ)) (us : List AUnit) (last : Option AUnit) (before : Held) (s t : State) → HasRemovalRun names options us last before s t → Ends before s t
  removal_ends names us last before s t (inl none) = λ sound. subst (Opened s) (sym none.here) (opened_here before s sound)
  removal_ends names us last before s t (inr begun) =
      let runs = begun.runs in
      turns_end (IsRemovalTurn options runs.packages) (removal_runs runs.packages) (λ q left. IsAmidRemovalTurn options runs.packages q) (next_removal_opens runs.packages) _ runs.waiting runs.waiting before runs.after s runs.end t
      runs.removed runs.turns runs.since
