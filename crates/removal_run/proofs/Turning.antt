-- Removals, one after another.
use Rattle.std.proofs.Common.{◌≡◌, inl, inr, ℕ, List, Option, Some, None, [], ap, sym, subst, ◌∙◌}
use Rattle.std.specs.Prelude.{IsTrue}
use Rattle.dependency_check.specs.Waiting.{Waiting}
use Rattle.host_core.specs.Host.{State, AtEachMomentOf, Since}
use Rattle.host_core.proofs.Moments.{since_start, since_weaker}
use Rattle.recorded_packages.specs.Renewal.{AreSameBut}
use Rattle.relation_index.specs.declared.package.Package.{Package}
use Rattle.status_records.specs.declared.record.Record.{Record}
use Rattle.unit_reports.specs.Held.{Held}
use Rattle.unit_reports.specs.Units.{IsBroken, TellsNoPackage}
use Rattle.unit_reports.specs.declared.report.Unit.{Unit as AUnit}
use Rattle.unit_runs.specs.Turns as runs
use Rattle.unit_runs.specs.Turns.{HaveAllTurned, IsBrokenNext as IsBrokenBehind, TurnsTo}
use Rattle.unit_runs.proofs.Going.{no_turn, since_wider, still_here}
use Rattle.removal_run.specs.Extents.{purges}
use Rattle.name_sets.specs.Names.{is_among, without}
use Rattle.removal_run.specs.Next.{IsNothing}
use Rattle.removal_run.specs.Taking.{IsOver}
use Rattle.removal_run.specs.Turns.{HasCalledNext, HasStopped, HasTurned, IsAmidNext, IsAmidTurn, IsAmidTurns, IsTurn, RemovesTo}
use Rattle.removal_run.specs.Units.{IsAmidRemoval, IsBrokenOff}
use Rattle.removal_run.specs.Waiting.{IsRemovedNext}
use Rattle.removal_run.specs.declared.turns.Removing.{Removing}
use Rattle.removal_run.specs.declared.options.RemovalOptions.{RemovalOptions}
use Rattle.removal_run.proofs.Accepting.{waited}
use Rattle.removal_run.proofs.Following.{removed_among}
use Rattle.removal_run.proofs.Queues.{same_but_more, same_but_none}
use Rattle.removal_run.proofs.Removals.{silent_here}

module _ (options : RemovalOptions) (packages : List Package) where
  -- at each moment of the next one
  module _ (waiting later : List (List ℕ)) (before : Held) where
    pub since_next_start : (s : State) → AtEachMomentOf (runs.IsAmidNext (λ left behind. IsAmidTurn options packages left) waiting later before) s s
    since_next_start s = since_start (runs.IsAmidNext (λ left behind. IsAmidTurn options packages left) waiting later before s.world) s (inl (still_here s.world))

    pub since_next : (name : List ℕ) (s t : State) → IsRemovedNext options.ignore_depends packages before.records.records waiting name → AtEachMomentOf (IsAmidRemoval (purges options.extents before.records.records name) name before) s t
        → AtEachMomentOf (runs.IsAmidNext (λ left behind. IsAmidTurn options packages left) waiting later before) s t
    since_next name s t next since =
        since_weaker (IsAmidRemoval (purges options.extents before.records.records name) name before s.world) (runs.IsAmidNext (λ left behind. IsAmidTurn options packages left) waiting later before s.world) s t (λ so_far w amid. inr (name, next, amid)) since

    -- the next one was broken off
    pub broken_one : (name : List ℕ) (s t : State) (u : AUnit) → IsRemovedNext options.ignore_depends packages before.records.records waiting name → IsBrokenOff (purges options.extents before.records.records name) name before u s t → IsBrokenBehind (λ left behind. HasCalledNext options packages left) waiting later before s t u
    broken_one name s t u next off = record { broken = off.broken; untouched = off.untouched; called = inr (name, next, off.called) }

    -- memory was wanting to find it
    pub broken_here : (s : State) (u : AUnit) → IsBroken u.reply → TellsNoPackage u → u.calls.items ≡ [] → IsBrokenBehind (λ left behind. HasCalledNext options packages left) waiting later before s s u
    broken_here s u broken untouched none = record { broken = broken; untouched = untouched; called = inl (record { silent = silent_here s; told = none }) }

  -- each of those that were removed waited, and no other record has changed

  record Leaves (start left : List (List ℕ)) (old new : List Record) : Type 0 where
    pub waited : (name : List ℕ) → IsTrue (is_among left name) → IsTrue (is_among start name)
    pub others : AreSameBut start old new

  turn_leaves : (start q later : List (List ℕ)) (old : List Record) (mid after : Held) (u : AUnit) (m t : State) → Leaves start q old mid.records.records → IsTurn options packages q mid u later after m t → Leaves start later old after.records.records
  turn_leaves start q later old mid after u m t so_far turn = record {
    waited = λ name there. so_far.waited name (waited turn.name name q (subst (λ (w : List (List ℕ)). IsTrue (is_among w name)) turn.left_is there));
    others = same_but_more start turn.name old mid.records.records after.records.records (so_far.waited turn.name (removed_among options.ignore_depends packages mid.records.records q turn.name turn.next)) so_far.others turn.others;
  }

  turns_leave : (start : List (List ℕ)) (before : Held) (s : State) (us : List AUnit) (q : List (List ℕ)) (after : Held) (t : State) → RemovesTo options packages start before s us q after t → Leaves start q before.records.records after.records.records
  turns_leave start before s us q after t TurnsTo.begun = record { waited = λ name there. there; others = same_but_none start before.records.records }
  turns_leave start before s us q after t (TurnsTo.turned first u mid_q later mid end m last come turn) =
      turn_leaves start mid_q q before.records.records mid after u m t (turns_leave start before s first mid_q mid m come) turn

  pub turned_others : (start left : List (List ℕ)) (before after : Held) (s t : State) (old new : List AUnit) → HasTurned options packages start left before after s t old new → AreSameBut start before.records.records after.records.records
  turned_others start left before after s t old new turned = (turns_leave start before s turned.turned left after t turned.come).others

  -- a run that ended before it began
  pub stopped_here : (waiting : List (List ℕ)) (before : Held) (s : State) (us : List AUnit) (u : AUnit) → IsBroken u.reply → TellsNoPackage u → u.calls.items ≡ [] → HasStopped options packages waiting before s s us us u
  stopped_here waiting before s us u broken untouched none = (
    waiting,
    record {
      q = waiting;
      after = before;
      m = s;
      turned = no_turn (IsTurn options packages) waiting before s us;
      since = since_next_start waiting waiting before s;
      broken = broken_here waiting waiting before s u broken untouched none;
    },
  )

  pub since_any : (may : List (List ℕ) → Type 0) (waiting : List (List ℕ)) (before : Held) (s t : State) → Since (runs.IsAmidTurns (IsTurn options packages) (λ left behind. IsAmidTurn options packages left) may waiting before s) s t
      → Since (IsAmidTurns options packages waiting before s) s t
  since_any may waiting before s t since = since_wider (IsTurn options packages) waiting before s (λ left behind. IsAmidTurn options packages left) may (λ later. Unit {0}) (λ q so. tt) t since

-- what all removals have come to

abbrev or_queue : Waiting → Option Waiting → Waiting
or_queue q None = q
or_queue q (Some other) = other

pub record AreOver (options : RemovalOptions) (packages : List Package) (waiting left : List (List ℕ)) (before after : Held) (s t : State) (old new : List AUnit) (q : Waiting) : Type 0 where
  pub turned : HasTurned options packages waiting left before after s t old new
  pub nothing : IsNothing options.ignore_depends packages after.records.records left q

pub are_over : (options : RemovalOptions) (packages : List Package) (waiting : List (List ℕ)) (before after : Held) (s t : State) (old new : List AUnit) (r : Removing) (q : Waiting) → r.options ≡ options → q.packages ≡ packages → r.queue ≡ Some q → HaveAllTurned (IsTurn options packages) (IsOver r) waiting before s old new after t
    → AreOver options packages waiting r.waiting.items before after s t old new q
are_over options packages waiting before after s t old new r q given same here all =
    let over = all.ended in
    let one : over.queue ≡ q = ap (or_queue q) (sym over.here ∙ here) in
    subst (λ (names : List (List ℕ)). AreOver options packages waiting names before after s t old new q) (sym over.same) (record {
      turned = all.turned;
      nothing = subst (λ (o : RemovalOptions). IsNothing o.ignore_depends packages after.records.records all.q q) given (subst (λ (ps : List Package). IsNothing r.options.ignore_depends ps after.records.records all.q q) same (subst (λ (w : Waiting). IsNothing r.options.ignore_depends w.packages after.records.records all.q w) one over.nothing));
    })
