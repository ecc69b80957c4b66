-- What the packages leave as it is that are changed behind an unpack.
use Rattle.std.proofs.Common.{◌≡◌, true, ℕ, IsTrue, List, [], ◌∷◌, Option, Some, None, Contains, refl, sym, ap, subst}
use Rattle.std.specs.Prelude.{is_some}
use Rattle.std.specs.List.{AllByRecursion}
use Rattle.conflict_removal.specs.Removals.{HaveBeenRemoved, IsRemovedOrGone}
use Rattle.disappearance.specs.Runs.{HaveDisappeared}
use Rattle.disappearance.specs.Units.{IsDecided}
use Rattle.disappearance.specs.declared.losing.Losing.{Losing}
use Rattle.displaced_packages.specs.Displacing.{HaveBeenDisplaced, HaveGone, IsBroughtToDisk}
use Rattle.diversions.specs.Ways.{Ways}
use Rattle.host_core.specs.Events.{Did}
use Rattle.host_core.specs.Host.{Happens, State}
use Rattle.host_core.specs.World.{Barrier}
use Rattle.host_core.specs.declared.call.Call.{Call}
use Rattle.removal_run.specs.Units.{holding_of}
use Rattle.undo_rows.specs.declared.unwinding.Unwinding.{Unwinding}
use Rattle.status_db.proofs.NotedWorlds.{found_named}
use Rattle.status_records.specs.Records.{record_in}
use Rattle.status_records.specs.declared.record.Record.{Record}
use Rattle.unit_reports.specs.Held.{Held}
use Rattle.unit_stages.specs.Holding.{Holding}
use Rattle.unit_stages.specs.Runs.{HaveRun}
use Rattle.unit_stages.specs.declared.stage.Stage.{Stage}
use Rattle.unpack_engine.proofs.EndRecords.{has_name}
use Rattle.held_administration.specs.Order.{record_names}
use Rattle.undo_rows.specs.declared.rows.Called.{Called}
use Rattle.dpkg_session.specs.Units.{Displacing, HasDisplaced}
use Rattle.dpkg_session.proofs.Keeping.{KeepsUnnamed, unnamed_here, unnamed_of, unnamed_then}
use Rattle.dpkg_session.proofs.Known.{IsOneOf, name_among, stages_named}
use Rattle.dpkg_session.proofs.Staying.{AreOwnStages, stages_fall, stages_keep, stages_own}

found_among : (name : List ℕ) (rs : List Record) → is_some (record_in rs name) ≡ true → Contains (record_names rs) name
found_among name rs some = by (record_in rs name) refl some
  where
    by : (o : Option Record) → record_in rs name ≡ o → is_some o ≡ true → Contains (record_names rs) name
    by None e none = cc
    by (Some r) e there = has_name rs name r e

-- no lie is forgotten, what is none of a package's stays, and each record is one that stands of a package of these names
pub record Leaves (names : List (List ℕ)) (before after : List Record) (s t : State) : Type 0 where
  pub falls : IsTrue t.honest → IsTrue s.honest
  pub keeps : IsTrue t.honest → KeepsUnnamed s.world t.world
  pub named : AllByRecursion (IsOneOf names) before → AllByRecursion (IsOneOf names) after

module _ (names : List (List ℕ)) where
  leaves_here : (rs : List Record) (s : State) → Leaves names rs rs s s
  leaves_here rs s = record { falls = λ h. h; keeps = λ h. unnamed_here s.world; named = λ all. all }

  leaves_same : (before after : List Record) (s t : State) → after ≡ before → t ≡ s → Leaves names before after s t
  leaves_same before after s t records same = subst (λ (rs : List Record). Leaves names before rs s t) (sym records) (subst (Leaves names before before s) (sym same) (leaves_here before s))

  -- the world is as before
  leaves_still : (before after : List Record) (s t : State) → after ≡ before → (IsTrue t.honest → IsTrue s.honest) → (IsTrue t.honest → t.world ≡ s.world) → Leaves names before after s t
  leaves_still before after s t records falls same = subst (λ (rs : List Record). Leaves names before rs s t) (sym records) (record {
    falls = falls;
    keeps = λ h. subst (KeepsUnnamed s.world) (sym (same h)) (unnamed_here s.world);
    named = λ all. all;
  })

  leaves_then : (before mid after : List Record) (s m t : State) → Leaves names before mid s m → Leaves names mid after m t → Leaves names before after s t
  leaves_then before mid after s m t first second = record {
    falls = λ h. first.falls (second.falls h);
    keeps = λ h. unnamed_then s.world m.world t.world (first.keeps (second.falls h)) (second.keeps h);
    named = λ all. second.named (first.named all);
  }

  pub leaves_barrier : (before after : List Record) (s m t : State) → Leaves names before after s m → Happens (Did Barrier ∷ []) m t → Leaves names before after s t
  leaves_barrier before after s m t first goes = leaves_then before after after s m t first (leaves_still after after m t refl goes.honest (λ h. goes.world))

  -- the stages of a package that is recorded
  pub stages_leave : (name : List ℕ) (ways : Ways) (stages : List Stage) (failed : Option Call) (before after : Holding) (s t : State) (told now : List Called) → is_some (record_in before.records name) ≡ true
      → AreOwnStages name stages → HaveRun name ways stages failed before after s t told now → Leaves names before.records after.records s t
  stages_leave name ways stages failed before after s t told now there own run = record {
    falls = stages_fall name ways stages failed before after s t told now run;
    keeps = λ h. unnamed_of name s.world t.world (found_named name before.records there) (stages_keep name ways stages failed before after s t told now own run h);
    named = λ all. stages_named names name (name_among names before.records all name (found_among name before.records there)) ways stages failed before after s t told now own run all;
  }

  module _ (ways : Ways) where
    -- those that are removed

    removed_leaves : (name : List ℕ) (failed : Option Call) (before after : Holding) (s t : State) (told now : List Called) → IsRemovedOrGone ways name failed before after s t told now → Leaves names before.records after.records s t
    removed_leaves name failed before after s t told now (IsRemovedOrGone.removed is ended order) =
        stages_leave name ways is.stages failed before after s t told now (ap is_some is.plan.found) (stages_own name is.stages before.records before.lists is.fit) is.run
    removed_leaves name failed before after s t told now (IsRemovedOrGone.passed gone none held same silent) = leaves_same before.records after.records s t (ap (λ (h : Holding). h.records) held) same

    removals_leave : (list : List (List ℕ)) (failed : Option Call) (before after : Holding) (s t : State) (told now : List Called) → HaveBeenRemoved ways list failed before after s t told now → Leaves names before.records after.records s t
    removals_leave [] failed before after s t told now none = leaves_same before.records after.records s t (ap (λ (h : Holding). h.records) none.1) none.2
    removals_leave (name ∷ list) failed before after s t told now some =
        leaves_then before.records some.2.records after.records s some.3 t (removed_leaves name some.0 before some.2 s some.3 told some.4 some.6)
        (removals_leave list some.1 some.2 after some.3 t some.4 now some.7)

    module _ (incoming version : List ℕ) where
      -- those that disappear

      decided_leaves : (l : Losing) (gone : List (List ℕ)) (failed : Option Call) (before after : Holding) (s t : State) (told now : List Called) → IsDecided incoming version ways l gone failed before after s t told now → Leaves names before.records after.records s t
      decided_leaves l gone failed before after s t told now (IsDecided.disappeared are is) =
          let planned = is.plan.stages in
          let there = ap is_some planned.found in
          leaves_then before.records before.records after.records s is.run.mid t
          (stages_leave l.name ways is.call failed before before s is.run.mid told now there (stages_own l.name is.call before.records before.lists planned.call_fits) is.run.called)
          (stages_leave l.name ways is.gone None before after is.run.mid t now now there (stages_own l.name is.gone before.records before.lists planned.gone_fits) is.run.taken)
      decided_leaves l gone failed before after s t told now (IsDecided.stayed are none is) =
          leaves_still before.records after.records s t (ap (λ (h : Holding). h.records) is.same) is.reads.honest (λ h. is.reads.world)

      disappeared_leave : (losing : List Losing) (gone : List (List ℕ)) (failed : Option Call) (before after : Holding) (s t : State) (told now : List Called) → HaveDisappeared incoming version ways losing gone failed before after s t told now → Leaves names before.records after.records s t
      disappeared_leave [] gone failed before after s t told now none = leaves_same before.records after.records s t (ap (λ (h : Holding). h.records) none.2) none.3
      disappeared_leave (l ∷ ls) gone failed before after s t told now is =
          leaves_then before.records is.mid.records after.records s is.m t (decided_leaves l is.own is.first before is.mid s is.m told is.between is.decided)
          (disappeared_leave ls is.more is.next is.mid after is.m t is.between now is.further)

      disk_leaves : (losing : List Losing) (list : List (List ℕ)) (rs : List Record) (s t : State) → IsBroughtToDisk losing list s t → Leaves names rs rs s t
      disk_leaves [] [] rs s t same = leaves_same rs rs s t refl same
      disk_leaves [] (name ∷ list) rs s t goes = leaves_barrier rs rs s s t (leaves_here rs s) goes
      disk_leaves (l ∷ ls) list rs s t goes = leaves_barrier rs rs s s t (leaves_here rs s) goes

      gone_leaves : (losing : List Losing) (conflicting list : List (List ℕ)) (failed : Option Call) (before after : Holding) (s t : State) (told now : List Called) → HaveGone incoming version ways losing conflicting list failed before after s t told now → Leaves names before.records after.records s t
      gone_leaves losing conflicting list failed before after s t told now is =
          leaves_then before.records is.mid.records after.records s is.m t (disappeared_leave losing is.gone is.lost before is.mid s is.m told is.between is.disappeared)
          (removals_leave conflicting is.removed.later is.mid after is.m t is.between now is.removed.removed)

      displaced_leave : (losing : List Losing) (conflicting list : List (List ℕ)) (failed : Option Call) (before after : Holding) (s t : State) (told now : List Called) → HaveBeenDisplaced incoming version ways losing conflicting list failed before after s t told now → Leaves names before.records after.records s t
      displaced_leave losing conflicting list failed before after s t told now is =
          leaves_then before.records after.records after.records s is.end t (gone_leaves losing conflicting list failed before after s is.end told now is.gone)
          (disk_leaves losing conflicting after.records is.end t is.disk)

  -- what an unpack displaced, or that nothing was
  pub behind_leaves : (unwinding : Option Unwinding) (d : Displacing) (displaced : List (List ℕ)) (failed : Option Call) (mid after : Held) (m t : State) (told now : List Called)
      → HasDisplaced unwinding d displaced failed mid after m t told now → Leaves names mid.records.records after.records.records m t
  behind_leaves (Some u) d displaced failed mid after m t told now is = leaves_same mid.records.records after.records.records m t (ap (λ (h : Held). h.records.records) is.held) is.here
  behind_leaves None d displaced failed mid after m t told now is =
      displaced_leave mid.ways d.name d.version d.losing d.conflicting displaced failed (holding_of mid) (holding_of after) m t told now is
