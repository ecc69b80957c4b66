-- Packages that disappear behind an unpack, and conflicting ones that are removed (Policy 6.6, 7.4, 7.6.1).
use Rattle.std.proofs.Common.{◌≡◌, inl, inr, ℕ, IsTrue, List, [], ◌∷◌, Option, None, refl, sym, ap, subst, ◌∙◌}
use Rattle.host_core.specs.Events.{Event}
use Rattle.host_core.specs.Host.{State}
use Rattle.host_core.specs.World.{World}
use Rattle.host_core.specs.declared.call.Call.{Call}
use Rattle.conflict_removal.specs.Removals.{HaveBeenRemoved, IsAmidNext as IsAmidNextRemoval, IsAmidRemovals, IsRemovedOrGone}
use Rattle.disappearance.specs.Runs.{HaveDisappeared, IsAmidDisappearances, IsAmidNext}
use Rattle.disappearance.specs.Stages.{ArePlanned}
use Rattle.disappearance.specs.Units.{IsAmidOne, IsDecided, IsRunningBoth}
use Rattle.disappearance.specs.declared.losing.Losing.{Losing}
use Rattle.displaced_packages.specs.Displacing.{AreGoing, HaveBeenDisplaced, HaveGone, IsAmidDisplacing, IsBroughtToDisk}
use Rattle.diversions.specs.Ways.{Ways}
use Rattle.removal_engine.proofs.Tables.{is_named}
use Rattle.removal_engine.specs.Units.{given}
use Rattle.removal_engine.specs.declared.extent.Extent.TheVariants.{InFavour}
use Rattle.status_db.specs.Held.{HasRecords}
use Rattle.status_records.specs.declared.record.Record.{Record}
use Rattle.unit_stages.specs.Holding.{Holding}
use Rattle.unit_stages.specs.declared.stage.Stage.{Stage}
use Rattle.undo_rows.specs.declared.rows.Called.{Called}
use Rattle.undo_rows.specs.declared.rows.Row.{Row}
use Rattle.reopening.proofs.Inside.{quiet_then}
use Rattle.reopening.proofs.Parts.{calm_then}
use Rattle.reopening.proofs.Removals.{AreSafePlanned, gone_safe, planned_safe, removal_plan_safe}
use Rattle.reopening.proofs.Stages.{AreSafeStages, run_calm, run_falls, run_of}
use Rattle.reopening.proofs.Units.{IsHeld, found_has, held_opens, held_same, removing_opens, stages_amid, stages_held, stages_open}
use Rattle.reopening.specs.Opens.{CanBeOpened}

call_safe : (name : List ℕ) (h : Holding) (row : Row) (call gone : List Stage) → ArePlanned name h row call gone → AreSafeStages name call
call_safe name h row call gone plan = planned_safe name call (subst (AreSafePlanned name) (sym plan.calls) (record { parts = tt; restore = tt }, tt))

going_safe : (name : List ℕ) (h : Holding) (row : Row) (call gone : List Stage) → ArePlanned name h row call gone → AreSafeStages name gone
going_safe name h row call gone plan = planned_safe name gone (subst (AreSafePlanned name) (sym plan.goes) (gone_safe name plan.entry, tt))

module _ (names : List (List ℕ)) (held_entries ways : Ways) where
  -- what is held then, where the host was honest
  pub record Leads (rs : List Record) (s t : State) : Type 0 where
    pub falls : IsTrue t.honest → IsTrue s.honest
    pub held : IsTrue t.honest → IsHeld names held_entries rs t.world

  leads_same : (rs after : List Record) (s t : State) → after ≡ rs → t ≡ s → (IsTrue s.honest → IsHeld names held_entries rs s.world) → Leads after s t
  leads_same rs after s t records same held = subst (λ (l : List Record). Leads l s t) (sym records) (subst (Leads rs s) (sym same) (record { falls = λ h. h; held = held }))

  leads_then : (after : List Record) (s m t : State) → (IsTrue m.honest → IsTrue s.honest) → Leads after m t → Leads after s t
  leads_then after s m t falls second = record { falls = λ h. falls (second.falls h); held = second.held }

  -- one that is removed

  removed_leads : (name : List ℕ) (failed : Option Call) (before after : Holding) (s t : State) (told now : List Called) → (IsTrue s.honest → IsHeld names held_entries before.records s.world)
      → IsRemovedOrGone ways name failed before after s t told now → Leads after.records s t
  removed_leads name failed before after s t told now held (IsRemovedOrGone.removed is ended order) =
      let plan = is.plan in
      let falls = run_falls name is.named ways is.stages failed before after s t told now is.run in
      let safe = removal_plan_safe ways before.lists plan.entry InFavour s.world t.honest is.stages name (is_named before.records name plan.entry plan.found) plan.plan in
      record {
        falls = falls;
        held = λ h. (let there = order h in let found = held (falls h) in
            stages_held names held_entries name is.named (found_has names before.records found.all name plan.entry plan.found) ways is.stages failed before after s t told now safe found is.run h
            (subst (HasRecords t.world) there.are there.order.kept.holds));
      }
  removed_leads name failed before after s t told now held (IsRemovedOrGone.passed gone none records same silent) = leads_same before.records after.records s t (ap (λ (h : Holding). h.records) records) same held

  pub removals_lead : (list : List (List ℕ)) (failed : Option Call) (before after : Holding) (s t : State) (told now : List Called) → (IsTrue s.honest → IsHeld names held_entries before.records s.world)
      → HaveBeenRemoved ways list failed before after s t told now → Leads after.records s t
  removals_lead [] failed before after s t told now held none = leads_same before.records after.records s t (ap (λ (h : Holding). h.records) none.1) none.2 held
  removals_lead (name ∷ list) failed before after s t told now held some =
      let first = removed_leads name some.0 before some.2 s some.3 told some.4 held some.6 in
      leads_then after.records s some.3 t first.falls (removals_lead list some.1 some.2 after some.3 t some.4 now first.held some.7)

  next_removal : (list : List (List ℕ)) (h : Holding) (old : World) (so_far : List Event) (now : World) → IsHeld names held_entries h.records old → (now ≡ old → CanBeOpened now) → IsAmidNextRemoval ways list h old so_far now → CanBeOpened now
  next_removal [] h old so_far now held opens still = opens still.0
  next_removal (name ∷ list) h old so_far now held opens amid = removing_opens names held_entries (given InFavour name ways h) old so_far now held opens amid

  pub removals_open : (list : List (List ℕ)) (before : Holding) (s : State) (so_far : List Event) (now : World) → (IsTrue s.honest → IsHeld names held_entries before.records s.world) → IsAmidRemovals ways list before s so_far now → CanBeOpened now
  removals_open list before s so_far now held amid =
      let there = (removals_lead amid.done amid.failed before amid.mid s amid.m amid.told amid.between held amid.removed).held amid.honest in
      next_removal amid.left amid.mid amid.m.world amid.rest now there
      (λ same. held_opens names held_entries amid.mid.records now (held_same names held_entries amid.mid.records amid.m.world now same there) amid.opens.1.opens amid.opens.1.loose) amid.next

  module _ (incoming version : List ℕ) where
    -- one that disappears

    decided_leads : (l : Losing) (gone : List (List ℕ)) (failed : Option Call) (before after : Holding) (s t : State) (told now : List Called) → (IsTrue s.honest → IsHeld names held_entries before.records s.world)
        → IsDecided incoming version ways l gone failed before after s t told now → Leads after.records s t
    decided_leads l gone failed before after s t told now held (IsDecided.disappeared are is) =
        let plan = is.plan.stages in
        let named = plan.named in
        let safe_call = call_safe l.name before _ is.call is.gone plan in
        let safe_gone = going_safe l.name before _ is.call is.gone plan in
        let falls_gone = run_falls l.name named ways is.gone None before after is.run.mid t now now is.run.taken in
        let falls_call = run_falls l.name named ways is.call failed before before s is.run.mid told now is.run.called in
        record {
          falls = λ h. falls_call (falls_gone h);
          held = λ h. (let at_mid = falls_gone h in let found = held (falls_call at_mid) in
              let has = found_has names before.records found.all l.name plan.entry plan.found in
              let first = run_calm l.name named ways is.call failed before before s is.run.mid told now safe_call is.run.called at_mid in
              let second = run_calm l.name named ways is.gone None before after is.run.mid t now now safe_gone is.run.taken h in
              let calm = calm_then s.world is.run.mid.world t.world first second in
              let there = is.order h in
              record {
                all = run_of l.name named ways names has is.gone None before after is.run.mid t now now safe_gone is.run.taken found.all;
                base = found.base;
                safe = found.safe;
                quiet = quiet_then found.base s.world t.world found.quiet calm.quiet;
                empty = λ q within. calm.tmp q within ∙ found.empty q within;
                has = subst (HasRecords t.world) there.are there.order.kept.holds;
              });
        }
    decided_leads l gone failed before after s t told now held (IsDecided.stayed are none is) = record {
      falls = is.reads.honest;
      held = λ h. subst (λ (g : Holding). IsHeld names held_entries g.records t.world) (sym is.same) (held_same names held_entries before.records s.world t.world is.reads.world (held (is.reads.honest h)));
    }

    pub disappeared_lead : (losing : List Losing) (gone : List (List ℕ)) (failed : Option Call) (before after : Holding) (s t : State) (told now : List Called) → (IsTrue s.honest → IsHeld names held_entries before.records s.world)
        → HaveDisappeared incoming version ways losing gone failed before after s t told now → Leads after.records s t
    disappeared_lead [] gone failed before after s t told now held none = leads_same before.records after.records s t (ap (λ (h : Holding). h.records) none.2) none.3 held
    disappeared_lead (l ∷ ls) gone failed before after s t told now held is =
        let first = decided_leads l is.own is.first before is.mid s is.m told is.between held is.decided in
        leads_then after.records s is.m t first.falls (disappeared_lead ls is.more is.next is.mid after is.m t is.between now first.held is.further)

    both_open : (l : Losing) (h : Holding) (s : State) (so_far : List Event) (now : World) (call gone : List Stage) (row : Row) → ArePlanned l.name h row call gone → IsHeld names held_entries h.records s.world
        → IsRunningBoth l.name ways call gone h s so_far now → CanBeOpened now
    both_open l h s so_far now call gone row plan held (IsRunningBoth.calling running) =
        stages_open names held_entries l.name plan.named (found_has names h.records held.all l.name plan.entry plan.found) ways call h s.world so_far now (call_safe l.name h row call gone plan) held running
    both_open l h s so_far now call gone row plan held (IsRunningBoth.behind is) =
        let has = found_has names h.records held.all l.name plan.entry plan.found in
        let calm = run_calm l.name plan.named ways call is.failed h h s is.mid is.told is.more (call_safe l.name h row call gone plan) is.called is.honest in
        stages_amid names held_entries l.name plan.named has ways gone h is.mid.world is.rest now (going_safe l.name h row call gone plan) s.world calm held is.running

    one_opens : (l : Losing) (h : Holding) (s : State) (so_far : List Event) (now : World) → IsHeld names held_entries h.records s.world → (now ≡ s.world → CanBeOpened now) → IsAmidOne incoming version ways l h s so_far now → CanBeOpened now
    one_opens l h s so_far now held opens (IsAmidOne.looking same silent) = opens same
    one_opens l h s so_far now held opens (IsAmidOne.going is) = both_open l h s so_far now is.call is.gone _ is.plan.stages held is.running

    next_opens : (losing : List Losing) (h : Holding) (s : State) (so_far : List Event) (now : World) → IsHeld names held_entries h.records s.world → (now ≡ s.world → CanBeOpened now) → IsAmidNext incoming version ways losing h s so_far now → CanBeOpened now
    next_opens [] h s so_far now held opens still = opens still.0
    next_opens (l ∷ ls) h s so_far now held opens amid = one_opens l h s so_far now held opens amid

    pub disappearances_open : (losing : List Losing) (before : Holding) (s : State) (so_far : List Event) (now : World) → (IsTrue s.honest → IsHeld names held_entries before.records s.world)
        → IsAmidDisappearances incoming version ways losing before s so_far now → CanBeOpened now
    disappearances_open losing before s so_far now held amid =
        let there = (disappeared_lead amid.done amid.names amid.failed before amid.mid s amid.m amid.told amid.between held amid.disappeared).held amid.honest in
        next_opens amid.left amid.mid amid.m amid.rest now there
        (λ same. held_opens names held_entries amid.mid.records now (held_same names held_entries amid.mid.records amid.m.world now same there) amid.opens.1.opens amid.opens.1.loose) amid.next

    -- both, one after the other

    module _ (losing : List Losing) (conflicting : List (List ℕ)) where
      gone_leads : (list : List (List ℕ)) (failed : Option Call) (before after : Holding) (s t : State) (told now : List Called) → (IsTrue s.honest → IsHeld names held_entries before.records s.world)
          → HaveGone incoming version ways losing conflicting list failed before after s t told now → Leads after.records s t
      gone_leads list failed before after s t told now held is =
          let first = disappeared_lead losing is.gone is.lost before is.mid s is.m told is.between held is.disappeared in
          leads_then after.records s is.m t first.falls (removals_lead conflicting is.removed.later is.mid after is.m t is.between now first.held is.removed.removed)

      disk_leads : (rs : List Record) (ls : List Losing) (list : List (List ℕ)) (s t : State) → (IsTrue s.honest → IsHeld names held_entries rs s.world) → IsBroughtToDisk ls list s t → Leads rs s t
      disk_leads rs [] [] s t held same = leads_same rs rs s t refl same held
      disk_leads rs [] (name ∷ list) s t held goes = record { falls = goes.honest; held = λ h. held_same names held_entries rs s.world t.world goes.world (held (goes.honest h)) }
      disk_leads rs (l ∷ ls) list s t held goes = record { falls = goes.honest; held = λ h. held_same names held_entries rs s.world t.world goes.world (held (goes.honest h)) }

      pub displaced_lead : (list : List (List ℕ)) (failed : Option Call) (before after : Holding) (s t : State) (told now : List Called) → (IsTrue s.honest → IsHeld names held_entries before.records s.world)
          → HaveBeenDisplaced incoming version ways losing conflicting list failed before after s t told now → Leads after.records s t
      displaced_lead list failed before after s t told now held is =
          let first = gone_leads list failed before after s is.end told now held is.gone in
          leads_then after.records s is.end t first.falls (disk_leads after.records losing conflicting is.end t first.held is.disk)

      going_open : (before : Holding) (s : State) (so_far : List Event) (now : World) → (IsTrue s.honest → IsHeld names held_entries before.records s.world) → AreGoing incoming version ways losing conflicting before s so_far now → CanBeOpened now
      going_open before s so_far now held (inl amid) = disappearances_open losing before s so_far now held amid
      going_open before s so_far now held (inr amid) =
          removals_open conflicting amid.mid amid.m amid.rest now ((disappeared_lead losing amid.gone amid.lost before amid.mid s amid.m amid.told amid.between held amid.disappeared).held) amid.removing

      pub displacing_open : (before : Holding) (s : State) (so_far : List Event) (now : World) → (IsTrue s.honest → IsHeld names held_entries before.records s.world) → IsAmidDisplacing incoming version ways losing conflicting before s so_far now → CanBeOpened now
      displacing_open before s so_far now held amid = going_open before s amid.front now held amid.amid
