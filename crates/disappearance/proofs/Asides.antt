-- What packages that disappear leave as it is.
use Rattle.std.proofs.Common.{◌≡◌, true, IsTrue, ℕ, List, [], ◌∷◌, ◌++◌, Option, None, sym, ap, subst, ◌∙◌}
use Rattle.host_core.specs.Events.{Event}
use Rattle.host_core.specs.Host.{State}
use Rattle.host_core.specs.Loss.{IsLater}
use Rattle.host_core.proofs.Moments.{since_reads, since_start, since_then}
use Rattle.host_core.specs.Paths.{Path, is_own}
use Rattle.host_core.specs.World.{World}
use Rattle.host_core.specs.declared.call.Call.{Call}
use Rattle.diversions.specs.Ways.{Ways}
use Rattle.unit_stages.specs.Aside.{IsAside}
use Rattle.unit_stages.proofs.RunLaws.{run_later}
use Rattle.unit_stages.specs.Fitting.{AreStagesFit}
use Rattle.unit_stages.specs.Holding.{Holding}
use Rattle.unit_stages.specs.Running.{AreRunning}
use Rattle.unit_stages.specs.Runs.{HaveRun}
use Rattle.unit_stages.specs.declared.stage.Stage.{Stage}
use Rattle.undo_rows.specs.declared.rows.Called.{Called}
use Rattle.disappearance.specs.Runs.{HaveDisappeared, IsAmidDisappearances, IsAmidNext, IsAsideOfAll}
use Rattle.disappearance.specs.Units.{HaveRunBoth, IsAmidOne, IsDecided, IsInOrderWith, IsRunningBoth}
use Rattle.disappearance.specs.declared.losing.Losing.{Losing}

-- what stages leave
abbrev pub RunLeaves : Type 0
RunLeaves = (name : Path) (ways : Ways) (stages : List Stage) (failed : Option Call) (before after : Holding) (s t : State) (told now : List Called) (q : Path) → IsAside name q → is_own q ≡ true
    → AreStagesFit name stages before.records before.lists → HaveRun name ways stages failed before after s t told now → IsTrue t.honest → t.world q ≡ s.world q

abbrev pub RunningLeaves : Type 0
RunningLeaves = (name : Path) (ways : Ways) (stages : List Stage) (h : Holding) (old now : World) (so_far : List Event) (q : Path) → IsAside name q → is_own q ≡ true
    → AreStagesFit name stages h.records h.lists → AreRunning name ways stages h old so_far now → now q ≡ old q

-- later moments, and the order

later_same : (s : State) → IsLater s s
later_same s = since_start (λ so_far v. Unit {0}) s tt

later_then : (s m t : State) → IsLater s m → IsLater m t → IsLater s t
later_then s m t first second = since_then (λ so_far v. Unit {0}) s m t first second

module _ (incoming version : List ℕ) (ways : Ways) where
  decided_later : (l : Losing) (names : List (List ℕ)) (failed : Option Call) (before after : Holding) (s t : State) (told now : List Called) → IsDecided incoming version ways l names failed before after s t told now → IsLater s t
  decided_later l names failed before after s t told now (IsDecided.stayed none unfailed stayed) = since_reads (λ so_far v. Unit {0}) s t stayed.reads (λ fs all. tt)
  decided_later l names failed before after s t told now (IsDecided.disappeared is has) =
      later_then s has.run.mid t (run_later l.name ways has.call failed before before s has.run.mid told now has.run.called) (run_later l.name ways has.gone None before after has.run.mid t now now has.run.taken)

  pub all_later : (losing : List Losing) (names : List (List ℕ)) (failed : Option Call) (before after : Holding) (s t : State) (told now : List Called) → HaveDisappeared incoming version ways losing names failed before after s t told now → IsLater s t
  all_later [] names failed before after s t told now run = subst (IsLater s) (sym run.3) (later_same s)
  all_later (l ∷ ls) names failed before after s t told now run =
      later_then s run.m t (decided_later l run.own run.first before run.mid s run.m told run.between run.decided) (all_later ls run.more run.next run.mid after run.m t run.between now run.further)

  decided_order : (l : Losing) (names : List (List ℕ)) (failed : Option Call) (before after : Holding) (s t : State) (told now : List Called) → IsDecided incoming version ways l names failed before after s t told now → IsTrue t.honest → IsInOrderWith before s.world → IsInOrderWith after t.world
  decided_order l names failed before after s t told now (IsDecided.stayed none unfailed stayed) honest order =
      subst (λ (h : Holding). IsInOrderWith h t.world) (sym stayed.same) (subst (IsInOrderWith before) (sym stayed.reads.world) order)
  decided_order l names failed before after s t told now (IsDecided.disappeared is has) honest order = has.order honest

  pub all_order : (losing : List Losing) (names : List (List ℕ)) (failed : Option Call) (before after : Holding) (s t : State) (told now : List Called) → HaveDisappeared incoming version ways losing names failed before after s t told now → IsTrue t.honest → IsInOrderWith before s.world → IsInOrderWith after t.world
  all_order [] names failed before after s t told now run honest order =
      subst (λ (h : Holding). IsInOrderWith h t.world) (sym run.2) (subst (λ (x : State). IsInOrderWith before x.world) (sym run.3) order)
  all_order (l ∷ ls) names failed before after s t told now run honest order =
      all_order ls run.more run.next run.mid after run.m t run.between now run.further honest
      (decided_order l run.own run.first before run.mid s run.m told run.between run.decided
      ((all_later ls run.more run.next run.mid after run.m t run.between now run.further).honest honest) order)

module _ (run_leaves : RunLeaves) (running_leaves : RunningLeaves) (q : Path) (own : is_own q ≡ true) where
  module _ (name : List ℕ) (ways : Ways) (call gone : List Stage) (before : Holding) (aside : IsAside name q) (call_fits : AreStagesFit name call before.records before.lists) (gone_fits : AreStagesFit name gone before.records before.lists) where
    both_aside : (failed : Option Call) (after : Holding) (s t : State) (told now : List Called) → HaveRunBoth name ways call gone failed before after s t told now → IsTrue t.honest → t.world q ≡ s.world q
    both_aside failed after s t told now run honest =
        run_leaves name ways gone None before after run.mid t now now q aside own gone_fits run.taken honest
        ∙ run_leaves name ways call failed before before s run.mid told now q aside own call_fits run.called ((run_later name ways gone None before after run.mid t now now run.taken).honest honest)

    running_aside : (s : State) (so_far : List Event) (now : World) → IsRunningBoth name ways call gone before s so_far now → now q ≡ s.world q
    running_aside s so_far now (IsRunningBoth.calling running) = running_leaves name ways call before s.world now so_far q aside own call_fits running
    running_aside s so_far now (IsRunningBoth.behind behind) =
        running_leaves name ways gone before behind.mid.world now behind.rest q aside own gone_fits behind.running
        ∙ run_leaves name ways call behind.failed before before s behind.mid behind.told behind.more q aside own call_fits behind.called behind.honest

  module _ (incoming version : List ℕ) (ways : Ways) where
    decided_aside : (l : Losing) (names : List (List ℕ)) (failed : Option Call) (before after : Holding) (s t : State) (told now : List Called) → IsAside l.name q → IsDecided incoming version ways l names failed before after s t told now → IsTrue t.honest → t.world q ≡ s.world q
    decided_aside l names failed before after s t told now aside (IsDecided.stayed none unfailed stayed) honest = ap (λ (w : World). w q) stayed.reads.world
    decided_aside l names failed before after s t told now aside (IsDecided.disappeared is has) honest =
        both_aside l.name ways has.call has.gone before aside has.plan.stages.call_fits has.plan.stages.gone_fits failed after s t told now has.run honest

    pub all_aside : (losing : List Losing) (names : List (List ℕ)) (failed : Option Call) (before after : Holding) (s t : State) (told now : List Called) → IsAsideOfAll losing q → HaveDisappeared incoming version ways losing names failed before after s t told now → IsTrue t.honest → t.world q ≡ s.world q
    all_aside [] names failed before after s t told now aside run honest = ap (λ (x : State). x.world q) run.3
    all_aside (l ∷ ls) names failed before after s t told now aside run honest =
        all_aside ls run.more run.next run.mid after run.m t run.between now aside.1 run.further honest
        ∙ decided_aside l run.own run.first before run.mid s run.m told run.between aside.0 run.decided ((all_later incoming version ways ls run.more run.next run.mid after run.m t run.between now run.further).honest honest)

    front_aside : (front back : List Losing) → IsAsideOfAll (front ++ back) q → IsAsideOfAll front q × IsAsideOfAll back q
    front_aside [] back all = (tt, all)
    front_aside (l ∷ front) back all = let more = front_aside front back all.1 in ((all.0, more.0), more.1)

    next_aside : (left : List Losing) (h : Holding) (s : State) (so_far : List Event) (now : World) → IsAsideOfAll left q → IsAmidNext incoming version ways left h s so_far now → now q ≡ s.world q
    next_aside [] h s so_far now aside amid = ap (λ (w : World). w q) amid.0
    next_aside (l ∷ ls) h s so_far now aside (IsAmidOne.looking same quiet) = ap (λ (w : World). w q) same
    next_aside (l ∷ ls) h s so_far now aside (IsAmidOne.going going) =
        running_aside l.name ways going.call going.gone h aside.0 going.plan.stages.call_fits going.plan.stages.gone_fits s so_far now going.running

    pub amid_aside : (losing : List Losing) (before : Holding) (s : State) (so_far : List Event) (now : World) → IsAsideOfAll losing q → IsAmidDisappearances incoming version ways losing before s so_far now → now q ≡ s.world q
    amid_aside losing before s so_far now all amid =
        let aside = front_aside amid.done amid.left (subst (λ (ls : List Losing). IsAsideOfAll ls q) amid.are all) in
        next_aside amid.left amid.mid amid.m amid.rest now aside.1 amid.next
        ∙ all_aside amid.done amid.names amid.failed before amid.mid s amid.m amid.told amid.between aside.0 amid.disappeared amid.honest
