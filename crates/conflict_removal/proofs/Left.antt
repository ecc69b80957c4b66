-- What removals leave.
use Rattle.std.proofs.Common.{◌≡◌, inl, inr, IsTrue, true, ℕ, List, [], ◌∷◌, ◌++◌, Option, sym, ap, subst, ◌∙◌}
use Rattle.host_core.specs.Paths.{Path, is_own}
use Rattle.host_core.specs.World.{World}
use Rattle.host_core.specs.Events.{Event}
use Rattle.host_core.specs.Host.{State}
use Rattle.host_core.specs.Loss.{IsLater}
use Rattle.host_core.proofs.Moments.{since_start, since_then}
use Rattle.host_core.specs.declared.call.Call.{Call}
use Rattle.diversions.specs.Ways.{Ways}
use Rattle.removal_engine.proofs.Deeds.{ArePlannedFit, stages_fit}
use Rattle.removal_engine.proofs.Fits.{removal_fit}
use Rattle.removal_engine.proofs.Tables.{is_named}
use Rattle.removal_engine.specs.Stages.{Planned}
use Rattle.removal_engine.specs.Units.{Given, IsPlanOf, given}
use Rattle.removal_engine.specs.declared.extent.Extent.TheVariants.{InFavour}
use Rattle.unit_stages.specs.Aside.{IsAside}
use Rattle.unit_stages.specs.Fitting.{AreStagesFit}
use Rattle.unit_stages.specs.Holding.{Holding}
use Rattle.unit_stages.specs.Running.{AreRunning}
use Rattle.unit_stages.specs.Runs.{HaveRun}
use Rattle.unit_stages.specs.declared.stage.Stage.{Stage}
use Rattle.undo_rows.specs.declared.rows.Called.{Called}
use Rattle.conflict_removal.specs.Removals.{HaveBeenRemoved, IsAmidNext, IsAmidRemovals, IsAsideOfAll, IsInOrderWith, IsRemovedOrGone}

-- the laws of stages
abbrev pub StagesGoOn : Type 0
StagesGoOn = (name : List ℕ) (ways : Ways) (stages : List Stage) (failed : Option Call) (before after : Holding) (s t : State) (told now : List Called) → HaveRun name ways stages failed before after s t told now → IsLater s t

abbrev pub StagesSpare : Type 0
StagesSpare =
    (name : Path) (ways : Ways) (stages : List Stage) (failed : Option Call) (before after : Holding) (s t : State) (told now : List Called) (q : Path) → IsAside name q → is_own q ≡ true
    → AreStagesFit name stages before.records before.lists → HaveRun name ways stages failed before after s t told now → IsTrue t.honest → t.world q ≡ s.world q

abbrev pub StagesAreSparing : Type 0
StagesAreSparing =
    (name : Path) (ways : Ways) (stages : List Stage) (h : Holding) (old now : World) (so_far : List Event) (q : Path) → IsAside name q → is_own q ≡ true
    → AreStagesFit name stages h.records h.lists → AreRunning name ways stages h old so_far now → now q ≡ old q

-- what is planned fits
plan_fits : (g : Given) (w : World) (stages : List Stage) → IsPlanOf g w true stages → AreStagesFit g.name stages g.before.records g.before.lists
plan_fits g w stages is =
    let plan = is.plan in
    stages_fit g.name stages g.before.records g.before.lists
    (subst (λ (ps : List Planned). ArePlannedFit g.name ps g.before.records g.before.lists) (sym plan.are)
    (removal_fit g.ways g.before.lists g.name plan.stored is.entry (is_named g.before.records g.name is.entry is.found) plan.to_come plan.comes g.extent g.before.records g.before.lists is.found))

module _ (ways : Ways) where
  module _ (go_on : StagesGoOn) where
    later_one : (name : List ℕ) (failed : Option Call) (before after : Holding) (s t : State) (told now : List Called) → IsRemovedOrGone ways name failed before after s t told now → IsLater s t
    later_one name failed before after s t told now (IsRemovedOrGone.removed is ended order) = go_on name ways is.stages failed before after s t told now is.run
    later_one name failed before after s t told now (IsRemovedOrGone.passed gone none held same silent) = subst (λ (x : State). IsLater s x) (sym same) (since_start (λ so_far w. Unit {0}) s tt)

    pub removed_later : (names : List (List ℕ)) (failed : Option Call) (before after : Holding) (s t : State) (told now : List Called) → HaveBeenRemoved ways names failed before after s t told now → IsLater s t
    removed_later [] failed before after s t told now none = subst (λ (x : State). IsLater s x) (sym none.2) (since_start (λ so_far w. Unit {0}) s tt)
    removed_later (name ∷ names) failed before after s t told now some =
        since_then (λ so_far w. Unit {0}) s some.3 t (later_one name some.0 before some.2 s some.3 told some.4 some.6) (removed_later names some.1 some.2 after some.3 t some.4 now some.7)

    order_one : (name : List ℕ) (failed : Option Call) (before after : Holding) (s t : State) (told now : List Called) → IsRemovedOrGone ways name failed before after s t told now → IsTrue t.honest → IsInOrderWith before s.world → IsInOrderWith after t.world
    order_one name failed before after s t told now (IsRemovedOrGone.removed is ended order) h start = order h
    order_one name failed before after s t told now (IsRemovedOrGone.passed gone none held same silent) h start =
        subst (λ (x : State). IsInOrderWith after x.world) (sym same) (subst (λ (x : Holding). IsInOrderWith x s.world) (sym held) start)

    pub removed_order : (names : List (List ℕ)) (failed : Option Call) (before after : Holding) (s t : State) (told now : List Called) → HaveBeenRemoved ways names failed before after s t told now
        → IsTrue t.honest → IsInOrderWith before s.world → IsInOrderWith after t.world
    removed_order [] failed before after s t told now none h start = subst (λ (x : State). IsInOrderWith after x.world) (sym none.2) (subst (λ (x : Holding). IsInOrderWith x s.world) (sym none.1) start)
    removed_order (name ∷ names) failed before after s t told now some h start =
        let middle = (removed_later names some.1 some.2 after some.3 t some.4 now some.7).honest h in
        removed_order names some.1 some.2 after some.3 t some.4 now some.7 h (order_one name some.0 before some.2 s some.3 told some.4 some.6 middle start)

    -- a place aside
    module _ (q : Path) (own : is_own q ≡ true) (spare : StagesSpare) where
      aside_one : (name : List ℕ) (failed : Option Call) (before after : Holding) (s t : State) (told now : List Called) → IsAside name q → IsRemovedOrGone ways name failed before after s t told now → IsTrue t.honest → t.world q ≡ s.world q
      aside_one name failed before after s t told now aside (IsRemovedOrGone.removed is ended order) h = spare name ways is.stages failed before after s t told now q aside own is.fit is.run h
      aside_one name failed before after s t told now aside (IsRemovedOrGone.passed gone none held same silent) h = ap (λ (x : State). x.world q) same

      pub removed_aside : (names : List (List ℕ)) (failed : Option Call) (before after : Holding) (s t : State) (told now : List Called) → IsAsideOfAll names q → HaveBeenRemoved ways names failed before after s t told now
          → IsTrue t.honest → t.world q ≡ s.world q
      removed_aside [] failed before after s t told now aside none h = ap (λ (x : State). x.world q) none.2
      removed_aside (name ∷ names) failed before after s t told now aside some h =
          let middle = (removed_later names some.1 some.2 after some.3 t some.4 now some.7).honest h in
          removed_aside names some.1 some.2 after some.3 t some.4 now aside.1 some.7 h ∙ aside_one name some.0 before some.2 s some.3 told some.4 aside.0 some.6 middle

      aside_front : (done left : List (List ℕ)) → IsAsideOfAll (done ++ left) q → IsAsideOfAll done q
      aside_front [] left all = tt
      aside_front (name ∷ done) left all = (all.0, aside_front done left all.1)

      aside_back : (done left : List (List ℕ)) → IsAsideOfAll (done ++ left) q → IsAsideOfAll left q
      aside_back [] left all = all
      aside_back (name ∷ done) left all = aside_back done left all.1

      module _ (sparing : StagesAreSparing) where
        aside_next : (left : List (List ℕ)) (h : Holding) (old now : World) (so_far : List Event) → IsAsideOfAll left q → IsAmidNext ways left h old so_far now → now q ≡ old q
        aside_next [] h old now so_far aside only = ap (λ (w : World). w q) only.0
        aside_next (name ∷ left) h old now so_far aside (inl only) = ap (λ (w : World). w q) only.0
        aside_next (name ∷ left) h old now so_far aside (inr amid) =
            sparing name ways amid.stages h old now so_far q aside.0 own (plan_fits (given InFavour name ways h) old amid.stages amid.plan) amid.running

        pub amid_aside : (names : List (List ℕ)) (before : Holding) (s : State) (so_far : List Event) (now : World) → IsAsideOfAll names q → IsAmidRemovals ways names before s so_far now → now q ≡ s.world q
        amid_aside names before s so_far now aside amid =
            let all = subst (λ (l : List (List ℕ)). IsAsideOfAll l q) amid.are aside in
            aside_next amid.left amid.mid amid.m.world now amid.rest (aside_back amid.done amid.left all) amid.next
            ∙ removed_aside amid.done amid.failed before amid.mid s amid.m amid.told amid.between (aside_front amid.done amid.left all) amid.removed amid.honest
