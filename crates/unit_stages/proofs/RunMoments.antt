-- What stages need at their turn, and what holds at each moment of a run.
use Rattle.std.proofs.Common.{◌≡◌, IsTrue, ℕ, List, [], ◌∷◌, ◌++◌, None, refl, sym, ap, subst, ◌∙◌}
use Rattle.std.proofs.lemmas.List.{append-nil}
use Rattle.std.specs.List.{AllByRecursion}
use Rattle.host_core.specs.World.{World}
use Rattle.host_core.specs.Events.{Event}
use Rattle.host_core.specs.Host.{State, Needs, Since, AtEachMomentOf}
use Rattle.host_core.proofs.Moments.{since_then, since_weaker_if}
use Rattle.undo_rows.specs.declared.rows.Called.{Called}
use Rattle.diversions.specs.Ways.{Ways}
use Rattle.file_lists.specs.Filed.{Filed}
use Rattle.status_db.specs.Recorded.{Recorded}
use Rattle.unit_stages.specs.PartFitting.{AreSettleable, HaveNoSettle}
use Rattle.held_administration.specs.Order.{IsInOrder}
use Rattle.unit_stages.specs.declared.part.Part.{Part}
use Rattle.unit_stages.specs.Fitting.{AreStagesFit, AreStagesSettleable, IsStageFit, SettlesNothing}
use Rattle.unit_stages.specs.Holding.{Holding, after_parts, after_stages, holding}
use Rattle.unit_stages.specs.Running.{ArePast, AreRunning, IsAmidStage, IsInNext, IsInStage}
use Rattle.unit_stages.specs.Runs.{HaveRun}
use Rattle.unit_stages.specs.declared.stage.Stage.{Stage}
use Rattle.unit_stages.proofs.Keeping.{order_opens}
use Rattle.unit_stages.proofs.RunLaws.{run_left, run_past}
use Rattle.unit_stages.proofs.Settling.{no_settle}

-- each stage fits at its turn
pub stage_fits : (name : List ℕ) (front back : List Stage) (stage : Stage) (h : Holding) → AreStagesFit name (front ++ stage ∷ back) h.records h.lists → IsStageFit name stage (after_stages name front h).records (after_stages name front h).lists
stage_fits name [] back stage h fit = fit.0
stage_fits name (x ∷ front) back stage h fit = stage_fits name front back stage (after_parts name x.parts.items h) fit.1

settles_nothing : (front back : List Stage) (stage : Stage) → AllByRecursion SettlesNothing (front ++ stage ∷ back) → SettlesNothing stage
settles_nothing [] back stage all = all.0
settles_nothing (x ∷ front) back stage all = settles_nothing front back stage all.1

-- and its conffiles can be settled: those of the first stage as nothing is done yet, and no other has any
module _ (back : List Stage) (stage : Stage) (old now : World) where
  pub stage_settleable : (front : List Stage) → (front ≡ [] → now ≡ old) → AreStagesSettleable (front ++ stage ∷ back) old → AreSettleable stage.parts.items now
  stage_settleable [] same all = subst (AreSettleable stage.parts.items) (sym (same refl)) all.0
  stage_settleable (x ∷ front) same all = no_settle stage.parts.items now (settles_nothing front back stage all.2).parts

  pub stage_settled : (front : List Stage) → AreStagesSettleable (front ++ stage ∷ back) old → HaveNoSettle stage.restore.items
  stage_settled [] all = all.1
  stage_settled (x ∷ front) all = (settles_nothing front back stage all.2).restore

-- before the first stage nothing was done
pub unmoved : (name : List ℕ) (ways : Ways) (stages : List Stage) (before mid : Holding) (a b : State) (told more : List Called) → HaveRun name ways stages None before mid a b told more → stages ≡ [] → b.world ≡ a.world
unmoved name ways stages before mid a b told more ran none = ap (λ s. s.world) (subst (λ (l : List Stage). HaveRun name ways l None before mid a b told more) none ran).2

-- events are added to some in one way
cancel : (a b c : List Event) → a ++ b ≡ a ++ c → b ≡ c
cancel [] b c e = e
cancel (x ∷ a) b c e = cancel a b c (cc)

module _ (name : List ℕ) (ways : Ways) (stages : List Stage) (h : Holding) where
  -- before the first stage
  pub run_starts : (d : Recorded) (f : Filed) (a : State) → h ≡ holding d f → Needs a (IsInOrder d f.lists) → AtEachMomentOf (AreRunning name ways stages h) a a
  run_starts d f a is order = record {
    added = [];
    events = sym (append-nil a.events);
    honest = λ t. t;
    world = refl;
    each = λ t. record {
      front = [];
      back = stages;
      are = refl;
      before = [];
      since = [];
      events = refl;
      reached = a.world;
      past = (refl, refl);
      table = d.records;
      next = IsInNext.between refl refl (ap (λ g. g.records) (sym is));
      opens = order_opens d f.lists a.world (order t);
    };
  }

  -- a stage behind those that passed
  module _ (front back : List Stage) (stage : Stage) (are : stages ≡ front ++ stage ∷ back) (mid : Holding) (a b c : State) (told more : List Called)
      (ran : HaveRun name ways front None h mid a b told more) where
    reached : (since : Since (AreRunning name ways stages h a.world) a b) → IsTrue b.honest → ArePast name ways front h a.world since.added b.world
    reached since honest =
        let past = run_past name ways front h mid a b told more ran honest in
        subst (λ es. ArePast name ways front h a.world es b.world) (cancel a.events past.0 since.added (sym past.1 ∙ since.events)) past.2

    within : (since : Since (AreRunning name ways stages h a.world) a b) → IsTrue b.honest → (so_far : List Event) (now : World) → IsAmidStage name ways stage mid b.world so_far now → AreRunning name ways stages h a.world (since.added ++ so_far) now
    within since honest so_far now amid = record {
      front = front;
      back = stage ∷ back;
      are = are;
      before = since.added;
      since = so_far;
      events = refl;
      reached = b.world;
      past = reached since honest;
      table = amid.0;
      next = IsInNext.inside stage back refl (subst (λ g. IsInStage name ways stage g b.world so_far now amid.0) (run_left name ways front None h mid a b told more ran) amid.1);
      opens = amid.2;
    }

    pub run_goes_on : AtEachMomentOf (AreRunning name ways stages h) a b → AtEachMomentOf (IsAmidStage name ways stage mid) b c → AtEachMomentOf (AreRunning name ways stages h) a c
    run_goes_on first second =
        since_then (AreRunning name ways stages h a.world) a b c first
        (since_weaker_if (IsAmidStage name ways stage mid b.world) (λ so_far. AreRunning name ways stages h a.world (first.added ++ so_far)) b c
        (λ honest so_far w amid. within first (second.honest honest) so_far w amid) second)
