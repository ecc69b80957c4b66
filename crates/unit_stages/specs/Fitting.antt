-- What stages need of the records, the lists and the world in which they are run.
use Rattle.std.specs.Prelude.{ℕ, List, [], ◌∷◌}
use Rattle.std.specs.List.{AllByRecursion}
use Rattle.host_core.specs.World.{World}
use Rattle.file_lists.specs.declared.paths.PackageList.{PackageList}
use Rattle.status_records.specs.declared.record.Record.{Record}
use Rattle.unit_stages.specs.PartFitting.{AreFit, AreSettleable, HaveNoSettle}
use Rattle.unit_stages.specs.Parts.{parts_lists, parts_records}
use Rattle.unit_stages.specs.declared.stage.Stage.{Stage}

module _ (name : List ℕ) where
  -- what is done before the call fits, and behind it what is done where the call failed
  pub record IsStageFit (stage : Stage) (rs : List Record) (ls : List PackageList) : Type 0 where
    pub parts : AreFit name stage.parts.items rs ls
    pub restore : AreFit name stage.restore.items (parts_records name stage.parts.items rs) (parts_lists name stage.parts.items ls)

  -- each at its turn, where those before it have passed
  abbrev pub AreStagesFit : List Stage → List Record → List PackageList → Type 0
  AreStagesFit [] rs ls = Unit {0}
  AreStagesFit (stage ∷ stages) rs ls = IsStageFit stage rs ls × AreStagesFit stages (parts_records name stage.parts.items rs) (parts_lists name stage.parts.items ls)

-- a stage settles no conffiles
pub record SettlesNothing (stage : Stage) : Type 0 where
  pub parts : HaveNoSettle stage.parts.items
  pub restore : HaveNoSettle stage.restore.items

-- Only the first stage settles conffiles, and in this world they can be.
abbrev pub AreStagesSettleable : List Stage → World → Type 0
AreStagesSettleable [] w = Unit {0}
AreStagesSettleable (stage ∷ stages) w = AreSettleable stage.parts.items w × HaveNoSettle stage.restore.items × AllByRecursion SettlesNothing stages
