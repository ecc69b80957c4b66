-- What a run of stages leaves of the records and the lists.
use Rattle.std.specs.Prelude.{◌≡◌, ◌⊎◌, ℕ, List, [], ◌∷◌, ◌++◌, Option, Some, None}
use Rattle.host_core.specs.declared.call.Call.{Call}
use Rattle.unit_stages.specs.Holding.{Holding, after_parts, after_stages}
use Rattle.unit_stages.specs.declared.stage.Stage.{Stage}

module _ (name : List ℕ) where
  -- One stage failed behind those that passed: what its parts left, or what was done then on top of it.
  pub record IsLeftByFailed (stages : List Stage) (call : Call) (before after : Holding) : Type 0 where
    pub front : List Stage
    pub stage : Stage
    pub back : List Stage
    pub are : stages ≡ front ++ stage ∷ back
    pub forward : stage.row.forward ≡ Some call
    pub left : (after ≡ after_stages name (front ++ stage ∷ []) before) ⊎ (after ≡ after_parts name stage.restore.items (after_stages name (front ++ stage ∷ []) before))

  -- what is left where no call failed, and where this one did
  abbrev pub IsLeftBy : List Stage → Option Call → Holding → Holding → Type 0
  IsLeftBy stages None before after = after ≡ after_stages name stages before
  IsLeftBy stages (Some call) before after = IsLeftByFailed stages call before after
