-- A removal writes no list but its package's.
use Rattle.std.proofs.Common.{◌≡◌, ◌≢◌, inl, inr, ℕ, false, List, [], ◌∷◌, Option, sym, subst}
use Rattle.host_core.specs.Paths.{Path}
use Rattle.host_core.specs.Host.{State}
use Rattle.host_core.specs.declared.call.Call.{Call}
use Rattle.administration.specs.Places.{home_path, is_within}
use Rattle.undo_rows.specs.declared.rows.Called.{Called}
use Rattle.undo_rows.specs.declared.rows.Owner.{Owner}
use Rattle.diversions.specs.Ways.{Ways}
use Rattle.file_lists.specs.declared.paths.Listed.{Listed}
use Rattle.removal_engine.specs.Units.{Given, HasRemoved}
use Rattle.unit_stages.specs.Holding.{Holding, after_parts}
use Rattle.unit_stages.specs.Runs.{HasRestored, HaveRun}
use Rattle.unit_stages.specs.declared.part.Part.{Part}
use Rattle.unit_stages.specs.declared.stage.Stage.{Stage}
use Rattle.kept_in_commands.proofs.Owners.{Owns}
use Rattle.kept_in_commands.proofs.Stages.{parts_own}

module _ (q : Path) (out : is_within home_path q ≡ false) (ways : Ways) (x : Listed) (name : List ℕ) (other : x.name ≢ name) where
  restored_owns : (owners : List Owner) (restore : List Part) (before after : Holding) (s t : State) → Owns ways q x before.lists → HasRestored name ways owners restore before after s t → Owns ways q x after.lists
  restored_owns owners restore before after s t owns (HasRestored.restored none does is) = subst (λ (h : Holding). Owns ways q x h.lists) (sym is) (parts_own q out name ways x other restore before.lists owns)
  restored_owns owners restore before after s t owns (HasRestored.left some same is) = subst (λ (h : Holding). Owns ways q x h.lists) (sym is) owns

  run_owns : (stages : List Stage) (failed : Option Call) (before after : Holding) (s t : State) (told now : List Called) → Owns ways q x before.lists → HaveRun name ways stages failed before after s t told now → Owns ways q x after.lists
  run_owns [] failed before after s t told now owns run = subst (λ (h : Holding). Owns ways q x h.lists) (sym run.1) owns
  run_owns (stage ∷ stages) failed before after s t told now owns (inl passed) =
      run_owns stages failed (after_parts name stage.parts.items before) after passed.mid t passed.more now (parts_own q out name ways x other stage.parts.items before.lists owns) passed.further
  run_owns (stage ∷ stages) failed before after s t told now owns (inr fell) =
      restored_owns fell.fell.undo.owners stage.restore.items (after_parts name stage.parts.items before) after fell.fell.undo.undone t (parts_own q out name ways x other stage.parts.items before.lists owns) fell.fell.undo.restored

  pub removed_owns : (g : Given) → g.name ≡ name → g.ways ≡ ways → (failed : Option Call) (after : Holding) (s t : State) (told now : List Called) → HasRemoved g failed after s t told now → Owns ways q x g.before.lists → Owns ways q x after.lists
  removed_owns g named led failed after s t told now unit owns =
      run_owns unit.stages failed g.before after s t told now owns
      (subst (λ (n : List ℕ). HaveRun n ways unit.stages failed g.before after s t told now) named (subst (λ (w : Ways). HaveRun g.name w unit.stages failed g.before after s t told now) led unit.run))
