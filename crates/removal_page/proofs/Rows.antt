-- The calls of a row with no other call in its place, and what came of them.
use Rattle.std.proofs.Common.{◌≡◌, ◌≢◌, ◌⊎◌, inl, inr, true, false, List, [], ◌∷◌, Some, None, refl, sym, ap, subst, ◌∙◌, arith}
use Rattle.host_core.specs.Events.{Ran}
use Rattle.host_core.specs.declared.call.Call.{Call}
use Rattle.undo_rows.specs.declared.rows.Row.{Row}
use Rattle.undo_rows.specs.declared.rows.Owner.{Owner}
use Rattle.undo_rows.specs.Transcript.{Tries, UndoesRow}
use Rattle.std.specs.Prelude.{Contains}
use Rattle.policy_page.specs.Answers.{fails, works}
use Rattle.policy_page.proofs.Rows.{Are, of_one, one}

module _ (row : Row) (none : row.forward ≡ None) where
  pub tried_quiet : (ts : List Ran) → Tries row ts true → ts ≡ []
  tried_quiet ts (Tries.absent is) = refl
  tried_quiet ts (Tries.done t is good) = cc
  tried_quiet ts (Tries.fell_back t u ok is bad in_place good) = cc

  pub never_fails : (ts : List Ran) → Tries row ts false → ⊥
  never_fails ts (Tries.failed t is bad other) = cc
  never_fails ts (Tries.fell_back t u ok is bad in_place worse) = cc

module _ (row : Row) (call : Call) (calls : row.forward ≡ Some call) (alone : row.fallback ≡ None) where
  pub tried : (ts : List Ran) → Tries row ts true → Are ts (works call ∷ [])
  tried ts (Tries.absent none) = cc
  tried ts (Tries.done t is good) = one t call true (cc) good
  tried ts (Tries.fell_back t u ok is bad in_place good) = cc

  pub failed : (ts : List Ran) → Tries row ts false → Are ts (fails call ∷ [])
  failed ts (Tries.failed t is bad none) = one t call false (cc) bad
  failed ts (Tries.fell_back t u ok is bad in_place worse) = cc

  pub tries : (ts : List Ran) → Are ts (works call ∷ []) → Tries row ts true
  tries ts are =
      let t = of_one (works call) ts are in
      subst (λ l. Tries row l true) (sym t.1) (Tries.done t.0 (calls ∙ ap Some (sym t.2)) t.3)

  pub can_fail : (ts : List Ran) → Are ts (fails call ∷ []) → Tries row ts false
  can_fail ts are =
      let t = of_one (fails call) ts are in
      subst (λ l. Tries row l false) (sym t.1) (Tries.failed t.0 (calls ∙ ap Some (sym t.2)) t.3 alone)

none_contained : (owner : Owner) → Contains [] owner → ⊥
none_contained owner has = absurd (omega (arith, has.1))

pub undone_quietly : (row : Row) → row.undo ≡ None → (owners : List Owner) (ts : List Ran) → UndoesRow row [] ts owners → (ts ≡ []) × (owners ≡ [])
undone_quietly row none owners ts (UndoesRow.absent o is) = (refl, refl)
undone_quietly row none owners ts (UndoesRow.spared o has) = (refl, refl)
undone_quietly row none owners ts (UndoesRow.done o t is free good) = cc
undone_quietly row none owners ts (UndoesRow.failed o now t is free bad grown) = cc

module _ (row : Row) (undo : Call) (undoes : row.undo ≡ Some undo) where
  pub undone : (owners : List Owner) (ts : List Ran) → UndoesRow row [] ts owners → ((owners ≡ []) × Are ts (works undo ∷ [])) ⊎ ((owners ≢ []) × Are ts (fails undo ∷ []))
  undone owners ts (UndoesRow.absent o is) = cc
  undone owners ts (UndoesRow.spared o has) = absurd (none_contained row.owner has)
  undone owners ts (UndoesRow.done o t is free good) = inl (refl, one t undo true (cc) good)
  undone owners ts (UndoesRow.failed o now t is free bad grown) = inr ((λ e. cc), one t undo false (cc) bad)

  pub undoes_well : (ts : List Ran) → Are ts (works undo ∷ []) → UndoesRow row [] ts []
  undoes_well ts are =
      let t = of_one (works undo) ts are in
      subst (λ l. UndoesRow row [] l []) (sym t.1) (UndoesRow.done [] t.0 (undoes ∙ ap Some (sym t.2)) (none_contained row.owner) t.3)

  pub undo_fails : (ts : List Ran) → Are ts (fails undo ∷ []) → UndoesRow row [] ts (row.owner ∷ [])
  undo_fails ts are =
      let t = of_one (fails undo) ts are in
      subst (λ l. UndoesRow row [] l (row.owner ∷ [])) (sym t.1) (UndoesRow.failed [] _ t.0 (undoes ∙ ap Some (sym t.2)) (none_contained row.owner) t.3 refl)
