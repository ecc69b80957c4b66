-- The calls of one row.
use Rattle.std.proofs.Common.{◌≡◌, Bool, true, false, List, [], ◌∷◌, ◌++◌, Option, Some, None, Contains, refl, sym, ap, subst, ◌∙◌}
use Rattle.std.proofs.lemmas.List.{append-nil}
use Rattle.host_core.specs.Events.{Ran}
use Rattle.host_core.specs.Outcome.{is_success}
use Rattle.host_core.specs.declared.call.Call.{Call}
use Rattle.host_core.specs.declared.call.Outcome.{Outcome}
use Rattle.host_core.specs.declared.call.Outcome.TheVariants.{Killed}
use Rattle.undo_rows.specs.declared.rows.Row.{Row}
use Rattle.undo_rows.specs.declared.rows.Owner.{Owner}
use Rattle.undo_rows.proofs.Makes.{killed}
use Rattle.undo_rows.specs.Transcript.{IsCall, IsOne, Tries, TriesRow, UndoesAny, UndoesRow}

module _ (row : Row) (call : Call) (outcome : Outcome) where
  pub tries_done : row.forward ≡ Some call → is_success outcome ≡ true → (ts : List Ran) → IsOne call outcome ts → Tries row ts true
  tries_done at ok ts one = subst (λ l. Tries row l true) (sym one.1) (Tries.done one.0 (at ∙ ap Some (sym one.2)) (ap is_success one.3 ∙ ok))

  pub tries_failed : row.forward ≡ Some call → is_success outcome ≡ false → row.fallback ≡ None → (ts : List Ran) → IsOne call outcome ts → Tries row ts false
  tries_failed at bad none ts one = subst (λ l. Tries row l false) (sym one.1) (Tries.failed one.0 (at ∙ ap Some (sym one.2)) (ap is_success one.3 ∙ bad) none)

  pub tries_fallback : (other : Call) (then : Outcome) (ok : Bool) → row.forward ≡ Some call → is_success outcome ≡ false → row.fallback ≡ Some other → ok ≡ is_success then → (x y : List Ran) → IsOne call outcome x → IsOne other then y → Tries row (x ++ y) ok
  tries_fallback other then ok at bad and is x y one two =
      subst (λ l. Tries row (l ++ y) ok) (sym one.1) (subst (λ l. Tries row (one.0 ∷ l) ok) (sym two.1)
      (Tries.fell_back one.0 two.0 ok (at ∙ ap Some (sym one.2)) (ap is_success one.3 ∙ bad) (and ∙ ap Some (sym two.2)) (is ∙ ap is_success (sym two.3))))

  pub undoes_done : (owners : List Owner) → row.undo ≡ Some call → (Contains owners row.owner → ⊥) → is_success outcome ≡ true → (ts : List Ran) → IsOne call outcome ts → UndoesRow row owners ts owners
  undoes_done owners at lacks ok ts one = subst (λ l. UndoesRow row owners l owners) (sym one.1) (UndoesRow.done owners one.0 (at ∙ ap Some (sym one.2)) lacks (ap is_success one.3 ∙ ok))

  pub undoes_failed : (owners now : List Owner) → row.undo ≡ Some call → (Contains owners row.owner → ⊥) → is_success outcome ≡ false → now ≡ owners ++ row.owner ∷ [] → (ts : List Ran) → IsOne call outcome ts → UndoesRow row owners ts now
  undoes_failed owners now at lacks bad is ts one = subst (λ l. UndoesRow row owners l now) (sym one.1) (UndoesRow.failed owners now one.0 (at ∙ ap Some (sym one.2)) lacks (ap is_success one.3 ∙ bad) is)

-- how the calls of a row go on

goes_on : (row : Row) (call : Call) (outcome : Outcome) (ok : Bool) (fallback : Option Call) → row.forward ≡ Some call → is_success outcome ≡ ok → row.fallback ≡ fallback → (ts : List Ran) → IsOne call outcome ts → (more : List Ran) × TriesRow row (ts ++ more)
goes_on row call outcome true fallback at good is ts one = ([], (true, subst (λ l. Tries row l true) (sym (append-nil ts)) (tries_done row call outcome at good ts one)))
goes_on row call outcome false None at bad is ts one = ([], (false, subst (λ l. Tries row l false) (sym (append-nil ts)) (tries_failed row call outcome at bad is ts one)))
goes_on row call outcome false (Some other) at bad is ts one =
    let next = killed other in
    (next ∷ [], (false, tries_fallback row call outcome other Killed false at bad is refl ts (next ∷ []) one (next, refl, refl, refl)))

pub tries_goes_on : (row : Row) (call : Call) → row.forward ≡ Some call → (ts : List Ran) → IsCall call ts → (more : List Ran) × TriesRow row (ts ++ more)
tries_goes_on row call at ts is = goes_on row call is.0 (is_success is.0) row.fallback at refl refl ts is.1

pub falls_back : (row : Row) (call : Call) (outcome : Outcome) (other : Call) → row.forward ≡ Some call → is_success outcome ≡ false → row.fallback ≡ Some other → (x y : List Ran) → IsOne call outcome x → IsCall other y → TriesRow row (x ++ y)
falls_back row call outcome other at bad and x y one two = (is_success two.0, tries_fallback row call outcome other two.0 (is_success two.0) at bad and refl x y one two.1)

undoes_as : (row : Row) (owners : List Owner) (call : Call) (outcome : Outcome) (ok : Bool) → row.undo ≡ Some call → (Contains owners row.owner → ⊥) → is_success outcome ≡ ok → (ts : List Ran) → IsOne call outcome ts → UndoesAny row owners ts
undoes_as row owners call outcome true at lacks good ts one = (owners, undoes_done row call outcome owners at lacks good ts one)
undoes_as row owners call outcome false at lacks bad ts one = (owners ++ row.owner ∷ [], undoes_failed row call outcome owners (owners ++ row.owner ∷ []) at lacks bad refl ts one)

pub undoes_any : (row : Row) (owners : List Owner) (call : Call) → row.undo ≡ Some call → (Contains owners row.owner → ⊥) → (ts : List Ran) → IsCall call ts → UndoesAny row owners ts
undoes_any row owners call at lacks ts is = undoes_as row owners call is.0 (is_success is.0) at lacks refl ts is.1
