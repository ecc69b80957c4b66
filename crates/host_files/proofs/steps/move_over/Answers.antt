use Rattle.std.proofs.Common.{◌∷◌, [], ap, inl, inr, refl, subst, ◌∙◌, string_bytes, rules, IfErr}
use Rattle.std.proofs.lemmas.Result.{on_ok_weaker}
use Rattle.host_files.specs.Faults.{IsUndeclined}
use Rattle.host_files.specs.SystemCalls.{changes_in}
use Rattle.host_files.specs.Places.{place_of}
use Rattle.host_files.specs.Shown.{IsDeclinedBy, IsDoneBy, IsChanging, IsLookedAt}
use Rattle.host_files.proofs.Answered.{not_begun}
use Rattle.host_files.specs.declared.record.Asked.TheVariants.{Move}
use Rattle.host_files.specs.declared.trace.SystemCall.TheVariants.{Rename}
use Rattle.host_files.proofs.steps.move_over.Goals as goal

pub returns-in_err-from-clause-step : goal.returns-in_err-from-clause-step
returns-in_err-from-clause-step c =
    let undeclined : IfErr c.from_residual.result IsUndeclined = search rules in
    not_begun (IsDoneBy (string_bytes c.args.root.now.front) c.args.root.now.owners (Move c.args.from.now c.args.to.now)) (IsChanging (string_bytes c.args.root.now.front) c.args.root.now.owners (Move c.args.from.now c.args.to.now)) (IsDeclinedBy (string_bytes c.args.root.now.front) c.args.root.now.owners (Move c.args.from.now c.args.to.now)) (Rename (place_of (string_bytes c.args.root.now.front) c.args.from.now) (place_of (string_bytes c.args.root.now.front) c.args.to.now) ∷ []) c.args.system.now.trace.calls c.from_residual.result c.from_residual.ensures.0 undeclined (inl refl) (ap changes_in c.requires.begun)

pub returns-in_err-to-clause-step : goal.returns-in_err-to-clause-step
returns-in_err-to-clause-step c =
    let undeclined : IfErr c.from_residual-in_err-to.result IsUndeclined = search rules in
    not_begun (IsDoneBy (string_bytes c.args.root.now.front) c.args.root.now.owners (Move c.args.from.now c.args.to.now)) (IsChanging (string_bytes c.args.root.now.front) c.args.root.now.owners (Move c.args.from.now c.args.to.now)) (IsDeclinedBy (string_bytes c.args.root.now.front) c.args.root.now.owners (Move c.args.from.now c.args.to.now)) (Rename (place_of (string_bytes c.args.root.now.front) c.args.from.now) (place_of (string_bytes c.args.root.now.front) c.args.to.now) ∷ []) c.args.system.now.trace.calls c.from_residual-in_err-to.result c.from_residual-in_err-to.ensures.0 undeclined (inl refl) (ap changes_in c.requires.begun)

pub returns-clause-sure : goal.returns-clause-sure
returns-clause-sure c = on_ok_weaker c.rename_at.result (λ sure. elim sure [
  | inl looked ↦ inl (subst (λ p. IsLookedAt p c.rename_at.new.system.trace.calls) (c.as_str.ensures.value ∙ c.in_ok-from.ensures.place) looked)
  | inr new ↦ inr (c.is_new-is_new.ensures.0 new)
]) c.rename_at.ensures.sure
