use Rattle.std.proofs.Common.{◌∷◌, [], ap, ◌∙◌, inl, refl, rules, ◌≢◌, IfErr}
use Rattle.std.specs.Option.{IsSome}
use Rattle.host_files.specs.Faults.{IsUndeclined}
use Rattle.host_files.specs.SystemCalls.{changes_in}
use Rattle.host_files.specs.Shown.{HasRenamed, IsAsked, IsRenaming}
use Rattle.host_files.proofs.Answered.{not_begun, former_removed}
use Rattle.host_files.proofs.RememberedLaws.{looked_at}
use Rattle.host_files.specs.SystemCalls.{look_call}
use Rattle.host_files.specs.declared.trace.SystemCall.TheVariants.{Rename, Unlink}
use Rattle.host_files.proofs.steps.rename_file.Goals as goal

pub returns-in_err-moved-clause-step : goal.returns-in_err-moved-clause-step
returns-in_err-moved-clause-step c =
    let undeclined : IfErr c.from_residual.result IsUndeclined = search rules in
    not_begun (HasRenamed c.args.from.now c.args.to.now) (IsRenaming c.args.from.now c.args.to.now) (IsAsked (IsRenaming c.args.from.now c.args.to.now)) (Rename c.args.from.now c.args.to.now ∷ []) c.look_at_loose.new.system.trace.calls c.from_residual.result c.from_residual.ensures.0 undeclined (inl refl) (c.in_err-moved.ensures.err ∙ ap changes_in c.requires.begun)

pub returns-in_err-over-clause-step : goal.returns-in_err-over-clause-step
returns-in_err-over-clause-step c =
    let undeclined : IfErr c.from_residual-in_err-over.result IsUndeclined = search rules in
    not_begun (HasRenamed c.args.from.now c.args.to.now) (IsRenaming c.args.from.now c.args.to.now) (IsAsked (IsRenaming c.args.from.now c.args.to.now)) (Rename c.args.from.now c.args.to.now ∷ []) c.look.new.self.trace.calls c.from_residual-in_err-over.result c.from_residual-in_err-over.ensures.0 undeclined (inl refl) (ap changes_in c.in_err-over.ensures.err ∙ ap changes_in c.in_ok-moved.ensures.ok ∙ ap changes_in c.requires.begun)

pub returns-then-is_same_file-clause-step : goal.returns-then-is_same_file-clause-step
returns-then-is_same_file-clause-step c =
    let apart : c.args.from.now ≢ c.args.to.now = search rules in
    let there : IsSome c.in_ok-over.over = search rules in
    former_removed c.args.from.now c.args.to.now c.in_ok-over.over c.look_at_loose.new.system.trace.calls c.unlink.new.self.trace.calls c.unlink.result apart there
    (ap changes_in c.in_ok-moved.ensures.ok ∙ ap changes_in c.requires.begun)
    (c.unlink.ensures.made ∙ ap (λ l. Unlink c.args.from.now ∷ l) c.in_ok-over.ensures.ok) c.unlink.ensures.err

pub returns-then-is_same_file-clause-sure : goal.returns-then-is_same_file-clause-sure
returns-then-is_same_file-clause-sure c = looked_at c.unlink.result c.args.from.now c.in_ok-moved.moved (Unlink c.args.from.now ∷ look_call c.args.to.now c.in_ok-over.over ∷ []) c.args.system.now.trace.calls c.unlink.new.self.trace.calls
    (c.unlink.ensures.made ∙ ap (λ l. Unlink c.args.from.now ∷ l) (c.in_ok-over.ensures.ok ∙ ap (λ l. look_call c.args.to.now c.in_ok-over.over ∷ l) c.in_ok-moved.ensures.ok))

pub returns-else-is_same_file-clause-sure : goal.returns-else-is_same_file-clause-sure
returns-else-is_same_file-clause-sure c = looked_at c.rename-else-is_same_file.result c.args.from.now c.in_ok-moved.moved (Rename c.args.from.now c.args.to.now ∷ look_call c.args.to.now c.in_ok-over.over ∷ []) c.args.system.now.trace.calls c.rename-else-is_same_file.new.self.trace.calls
    (c.rename-else-is_same_file.ensures.made ∙ ap (λ l. Rename c.args.from.now c.args.to.now ∷ l) (c.in_ok-over.ensures.ok ∙ ap (λ l. look_call c.args.to.now c.in_ok-over.over ∷ l) c.in_ok-moved.ensures.ok))

pub returns-then-eq-clause-sure : goal.returns-then-eq-clause-sure
returns-then-eq-clause-sure c = looked_at c.rename.result c.args.from.now c.in_ok-moved.moved (Rename c.args.from.now c.args.to.now ∷ []) c.args.system.now.trace.calls c.rename.new.self.trace.calls
    (c.rename.ensures.made ∙ ap (λ l. Rename c.args.from.now c.args.to.now ∷ l) c.in_ok-moved.ensures.ok)
