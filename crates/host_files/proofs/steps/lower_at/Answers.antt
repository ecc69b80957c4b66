use Rattle.std.proofs.Common.{◌≡◌, ◌∷◌, [], ap, ◌∙◌, refl, rules, IfErr}
use Rattle.host_files.specs.Faults.{IsUndeclined}
use Rattle.host_files.specs.Shown.{HasLowered, IsAsked, lowering_calls}
use Rattle.host_files.specs.SystemCalls.{changes_in}
use Rattle.host_files.specs.declared.trace.Trace.{Trace}
use Rattle.host_files.proofs.Answered.{not_begun, refused}
use Rattle.host_files.proofs.steps.lower_at.Goals as goal

pub returns-in_err-found : goal.returns-in_err-found
returns-in_err-found c =
    let place = c.args.place.now in
    let undeclined : IfErr c.from_residual.result IsUndeclined = search rules in
    not_begun (HasLowered c.args.owners place) (λ all. all ≡ lowering_calls place) (IsAsked (λ all. all ≡ lowering_calls place)) (lowering_calls place) c.look.new.self.trace.calls c.from_residual.result c.from_residual.ensures.0 undeclined refl
    (ap changes_in c.in_err-found.ensures.err ∙ ap changes_in c.requires.begun)

pub returns-in_default : goal.returns-in_default
returns-in_default c =
    let place = c.args.place.now in
    refused (Unit {0}) (HasLowered c.args.owners place) (λ all. all ≡ lowering_calls place) (IsAsked (λ all. all ≡ lowering_calls place)) (lowering_calls place) c.refuse.new.self.trace.calls c.refuse.result c.refuse.ensures.fault refl
    (ap (λ (t : Trace). changes_in t.calls) c.refuse.ensures.trace ∙ ap changes_in c.in_ok-found.ensures.ok ∙ ap changes_in c.requires.begun)
