use Rattle.std.proofs.Common.{◌∷◌, [], ap, ◌∙◌, refl, string_bytes, rules, IfErr}
use Rattle.host_files.specs.Faults.{IsUndeclined}
use Rattle.host_files.specs.SystemCalls.{changes_in}
use Rattle.host_files.specs.Places.{place_of}
use Rattle.host_files.specs.Shown.{IsDeclinedBy, IsDoneBy, IsChanging}
use Rattle.host_files.proofs.Answered.{not_begun}
use Rattle.host_files.specs.declared.record.Asked.TheVariants.{HardLink}
use Rattle.host_files.specs.declared.trace.SystemCall.TheVariants.{Link}
use Rattle.host_files.proofs.steps.hard_link.Goals as goal

pub returns-in_err-from : goal.returns-in_err-from
returns-in_err-from c =
    let undeclined : IfErr c.from_residual.result IsUndeclined = search rules in
    not_begun (IsDoneBy (string_bytes c.args.root.now.front) c.args.root.now.owners (HardLink c.args.from.now c.args.to.now)) (IsChanging (string_bytes c.args.root.now.front) c.args.root.now.owners (HardLink c.args.from.now c.args.to.now)) (IsDeclinedBy (string_bytes c.args.root.now.front) c.args.root.now.owners (HardLink c.args.from.now c.args.to.now)) (Link (place_of (string_bytes c.args.root.now.front) c.args.from.now) (place_of (string_bytes c.args.root.now.front) c.args.to.now) ∷ []) c.args.system.now.trace.calls c.from_residual.result c.from_residual.ensures.0 undeclined refl (ap changes_in c.requires.begun)

pub returns-in_err-to : goal.returns-in_err-to
returns-in_err-to c =
    let undeclined : IfErr c.from_residual-in_err-to.result IsUndeclined = search rules in
    not_begun (IsDoneBy (string_bytes c.args.root.now.front) c.args.root.now.owners (HardLink c.args.from.now c.args.to.now)) (IsChanging (string_bytes c.args.root.now.front) c.args.root.now.owners (HardLink c.args.from.now c.args.to.now)) (IsDeclinedBy (string_bytes c.args.root.now.front) c.args.root.now.owners (HardLink c.args.from.now c.args.to.now)) (Link (place_of (string_bytes c.args.root.now.front) c.args.from.now) (place_of (string_bytes c.args.root.now.front) c.args.to.now) ∷ []) c.args.system.now.trace.calls c.from_residual-in_err-to.result c.from_residual-in_err-to.ensures.0 undeclined refl (ap changes_in c.requires.begun)

pub returns-in_err-look_at_loose : goal.returns-in_err-look_at_loose
returns-in_err-look_at_loose c =
    let undeclined : IfErr c.from_residual-in_err-look_at_loose.result IsUndeclined = search rules in
    not_begun (IsDoneBy (string_bytes c.args.root.now.front) c.args.root.now.owners (HardLink c.args.from.now c.args.to.now)) (IsChanging (string_bytes c.args.root.now.front) c.args.root.now.owners (HardLink c.args.from.now c.args.to.now)) (IsDeclinedBy (string_bytes c.args.root.now.front) c.args.root.now.owners (HardLink c.args.from.now c.args.to.now)) (Link (place_of (string_bytes c.args.root.now.front) c.args.from.now) (place_of (string_bytes c.args.root.now.front) c.args.to.now) ∷ []) c.look_at_loose.new.system.trace.calls c.from_residual-in_err-look_at_loose.result c.from_residual-in_err-look_at_loose.ensures.0 undeclined refl (c.in_err-look_at_loose.ensures.err ∙ ap changes_in c.requires.begun)
