use Rattle.std.proofs.Common.{ap, refl, string_bytes, rules, IfErr}
use Rattle.host_files.specs.Faults.{IsUndeclined}
use Rattle.host_files.specs.SystemCalls.{changes_in}
use Rattle.host_files.specs.Places.{place_of}
use Rattle.host_files.specs.Shown.{IsDeclinedBy, IsDoneBy, IsChanging, lowering_calls}
use Rattle.host_files.proofs.Answered.{not_begun}
use Rattle.host_files.specs.declared.record.Asked.TheVariants.{Lower}
use Rattle.host_files.proofs.steps.lower_file.Goals as goal

pub returns-in_err-place : goal.returns-in_err-place
returns-in_err-place c =
    let front = string_bytes c.args.root.now.front in
    let owners = c.args.root.now.owners in
    let undeclined : IfErr c.from_residual.result IsUndeclined = search rules in
    not_begun (IsDoneBy front owners (Lower c.args.path.now)) (IsChanging front owners (Lower c.args.path.now)) (IsDeclinedBy front owners (Lower c.args.path.now)) (lowering_calls (place_of front c.args.path.now)) c.args.system.now.trace.calls c.from_residual.result c.from_residual.ensures.0 undeclined refl (ap changes_in c.requires.begun)
