use Rattle.std.proofs.Common.{◌≡◌, ◌∙◌, ap, subst, string_bytes, rules, IfErr}
use Rattle.host_files.specs.Faults.{IsUndeclined}
use Rattle.host_files.specs.SystemCalls.{changes_in}
use Rattle.host_files.specs.Places.{place_of}
use Rattle.host_files.specs.Shown.{IsMakingBy, directory_calls, first_call}
use Rattle.host_files.proofs.Answered.{directory_by, not_made}
use Rattle.host_files.specs.declared.trace.SystemCall.TheVariants.{RemoveDirectory}
use Rattle.host_files.proofs.steps.make_directory.Goals as goal

pub returns-in_err-place : goal.returns-in_err-place
returns-in_err-place c =
    let undeclined : IfErr c.from_residual.result IsUndeclined = search rules in
    let place = place_of (string_bytes c.args.root.now.front) c.args.path.now in
    directory_by (string_bytes c.args.root.now.front) c.args.root.now.owners c.args.path.now c.args.access c.args.access c.args.system.now.trace.calls c.from_residual.result
    (not_made (first_call c.args.root.now.owners place c.args.access) (RemoveDirectory place) (directory_calls c.args.root.now.owners place c.args.access c.args.access) c.args.system.now.trace.calls
    c.from_residual.result c.from_residual.ensures.0 undeclined (ap changes_in c.requires.begun))

pub returns : goal.returns
returns c =
    let seen = c.create_directory.ensures.0 in
    let place : c.as_str.result.now ≡ place_of (string_bytes c.args.root.now.front) c.args.path.now = c.as_str.ensures.value ∙ c.in_ok-place.ensures.place in
    directory_by (string_bytes c.args.root.now.front) c.args.root.now.owners c.args.path.now c.args.access seen c.create_directory.new.system.trace.calls c.create_directory.result
    (subst (λ p. IsMakingBy (first_call c.args.root.now.owners p c.args.access) (RemoveDirectory p) (directory_calls c.args.root.now.owners p c.args.access seen) c.create_directory.new.system.trace.calls c.create_directory.result) place
    c.create_directory.ensures.1)
