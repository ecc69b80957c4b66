use Rattle.std.proofs.Common.{◌≡◌, ◌∙◌, None, ap, subst, string_bytes, rules, IfErr}
use Rattle.host_files.specs.Faults.{IsUndeclined}
use Rattle.host_files.specs.SystemCalls.{changes_in}
use Rattle.host_files.specs.Places.{place_of}
use Rattle.host_files.specs.Shown.{IsMakingBy, write_calls}
use Rattle.host_files.proofs.Answered.{not_made, written_by}
use Rattle.host_files.specs.declared.trace.SystemCall.TheVariants.{Create, Unlink}
use Rattle.host_files.proofs.steps.write_file.Goals as goal

pub returns-in_err-place-clause-step : goal.returns-in_err-place-clause-step
returns-in_err-place-clause-step c =
    let undeclined : IfErr c.from_residual.result IsUndeclined = search rules in
    rw (c.in-File.is)
    (written_by (string_bytes c.args.root.now.front) c.args.root.now.owners c.args.path.now c.in-File.bytes c.in-File.access None c.args.system.now.trace.calls c.from_residual.result (not_made (Create (place_of (string_bytes c.args.root.now.front) c.args.path.now)) (Unlink (place_of (string_bytes c.args.root.now.front) c.args.path.now))
    (write_calls c.args.root.now.owners (place_of (string_bytes c.args.root.now.front) c.args.path.now) c.in-File.bytes c.in-File.access None) c.args.system.now.trace.calls c.from_residual.result c.from_residual.ensures.0 undeclined (ap changes_in c.requires.begun)))

pub returns-clause-step : goal.returns-clause-step
returns-clause-step c =
    let place : c.as_str.result.now ≡ place_of (string_bytes c.args.root.now.front) c.args.path.now = c.as_str.ensures.value ∙ c.in_ok-place.ensures.place in
    rw (c.in-File.is)
    (written_by (string_bytes c.args.root.now.front) c.args.root.now.owners c.args.path.now c.in-File.bytes c.in-File.access c.modified.result c.write_bytes.new.system.trace.calls c.write_bytes.result
    (subst (λ p. IsMakingBy (Create p) (Unlink p) (write_calls c.args.root.now.owners p c.in-File.bytes c.in-File.access c.modified.result) c.write_bytes.new.system.trace.calls c.write_bytes.result) place
    c.write_bytes.ensures.making))
