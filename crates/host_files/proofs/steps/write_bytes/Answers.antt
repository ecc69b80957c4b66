use Rattle.std.proofs.Common.{rules, refl, ◌∷◌, ap, ◌∙◌, IfErr}
use Rattle.host_files.specs.Faults.{IsOfStep, IsUndeclined}
use Rattle.host_files.specs.SystemCalls.{changes_in}
use Rattle.host_files.specs.Shown.{fill_calls, write_calls}
use Rattle.host_files.proofs.Answered.{adds_first, first_asked, not_made, unmade}
use Rattle.host_files.specs.declared.trace.SystemCall.TheVariants.{Create, Unlink}
use Rattle.host_files.proofs.steps.write_bytes.Goals as goal

pub returns-in_err-check_settable-clause-making : goal.returns-in_err-check_settable-clause-making
returns-in_err-check_settable-clause-making c =
    let undeclined : IfErr c.from_residual.result IsUndeclined = search rules in
    not_made (Create c.args.place.now) (Unlink c.args.place.now) (write_calls c.args.owners c.args.place.now c.args.bytes.now c.args.access c.args.modified) c.args.system.now.trace.calls c.from_residual.result c.from_residual.ensures.0 undeclined (ap changes_in c.requires.begun)

pub returns-in_err-made-clause-making : goal.returns-in_err-made-clause-making
returns-in_err-made-clause-making c =
    let step : IfErr c.from_residual-in_err-made.result IsOfStep = search rules in
    first_asked (Create c.args.place.now) (Unlink c.args.place.now) (fill_calls c.args.owners c.args.bytes.now c.args.access c.args.modified) c.create.new.self.trace.calls c.from_residual-in_err-made.result c.from_residual-in_err-made.ensures.0 step
    (ap changes_in (c.in_err-made.ensures.made ∙ ap (λ l. Create c.args.place.now ∷ l) c.requires.begun))

pub returns-in-Err-Declined-clause-making : goal.returns-in-Err-Declined-clause-making
returns-in-Err-Declined-clause-making c =
    unmade (Unit {0}) (Create c.args.place.now) (Unlink c.args.place.now) (fill_calls c.args.owners c.args.bytes.now c.args.access c.args.modified) c.create.new.self.trace.calls c.finish_file.new.system.trace.calls c.take_away_file.new.self.trace.calls
    c.take_away_file.result c.take_away_file.ensures.fault (ap changes_in (c.in_ok-made.ensures.made ∙ ap (λ l. Create c.args.place.now ∷ l) c.requires.begun))
    (adds_first (Unit {0}) (fill_calls c.args.owners c.args.bytes.now c.args.access c.args.modified) c.create.new.self.trace.calls c.finish_file.new.system.trace.calls c.in-Err-Declined.field-0 c.in-Err-Declined.ensures.err c.in-Err-Declined.ensures.made)
    c.take_away_file.ensures.left c.take_away_file.ensures.gone refl
