use Rattle.std.proofs.Common.{rules, refl, ◌≡◌, ◌∷◌, ◌++◌, [], ap, ◌∙◌, IfErr}
use Rattle.host_files.specs.Faults.{IsOfStep, IsUndeclined}
use Rattle.host_files.specs.SystemCalls.{changes_in}
use Rattle.host_files.specs.Shown.{directory_calls, first_call, opened_calls}
use Rattle.host_files.proofs.Answered.{adds_first, first_asked, not_made, unmade}
use Rattle.host_files.specs.declared.trace.SystemCall.TheVariants.{MakeDirectory, RemoveDirectory}
use Rattle.host_files.proofs.steps.create_directory.Goals as goal

pub returns-in_err-check_settable : goal.returns-in_err-check_settable
returns-in_err-check_settable c =
    let undeclined : IfErr c.from_residual.result IsUndeclined = search rules in (
      c.args.access,
      not_made (first_call c.args.owners c.args.place.now c.args.access) (RemoveDirectory c.args.place.now) (directory_calls c.args.owners c.args.place.now c.args.access c.args.access) c.args.system.now.trace.calls
          c.from_residual.result c.from_residual.ensures.0 undeclined (ap changes_in c.requires.begun),
    )

pub returns-in_err-make_directory : goal.returns-in_err-make_directory
returns-in_err-make_directory c =
    let step : IfErr c.from_residual-in_err-make_directory.result IsOfStep = search rules in (
      c.args.access,
      first_asked (first_call c.args.owners c.args.place.now c.args.access) (RemoveDirectory c.args.place.now) (opened_calls c.args.owners c.args.place.now c.args.access c.args.access) c.make_directory.new.self.trace.calls
          c.from_residual-in_err-make_directory.result c.from_residual-in_err-make_directory.ensures.0 step
          (ap changes_in (c.in_err-make_directory.ensures.made ∙ ap (λ l. MakeDirectory c.args.place.now c.first_mode.result ∷ l) c.requires.begun) ∙ ap (λ m. MakeDirectory c.args.place.now m ∷ []) c.first_mode.ensures),
    )

pub returns-in-Ok : goal.returns-in-Ok
returns-in-Ok c = (
  c.in-Ok.ensures.made.0,
  c.in-Ok.ensures.made.1 ∙ ap (λ l. opened_calls c.args.owners c.args.place.now c.args.access c.in-Ok.ensures.made.0 ++ l)
      (ap changes_in (c.in_ok-make_directory.ensures.made ∙ ap (λ l. MakeDirectory c.args.place.now c.first_mode.result ∷ l) c.requires.begun) ∙ ap (λ m. MakeDirectory c.args.place.now m ∷ []) c.first_mode.ensures),
)

pub returns-in-Err-Declined : goal.returns-in-Err-Declined
returns-in-Err-Declined c =
    let first = first_call c.args.owners c.args.place.now c.args.access in
    let seen = c.in-Err-Declined.ensures.made.0 in
    let opened = opened_calls c.args.owners c.args.place.now c.args.access seen in
    let begun : changes_in c.make_directory.new.self.trace.calls ≡ first ∷ [] =
    ap changes_in (c.in_ok-make_directory.ensures.made ∙ ap (λ l. MakeDirectory c.args.place.now c.first_mode.result ∷ l) c.requires.begun) ∙ ap (λ m. MakeDirectory c.args.place.now m ∷ []) c.first_mode.ensures in (
      seen,
      unmade (Unit {0}) first (RemoveDirectory c.args.place.now) opened c.make_directory.new.self.trace.calls c.open_directory.new.system.trace.calls c.take_away_directory.new.self.trace.calls
          c.take_away_directory.result c.take_away_directory.ensures.fault begun
          (adds_first (Unit {0}) opened c.make_directory.new.self.trace.calls c.open_directory.new.system.trace.calls c.in-Err-Declined.field-0 c.in-Err-Declined.ensures.err c.in-Err-Declined.ensures.made.1)
          c.take_away_directory.ensures.left c.take_away_directory.ensures.gone refl,
    )
