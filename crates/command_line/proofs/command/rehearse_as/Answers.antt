use Rattle.std.proofs.Common.{rules, ◌≡◌, true, false, map, string_bytes, inl, inr, refl}
use Rattle.command_line.specs.declared.telling_hosts.Told.TheVariants.{Nothing}
use Rattle.command_line.proofs.Told.{none_behind}
use Rattle.command_line.proofs.command.rehearse_as.Goals as goal

pub returns-then-changes-clause-answered : goal.returns-then-changes-clause-answered
returns-then-changes-clause-answered g c =
    let asked : c.args.rehearsal.changes ≡ true = search rules in
    let told = c.rehearse_telling.ensures.answered in
    rw asked told

pub returns-clause-answered : goal.returns-clause-answered
returns-clause-answered g c =
    let unasked : c.args.rehearsal.changes ≡ false = search rules in
    let told = c.rehearse.ensures.answered in
    let output = g.O.Write.contents c.rehearse.new.out in
    let error = g.E.Write.contents c.rehearse.new.err in
    rw unasked (
      told.0,
      Nothing,
      output,
      error,
      c.rehearse.result,
      refl,
      elim told.1 [
        | inl answers ↦ inl answers
        | inr wants ↦ inr (wants.0, wants.1, refl)
      ],
      told.2,
      none_behind output error c.rehearse.result,
    )
