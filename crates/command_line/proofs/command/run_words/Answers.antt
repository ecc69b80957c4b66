use Rattle.std.proofs.Common.{rules, ◌≡◌, Some, None, [], ap, map, string_bytes, inl, inr, refl}
use Rattle.command_words.specs.Commands.{rehearsal_of}
use Rattle.command_words.specs.Rehearsals.{rehearsed}
use Rattle.command_line.specs.Rehearsed.{behind_line}
use Rattle.command_line.specs.Reports.{memory_answer}
use Rattle.command_line.specs.declared.telling_hosts.Told.TheVariants.{Nothing}
use Rattle.command_line.proofs.Held.{appends_nothing}
use Rattle.command_line.proofs.Told.{none_behind, none_told}
use Rattle.command_line.proofs.command.run_words.Goals as goal

pub returns-in-Ok-None-clause-answered : goal.returns-in-Ok-None-clause-answered
returns-in-Ok-None-clause-answered g c =
    let none : rehearsal_of (map string_bytes c.args.words.now) ≡ None = search rules in
    let told = c.carry_out.ensures.answered in
    let output = g.O.Write.contents c.carry_out.new.out in
    let error = g.E.Write.contents c.carry_out.new.err in
    rw none (
      told.0,
      Nothing,
      output,
      error,
      c.carry_out.result,
      refl,
      elim told.1 [
        | inl answers ↦ inl (told.0, answers, refl)
        | inr wants ↦ inr (inl wants.0, wants.1, refl)
      ],
      told.2,
      none_behind output error c.carry_out.result,
    )

pub returns-in-Ok-None-clause-quiet : goal.returns-in-Ok-None-clause-quiet
returns-in-Ok-None-clause-quiet g c =
    let none : rehearsal_of (map string_bytes c.args.words.now) ≡ None = search rules in
    rw none c.carry_out.ensures.quiet

pub returns-in-Ok-Some-clause-answered : goal.returns-in-Ok-Some-clause-answered
returns-in-Ok-Some-clause-answered g c =
    let some : rehearsal_of (map string_bytes c.args.words.now) ≡ Some (rehearsed c.in-Ok-Some.rehearsal) = search rules in
    let told = c.rehearse_as.ensures.answered in
    rw some (
      behind_line told.0,
      told.1,
      told.2,
      told.3,
      told.4,
      told.5,
      elim told.6 [
        | inl answers ↦ inl (told.0, answers, refl)
        | inr wants ↦ inr (inr (ap behind_line wants.0), wants.1, wants.2)
      ],
      told.7,
      told.8,
    )

pub returns-in-Ok-Some-clause-quiet : goal.returns-in-Ok-Some-clause-quiet
returns-in-Ok-Some-clause-quiet g c =
    let some : rehearsal_of (map string_bytes c.args.words.now) ≡ Some (rehearsed c.in-Ok-Some.rehearsal) = search rules in
    rw some (inr refl)

pub returns-in-Err-clause-answered : goal.returns-in-Err-clause-answered
returns-in-Err-clause-answered g c =
    let held = g.O.Write.contents c.args.out.now in
    let error = g.E.Write.contents c.give_want_of_memory.new.err in
    (memory_answer, Nothing, held, error, c.give_want_of_memory.result, none_told (rehearsal_of (map string_bytes c.args.words.now)) _, inr (inl refl, refl, refl), inl (c.give_want_of_memory.ensures.given [] held held (appends_nothing held)), none_behind held error c.give_want_of_memory.result)
