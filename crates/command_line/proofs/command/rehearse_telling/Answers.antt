use Rattle.std.proofs.Common.{rules, ◌≡◌, List, [], map, string_bytes, inl, inr, refl, subst, sym}
use Rattle.command_words.specs.Commands.{asked_of}
use Rattle.command_words.specs.Topics.{named_in}
use Rattle.host_overlay.specs.Failing.{foretold}
use Rattle.host_overlay.specs.declared.failing.AssumedFailure.{AssumedFailure}
use Rattle.command_line.specs.Reports.{IsAnswerOf, memory_answer}
use Rattle.command_line.specs.Roots.{around}
use Rattle.command_line.specs.Telling.{telling}
use Rattle.command_line.specs.declared.telling_hosts.Told.TheVariants.{Nothing}
use Rattle.command_line.proofs.Held.{appends_nothing}
use Rattle.command_line.proofs.Rehearsed.{given_behind, line_cut}
use Rattle.command_line.proofs.Told.{none_behind}
use Rattle.command_line.proofs.command.rehearse_telling.Goals as goal

pub returns-then-not-write_whole-clause-answered : goal.returns-then-not-write_whole-clause-answered
returns-then-not-write_whole-clause-answered g c =
    let error = g.E.Write.contents c.args.err.now in
    let output = g.O.Write.contents c.write_whole.new.writer in
    (memory_answer, Nothing, output, error, 2, inl refl, inr (refl, refl, refl), inl (line_cut _ _ error 2 c.if-not-write_whole.ensures.written refl), none_behind output error 2)

pub returns-in_default-clause-answered : goal.returns-in_default-clause-answered
returns-in_default-clause-answered g c =
    let held = g.O.Write.contents c.write_whole.new.writer in
    let error = g.E.Write.contents c.give_want_of_memory.new.err in
    let status = c.give_want_of_memory.result in (
      memory_answer,
      Nothing,
      held,
      error,
      status,
      inl refl,
      inr (refl, refl, refl),
      given_behind memory_answer (g.O.Write.contents c.args.out.now) held held (g.E.Write.contents c.args.err.now) error status _ c.if-not-write_whole.ensures.written
          (inl (c.give_want_of_memory.ensures.given [] held held (appends_nothing held))),
      none_behind held error status,
    )

pub returns-clause-answered : goal.returns-clause-answered
returns-clause-answered g c =
    let words = map string_bytes c.args.words.now in
    let new = c.carry_out-status.new.hosts in
    let told = c.carry_out-status.ensures.answered in
    let output = g.O.Write.contents c.carry_out-status.new.out in
    let error = g.E.Write.contents c.carry_out-status.new.err in (
      told.0,
      new.told,
      output,
      error,
      c.carry_out-status.result,
      elim c.carry_out-status.ensures.unopened [
        | inl kept ↦ inl (subst (λ t. t.told ≡ Nothing) (sym kept) refl)
        | inr opens ↦ inr opens
      ],
      elim told.1 [
        | inl answers ↦ inl (subst (λ h. IsAnswerOf (telling new.told (foretold c.args.failing.items) (around g.S.Hosts c.args.hosts.now h)) (named_in words) (asked_of words) told.0) {x = new.dry.hosts.now} (search rules)
            (subst (λ (fs : List AssumedFailure). IsAnswerOf (telling new.told (foretold fs) (around g.S.Hosts c.args.hosts.now new.dry.hosts.now)) (named_in words) (asked_of words) told.0) c.in-Ok.ensures answers))
        | inr wants ↦ inr (
          wants.0,
          subst (λ h. h ≡ c.args.hosts.now) {x = new.dry.hosts.now} (search rules) (subst (λ t. t.dry.hosts.now ≡ c.args.hosts.now) (sym wants.1) refl),
          subst (λ t. t.told ≡ Nothing) (sym wants.1) refl,
        )
      ],
      given_behind told.0 (g.O.Write.contents c.args.out.now) (g.O.Write.contents c.write_whole.new.writer) output
          (g.E.Write.contents c.args.err.now) error c.carry_out-status.result _ c.if-not-write_whole.ensures.written told.2,
      c.give_behind.ensures.behind,
    )

pub returns-clause-unopened : goal.returns-clause-unopened
returns-clause-unopened g c =
    let new = c.carry_out-status.new.hosts in
    elim c.carry_out-status.ensures.unopened [
      | inl kept ↦ inl (subst (λ h. h ≡ c.args.hosts.now) {x = new.dry.hosts.now} (search rules) (subst (λ t. t.dry.hosts.now ≡ c.args.hosts.now) (sym kept) refl))
      | inr opens ↦ inr opens
    ]
