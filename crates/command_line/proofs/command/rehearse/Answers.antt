use Rattle.std.proofs.Common.{rules, ◌≡◌, List, [], map, string_bytes, inl, inr, refl, subst, sym}
use Rattle.command_words.specs.Commands.{asked_of}
use Rattle.command_words.specs.Topics.{named_in}
use Rattle.host_overlay.specs.Failing.{foretold}
use Rattle.host_overlay.specs.declared.failing.AssumedFailure.{AssumedFailure}
use Rattle.command_line.specs.Dry.{dry}
use Rattle.command_line.specs.Reports.{IsAnswerOf, memory_answer}
use Rattle.command_line.specs.Roots.{around}
use Rattle.command_line.proofs.Held.{appends_nothing}
use Rattle.command_line.proofs.Rehearsed.{given_behind, line_cut}
use Rattle.command_line.proofs.command.rehearse.Goals as goal

pub returns-then-not-write_whole-clause-answered : goal.returns-then-not-write_whole-clause-answered
returns-then-not-write_whole-clause-answered g c =
    (memory_answer, inr (refl, refl), inl (line_cut _ _ (g.E.Write.contents c.args.err.now) 2 c.if-not-write_whole.ensures.written refl))

pub returns-in_default-clause-answered : goal.returns-in_default-clause-answered
returns-in_default-clause-answered g c =
    let held = g.O.Write.contents c.write_whole.new.writer in (
      memory_answer,
      inr (refl, refl),
      given_behind memory_answer (g.O.Write.contents c.args.out.now) held held (g.E.Write.contents c.args.err.now) (g.E.Write.contents c.give_want_of_memory.new.err) c.give_want_of_memory.result _ c.if-not-write_whole.ensures.written
          (inl (c.give_want_of_memory.ensures.given [] held held (appends_nothing held))),
    )

pub returns-clause-answered : goal.returns-clause-answered
returns-clause-answered g c =
    let words = map string_bytes c.args.words.now in
    let new = c.carry_out.new.hosts in
    let told = c.carry_out.ensures.answered in (
      told.0,
      elim told.1 [
        | inl answers ↦ inl (subst (λ h. IsAnswerOf (dry (foretold c.args.failing.items) (around g.S.Hosts c.args.hosts.now h)) (named_in words) (asked_of words) told.0) {x = new.hosts.now} (search rules)
            (subst (λ (fs : List AssumedFailure). IsAnswerOf (dry (foretold fs) (around g.S.Hosts c.args.hosts.now new.hosts.now)) (named_in words) (asked_of words) told.0) c.in-Ok.ensures answers))
        | inr wants ↦ inr (wants.0, subst (λ h. h ≡ c.args.hosts.now) {x = new.hosts.now} (search rules) (subst (λ d. d.hosts.now ≡ c.args.hosts.now) (sym wants.1) refl))
      ],
      given_behind told.0 (g.O.Write.contents c.args.out.now) (g.O.Write.contents c.write_whole.new.writer) (g.O.Write.contents c.carry_out.new.out)
          (g.E.Write.contents c.args.err.now) (g.E.Write.contents c.carry_out.new.err) c.carry_out.result _ c.if-not-write_whole.ensures.written told.2,
    )

pub returns-clause-unopened : goal.returns-clause-unopened
returns-clause-unopened g c =
    let new = c.carry_out.new.hosts in
    elim c.carry_out.ensures.unopened [
      | inl kept ↦ inl (subst (λ h. h ≡ c.args.hosts.now) {x = new.hosts.now} (search rules) (subst (λ d. d.hosts.now ≡ c.args.hosts.now) (sym kept) refl))
      | inr opens ↦ inr opens
    ]
