use Rattle.std.proofs.Common.{arith}
use Rattle.trigger_turns.proofs.Turned.{ends_open, names_short, told_once}
use Rattle.trigger_turns.proofs.Abandoned.{ends_abandoned}
use Rattle.trigger_turns.proofs.turns.process_named.Goals as goal

pub add_units-requires : goal.add_units-requires
add_units-requires g c =
    let short = names_short _ _ _ _ _ _ c.requires.one (c.process_triggers-report.ensures.part c.requires.open) in
    let room = c.requires.room in
    omega (arith, short, room)

pub returns-clause-processed : goal.returns-clause-processed
returns-clause-processed g c =
    let is_open = c.requires.open in
    let run = c.process_triggers-report.ensures in (
      c.process_triggers-report.result,
      record {
        part = run.part is_open;
        whole = λ none. run.whole is_open none;
        counts = run.counts is_open;
        told = run.told;
        any_moment = run.any_moment is_open;
      },
      c.add_units.ensures.items,
      c.add_units.ensures.ends,
    )

pub returns-clause-open : goal.returns-clause-open
returns-clause-open g c = ends_open c.add_units.result c.process_triggers-report.result.last _ c.add_units.ensures.ends c.process_triggers-report.ensures.closes

pub returns-clause-watched : goal.returns-clause-watched
returns-clause-watched g c = told_once _ _ _ c.process_triggers-report.result.units.items _ _ c.add_units.ensures.items (g.H.Host.state c.args.session.now.host, c.process_triggers-report.ensures.watched)

pub returns-clause-abandoned : goal.returns-clause-abandoned
returns-clause-abandoned g c = ends_abandoned _ c.add_units.result c.process_triggers-report.result.last c.add_units.ensures.ends (c.process_triggers-report.ensures.abandoned c.requires.open)
