use Rattle.std.proofs.Common.{arith}
use Rattle.trigger_turns.proofs.Turned.{changes_short, ends_open, told_once}
use Rattle.trigger_turns.proofs.Abandoned.{ends_abandoned}
use Rattle.trigger_turns.proofs.asking.note_changes.Goals as goal

pub add_units-requires : goal.add_units-requires
add_units-requires g c =
    let short = changes_short _ _ _ _ _ _ (c.change-report.ensures.part c.requires.open) in
    let room = c.requires.room in
    omega (arith, short, room)

pub returns-clause-changed : goal.returns-clause-changed
returns-clause-changed g c =
    let is_open = c.requires.open in
    let run = c.change-report.ensures in (
      c.change-report.result,
      record {
        part = run.part is_open;
        whole = λ none. run.whole is_open none;
        counts = run.counts is_open;
        told = run.told;
        any_moment = run.any_moment is_open;
      },
      c.add_units.ensures.items,
      c.add_units.ensures.ends,
    )

pub returns-clause-open : goal.returns-clause-open
returns-clause-open g c = ends_open c.add_units.result c.change-report.result.last _ c.add_units.ensures.ends c.change-report.ensures.closes

pub returns-clause-watched : goal.returns-clause-watched
returns-clause-watched g c = told_once _ _ _ c.change-report.result.units.items _ _ c.add_units.ensures.items (g.H.Host.state c.args.session.now.host, c.change-report.ensures.watched)

pub returns-clause-abandoned : goal.returns-clause-abandoned
returns-clause-abandoned g c = ends_abandoned _ c.add_units.result c.change-report.result.last c.add_units.ensures.ends (c.change-report.ensures.abandoned c.requires.open)
