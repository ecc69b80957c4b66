use Rattle.std.proofs.Common.{◌≡◌, ◌∙◌, inl, inr, subst}
use Rattle.unit_reports.specs.Held.{Held, held_by}
use Rattle.trigger_turns.specs.Turns.{HasChanged}
use Rattle.command_line.specs.Triggering.{changes_of}
use Rattle.trigger_turns.proofs.Steps.{looks_as}
use Rattle.command_line.proofs.Behind.{told_none}
use Rattle.command_line.proofs.triggering.note.Goals as goal

pub returns-in-Ok-clause-noted : goal.returns-in-Ok-clause-noted
returns-in-Ok-clause-noted g c = λ touches is.
    let session = c.args.session.now in
    let looked = g.H.Host.state c.pending.new.session.host in
    let end = g.H.Host.state c.change.new.self.host in
    let after = held_by c.change.new.self.administration c.change.new.self.diversions in
    let is_open = c.in-Ok.ensures.open in
    inl (record {
      changes = c.in-Ok.changes.items;
      looked = looked;
      looks = looks_as (λ v. v.items) c.in-Ok.changes (λ found w. found ≡ changes_of w (held_by session.administration session.diversions) c.args.by_files c.args.known.now touches) (g.H.Host.state session.host) looked (c.in-Ok.ensures.looks touches is);
      changed = subst (λ (h : Held). HasChanged c.in-Ok.changes.items c.change.result h after looked end) c.in-Ok.ensures.held record {
        part = c.change.ensures.part is_open;
        whole = λ none. c.change.ensures.whole is_open none;
        counts = c.change.ensures.counts is_open;
        told = c.change.ensures.told;
        any_moment = c.change.ensures.any_moment is_open;
      };
    })

pub returns-in-Ok-clause-open : goal.returns-in-Ok-clause-open
returns-in-Ok-clause-open g c = λ none. c.change.ensures.closes ∙ none

pub returns-in-Ok-clause-watched : goal.returns-in-Ok-clause-watched
returns-in-Ok-clause-watched g c = (g.H.Host.state c.pending.new.session.host, c.change.ensures.watched)

pub returns-in-Err-clause-noted : goal.returns-in-Err-clause-noted
returns-in-Err-clause-noted g c = λ touches is.
    let looks = c.in-Err.ensures.looks touches is in
    inr (record {
      fault = c.in-Err.fault;
      reads = looks.reads;
      silent = looks.silent;
      counts = looks.counts;
      broken = c.unnoted.ensures;
      held = c.in-Err.ensures.held;
    })

pub returns-in-Err-clause-open : goal.returns-in-Err-clause-open
returns-in-Err-clause-open g c = λ none. c.in-Err.ensures.open

pub returns-in-Err-clause-watched : goal.returns-in-Err-clause-watched
returns-in-Err-clause-watched g c = told_none _ (g.H.Host.state c.args.session.now.host) _ _ c.unnoted.ensures.units
