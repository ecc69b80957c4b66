use Rattle.std.proofs.Common.{◌≡◌, ◌∙◌, Bool, Global, Vec, false, subst}
use Rattle.trigger_journal.specs.Requests.{requests_of}
use Rattle.trigger_journal.specs.declared.requests.Request.{Request}
use Rattle.unit_reports.specs.Held.{Held, held_by}
use Rattle.command_line.specs.Triggering.{HasForeseen}
use Rattle.trigger_turns.proofs.Steps.{held_same, looks_as}
use Rattle.trigger_turns.proofs.Steps.{counts_then}
use Rattle.command_line.proofs.Begun.{counts_as, writes_ahead, writes_none, writes_then}
use Rattle.command_line.proofs.triggering.foresee.Goals as goal

pub returns-in-Ok-foresee_triggers-clause-foreseen : goal.returns-in-Ok-foresee_triggers-clause-foreseen
returns-in-Ok-foresee_triggers-clause-foreseen g c =
    let old = g.H.Host.state c.args.session.now.host in
    let read = g.H.Host.state c.requested_triggers.new.self.host in
    let begun = g.H.Host.state c.foresee_triggers.new.self.host in
    let still : c.requested_triggers.new.self.closed ≡ false = c.in-Ok.ensures.closes ∙ c.requires in
    subst (λ (h : Held). HasForeseen c.in-Ok.found.items h old begun) (held_same held_by _ _ _ _ c.in-Ok.ensures.held c.in-Ok.ensures.diversions) record {
      read = read;
      requested = looks_as (λ v. v.items) c.in-Ok.found (λ requests w. requests ≡ requests_of w) old read (c.in-Ok.ensures.looks c.requires);
      written = c.in-Ok-foresee_triggers.field-0;
      ahead = λ h. c.in-Ok-foresee_triggers.ensures.ahead still h;
      on_disk = c.in-Ok-foresee_triggers.ensures.on_disk still;
      any_moment = c.foresee_triggers.ensures.any_moment still;
      silent = c.foresee_triggers.ensures.silent still;
      no_fault = c.in-Ok-foresee_triggers.ensures.counts still;
    }

pub returns-in-Ok-foresee_triggers-clause-held : goal.returns-in-Ok-foresee_triggers-clause-held
returns-in-Ok-foresee_triggers-clause-held g c = held_same held_by _ _ _ _ (c.foresee_triggers.ensures.held ∙ c.in-Ok.ensures.held) (c.foresee_triggers.ensures.diversions ∙ c.in-Ok.ensures.diversions)

pub returns-in-Err-foresee_triggers-clause-unforeseen : goal.returns-in-Err-foresee_triggers-clause-unforeseen
returns-in-Err-foresee_triggers-clause-unforeseen g c =
    let still : c.requested_triggers.new.self.closed ≡ false = c.in-Ok.ensures.closes ∙ c.requires in
    let look = c.in-Ok.ensures.looks c.requires in (
      writes_then _ _ _ look.reads look.silent (writes_ahead c.requested_triggers.new.self.administration.database.records _ _ (c.foresee_triggers.ensures.any_moment still) (c.foresee_triggers.ensures.silent still)),
      counts_then _ _ _ c.in-Err-foresee_triggers.fault look.counts (counts_as Bool _ _ c.in-Err-foresee_triggers.fault (c.in-Err-foresee_triggers.ensures.counts still)),
    )

pub returns-in-Err-foresee_triggers-clause-held : goal.returns-in-Err-foresee_triggers-clause-held
returns-in-Err-foresee_triggers-clause-held g c = held_same held_by _ _ _ _ (c.foresee_triggers.ensures.held ∙ c.in-Ok.ensures.held) (c.foresee_triggers.ensures.diversions ∙ c.in-Ok.ensures.diversions)

pub returns-in-Err-clause-unforeseen : goal.returns-in-Err-clause-unforeseen
returns-in-Err-clause-unforeseen g c =
    let look = c.in-Err.ensures.looks c.requires in
    (writes_none _ _ look.reads look.silent, counts_as (Vec Request Global) _ _ c.in-Err.fault look.counts)

pub returns-in-Err-clause-held : goal.returns-in-Err-clause-held
returns-in-Err-clause-held g c = held_same held_by _ _ _ _ c.in-Err.ensures.held c.in-Err.ensures.diversions
