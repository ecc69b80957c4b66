use Rattle.std.proofs.Common.{[], ◌<◌, List, length, ◌⊎◌, inl, inr, subst, sym, ◌∙◌}
use Rattle.configure_engine.specs.Units.{IsWaiting}
use Rattle.dependency_sets.proofs.StrikingLaws.{in_range}
use Rattle.host_core.proofs.Moments.{since_weaker}
use Rattle.relation_index.specs.declared.package.Package.{Package}
use Rattle.unit_reports.specs.Held.{held_by}
use Rattle.unit_reports.specs.Units.{IsBroken}
use Rattle.configure_run.specs.Taking.{IsAmidTurnOf}
use Rattle.configure_run.specs.Turns.{IsAmidUnit, IsUnit, is_done}
use Rattle.configure_run.proofs.LeftLaws.{numbered_by}
use Rattle.configure_run.proofs.Replies.{broken_by, is_broken_off, is_whole, not_broken}
use Rattle.configure_run.proofs.Told.{called_for_tells, tells_silent}
use Rattle.configure_run.proofs.Moments.{silent_here}
use Rattle.configure_run.proofs.Units.{no_calls, numbered_name, waiting_behind}
use Rattle.configure_run.proofs.turn.take_turn.Goals as goal
use Rattle.unit_reports.proofs.Counting.{counts_whole, not_abandoned, not_closed}
use Rattle.unit_runs.proofs.Barred.{barred_abandoned, barred_counts, barred_not_closed}

pub bounds-as_slice-number : goal.bounds-as_slice-number
bounds-as_slice-number g c = (subst (λ (l : List Package). c.args.number < length l) (sym (c.as_slice.ensures.list ∙ c.packages-packages.ensures)) (subst (λ n. c.args.number < n) c.law.ensures.even.waiting (in_range c.args.queue.now.waiting c.args.number c.requires.waits)))

pub unit_of-unit-requires-clause-waits : goal.unit_of-unit-requires-clause-waits
unit_of-unit-requires-clause-waits g c = subst (IsWaiting c.args.administration.now.database.records) (numbered_name c.args.queue.now.packages c.args.number c.index-as_slice-number.result (numbered_by c.args.queue.now.packages c.as_slice.result.now c.args.number c.index-as_slice-number.result (c.as_slice.ensures.list ∙ c.packages-packages.ensures) (subst (λ (l : List Package). c.args.number < length l) (sym (c.as_slice.ensures.list ∙ c.packages-packages.ensures)) (subst (λ n. c.args.number < n) c.law.ensures.even.waiting (in_range c.args.queue.now.waiting c.args.number c.requires.waits))) c.index-as_slice-number.is)) (c.requires.wait c.args.number c.requires.waits)

pub returns-in-Some-clause-broken_off : goal.returns-in-Some-clause-broken_off
returns-in-Some-clause-broken_off g c = record { broken = broken_by _ c.barred_unit.result.reply c.barred_unit.ensures.reply; untouched = c.barred_unit.ensures.touched; called = inl (no_calls c.barred_unit.result (g.H.Host.state c.args.host.now) c.barred_unit.ensures.told) }

pub returns-in-Some-clause-told_broken : goal.returns-in-Some-clause-told_broken
returns-in-Some-clause-told_broken g c = tells_silent (g.H.Host.state c.args.host.now) (g.H.Host.state c.args.host.now) [] c.barred_unit.result.calls.items (silent_here (g.H.Host.state c.args.host.now)) c.barred_unit.ensures.told

pub returns-in-Some-clause-counts : goal.returns-in-Some-clause-counts
returns-in-Some-clause-counts g c = barred_counts c.in-Some.bar c.barred_unit.result.reply (g.H.Host.state c.args.host.now) c.barred_unit.ensures.reply

pub returns-in-Some-clause-not_closed : goal.returns-in-Some-clause-not_closed
returns-in-Some-clause-not_closed g c = barred_not_closed c.in-Some.bar c.barred_unit.result.reply c.barred_unit.ensures.reply

pub returns-in-Some-clause-abandoned : goal.returns-in-Some-clause-abandoned
returns-in-Some-clause-abandoned g c = barred_abandoned c.in-Some.bar c.args.barred c.barred_unit.result.reply c.in-Some.is c.barred_unit.ensures.reply

pub returns-then-is_broken-clause-not_closed : goal.returns-then-is_broken-clause-not_closed
returns-then-is_broken-clause-not_closed g c = not_closed c.unit_of-unit.result.reply c.unit_of-unit.ensures.not_closed

pub returns-then-is_broken-clause-abandoned : goal.returns-then-is_broken-clause-abandoned
returns-then-is_broken-clause-abandoned g c told = absurd (not_abandoned c.unit_of-unit.result.reply c.unit_of-unit.ensures.not_closed told)

pub returns-then-is_broken-clause-broken_off : goal.returns-then-is_broken-clause-broken_off
returns-then-is_broken-clause-broken_off g c = record { broken = (is_broken_off c.unit_of-unit.result.reply c.is_broken.result c.if-is_broken.true c.is_broken.ensures); untouched = c.unit_of-unit.ensures.untouched (is_broken_off c.unit_of-unit.result.reply c.is_broken.result c.if-is_broken.true c.is_broken.ensures); called = inr (c.index-as_slice-number.result, (numbered_by c.args.queue.now.packages c.as_slice.result.now c.args.number c.index-as_slice-number.result (c.as_slice.ensures.list ∙ c.packages-packages.ensures) (subst (λ (l : List Package). c.args.number < length l) (sym (c.as_slice.ensures.list ∙ c.packages-packages.ensures)) (subst (λ n. c.args.number < n) c.law.ensures.even.waiting (in_range c.args.queue.now.waiting c.args.number c.requires.waits))) c.index-as_slice-number.is), c.unit_of-unit.ensures.told) }

pub returns-then-is_broken-clause-told_broken : goal.returns-then-is_broken-clause-told_broken
returns-then-is_broken-clause-told_broken g c = called_for_tells c.args.policy c.index-as_slice-number.result.name (held_by c.args.administration.now c.args.diversions.now) c.unit_of-unit.result (g.H.Host.state c.args.host.now) (g.H.Host.state c.unit_of-unit.new.host) c.unit_of-unit.ensures.told

pub returns-then-is_broken-clause-any_moment : goal.returns-then-is_broken-clause-any_moment
returns-then-is_broken-clause-any_moment g c = since_weaker (IsAmidUnit c.args.policy c.index-as_slice-number.result.name (held_by c.args.administration.now c.args.diversions.now) (g.H.Host.state c.args.host.now).world) (IsAmidTurnOf c.args.policy c.args.queue.now c.args.number (held_by c.args.administration.now c.args.diversions.now) (g.H.Host.state c.args.host.now).world) (g.H.Host.state c.args.host.now) (g.H.Host.state c.unit_of-unit.new.host) (λ x w amid. inr (c.index-as_slice-number.result, (numbered_by c.args.queue.now.packages c.as_slice.result.now c.args.number c.index-as_slice-number.result (c.as_slice.ensures.list ∙ c.packages-packages.ensures) (subst (λ (l : List Package). c.args.number < length l) (sym (c.as_slice.ensures.list ∙ c.packages-packages.ensures)) (subst (λ n. c.args.number < n) c.law.ensures.even.waiting (in_range c.args.queue.now.waiting c.args.number c.requires.waits))) c.index-as_slice-number.is), amid)) c.unit_of-unit.ensures.any_moment

pub returns-clause-ok : goal.returns-clause-ok
returns-clause-ok g c = record {
  p = c.index-as_slice-number.result;
  numbered = (numbered_by c.args.queue.now.packages c.as_slice.result.now c.args.number c.index-as_slice-number.result (c.as_slice.ensures.list ∙ c.packages-packages.ensures) (subst (λ (l : List Package). c.args.number < length l) (sym (c.as_slice.ensures.list ∙ c.packages-packages.ensures)) (subst (λ n. c.args.number < n) c.law.ensures.even.waiting (in_range c.args.queue.now.waiting c.args.number c.requires.waits))) c.index-as_slice-number.is);
  is = (not_broken c.unit_of-unit.result.reply c.is_broken.result c.if-is_broken.false c.is_broken.ensures (subst (λ (ps : List Package). IsBroken c.unit_of-unit.result.reply ⊎ IsUnit c.args.policy ps c.index-as_slice-number.result (held_by c.args.administration.now c.args.diversions.now) (held_by c.unit_of-unit.new.administration c.args.diversions.now) c.unit_of-unit.result (g.H.Host.state c.args.host.now) (g.H.Host.state c.unit_of-unit.new.host)) c.packages-packages.ensures c.unit_of-unit.ensures.unit));
  moments = c.unit_of-unit.ensures.any_moment;
  answered = not_broken c.unit_of-unit.result.reply c.is_broken.result c.if-is_broken.false c.is_broken.ensures c.unit_of-unit.ensures.answered;
}

pub returns-clause-wait : goal.returns-clause-wait
returns-clause-wait g c = waiting_behind c.args.policy c.args.queue.now c.args.number c.index-as_slice-number.result (is_done c.unit_of-unit.result.reply) (held_by c.args.administration.now c.args.diversions.now) (held_by c.unit_of-unit.new.administration c.args.diversions.now) c.unit_of-unit.result (g.H.Host.state c.args.host.now) (g.H.Host.state c.unit_of-unit.new.host) c.law.ensures.even c.law.ensures.apart (numbered_by c.args.queue.now.packages c.as_slice.result.now c.args.number c.index-as_slice-number.result (c.as_slice.ensures.list ∙ c.packages-packages.ensures) (subst (λ (l : List Package). c.args.number < length l) (sym (c.as_slice.ensures.list ∙ c.packages-packages.ensures)) (subst (λ n. c.args.number < n) c.law.ensures.even.waiting (in_range c.args.queue.now.waiting c.args.number c.requires.waits))) c.index-as_slice-number.is) c.requires.wait (not_broken c.unit_of-unit.result.reply c.is_broken.result c.if-is_broken.false c.is_broken.ensures (subst (λ (ps : List Package). IsBroken c.unit_of-unit.result.reply ⊎ IsUnit c.args.policy ps c.index-as_slice-number.result (held_by c.args.administration.now c.args.diversions.now) (held_by c.unit_of-unit.new.administration c.args.diversions.now) c.unit_of-unit.result (g.H.Host.state c.args.host.now) (g.H.Host.state c.unit_of-unit.new.host)) c.packages-packages.ensures c.unit_of-unit.ensures.unit))

pub returns-clause-order : goal.returns-clause-order
returns-clause-order g c = not_broken c.unit_of-unit.result.reply c.is_broken.result c.if-is_broken.false c.is_broken.ensures c.unit_of-unit.ensures.order

pub returns-clause-open : goal.returns-clause-open
returns-clause-open g c = not_broken c.unit_of-unit.result.reply c.is_broken.result c.if-is_broken.false c.is_broken.ensures c.unit_of-unit.ensures.open

pub returns-clause-told : goal.returns-clause-told
returns-clause-told g c = called_for_tells c.args.policy c.index-as_slice-number.result.name (held_by c.args.administration.now c.args.diversions.now) c.unit_of-unit.result (g.H.Host.state c.args.host.now) (g.H.Host.state c.unit_of-unit.new.host) c.unit_of-unit.ensures.told

pub returns-clause-any_moment : goal.returns-clause-any_moment
returns-clause-any_moment g c = since_weaker (IsAmidUnit c.args.policy c.index-as_slice-number.result.name (held_by c.args.administration.now c.args.diversions.now) (g.H.Host.state c.args.host.now).world) (IsAmidTurnOf c.args.policy c.args.queue.now c.args.number (held_by c.args.administration.now c.args.diversions.now) (g.H.Host.state c.args.host.now).world) (g.H.Host.state c.args.host.now) (g.H.Host.state c.unit_of-unit.new.host) (λ x w amid. inr (c.index-as_slice-number.result, (numbered_by c.args.queue.now.packages c.as_slice.result.now c.args.number c.index-as_slice-number.result (c.as_slice.ensures.list ∙ c.packages-packages.ensures) (subst (λ (l : List Package). c.args.number < length l) (sym (c.as_slice.ensures.list ∙ c.packages-packages.ensures)) (subst (λ n. c.args.number < n) c.law.ensures.even.waiting (in_range c.args.queue.now.waiting c.args.number c.requires.waits))) c.index-as_slice-number.is), amid)) c.unit_of-unit.ensures.any_moment

pub returns-clause-no_fault : goal.returns-clause-no_fault
returns-clause-no_fault g c = counts_whole c.unit_of-unit.result.reply (g.H.Host.state c.args.host.now) (g.H.Host.state c.unit_of-unit.new.host) (is_whole c.unit_of-unit.result.reply c.is_broken.result c.if-is_broken.false c.is_broken.ensures) c.unit_of-unit.ensures.counts
