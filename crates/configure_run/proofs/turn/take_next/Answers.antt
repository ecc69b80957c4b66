use Rattle.std.proofs.Common.{[], ℕ, Option, inl, refl, subst, sym}
use Rattle.std.specs.Prelude.{IfSome, IsTrue, MatchOption}
use Rattle.dependency_sets.specs.Sets.{has}
use Rattle.host_core.proofs.Moments.{since_start, since_weaker}
use Rattle.unit_reports.specs.Held.{held_by}
use Rattle.unit_runs.proofs.Barred.{not_taken}
use Rattle.unit_runs.proofs.Going.{still_here}
use Rattle.unit_runs.specs.Turns as runs
use Rattle.configure_run.specs.Starting.{AreWaiting}
use Rattle.configure_run.specs.Taking.{IsAmidTurnOf}
use Rattle.configure_run.specs.Turns.{IsAmidTurn, IsTurn, after_turn}
use Rattle.configure_run.specs.Whose.{IsNobodysTurn, IsWhoseTurn}
use Rattle.configure_run.proofs.Moments.{silent_here}
use Rattle.configure_run.proofs.Replies.{broken_by}
use Rattle.configure_run.proofs.Taking.{amid_next, broken_at, lhs, takes_one}
use Rattle.configure_run.proofs.Told.{tells_silent}
use Rattle.configure_run.proofs.Units.{no_calls}
use Rattle.configure_run.proofs.turn.take_next.Goals as goal
use Rattle.host_core.proofs.Barriers.{answered_here}
use Rattle.unit_reports.proofs.Counting.{counts_no_memory, no_memory_not_abandoned, no_memory_not_closed, no_fault_here}

pub take_turn-requires-clause-waits : goal.take_turn-requires-clause-waits
take_turn-requires-clause-waits g c = subst (λ n. IsTrue (has c.args.queue.now.waiting n)) (sym c.in-Ok-Some.number-is) (subst (λ (o : Option ℕ). IfSome o (λ n. IsTrue (has c.args.queue.now.waiting n))) c.in-Ok-Some.field-0-is c.in-Ok-Some.ensures.waits)

pub returns-in-Ok-clause-taken : goal.returns-in-Ok-clause-taken
returns-in-Ok-clause-taken g c =
    subst (λ b. IsTurn c.args.options (has c.args.silent.now) c.args.queue.now (held_by c.args.administration.now c.args.diversions.now) c.in-Ok.unit (after_turn b (lhs c.in-Ok-Some.number-is) c.args.queue.now) (held_by c.take_turn.new.administration c.args.diversions.now) (g.H.Host.state c.args.host.now) (g.H.Host.state c.take_turn.new.host)) (sym c.is_done.ensures)
    (takes_one c.args.options (has c.args.silent.now) c.args.queue.now (lhs c.in-Ok-Some.number-is) (held_by c.args.administration.now c.args.diversions.now) (held_by c.take_turn.new.administration c.args.diversions.now) (g.H.Host.state c.args.host.now) (g.H.Host.state c.take_turn.new.host) c.in-Ok.unit
    (subst (λ n. IsWhoseTurn c.args.options.ignore_depends (has c.args.silent.now) c.args.queue.now n) (sym c.in-Ok-Some.number-is) (subst (λ (o : Option ℕ). MatchOption o (IsNobodysTurn c.args.options.ignore_depends (has c.args.silent.now) c.args.queue.now) (IsWhoseTurn c.args.options.ignore_depends (has c.args.silent.now) c.args.queue.now)) c.in-Ok-Some.field-0-is c.in-Ok-Some.ensures.next)) c.in-Ok.ensures.ok)

pub returns-in-Ok-clause-waits : goal.returns-in-Ok-clause-waits
returns-in-Ok-clause-waits g c = subst (λ n. IsTrue (has c.args.queue.now.waiting n)) (sym c.in-Ok-Some.number-is) (subst (λ (o : Option ℕ). IfSome o (λ n. IsTrue (has c.args.queue.now.waiting n))) c.in-Ok-Some.field-0-is c.in-Ok-Some.ensures.waits)

pub returns-in-Ok-clause-found : goal.returns-in-Ok-clause-found
returns-in-Ok-clause-found g c = (((lhs c.in-Ok-Some.number-is), c.is_done.result), refl, subst (λ n. IsTrue (has c.args.queue.now.waiting n)) (sym c.in-Ok-Some.number-is) (subst (λ (o : Option ℕ). IfSome o (λ n. IsTrue (has c.args.queue.now.waiting n))) c.in-Ok-Some.field-0-is c.in-Ok-Some.ensures.waits))

pub returns-in-Ok-clause-barred : goal.returns-in-Ok-clause-barred
returns-in-Ok-clause-barred g c = not_taken c.args.barred c.in-Ok.ensures.barred

pub returns-in-Ok-clause-wait : goal.returns-in-Ok-clause-wait
returns-in-Ok-clause-wait g c = subst (λ b. AreWaiting (after_turn b (lhs c.in-Ok-Some.number-is) c.args.queue.now) c.take_turn.new.administration.database.records) (sym c.is_done.ensures) c.in-Ok.ensures.wait

pub returns-in-Ok-clause-answered : goal.returns-in-Ok-clause-answered
returns-in-Ok-clause-answered g c = c.in-Ok.ensures.ok.answered

pub returns-in-Ok-clause-told : goal.returns-in-Ok-clause-told
returns-in-Ok-clause-told g c = c.in-Ok.ensures.told

pub returns-in-Ok-clause-any_moment : goal.returns-in-Ok-clause-any_moment
returns-in-Ok-clause-any_moment g c = since_weaker (IsAmidTurnOf c.args.options.policy c.args.queue.now (lhs c.in-Ok-Some.number-is) (held_by c.args.administration.now c.args.diversions.now) (g.H.Host.state c.args.host.now).world) (runs.IsAmidNext (λ left later. IsAmidTurn c.args.options (has c.args.silent.now) left) c.args.queue.now c.args.queue.now (held_by c.args.administration.now c.args.diversions.now) (g.H.Host.state c.args.host.now).world) (g.H.Host.state c.args.host.now) (g.H.Host.state c.take_turn.new.host) (λ x w amid. amid_next c.args.options (has c.args.silent.now) c.args.queue.now (lhs c.in-Ok-Some.number-is) c.args.queue.now (held_by c.args.administration.now c.args.diversions.now) (g.H.Host.state c.args.host.now).world x w (subst (λ n. IsWhoseTurn c.args.options.ignore_depends (has c.args.silent.now) c.args.queue.now n) (sym c.in-Ok-Some.number-is) (subst (λ (o : Option ℕ). MatchOption o (IsNobodysTurn c.args.options.ignore_depends (has c.args.silent.now) c.args.queue.now) (IsWhoseTurn c.args.options.ignore_depends (has c.args.silent.now) c.args.queue.now)) c.in-Ok-Some.field-0-is c.in-Ok-Some.ensures.next)) amid) c.take_turn.ensures.any_moment

pub returns-in-Err-take_turn-clause-taken : goal.returns-in-Err-take_turn-clause-taken
returns-in-Err-take_turn-clause-taken g c = broken_at c.args.options (has c.args.silent.now) c.args.queue.now (lhs c.in-Ok-Some.number-is) _ (held_by c.args.administration.now c.args.diversions.now) (g.H.Host.state c.args.host.now) (g.H.Host.state c.take_turn.new.host) c.in-Err-take_turn.unit (subst (λ n. IsWhoseTurn c.args.options.ignore_depends (has c.args.silent.now) c.args.queue.now n) (sym c.in-Ok-Some.number-is) (subst (λ (o : Option ℕ). MatchOption o (IsNobodysTurn c.args.options.ignore_depends (has c.args.silent.now) c.args.queue.now) (IsWhoseTurn c.args.options.ignore_depends (has c.args.silent.now) c.args.queue.now)) c.in-Ok-Some.field-0-is c.in-Ok-Some.ensures.next)) c.in-Err-take_turn.ensures.broken_off

pub returns-in-Err-take_turn-clause-told : goal.returns-in-Err-take_turn-clause-told
returns-in-Err-take_turn-clause-told g c = c.in-Err-take_turn.ensures.told_broken

pub returns-in-Err-take_turn-clause-any_moment : goal.returns-in-Err-take_turn-clause-any_moment
returns-in-Err-take_turn-clause-any_moment g c = since_weaker (IsAmidTurnOf c.args.options.policy c.args.queue.now (lhs c.in-Ok-Some.number-is) (held_by c.args.administration.now c.args.diversions.now) (g.H.Host.state c.args.host.now).world) (runs.IsAmidNext (λ left later. IsAmidTurn c.args.options (has c.args.silent.now) left) c.args.queue.now c.args.queue.now (held_by c.args.administration.now c.args.diversions.now) (g.H.Host.state c.args.host.now).world) (g.H.Host.state c.args.host.now) (g.H.Host.state c.take_turn.new.host) (λ x w amid. amid_next c.args.options (has c.args.silent.now) c.args.queue.now (lhs c.in-Ok-Some.number-is) c.args.queue.now (held_by c.args.administration.now c.args.diversions.now) (g.H.Host.state c.args.host.now).world x w (subst (λ n. IsWhoseTurn c.args.options.ignore_depends (has c.args.silent.now) c.args.queue.now n) (sym c.in-Ok-Some.number-is) (subst (λ (o : Option ℕ). MatchOption o (IsNobodysTurn c.args.options.ignore_depends (has c.args.silent.now) c.args.queue.now) (IsWhoseTurn c.args.options.ignore_depends (has c.args.silent.now) c.args.queue.now)) c.in-Ok-Some.field-0-is c.in-Ok-Some.ensures.next)) amid) c.take_turn.ensures.any_moment

pub returns-in-Ok-None-clause-taken : goal.returns-in-Ok-None-clause-taken
returns-in-Ok-None-clause-taken g c = record {
  ended = record {
    untaken = refl;
    next = subst (λ (o : Option ℕ). MatchOption o (IsNobodysTurn c.args.options.ignore_depends (has c.args.silent.now) c.args.queue.now) (IsWhoseTurn c.args.options.ignore_depends (has c.args.silent.now) c.args.queue.now)) c.in-Ok-None.field-0-is c.in-Ok-None.ensures.next;
    none_left = c.in-Ok-None.ensures.none_left c.in-Ok-None.field-0-is;
  };
  held = refl;
  here = refl;
}

pub returns-in-Ok-None-clause-answered : goal.returns-in-Ok-None-clause-answered
returns-in-Ok-None-clause-answered g c = answered_here (g.H.Host.state c.args.host.now)

pub returns-in-Ok-None-clause-told : goal.returns-in-Ok-None-clause-told
returns-in-Ok-None-clause-told g c = tells_silent (g.H.Host.state c.args.host.now) (g.H.Host.state c.args.host.now) [] [] (silent_here (g.H.Host.state c.args.host.now)) refl

pub returns-in-Ok-None-clause-any_moment : goal.returns-in-Ok-None-clause-any_moment
returns-in-Ok-None-clause-any_moment g c = since_start (runs.IsAmidNext (λ left later. IsAmidTurn c.args.options (has c.args.silent.now) left) c.args.queue.now c.args.queue.now (held_by c.args.administration.now c.args.diversions.now) (g.H.Host.state c.args.host.now).world) (g.H.Host.state c.args.host.now) (inl (still_here (g.H.Host.state c.args.host.now).world))

pub returns-in-Err-clause-taken : goal.returns-in-Err-clause-taken
returns-in-Err-clause-taken g c = record { broken = broken_by _ c.no_memory.result.reply c.no_memory.ensures.reply; untouched = c.no_memory.ensures.touched; called = inl (no_calls c.no_memory.result (g.H.Host.state c.args.host.now) c.no_memory.ensures.told) }

pub returns-in-Err-clause-told : goal.returns-in-Err-clause-told
returns-in-Err-clause-told g c = tells_silent (g.H.Host.state c.args.host.now) (g.H.Host.state c.args.host.now) [] c.no_memory.result.calls.items (silent_here (g.H.Host.state c.args.host.now)) c.no_memory.ensures.told

pub returns-in-Err-clause-any_moment : goal.returns-in-Err-clause-any_moment
returns-in-Err-clause-any_moment g c = since_start (runs.IsAmidNext (λ left later. IsAmidTurn c.args.options (has c.args.silent.now) left) c.args.queue.now c.args.queue.now (held_by c.args.administration.now c.args.diversions.now) (g.H.Host.state c.args.host.now).world) (g.H.Host.state c.args.host.now) (inl (still_here (g.H.Host.state c.args.host.now).world))

pub returns-in-Err-clause-counts : goal.returns-in-Err-clause-counts
returns-in-Err-clause-counts g c = counts_no_memory c.no_memory.result.reply (g.H.Host.state c.args.host.now) (g.H.Host.state c.args.host.now) (no_fault_here (g.H.Host.state c.args.host.now)) c.no_memory.ensures.reply

pub returns-in-Err-clause-not_closed : goal.returns-in-Err-clause-not_closed
returns-in-Err-clause-not_closed g c = no_memory_not_closed c.no_memory.result.reply c.no_memory.ensures.reply

pub returns-in-Err-clause-abandoned : goal.returns-in-Err-clause-abandoned
returns-in-Err-clause-abandoned g c told = absurd (no_memory_not_abandoned c.no_memory.result.reply c.no_memory.ensures.reply told)
