use Rattle.std.proofs.Common.{◌≡◌, ◌<◌, ℕ, Bool, List, None, length, ap, subst, sym, ◌∙◌}
use Rattle.host_core.specs.Host.{AtEachMomentOf}
use Rattle.unit_reports.specs.Held.{held_by}
use Rattle.unit_runs.proofs.Barred.{not_taken}
use Rattle.name_sets.specs.Names.{without}
use Rattle.removal_run.specs.Next.{IsNextIn}
use Rattle.removal_run.specs.Turns.{AreAccepted}
use Rattle.removal_run.specs.Refusals.{rule_for}
use Rattle.removal_run.specs.Units.{AreOthersKept, IsAmidRemoval, IsBrokenOff, RunsRemoval}
use Rattle.removal_run.proofs.Accepting.{accepted_next, struck_fewer}
use Rattle.removal_run.proofs.Calling.{removing_tells}
use Rattle.removal_run.proofs.Following.{is_next, lhs, next_among, next_is, whose_waits}
use Rattle.removal_run.proofs.Replies.{broken_by}
use Rattle.removal_run.proofs.Turning.{broken_here, broken_one, since_next, since_next_start}
use Rattle.removal_run.proofs.turns.take_next.Goals as goal
use Rattle.host_core.proofs.Barriers.{answered_here}

pub remove_one-requires-clause-accepted : goal.remove_one-requires-clause-accepted
remove_one-requires-clause-accepted g c =
    let q = c.args.queue.now in
    let n = lhs c.in-Ok-Some.next-is in
    let found = subst (IsNextIn c.args.options.ignore_depends q) (sym c.in-Ok-Some.next-is) (is_next c.args.options.ignore_depends q c.in-Ok-Some.field-0 c.in-Ok-Some.next c.in-Ok-Some.field-0-is c.in-Ok-Some.ensures) in
    subst (λ (b : Bool). rule_for b c.args.administration.now.database.records n.name ≡ None) (sym c.purges-purge.ensures)
    (c.requires.accepted n.name (next_among c.args.options.ignore_depends q.packages c.args.administration.now.database.records c.args.waiting.now.items q c.requires.queue n found))

pub returns-in-Ok-clause-taken : goal.returns-in-Ok-clause-taken
returns-in-Ok-clause-taken g c =
    let q = c.args.queue.now in
    let n = lhs c.in-Ok-Some.next-is in
    let found = subst (IsNextIn c.args.options.ignore_depends q) (sym c.in-Ok-Some.next-is) (is_next c.args.options.ignore_depends q c.in-Ok-Some.field-0 c.in-Ok-Some.next c.in-Ok-Some.field-0-is c.in-Ok-Some.ensures) in
    record {
      name = n.name;
      next = record { queue = q; is = c.requires.queue; number = n.number; next = found.next; named = found.named };
      is = subst (λ (b : Bool). RunsRemoval b n.name (held_by c.args.administration.now c.args.diversions.now) (held_by c.remove_one.new.administration c.args.diversions.now) c.in-Ok.unit (g.H.Host.state c.args.host.now) (g.H.Host.state c.remove_one.new.host)) c.purges-purge.ensures c.in-Ok.ensures.ok;
      others = c.in-Ok.ensures.others;
      left_is = c.strike.ensures;
    }

pub returns-in-Ok-clause-queue : goal.returns-in-Ok-clause-queue
returns-in-Ok-clause-queue g c =
    let q = c.args.queue.now in
    let n = lhs c.in-Ok-Some.next-is in
    let found = subst (IsNextIn c.args.options.ignore_depends q) (sym c.in-Ok-Some.next-is) (is_next c.args.options.ignore_depends q c.in-Ok-Some.field-0 c.in-Ok-Some.next c.in-Ok-Some.field-0-is c.in-Ok-Some.ensures) in
    let old = c.args.administration.now.database.records in
    record {
      before = old;
      waited = c.args.waiting.now.items;
      is = c.requires.queue;
      waits = whose_waits c.args.options.ignore_depends q n.number found.next;
      others = subst (λ (m : List ℕ). AreOthersKept m old c.remove_one.new.administration.database.records) found.named c.in-Ok.ensures.others;
      struck = c.strike.ensures ∙ ap (λ (m : List ℕ). without m c.args.waiting.now.items) found.named;
    }

pub returns-in-Ok-clause-accepted : goal.returns-in-Ok-clause-accepted
returns-in-Ok-clause-accepted g c =
    subst (λ (w : List (List ℕ)). AreAccepted c.args.options.extents c.remove_one.new.administration.database.records w) (sym c.strike.ensures)
    (accepted_next c.args.options.extents c.args.administration.now.database.records c.remove_one.new.administration.database.records c.args.waiting.now.items (lhs c.in-Ok-Some.next-is).name c.in-Ok.ensures.others c.requires.accepted)

pub returns-in-Ok-clause-fewer : goal.returns-in-Ok-clause-fewer
returns-in-Ok-clause-fewer g c =
    let q = c.args.queue.now in
    let n = lhs c.in-Ok-Some.next-is in
    let found = subst (IsNextIn c.args.options.ignore_depends q) (sym c.in-Ok-Some.next-is) (is_next c.args.options.ignore_depends q c.in-Ok-Some.field-0 c.in-Ok-Some.next c.in-Ok-Some.field-0-is c.in-Ok-Some.ensures) in
    subst (λ (w : List (List ℕ)). length w < length c.args.waiting.now.items) (sym c.strike.ensures)
    (struck_fewer n.name c.args.waiting.now.items (next_among c.args.options.ignore_depends q.packages c.args.administration.now.database.records c.args.waiting.now.items q c.requires.queue n found))

pub returns-in-Ok-clause-barred : goal.returns-in-Ok-clause-barred
returns-in-Ok-clause-barred g c = not_taken c.args.barred c.in-Ok.ensures.barred

pub returns-in-Ok-clause-order : goal.returns-in-Ok-clause-order
returns-in-Ok-clause-order g c = c.in-Ok.ensures.ok.is.order

pub returns-in-Ok-clause-answered : goal.returns-in-Ok-clause-answered
returns-in-Ok-clause-answered g c = c.in-Ok.ensures.ok.answered

pub returns-in-Ok-clause-told : goal.returns-in-Ok-clause-told
returns-in-Ok-clause-told g c = c.in-Ok.ensures.told

pub returns-in-Ok-clause-any_moment : goal.returns-in-Ok-clause-any_moment
returns-in-Ok-clause-any_moment g c =
    let q = c.args.queue.now in
    let n = lhs c.in-Ok-Some.next-is in
    let found = subst (IsNextIn c.args.options.ignore_depends q) (sym c.in-Ok-Some.next-is) (is_next c.args.options.ignore_depends q c.in-Ok-Some.field-0 c.in-Ok-Some.next c.in-Ok-Some.field-0-is c.in-Ok-Some.ensures) in
    since_next c.args.options q.packages c.args.waiting.now.items c.args.waiting.now.items (held_by c.args.administration.now c.args.diversions.now) n.name (g.H.Host.state c.args.host.now) (g.H.Host.state c.remove_one.new.host)
    (next_is c.args.options.ignore_depends q.packages c.args.administration.now.database.records c.args.waiting.now.items q c.requires.queue n found)
    (subst (λ (b : Bool). AtEachMomentOf (IsAmidRemoval b n.name (held_by c.args.administration.now c.args.diversions.now)) (g.H.Host.state c.args.host.now) (g.H.Host.state c.remove_one.new.host)) c.purges-purge.ensures c.remove_one.ensures.any_moment)

pub returns-in-Err-remove_one-clause-taken : goal.returns-in-Err-remove_one-clause-taken
returns-in-Err-remove_one-clause-taken g c =
    let q = c.args.queue.now in
    let n = lhs c.in-Ok-Some.next-is in
    let found = subst (IsNextIn c.args.options.ignore_depends q) (sym c.in-Ok-Some.next-is) (is_next c.args.options.ignore_depends q c.in-Ok-Some.field-0 c.in-Ok-Some.next c.in-Ok-Some.field-0-is c.in-Ok-Some.ensures) in
    broken_one c.args.options q.packages c.args.waiting.now.items _ (held_by c.args.administration.now c.args.diversions.now) n.name (g.H.Host.state c.args.host.now) (g.H.Host.state c.remove_one.new.host) c.in-Err-remove_one.unit
    (next_is c.args.options.ignore_depends q.packages c.args.administration.now.database.records c.args.waiting.now.items q c.requires.queue n found)
    (subst (λ (b : Bool). IsBrokenOff b n.name (held_by c.args.administration.now c.args.diversions.now) c.in-Err-remove_one.unit (g.H.Host.state c.args.host.now) (g.H.Host.state c.remove_one.new.host)) c.purges-purge.ensures c.in-Err-remove_one.ensures.broken_off)

pub returns-in-Err-remove_one-clause-told : goal.returns-in-Err-remove_one-clause-told
returns-in-Err-remove_one-clause-told g c = removing_tells _ _ _ (g.H.Host.state c.args.host.now) (g.H.Host.state c.remove_one.new.host) _ _ c.in-Err-remove_one.ensures.broken_off.called

pub returns-in-Err-remove_one-clause-any_moment : goal.returns-in-Err-remove_one-clause-any_moment
returns-in-Err-remove_one-clause-any_moment g c =
    let q = c.args.queue.now in
    let n = lhs c.in-Ok-Some.next-is in
    let found = subst (IsNextIn c.args.options.ignore_depends q) (sym c.in-Ok-Some.next-is) (is_next c.args.options.ignore_depends q c.in-Ok-Some.field-0 c.in-Ok-Some.next c.in-Ok-Some.field-0-is c.in-Ok-Some.ensures) in
    since_next c.args.options q.packages c.args.waiting.now.items c.args.waiting.now.items (held_by c.args.administration.now c.args.diversions.now) n.name (g.H.Host.state c.args.host.now) (g.H.Host.state c.remove_one.new.host)
    (next_is c.args.options.ignore_depends q.packages c.args.administration.now.database.records c.args.waiting.now.items q c.requires.queue n found)
    (subst (λ (b : Bool). AtEachMomentOf (IsAmidRemoval b n.name (held_by c.args.administration.now c.args.diversions.now)) (g.H.Host.state c.args.host.now) (g.H.Host.state c.remove_one.new.host)) c.purges-purge.ensures c.remove_one.ensures.any_moment)

pub returns-in-Ok-None-clause-answered : goal.returns-in-Ok-None-clause-answered
returns-in-Ok-None-clause-answered g c = answered_here (g.H.Host.state c.args.host.now)

pub returns-in-Ok-None-clause-any_moment : goal.returns-in-Ok-None-clause-any_moment
returns-in-Ok-None-clause-any_moment g c = since_next_start c.args.options c.args.queue.now.packages c.args.waiting.now.items c.args.waiting.now.items (held_by c.args.administration.now c.args.diversions.now) (g.H.Host.state c.args.host.now)

pub returns-in-Err-clause-taken : goal.returns-in-Err-clause-taken
returns-in-Err-clause-taken g c = broken_here c.args.options c.args.queue.now.packages c.args.waiting.now.items _ (held_by c.args.administration.now c.args.diversions.now) (g.H.Host.state c.args.host.now) c.no_memory.result (broken_by _ c.no_memory.result.reply c.no_memory.ensures.reply) c.no_memory.ensures.touched c.no_memory.ensures.told

pub returns-in-Err-clause-any_moment : goal.returns-in-Err-clause-any_moment
returns-in-Err-clause-any_moment g c = since_next_start c.args.options c.args.queue.now.packages c.args.waiting.now.items c.args.waiting.now.items (held_by c.args.administration.now c.args.diversions.now) (g.H.Host.state c.args.host.now)
