use Rattle.std.proofs.Common.{◌≡◌, ◌<◌, ◌+◌, List, drop, length, slice_index_or, subst}
use Rattle.undo_rows.proofs.Makes.{tells_none}
use Rattle.unit_reports.specs.Held.{held_by}
use Rattle.unit_runs.proofs.Barred.{not_taken}
use Rattle.record_changes.specs.declared.change.RecordChange.{RecordChange}
use Rattle.record_changes.proofs.Turned.{left_next, silent_calls, since_next}
use Rattle.record_changes.proofs.turns.ChangingTurns.take.Goals as goal

pub returns-in-Ok-clause-taken : goal.returns-in-Ok-clause-taken
returns-in-Ok-clause-taken g c =
    let all = c.args.self.now.changes.items in
    let n = c.args.self.now.next in
    let asked = c.in-Some.asked.now in
    let at = c.in-Some.ensures.lookup in
    record {
      asked = asked;
      first = left_next all n asked (subst (λ (l : List RecordChange). n < length l) c.as_slice.ensures.value at.3.0) (subst (λ (l : List RecordChange). asked ≡ slice_index_or l n asked) c.as_slice.ensures.value at.1);
      is = c.in-Ok.ensures.ok.is c.args.self.now.diversions.now;
      moments = c.change_one.ensures.any_moment c.args.self.now.diversions.now;
      answered = c.in-Ok.ensures.ok.answered;
    }

pub returns-in-Ok-clause-barred : goal.returns-in-Ok-clause-barred
returns-in-Ok-clause-barred g c = not_taken c.args.barred c.in-Ok.ensures.barred

pub returns-in-Ok-clause-told : goal.returns-in-Ok-clause-told
returns-in-Ok-clause-told g c = tells_none (g.H.Host.state c.args.host.now) (g.H.Host.state c.change_one.new.host) _ _ (silent_calls _ _ c.change_one.ensures.silent) c.in-Ok.ensures.told

pub returns-in-Ok-clause-any_moment : goal.returns-in-Ok-clause-any_moment
returns-in-Ok-clause-any_moment g c =
    let all = c.args.self.now.changes.items in
    let n = c.args.self.now.next in
    let asked = c.in-Some.asked.now in
    let at = c.in-Some.ensures.lookup in
    since_next (drop n all) (drop (n + 1) all) (drop (n + 1) all) asked (held_by c.args.administration.now c.args.self.now.diversions.now) (g.H.Host.state c.args.host.now) (g.H.Host.state c.change_one.new.host)
    (left_next all n asked (subst (λ (l : List RecordChange). n < length l) c.as_slice.ensures.value at.3.0) (subst (λ (l : List RecordChange). asked ≡ slice_index_or l n asked) c.as_slice.ensures.value at.1))
    (c.change_one.ensures.any_moment c.args.self.now.diversions.now)

pub returns-in-Err-clause-told : goal.returns-in-Err-clause-told
returns-in-Err-clause-told g c = tells_none (g.H.Host.state c.args.host.now) (g.H.Host.state c.change_one.new.host) _ _ (silent_calls _ _ c.change_one.ensures.silent) c.in-Err.ensures.told_broken

pub returns-in-Err-clause-any_moment : goal.returns-in-Err-clause-any_moment
returns-in-Err-clause-any_moment g c =
    let all = c.args.self.now.changes.items in
    let n = c.args.self.now.next in
    let asked = c.in-Some.asked.now in
    let at = c.in-Some.ensures.lookup in
    since_next (drop n all) (drop n all) (drop (n + 1) all) asked (held_by c.args.administration.now c.args.self.now.diversions.now) (g.H.Host.state c.args.host.now) (g.H.Host.state c.change_one.new.host)
    (left_next all n asked (subst (λ (l : List RecordChange). n < length l) c.as_slice.ensures.value at.3.0) (subst (λ (l : List RecordChange). asked ≡ slice_index_or l n asked) c.as_slice.ensures.value at.1))
    (c.change_one.ensures.any_moment c.args.self.now.diversions.now)
