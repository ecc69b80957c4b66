use Rattle.status_db.specs.Held.{AreKept}
use Rattle.status_db.specs.Noting.{AreMerged, IsMerging}
use Rattle.status_db.proofs.Barriered.{left_behind, moments_before, moments_behind, needs_behind}
use Rattle.status_db.proofs.NotedWorlds.{merging_not}
use Rattle.status_db.proofs.RecordTurns.{goes_here, turns_since_barrier, turns_to_barrier, waits_at, waits_on}
use Rattle.host_core.proofs.Moments.{since_start}
use Rattle.status_db.proofs.room.merge_behind.Goals as goal

pub returns-in_err-barrier-clause-any_moment : goal.returns-in_err-barrier-clause-any_moment
returns-in_err-barrier-clause-any_moment g c =
    let old = g.H.Host.state c.args.host.now in
    moments_before _ old old _ (IsMerging c.args.table.now) (merging_not c.args.table.now c.args.notes old c.requires.kept) c.barrier.ensures.does

pub returns-in_err-barrier-clause-turns : goal.returns-in_err-barrier-clause-turns
returns-in_err-barrier-clause-turns g c = λ h.
    let old = g.H.Host.state c.args.host.now in
    turns_to_barrier _ old old _ (since_start _ old tt) (goes_here old (c.barrier.ensures.silent.honest h)) c.barrier.ensures.does h

pub returns-in_err-barrier-clause-waits : goal.returns-in_err-barrier-clause-waits
returns-in_err-barrier-clause-waits g c = waits_at _ _ _ c.barrier.ensures.does

pub merge-requires-clause-kept : goal.merge-requires-clause-kept
merge-requires-clause-kept g c = needs_behind _ _ _ (AreKept c.args.table.now c.args.notes) c.barrier.ensures.does c.barrier.ensures.silent c.requires.kept

pub returns-clause-merged : goal.returns-clause-merged
returns-clause-merged g c = left_behind _ _ _ _ _ (AreMerged c.args.table.now) c.barrier.ensures.does c.merge.ensures.silent c.merge.ensures.merged

pub returns-clause-any_moment : goal.returns-clause-any_moment
returns-clause-any_moment g c =
    let old = g.H.Host.state c.args.host.now in
    moments_behind _ old _ _ (IsMerging c.args.table.now) (merging_not c.args.table.now c.args.notes old c.requires.kept) c.barrier.ensures.does c.merge.ensures.any_moment

pub returns-clause-turns : goal.returns-clause-turns
returns-clause-turns g c = turns_since_barrier (IsMerging c.args.table.now) _ _ _ c.in_ok-barrier.ensures.does c.merge.ensures.any_moment c.merge.ensures.turns

pub returns-clause-waits : goal.returns-clause-waits
returns-clause-waits g c = waits_on (IsMerging c.args.table.now) _ _ _ c.in_ok-barrier.ensures.does c.merge.ensures.any_moment
