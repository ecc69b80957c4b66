use Rattle.std.proofs.Common.{subst}
use Rattle.host_core.specs.World.{is_kept}
use Rattle.host_core.specs.Host.{OnlyScripts, Since}
use Rattle.unit_stages.proofs.Keeping.{order_after}
use Rattle.unit_stages.proofs.Moments.{since_called, since_restored}
use Rattle.unit_stages.proofs.Settling.{no_settle}
use Rattle.unit_stages.proofs.Tellings.{nothing_done, undo_told}
use Rattle.unit_stages.proofs.Apart.{later_of, scripts_apart, works_on}
use Rattle.unit_stages.proofs.calls.undo_stage.Goals as goal

pub do_and_keep-requires-clause-order : goal.do_and_keep-requires-clause-order
do_and_keep-requires-clause-order g c = order_after c.args.administration.now.places c.args.administration.now.database c.args.administration.now.lists.lists (g.H.Host.state c.args.host.now) (g.H.Host.state c.undo_call.new.host) c.requires.order c.undo_call.ensures.any_moment

pub do_and_keep-requires-clause-settleable : goal.do_and_keep-requires-clause-settleable
do_and_keep-requires-clause-settleable g c = λ h. no_settle c.args.restore.items (g.H.Host.state c.undo_call.new.host).world (c.requires.settled (c.undo_call.ensures.any_moment.honest h))

pub returns-in-Ok-true-clause-order : goal.returns-in-Ok-true-clause-order
returns-in-Ok-true-clause-order g c = order_after c.args.administration.now.places c.args.administration.now.database c.args.administration.now.lists.lists (g.H.Host.state c.args.host.now) (g.H.Host.state c.undo_call.new.host) c.requires.order c.undo_call.ensures.any_moment

pub returns-in-Ok-true-clause-told : goal.returns-in-Ok-true-clause-told
returns-in-Ok-true-clause-told g c = undo_told (is_kept c.args.administration.now.places) c.args.row.now _ _ _ _ _ c.undo_call.ensures.told (nothing_done (g.H.Host.state c.undo_call.new.host))

pub returns-in-Ok-true-clause-any_moment : goal.returns-in-Ok-true-clause-any_moment
returns-in-Ok-true-clause-any_moment g c =
    let a = g.H.Host.state c.args.host.now in
    let b = g.H.Host.state c.undo_call.new.host in
    since_called c.args.name.now c.args.diversions.now.ways c.args.administration.now.database c.args.administration.now.lists c.args.restore.items a b c.requires.order
    (subst (λ l. Since (OnlyScripts (is_kept l) a.world) a b) c.requires.open.kept c.undo_call.ensures.any_moment)

pub returns-in-Ok-false-clause-told : goal.returns-in-Ok-false-clause-told
returns-in-Ok-false-clause-told g c = undo_told (is_kept c.args.administration.now.places) c.args.row.now _ _ _ _ _ c.undo_call.ensures.told c.do_and_keep.ensures.silent

pub returns-in-Ok-false-clause-any_moment : goal.returns-in-Ok-false-clause-any_moment
returns-in-Ok-false-clause-any_moment g c =
    let a = g.H.Host.state c.args.host.now in
    let b = g.H.Host.state c.undo_call.new.host in
    since_restored c.args.name.now c.args.diversions.now.ways c.args.administration.now.database c.args.administration.now.lists c.args.restore.items a b (g.H.Host.state c.do_and_keep.new.host) c.requires.order
    (subst (λ l. Since (OnlyScripts (is_kept l) a.world) a b) c.requires.open.kept c.undo_call.ensures.any_moment) c.do_and_keep.ensures.silent c.do_and_keep.ensures.any_moment

pub returns-in-Err-clause-told : goal.returns-in-Err-clause-told
returns-in-Err-clause-told g c = undo_told (is_kept c.args.administration.now.places) c.args.row.now _ _ _ _ _ c.undo_call.ensures.told (nothing_done (g.H.Host.state c.undo_call.new.host))

pub returns-in-Err-clause-any_moment : goal.returns-in-Err-clause-any_moment
returns-in-Err-clause-any_moment g c =
    let a = g.H.Host.state c.args.host.now in
    let b = g.H.Host.state c.undo_call.new.host in
    since_called c.args.name.now c.args.diversions.now.ways c.args.administration.now.database c.args.administration.now.lists c.args.restore.items a b c.requires.order
    (subst (λ l. Since (OnlyScripts (is_kept l) a.world) a b) c.requires.open.kept c.undo_call.ensures.any_moment)

pub returns-in-Ok-true-clause-apart : goal.returns-in-Ok-true-clause-apart
returns-in-Ok-true-clause-apart g c = scripts_apart c.args.administration.now.places (g.H.Host.state c.args.host.now) (g.H.Host.state c.undo_call.new.host) c.undo_call.ensures.any_moment

pub returns-in-Ok-false-clause-apart : goal.returns-in-Ok-false-clause-apart
returns-in-Ok-false-clause-apart g c =
    works_on (g.H.Host.state c.args.host.now) (g.H.Host.state c.undo_call.new.host) (g.H.Host.state c.do_and_keep.new.host) (later_of _ _ _ c.undo_call.ensures.any_moment) (later_of _ _ _ c.do_and_keep.ensures.any_moment)
    (scripts_apart c.args.administration.now.places (g.H.Host.state c.args.host.now) (g.H.Host.state c.undo_call.new.host) c.undo_call.ensures.any_moment) c.do_and_keep.result c.do_and_keep.ensures.apart

pub returns-in-Err-clause-apart : goal.returns-in-Err-clause-apart
returns-in-Err-clause-apart g c = λ h. ((scripts_apart c.args.administration.now.places (g.H.Host.state c.args.host.now) (g.H.Host.state c.undo_call.new.host) c.undo_call.ensures.any_moment h).0, tt)
