use Rattle.std.proofs.Common.{false, subst}
use Rattle.host_core.specs.World.{is_kept}
use Rattle.host_core.specs.Host.{OnlyScripts, Since}
use Rattle.undo_rows.specs.Transcript.{Makes, Tries}
use Rattle.unit_stages.specs.Holding.{holding_of}
use Rattle.unit_stages.proofs.Keeping.{order_after}
use Rattle.unit_stages.proofs.Moments.{since_called, since_undone}
use Rattle.unit_stages.proofs.RunLaws.{fell_by}
use Rattle.unit_stages.proofs.Tellings.{failed_calls, fall_told, try_told}
use Rattle.unit_stages.proofs.Apart.{apart_on, goes_on, later_of, scripts_apart}
use Rattle.unit_stages.proofs.calls.call_stage.Goals as goal

pub undo_stage-requires-clause-order : goal.undo_stage-requires-clause-order
undo_stage-requires-clause-order g c = order_after c.args.administration.now.places c.args.administration.now.database c.args.administration.now.lists.lists (g.H.Host.state c.args.host.now) (g.H.Host.state c.try_call.new.host) c.requires.order c.try_call.ensures.any_moment

pub returns-in-Ok-true-clause-order : goal.returns-in-Ok-true-clause-order
returns-in-Ok-true-clause-order g c = order_after c.args.administration.now.places c.args.administration.now.database c.args.administration.now.lists.lists (g.H.Host.state c.args.host.now) (g.H.Host.state c.try_call.new.host) c.requires.order c.try_call.ensures.any_moment

pub returns-in-Ok-true-clause-told : goal.returns-in-Ok-true-clause-told
returns-in-Ok-true-clause-told g c = try_told (is_kept c.args.administration.now.places) c.args.row _ _ _ _ c.try_call.ensures.told

pub returns-in-Ok-true-clause-any_moment : goal.returns-in-Ok-true-clause-any_moment
returns-in-Ok-true-clause-any_moment g c =
    let a = g.H.Host.state c.args.host.now in
    let b = g.H.Host.state c.try_call.new.host in
    since_called c.args.name.now c.args.diversions.now.ways c.args.administration.now.database c.args.administration.now.lists c.args.restore.items a b c.requires.order
    (subst (λ l. Since (OnlyScripts (is_kept l) a.world) a b) c.requires.open.kept c.try_call.ensures.any_moment)

pub returns-in-Ok-clause-called : goal.returns-in-Ok-clause-called
returns-in-Ok-clause-called g c =
    let a = g.H.Host.state c.args.host.now in
    let b = g.H.Host.state c.try_call.new.host in
    fell_by c.args.name.now c.args.diversions.now.ways c.args.row c.args.restore.items (holding_of c.args.administration.now) (holding_of c.undo_stage.new.administration) a b (g.H.Host.state c.undo_stage.new.host) c.args.told.now.items c.try_call.new.told.items c.undo_stage.new.told.items
    (subst (λ l. Makes (is_kept l) (λ ts. Tries c.args.row ts false) a b c.args.told.now.items c.try_call.new.told.items) c.requires.open.kept (failed_calls (is_kept c.args.administration.now.places) c.args.row c.in-Ok-false.field-0 a b c.args.told.now.items c.try_call.new.told.items c.in-Ok-false.field-0-test c.in-Ok-false.ensures.calls)) c.in-Ok.ensures.undone

pub returns-in-Ok-clause-told : goal.returns-in-Ok-clause-told
returns-in-Ok-clause-told g c = fall_told (is_kept c.args.administration.now.places) c.args.row _ _ _ _ _ _ (failed_calls (is_kept c.args.administration.now.places) c.args.row _ _ _ _ _ c.in-Ok-false.field-0-test c.in-Ok-false.ensures.calls) c.undo_stage.ensures.told

pub returns-in-Ok-clause-any_moment : goal.returns-in-Ok-clause-any_moment
returns-in-Ok-clause-any_moment g c =
    let a = g.H.Host.state c.args.host.now in
    let b = g.H.Host.state c.try_call.new.host in
    since_undone c.args.name.now c.args.diversions.now.ways c.args.administration.now.database c.args.administration.now.lists c.args.restore.items a b (g.H.Host.state c.undo_stage.new.host) c.requires.order
    (subst (λ l. Since (OnlyScripts (is_kept l) a.world) a b) c.requires.open.kept c.try_call.ensures.any_moment) c.undo_stage.ensures.any_moment

pub returns-in-Err-undo_stage-clause-told : goal.returns-in-Err-undo_stage-clause-told
returns-in-Err-undo_stage-clause-told g c = fall_told (is_kept c.args.administration.now.places) c.args.row _ _ _ _ _ _ (failed_calls (is_kept c.args.administration.now.places) c.args.row _ _ _ _ _ c.in-Ok-false.field-0-test c.in-Ok-false.ensures.calls) c.undo_stage.ensures.told

pub returns-in-Err-undo_stage-clause-any_moment : goal.returns-in-Err-undo_stage-clause-any_moment
returns-in-Err-undo_stage-clause-any_moment g c =
    let a = g.H.Host.state c.args.host.now in
    let b = g.H.Host.state c.try_call.new.host in
    since_undone c.args.name.now c.args.diversions.now.ways c.args.administration.now.database c.args.administration.now.lists c.args.restore.items a b (g.H.Host.state c.undo_stage.new.host) c.requires.order
    (subst (λ l. Since (OnlyScripts (is_kept l) a.world) a b) c.requires.open.kept c.try_call.ensures.any_moment) c.undo_stage.ensures.any_moment

pub returns-in-Err-clause-told : goal.returns-in-Err-clause-told
returns-in-Err-clause-told g c = try_told (is_kept c.args.administration.now.places) c.args.row _ _ _ _ c.try_call.ensures.told

pub returns-in-Err-clause-any_moment : goal.returns-in-Err-clause-any_moment
returns-in-Err-clause-any_moment g c =
    let a = g.H.Host.state c.args.host.now in
    let b = g.H.Host.state c.try_call.new.host in
    since_called c.args.name.now c.args.diversions.now.ways c.args.administration.now.database c.args.administration.now.lists c.args.restore.items a b c.requires.order
    (subst (λ l. Since (OnlyScripts (is_kept l) a.world) a b) c.requires.open.kept c.try_call.ensures.any_moment)

pub returns-in-Ok-true-clause-apart : goal.returns-in-Ok-true-clause-apart
returns-in-Ok-true-clause-apart g c = scripts_apart c.args.administration.now.places (g.H.Host.state c.args.host.now) (g.H.Host.state c.try_call.new.host) c.try_call.ensures.any_moment

pub returns-in-Ok-clause-apart : goal.returns-in-Ok-clause-apart
returns-in-Ok-clause-apart g c =
    goes_on (g.H.Host.state c.args.host.now) (g.H.Host.state c.try_call.new.host) (g.H.Host.state c.undo_stage.new.host) (later_of _ _ _ c.try_call.ensures.any_moment) (later_of _ _ _ c.undo_stage.ensures.any_moment)
    (scripts_apart c.args.administration.now.places (g.H.Host.state c.args.host.now) (g.H.Host.state c.try_call.new.host) c.try_call.ensures.any_moment) c.in-Ok.ensures.apart

pub returns-in-Err-undo_stage-clause-apart : goal.returns-in-Err-undo_stage-clause-apart
returns-in-Err-undo_stage-clause-apart g c = λ h. (
  apart_on (g.H.Host.state c.args.host.now) (g.H.Host.state c.try_call.new.host) (g.H.Host.state c.undo_stage.new.host) (later_of _ _ _ c.try_call.ensures.any_moment) (later_of _ _ _ c.undo_stage.ensures.any_moment)
      (scripts_apart c.args.administration.now.places (g.H.Host.state c.args.host.now) (g.H.Host.state c.try_call.new.host) c.try_call.ensures.any_moment) (λ h0. (c.undo_stage.ensures.apart h0).0) h,
  tt,
)

pub returns-in-Err-clause-apart : goal.returns-in-Err-clause-apart
returns-in-Err-clause-apart g c = λ h. ((scripts_apart c.args.administration.now.places (g.H.Host.state c.args.host.now) (g.H.Host.state c.try_call.new.host) c.try_call.ensures.any_moment h).0, tt)
