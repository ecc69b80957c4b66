use Rattle.std.proofs.Common.{refl, ap, sym, ◌∙◌}
use Rattle.host_core.specs.World.{Take, Lower, lowered}
use Rattle.host_core.proofs.Moments.{since_then}
use Rattle.host_core.proofs.WorldLaws.{put_same}
use Rattle.file_removal.proofs.Clears.{lowering_does, retiring_does}
use Rattle.file_removal.proofs.Lowered.{lowered_twice, took_does, took_then}
use Rattle.file_removal.proofs.clearing.retire.Goals as goal

pub returns-in_err-lower-clause-any_moment : goal.returns-in_err-lower-clause-any_moment
returns-in_err-lower-clause-any_moment g c = lowering_does c.args.path.now _ _ _ c.lower.ensures.does

pub returns-in_err-lower-clause-lowered : goal.returns-in_err-lower-clause-lowered
returns-in_err-lower-clause-lowered g c = took_does (Lower c.args.path.now) (λ t part. part) _ _ (λ h. tt) _ c.lower.ensures.does

pub returns-clause-any_moment : goal.returns-clause-any_moment
returns-clause-any_moment g c =
    let p = c.args.path.now in
    let old = g.H.Host.state c.args.host.now in
    let mid = g.H.Host.state c.lower.new.self in
    since_then _ _ _ _ (lowering_does p old mid _ c.lower.ensures.does)
    (retiring_does p old.world mid _ c.in_ok-lower.ensures.does.world (λ h. c.requires.there (c.lower.ensures.silent.honest (c.remove.ensures.silent.honest h))) _ c.remove.ensures.does)

pub returns-clause-lowered : goal.returns-clause-lowered
returns-clause-lowered g c =
    let p = c.args.path.now in
    let old = g.H.Host.state c.args.host.now in
    let mid = g.H.Host.state c.lower.new.self in
    let at = c.in_ok-lower.ensures.does.world in
    let low = ap (λ w. w p) at ∙ put_same old.world p p (lowered (old.world p)) refl in
    took_then _ _ _ (took_does (Lower p) (λ t part. part) old mid (λ h. tt) _ c.lower.ensures.does)
    (took_does (Take p) (λ t part. part) mid _ (λ h. ap lowered low ∙ lowered_twice (old.world p) ∙ sym low) _ c.remove.ensures.does)
