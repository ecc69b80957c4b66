use Rattle.std.proofs.Common.{ap, ◌∙◌, is_some}
use Rattle.host_core.proofs.Moments.{since_then, since_weaker_if}
use Rattle.host_core.specs.World.{Move}
use Rattle.host_core.specs.declared.suffix.Suffix.TheVariants as suffix
use Rattle.host_core.proofs.ShipNames.{parent_beside_home}
use Rattle.conffiles.specs.Settling.{HasChanged, IsChanging, backed_up}
use Rattle.conffiles.proofs.Settlings.{since_move, left_by, parent_at, copying, aside_home, copy_aside, copied_there}
use Rattle.conffiles.proofs.settling.keep_copy.Goals as goal

pub write_aside-requires-clause-parent : goal.write_aside-requires-clause-parent
write_aside-requires-clause-parent g c = λ h.
    let w = (g.H.Host.state c.args.host.now).world in
    parent_at w _ _ c.in_ok-spare.ensures (parent_beside_home w c.args.path.now suffix.Inst (g.H.Host.tree c.args.host.now h) c.law.ensures (ap is_some (c.requires.home h)))

pub rename-requires-clause-parent : goal.rename-requires-clause-parent
rename-requires-clause-parent g c = λ h.
    let old = (g.H.Host.state c.args.host.now).world in
    let mid = (g.H.Host.state c.write_aside.new.host).world in
    let home = aside_home c.args.path.now _ c.args.had.now old mid c.in_ok-spare.ensures (c.in_ok-write_aside.ensures.written h) in
    parent_at mid _ _ c.in_ok-backup.ensures (parent_beside_home mid c.args.path.now suffix.Old (g.H.Host.tree c.write_aside.new.host h) c.law.ensures (ap is_some (home ∙ c.requires.home (c.write_aside.ensures.silent.honest h))))

pub returns-in_err-write_aside-clause-any_moment : goal.returns-in_err-write_aside-clause-any_moment
returns-in_err-write_aside-clause-any_moment g c =
    let old = (g.H.Host.state c.args.host.now).world in
    since_weaker_if _ _ _ _ (λ h so_far w is. copying c.args.path.now _ old w c.in_ok-spare.ensures (c.requires.can (c.write_aside.ensures.silent.honest h)) is) c.write_aside.ensures.any_moment

pub returns-clause-copied : goal.returns-clause-copied
returns-clause-copied g c = λ h.
    let mid = c.rename.ensures.silent.honest h in
    let old = (g.H.Host.state c.args.host.now).world in
    left_by (HasChanged backed_up c.args.path.now old) c.rename.result (Move c.in_ok-spare.spare c.in_ok-backup.backup) _ _ c.rename.ensures.does
    (copied_there c.args.path.now _ _ c.args.had.now old _ c.in_ok-spare.ensures c.in_ok-backup.ensures (c.requires.home (c.write_aside.ensures.silent.honest mid)) (c.in_ok-write_aside.ensures.written mid)).done

pub returns-clause-any_moment : goal.returns-clause-any_moment
returns-clause-any_moment g c =
    let old = (g.H.Host.state c.args.host.now).world in
    since_then (λ so_far. IsChanging backed_up c.args.path.now old) _ _ _
    (since_weaker_if _ _ _ _ (λ h so_far w is. copying c.args.path.now _ old w c.in_ok-spare.ensures (c.requires.can (c.write_aside.ensures.silent.honest h)) is) c.write_aside.ensures.any_moment)
    (since_move (IsChanging backed_up c.args.path.now old) _ _ _ _ _ c.rename.ensures.does
    (λ h. copy_aside c.args.path.now _ c.args.had.now old _ c.in_ok-spare.ensures c.requires.file (c.in_ok-write_aside.ensures.written (c.rename.ensures.silent.honest h)))
    (λ h. let mid = c.rename.ensures.silent.honest h in (copied_there c.args.path.now _ _ c.args.had.now old _ c.in_ok-spare.ensures c.in_ok-backup.ensures (c.requires.home (c.write_aside.ensures.silent.honest mid)) (c.in_ok-write_aside.ensures.written mid)).on_way))
