use Rattle.std.proofs.Common.{◌∙◌, sym, ap, subst}
use Rattle.std.specs.BTreeMap.{get_by_text}
use Rattle.host_core.specs.Paths.{Path}
use Rattle.host_core.specs.World.{Write, Take, RemoveDir, MakeLink}
use Rattle.host_core.specs.declared.node.Node.TheVariants.{Dir, Link}
use Rattle.host_overlay.specs.Doings.{step_of}
use Rattle.host_overlay.specs.Standings.{changed, made, Becomes}
use Rattle.host_overlay.specs.declared.done.DeviceStep.TheVariants as device
use Rattle.host_overlay.specs.declared.standing.Standing.{Standing}
use Rattle.host_overlay.proofs.Overlaying.{stays_err, becomes_ok, becomes_write, becomes_take, becomes_remove_dir, becomes_make_dir, becomes_make_link}
use Rattle.host_overlay.proofs.step.perform.Goals as goal

pub returns-in_ok-share-in-Write-clause-ok : goal.returns-in_ok-share-in-Write-clause-ok
returns-in_ok-share-in-Write-clause-ok c =
    let m = get_by_text c.args.changes.now.map in
    let p = c.in-Write.path in
    becomes_ok c.set.result (device.Write p c.in-Write.node) c.args.step.now m (changed m p c.new.result) (get_by_text c.set.new.self.map) c.in-Write.is c.set.ensures.ok
    (subst (λ (s : Standing). Becomes (Write p c.in-Write.node) m (changed m p s)) (sym (c.new.ensures ∙ ap made c.in_ok-share-in-Write.ensures)) (becomes_write m p c.in-Write.node))

pub returns-in_ok-share-in-Write-clause-err : goal.returns-in_ok-share-in-Write-clause-err
returns-in_ok-share-in-Write-clause-err c = stays_err c.set.result (step_of c.args.step.now) (get_by_text c.args.changes.now.map) (get_by_text c.set.new.self.map) c.set.ensures.err

pub returns-in-Take-clause-ok : goal.returns-in-Take-clause-ok
returns-in-Take-clause-ok c =
    let m = get_by_text c.args.changes.now.map in
    let p = c.in-Take.path in
    becomes_ok c.set-in-Take.result (device.Take p) c.args.step.now m (changed m p c.new-in-Take.result) (get_by_text c.set-in-Take.new.self.map) c.in-Take.is c.set-in-Take.ensures.ok
    (subst (λ (s : Standing). Becomes (Take p) m (changed m p s)) (sym c.new-in-Take.ensures) (becomes_take m p))

pub returns-in-Take-clause-err : goal.returns-in-Take-clause-err
returns-in-Take-clause-err c = stays_err c.set-in-Take.result (step_of c.args.step.now) (get_by_text c.args.changes.now.map) (get_by_text c.set-in-Take.new.self.map) c.set-in-Take.ensures.err

pub returns-in-MakeDir-clause-ok : goal.returns-in-MakeDir-clause-ok
returns-in-MakeDir-clause-ok c =
    let m = get_by_text c.args.changes.now.map in
    let p = c.in-MakeDir.path in
    becomes_ok c.make.result (device.MakeDir p c.in-MakeDir.access) c.args.step.now m (changed m p (made (Dir c.in-MakeDir.access))) (get_by_text c.make.new.changes.map) c.in-MakeDir.is c.make.ensures.ok (becomes_make_dir m p c.in-MakeDir.access)

pub returns-in-MakeDir-clause-err : goal.returns-in-MakeDir-clause-err
returns-in-MakeDir-clause-err c = stays_err c.make.result (step_of c.args.step.now) (get_by_text c.args.changes.now.map) (get_by_text c.make.new.changes.map) c.make.ensures.err

pub returns-in-RemoveDir-clause-ok : goal.returns-in-RemoveDir-clause-ok
returns-in-RemoveDir-clause-ok c =
    let m = get_by_text c.args.changes.now.map in
    let p = c.in-RemoveDir.path in
    becomes_ok c.set-in-RemoveDir.result (device.RemoveDir p) c.args.step.now m (changed m p c.new-in-RemoveDir.result) (get_by_text c.set-in-RemoveDir.new.self.map) c.in-RemoveDir.is c.set-in-RemoveDir.ensures.ok
    (subst (λ (s : Standing). Becomes (RemoveDir p) m (changed m p s)) (sym c.new-in-RemoveDir.ensures) (becomes_remove_dir m p))

pub returns-in-RemoveDir-clause-err : goal.returns-in-RemoveDir-clause-err
returns-in-RemoveDir-clause-err c = stays_err c.set-in-RemoveDir.result (step_of c.args.step.now) (get_by_text c.args.changes.now.map) (get_by_text c.set-in-RemoveDir.new.self.map) c.set-in-RemoveDir.ensures.err

pub returns-in-HardLink-clause-err : goal.returns-in-HardLink-clause-err
returns-in-HardLink-clause-err c = stays_err c.link_name.result (step_of c.args.step.now) (get_by_text c.args.changes.now.map) (get_by_text c.link_name.new.changes.map) c.link_name.ensures.err

pub returns-in_ok-target-in-MakeLink-clause-ok : goal.returns-in_ok-target-in-MakeLink-clause-ok
returns-in_ok-target-in-MakeLink-clause-ok c =
    let m = get_by_text c.args.changes.now.map in
    let p = c.in-MakeLink.path in
    becomes_ok c.make-in-MakeLink.result (device.MakeLink p c.in-MakeLink.target) c.args.step.now m (changed m p (made (Link c.in_ok-target-in-MakeLink.target))) (get_by_text c.make-in-MakeLink.new.changes.map) c.in-MakeLink.is c.make-in-MakeLink.ensures.ok
    (subst (λ (t : Path). Becomes (MakeLink p c.in-MakeLink.target) m (changed m p (made (Link t)))) (sym c.in_ok-target-in-MakeLink.ensures) (becomes_make_link m p c.in-MakeLink.target))

pub returns-in_ok-target-in-MakeLink-clause-err : goal.returns-in_ok-target-in-MakeLink-clause-err
returns-in_ok-target-in-MakeLink-clause-err c = stays_err c.make-in-MakeLink.result (step_of c.args.step.now) (get_by_text c.args.changes.now.map) (get_by_text c.make-in-MakeLink.new.changes.map) c.make-in-MakeLink.ensures.err

pub returns-in-Lower-clause-err : goal.returns-in-Lower-clause-err
returns-in-Lower-clause-err c = stays_err c.lower.result (step_of c.args.step.now) (get_by_text c.args.changes.now.map) (get_by_text c.lower.new.changes.map) c.lower.ensures.err
