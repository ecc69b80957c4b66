use Rattle.std.proofs.Common.{◌≡◌, refl, sym, subst, rules, ◌∙◌}
use Rattle.host_core.specs.World.{Move, IsLoose, IsDirectory, HasParent, moved}
use Rattle.host_core.proofs.Moments.{since_now, since_then, since_weaker}
use Rattle.administration.specs.Files.{KeepsBeside, IsAside}
use Rattle.package_files.specs.Steps.{HasBegun, KeepsBesideSpares}
use Rattle.package_files.proofs.WorkNames.{fresh_temporary, home_of, fresh_name, backup_name}
use Rattle.package_files.proofs.OnePath.{keeps_first}
use Rattle.package_files.proofs.WriteMoments.{since_write, since_brought, since_move, moved_by}
use Rattle.package_files.proofs.Tried.{on_declined, declined_same}
use Rattle.package_files.proofs.Copying.{wrote_aside, copy_there, copy_over, copy_home, copy_begun, copied, copied_keeps}
use Rattle.package_files.proofs.preparing.copy_file.Goals as goal

pub write_new-requires-clause-temporary : goal.write_new-requires-clause-temporary
write_new-requires-clause-temporary g c = fresh_temporary c.args.work.now c.requires.named

pub write_new-requires-clause-parent : goal.write_new-requires-clause-parent
write_new-requires-clause-parent g c = λ h. home_of _ c.args.work.now _ (fresh_name c.args.work.now c.requires.named) (c.requires.parent h)

pub returns-in_err-write_new-clause-any_moment : goal.returns-in_err-write_new-clause-any_moment
returns-in_err-write_new-clause-any_moment g c =
    let old = g.H.Host.state c.args.host.now in
    let one = g.H.Host.state c.write_new.new.self in
    let x = c.args.work.now in
    since_weaker (λ so_far. KeepsBeside x.fresh old.world) (λ so_far. KeepsBesideSpares x old.world) old one (λ so_far w is. keeps_first x old.world w is)
    (since_write c.write_new.result x.fresh old.world old one (λ h q ne. refl) c.args.node.now c.write_new.ensures.does)

pub sync-requires : goal.sync-requires
sync-requires g c = record {
  there = λ h.
      let h0 = c.write_new.ensures.silent.honest h in
      let old = g.H.Host.state c.args.host.now in
      let one = g.H.Host.state c.write_new.new.self in
      let x = c.args.work.now in
      let n = c.args.node.now in
      copy_there x n old.world c.requires.named c.requires.file (c.requires.spare h0) (c.requires.absent h0) one.world (wrote_aside x.fresh n old one c.in_ok-write_new.ensures.does);
}

pub returns-in_err-sync-clause-tried : goal.returns-in_err-sync-clause-tried
returns-in_err-sync-clause-tried g c = λ h.
    let h0 = c.write_new.ensures.silent.honest (c.sync.ensures.silent.honest h) in
    let old = g.H.Host.state c.args.host.now in
    let one = g.H.Host.state c.write_new.new.self in
    let two = g.H.Host.state c.sync.new.self in
    let x = c.args.work.now in
    let n = c.args.node.now in
    on_declined c.from_residual-in_err-sync.result (two.world ≡ one.world) (HasBegun x old.world two.world)
    (copy_begun x n old.world c.requires.named c.requires.file (c.requires.spare h0) (c.requires.absent h0) one.world (wrote_aside x.fresh n old one c.in_ok-write_new.ensures.does) two.world)
    (search rules)

pub returns-in_err-sync-clause-any_moment : goal.returns-in_err-sync-clause-any_moment
returns-in_err-sync-clause-any_moment g c =
    let old = g.H.Host.state c.args.host.now in
    let one = g.H.Host.state c.write_new.new.self in
    let two = g.H.Host.state c.sync.new.self in
    let x = c.args.work.now in
    let P = KeepsBesideSpares x old.world in
    let first = since_weaker (λ so_far. KeepsBeside x.fresh old.world) (λ so_far. P) old one (λ so_far w is. keeps_first x old.world w is)
    (since_write c.write_new.result x.fresh old.world old one (λ h q ne. refl) c.args.node.now c.write_new.ensures.does) in
    since_then (λ so_far. P) old one two first
    (since_brought c.sync.result P one two x.fresh (λ h. since_now (λ so_far. P) old one first (c.sync.ensures.silent.honest h)) c.sync.ensures.does)

pub rename-requires-clause-there : goal.rename-requires-clause-there
rename-requires-clause-there g c = λ h.
    let h0 = c.write_new.ensures.silent.honest (c.sync.ensures.silent.honest h) in
    let old = g.H.Host.state c.args.host.now in
    let one = g.H.Host.state c.write_new.new.self in
    let x = c.args.work.now in
    let n = c.args.node.now in
    subst (λ w. IsLoose (w x.fresh)) (sym c.in_ok-sync.ensures.does.world)
    (copy_there x n old.world c.requires.named c.requires.file (c.requires.spare h0) (c.requires.absent h0) one.world (wrote_aside x.fresh n old one c.in_ok-write_new.ensures.does))

pub rename-requires-clause-over : goal.rename-requires-clause-over
rename-requires-clause-over g c = λ h.
    let h0 = c.write_new.ensures.silent.honest (c.sync.ensures.silent.honest h) in
    let old = g.H.Host.state c.args.host.now in
    let one = g.H.Host.state c.write_new.new.self in
    let x = c.args.work.now in
    let n = c.args.node.now in
    subst (λ w. IsDirectory (w x.backup) → ⊥) (sym c.in_ok-sync.ensures.does.world)
    (copy_over x n old.world c.requires.named c.requires.file (c.requires.spare h0) (c.requires.absent h0) one.world (wrote_aside x.fresh n old one c.in_ok-write_new.ensures.does))

pub rename-requires-clause-parent : goal.rename-requires-clause-parent
rename-requires-clause-parent g c = λ h.
    let h0 = c.write_new.ensures.silent.honest (c.sync.ensures.silent.honest h) in
    let old = g.H.Host.state c.args.host.now in
    let one = g.H.Host.state c.write_new.new.self in
    let x = c.args.work.now in
    let n = c.args.node.now in
    subst (λ w. HasParent w x.backup) (sym c.in_ok-sync.ensures.does.world)
    (home_of one.world x _ (backup_name x c.requires.named)
    (copy_home x n old.world c.requires.named c.requires.file (c.requires.spare h0) (c.requires.absent h0) one.world (wrote_aside x.fresh n old one c.in_ok-write_new.ensures.does) (c.requires.parent h0)))

pub returns-clause-copied : goal.returns-clause-copied
returns-clause-copied g c = λ h.
    let h0 = c.write_new.ensures.silent.honest (c.sync.ensures.silent.honest (c.rename.ensures.silent.honest h)) in
    let old = g.H.Host.state c.args.host.now in
    let one = g.H.Host.state c.write_new.new.self in
    let two = g.H.Host.state c.sync.new.self in
    let x = c.args.work.now in
    let n = c.args.node.now in
    moved_by c.rename.result x.fresh x.backup two _ (IsAside x.backup n old.world)
    (subst (λ w. IsAside x.backup n old.world (moved w x.fresh x.backup)) (sym c.in_ok-sync.ensures.does.world)
    (copied x n old.world c.requires.named c.requires.file (c.requires.spare h0) (c.requires.absent h0) one.world (wrote_aside x.fresh n old one c.in_ok-write_new.ensures.does)))
    c.rename.ensures.does

pub returns-clause-tried : goal.returns-clause-tried
returns-clause-tried g c = λ h.
    let h0 = c.write_new.ensures.silent.honest (c.sync.ensures.silent.honest (c.rename.ensures.silent.honest h)) in
    let old = g.H.Host.state c.args.host.now in
    let one = g.H.Host.state c.write_new.new.self in
    let two = g.H.Host.state c.sync.new.self in
    let new = g.H.Host.state c.rename.new.self in
    let x = c.args.work.now in
    let n = c.args.node.now in
    on_declined c.rename.result (new.world ≡ two.world) (HasBegun x old.world new.world)
    (λ same. copy_begun x n old.world c.requires.named c.requires.file (c.requires.spare h0) (c.requires.absent h0) one.world (wrote_aside x.fresh n old one c.in_ok-write_new.ensures.does) new.world (same ∙ c.in_ok-sync.ensures.does.world))
    (declined_same c.rename.result (Move x.fresh x.backup) two new h c.rename.ensures.does)

pub returns-clause-any_moment : goal.returns-clause-any_moment
returns-clause-any_moment g c =
    let old = g.H.Host.state c.args.host.now in
    let one = g.H.Host.state c.write_new.new.self in
    let two = g.H.Host.state c.sync.new.self in
    let new = g.H.Host.state c.rename.new.self in
    let x = c.args.work.now in
    let n = c.args.node.now in
    let P = KeepsBesideSpares x old.world in
    let first = since_weaker (λ so_far. KeepsBeside x.fresh old.world) (λ so_far. P) old one (λ so_far w is. keeps_first x old.world w is)
    (since_write c.write_new.result x.fresh old.world old one (λ h q ne. refl) n c.write_new.ensures.does) in
    let second = since_then (λ so_far. P) old one two first
    (since_brought c.sync.result P one two x.fresh (λ h. since_now (λ so_far. P) old one first (c.sync.ensures.silent.honest h)) c.sync.ensures.does) in
    since_then (λ so_far. P) old two new second
    (since_move c.rename.result P two new x.fresh x.backup (λ h. since_now (λ so_far. P) old two second (c.rename.ensures.silent.honest h))
    (λ h.
    let h0 = c.write_new.ensures.silent.honest (c.sync.ensures.silent.honest (c.rename.ensures.silent.honest h)) in
    subst (λ w. P (moved w x.fresh x.backup)) (sym c.in_ok-sync.ensures.does.world)
    (copied_keeps x n old.world c.requires.named c.requires.file (c.requires.spare h0) (c.requires.absent h0) one.world (wrote_aside x.fresh n old one c.in_ok-write_new.ensures.does)))
    c.rename.ensures.does)
