use Rattle.std.proofs.Common.{◌≡◌, ◌⊎◌, [], ◌∷◌, None, refl, sym, ap, subst, ◌∙◌}
use Rattle.host_core.specs.World.{put}
use Rattle.host_core.proofs.Moments.{since_reads, since_then, since_weaker_if}
use Rattle.package_files.specs.Back.{GoesBack, IsGoingBack, restored}
use Rattle.package_files.proofs.BackOne.{going_back_same, unmade_going, unmade_can, unmade_back, unmade_restored}
use Rattle.package_files.proofs.WriteMoments.{on_ok, since_dir_gone}
use Rattle.package_files.proofs.putting_back.unmake.Goals as goal

pub returns-in_err-is_bare-clause-any_moment : goal.returns-in_err-is_bare-clause-any_moment
returns-in_err-is_bare-clause-any_moment g c =
    let old = g.H.Host.state c.args.host.now in
    let x = c.args.work.now in
    since_reads (λ so_far. IsGoingBack (x ∷ []) old.world) old _ c.is_bare.ensures.looks.reads (λ fs all. going_back_same x old.world old.world refl)

pub returns-then-not-branch-clause-any_moment : goal.returns-then-not-branch-clause-any_moment
returns-then-not-branch-clause-any_moment g c =
    let old = g.H.Host.state c.args.host.now in
    let x = c.args.work.now in
    since_reads (λ so_far. IsGoingBack (x ∷ []) old.world) old _ c.is_bare.ensures.looks.reads (λ fs all. going_back_same x old.world old.world refl)

pub returns-in_err-remove_dir-clause-any_moment : goal.returns-in_err-remove_dir-clause-any_moment
returns-in_err-remove_dir-clause-any_moment g c =
    let old = g.H.Host.state c.args.host.now in
    let look = g.H.Host.state c.is_bare.new.host in
    let new = g.H.Host.state c.remove_dir.new.self in
    let x = c.args.work.now in
    let same = c.is_bare.ensures.looks.reads.world in
    let P = IsGoingBack (x ∷ []) old.world in
    since_then (λ so_far. P) old look new (since_reads (λ so_far. P) old look c.is_bare.ensures.looks.reads (λ fs all. going_back_same x old.world old.world refl))
    (since_dir_gone c.remove_dir.result x.target look new P (λ h. going_back_same x old.world look.world same)
    (λ h. unmade_going x old.world (put look.world x.target None) c.requires.named c.requires.made (ap (λ w. put w x.target None) same)) c.remove_dir.ensures.does)

pub restore_old-requires-clause-there : goal.restore_old-requires-clause-there
restore_old-requires-clause-there g c = λ h.
    let h1 = c.remove_dir.ensures.silent.honest h in
    let h0 = c.is_bare.ensures.looks.silent.honest h1 in
    let x = c.args.work.now in
    unmade_can x _ _ c.requires.named c.requires.made (c.in_ok-remove_dir.ensures.does.world ∙ ap (λ w. put w x.target None) c.is_bare.ensures.looks.reads.world) (c.requires.written h0)

pub returns-clause-back : goal.returns-clause-back
returns-clause-back g c = λ h.
    let old = (g.H.Host.state c.args.host.now).world in
    let mid = (g.H.Host.state c.remove_dir.new.self).world in
    let new = (g.H.Host.state c.restore_old.new.host).world in
    let x = c.args.work.now in
    on_ok c.restore_old.result (new ≡ restored x.had x.target x.backup mid) (GoesBack (x ∷ []) old new)
    (λ is. subst (GoesBack (x ∷ []) old) (sym is)
    (unmade_back x old mid c.requires.named c.requires.made (c.in_ok-remove_dir.ensures.does.world ∙ ap (λ w. put w x.target None) c.is_bare.ensures.looks.reads.world)))
    (c.restore_old.ensures.restored h)

pub returns-clause-any_moment : goal.returns-clause-any_moment
returns-clause-any_moment g c =
    let old = g.H.Host.state c.args.host.now in
    let look = g.H.Host.state c.is_bare.new.host in
    let mid = g.H.Host.state c.remove_dir.new.self in
    let new = g.H.Host.state c.restore_old.new.host in
    let x = c.args.work.now in
    let same = c.is_bare.ensures.looks.reads.world in
    let P = IsGoingBack (x ∷ []) old.world in
    let first = since_then (λ so_far. P) old look mid (since_reads (λ so_far. P) old look c.is_bare.ensures.looks.reads (λ fs all. going_back_same x old.world old.world refl))
    (since_dir_gone c.remove_dir.result x.target look mid P (λ h. going_back_same x old.world look.world same)
    (λ h. unmade_going x old.world (put look.world x.target None) c.requires.named c.requires.made (ap (λ w. put w x.target None) same)) c.remove_dir.ensures.does) in
    since_then (λ so_far. P) old mid new first
    (since_weaker_if (λ so_far now. (now ≡ mid.world) ⊎ (now ≡ restored x.had x.target x.backup mid.world)) (λ so_far. P) mid new
    (λ h so_far w is. unmade_restored x old.world mid.world c.requires.named c.requires.made (c.in_ok-remove_dir.ensures.does.world ∙ ap (λ w. put w x.target None) same) w is)
    c.restore_old.ensures.any_moment)
