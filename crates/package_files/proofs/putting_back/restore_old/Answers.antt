use Rattle.std.proofs.Common.{◌≡◌, ◌⊎◌, inl, inr, refl, sym, ap, subst}
use Rattle.host_core.proofs.Losses.{proper_synced}
use Rattle.package_files.specs.Back.{CanRestore, restored}
use Rattle.package_files.proofs.WorkNames.{backup_proper}
use Rattle.package_files.proofs.BackOne.{home_by_backup}
use Rattle.package_files.proofs.WriteMoments.{since_move}
use Rattle.package_files.proofs.putting_back.restore_old.Goals as goal

pub rename-requires-clause-synced : goal.rename-requires-clause-synced
rename-requires-clause-synced g c = λ h. proper_synced _ _ (g.H.Host.settled c.args.host.now h) (backup_proper c.args.work.now c.requires.named)

pub rename-requires-clause-parent : goal.rename-requires-clause-parent
rename-requires-clause-parent g c = λ h.
    let x = c.args.work.now in
    let w = (g.H.Host.state c.args.host.now).world in
    home_by_backup w x c.requires.named (g.H.Host.tree c.args.host.now h) (subst (λ k. CanRestore k (w x.target) (w x.backup)) c.in-Some.is (c.requires.there h)).0.0

pub returns-in-Some-clause-any_moment : goal.returns-in-Some-clause-any_moment
returns-in-Some-clause-any_moment g c =
    let old = g.H.Host.state c.args.host.now in
    let x = c.args.work.now in
    since_move c.rename.result (λ now. (now ≡ old.world) ⊎ (now ≡ restored x.had x.target x.backup old.world)) old (g.H.Host.state c.rename.new.self) x.backup x.target
    (λ h. inl refl) (λ h. inr (ap (λ k. restored k x.target x.backup old.world) (sym c.in-Some.is))) c.rename.ensures.does
