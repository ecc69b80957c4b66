use Rattle.std.proofs.Common.{inl, inr, refl, sym, subst}
use Rattle.package_files.specs.Laid.{IsTakingPlace, HasTakenPlace}
use Rattle.package_files.proofs.WorkNames.{home_of, target_name}
use Rattle.package_files.proofs.Written.{loose_at, no_directory}
use Rattle.package_files.proofs.Taking.{all_moved, taking_home, taken_then}
use Rattle.package_files.proofs.WriteMoments.{since_move}
use Rattle.package_files.proofs.committing.take_place.Goals as goal

pub rename-requires-clause-there : goal.rename-requires-clause-there
rename-requires-clause-there g c = λ h.
    let ready = c.requires.ready h in
    loose_at _ c.args.work.now.node ready.fresh ready.loose

pub rename-requires-clause-over : goal.rename-requires-clause-over
rename-requires-clause-over g c = λ h. no_directory _ (c.requires.ready h).over

pub rename-requires-clause-parent : goal.rename-requires-clause-parent
rename-requires-clause-parent g c = λ h.
    let x = c.args.work.now in
    home_of _ x _ (target_name x c.requires.named) (taking_home x _ c.requires.named (c.requires.ready h) (g.H.Host.tree c.args.host.now h))

pub returns-in-Ok-clause-taken : goal.returns-in-Ok-clause-taken
returns-in-Ok-clause-taken g c = λ h whole.
    let old = (g.H.Host.state c.args.host.now).world in
    let x = c.args.work.now in
    subst (HasTakenPlace x old) (sym c.in-Ok.ensures.does.world) (taken_then x old c.requires.named (c.requires.ready (c.rename.ensures.silent.honest h)))

pub returns-in-Ok-clause-synced : goal.returns-in-Ok-clause-synced
returns-in-Ok-clause-synced g c = λ whole. all_moved c.args.work.now.fresh c.args.work.now.target _ _ c.in-Ok.ensures.does c.requires.synced

pub returns-in-Ok-clause-any_moment : goal.returns-in-Ok-clause-any_moment
returns-in-Ok-clause-any_moment g c =
    let old = g.H.Host.state c.args.host.now in
    let x = c.args.work.now in
    since_move c.rename.result (IsTakingPlace x old.world) old (g.H.Host.state c.rename.new.self) x.fresh x.target (λ h. inl refl)
    (λ h. inr (taken_then x old.world c.requires.named (c.requires.ready (c.rename.ensures.silent.honest h)))) c.rename.ensures.does

pub returns-in-Err-Device-clause-any_moment : goal.returns-in-Err-Device-clause-any_moment
returns-in-Err-Device-clause-any_moment g c =
    let old = g.H.Host.state c.args.host.now in
    let x = c.args.work.now in
    since_move c.rename.result (IsTakingPlace x old.world) old (g.H.Host.state c.rename.new.self) x.fresh x.target (λ h. inl refl)
    (λ h. inr (taken_then x old.world c.requires.named (c.requires.ready (c.rename.ensures.silent.honest h)))) c.rename.ensures.does
