use Rattle.std.proofs.Common.{◌≡◌, ◌⊎◌, [], ◌∷◌, Some, refl, sym, subst}
use Rattle.host_core.specs.declared.node.Kind.{Kind}
use Rattle.host_core.specs.declared.node.Kind.TheVariants as kind
use Rattle.host_core.proofs.Moments.{since_start, since_weaker}
use Rattle.package_files.specs.Back.{GoesBack, IsGoingBack, restored}
use Rattle.package_files.proofs.BackOne.{none_there, none_back, none_going, going_back_same, had_file, had_link, loose_can, loose_back, loose_going, left_back_directory}
use Rattle.package_files.proofs.WriteMoments.{on_ok, since_gone, gone_by}
use Rattle.package_files.proofs.putting_back.put_back_loose.Goals as goal

pub remove-requires : goal.remove-requires
remove-requires g c = record { there = λ h. none_there c.args.work.now _ c.requires.named c.requires.node c.in-None.is (c.requires.written h) }

pub returns-in-None-clause-back : goal.returns-in-None-clause-back
returns-in-None-clause-back g c = λ h.
    let old = (g.H.Host.state c.args.host.now).world in
    let x = c.args.work.now in
    gone_by c.remove.result x.target _ _ (GoesBack (x ∷ []) old) (none_back x old c.requires.named c.requires.node c.in-None.is) c.remove.ensures.does

pub returns-in-None-clause-any_moment : goal.returns-in-None-clause-any_moment
returns-in-None-clause-any_moment g c =
    let old = g.H.Host.state c.args.host.now in
    let x = c.args.work.now in
    since_gone c.remove.result x.target old (g.H.Host.state c.remove.new.self) (IsGoingBack (x ∷ []) old.world) (λ h. going_back_same x old.world old.world refl) (λ h. none_going x old.world c.requires.named c.requires.node c.in-None.is) c.remove.ensures.does

pub restore_old-requires-clause-there : goal.restore_old-requires-clause-there
restore_old-requires-clause-there g c = λ h.
    let had : c.args.work.now.had ≡ Some kind.File = subst (λ (k : Kind). c.args.work.now.had ≡ Some k) (rw c.in-Some-File.is at c.in-Some-File.field-0-is) c.in-Some-File.is in
    loose_can c.args.work.now _ c.requires.named c.requires.node (had_file c.args.work.now had) (c.requires.written h)

pub returns-in-Some-File-clause-back : goal.returns-in-Some-File-clause-back
returns-in-Some-File-clause-back g c = λ h.
    let had : c.args.work.now.had ≡ Some kind.File = subst (λ (k : Kind). c.args.work.now.had ≡ Some k) (rw c.in-Some-File.is at c.in-Some-File.field-0-is) c.in-Some-File.is in
    let old = (g.H.Host.state c.args.host.now).world in
    let new = (g.H.Host.state c.restore_old.new.host).world in
    let x = c.args.work.now in
    on_ok c.restore_old.result (new ≡ restored x.had x.target x.backup old) (GoesBack (x ∷ []) old new)
    (λ is. subst (GoesBack (x ∷ []) old) (sym is) (loose_back x old c.requires.named c.requires.node (had_file x had))) (c.restore_old.ensures.restored h)

pub returns-in-Some-File-clause-any_moment : goal.returns-in-Some-File-clause-any_moment
returns-in-Some-File-clause-any_moment g c =
    let had : c.args.work.now.had ≡ Some kind.File = subst (λ (k : Kind). c.args.work.now.had ≡ Some k) (rw c.in-Some-File.is at c.in-Some-File.field-0-is) c.in-Some-File.is in
    let old = g.H.Host.state c.args.host.now in
    let x = c.args.work.now in
    since_weaker (λ so_far now. (now ≡ old.world) ⊎ (now ≡ restored x.had x.target x.backup old.world)) (λ so_far. IsGoingBack (x ∷ []) old.world) old (g.H.Host.state c.restore_old.new.host)
    (λ so_far w is. loose_going x old.world c.requires.named c.requires.node (had_file x had) w is) c.restore_old.ensures.any_moment

pub returns-in-Some-Directory-clause-back : goal.returns-in-Some-Directory-clause-back
returns-in-Some-Directory-clause-back g c = λ h.
    let had : c.args.work.now.had ≡ Some kind.Directory = subst (λ (k : Kind). c.args.work.now.had ≡ Some k) (rw c.in-Some-Directory.is at c.in-Some-Directory.field-0-is) c.in-Some-Directory.is in
    left_back_directory c.args.work.now _ had

pub returns-in-Some-Directory-clause-any_moment : goal.returns-in-Some-Directory-clause-any_moment
returns-in-Some-Directory-clause-any_moment g c =
    let old = g.H.Host.state c.args.host.now in
    let x = c.args.work.now in
    since_start (λ so_far. IsGoingBack (x ∷ []) old.world) old (going_back_same x old.world old.world refl)

pub restore_old-requires-in-Some-SymbolicLink-clause-there : goal.restore_old-requires-in-Some-SymbolicLink-clause-there
restore_old-requires-in-Some-SymbolicLink-clause-there g c = λ h.
    let had : c.args.work.now.had ≡ Some kind.SymbolicLink = subst (λ (k : Kind). c.args.work.now.had ≡ Some k) (rw c.in-Some-SymbolicLink.is at c.in-Some-SymbolicLink.field-0-is) c.in-Some-SymbolicLink.is in
    loose_can c.args.work.now _ c.requires.named c.requires.node (had_link c.args.work.now had) (c.requires.written h)

pub returns-in-Some-SymbolicLink-clause-back : goal.returns-in-Some-SymbolicLink-clause-back
returns-in-Some-SymbolicLink-clause-back g c = λ h.
    let had : c.args.work.now.had ≡ Some kind.SymbolicLink = subst (λ (k : Kind). c.args.work.now.had ≡ Some k) (rw c.in-Some-SymbolicLink.is at c.in-Some-SymbolicLink.field-0-is) c.in-Some-SymbolicLink.is in
    let old = (g.H.Host.state c.args.host.now).world in
    let new = (g.H.Host.state c.restore_old-in-Some-SymbolicLink.new.host).world in
    let x = c.args.work.now in
    on_ok c.restore_old-in-Some-SymbolicLink.result (new ≡ restored x.had x.target x.backup old) (GoesBack (x ∷ []) old new)
    (λ is. subst (GoesBack (x ∷ []) old) (sym is) (loose_back x old c.requires.named c.requires.node (had_link x had))) (c.restore_old-in-Some-SymbolicLink.ensures.restored h)

pub returns-in-Some-SymbolicLink-clause-any_moment : goal.returns-in-Some-SymbolicLink-clause-any_moment
returns-in-Some-SymbolicLink-clause-any_moment g c =
    let had : c.args.work.now.had ≡ Some kind.SymbolicLink = subst (λ (k : Kind). c.args.work.now.had ≡ Some k) (rw c.in-Some-SymbolicLink.is at c.in-Some-SymbolicLink.field-0-is) c.in-Some-SymbolicLink.is in
    let old = g.H.Host.state c.args.host.now in
    let x = c.args.work.now in
    since_weaker (λ so_far now. (now ≡ old.world) ⊎ (now ≡ restored x.had x.target x.backup old.world)) (λ so_far. IsGoingBack (x ∷ []) old.world) old (g.H.Host.state c.restore_old-in-Some-SymbolicLink.new.host)
    (λ so_far w is. loose_going x old.world c.requires.named c.requires.node (had_link x had) w is) c.restore_old-in-Some-SymbolicLink.ensures.any_moment
