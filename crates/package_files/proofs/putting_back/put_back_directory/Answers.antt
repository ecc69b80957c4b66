use Rattle.std.proofs.Common.{◌≡◌, [], ◌∷◌, Some, refl, subst}
use Rattle.host_core.specs.declared.node.Kind.{Kind}
use Rattle.host_core.proofs.Moments.{since_start}
use Rattle.package_files.specs.Back.{IsGoingBack}
use Rattle.package_files.proofs.BackOne.{going_back_same, left_back_directory, left_back_link}
use Rattle.package_files.proofs.putting_back.put_back_directory.Goals as goal

pub returns-in-Some-Directory-clause-back : goal.returns-in-Some-Directory-clause-back
returns-in-Some-Directory-clause-back g c = λ h. left_back_directory c.args.work.now _ (subst (λ (k : Kind). c.args.work.now.had ≡ Some k) (rw c.in-Some-Directory.is at c.in-Some-Directory.field-0-is) c.in-Some-Directory.is)

pub returns-in-Some-SymbolicLink-clause-back : goal.returns-in-Some-SymbolicLink-clause-back
returns-in-Some-SymbolicLink-clause-back g c = λ h. left_back_link c.args.work.now _ c.requires.node (subst (λ (k : Kind). c.args.work.now.had ≡ Some k) (rw c.in-Some-SymbolicLink.is at c.in-Some-SymbolicLink.field-0-is) c.in-Some-SymbolicLink.is)

pub returns-in-Some-Directory-clause-any_moment : goal.returns-in-Some-Directory-clause-any_moment
returns-in-Some-Directory-clause-any_moment g c =
    let old = g.H.Host.state c.args.host.now in
    let x = c.args.work.now in
    since_start (λ so_far. IsGoingBack (x ∷ []) old.world) old (going_back_same x old.world old.world refl)

pub returns-in-Some-SymbolicLink-clause-any_moment : goal.returns-in-Some-SymbolicLink-clause-any_moment
returns-in-Some-SymbolicLink-clause-any_moment g c =
    let old = g.H.Host.state c.args.host.now in
    let x = c.args.work.now in
    since_start (λ so_far. IsGoingBack (x ∷ []) old.world) old (going_back_same x old.world old.world refl)
