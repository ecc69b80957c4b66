use Rattle.host_core.proofs.Moments.{since_then}
use Rattle.administration.specs.Files.{KeepsBeside}
use Rattle.package_files.proofs.WriteMoments.{looked, keeps_looked, since_take}
use Rattle.package_files.proofs.clearing.clear_name.Goals as goal

pub returns-in_err-kind-clause-any_moment : goal.returns-in_err-kind-clause-any_moment
returns-in_err-kind-clause-any_moment g c = looked c.args.path.now _ _ c.kind.ensures.reads

pub returns-in-None-clause-any_moment : goal.returns-in-None-clause-any_moment
returns-in-None-clause-any_moment g c = looked c.args.path.now _ _ c.kind.ensures.reads

pub returns-in-Some-Directory-clause-any_moment : goal.returns-in-Some-Directory-clause-any_moment
returns-in-Some-Directory-clause-any_moment g c = looked c.args.path.now _ _ c.kind.ensures.reads

pub returns-in-Some-File-clause-any_moment : goal.returns-in-Some-File-clause-any_moment
returns-in-Some-File-clause-any_moment g c =
    let old = g.H.Host.state c.args.host.now in
    let mid = g.H.Host.state c.kind.new.self in
    let new = g.H.Host.state c.remove.new.self in
    let p = c.args.path.now in
    since_then (λ so_far. KeepsBeside p old.world) old mid new (looked p old mid c.kind.ensures.reads)
    (since_take c.remove.result p old.world mid new (λ h. keeps_looked p old mid c.kind.ensures.reads) c.remove.ensures.does)

pub returns-in-Some-SymbolicLink-clause-any_moment : goal.returns-in-Some-SymbolicLink-clause-any_moment
returns-in-Some-SymbolicLink-clause-any_moment g c =
    let old = g.H.Host.state c.args.host.now in
    let mid = g.H.Host.state c.kind.new.self in
    let new = g.H.Host.state c.remove-in-Some-SymbolicLink.new.self in
    let p = c.args.path.now in
    since_then (λ so_far. KeepsBeside p old.world) old mid new (looked p old mid c.kind.ensures.reads)
    (since_take c.remove-in-Some-SymbolicLink.result p old.world mid new (λ h. keeps_looked p old mid c.kind.ensures.reads) c.remove-in-Some-SymbolicLink.ensures.does)
