use Rattle.std.proofs.Common.{Option, Some, None, List, inl, subst}
use Rattle.std.specs.Prelude.{MatchOption}
use Rattle.host_core.specs.Paths.{Path}
use Rattle.host_core.specs.World.{World}
use Rattle.package_tree.specs.Debian.{HasNoneWrong, member_paths}
use Rattle.package_tree.specs.PathFaults.{IsBadPath, HasNoneReserved, IsFirstReserved}
use Rattle.package_tree.specs.Shipped.{AreShipped, HasNoPath, IsBadBeside, IsFirstPath}
use Rattle.package_tree.proofs.Firsts.{first_reserved, none_reserved, no_bad_path}
use Rattle.package_tree.proofs.reading.read_paths.Goals as goal

abbrev Told : World → List Path → Option Path → Type 0
Told w found bad = MatchOption bad (HasNoneWrong w member_paths × (HasNoPath (IsBadBeside w) × AreShipped w found)) (IsFirstPath (IsBadPath w))

abbrev ToldReserved : List Path → Option Path → Type 0
ToldReserved paths found = MatchOption found (HasNoneReserved paths) (IsFirstReserved paths)

pub returns-in-Some-clause-fault : goal.returns-in-Some-clause-fault
returns-in-Some-clause-fault g c = λ h.
    let w = (g.H.Host.state c.args.host.now).world in
    inl (c.requires.control (c.first_bad.ensures.silent.honest h), subst (Told w c.first_bad.new.paths.items) c.in-Some.is (c.in_ok-path.ensures.found h))

pub returns-in-Some-2-clause-fault : goal.returns-in-Some-2-clause-fault
returns-in-Some-2-clause-fault g c = λ h.
    let w = (g.H.Host.state c.args.host.now).world in
    let paths = c.first_bad.new.paths.items in
    let good = subst (Told w paths) c.in_default.is (c.in_ok-path.ensures.found h) in
    let told = subst (λ (l : List Path). ToldReserved l (Some c.in-Some-2.path)) c.as_slice.ensures.value (subst (ToldReserved c.as_slice.result.now) c.in-Some-2.is c.in_ok-path-2.ensures) in
    inl (c.requires.control (c.first_bad.ensures.silent.honest h), no_bad_path w good.0 good.1.0, first_reserved w paths c.in-Some-2.path good.1.1 told)

pub returns-in-None-clause-paths : goal.returns-in-None-clause-paths
returns-in-None-clause-paths g c = λ h.
    let w = (g.H.Host.state c.args.host.now).world in
    let paths = c.first_bad.new.paths.items in
    let good = subst (Told w paths) c.in_default.is (c.in_ok-path.ensures.found h) in
    let told = subst (λ (l : List Path). ToldReserved l None) c.as_slice.ensures.value (subst (ToldReserved c.as_slice.result.now) c.in-None.is c.in_ok-path-2.ensures) in
    (record { files = good.0; beside = good.1.0; reserved = none_reserved w paths good.1.1 told }, good.1.1)
