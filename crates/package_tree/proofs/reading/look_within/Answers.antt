use Rattle.std.proofs.Common.{Option, inl, inr, subst}
use Rattle.std.specs.Prelude.{MatchOption}
use Rattle.host_core.specs.Paths.{Path}
use Rattle.host_core.specs.World.{World}
use Rattle.package_tree.specs.ControlLimit.{HasNoneOver, IsFirstOver}
use Rattle.package_tree.specs.Debian.{member_paths}
use Rattle.package_tree.proofs.reading.look_within.Goals as goal

abbrev Told : World → Option Path → Type 0
Told w found = MatchOption found (HasNoneOver w member_paths) (IsFirstOver w member_paths)

pub returns-in-Some-clause-fault : goal.returns-in-Some-clause-fault
returns-in-Some-clause-fault g c = λ h.
    let w = (g.H.Host.state c.args.host.now).world in
    let told = c.in_ok-path.ensures w (c.in_ok-look.ensures.found h) in
    inl (inl (inr (c.requires.control (c.look.ensures.silent.honest h), subst (Told w) c.in-Some.is told)))

pub returns-in-None-clause-files : goal.returns-in-None-clause-files
returns-in-None-clause-files g c = λ h.
    let w = (g.H.Host.state c.args.host.now).world in
    let told = c.in_ok-path.ensures w (c.in_ok-look.ensures.found h) in
    (c.requires.control (c.look.ensures.silent.honest h), subst (Told w) c.in-None.is told)
