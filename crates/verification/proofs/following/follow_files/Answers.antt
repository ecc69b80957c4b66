use Rattle.std.proofs.Common.{◌∙◌, List, subst}
use Rattle.host_core.specs.Paths.{Path}
use Rattle.file_lists.proofs.Growing.{more_start}
use Rattle.file_lists.specs.Followed.{AreWhole}
use Rattle.opening.proofs.Followed.{on_ok}
use Rattle.verification.proofs.following.follow_files.Goals as goal

pub returns-in_err-paths-clause-grows : goal.returns-in_err-paths-clause-grows
returns-in_err-paths-clause-grows g c = let s = g.H.Host.state c.args.host.now in more_start s.honest s.world c.args.diversions.now

pub returns-clause-whole : goal.returns-clause-whole
returns-clause-whole g c = λ h.
    let w = (g.H.Host.state c.args.host.now).world in
    on_ok c.read_above_each.result
    (λ whole each. subst (λ (paths : List Path). AreWhole w paths c.read_above_each.new.diversions.ways.aliases) (c.as_slice.ensures.value ∙ c.in_ok-paths.ensures) (whole each))
    (c.read_above_each.ensures.whole h)
