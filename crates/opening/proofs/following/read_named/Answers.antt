use Rattle.std.proofs.Common.{◌∙◌, List, sym, subst, ap}
use Rattle.host_core.specs.Paths.{Path}
use Rattle.diversions.specs.Diverted.{Diverted}
use Rattle.diversions.specs.declared.entry.Diversion.{Diversion}
use Rattle.file_lists.proofs.Growing.{more_start}
use Rattle.file_lists.specs.Followed.{AreWhole}
use Rattle.opening.specs.Followed.{named_paths}
use Rattle.opening.proofs.Followed.{on_ok}
use Rattle.opening.proofs.following.read_named.Goals as goal

pub returns-in_err-paths-clause-grows : goal.returns-in_err-paths-clause-grows
returns-in_err-paths-clause-grows g c = let s = g.H.Host.state c.args.host.now in more_start s.honest s.world c.args.diversions.now

pub returns-clause-whole : goal.returns-clause-whole
returns-clause-whole g c = λ h.
    let w = (g.H.Host.state c.args.host.now).world in
    let new = c.read_above_each.new.diversions in
    on_ok c.read_above_each.result
    (λ whole each.
    subst (λ (entries : List Diversion). AreWhole w (named_paths entries) new.ways.aliases) (sym (ap (λ (d : Diverted). d.ways.entries) c.read_above_each.ensures.grows.kept))
    (subst (λ (paths : List Path). AreWhole w paths new.ways.aliases) (c.as_slice.ensures.value ∙ c.in_ok-paths.ensures) (whole each)))
    (c.read_above_each.ensures.whole h)
