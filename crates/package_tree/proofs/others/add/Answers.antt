use Rattle.std.proofs.Common.{◌≡◌, ◌∙◌, ◌∷◌, ◌++◌, false, ap, subst, Option}
use Rattle.std.specs.Prelude.{MatchOption}
use Rattle.host_core.specs.Paths.{Path, is_path}
use Rattle.host_core.specs.declared.node.Node.{Node}
use Rattle.package_tree.specs.OtherFiles.{HasTakenOther}
use Rattle.package_tree.proofs.others.add.Goals as goal

pub returns-clause-taken : goal.returns-clause-taken
returns-clause-taken g c = λ h.
    let w = (g.H.Host.state c.args.host.now).world in
    let dir = c.args.directory.now in
    let name = c.args.name in
    let is = subst (λ o. MatchOption o (is_path (dir ++ 47 ∷ name) ≡ false) (λ (p : Path). p ≡ dir ++ 47 ∷ name)) c.in-Some.is c.in_ok-path.ensures in
    subst (λ (node : Option Node). HasTakenOther name node c.args.others.now.items c.push.new.others.items) (c.in_ok-node.ensures.found h ∙ ap w (is ∙ ap (λ (d : Path). d ++ 47 ∷ name) c.requires.directory)) c.in_ok-push.ensures
