use Rattle.std.proofs.Common.{ap, ◌∙◌}
use Rattle.host_core.proofs.Moments.{since_then, since_weaker_if}
use Rattle.host_core.specs.Paths.{is_path}
use Rattle.host_core.specs.World.{Take}
use Rattle.host_core.specs.declared.suffix.Suffix.TheVariants as suffix
use Rattle.host_core.proofs.ShipNames.{beside_is_path, parent_home_of}
use Rattle.administration.specs.Places.{temporary}
use Rattle.conffiles.specs.declared.decisions.Decision.TheVariants.{TakeNew}
use Rattle.conffiles.specs.Settling.{HasChanged, IsChanging, settled_files}
use Rattle.conffiles.proofs.Settlings.{since_take, left_by, parent_at, renewing, renewed_home, renewed_there}
use Rattle.conffiles.proofs.settling.renew.Goals as goal

pub replace-requires-clause-room : goal.replace-requires-clause-room
replace-requires-clause-room g c = ap (λ p. is_path (temporary p)) c.in_ok-home.ensures ∙ beside_is_path c.args.path.now suffix.Inst c.law.ensures

pub replace-requires-clause-parent : goal.replace-requires-clause-parent
replace-requires-clause-parent g c = λ h.
    let w = (g.H.Host.state c.args.host.now).world in
    parent_at w _ _ c.in_ok-home.ensures (parent_home_of w c.args.path.now suffix.New (g.H.Host.tree c.args.host.now h) c.law.ensures (c.requires.there h))

pub returns-in_err-replace-clause-any_moment : goal.returns-in_err-replace-clause-any_moment
returns-in_err-replace-clause-any_moment g c =
    let old = (g.H.Host.state c.args.host.now).world in
    since_weaker_if _ _ _ _ (λ h so_far w is. renewing c.args.path.now _ c.args.node.now old w c.in_ok-home.ensures (c.requires.renewed (c.replace.ensures.silent.honest h)) is) c.replace.ensures.any_moment

pub returns-clause-settled : goal.returns-clause-settled
returns-clause-settled g c = λ h.
    let mid = c.remove.ensures.silent.honest h in
    let old = (g.H.Host.state c.args.host.now).world in
    left_by (HasChanged (settled_files TakeNew) c.args.path.now old) c.remove.result (Take c.in_ok-shipped.shipped) _ _ c.remove.ensures.does
    (renewed_there c.args.path.now _ _ c.args.node.now old _ c.in_ok-home.ensures c.in_ok-shipped.ensures (c.requires.renewed (c.replace.ensures.silent.honest mid)) (c.in_ok-replace.ensures.replaced mid)).done

pub returns-clause-any_moment : goal.returns-clause-any_moment
returns-clause-any_moment g c =
    let old = (g.H.Host.state c.args.host.now).world in
    since_then (λ so_far. IsChanging (settled_files TakeNew) c.args.path.now old) _ _ _
    (since_weaker_if _ _ _ _ (λ h so_far w is. renewing c.args.path.now _ c.args.node.now old w c.in_ok-home.ensures (c.requires.renewed (c.replace.ensures.silent.honest h)) is) c.replace.ensures.any_moment)
    (since_take (IsChanging (settled_files TakeNew) c.args.path.now old) _ _ _ _ c.remove.ensures.does
    (λ h. let mid = c.remove.ensures.silent.honest h in renewed_home c.args.path.now _ c.args.node.now old _ c.in_ok-home.ensures (c.requires.renewed (c.replace.ensures.silent.honest mid)) (c.in_ok-replace.ensures.replaced mid))
    (λ h. let mid = c.remove.ensures.silent.honest h in (renewed_there c.args.path.now _ _ c.args.node.now old _ c.in_ok-home.ensures c.in_ok-shipped.ensures (c.requires.renewed (c.replace.ensures.silent.honest mid)) (c.in_ok-replace.ensures.replaced mid)).on_way))
