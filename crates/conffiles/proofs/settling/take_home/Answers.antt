use Rattle.std.proofs.Common.{ap, ◌∙◌}
use Rattle.host_core.proofs.Losses.{proper_synced}
use Rattle.host_core.specs.Unsynced.{is_temporary}
use Rattle.host_core.specs.World.{Move}
use Rattle.host_core.specs.declared.suffix.Suffix.TheVariants as suffix
use Rattle.host_core.proofs.ShipNames.{beside_proper, parent_home_of}
use Rattle.conffiles.specs.declared.decisions.Decision.TheVariants.{TakeNew}
use Rattle.conffiles.specs.Settling.{HasChanged, IsChanging, settled_files}
use Rattle.conffiles.proofs.ConffileWorlds.{changing_start}
use Rattle.conffiles.proofs.Settlings.{since_move, left_by, parent_at, taken_there}
use Rattle.conffiles.proofs.settling.take_home.Goals as goal

pub rename-requires-clause-synced : goal.rename-requires-clause-synced
rename-requires-clause-synced g c = λ h. proper_synced _ _ (g.H.Host.settled c.args.host.now h) (ap is_temporary c.in_ok-shipped.ensures ∙ beside_proper c.args.path.now suffix.New (λ e. cc))

pub rename-requires-clause-parent : goal.rename-requires-clause-parent
rename-requires-clause-parent g c = λ h.
    let w = (g.H.Host.state c.args.host.now).world in
    parent_at w _ _ c.in_ok-home.ensures (parent_home_of w c.args.path.now suffix.New (g.H.Host.tree c.args.host.now h) c.law.ensures (c.requires.there h))

pub returns-clause-settled : goal.returns-clause-settled
returns-clause-settled g c = λ h.
    let before = c.rename.ensures.silent.honest h in
    let old = (g.H.Host.state c.args.host.now).world in
    left_by (HasChanged (settled_files TakeNew) c.args.path.now old) c.rename.result (Move c.in_ok-shipped.shipped c.in_ok-home.home) _ _ c.rename.ensures.does
    (taken_there c.args.path.now _ _ old c.in_ok-shipped.ensures c.in_ok-home.ensures (c.requires.same before) (c.requires.can before)).done

pub returns-clause-any_moment : goal.returns-clause-any_moment
returns-clause-any_moment g c =
    let old = (g.H.Host.state c.args.host.now).world in
    since_move (IsChanging (settled_files TakeNew) c.args.path.now old) _ _ _ _ _ c.rename.ensures.does
    (λ h. changing_start (settled_files TakeNew) c.args.path.now old (c.requires.can (c.rename.ensures.silent.honest h)))
    (λ h. let before = c.rename.ensures.silent.honest h in (taken_there c.args.path.now _ _ old c.in_ok-shipped.ensures c.in_ok-home.ensures (c.requires.same before) (c.requires.can before)).on_way)
