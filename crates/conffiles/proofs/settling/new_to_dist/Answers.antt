use Rattle.std.proofs.Common.{ap, ◌∙◌}
use Rattle.host_core.proofs.Moments.{since_weaker_if}
use Rattle.host_core.specs.Unsynced.{is_temporary}
use Rattle.host_core.proofs.ShipNames.{beside_proper, parent_beside}
use Rattle.conffiles.proofs.Settlings.{on_ok, to_dist_done, to_dist_changing, parent_at, some_at}
use Rattle.host_core.specs.declared.suffix.Suffix.TheVariants as suffix
use Rattle.conffiles.proofs.settling.new_to_dist.Goals as goal

pub move_file-requires-clause-proper : goal.move_file-requires-clause-proper
move_file-requires-clause-proper g c = ap is_temporary c.in_ok-shipped.ensures ∙ beside_proper c.args.path.now suffix.New (λ e. cc)

pub move_file-requires-clause-parent : goal.move_file-requires-clause-parent
move_file-requires-clause-parent g c = λ h some.
    let w = (g.H.Host.state c.args.host.now).world in
    parent_at w _ _ c.in_ok-dist.ensures (parent_beside w c.args.path.now suffix.New suffix.Dist (g.H.Host.tree c.args.host.now h) c.law.ensures (some_at w _ _ c.in_ok-shipped.ensures some))

pub returns-clause-settled : goal.returns-clause-settled
returns-clause-settled g c = λ h.
    on_ok c.move_file.result (to_dist_done _ _ _ _ _ c.in_ok-shipped.ensures c.in_ok-dist.ensures (c.requires (c.move_file.ensures.silent.honest h))) (c.move_file.ensures.moved h)

pub returns-clause-any_moment : goal.returns-clause-any_moment
returns-clause-any_moment g c =
    since_weaker_if _ _ _ _ (λ h so_far w is. to_dist_changing _ _ _ _ w c.in_ok-shipped.ensures c.in_ok-dist.ensures (c.requires (c.move_file.ensures.silent.honest h)) is) c.move_file.ensures.any_moment
