use Rattle.std.proofs.Common.{ap, ◌∙◌}
use Rattle.host_core.proofs.Moments.{since_weaker_if}
use Rattle.host_core.specs.Unsynced.{is_temporary}
use Rattle.host_core.proofs.ShipNames.{ships, plain_proper, parent_beside_home}
use Rattle.conffiles.proofs.Settlings.{on_ok, rename_done, rename_changing, parent_at, some_at}
use Rattle.host_core.specs.declared.suffix.Suffix.TheVariants as suffix
use Rattle.conffiles.proofs.settling.rename_home.Goals as goal

pub move_file-requires-clause-proper : goal.move_file-requires-clause-proper
move_file-requires-clause-proper g c = ap is_temporary c.in_ok-home.ensures ∙ plain_proper c.args.path.now (ships c.args.path.now c.law.ensures).plain

pub move_file-requires-clause-parent : goal.move_file-requires-clause-parent
move_file-requires-clause-parent g c = λ h some.
    let w = (g.H.Host.state c.args.host.now).world in
    parent_at w _ _ c.in_ok-backup.ensures (parent_beside_home w c.args.path.now suffix.Old (g.H.Host.tree c.args.host.now h) c.law.ensures (some_at w _ _ c.in_ok-home.ensures some))

pub returns-clause-settled : goal.returns-clause-settled
returns-clause-settled g c = λ h.
    on_ok c.move_file.result (rename_done _ _ _ _ _ c.in_ok-home.ensures c.in_ok-backup.ensures (c.requires (c.move_file.ensures.silent.honest h))) (c.move_file.ensures.moved h)

pub returns-clause-any_moment : goal.returns-clause-any_moment
returns-clause-any_moment g c =
    since_weaker_if _ _ _ _ (λ h so_far w is. rename_changing _ _ _ _ w c.in_ok-home.ensures c.in_ok-backup.ensures (c.requires (c.move_file.ensures.silent.honest h)) is) c.move_file.ensures.any_moment
