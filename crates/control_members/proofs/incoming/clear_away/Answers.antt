use Rattle.std.proofs.Common.{◌∙◌, sym, subst}
use Rattle.administration.specs.Places.{tmp_path}
use Rattle.host_core.specs.Host.{Since}
use Rattle.host_core.proofs.Moments.{since_weaker_if}
use Rattle.administration.specs.Directories.{IsFlat, IsTaking}
use Rattle.control_members.proofs.LaidOut.{laid_flat, laid_incoming, laying_same, laying_taking}
use Rattle.control_members.proofs.incoming.clear_away.Goals as goal

pub remove_flat-requires-clause-flat : goal.remove_flat-requires-clause-flat
remove_flat-requires-clause-flat g c = λ h.
    let w = (g.H.Host.state c.args.host.now).world in
    subst (λ q. IsFlat w q c.as_slice.result.now) (sym c.in_ok-incoming.ensures)
    (subst (IsFlat w tmp_path) (sym (c.as_slice.ensures ∙ c.in_ok-names.ensures)) (laid_flat c.args.members.now w (c.requires h)))

pub returns-clause-any_moment : goal.returns-clause-any_moment
returns-clause-any_moment g c =
    let old = g.H.Host.state c.args.host.now in
    let taking = subst (λ q. Since (λ so_far. IsTaking q old.world) old (g.H.Host.state c.remove_flat.new.host)) c.in_ok-incoming.ensures c.remove_flat.ensures.any_moment in
    since_weaker_if _ _ _ _ (λ h so_far w is. laying_taking old.world w (laid_incoming c.args.members.now old.world (c.requires (taking.honest h))) is) taking

pub returns-in_err-incoming-clause-any_moment : goal.returns-in_err-incoming-clause-any_moment
returns-in_err-incoming-clause-any_moment g c = laying_same _ (λ h. laid_incoming c.args.members.now _ (c.requires h))

pub returns-in_err-names-clause-any_moment : goal.returns-in_err-names-clause-any_moment
returns-in_err-names-clause-any_moment g c = laying_same _ (λ h. laid_incoming c.args.members.now _ (c.requires h))
