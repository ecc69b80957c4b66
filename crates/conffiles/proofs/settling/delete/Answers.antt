use Rattle.host_core.proofs.Moments.{since_weaker_if}
use Rattle.conffiles.proofs.Settlings.{on_ok, deleted, deleting}
use Rattle.conffiles.proofs.settling.delete.Goals as goal

pub returns-clause-settled : goal.returns-clause-settled
returns-clause-settled g c = λ h. on_ok c.discard.result (deleted _ _ _ _ c.in_ok-home.ensures) (c.discard.ensures.dropped h)

pub returns-clause-any_moment : goal.returns-clause-any_moment
returns-clause-any_moment g c =
    since_weaker_if _ _ _ _ (λ h so_far w is. deleting _ _ _ w c.in_ok-home.ensures (c.requires (c.discard.ensures.silent.honest h)) is) c.discard.ensures.any_moment
