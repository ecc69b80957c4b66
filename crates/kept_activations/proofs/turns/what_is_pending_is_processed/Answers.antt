use Rattle.kept_activations.proofs.TakenUp.{up_passes}
use Rattle.kept_activations.proofs.turns.what_is_pending_is_processed.Goals as goal

pub returns : goal.returns
returns c = λ wanted names done before after s end owner trigger has none pending. (up_passes wanted names done before after s end has none).kept owner trigger pending
