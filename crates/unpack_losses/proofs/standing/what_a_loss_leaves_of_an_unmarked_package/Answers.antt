use Rattle.unpack_losses.proofs.Unmarked.{unmarked_left}
use Rattle.unpack_losses.proofs.standing.what_a_loss_leaves_of_an_unmarked_package.Goals as goal

pub returns : goal.returns
returns c = λ kept g places begun old new left q. unmarked_left c.what_is_marked.ensures kept g places begun old new left q
