use Rattle.removal_page.proofs.Configuring.{whole}
use Rattle.removal_page.proofs.laws.configuring_is_on_the_page.Goals as goal

pub returns : goal.returns
returns c = λ ways r listed decisions stages paths are. whole r listed ways decisions paths stages are
