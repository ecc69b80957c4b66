use Rattle.policy_page.proofs.Unconfigured.{whole}
use Rattle.policy_page.proofs.laws.an_unconfigured_upgrade_is_on_the_page.Goals as goal

pub returns : goal.returns
returns c = λ start incoming none upgraded. whole start incoming none upgraded
