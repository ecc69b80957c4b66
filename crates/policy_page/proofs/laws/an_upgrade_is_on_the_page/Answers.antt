use Rattle.policy_page.proofs.Upgrades.{whole}
use Rattle.policy_page.proofs.laws.an_upgrade_is_on_the_page.Goals as goal

pub returns : goal.returns
returns c = λ start incoming prerm. whole start incoming prerm
