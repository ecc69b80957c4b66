use Rattle.policy_page.proofs.Installs.{whole}
use Rattle.policy_page.proofs.laws.an_install_is_on_the_page.Goals as goal

pub returns : goal.returns
returns c = λ start incoming fresh. whole start incoming fresh
