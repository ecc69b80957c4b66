use Rattle.policy_page.specs.Lines.{rows_alone}
use Rattle.policy_page.specs.Page.{install, upgrade, upgrade_unconfigured}
use Rattle.policy_page.proofs.Installs.{whole as of_install}
use Rattle.policy_page.proofs.Telling.{told}
use Rattle.policy_page.proofs.Unconfigured.{whole as of_unconfigured}
use Rattle.policy_page.proofs.Upgrades.{whole as of_upgrade}
use Rattle.policy_page.proofs.laws.a_run_tells_a_line.Goals as goal

pub returns-clause-upgrade : goal.returns-clause-upgrade
returns-clause-upgrade g c = λ t start incoming ended a b before now prerm run.
    told (upgrade start incoming) (rows_alone start incoming) ended ((of_upgrade start incoming prerm).each ended) (g.A.Around.file_step_fault t) a b before now run

pub returns-clause-unconfigured : goal.returns-clause-unconfigured
returns-clause-unconfigured g c = λ t start incoming ended a b before now none upgraded run.
    told (upgrade_unconfigured start incoming) (rows_alone start incoming) ended ((of_unconfigured start incoming none upgraded).each ended) (g.A.Around.file_step_fault t) a b before now run

pub returns-clause-install : goal.returns-clause-install
returns-clause-install g c = λ t start incoming ended a b before now fresh run.
    told (install start incoming) (rows_alone start incoming) ended ((of_install start incoming fresh).each ended) (g.A.Around.file_step_fault t) a b before now run
