use Rattle.stop_laws.proofs.Configures.{configure_keeps}
use Rattle.stop_laws.proofs.OtherPlaces.{removal_keeps}
use Rattle.stop_laws.proofs.owned.what_stands_at_places_of_other_packages.Goals as goal

pub returns-clause-removing : goal.returns-clause-removing
returns-clause-removing c = λ given removable old now so_far q owned plain out amid. removal_keeps given removable q owned plain out old now so_far amid

pub returns-clause-configuring : goal.returns-clause-configuring
returns-clause-configuring c = λ given r old now so_far q found owned none out amid. configure_keeps given r found q owned out none old now so_far amid
