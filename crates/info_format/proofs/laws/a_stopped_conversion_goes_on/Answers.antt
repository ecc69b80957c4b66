use Rattle.info_format.proofs.Conversion.{no_names_damage}
use Rattle.info_format.proofs.laws.a_stopped_conversion_goes_on.Goals as goal

pub returns-clause-convertible : goal.returns-clause-convertible
returns-clause-convertible c = λ arches old now is. is.ready

pub returns-clause-no_fault : goal.returns-clause-no_fault
returns-clause-no_fault c = no_names_damage
