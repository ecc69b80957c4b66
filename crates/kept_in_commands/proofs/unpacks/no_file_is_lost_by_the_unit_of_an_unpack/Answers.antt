use Rattle.kept_in_commands.proofs.Unpacked.{unit_has, unit_keeps}
use Rattle.kept_in_commands.proofs.unpacks.no_file_is_lost_by_the_unit_of_an_unpack.Goals as goal

pub returns-clause-kept : goal.returns-clause-kept
returns-clause-kept c = λ p beside before after u s t q unit honest held. unit_keeps p beside before q after u s t unit honest held

pub returns-clause-held : goal.returns-clause-held
returns-clause-held c = λ p beside before after u s t q unit held. unit_has p beside before q after u s t unit held
