use Rattle.unpack_laws.proofs.Lasting.{target_lasts}
use Rattle.unpack_laws.proofs.OwnFiles.{targets_unit}
use Rattle.unpack_laws.proofs.OwnList.{list_unit}
use Rattle.unpack_laws.proofs.files.what_stands_of_the_package.Goals as goal

pub returns-clause-files : goal.returns-clause-files
returns-clause-files c = λ given places old now so_far amid. targets_unit given places old now so_far amid

pub returns-clause-lasting : goal.returns-clause-lasting
returns-clause-lasting c = λ given x has ship same. target_lasts given x has ship same

pub returns-clause-list : goal.returns-clause-list
returns-clause-list c = λ given places old now so_far amid. list_unit given places old now so_far amid
