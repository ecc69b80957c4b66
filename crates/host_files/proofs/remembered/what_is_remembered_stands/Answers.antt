use Rattle.host_files.proofs.RememberedLaws.{known_stands, new_stands, vacant_below}
use Rattle.host_files.proofs.remembered.what_is_remembered_stands.Goals as goal

pub returns-clause-known : goal.returns-clause-known
returns-clause-known g c = known_stands g.D.Disk.model g.D.Disk.sound

pub returns-clause-new : goal.returns-clause-new
returns-clause-new g c = new_stands g.D.Disk.model g.D.Disk.sound

pub returns-clause-vacant : goal.returns-clause-vacant
returns-clause-vacant g c = vacant_below g.D.Disk.model g.D.Disk.sound
