use Rattle.std.proofs.Common.{take}
use Rattle.info_format.specs.Names.{architectures}
use Rattle.info_format.proofs.Packages.{AreFrom}
use Rattle.info_format.proofs.naming.packages_of.Given as goal

abbrev pub invariant-loop-record : goal.invariant-loop-record
invariant-loop-record l = AreFrom (architectures l.database.records) (take l.record-index l.record-items) l.found.items
