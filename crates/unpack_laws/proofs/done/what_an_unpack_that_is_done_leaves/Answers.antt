use Rattle.unpack_laws.proofs.Behind.{beside_unit, old_unit}
use Rattle.unpack_laws.proofs.done.what_an_unpack_that_is_done_leaves.Goals as goal

pub returns-clause-beside : goal.returns-clause-beside
returns-clause-beside c = λ given places after lists old new told now unpacked honest. beside_unit given places after lists old new told now unpacked honest

pub returns-clause-old_paths : goal.returns-clause-old_paths
returns-clause-old_paths c = λ given places after lists old new told now unpacked honest. old_unit given places after lists old new told now unpacked honest
