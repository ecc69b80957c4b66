use Rattle.kept_files.proofs.Unpacks.{amid_leaves, check_claims, unit_claims, unit_leaves}
use Rattle.kept_files.proofs.unpacking.no_file_is_lost_by_an_unpack.Goals as goal

pub returns-clause-checked : goal.returns-clause-checked
returns-clause-checked c = λ given w q x held there at sound. check_claims given w q x held there at sound

pub returns-clause-done : goal.returns-clause-done
returns-clause-done c = λ given places after lists old new told now q x unit honest held there at. unit_claims given places after lists old new told now q x unit honest held there at

pub returns-clause-ended : goal.returns-clause-ended
returns-clause-ended c = λ given places ended after lists old new told now q unit honest held. unit_leaves given places ended after lists old new told now q unit honest held

pub returns-clause-moments : goal.returns-clause-moments
returns-clause-moments c = λ given places old seen now so_far q held is sound amid. amid_leaves given places old seen now so_far q held is sound amid
