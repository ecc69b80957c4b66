use Rattle.unpack_commit.specs.Takeover.{is_at}
use Rattle.std.specs.List.{list_any}
use Rattle.file_lists.specs.Owners.{paths_of}
use Rattle.unpack_commit.proofs.Those.{among_all, losing_stand, yields_named}
use Rattle.unpack_commit.proofs.laws.losers_are_packages.Goals as goal

pub returns-clause-yields : goal.returns-clause-yields
returns-clause-yields c = λ records name has. yields_named records name has

pub returns-clause-losers : goal.returns-clause-losers
returns-clause-losers c = λ entries places lists yields name has. among_all (λ n. list_any (is_at entries places n) (paths_of lists n)) yields name has

pub returns-clause-standing : goal.returns-clause-standing
returns-clause-standing c = λ entries places names records all. losing_stand entries places names records all
