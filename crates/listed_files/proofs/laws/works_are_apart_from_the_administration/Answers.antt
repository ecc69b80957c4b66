use Rattle.listed_files.proofs.Apart.{apart}
use Rattle.listed_files.proofs.laws.works_are_apart_from_the_administration.Goals as goal

pub returns : goal.returns
returns c = apart
