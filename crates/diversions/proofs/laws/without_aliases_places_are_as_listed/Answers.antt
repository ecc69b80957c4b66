use Rattle.diversions.proofs.Aliased.{place_empty, truename_empty}
use Rattle.diversions.proofs.laws.without_aliases_places_are_as_listed.Goals as goal

pub returns-clause-place : goal.returns-clause-place
returns-clause-place c = place_empty

pub returns-clause-truename : goal.returns-clause-truename
returns-clause-truename c = truename_empty
