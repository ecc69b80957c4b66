use Rattle.aliases.proofs.Following.{resolved_free, followed_flat, resolved_twice}
use Rattle.aliases.proofs.laws.a_place_is_its_own.Goals as goal

pub returns-clause-free : goal.returns-clause-free
returns-clause-free c = resolved_free

pub returns-clause-flat : goal.returns-clause-flat
returns-clause-flat c = followed_flat

pub returns-clause-twice : goal.returns-clause-twice
returns-clause-twice c = resolved_twice
