use Rattle.std.proofs.Common.{◌≡◌, ◌++◌, take}
use Rattle.trigger_interests.specs.Interests.{interests_by}
use Rattle.trigger_interests.proofs.interests.add_interests.Given as goal

abbrev pub invariant-loop-declaration : goal.invariant-loop-declaration
invariant-loop-declaration l = l.found.items ≡ l.fn.found.items ++ interests_by l.«package» (take l.declaration-index l.declaration-items)
