use Rattle.std.proofs.Common.{◌≡◌, ◌∷◌, take}
use Rattle.dpkg_session.proofs.done.done_with.Given as goal

abbrev pub invariant-loop-name : goal.invariant-loop-name
invariant-loop-name l = l.done.items ≡ l.label ∷ take l.name-index l.unit.deconfigured
