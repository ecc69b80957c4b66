use Rattle.std.proofs.Common.{◌≡◌, ◌++◌, drop}
use Rattle.dpkg_session.specs.Installs.{names_done}
use Rattle.dpkg_session.proofs.done.names_done.Given as goal

abbrev pub invariant-loop-at : goal.invariant-loop-at
invariant-loop-at l = l.names.items ++ names_done (drop l.at l.labels) (drop l.at l.units) ≡ names_done l.labels l.units
