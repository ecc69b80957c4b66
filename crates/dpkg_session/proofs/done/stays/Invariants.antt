use Rattle.std.proofs.Common.{◌≡◌, drop}
use Rattle.dpkg_session.specs.Installs.{stays}
use Rattle.dpkg_session.proofs.done.stays.Given as goal

abbrev pub invariant-loop-at : goal.invariant-loop-at
invariant-loop-at l = stays (drop l.at l.labels) (drop l.at l.units) l.name ≡ stays l.labels l.units l.name
