use Rattle.std.proofs.Common.{◌≡◌, filter, take}
use Rattle.dpkg_session.specs.Touched.{is_told}
use Rattle.dpkg_session.proofs.tellings.told_among.Given as goal

abbrev pub invariant-loop-name : goal.invariant-loop-name
invariant-loop-name l = l.told ≡ filter (is_told l.package l.unchanged) (take l.name-index l.names)
