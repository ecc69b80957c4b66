use Rattle.std.proofs.Common.{◌≡◌, filter, take}
use Rattle.dpkg_session.specs.Touched.{is_deconfigured}
use Rattle.dpkg_session.proofs.tellings.deconfigured_among.Given as goal

abbrev pub invariant-loop-name : goal.invariant-loop-name
invariant-loop-name l = l.deconfigured ≡ filter (is_deconfigured l.package l.database.records l.half) (take l.name-index l.names)
