use Rattle.std.proofs.Common.{◌≡◌, take}
use Rattle.dpkg_session.specs.Touched.{half_configured}
use Rattle.dpkg_session.proofs.tellings.half_configured.Given as goal

abbrev pub invariant-loop-entry : goal.invariant-loop-entry
invariant-loop-entry l = l.names ≡ half_configured (take l.entry-index l.records)
