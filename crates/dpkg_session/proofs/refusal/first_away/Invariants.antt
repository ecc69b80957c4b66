use Rattle.std.proofs.Common.{◌≡◌, None, take}
use Rattle.std.specs.List.{find}
use Rattle.dpkg_session.specs.Refusals.{is_away}
use Rattle.dpkg_session.proofs.refusal.first_away.Given as goal

abbrev pub invariant-loop-path : goal.invariant-loop-path
invariant-loop-path l = find (is_away l.diversions.ways l.name) (take l.path-index l.paths) ≡ None
