use Rattle.std.proofs.Common.{◌≡◌, take}
use Rattle.std.specs.BTreeSet.{contains_text}
use Rattle.host_core.specs.Paths.{Path}
use Rattle.list_changes.specs.Leaving.{is_place_of}
use Rattle.list_changes.proofs.leaving.places_of.Given as goal

abbrev pub invariant-loop-path : goal.invariant-loop-path
invariant-loop-path l = (at : Path) → contains_text l.places at ≡ is_place_of l.diversions.ways l.name (take l.path-index l.paths) at
