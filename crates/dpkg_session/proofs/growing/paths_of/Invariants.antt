use Rattle.std.proofs.Common.{◌≡◌, take}
use Rattle.package_tree.specs.ShipMap.{paths_of}
use Rattle.dpkg_session.proofs.growing.paths_of.Given as goal

abbrev pub invariant-loop-file : goal.invariant-loop-file
invariant-loop-file l = l.paths.items ≡ paths_of (take l.file-index l.files)
