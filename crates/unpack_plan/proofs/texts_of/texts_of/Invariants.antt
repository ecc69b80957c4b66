use Rattle.std.proofs.Common.{◌≡◌, take}
use Rattle.std.specs.BTreeSet.{contains_text}
use Rattle.host_core.specs.Paths.{Path}
use Rattle.file_check.specs.Ships.{is_conffile}
use Rattle.unpack_plan.proofs.texts_of.texts_of.Given as goal

abbrev pub invariant-loop-path : goal.invariant-loop-path
invariant-loop-path l = (q : Path) → contains_text l.set q ≡ is_conffile (take l.path-index l.paths) q
