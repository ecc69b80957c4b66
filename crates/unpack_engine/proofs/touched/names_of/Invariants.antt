use Rattle.std.proofs.Common.{◌≡◌, take}
use Rattle.std.specs.BTreeSet.{contains_text}
use Rattle.host_core.specs.Paths.{Path}
use Rattle.unpack_engine.specs.Touched.{is_named}
use Rattle.unpack_engine.proofs.touched.names_of.Given as goal

abbrev pub invariant-loop-entry : goal.invariant-loop-entry
invariant-loop-entry l = (q : Path) → contains_text l.set q ≡ is_named (take l.entry-index l.records) q
