use Rattle.std.proofs.Common.{◌≡◌, take}
use Rattle.std.specs.BTreeSet.{contains_text}
use Rattle.host_core.specs.Paths.{Path}
use Rattle.unpack_plan.specs.Records.{is_shipped}
use Rattle.unpack_plan.proofs.texts_of.shipped_texts.Given as goal

abbrev pub invariant-loop-file : goal.invariant-loop-file
invariant-loop-file l = (q : Path) → contains_text l.set q ≡ is_shipped (take l.file-index l.files) q
