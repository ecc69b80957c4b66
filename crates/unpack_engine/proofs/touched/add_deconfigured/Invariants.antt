use Rattle.std.proofs.Common.{◌≡◌, ◌||◌, take}
use Rattle.std.specs.BTreeSet.{contains_text}
use Rattle.std.specs.List.{list_any}
use Rattle.host_core.specs.Paths.{Path}
use Rattle.status_records.specs.Records.{record_in}
use Rattle.unpack_engine.specs.Touched.{is_deconfigured}
use Rattle.unpack_engine.proofs.Names.{is_kept_so}
use Rattle.unpack_engine.proofs.touched.add_deconfigured.Given as goal

abbrev pub invariant-loop-other : goal.invariant-loop-other
invariant-loop-other l =
    (q : Path) → contains_text l.set q ≡ contains_text l.fn.set q || list_any (is_kept_so (λ r. is_deconfigured (record_in l.database.records r.name) r) q) (take l.other-index l.others)
