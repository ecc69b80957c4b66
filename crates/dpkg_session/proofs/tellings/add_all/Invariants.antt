use Rattle.std.proofs.Common.{◌≡◌, ◌||◌, take}
use Rattle.std.specs.BTreeSet.{contains_text}
use Rattle.host_core.specs.Paths.{Path}
use Rattle.name_sets.specs.Names.{is_among}
use Rattle.dpkg_session.proofs.tellings.add_all.Given as goal

abbrev pub invariant-loop-name : goal.invariant-loop-name
invariant-loop-name l = (q : Path) → contains_text l.set q ≡ contains_text l.fn.set q || is_among (take l.name-index l.names) q
