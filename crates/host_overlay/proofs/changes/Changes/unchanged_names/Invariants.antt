use Rattle.std.proofs.Common.{◌≡◌, filter, take}
use Rattle.std.specs.BTreeMap.{get_by_text}
use Rattle.host_overlay.specs.Standings.{is_unchanged_in}
use Rattle.host_overlay.proofs.changes.Changes.unchanged_names.Given as goal

abbrev pub invariant-loop-name : goal.invariant-loop-name
invariant-loop-name l = l.names ≡ filter (is_unchanged_in (get_by_text l.self.map) l.path) (take l.name-index l.name-items)
