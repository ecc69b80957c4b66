use Rattle.std.proofs.Common.{◌≡◌, List, ℕ, take}
use Rattle.std.specs.List.{list_any}
use Rattle.std.specs.Str.{IsUtf8}
use Rattle.std.specs.BTreeSet.{contains_text}
use Rattle.package_tree.specs.LineNames.{is_named}
use Rattle.package_tree.proofs.line_names.names_of.Given as goal

abbrev pub invariant-loop-entry : goal.invariant-loop-entry
invariant-loop-entry l = (q : List ℕ) → IsUtf8 q → contains_text l.names q ≡ list_any (is_named l.kind q) (take l.entry-index l.entries)
