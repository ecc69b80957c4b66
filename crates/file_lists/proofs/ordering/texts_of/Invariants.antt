use Rattle.std.proofs.Common.{◌≡◌, List, ℕ, take}
use Rattle.std.specs.List.{list_any}
use Rattle.std.specs.Str.{bytes_eq}
use Rattle.std.specs.BTreeSet.{contains_text}
use Rattle.file_lists.proofs.ordering.texts_of.Given as goal

abbrev pub invariant-loop-path : goal.invariant-loop-path
invariant-loop-path l = (q : List ℕ) → contains_text l.set q ≡ list_any (bytes_eq q) (take l.path-index l.paths)
