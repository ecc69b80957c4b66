use Rattle.std.proofs.Common.{◌≡◌, List, ℕ, take}
use Rattle.std.specs.Prelude.{◌&&◌}
use Rattle.std.specs.List.{list_any}
use Rattle.std.specs.Str.{bytes_eq}
use Rattle.std.specs.BTreeSet.{contains_text}
use Rattle.package_tree.specs.OtherNames.{is_other_name}
use Rattle.package_tree.proofs.others.other_names.Given as goal

abbrev pub invariant-loop-name : goal.invariant-loop-name
invariant-loop-name l = (q : List ℕ) → contains_text l.set q ≡ list_any (λ name. is_other_name q && bytes_eq q name) (take l.name-index l.names)
