use Rattle.std.proofs.Common.{◌≡◌, ◌++◌, ℕ, List}
use Rattle.std.specs.BTreeSet.{contains_text}
use Rattle.package_files.specs.Files.{Each}
use Rattle.package_files.specs.Names.{IsNamed}
use Rattle.file_check.specs.Ships.{shipped_works}
use Rattle.file_check.proofs.Shipping.{has_directory, written}
use Rattle.file_check.proofs.works.shipped_works.Given as goal

abbrev pub invariant-loop-path : goal.invariant-loop-path
invariant-loop-path l = record {
  works : l.works.items ≡ shipped_works l.diversions.ways l.name l.conffiles l.yielded;
  directories : (q : List ℕ) → contains_text l.directories q ≡ has_directory (written l.diversions.ways l.name l.conffiles l.yielded) q;
  named : Each IsNamed l.works.items;
  left : l.fn.files.items ≡ l.yielded ++ l.path-iterator.rest.items;
}
