use Rattle.std.proofs.Common.{◌≡◌, take}
use Rattle.std.specs.List.{AllByRecursion}
use Rattle.std.specs.Str.{IsUtf8}
use Rattle.unit_stages.proofs.listing.copy_of.Given as goal

abbrev pub invariant-loop-path : goal.invariant-loop-path
invariant-loop-path l = record {
  same : l.items.items ≡ take l.path-index l.path-items;
  texts : AllByRecursion IsUtf8 (take l.path-index l.path-items);
}
