use Rattle.std.proofs.Common.{◌≡◌, true, length}
use denote.Text.{Utf8}
use denote.Shadow.{shadow}
use Rattle.host_core.specs.Paths.{is_path}
use Rattle.list_changes.proofs.Above.{IsClimbing}
use Rattle.list_changes.proofs.parents.add_parents.Given as goal

abbrev pub invariant-loop-front : goal.invariant-loop-front
invariant-loop-front l = record {
  text : shadow (Utf8 l.rest);
  path : is_path l.rest ≡ true;
  climbing : IsClimbing l.fn.paths l.path l.rest l.paths-inside.items.items;
}

abbrev pub decreases-loop-front : goal.decreases-loop-front
decreases-loop-front l = length l.rest
