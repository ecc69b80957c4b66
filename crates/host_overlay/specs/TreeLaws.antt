-- The two forms of a tree.
use Rattle.std.specs.Prelude.{◌≡◌, true, Option, Some, None}
use Rattle.std.proofs.Common.{refl}
use Rattle.std.proofs.lemmas.Bool.{false≢true}
use Rattle.host_core.specs.World.{World, IsDirectory, is_directory}
use Rattle.host_core.specs.Tree.{IsTree}
use Rattle.host_core.specs.declared.node.Node.{Node}
use Rattle.host_core.specs.declared.node.Node.TheVariants.{File, Dir, Link}
use Rattle.host_overlay.specs.Trees.{IsTreeByTest}

pub IsDirectory-from_test : (o : Option Node) → is_directory o ≡ true → IsDirectory o
IsDirectory-from_test None e = absurd (false≢true e)
IsDirectory-from_test (Some (File b m)) e = absurd (false≢true e)
IsDirectory-from_test (Some (Dir m)) e = (m, refl)
IsDirectory-from_test (Some (Link t)) e = absurd (false≢true e)

pub IsTree-from_test : (w : World) → IsTreeByTest w → IsTree w
IsTree-from_test w tree top rest there = IsDirectory-from_test (w top) (tree top rest there)
