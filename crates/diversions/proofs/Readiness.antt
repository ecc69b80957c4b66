-- Whether the file can be written.
use Rattle.std.proofs.Common.{◌≡◌, true, false, Option, Some, None, refl, sym, ap, ◌∙◌}
use Rattle.std.proofs.lemmas.Bool.{true≢false, false≢true}
use Rattle.host_core.specs.World.{World, is_directory, IsDirectory}
use Rattle.host_core.specs.declared.node.Node.{Node}
use Rattle.host_core.specs.declared.node.Node.TheVariants.{File, Dir, Link}
use Rattle.administration.specs.Files.{NoDirectory}
use Rattle.administration.specs.Places.{home_path, diversions_path, temporary}
use Rattle.diversions.specs.Changes.{IsTableReady}

directory_there : (n : Option Node) → is_directory n ≡ true → IsDirectory n
directory_there None is = absurd (false≢true is)
directory_there (Some (File bytes access)) is = absurd (false≢true is)
directory_there (Some (Dir access)) is = (access, refl)
directory_there (Some (Link target)) is = absurd (false≢true is)

none_there : (n : Option Node) → is_directory n ≡ false → NoDirectory n
none_there n is there = true≢false (sym (ap is_directory there.1) ∙ is)

pub ready_by : (w : World) → is_directory (w home_path) ≡ true → is_directory (w diversions_path) ≡ false → is_directory (w (temporary diversions_path)) ≡ false → IsTableReady w
ready_by w home file spare = record { home = directory_there (w home_path) home; target = none_there (w diversions_path) file; spare = none_there (w (temporary diversions_path)) spare }
