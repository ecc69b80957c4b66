-- A conffile with nothing in its way.
use Rattle.std.proofs.Common.{◌≡◌, Bool, true, false, Option, Some, None, Result, Ok, Err, refl, sym, ◌∙◌, cond}
use Rattle.std.specs.Prelude.{IfOk}
use Rattle.std.proofs.lemmas.Bool.{true≢false}
use Rattle.host_core.specs.Paths.{Path}
use Rattle.host_core.specs.World.{World}
use Rattle.host_core.specs.declared.fault.HostFault.{HostFault}
use Rattle.host_core.specs.declared.node.Node.{Node}
use Rattle.host_core.specs.declared.node.Node.TheVariants.{File, Dir, Link}
use Rattle.administration.specs.Files.{NoDirectory}
use Rattle.administration.proofs.WholeFiles.{no_directory_file, no_directory_none}
use Rattle.conffiles.specs.Settling.{dist_name, spare_name, shipped_name, backup_name, ordered_names, is_other, obstacle_of, IsFileOrNone, CanSettle}

passed : (b : Bool) (p : Path) (later : Option Path) → cond b (Some p) later ≡ None → (b ≡ false) × (later ≡ None)
passed true p later none = absurd cc
passed false p later none = (refl, none)

file_or_none : (n : Option Node) → is_other n ≡ false → IsFileOrNone n
file_or_none None is = tt
file_or_none (Some (File bytes access)) is = (bytes, access, refl)
file_or_none (Some (Dir access)) is = absurd (true≢false is)
file_or_none (Some (Link target)) is = absurd (true≢false is)

loose : (n : Option Node) → IsFileOrNone n → NoDirectory n
loose None file = no_directory_none
loose (Some node) file = no_directory_file node file

pub clear_way : (w : World) (x : Path) → obstacle_of w (ordered_names x) ≡ None → CanSettle x w
clear_way w x none =
    let home = passed (is_other (w x)) x _ none in
    let dist = passed (is_other (w (dist_name x))) (dist_name x) _ home.1 in
    let spare = passed (is_other (w (spare_name x))) (spare_name x) _ dist.1 in
    let shipped = passed (is_other (w (shipped_name x))) (shipped_name x) _ spare.1 in
    let backup = passed (is_other (w (backup_name x))) (backup_name x) None shipped.1 in
    record {
      home = file_or_none (w x) home.0;
      shipped = file_or_none (w (shipped_name x)) shipped.0;
      backup = loose (w (backup_name x)) (file_or_none (w (backup_name x)) backup.0);
      dist = loose (w (dist_name x)) (file_or_none (w (dist_name x)) dist.0);
      spare = loose (w (spare_name x)) (file_or_none (w (spare_name x)) spare.0);
    }

pub clear_answer : (w : World) (x : Path) (result : Result (Option Path) HostFault) → IfOk result (λ found. found ≡ obstacle_of w (ordered_names x)) → IfOk result (λ found. found ≡ None → CanSettle x w)
clear_answer w x (Ok found) is = λ none. clear_way w x (sym is ∙ none)
clear_answer w x (Err fault) is = tt
