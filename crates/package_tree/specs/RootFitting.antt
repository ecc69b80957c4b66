-- That the parts of a package fit one another as before where what it ships is given to root.
use Rattle.std.specs.Prelude.{◌≡◌, ◌<◌, ◌≤◌, ℕ, List, [], ◌∷◌, length, Contains}
use Rattle.std.proofs.Common.{refl, sym, ap, subst, ◌∙◌}
use Rattle.std.proofs.Math.Logic.{∥∥₁_map}
use Rattle.std.proofs.lemmas.List.{length-map, get_or-map}
use Rattle.host_core.specs.Nodes.{own_access}
use Rattle.host_core.specs.Paths.{Path}
use Rattle.host_core.specs.World.{IsFile}
use Rattle.host_core.specs.declared.node.Node.{Node}
use Rattle.package_tree.specs.Owners.{root_node, root_shipped, root_files}
use Rattle.package_tree.specs.Package.{AreFitting}
use Rattle.package_tree.specs.ShipMap.{paths_of, HasFileAt}
use Rattle.package_tree.specs.declared.shipped.Shipped.{Shipped}

-- the paths stay
pub root_paths : (files : List Shipped) → paths_of (root_files files) ≡ paths_of files
root_paths [] = refl
root_paths (file ∷ files) = ap (λ (paths : List Path). file.path ∷ paths) (root_paths files)

-- files stay files
pub root_file : (node : Node) → IsFile node → IsFile (root_node node)
root_file node is = (is.0, own_access is.1.mode, ap root_node is.2)

-- what is shipped is shipped still
pub root_among : (files : List Shipped) (file : Shipped) → Contains files file → Contains (root_files files) (root_shipped file)
root_among files file has = (has.0, subst (λ (n : ℕ). has.0 < n) (sym (length-map files root_shipped)) has.1, get_or-map root_shipped files has.0 file (root_shipped file) has.1 ∙ ap root_shipped has.2)

pub root_has : (files : List Shipped) (q : Path) → HasFileAt files q → HasFileAt (root_files files) q
root_has files q has = (root_shipped has.0, root_among files has.0 has.1, has.2, root_file has.0.node has.3)

pub root_fits : (files : List Shipped) (conffiles flagged : List Path) → AreFitting files conffiles flagged → AreFitting (root_files files) conffiles flagged
root_fits files conffiles flagged fits = record {
  shipped = λ q has. root_has files q (fits.shipped q has);
  gone = λ q one other. fits.gone q one (subst (λ (paths : List Path). Contains paths q) (root_paths files) other);
  few = subst (λ (n : ℕ). n ≤ 65536) (sym (length-map files root_shipped)) fits.few;
  trimmed = fits.trimmed;
  trimmed_flagged = fits.trimmed_flagged;
}

pub root_fitting : (files : List Shipped) (conffiles flagged : List Path) → ∥ AreFitting files conffiles flagged ∥₁ → ∥ AreFitting (root_files files) conffiles flagged ∥₁
root_fitting files conffiles flagged fitting = ∥∥₁_map fitting (root_fits files conffiles flagged)
