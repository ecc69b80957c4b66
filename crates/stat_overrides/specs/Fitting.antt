-- That the parts of a package fit one another as before where what it ships gets other accesses.
use Rattle.std.specs.Prelude.{◌≡◌, ◌<◌, ◌≤◌, ℕ, List, [], ◌∷◌, length, Contains, map, Option, Some, None}
use Rattle.std.proofs.Common.{refl, sym, ap, subst, ◌∙◌}
use Rattle.std.proofs.Math.Logic.{∥∥₁_map}
use Rattle.std.proofs.lemmas.List.{length-map, get_or-map}
use Rattle.host_core.specs.Paths.{Path}
use Rattle.host_core.specs.World.{IsFile}
use Rattle.host_core.specs.declared.node.Access.{Access}
use Rattle.host_core.specs.declared.node.Node.{Node}
use Rattle.host_core.specs.declared.node.Node.TheVariants.{File, Dir, Link}
use Rattle.package_tree.specs.Package.{AreFitting}
use Rattle.package_tree.specs.ShipMap.{paths_of, HasFileAt}
use Rattle.package_tree.specs.declared.shipped.Shipped.{Shipped}
use Rattle.stat_overrides.specs.Overrides.{access_at}
use Rattle.stat_overrides.specs.declared.table.Overrides.{Overrides}

-- a file or directory with another access, where there is one; a link has none
abbrev pub given_access : Option Access → Node → Node
given_access None node = node
given_access (Some access) (File bytes own) = File bytes access
given_access (Some access) (Dir own) = Dir access
given_access (Some access) (Link target) = Link target

-- with the access that the override of its path gives
abbrev pub overridden_file : Overrides → Shipped → Shipped
overridden_file overrides file = record { path = file.path; node = given_access (access_at overrides file.path) file.node }

abbrev pub overridden_files : Overrides → List Shipped → List Shipped
overridden_files overrides files = map (overridden_file overrides) files

-- the paths stay
pub overridden_paths : (o : Overrides) (files : List Shipped) → paths_of (overridden_files o files) ≡ paths_of files
overridden_paths o [] = refl
overridden_paths o (file ∷ files) = ap (λ (paths : List Path). file.path ∷ paths) (overridden_paths o files)

-- files stay files
pub given_file : (a : Option Access) (node : Node) → IsFile node → IsFile (given_access a node)
given_file None node is = is
given_file (Some access) node is = (is.0, access, ap (given_access (Some access)) is.2)

-- what is shipped is shipped still
pub overridden_among : (o : Overrides) (files : List Shipped) (file : Shipped) → Contains files file → Contains (overridden_files o files) (overridden_file o file)
overridden_among o files file has =
    (has.0, subst (λ (n : ℕ). has.0 < n) (sym (length-map files (overridden_file o))) has.1, get_or-map (overridden_file o) files has.0 file (overridden_file o file) has.1 ∙ ap (overridden_file o) has.2)

pub overridden_has : (o : Overrides) (files : List Shipped) (q : Path) → HasFileAt files q → HasFileAt (overridden_files o files) q
overridden_has o files q has = (overridden_file o has.0, overridden_among o files has.0 has.1, has.2, given_file (access_at o has.0.path) has.0.node has.3)

pub overridden_fits : (o : Overrides) (files : List Shipped) (conffiles flagged : List Path) → AreFitting files conffiles flagged → AreFitting (overridden_files o files) conffiles flagged
overridden_fits o files conffiles flagged fits = record {
  shipped = λ q has. overridden_has o files q (fits.shipped q has);
  gone = λ q one other. fits.gone q one (subst (λ (paths : List Path). Contains paths q) (overridden_paths o files) other);
  few = subst (λ (n : ℕ). n ≤ 65536) (sym (length-map files (overridden_file o))) fits.few;
  trimmed = fits.trimmed;
  trimmed_flagged = fits.trimmed_flagged;
}

pub overridden_fitting : (o : Overrides) (files : List Shipped) (conffiles flagged : List Path) → ∥ AreFitting files conffiles flagged ∥₁ → ∥ AreFitting (overridden_files o files) conffiles flagged ∥₁
overridden_fitting o files conffiles flagged fitting = ∥∥₁_map fitting (overridden_fits o files conffiles flagged)
