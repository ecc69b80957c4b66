-- What stands in a tree: the files in `DEBIAN` (Policy 6.1), and whether there is more.
use Rattle.std.specs.Prelude.{◌≡◌, ◌≢◌, ◌++◌, ◌∷◌, [], true, false, not, ℕ, Bool, List, Option, Some, None, IsSome, IsTrue, codes, ◌↔◌}
use Rattle.std.specs.List.{list_any, list_all, AllByRecursion}
use Rattle.control_fields.specs.Grammar.{lines_of}
use Rattle.host_core.specs.Paths.{Path}
use Rattle.host_core.specs.Outcome.{script_name}
use Rattle.host_core.specs.Tree.{has_slash}
use Rattle.host_core.specs.World.{World, is_file}
use Rattle.host_core.specs.declared.call.Script.{Script}
use Rattle.host_core.specs.declared.call.Script.TheVariants.{Preinst, Postinst, Prerm, Postrm}
use Rattle.host_core.specs.declared.node.Access.{Access}
use Rattle.host_core.specs.declared.node.Node.{Node}
use Rattle.host_core.specs.declared.node.Node.TheVariants.{File, Dir, Link}
use Rattle.std.specs.Str.{bytes_eq}
use Rattle.package_tree.specs.Conffiles.{is_white}
use Rattle.package_tree.specs.declared.reading.Contents.{Contents}

abbrev pub control_path : Path
control_path = codes "/DEBIAN/control"

abbrev pub conffiles_path : Path
conffiles_path = codes "/DEBIAN/conffiles"

-- a maintainer script of the tree (Policy 6.1)
abbrev pub script_path : Script → Path
script_path script = codes "/DEBIAN/" ++ script_name script

-- the files beside the control file, in path order
abbrev pub member_paths : List Path
member_paths = conffiles_path ∷ script_path Postinst ∷ script_path Postrm ∷ script_path Preinst ∷ script_path Prerm ∷ []

-- a file with these bytes stands there
abbrev pub HasFile : World → Path → List ℕ → Type 0
HasFile w path bytes = (access : Access) × (w path ≡ Some (File bytes access))

-- something stands there that isn't a file
abbrev pub is_wrong : Option Node → Bool
is_wrong None = false
is_wrong (Some node) = not (is_file node)

-- the first of these paths where something stands that isn't a file
pub record IsFirstWrong (w : World) (paths : List Path) (path : Path) : Type 0 where
  pub before : List Path
  pub after : List Path
  pub is : paths ≡ before ++ path ∷ after
  pub wrong : is_wrong (w path) ≡ true
  pub first : AllByRecursion (λ earlier. is_wrong (w earlier) ≡ false) before

-- at each of these paths a file stands, or nothing
abbrev pub HasNoneWrong : World → List Path → Type 0
HasNoneWrong w paths = AllByRecursion (λ path. is_wrong (w path) ≡ false) paths

-- a line that names a conffile (Policy 10.7.1)
abbrev pub is_entry : List ℕ → Bool
is_entry line = not (list_all is_white line)

-- the file `conffiles` has such a line
abbrev pub lists_conffiles : Option Node → Bool
lists_conffiles None = false
lists_conffiles (Some (File bytes access)) = list_any is_entry (lines_of bytes)
lists_conffiles (Some (Dir access)) = false
lists_conffiles (Some (Link target)) = false

-- something beside `DEBIAN` stands at the tree's root
abbrev pub Ships : World → Type 0
Ships w = (name : Path) × (has_slash name ≡ false) × (name ≢ codes "DEBIAN") × IsSome (w (47 ∷ name))

-- a name other than `DEBIAN`
abbrev pub is_shipped : List ℕ → Bool
is_shipped name = not (bytes_eq name (codes "DEBIAN"))

-- what was found in a tree beside its control file
pub record AreContents (w : World) (found : Contents) : Type 0 where
  pub conffiles : found.conffiles ≡ w conffiles_path
  pub postinst : found.postinst ≡ w (script_path Postinst)
  pub postrm : found.postrm ≡ w (script_path Postrm)
  pub preinst : found.preinst ≡ w (script_path Preinst)
  pub prerm : found.prerm ≡ w (script_path Prerm)
  pub ships : IsTrue found.ships ↔ Ships w
