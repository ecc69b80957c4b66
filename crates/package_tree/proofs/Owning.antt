-- What is given to root stays the same but for its owners.
use Rattle.std.proofs.Common.{◌≡◌, true, false, cond, Option, Some, None, ℕ, ◌+◌, ◌<◌, ◌∙◌, List, ◌++◌, refl, ap, subst, length, take, drop, get_or, arith}
use Rattle.std.proofs.Math.ListN.{set}
use Rattle.std.proofs.lemmas.Bool.{true≢false}
use Rattle.std.proofs.lemmas.List.{get_or_default}
use Rattle.std.proofs.lemmas.List.Edits.{map_over_more}
use Rattle.host_core.specs.World.{is_file, kind_of}
use Rattle.host_core.specs.declared.node.Node.{Node}
use Rattle.host_core.specs.declared.node.Node.TheVariants.{File, Dir, Link}
use Rattle.package_tree.specs.Debian.{is_wrong}
use Rattle.package_tree.specs.Owners.{root_node, root_at, root_shipped, root_files}
use Rattle.package_tree.specs.declared.shipped.Shipped.{Shipped}

-- what stands there is of the same kind
pub kind_root : (node : Option Node) → kind_of (root_at node) ≡ kind_of node
kind_root None = refl
kind_root (Some (File bytes access)) = refl
kind_root (Some (Dir access)) = refl
kind_root (Some (Link target)) = refl

-- a file that is given to root is a script
pub root_script : (node given : Node) (script : Option Node) → given ≡ root_node node → script ≡ cond (is_file given) (Some given) None → is_wrong (Some node) ≡ false → script ≡ root_at (Some node)
root_script (File bytes access) given script made is right = is ∙ ap (λ (n : Node). cond (is_file n) (Some n) None) made
root_script (Dir access) given script made is right = absurd (true≢false right)
root_script (Link target) given script made is right = absurd (true≢false right)

-- one file more of a list is given to root
pub given_more : (old now files : List Shipped) (i : ℕ) (file given d : Shipped) → now ≡ old → i < length now → files ≡ root_files (take i old) ++ drop i old → length files ≡ length now → file ≡ get_or files i d → given ≡ root_shipped file → set files i given ≡ root_files (take (i + 1) old) ++ drop (i + 1) old
given_more old now files i file given d same lt e len is made =
    ap (set files i) made ∙ map_over_more root_shipped old files i file (subst (λ (l : List Shipped). i < length l) same lt) e (is ∙ get_or_default files i d file (omega (arith, lt, len)))
