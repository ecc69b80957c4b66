-- The lists of an administration, of which it was known only that they are those that stand there.
use Rattle.std.proofs.Common.{◌≡◌, inl, inr, ℕ, Bool, true, false, Contains, List, [], ◌∷◌, Option, Some, None, refl, sym, ◌∙◌}
use Rattle.std.specs.List.{AllByRecursion}
use Rattle.std.specs.Str.{IsUtf8, bytes_eq}
use Rattle.std.proofs.Props.{props}
use Rattle.std.proofs.Math.Logic.{∥∥₁_elim, ∥∥₁_map}
use Rattle.std.proofs.lemmas.Bool.{true≢false}
use Rattle.std.proofs.lemmas.Slice.Eq.{bytes_eq-Decides}
use Rattle.std.proofs.lemmas.Str.{IsUtf8-had}
use Rattle.host_core.specs.Paths.{Path, has_room, is_path_text}
use Rattle.host_core.specs.World.{World}
use Rattle.host_core.specs.declared.node.Node.{Node}
use Rattle.host_core.specs.declared.node.Node.TheVariants.{File, Dir, Link}
use Rattle.administration.specs.Places.{list_path}
use Rattle.control_members.proofs.Drawn.{any_contains, contains_any}
use Rattle.diversions.specs.Lines.{lines_in}
use Rattle.file_lists.specs.Lists.{HasLists, IsGood, IsReadable, Lists, paths_in, root_line}
use Rattle.file_lists.specs.Owners.{paths_of}
use Rattle.file_lists.specs.declared.paths.PackageList.{PackageList}

contains_had : (xs : List Path) (x : Path) → ∥ Contains xs x ∥₁ → Contains xs x
contains_had xs x has = any_contains xs x (∥∥₁_elim has (hlevel props) (λ is. contains_any xs x is))

-- a good line is that of the root, or one of a path

other_line : (line : List ℕ) → bytes_eq line root_line ≡ false → IsGood line → IsUtf8 line × (has_room line ≡ true) × (is_path_text line ≡ true)
other_line line e (inl same) = absurd (true≢false (sym ((bytes_eq-Decides line root_line).1 same) ∙ e))
other_line line e (inr is) = is

good_had : (line : List ℕ) → ∥ IsGood line ∥₁ → IsGood line
good_had line has = by (bytes_eq line root_line) refl
  where
    by : (b : Bool) → bytes_eq line root_line ≡ b → IsGood line
    by true e = inl ((bytes_eq-Decides line root_line).0 e)
    by false e = inr (
      IsUtf8-had line (∥∥₁_map has (λ good. (other_line line e good).0)),
      ∥∥₁_elim has (hlevel props) (λ good. (other_line line e good).1),
      ∥∥₁_elim has (hlevel props) (λ good. (other_line line e good).2),
    )

all_had : (lines : List (List ℕ)) → ∥ AllByRecursion IsGood lines ∥₁ → AllByRecursion IsGood lines
all_had [] has = tt
all_had (line ∷ lines) has = (good_had line (∥∥₁_map has (λ all. all.0)), all_had lines (∥∥₁_map has (λ all. all.1)))

readable_had : (node : Option Node) → ∥ IsReadable node ∥₁ → IsReadable node
readable_had None has = tt
readable_had (Some (File bytes access)) has = record {
  good = all_had (lines_in bytes) (∥∥₁_map has (λ whole. whole.good));
  ended = ∥∥₁_elim has (hlevel props) (λ whole. whole.ended);
}
readable_had (Some (Dir access)) has = ∥∥₁_elim has (hlevel props) (λ no. no)
readable_had (Some (Link target)) has = ∥∥₁_elim has (hlevel props) (λ no. no)

listed_had : (node : Option Node) (q : Path) → ∥ Lists node q ∥₁ → Lists node q
listed_had None q has = ∥∥₁_elim has (hlevel props) (λ no. no)
listed_had (Some (File bytes access)) q has = contains_had (paths_in (lines_in bytes)) q has
listed_had (Some (Dir access)) q has = ∥∥₁_elim has (hlevel props) (λ no. no)
listed_had (Some (Link target)) q has = ∥∥₁_elim has (hlevel props) (λ no. no)

pub lists_had : (w : World) (names : List (List ℕ)) (lists : List PackageList) → ∥ HasLists w names lists ∥₁ → HasLists w names lists
lists_had w names lists has = record {
  readable = λ name there. readable_had (w (list_path name)) (∥∥₁_map has (λ is. is.readable name there));
  whole = λ name q there listed. contains_had (paths_of lists name) q (∥∥₁_map has (λ is. is.whole name q there listed));
  sound = λ name q there. (
    contains_had names name (∥∥₁_map has (λ is. (is.sound name q there).0)),
    listed_had (w (list_path name)) q (∥∥₁_map has (λ is. (is.sound name q there).1)),
  );
}
