-- The paths of conffiles in records, and their order.
use Rattle.std.specs.Prelude.{◌≡◌, ◌&&◌, ℕ, Bool, true, cond, List, [], ◌∷◌}
use Rattle.std.specs.Cmp.Lexicographic.{slice_cmp}
use Rattle.std.specs.List.{fold, AllByRecursion}
use Rattle.std.specs.Ordering.{nat_cmp, is_lt}
use Rattle.std.specs.Str.{bytes_eq, is_utf8}
use Rattle.control_fields.specs.Names.{trim_end}
use Rattle.host_core.specs.Paths.{Path, is_ship_text}

-- the text of a path that a package may ship
abbrev pub is_ship_path : List ℕ → Bool
is_ship_path text = is_utf8 text && is_ship_text text

-- the path ends in no blank
abbrev pub is_trimmed : Path → Bool
is_trimmed path = bytes_eq (trim_end path) path

-- A conffile of a record: a package may ship its path, which ends in no blank. Blanks before the digest aren't the path's, nor are those
-- at the end of a line of DEBIAN/conffiles: no package has another conffile.
abbrev pub is_conffile_path : Path → Bool
is_conffile_path path = is_ship_path path && is_trimmed path

-- path order is that of bytes
abbrev pub is_before : Path → Path → Bool
is_before p q = is_lt (slice_cmp nat_cmp p q)

-- in path order, each path once: each is before those behind it
abbrev pub AreInOrder : List Path → Type 0
AreInOrder [] = Unit {0}
AreInOrder (p ∷ ps) = AllByRecursion (λ q. is_before p q ≡ true) ps × AreInOrder ps

-- one more, before the first of a path that isn't before its own
abbrev pub placed_by : {X : Type 0} → (X → Path) → X → List X → List X
placed_by path x [] = x ∷ []
placed_by path x (y ∷ ys) = cond (is_before (path y) (path x)) (y ∷ placed_by path x ys) (x ∷ y ∷ ys)

-- each put in its place among these, one after another
abbrev pub all_placed_by : {X : Type 0} → (X → Path) → List X → List X → List X
all_placed_by path ys xs = fold (λ zs x. placed_by path x zs) ys xs

-- in path order
abbrev pub in_path_order : {X : Type 0} → (X → Path) → List X → List X
in_path_order path xs = all_placed_by path [] xs
