-- The names of conffiles lie outside the directory of the administration.
use Rattle.std.proofs.Common.{◌≡◌, ◌≢◌, ◌||◌, ◌&&◌, inl, inr, not, suc, Bool, true, false, List, [], Option, Some, None, ◌∷◌, ◌++◌, codes, get_or, drop, nat_eq, refl, sym, ap, subst, ◌∙◌, arith}
use Rattle.std.specs.List.{list_any, All}
use Rattle.std.specs.Str.{bytes_eq}
use Rattle.std.proofs.lemmas.Bool.{and_parts, true≢false, false≢true, false_from_ne_true}
use Rattle.std.proofs.lemmas.Slice.Eq.{bytes_eq-Decides}
use Rattle.host_core.specs.Paths.{Path, is_path_text, has_room, has_reserved_suffix, is_below_administration, is_ship_text}
use Rattle.host_core.specs.Suffixes.{suffix_text}
use Rattle.host_core.specs.World.{World, IsDirectory}
use Rattle.host_core.specs.declared.node.Node.{Node}
use Rattle.host_core.specs.declared.suffix.Suffix.{Suffix}
use Rattle.host_core.specs.declared.suffix.Suffix.TheVariants.{New, Old, Dist, Tmp, Inst}
use Rattle.host_core.proofs.ShipNames.{plain_other}
use Rattle.administration.specs.Places.{home_path, is_within}
use Rattle.administration.proofs.Within.{rest_of, starts_with-append, within_is}
use Rattle.administration.proofs.WholeFiles.{no_directory_at, no_directory_file, no_directory_none}
use Rattle.conffiles.specs.Settling.{CanSettle, IsFileOrNone, is_conffile_name, is_name_of_some}
use Rattle.conffiles.specs.declared.entries.Settled.{Settled}

no_or : (a b : Bool) → a || b ≡ false → b ≡ false
no_or true b is = absurd (true≢false is)
no_or false b is = is

not_true : (b : Bool) → not b ≡ true → b ≡ false
not_true true is = absurd (false≢true is)
not_true false is = refl

abbrev has_dot : Path → Bool
has_dot p = list_any (nat_eq 46) p

-- what goes on behind a dot has the whole of a front without one
front_is : (front p s rest : Path) → has_dot front ≡ false → p ++ 46 ∷ s ≡ front ++ rest → (r : Path) × (p ≡ front ++ r)
front_is [] p s rest plain e = (p, refl)
front_is (c ∷ front) [] s rest plain e =
    let dot : c ≡ 46 = sym (ap (λ (l : Path). get_or l 0 0) e) in
    absurd (true≢false (sym (ap (λ b. nat_eq 46 b || has_dot front) dot) ∙ plain))
front_is (c ∷ front) (b ∷ p) s rest plain e =
    let more = front_is front p s rest (no_or (nat_eq 46 c) (has_dot front) plain) (ap (drop 1) e) in
    (more.0, (λ i. ap (λ (l : Path). get_or l 0 0) e i ∷ more.1 i))

abbrev administration : Path
administration = codes "/var/lib/dpkg/"

goes_on : (rest : Path) → is_below_administration (administration ++ rest) ≡ true
goes_on rest = starts_with-append administration rest

-- a path that can be shipped isn't below the administration, nor is a name beside it

ship_outside : (p : Path) → is_ship_text p ≡ true → is_below_administration p ≡ false
ship_outside p is =
    let text = and_parts (is_path_text p) (has_room p && (not (bytes_eq p (codes "/")) && (not (has_reserved_suffix p) && not (is_below_administration p)))) is in
    let fits = and_parts (has_room p) (not (bytes_eq p (codes "/")) && (not (has_reserved_suffix p) && not (is_below_administration p))) text.1 in
    let below = and_parts (not (bytes_eq p (codes "/"))) (not (has_reserved_suffix p) && not (is_below_administration p)) fits.1 in
    not_true (is_below_administration p) (and_parts (not (has_reserved_suffix p)) (not (is_below_administration p)) below.1).1

dotted : (s : Suffix) → (t : Path) × (suffix_text s ≡ 46 ∷ t)
dotted New = (codes "dpkg-new", refl)
dotted Old = (codes "dpkg-old", refl)
dotted Dist = (codes "dpkg-dist", refl)
dotted Tmp = (codes "dpkg-tmp", refl)
dotted Inst = (codes "dpkg-inst", refl)

module _ (x : Path) (ship : is_ship_text x ≡ true) where
  pub home_outside : is_below_administration x ≡ true → ⊥
  home_outside is = true≢false (sym is ∙ ship_outside x ship)

  pub beside_outside : (s : Suffix) → is_below_administration (x ++ suffix_text s) ≡ true → ⊥
  beside_outside s is =
      let rest = rest_of (x ++ suffix_text s) administration is in
      let dot = dotted s in
      let front = front_is administration x dot.0 rest.0 refl (ap (λ (l : Path). x ++ l) (sym dot.1) ∙ rest.1) in
      true≢false (sym (ap is_below_administration front.1 ∙ goes_on front.0) ∙ ship_outside x ship)

  apart_test : (q p : Path) → q ≢ p → bytes_eq q p ≡ false
  apart_test q p ne = false_from_ne_true (bytes_eq q p) (λ is. ne ((bytes_eq-Decides q p).0 is))

  -- none of its names is another path, where these aren't
  no_conffile_name : (q : Path) → q ≢ x → ((s : Suffix) → q ≢ x ++ suffix_text s) → is_conffile_name x q ≡ false
  no_conffile_name q home beside = λ i.
      apart_test q x home i
      || (apart_test q (x ++ suffix_text New) (beside New) i
      || (apart_test q (x ++ suffix_text Old) (beside Old) i
      || (apart_test q (x ++ suffix_text Dist) (beside Dist) i
      || (apart_test q (x ++ suffix_text Inst) (beside Inst) i || false))))

  -- what is below the administration is no name of a conffile
  pub below_no_name : (q : Path) → is_below_administration q ≡ true → is_conffile_name x q ≡ false
  below_no_name q below = no_conffile_name q (λ e. home_outside (ap is_below_administration (sym e) ∙ below)) (λ s e. beside_outside s (ap is_below_administration (sym e) ∙ below))

  -- nor is its directory, which is one
  pub home_no_name : (w : World) → IsDirectory (w home_path) → CanSettle x w → is_conffile_name x home_path ≡ false
  home_no_name w is can = no_conffile_name home_path (λ e. no_file (w home_path) is (subst (λ p. IsFileOrNone (w p)) (sym e) can.home)) (λ s. plain_other home_path x s refl)
    where
      no_file : (node : Option Node) → IsDirectory node → IsFileOrNone node → ⊥
      no_file None directory file = no_directory_none directory
      no_file (Some n) directory file = no_directory_file n file directory

below_is : (q : Path) (rest : Path) → q ≡ home_path ++ 47 ∷ rest → is_below_administration q ≡ true
below_is q rest e = ap is_below_administration e ∙ goes_on rest

-- of a list

all_later : (P : Settled → Type 0) (e : Settled) (es : List Settled) → All P (e ∷ es) → All P es
all_later P e es all = λ k d lt. all (suc k) d (omega (arith, lt))

pub below_none : (list : List Settled) (q : Path) → is_below_administration q ≡ true → is_name_of_some list q ≡ false
below_none [] q below = refl
below_none (e ∷ es) q below = λ i. below_no_name e.path e.ships q below i || below_none es q below i

home_none : (list : List Settled) (w : World) → IsDirectory (w home_path) → All (λ e. CanSettle e.path w) list → is_name_of_some list home_path ≡ false
home_none [] w is can = refl
home_none (e ∷ es) w is can = λ i. home_no_name e.path e.ships w is (can 0 e (omega arith)) i || home_none es w is (all_later (λ f. CanSettle f.path w) e es can) i

pub within_none : (list : List Settled) (w : World) → IsDirectory (w home_path) → All (λ e. CanSettle e.path w) list → (q : Path) → is_within home_path q ≡ true → is_name_of_some list q ≡ false
within_none list w is can q within = elim (within_is home_path q within) [
  | inl e ↦ ap (is_name_of_some list) e ∙ home_none list w is can
  | inr more ↦ below_none list q (below_is q more.0 more.1)
]

-- what is changed below the administration alone leaves conffiles to be settled

module _ (v w : World) (same : (q : Path) → (is_below_administration q ≡ true → ⊥) → w q ≡ v q) where
  can_still : (x : Path) → is_ship_text x ≡ true → CanSettle x v → CanSettle x w
  can_still x ship can = record {
    home = subst IsFileOrNone (sym (same x (home_outside x ship))) can.home;
    shipped = subst IsFileOrNone (sym (same (x ++ suffix_text New) (beside_outside x ship New))) can.shipped;
    backup = no_directory_at (w (x ++ suffix_text Old)) (v (x ++ suffix_text Old)) (same (x ++ suffix_text Old) (beside_outside x ship Old)) can.backup;
    dist = no_directory_at (w (x ++ suffix_text Dist)) (v (x ++ suffix_text Dist)) (same (x ++ suffix_text Dist) (beside_outside x ship Dist)) can.dist;
    spare = no_directory_at (w (x ++ suffix_text Inst)) (v (x ++ suffix_text Inst)) (same (x ++ suffix_text Inst) (beside_outside x ship Inst)) can.spare;
  }

  pub all_can_still : (list : List Settled) → All (λ e. CanSettle e.path v) list → All (λ e. CanSettle e.path w) list
  all_can_still list can = λ k d lt. can_still (get_or list k d).path (get_or list k d).ships (can k d lt)
