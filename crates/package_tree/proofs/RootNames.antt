-- What the listing of a tree's root tells.
use Rattle.std.proofs.Common.{◌≡◌, ◌≢◌, ◌↔◌, ◌||◌, ℕ, Bool, true, false, not, List, [], ◌∷◌, IsTrue, refl, sym, ◌∙◌, ap, subst, inl, inr}
use Rattle.std.specs.Prelude.{codes}
use Rattle.std.specs.List.{list_any}
use Rattle.std.specs.Str.{IsUtf8, bytes_eq}
use Rattle.std.proofs.lemmas.Bool.{true≢false, not-true, false_from_ne_true}
use Rattle.std.proofs.lemmas.List.Folds.{Any-from_list_any, list_any-from_Any}
use Rattle.std.proofs.lemmas.Slice.Eq.{bytes_eq-Decides}
use Rattle.host_core.specs.Paths.{Path, is_path}
use Rattle.host_core.specs.World.{World}
use Rattle.host_core.specs.Tree.{IsListing, IsOdd}
use Rattle.package_tree.specs.Debian.{is_shipped, Ships}

debian_utf8 : IsUtf8 (codes "DEBIAN")
unfolding lib.Utf8.encode
debian_utf8 = (codes "DEBIAN", (refl, refl))

-- a name that is no text, or makes no path, isn't `DEBIAN`
odd_other : (name : List ℕ) → IsOdd [] name → name ≢ codes "DEBIAN"
odd_other name (inl no_text) e = no_text (subst IsUtf8 (sym e) debian_utf8)
odd_other name (inr no_path) e = true≢false (subst (λ (n : List ℕ). is_path (47 ∷ n) ≡ false) e no_path)

shipped_other : (name : List ℕ) → is_shipped name ≡ true → name ≢ codes "DEBIAN"
shipped_other name h e = true≢false (sym ((bytes_eq-Decides name (codes "DEBIAN")).1 e) ∙ not-true _ h)

other_shipped : (name : List ℕ) → name ≢ codes "DEBIAN" → is_shipped name ≡ true
other_shipped name ne = ap not (false_from_ne_true (bytes_eq name (codes "DEBIAN")) (λ t. ne ((bytes_eq-Decides name (codes "DEBIAN")).0 t)))

ships_told : (w : World) (names : List Path) (bad : Bool) → IsListing w [] names bad → IsTrue (bad || list_any is_shipped names) → Ships w
ships_told w names true listing h =
    let bad = listing.faulty refl in
    (bad.0, bad.1, odd_other bad.0 bad.2, bad.3)
ships_told w names false listing h =
    let found = Any-from_list_any is_shipped names h in
    let there = listing.there found.1 (found.0, found.2, found.3) in
    (found.1, there.0, shipped_other found.1 found.4, there.1)

told_ships : (w : World) (names : List Path) (bad : Bool) → IsListing w [] names bad → Ships w → IsTrue (bad || list_any is_shipped names)
told_ships w names true listing ships = refl
told_ships w names false listing ships = elim (listing.whole ships.0 ships.1 ships.3) [
  | inl here ↦ list_any-from_Any is_shipped names (here.0, ships.0, here.1, here.2, other_shipped ships.0 ships.2)
  | inr bad ↦ absurd (true≢false (sym bad.1))
]

pub ships_listed : (w : World) (names : List Path) (bad : Bool) → IsListing w [] names bad → IsTrue (bad || list_any is_shipped names) ↔ Ships w
ships_listed w names bad listing = (ships_told w names bad listing, told_ships w names bad listing)
