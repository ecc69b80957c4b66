-- No link to a directory stands above a path whose directories were all followed.
use Rattle.std.proofs.Common.{◌≡◌, ◌⊎◌, inl, inr, ◌&&◌, ℕ, Bool, true, false, cond, List, [], ◌∷◌, ◌++◌, nat_eq, Option, Some, None, is_some, refl, sym, ap, subst, ◌∙◌, append_assoc}
use Rattle.std.proofs.lemmas.Bool.{eqb-true}
use Rattle.host_core.specs.Paths.{Path}
use Rattle.host_core.specs.Tree.{IsBelow, IsTree}
use Rattle.host_core.specs.World.{World}
use Rattle.aliases.specs.Aliases.{Alias, led, gone, way_from, way_to, IsOn}
use Rattle.aliases.specs.Links.{node_at, leads_to}
use Rattle.aliases.specs.Reading.{is_link, or_itself, led_in, AreAliasesIn, IsWhole}
use Rattle.aliases.specs.Ways.{is_linked}
use Rattle.aliases.proofs.Following.{led_free, way_more, nothing_below, above_last}
use Rattle.aliases.proofs.Flatness.{IsHome, target_home, no_link, no_alias, home_above}

-- no link to a directory stands above the path
abbrev IsClear : World → Path → Type 0
IsClear w path = (q : Path) → IsBelow q path → is_linked w q ≡ false

-- nor at it
abbrev IsClearOn : World → Path → Type 0
IsClearOn w path = (q : Path) → IsOn q path → is_linked w q ≡ false

home_clear : (w : World) (t : Path) → IsTree w → IsHome w t → IsClearOn w t
home_clear w t tree home q on = ap (λ b. b && is_some (leads_to w q)) (no_link w q (home_above w q t tree home on))

with_itself : (w : World) (path : Path) → IsClear w path → is_linked w path ≡ false → IsClearOn w path
with_itself w path clear none q (inl same) = ap (is_linked w) same ∙ none
with_itself w path clear none q (inr below) = clear q below

led_clear : (w : World) (path : Path) → IsTree w → IsClear w path → IsClearOn w (led_in w path)
led_clear w path tree clear = at (is_link (node_at w path)) refl
  where
    linked : is_link (node_at w path) ≡ true → (o : Option Path) → leads_to w path ≡ o → IsClearOn w (or_itself o path)
    linked is None leads = with_itself w path clear (ap (λ b. b && is_some (leads_to w path)) is ∙ ap is_some leads)
    linked is (Some t) leads = home_clear w t tree (target_home w path t tree leads)

    at : (b : Bool) → is_link (node_at w path) ≡ b → IsClearOn w (cond b (or_itself (leads_to w path) path) path)
    at true is = linked is (leads_to w path) refl
    at false is = with_itself w path clear (ap (λ b. b && is_some (leads_to w path)) is)

module _ (w : World) (aliases : List Alias) (path : Path) (tree : IsTree w) (each : AreAliasesIn w aliases) (whole : IsWhole w path aliases) where
  -- the directory behind what was gone so far
  front_clear : (front rest : Path) → path ≡ front ++ 47 ∷ rest → IsClear w (way_to aliases front) → IsClearOn w (led aliases (way_to aliases front))
  front_clear [] rest is clear =
      subst (IsClearOn w) (sym (led_free aliases [] (no_alias w aliases [] each refl))) (with_itself w [] clear refl)
  front_clear (b ∷ front) rest is clear =
      subst (IsClearOn w) (sym (whole (b ∷ front) (λ e. absurd (let f : b ∷ front ≡ [] = e in cc), (rest, is)))) (led_clear w (way_to aliases (b ∷ front)) tree clear)

  gone_clear : (front : Path) (x : ℕ) (rest : Path) → path ≡ front ++ x ∷ rest → IsClear w (way_to aliases front) → IsClear w (gone aliases (way_to aliases front) x)
  gone_clear front x rest is clear = at (nat_eq x 47) refl
    where
      slash : x ≡ 47 → (q : Path) (r : Path) → led aliases (way_to aliases front) ++ 47 ∷ [] ≡ q ++ 47 ∷ r → is_linked w q ≡ false
      slash same q r e = by (above_last (led aliases (way_to aliases front)) q 47 r e)
        where
          behind : IsClearOn w (led aliases (way_to aliases front))
          behind = front_clear front rest (is ∙ ap (λ c. front ++ c ∷ rest) same) clear

          by : ((q ≡ led aliases (way_to aliases front)) × (◌≡◌ {A = ℕ} 47 47)) ⊎ IsBelow q (led aliases (way_to aliases front)) → is_linked w q ≡ false
          by (inl both) = behind q (inl both.0)
          by (inr below) = behind q (inr below)

      plain : nat_eq x 47 ≡ false → (q : Path) (r : Path) → way_to aliases front ++ x ∷ [] ≡ q ++ 47 ∷ r → is_linked w q ≡ false
      plain other q r e = by (above_last (way_to aliases front) q x r e)
        where
          by : ((q ≡ way_to aliases front) × (x ≡ 47)) ⊎ IsBelow q (way_to aliases front) → is_linked w q ≡ false
          by (inl both) = absurd (let f : nat_eq x 47 ≡ true = ap (λ c. nat_eq c 47) both.1 in let g = other in cc)
          by (inr below) = clear q below

      at : (b : Bool) → nat_eq x 47 ≡ b → IsClear w (cond b (led aliases (way_to aliases front) ++ 47 ∷ []) (way_to aliases front ++ x ∷ []))
      at true same = λ q below. slash (eqb-true x 47 same) q below.0 below.1
      at false other = λ q below. plain other q below.0 below.1

  way_clear : (front rest : Path) → path ≡ front ++ rest → IsClear w (way_to aliases front) → IsClear w (way_from aliases (way_to aliases front) rest)
  way_clear front [] is clear = clear
  way_clear front (x ∷ rest) is clear =
      let more : way_to aliases (front ++ x ∷ []) ≡ gone aliases (way_to aliases front) x = way_more aliases [] front (x ∷ []) in
      subst (λ (p : Path). IsClear w (way_from aliases p rest)) more
      (way_clear (front ++ x ∷ []) rest (is ∙ sym (append_assoc front (x ∷ []) rest)) (subst (IsClear w) (sym more) (gone_clear front x rest is clear)))

  place_clear : IsClear w (way_to aliases path)
  place_clear = way_clear [] path refl (λ q below. absurd (nothing_below q below.0 below.1))

pub no_link_above : (w : World) (aliases : List Alias) (path q : Path) → IsTree w → AreAliasesIn w aliases → IsWhole w path aliases → IsBelow q (way_to aliases path) → is_linked w q ≡ false
no_link_above w aliases path q tree each whole below = place_clear w aliases path tree each whole q below
