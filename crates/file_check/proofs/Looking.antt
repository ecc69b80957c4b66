-- Parents of a place that are looked at, the nearest first.
use Rattle.std.proofs.Common.{◌≡◌, ◌≢◌, ◌⊎◌, inl, inr, ℕ, ◌-◌, ◌<◌, Bool, true, false, [], ◌∷◌, ◌++◌, length, get_or, drop, Option, Some, None, refl, sym, ap, subst, ◌∙◌, IsTrue, append_assoc, arith}
use Rattle.std.specs.Prelude.{◌||◌, not, IsSome}
use Rattle.std.proofs.lemmas.Bool.{true≢false}
use Rattle.std.proofs.lemmas.List.{get_or-append_right, length-append}
use Rattle.host_core.specs.Paths.{Path}
use Rattle.host_core.specs.World.{World, IsDirectory, kind_of}
use Rattle.host_core.specs.Tree.{IsTree}
use Rattle.host_core.specs.declared.node.Node.{Node}
use Rattle.host_core.specs.declared.node.Node.TheVariants.{File, Dir, Link}
use Rattle.host_core.proofs.Nodes.{directory_stands}
use Rattle.diversions.specs.Sights.{is_directory_kind}
use Rattle.file_check.specs.Above.{IsLink, Becomes, HasLink, Lacks, IsAbove, answer_of, is_link_kind}

abbrev pub Plain : Path → Type 0
Plain name = (i : ℕ) → i < length name → get_or name i 0 ≢ 47

slash_in : (p rest : Path) → Plain (p ++ 47 ∷ rest) → ⊥
slash_in p rest plain =
    let zero_is : length p - length p ≡ 0 = omega arith in
    plain (length p) (omega (arith, length-append p (47 ∷ rest))) (get_or-append_right p (47 ∷ rest) (length p) (length p) 0 refl (omega arith) ∙ ap (λ i. get_or (47 ∷ rest) i 0) zero_is)

-- a parent is the nearest, or one of that
pub nearest : (front name p rest : Path) → Plain name → front ++ 47 ∷ name ≡ p ++ 47 ∷ rest → (p ≡ front) ⊎ ((m : Path) × (front ≡ p ++ 47 ∷ m))
nearest [] name [] rest plain e = inl refl
nearest [] name (d ∷ p) rest plain e = absurd (slash_in p rest (subst Plain (ap (drop 1) e) plain))
nearest (c ∷ front) name [] rest plain e = inr (front, ap (λ (h : ℕ). h ∷ front) (ap (λ (l : Path). get_or l 0 0) e))
nearest (c ∷ front) name (d ∷ p) rest plain e =
    let same : c ≡ d = ap (λ (l : Path). get_or l 0 0) e in
    elim (nearest front name p rest plain (ap (drop 1) e)) [
      | inl is ↦ inl (λ i. sym same i ∷ is i)
      | inr m ↦ inr (m.0, λ i. same i ∷ m.1 i)
    ]

-- a parent that was looked at
abbrev pub Seen : (Path → Bool) → World → Bool → Path → Type 0
Seen made w lacking p = (IsLink (w p) → ⊥) × (lacking ≡ false → Becomes made w p)

-- each parent of the place is one of the rest, or was looked at
pub record IsLooking (made : Path → Bool) (w : World) (place rest : Path) (lacking : Bool) : Type 0 where
  pub parts : (p r : Path) → place ≡ p ++ 47 ∷ r → ((m : Path) × (rest ≡ p ++ 47 ∷ m)) ⊎ Seen made w lacking p
  pub within : (p m : Path) → rest ≡ p ++ 47 ∷ m → (r : Path) × (place ≡ p ++ 47 ∷ r)
  pub lacks : lacking ≡ true → Lacks made w place

pub looking_start : (made : Path → Bool) (w : World) (place : Path) → IsLooking made w place place false
looking_start made w place = record { parts = λ p r e. inl (r, e); within = λ p m e. (m, e); lacks = λ e. absurd (true≢false (sym e)) }

module _ (made : Path → Bool) (w : World) (place : Path) where
  -- all parents were looked at
  pub answered : (lacking : Bool) → ((p r : Path) → place ≡ p ++ 47 ∷ r → Seen made w lacking p) → (lacking ≡ true → Lacks made w place) → IsAbove made w place (answer_of lacking)
  answered true all lacks = (λ link. (all link.0 link.1 link.2).0 link.3, lacks refl)
  answered false all lacks = λ p r e. let seen = all p r e in (seen.1 refl, seen.0)

  module _ (rest : Path) (lacking : Bool) (so_far : IsLooking made w place rest lacking) where
    -- there is no further parent
    pub looked_all : Plain rest → IsAbove made w place (answer_of lacking)
    looked_all plain = answered lacking (λ p r e. elim (so_far.parts p r e) [
      | inl m ↦ absurd (slash_in p m.0 (subst Plain m.1 plain))
      | inr seen ↦ seen
    ]) so_far.lacks

    module _ (front name : Path) (cut : rest ≡ front ++ 47 ∷ name) (plain : Plain name) where
      -- the next is a directory, and so are all above it
      pub looked_directory : IsTree w → IsDirectory (w front) → IsAbove made w place (answer_of lacking)
      looked_directory tree dir = answered lacking (λ p r e. elim (so_far.parts p r e) [
        | inl m ↦ directory_seen p (elim (nearest front name p m.0 plain (sym cut ∙ m.1)) [
          | inl is ↦ subst (λ q. IsDirectory (w q)) (sym is) dir
          | inr k ↦ tree p k.0 (subst (λ q. IsSome (w q)) k.1 (directory_stands (w front) dir))
        ])
        | inr seen ↦ seen
      ]) so_far.lacks
        where
          directory_seen : (p : Path) → IsDirectory (w p) → Seen made w lacking p
          directory_seen p d = (λ link. true≢false (ap (λ n. is_directory_kind (kind_of n)) (sym d.1 ∙ link.1)), λ e. inl d)

      pub looked_link : IsLink (w front) → HasLink w place
      looked_link link = let r = so_far.within front name cut in (front, r.0, r.1, link)

      -- the next is neither
      pub looked_on : (IsDirectory (w front) → ⊥) → (IsLink (w front) → ⊥) → IsLooking made w place front (lacking || not (made front))
      looked_on no_dir no_link = record {
        parts = λ p r e. elim (so_far.parts p r e) [
          | inl m ↦ elim (nearest front name p m.0 plain (sym cut ∙ m.1)) [
            | inl is ↦ inr (subst (λ q. Seen made w (lacking || not (made front)) q) (sym is) (no_link, λ f. inr (is_made lacking (made front) f)))
            | inr k ↦ inl k
          ]
          | inr seen ↦ inr (seen.0, λ f. seen.1 (not_lacking lacking (made front) f))
        ];
        within = λ p m e. so_far.within p (m ++ 47 ∷ name) (cut ∙ ap (λ (l : Path). l ++ 47 ∷ name) e ∙ append_assoc p (47 ∷ m) (47 ∷ name));
        lacks = λ t. lacks_by lacking (made front) so_far.lacks refl t;
      } where
        is_made : (l m : Bool) → (l || not m) ≡ false → IsTrue m
        is_made true m f = absurd (true≢false f)
        is_made false true f = refl
        is_made false false f = absurd (true≢false f)

        not_lacking : (l m : Bool) → (l || not m) ≡ false → l ≡ false
        not_lacking true m f = absurd (true≢false f)
        not_lacking false m f = refl

        lacks_by : (l m : Bool) → (l ≡ true → Lacks made w place) → made front ≡ m → (l || not m) ≡ true → Lacks made w place
        lacks_by true m before is t = before refl
        lacks_by false true before is t = absurd (true≢false (sym t))
        lacks_by false false before is t = let r = so_far.within front name cut in (front, r.0, r.1, λ b. elim b [ inl d ↦ no_dir d | inr y ↦ true≢false (sym y ∙ is) ])

-- what kind of node it is
pub dir_is : (n : Option Node) → is_directory_kind (kind_of n) ≡ true → IsDirectory n
dir_is None e = absurd (true≢false (sym e))
dir_is (Some (File b m)) e = absurd (true≢false (sym e))
dir_is (Some (Dir m)) e = (m, refl)
dir_is (Some (Link t)) e = absurd (true≢false (sym e))

pub link_is : (n : Option Node) → is_link_kind (kind_of n) ≡ true → IsLink n
link_is None e = absurd (true≢false (sym e))
link_is (Some (File b m)) e = absurd (true≢false (sym e))
link_is (Some (Dir m)) e = absurd (true≢false (sym e))
link_is (Some (Link t)) e = (t, refl)

pub no_dir : (n : Option Node) → is_directory_kind (kind_of n) ≡ false → IsDirectory n → ⊥
no_dir n e dir = true≢false (sym (ap (λ o. is_directory_kind (kind_of o)) dir.1) ∙ e)

pub no_link : (n : Option Node) → is_link_kind (kind_of n) ≡ false → IsLink n → ⊥
no_link n e link = true≢false (sym (ap (λ o. is_link_kind (kind_of o)) link.1) ∙ e)
