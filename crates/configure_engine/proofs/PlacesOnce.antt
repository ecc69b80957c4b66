-- The conffiles that are settled stand at pairwise different places.
use Rattle.std.proofs.Common.{◌≡◌, Bool, true, false, cond, ◌||◌, List, [], ◌∷◌, ◌++◌, map, refl, sym, ap, ◌∙◌}
use Rattle.std.specs.List.{list_any, fold, AllByRecursion}
use Rattle.std.specs.Str.{bytes_eq}
use Rattle.std.proofs.lemmas.Bool.{true≢false, false_from_ne_true, or_from, or_parts}
use Rattle.std.proofs.lemmas.List.{map-append}
use Rattle.std.proofs.lemmas.List.Sums.{fold-append}
use Rattle.std.proofs.lemmas.Slice.Eq.{bytes_eq-Decides}
use Rattle.diversions.specs.Ways.{Ways}
use Rattle.host_core.specs.Paths.{Path}
use Rattle.status_records.specs.declared.record.Record.{Record}
use Rattle.status_records.specs.ConffilePaths.{is_before, placed_by, all_placed_by}
use Rattle.configure_engine.specs.Waiting.{going_paths, has_place, pending_paths, place_of, places_once, settling_paths, settling_places, with_place}

abbrev itself : Path → Path
itself q = q

-- each path once
abbrev pub AreOnce : List Path → Type 0
AreOnce [] = Unit {0}
AreOnce (p ∷ ps) = (list_any (bytes_eq p) ps ≡ false) × AreOnce ps

pub any_mapped : (f : Path → Path) (p : Path) (ps : List Path) → list_any (bytes_eq p) (map f ps) ≡ list_any (λ q. bytes_eq p (f q)) ps
any_mapped f p [] = refl
any_mapped f p (q ∷ ps) = ap (λ (b : Bool). bytes_eq p (f q) || b) (any_mapped f p ps)

flipped : (a b : Path) → bytes_eq a b ≡ false → bytes_eq b a ≡ false
flipped a b e = false_from_ne_true (bytes_eq b a) (λ t. true≢false (sym ((bytes_eq-Decides a b).1 (sym ((bytes_eq-Decides b a).0 t))) ∙ e))

module _ (ways : Ways) where
  -- paths of pairwise different places
  abbrev Apart : List Path → Type 0
  Apart [] = Unit {0}
  Apart (p ∷ ps) = (has_place ways ps p ≡ false) × Apart ps

  pub places_apart : (ps : List Path) → Apart ps → AreOnce (map (place_of ways) ps)
  places_apart [] apart = tt
  places_apart (p ∷ ps) apart = (any_mapped (place_of ways) (place_of ways p) ps ∙ apart.0, places_apart ps apart.1)

  -- one more at the end

  has_last : (ps : List Path) (x p : Path) → has_place ways ps p ≡ false → bytes_eq (place_of ways p) (place_of ways x) ≡ false → has_place ways (ps ++ x ∷ []) p ≡ false
  has_last [] x p none other = or_from (bytes_eq (place_of ways p) (place_of ways x)) false other refl
  has_last (q ∷ ps) x p none other =
      let parts = or_parts (bytes_eq (place_of ways p) (place_of ways q)) (has_place ways ps p) none in
      or_from (bytes_eq (place_of ways p) (place_of ways q)) (has_place ways (ps ++ x ∷ []) p) parts.0 (has_last ps x p parts.1 other)

  apart_last : (ps : List Path) (x : Path) → Apart ps → has_place ways ps x ≡ false → Apart (ps ++ x ∷ [])
  apart_last [] x apart new = (refl, tt)
  apart_last (p ∷ ps) x apart new =
      let parts = or_parts (bytes_eq (place_of ways x) (place_of ways p)) (has_place ways ps x) new in
      (has_last ps x p apart.0 (flipped (place_of ways x) (place_of ways p) parts.0), apart_last ps x apart.1 parts.1)

  once_apart : (kept xs : List Path) → Apart kept → Apart (fold (with_place ways) kept xs)
  once_apart kept [] apart = apart
  once_apart kept (x ∷ xs) apart = once_apart (with_place ways kept x) xs (by (has_place ways kept x) refl)
    where
      by : (b : Bool) → has_place ways kept x ≡ b → Apart (cond b kept (kept ++ x ∷ []))
      by true is = apart
      by false is = apart_last kept x apart is

  pub once_more : (xs : List Path) (x : Path) → places_once ways (xs ++ x ∷ []) ≡ with_place ways (places_once ways xs) x
  once_more xs x = fold-append (with_place ways) [] xs (x ∷ [])

  -- a path that is looked at, by the places of those kept

  pub one_kept : (xs kept places : List Path) (x place : Path) (now : List Path) → kept ≡ places_once ways xs → places ≡ map (place_of ways) kept → place ≡ place_of ways x → now ≡ cond (list_any (bytes_eq place) places) kept (kept ++ x ∷ []) → now ≡ places_once ways (xs ++ x ∷ [])
  one_kept xs kept places x place now is at here after =
      let test : list_any (bytes_eq place) places ≡ has_place ways kept x = ap (λ (p : Path). list_any (bytes_eq p) places) here ∙ ap (list_any (bytes_eq (place_of ways x))) at ∙ any_mapped (place_of ways) (place_of ways x) kept in
      after ∙ ap (λ (b : Bool). cond b kept (kept ++ x ∷ [])) test ∙ ap (λ (l : List Path). with_place ways l x) is ∙ sym (once_more xs x)

  both_kept : (b : Bool) (kept places : List Path) (x place : Path) → places ≡ map (place_of ways) kept → place ≡ place_of ways x → cond b places (places ++ place ∷ []) ≡ map (place_of ways) (cond b kept (kept ++ x ∷ []))
  both_kept true kept places x place at here = at
  both_kept false kept places x place at here =
      ap (λ (l : List Path). l ++ place ∷ []) at ∙ ap (λ (p : Path). map (place_of ways) kept ++ p ∷ []) here ∙ sym (map-append (place_of ways) kept (x ∷ []))

  pub places_kept : (kept places : List Path) (x place : Path) (now then : List Path) → places ≡ map (place_of ways) kept → place ≡ place_of ways x → then ≡ cond (list_any (bytes_eq place) places) places (places ++ place ∷ []) → now ≡ cond (list_any (bytes_eq place) places) kept (kept ++ x ∷ [])
      → then ≡ map (place_of ways) now
  places_kept kept places x place now then at here after after_kept =
      after ∙ both_kept (list_any (bytes_eq place) places) kept places x place at here ∙ ap (map (place_of ways)) (sym after_kept)

  -- one more in its place

  has_placed : (x : Path) (ys : List Path) (p : Path) → bytes_eq (place_of ways p) (place_of ways x) ≡ false → has_place ways ys p ≡ false → has_place ways (placed_by itself x ys) p ≡ false
  has_placed x [] p other none = or_from (bytes_eq (place_of ways p) (place_of ways x)) false other refl
  has_placed x (y ∷ ys) p other none =
      let parts = or_parts (bytes_eq (place_of ways p) (place_of ways y)) (has_place ways ys p) none in
      by (is_before y x) parts.0 (has_placed x ys p other parts.1)
    where
      by : (b : Bool) → bytes_eq (place_of ways p) (place_of ways y) ≡ false → has_place ways (placed_by itself x ys) p ≡ false → has_place ways (cond b (y ∷ placed_by itself x ys) (x ∷ y ∷ ys)) p ≡ false
      by true here rest = or_from (bytes_eq (place_of ways p) (place_of ways y)) (has_place ways (placed_by itself x ys) p) here rest
      by false here rest = or_from (bytes_eq (place_of ways p) (place_of ways x)) (has_place ways (y ∷ ys) p) other none

  placed_apart : (x : Path) (ys : List Path) → Apart ys → has_place ways ys x ≡ false → Apart (placed_by itself x ys)
  placed_apart x [] apart new = (refl, tt)
  placed_apart x (y ∷ ys) apart new =
      let parts = or_parts (bytes_eq (place_of ways x) (place_of ways y)) (has_place ways ys x) new in
      by (is_before y x) (flipped (place_of ways x) (place_of ways y) parts.0) (placed_apart x ys apart.1 parts.1)
    where
      by : (b : Bool) → bytes_eq (place_of ways y) (place_of ways x) ≡ false → Apart (placed_by itself x ys) → Apart (cond b (y ∷ placed_by itself x ys) (x ∷ y ∷ ys))
      by true other rest = (has_placed x ys y other apart.0, rest)
      by false other rest = (new, apart)

  still_new : (x : Path) (ys xs : List Path) → has_place ways xs x ≡ false → AllByRecursion (λ q. has_place ways ys q ≡ false) xs → AllByRecursion (λ q. has_place ways (placed_by itself x ys) q ≡ false) xs
  still_new x ys [] other new = tt
  still_new x ys (q ∷ xs) other new =
      let parts = or_parts (bytes_eq (place_of ways x) (place_of ways q)) (has_place ways xs x) other in
      (has_placed x ys q (flipped (place_of ways x) (place_of ways q) parts.0) new.0, still_new x ys xs parts.1 new.1)

  ordered_apart : (xs ys : List Path) → Apart xs → Apart ys → AllByRecursion (λ q. has_place ways ys q ≡ false) xs → Apart (all_placed_by itself ys xs)
  ordered_apart [] ys first second new = second
  ordered_apart (x ∷ xs) ys first second new = ordered_apart xs (placed_by itself x ys) first.1 (placed_apart x ys second new.0) (still_new x ys xs first.0 new.1)

  none_there : (xs : List Path) → AllByRecursion (λ q. has_place ways [] q ≡ false) xs
  none_there [] = tt
  none_there (x ∷ xs) = (refl, none_there xs)

  pub settling_once : (r : Record) → AreOnce (settling_places ways r)
  settling_once r =
      let both = pending_paths r ++ going_paths r in
      places_apart (settling_paths ways r) (ordered_apart (places_once ways both) [] (once_apart [] both tt) tt (none_there (places_once ways both)))
