-- What holds of works holds of them in another order, and whatever was seen of them.
use Rattle.std.proofs.Common.{◌≡◌, ◌-◌, ◌≤◌, Bool, List, [], ◌∷◌, ◌++◌, map, take, length, Contains, refl, sym, ap, subst, ◌∙◌, arith}
use Rattle.std.specs.Prelude.{◌||◌, ◌&&◌}
use Rattle.std.specs.Str.{bytes_eq}
use Rattle.std.proofs.Math.Seq.{take-append_seam}
use Rattle.std.proofs.lemmas.List.{length-append, length-map}
use Rattle.std.specs.List.{AllByRecursion}
use Rattle.std.proofs.lemmas.List.Elements.{All-contains, All-from_recursion, Contains-append_right}
use Rattle.std.proofs.lemmas.List.Sorted.{length_permutation}
use Rattle.host_core.specs.Paths.{Path}
use Rattle.host_core.specs.World.{World, kind_of}
use Rattle.file_check.specs.Clashes.{Owning}
use Rattle.file_check.specs.Index.{makes_directory, is_made, is_place, is_twice}
use Rattle.file_check.specs.Ready.{unseen, IsSameBut}
use Rattle.file_check.specs.Sound.{AllSound, AreSound}
use Rattle.file_check.proofs.WorkLists.{named_seen, named_unseen}
use Rattle.file_check.specs.Rearranged.{IsRearranged}
use Rattle.file_check.proofs.Permuting.{each_permuted}
use Rattle.package_files.specs.declared.work.Work.{Work}
use Rattle.package_files.specs.Files.{Each}
use Rattle.package_files.specs.Names.{IsNamed}
use Rattle.package_files.proofs.WorkLists.{each_of}
use Rattle.unpack_steps.specs.FileMoves.{IsPathOf, places_before, places_of}

each_to : (P : Work → Type 0) → ((x : Work) → P x → P (unseen x)) → (xs : List Work) → Each P xs → Each P (map unseen xs)
each_to P to [] all = tt
each_to P to (x ∷ xs) all = (to x all.0, each_to P to xs all.1)

each_from : (P : Work → Type 0) → ((x : Work) → P (unseen x) → P x) → (xs : List Work) → Each P (map unseen xs) → Each P xs
each_from P from [] all = tt
each_from P from (x ∷ xs) all = (from x all.0, each_from P from xs all.1)

pub each_rearranged : (P : Work → Type 0) → ((x : Work) → P x → P (unseen x)) → ((x : Work) → P (unseen x) → P x) → (xs ys : List Work) → IsRearranged xs ys → Each P xs → Each P ys
each_rearranged P to from xs ys moved all = each_from P from ys (each_permuted P (map unseen xs) (map unseen ys) moved (each_to P to xs all))

pub named_rearranged : (xs ys : List Work) → IsRearranged xs ys → Each IsNamed xs → Each IsNamed ys
named_rearranged xs ys moved all = each_rearranged IsNamed named_unseen named_seen xs ys moved all

pub length_rearranged : (xs ys : List Work) → IsRearranged xs ys → length ys ≡ length xs
length_rearranged xs ys moved = sym (length-map ys unseen) ∙ length_permutation (map unseen xs) (map unseen ys) moved ∙ length-map xs unseen

-- places

places_unseen : (xs : List Work) → places_of (map unseen xs) ≡ places_of xs
places_unseen [] = refl
places_unseen (x ∷ xs) = ap (λ (l : List Path). x.place ∷ l) (places_unseen xs)

pub places_same : (xs ys : List Work) → IsSameBut xs ys → places_of ys ≡ places_of xs
places_same xs ys same = sym (places_unseen ys) ∙ ap places_of same ∙ places_unseen xs

pub length_places : (xs : List Work) → length (places_of xs) ≡ length xs
length_places xs = length-map xs (λ (x : Work). x.place)

-- the places of as many works behind others
pub places_cut : (front : List Path) (xs ys : List Work) → length ys ≡ length xs → places_before (front ++ places_of xs) ys ≡ front
places_cut front xs ys as_many =
    let long : length (front ++ places_of xs) - length ys ≡ length front = omega (arith, length-append front (places_of xs), length_places xs, as_many) in
    ap (λ n. take n (front ++ places_of xs)) long ∙ take-append_seam front (places_of xs)

pub places_enough : (front : List Path) (xs ys : List Work) → length ys ≡ length xs → length ys ≤ length (front ++ places_of xs)
places_enough front xs ys as_many = omega (arith, length-append front (places_of xs), length_places xs, as_many)

-- each work has its place among them

places_have : (xs : List Work) → Each (λ x. Contains (places_of xs) x.place) xs
places_have [] = tt
places_have (x ∷ xs) =
    ((0, omega arith, refl), each_of (λ y. Contains (places_of xs) y.place) (λ y. Contains (places_of (x ∷ xs)) y.place) (λ y has. Contains-append_right (x.place ∷ []) (places_of xs) y.place has) xs (places_have xs))

pub places_listed : (front : List Path) (xs ys : List Work) → IsRearranged xs ys → Each (λ y. Contains (front ++ places_of xs) y.place) ys
places_listed front xs ys moved =
    each_rearranged (λ y. Contains (front ++ places_of xs) y.place) (λ y has. has) (λ y has. has) xs ys moved
    (each_of (λ y. Contains (places_of xs) y.place) (λ y. Contains (front ++ places_of xs) y.place) (λ y has. Contains-append_right front (places_of xs) y.place has) xs (places_have xs))

-- a path of works in another order is one of these

each_has : (P : Work → Type 0) (xs : List Work) → Each P xs → AllByRecursion P xs
each_has P [] all = tt
each_has P (x ∷ xs) all = (all.0, each_has P xs all.1)

have_paths : (xs : List Work) → Each (λ x. IsPathOf xs x.path) xs
have_paths [] = tt
have_paths (x ∷ xs) =
    ((x, (0, omega arith, refl), refl), each_of (λ y. IsPathOf xs y.path) (λ y. IsPathOf (x ∷ xs) y.path) (λ y has. (has.0, Contains-append_right (x ∷ []) xs has.0 has.1, has.2)) xs (have_paths xs))

pub path_rearranged : (xs ys : List Work) (path : Path) → IsRearranged xs ys → IsPathOf ys path → IsPathOf xs path
path_rearranged xs ys path moved is =
    let P = λ (y : Work). IsPathOf xs y.path in
    subst (IsPathOf xs) (sym is.2) (All-contains P ys is.0 (All-from_recursion P ys (each_has P ys (each_rearranged P (λ y has. has) (λ y has. has) xs ys moved (have_paths xs)))) is.1)

-- no fault, whatever was seen

made_unseen : (xs : List Work) (w : World) (q : Path) → is_made (map unseen xs) w q ≡ is_made xs w q
made_unseen [] w q = refl
made_unseen (x ∷ xs) w q = ap (λ b. (bytes_eq q x.target && makes_directory x.node (kind_of (w x.target))) || b) (made_unseen xs w q)

place_unseen : (xs : List Work) (q : Path) → is_place (map unseen xs) q ≡ is_place xs q
place_unseen [] q = refl
place_unseen (x ∷ xs) q = ap (λ b. bytes_eq q x.place || b) (place_unseen xs q)

twice_unseen : (xs : List Work) (q : Path) → is_twice (map unseen xs) q ≡ is_twice xs q
twice_unseen [] q = refl
twice_unseen (x ∷ xs) q = λ i. (bytes_eq q x.place && place_unseen xs q i) || twice_unseen xs q i

module _ (o : Owning) (made twice : Path → Bool) (w : World) where
  are_to : (xs : List Work) → AreSound o made twice w xs → AreSound o made twice w (map unseen xs)
  are_to [] are = tt
  are_to (x ∷ xs) are = (record { above = are.0.above; way = are.0.way; clash = are.0.clash; target = are.0.target }, are_to xs are.1)

  are_from : (xs : List Work) → AreSound o made twice w (map unseen xs) → AreSound o made twice w xs
  are_from [] are = tt
  are_from (x ∷ xs) are = (record { above = are.0.above; way = are.0.way; clash = are.0.clash; target = are.0.target }, are_from xs are.1)

module _ (o : Owning) (w : World) where
  sound_to : (xs : List Work) → AllSound o xs w → AllSound o (map unseen xs) w
  sound_to xs are =
      subst (λ (m : Path → Bool). AreSound o m (is_twice (map unseen xs)) w (map unseen xs)) (λ i q. sym (made_unseen xs w q) i)
      (subst (λ (m : Path → Bool). AreSound o (is_made xs w) m w (map unseen xs)) (λ i q. sym (twice_unseen xs q) i) (are_to o (is_made xs w) (is_twice xs) w xs are))

  sound_from : (xs : List Work) → AllSound o (map unseen xs) w → AllSound o xs w
  sound_from xs are =
      are_from o (is_made xs w) (is_twice xs) w xs
      (subst (λ (m : Path → Bool). AreSound o m (is_twice xs) w (map unseen xs)) (λ i q. made_unseen xs w q i)
      (subst (λ (m : Path → Bool). AreSound o (is_made (map unseen xs) w) m w (map unseen xs)) (λ i q. twice_unseen xs q i) are))

  pub sound_same : (xs ys : List Work) → IsSameBut xs ys → AllSound o ys w → AllSound o xs w
  sound_same xs ys same are = sound_from xs (subst (λ (l : List Work). AllSound o l w) same (sound_to ys are))
