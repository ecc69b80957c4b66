-- What a unit hits is activated, where no unit behind it tells the interested package.
use Rattle.std.proofs.Common.{◌≡◌, ◌⊎◌, inl, inr, ◌+◌, ◌&&◌, ◌||◌, not, ℕ, Bool, true, false, cond, if◌then◌else◌, List, [], ◌∷◌, ◌++◌, map, reverse, take, refl, sym, ap, subst, ◌∙◌, one-add}
use Rattle.std.specs.List.{AllByRecursion, list_any, prefix_len, take_while}
use Rattle.std.specs.Str.{bytes_eq}
use Rattle.std.proofs.lemmas.Bool.{true≢false, and_from, or_left, or_right}
use Rattle.std.proofs.lemmas.List.{map-append, reverse-append}
use Rattle.std.proofs.lemmas.List.Folds.{list_any-append}
use Rattle.std.proofs.lemmas.Slice.Eq.{bytes_eq-Decides}
use Rattle.file_lists.specs.declared.paths.PackageList.{PackageList}
use Rattle.host_core.specs.World.{World}
use Rattle.trigger_interests.specs.Hits.{is_hit_among}
use Rattle.trigger_interests.specs.Interests.{activations_of}
use Rattle.trigger_interests.specs.declared.interests.Interest.{Interest}
use Rattle.trigger_watch.specs.Activations.{hits_since, is_activated}
use Rattle.trigger_watch.specs.Hits.{counted_paths, is_hit}
use Rattle.trigger_watch.specs.Names.{is_among}
use Rattle.trigger_watch.specs.Touches.{hits_at, names_at, names_before, touching_hits}
use Rattle.trigger_watch.specs.declared.hits.Hits.{Hits}
use Rattle.trigger_watch.specs.declared.touching.Touch.{Touch}
use Rattle.trigger_watch.proofs.All.{all_append}
use Rattle.kept_activations.specs.Hitting.{IsHit, IsHitBy, IsHitLast}
use Rattle.kept_activations.proofs.Interests.{IsOne, one_named}
use Rattle.kept_activations.proofs.Members.{in_among, in_filter}

module _ {X : Type 0} (p q : X → Bool) where
  taken : (x : X) (xs : List X) → p x ≡ true → take_while p (x ∷ xs) ≡ x ∷ take_while p xs
  taken x xs e = ap (λ n. take n (x ∷ xs)) (ap (λ t. cond t (1 + prefix_len p xs) 0) e ∙ one-add (prefix_len p xs))

  -- what stands in a front that is taken
  taken_any : (xs ys : List X) → AllByRecursion (λ x. p x ≡ true) xs → list_any q xs ≡ true → list_any q (take_while p (xs ++ ys)) ≡ true
  taken_any [] ys all any = absurd (true≢false (sym any))
  taken_any (x ∷ xs) ys all any = ap (list_any q) (taken x (xs ++ ys) all.0) ∙ by (q x) refl (taken_any xs ys all.1)
    where
      by : (t : Bool) → q x ≡ t → (list_any q xs ≡ true → list_any q (take_while p (xs ++ ys)) ≡ true) → list_any q (x ∷ take_while p (xs ++ ys)) ≡ true
      by true e later = or_left (q x) (list_any q (take_while p (xs ++ ys))) e
      by false e later = or_right (q x) (list_any q (take_while p (xs ++ ys))) (later (sym (ap (λ t. t || list_any q xs) e) ∙ any))

module _ {X : Type 0} where
  all_reverse : (P : X → Type 0) (xs : List X) → AllByRecursion P xs → AllByRecursion P (reverse xs)
  all_reverse P [] all = tt
  all_reverse P (x ∷ xs) all = subst (AllByRecursion P) (sym (reverse-append (x ∷ []) xs)) (all_append P (reverse xs) (x ∷ []) (all_reverse P xs all.1) (all.0, tt))

  last_any : (q : X → Bool) (x : X) (xs : List X) → q x ≡ true → list_any q (reverse (x ∷ xs)) ≡ true
  last_any q x xs on =
      ap (list_any q) (reverse-append (x ∷ []) xs) ∙ list_any-append q (reverse xs) (x ∷ []) ∙ or_right (list_any q (reverse xs)) (list_any q (x ∷ [])) (or_left (q x) false on)

module _ (w : World) (lists : List PackageList) (by_files : Bool) (before : List Hits) (interests : List Interest) where
  abbrev at : Touch → Hits
  at touch = hits_at w lists by_files before interests touch

  hit_named : (trigger : List ℕ) (touch : Touch) → IsHitBy w lists by_files before trigger touch → is_hit (counted_paths lists (by_files && touch.files) touch.«package») (names_at w before touch) trigger ≡ true
  hit_named trigger touch (IsHitBy.by_file counts changed hit) =
      or_left (is_hit_among (counted_paths lists (by_files && touch.files) touch.«package») trigger) (is_among (names_at w before touch) trigger)
      (ap (λ t. is_hit_among (counted_paths lists t touch.«package») trigger) (and_from by_files touch.files counts changed) ∙ hit)
  hit_named trigger touch (IsHitBy.by_name hit) =
      let more = if touch.files then names_before before touch.«package» else [] in
      or_right (is_hit_among (counted_paths lists (by_files && touch.files) touch.«package») trigger) (is_among (names_at w before touch) trigger)
      (list_any-append (bytes_eq trigger) (activations_of w touch.«package») more ∙ or_left (is_among (activations_of w touch.«package») trigger) (is_among more trigger) hit)
  hit_named trigger touch (IsHitBy.as_before changed hit) =
      let more = if touch.files then names_before before touch.«package» else [] in
      or_right (is_hit_among (counted_paths lists (by_files && touch.files) touch.«package») trigger) (is_among (names_at w before touch) trigger)
      (list_any-append (bytes_eq trigger) (activations_of w touch.«package») more
      ∙ or_right (is_among (activations_of w touch.«package») trigger) (is_among more trigger) (ap (λ t. is_among (if t then names_before before touch.«package» else []) trigger) changed ∙ hit))

  all_others : (owner : List ℕ) (touches : List Touch) → AllByRecursion (λ t. bytes_eq t.«package» owner ≡ false) touches → AllByRecursion (λ h. not (bytes_eq h.«package» owner) ≡ true) (map at touches)
  all_others owner [] all = tt
  all_others owner (touch ∷ touches) all = (ap not all.0, all_others owner touches all.1)

  hit_since : (owner trigger : List ℕ) (touches : List Touch) → IsOne interests owner trigger → IsHitLast w lists by_files before touches owner trigger
      → list_any (λ h. is_among h.names trigger) (hits_since owner (touching_hits w lists by_files before interests touches)) ≡ true
  hit_since owner trigger touches one is =
      let test = λ (h : Hits). not (bytes_eq h.«package» owner) in
      let names = λ (h : Hits). is_among h.names trigger in
      let last = map at (is.hits.touch ∷ is.hits.behind) in
      let split : reverse (map at touches) ≡ reverse last ++ reverse (map at is.hits.front) =
      ap (λ (ts : List Touch). reverse (map at ts)) is.hits.are ∙ ap reverse (map-append at is.hits.front (is.hits.touch ∷ is.hits.behind)) ∙ reverse-append (map at is.hits.front) last in
      let on : names (at is.hits.touch) ≡ true =
      in_among (at is.hits.touch).names trigger
      (in_filter (is_hit (counted_paths lists (by_files && is.hits.touch.files) is.hits.touch.«package») (names_at w before is.hits.touch)) (map (λ (interest : Interest). interest.name) interests) trigger (one_named interests owner trigger one) (hit_named trigger is.hits.touch is.hits.hit)) in
      ap (λ (hs : List Hits). list_any names (take_while test hs)) split
      ∙ taken_any test names (reverse last) (reverse (map at is.hits.front)) (all_reverse (λ h. test h ≡ true) last (all_others owner (is.hits.touch ∷ is.hits.behind) is.other))
      (last_any names (at is.hits.touch) (map at is.hits.behind) on)

  pub hit_activates : (owner trigger : List ℕ) (touches : List Touch) → (one : IsOne interests owner trigger) → IsHitLast w lists by_files before touches owner trigger
      → is_activated (touching_hits w lists by_files before interests touches) one.interest ≡ true
  hit_activates owner trigger touches one is =
      let hits = touching_hits w lists by_files before interests touches in
      ap (λ (n : List ℕ). list_any (λ (h : Hits). is_among h.names n) (hits_since one.interest.«package» hits)) one.named
      ∙ ap (λ (n : List ℕ). list_any (λ (h : Hits). is_among h.names trigger) (hits_since n hits)) one.owned ∙ hit_since owner trigger touches one is

-- a unit that hits it is the last one of it, or the interested package is told by a unit

not_or_among : (owner : List ℕ) (ts : List Touch) → AllByRecursion (λ t. bytes_eq t.«package» owner ≡ false) ts ⊎ (is_among (map (λ (t : Touch). t.«package») ts) owner ≡ true)
not_or_among owner [] = inl tt
not_or_among owner (t ∷ ts) = by (bytes_eq t.«package» owner) refl (not_or_among owner ts)
  where
    by : (b : Bool) → bytes_eq t.«package» owner ≡ b → AllByRecursion (λ t. bytes_eq t.«package» owner ≡ false) ts ⊎ (is_among (map (λ (x : Touch). x.«package») ts) owner ≡ true)
        → AllByRecursion (λ t. bytes_eq t.«package» owner ≡ false) (t ∷ ts) ⊎ (is_among (map (λ (x : Touch). x.«package») (t ∷ ts)) owner ≡ true)
    by true e rest = inr (or_left (bytes_eq owner t.«package») (is_among (map (λ (x : Touch). x.«package») ts) owner) ((bytes_eq-Decides owner t.«package»).1 (sym ((bytes_eq-Decides t.«package» owner).0 e))))
    by false e (inl all) = inl (e, all)
    by false e (inr among) = inr (or_right (bytes_eq owner t.«package») (is_among (map (λ (x : Touch). x.«package») ts) owner) among)

pub last_or_told : (w : World) (lists : List PackageList) (by_files : Bool) (before : List Hits) (touches : List Touch) (owner trigger : List ℕ) → IsHit w lists by_files before touches trigger
    → IsHitLast w lists by_files before touches owner trigger ⊎ (is_among (map (λ (t : Touch). t.«package») touches) owner ≡ true)
last_or_told w lists by_files before touches owner trigger is = by (not_or_among owner (is.touch ∷ is.behind))
  where
    by : AllByRecursion (λ t. bytes_eq t.«package» owner ≡ false) (is.touch ∷ is.behind) ⊎ (is_among (map (λ (t : Touch). t.«package») (is.touch ∷ is.behind)) owner ≡ true)
        → IsHitLast w lists by_files before touches owner trigger ⊎ (is_among (map (λ (t : Touch). t.«package») touches) owner ≡ true)
    by (inl all) = inl (record { hits = is; other = all })
    by (inr among) =
        inr (ap (λ (ts : List Touch). is_among (map (λ (t : Touch). t.«package») ts) owner) is.are
        ∙ ap (λ (l : List (List ℕ)). is_among l owner) (map-append (λ (t : Touch). t.«package») is.front (is.touch ∷ is.behind))
        ∙ list_any-append (bytes_eq owner) (map (λ (t : Touch). t.«package») is.front) (map (λ (t : Touch). t.«package») (is.touch ∷ is.behind))
        ∙ or_right (is_among (map (λ (t : Touch). t.«package») is.front) owner) (is_among (map (λ (t : Touch). t.«package») (is.touch ∷ is.behind)) owner) among)
