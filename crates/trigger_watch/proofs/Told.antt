-- Of each package of sound interests something is told.
use Rattle.std.proofs.Common.{◌≡◌, ◌∙◌, ◌||◌, not, ℕ, Bool, true, false, if◌then◌else◌, List, [], ◌∷◌, ◌++◌, map, filter, refl, sym, ap}
use Rattle.std.specs.List.{AllByRecursion, flat_map, list_any}
use Rattle.std.specs.Str.{bytes_eq}
use Rattle.std.proofs.lemmas.Bool.{true≢false}
use Rattle.std.proofs.lemmas.Slice.Eq.{bytes_eq-Decides}
use Rattle.status_records.specs.TriggerNames.{are_trigger_names}
use Rattle.trigger_interests.specs.declared.interests.Interest.{Interest}
use Rattle.trigger_watch.specs.Activations.{activation, activations_by, names_for, packages_of}
use Rattle.trigger_watch.specs.Names.{each_once, spaced, without}
use Rattle.trigger_watch.specs.declared.activating.Activation.{Activation}
use Rattle.trigger_watch.proofs.All.{all_filter, all_map, all_weaker, chosen}
use Rattle.trigger_watch.proofs.Declared.{IsSound, IsSoundInterest}
use Rattle.trigger_watch.proofs.Spaced.{spaced_names}

once_all : (P : List ℕ → Type 0) (names : List (List ℕ)) → AllByRecursion P names → AllByRecursion P (each_once names)
once_all P [] a = tt
once_all P (name ∷ names) a = (a.0, all_filter P (λ n. not (bytes_eq n name)) (each_once names) (once_all P names a.1))

-- some interest is of the package
abbrev has : List Interest → List ℕ → Bool
has interests owner = list_any (λ interest. bytes_eq interest.«package» owner) interests

or_right : (a b : Bool) → b ≡ true → (a || b) ≡ true
or_right true b e = refl
or_right false b e = e

owners_have : (interests : List Interest) → AllByRecursion (λ owner. has interests owner ≡ true) (map (λ interest. interest.«package») interests)
owners_have [] = tt
owners_have (x ∷ xs) = (
  ap (λ (b : Bool). b || has xs x.«package») ((bytes_eq-Decides x.«package» x.«package»).1 refl),
  all_weaker (λ owner. has xs owner ≡ true) (λ owner. has (x ∷ xs) owner ≡ true) (λ owner e. or_right (bytes_eq x.«package» owner) (has xs owner) e) (map (λ interest. interest.«package») xs) (owners_have xs),
)

-- names of which there is one
abbrev IsTold : List (List ℕ) → Type 0
IsTold names = are_trigger_names (spaced names) ≡ true

sound_names : (xs : List Interest) → AllByRecursion IsSoundInterest xs → AllByRecursion IsSound (map (λ interest. interest.name) xs)
sound_names xs all = all_map IsSound (λ (interest : Interest). interest.name) xs all

-- the first that is kept, and others behind it
first_told : (x : Interest) (those : List Interest) → IsSound x.name → AllByRecursion IsSoundInterest those → IsTold (each_once (map (λ interest. interest.name) (x ∷ those)))
first_told x those sound all =
    let names = map (λ interest. interest.name) those in
    spaced_names x.name (without x.name (each_once names)) (once_all IsSound (x.name ∷ names) (sound, sound_names those all))

told : (owner : List ℕ) (xs : List Interest) → AllByRecursion IsSoundInterest xs → has xs owner ≡ true
    → IsTold (each_once (map (λ interest. interest.name) (filter (λ interest. bytes_eq interest.«package» owner) xs)))
told owner [] all e = absurd (true≢false (sym e))
told owner (x ∷ xs) all e =
    let test = λ (interest : Interest). bytes_eq interest.«package» owner in
    chosen (λ those. IsTold (each_once (map (λ interest. interest.name) those))) (test x) (x ∷ filter test xs) (filter test xs)
    (λ is. first_told x (filter test xs) all.0 (all_filter IsSoundInterest test xs all.1))
    (λ other. told owner xs all.1 (ap (λ (b : Bool). b || has xs owner) (sym other) ∙ e))

one_each : (interests : List Interest) (owner : List ℕ) → are_trigger_names (spaced (names_for interests owner)) ≡ true → map (λ a. a.«package») (activation interests owner) ≡ owner ∷ []
one_each interests owner e = ap (λ (b : Bool). map (λ (a : Activation). a.«package») (if b then record { «package» = owner; names = spaced (names_for interests owner) } ∷ [] else [])) e

map_both : {X Y : Type 0} (f : X → Y) (xs ys : List X) → map f (xs ++ ys) ≡ map f xs ++ map f ys
map_both f [] ys = refl
map_both f (x ∷ xs) ys = ap (λ l. f x ∷ l) (map_both f xs ys)

each_of : (f : List ℕ → List Activation) (owners : List (List ℕ)) → AllByRecursion (λ owner. map (λ a. a.«package») (f owner) ≡ owner ∷ []) owners → map (λ a. a.«package») (flat_map f owners) ≡ owners
each_of f [] all = refl
each_of f (owner ∷ owners) all =
    map_both (λ a. a.«package») (f owner) (flat_map f owners) ∙ ap (λ (l : List (List ℕ)). l ++ map (λ a. a.«package») (flat_map f owners)) all.0 ∙ ap (λ (l : List (List ℕ)). owner ∷ l) (each_of f owners all.1)

pub each_is_told : (interests : List Interest) → AllByRecursion IsSoundInterest interests → map (λ a. a.«package») (activations_by interests) ≡ packages_of interests
each_is_told interests all =
    each_of (activation interests) (packages_of interests)
    (once_all (λ owner. map (λ a. a.«package») (activation interests owner) ≡ owner ∷ []) (map (λ interest. interest.«package») interests)
    (all_weaker (λ owner. has interests owner ≡ true) (λ owner. map (λ a. a.«package») (activation interests owner) ≡ owner ∷ [])
    (λ owner e. one_each interests owner (told owner interests all e)) (map (λ interest. interest.«package») interests) (owners_have interests)))
