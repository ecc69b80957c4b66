-- What was met on the way through a root stays met.
use Rattle.std.proofs.Common.{◌≡◌, ◌⊎◌, ◌+◌, ◌-◌, ◌<◌, ◌≤◌, inl, inr, ℕ, List, [], ◌∷◌, ◌++◌, Bool, true, false, IsTrue, Option, Some, None, Result, Ok, Err, OnOk, String, string_bytes, Contains, map, length, take, get_or, refl, sym, ap, subst, ◌∙◌, append-nil, append_assoc, arith}
use Rattle.std.specs.declared.alloc.Global.{Global}
use Rattle.std.proofs.lemmas.Bool.{cases_lt}
use Rattle.std.proofs.lemmas.List.{get_or-map, length-map, map-append, take-append-le, take_all, take_more, get_or_default}
use Rattle.std.specs.Fs.{file_type, IsDir, IsFile}
use Rattle.std.specs.declared.fs.Metadata.{Metadata}
use Rattle.std.proofs.lemmas.List.Elements.{Contains-append_left, Contains-append_right, Contains-push, Contains-push_cases}
use Rattle.host_core.specs.Paths.{Path}
use Rattle.host_files.specs.Places.{place_of}
use Rattle.host_files.specs.SystemCalls.{Looks, look_call}
use Rattle.host_files.specs.Walked.{GoesOn, HasListed, HasMet, Includes, IsHandled, IsWalked}
use Rattle.host_files.specs.declared.trace.SystemCall.{SystemCall}
use Rattle.host_files.specs.declared.trace.SystemCall.TheVariants as ask

pub includes_then : {X : Type 0} (a b c : List X) → Includes a b → Includes b c → Includes a c
includes_then a b c first second = λ x has. second x (first x has)

pub includes_itself : {X : Type 0} (a : List X) → Includes a a
includes_itself a = λ x has. has

-- one call more
pub includes_call : (call : SystemCall) (old new : List SystemCall) → new ≡ call ∷ old → Includes old new
includes_call call old new is = λ x has. subst (λ l. Contains l x) (sym is) (Contains-append_right (call ∷ []) old x has)

pub has_call : (call : SystemCall) (old new : List SystemCall) → new ≡ call ∷ old → Contains new call
has_call call old new is = subst (λ l. Contains l call) (sym is) (Contains-append_left (call ∷ []) old call (Contains-push [] call))

pub goes_itself : {X : Type 0} (a : List X) → GoesOn a a
goes_itself a = ([], sym (append-nil a))

pub goes_then : {X : Type 0} (a b c : List X) → GoesOn a b → GoesOn b c → GoesOn a c
goes_then a b c first second = (first.0 ++ second.0, second.1 ∙ ap (λ l. l ++ second.0) first.1 ∙ append_assoc a first.0 second.0)

pub goes_includes : {X : Type 0} (a b : List X) → GoesOn a b → Includes a b
goes_includes a b goes = λ x has. subst (λ l. Contains l x) (sym goes.1) (Contains-append_left a goes.0 x has)

module _ (front : List ℕ) where
  handled_more : (made after : List SystemCall) (walked more : List Path) (path : Path) (seen : Option Metadata) → Includes made after → Includes walked more → IsHandled front made walked path seen → IsHandled front after more path seen
  handled_more made after walked more path None calls paths handled = tt
  handled_more made after walked more path (Some seen) calls paths handled = (
    λ file. calls _ (handled.0 file),
    λ directory. elim (handled.1 directory) [ inl apart ↦ inl (calls _ apart) | inr there ↦ inr (paths path there) ],
  )

  pub met_more : (made after : List SystemCall) (walked more : List Path) (path : Path) → Includes made after → Includes walked more → HasMet front made walked path → HasMet front after more path
  met_more made after walked more path calls paths met = (met.0, calls _ met.1, handled_more made after walked more path met.0 calls paths met.2)

  pub listed_more : (made after : List SystemCall) (walked more : List Path) (path : Path) → Includes made after → Includes walked more → HasListed front made walked path → HasListed front after more path
  listed_more made after walked more path calls paths listed =
      (listed.0, calls _ listed.1, λ name has. met_more made after walked more (path ++ 47 ∷ name) calls paths (listed.2 name has))

  -- what a look told of one path, and what was done for it

  both_kinds : (seen : Metadata) → IsFile (file_type seen) → IsDir (file_type seen) → ⊥
  both_kinds seen file directory = omega (arith, file, directory)

  pub file_met : (made new : List SystemCall) (walked : List Path) (path : Path) (place : List ℕ) (seen : Metadata) → Contains made (look_call (place_of front path) (Some seen)) → place ≡ place_of front path → new ≡ ask.SyncFile place ∷ made → IsFile (file_type seen) → HasMet front new walked path
  file_met made new walked path place seen looked at is file = (
    Some seen,
    includes_call (ask.SyncFile place) made new is _ looked,
    (λ f. subst (λ p. Contains new (ask.SyncFile p)) at (has_call (ask.SyncFile place) made new is), λ d. absurd (both_kinds seen file d)),
  )

  pub apart_met : (made new : List SystemCall) (walked : List Path) (path : Path) (place : List ℕ) (seen : Metadata) → Contains made (look_call (place_of front path) (Some seen)) → place ≡ place_of front path → new ≡ ask.Apart place ∷ made → (IsFile (file_type seen) → ⊥) → HasMet front new walked path
  apart_met made new walked path place seen looked at is none = (
    Some seen,
    includes_call (ask.Apart place) made new is _ looked,
    (λ f. absurd (none f), λ d. inl (subst (λ p. Contains new (ask.Apart p)) at (has_call (ask.Apart place) made new is))),
  )

  pub directory_met : (made : List SystemCall) (walked : List Path) (path : Path) (seen : Metadata) → Contains made (look_call (place_of front path) (Some seen)) → Contains walked path → (IsFile (file_type seen) → ⊥) → HasMet front made walked path
  directory_met made walked path seen looked there none = (Some seen, looked, (λ f. absurd (none f), λ d. inr there))

  pub seen_at : (place at : List ℕ) (found : Option Metadata) (seen : Metadata) (old new : List SystemCall) → place ≡ at → found ≡ Some seen → Looks place found old new → Contains new (look_call at (Some seen))
  seen_at place at found seen old new same is looks = has_call (look_call at (Some seen)) old new (looks ∙ ap (λ f. look_call place f ∷ old) is ∙ ap (λ p. look_call p (Some seen) ∷ old) same)

  -- one name more in a directory
  pub names_met : (made after : List SystemCall) (walked more : List Path) (directory : Path) (names : List (String Global)) (i : ℕ) (name : String Global) → i < length names → name ≡ get_or names i name → Includes made after → Includes walked more
      → ((n : List ℕ) → Contains (map string_bytes (take i names)) n → HasMet front made walked (directory ++ 47 ∷ n)) → HasMet front after more (directory ++ 47 ∷ string_bytes name)
      → (n : List ℕ) → Contains (map string_bytes (take (i + 1) names)) n → HasMet front after more (directory ++ 47 ∷ n)
  names_met made after walked more directory names i name low at calls paths before one n has =
      let all : map string_bytes (take (i + 1) names) ≡ map string_bytes (take i names) ++ string_bytes name ∷ [] =
      ap (map string_bytes) (take_more names i name low ∙ ap (λ x. take i names ++ x ∷ []) (sym at)) ∙ map-append string_bytes (take i names) (name ∷ []) in
      elim (Contains-push_cases (map string_bytes (take i names)) (string_bytes name) n (subst (λ l. Contains l n) all has)) [
        | inl old ↦ met_more made after walked more (directory ++ 47 ∷ n) calls paths (before n old)
        | inr new ↦ subst (λ x. HasMet front after more (directory ++ 47 ∷ x)) new one
      ]

  -- one directory more
  pub all_listed : (made after : List SystemCall) (walked more : List Path) (at : ℕ) → at < length walked → Includes made after → GoesOn walked more
      → ((path : Path) → Contains (take at walked) path → HasListed front made walked path) → HasListed front after more (get_or walked at [])
      → (path : Path) → Contains (take (at + 1) more) path → HasListed front after more path
  all_listed made after walked more at low calls goes before one path has =
      let first : take (at + 1) more ≡ take at walked ++ get_or walked at [] ∷ [] =
      ap (take (at + 1)) goes.1 ∙ take-append-le (at + 1) walked goes.0 (omega arith) ∙ take_more walked at [] low in
      elim (Contains-push_cases (take at walked) (get_or walked at []) path (subst (λ l. Contains l path) first has)) [
        | inl old ↦ listed_more made after walked more path calls (goes_includes walked more goes) (before path old)
        | inr new ↦ subst (HasListed front after more) new one
      ]

  -- all of them were synced, the last one first
  abbrev pub AreSynced : List SystemCall → List Path → ℕ → Type 0
  AreSynced made walked from = (k : ℕ) → from ≤ k → k < length walked → Contains made (ask.SyncDirectory (place_of front (get_or walked k [])))

  pub all_synced : (made : List SystemCall) (walked : List Path) → AreSynced made walked 0 → (path : Path) → Contains walked path → Contains made (ask.SyncDirectory (place_of front path))
  all_synced made walked synced path has = subst (λ p. Contains made (ask.SyncDirectory (place_of front p))) (same_default walked has.0 path has.1 ∙ has.2) (synced has.0 (omega arith) has.1)
    where
      same_default : (xs : List Path) (i : ℕ) (d : Path) → i < length xs → get_or xs i [] ≡ get_or xs i d
      same_default xs i d low = get_or_default xs i [] d low

  pub one_synced : (made after : List SystemCall) (walked : List Path) (at : ℕ) (path : Path) → 0 < at → at ≤ length walked → path ≡ get_or walked (at - 1) [] → after ≡ ask.SyncDirectory (place_of front path) ∷ made → AreSynced made walked at → AreSynced after walked (at - 1)
  one_synced made after walked at path some within is call before = λ k low under.
      elim (cases_lt k at) [
        | inl first ↦
            let same : k ≡ at - 1 = omega (arith, first, low, some) in
            subst (λ n. Contains after (ask.SyncDirectory (place_of front (get_or walked n [])))) (sym same)
            (subst (λ p. Contains after (ask.SyncDirectory (place_of front p))) is (has_call (ask.SyncDirectory (place_of front path)) made after call))
        | inr behind ↦ includes_call (ask.SyncDirectory (place_of front path)) made after call _ (before k behind under)
      ]

-- a path in a list of them
pub path_at : (names : List (String Global)) (i : ℕ) (name : String Global) → i < length names → name ≡ get_or names i name → string_bytes name ≡ get_or (map string_bytes names) i []
path_at names i name low at = ap string_bytes at ∙ sym (get_or-map string_bytes names i name [] low)

-- the root's own
pub root_there : (xs ys : List (String Global)) (x : String Global) → ys ≡ xs ++ x ∷ [] → string_bytes x ≡ [] → Contains (map string_bytes ys) []
root_there xs ys x is bytes = subst (Contains (map string_bytes ys)) bytes
    (subst (λ l. Contains l (string_bytes x)) (sym (ap (map string_bytes) is ∙ map-append string_bytes xs (x ∷ []))) (Contains-push (map string_bytes xs) (string_bytes x)))

-- what holds of a success beside another fact of it
pub on_ok_with : {T E P Q R : Type 0} (r : Result T E) → (P → Q → R) → OnOk r P → OnOk r Q → OnOk r R
on_ok_with (Ok x) so p q = so p q
on_ok_with (Err e) so p q = tt
