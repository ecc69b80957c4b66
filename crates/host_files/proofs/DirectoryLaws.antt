-- The directory of a path, and sets of directories.
use Rattle.std.proofs.Common.{◌≡◌, inl, inr, ℕ, Bool, true, false, cond, None, List, [], ◌∷◌, ◌++◌, take, drop, map, reverse, String, string_bytes, refl, sym, ap, ◌∙◌, subst, Contains, Option, Some, IfSome, arith}
use Rattle.std.specs.Prelude.{◌==◌}
use Rattle.std.specs.Option.{MatchOption}
use Rattle.std.specs.Str.{NoCharPasses}
use Rattle.std.specs.Str.Pattern.{SplitsAroundMatch, RFindsChar}
use Rattle.std.specs.declared.alloc.Global.{Global}
use Rattle.std.proofs.lemmas.List.{take-append-drop, get_or_default, reverse-append}
use Rattle.std.proofs.lemmas.Str.Pattern.{NoCharPasses-char}
use Rattle.host_core.specs.Tree.{IsBelow}
use Rattle.host_files.specs.Directories.{IsDirectoryOf}
use Rattle.host_files.specs.Places.{IsEntry, place_of}
use Rattle.host_files.specs.Shown.{sync_calls}
use Rattle.host_files.specs.SystemCalls.{changes_in}
use Rattle.host_files.specs.declared.trace.SystemCall.TheVariants.{SyncDirectory}

-- a text without that character has none of its bytes
no_byte : (bs : List ℕ) → NoCharPasses (λ d. d == 47) bs → Contains bs 47 → ⊥
no_byte bs none has = NoCharPasses-char 47 bs has.0 none (omega arith) has.1 (sym (get_or_default bs has.0 47 0 has.1) ∙ has.2)

-- what `rsplit_once` at a slash gives
around : (path front back : List ℕ) (h : SplitsAroundMatch (RFindsChar 47) path front back) → path ≡ front ++ 47 ∷ drop h.1 path
unfolding lib.Utf8.encode
around path front back h = sym (take-append-drop h.0 path) ∙ ap (λ (l : List ℕ). take h.0 path ++ l) h.2.1.split ∙ ap (λ (l : List ℕ). l ++ 47 ∷ drop h.1 path) (sym h.3)

pub above_found : (path front back : List ℕ) → SplitsAroundMatch (RFindsChar 47) path front back → IsBelow front path
above_found path front back h = (drop h.1 path, around path front back h)

pub directory_found : (path front back : List ℕ) → SplitsAroundMatch (RFindsChar 47) path front back → IsDirectoryOf path front
unfolding lib.Utf8.encode
directory_found path front back h = inl (
  drop h.1 path,
  around path front back h,
  no_byte (drop h.1 path) h.2.0,
)

-- the directory of a place and the name there
entry_found : (place front back : List ℕ) → SplitsAroundMatch (RFindsChar 47) place front back → IsEntry place front back
unfolding lib.Utf8.encode
entry_found place front back h =
    (subst (λ (b : List ℕ). place ≡ front ++ 47 ∷ b) (sym h.4) (around place front back h), subst (λ (b : List ℕ). Contains b 47 → ⊥) (sym h.4) (no_byte (drop h.1 place) h.2.0))

pub entry_split : {T : Type 0} (front back : T → List ℕ) (place : List ℕ) (none : Type 0) (found : Option T) → MatchOption found none (λ x. SplitsAroundMatch (RFindsChar 47) place (front x) (back x))
    → IfSome found (λ x. IsEntry place (front x) (back x))
entry_split front back place none None is = tt
entry_split front back place none (Some x) is = entry_found place (front x) (back x) is

pub directory_of_root : (path : List ℕ) → RFindsChar 47 path None → IsDirectoryOf path []
directory_of_root path none = inr (no_byte path none, refl)

-- what is left of a text begins with no slash, and so it isn't below that path
pub lacks_prefix : (path key rest name : List ℕ) → key ≡ path ++ rest → ((more : List ℕ) → rest ≡ 47 ∷ more → ⊥) → key ≡ path ++ 47 ∷ name → ⊥
lacks_prefix [] key rest name is absent e = absent name (sym is ∙ e)
lacks_prefix (x ∷ path) [] rest name is absent e = absurd (let h : [] ≡ x ∷ (path ++ rest) = is in cc)
lacks_prefix (x ∷ path) (k ∷ key) rest name is absent e =
    let p : key ≡ path ++ rest = cc is in
    let q : key ≡ path ++ 47 ∷ name = cc e in
    lacks_prefix path key rest name p absent q

-- what is in a set is in it with one more
pub still_there : (same there : Bool) → there ≡ true → cond same true there ≡ true
still_there true there is = refl
still_there false there is = is

-- one directory more is synced
pub sync_more : (front : List ℕ) (directories : List (String Global)) (directory : String Global) → sync_calls front (directories ++ directory ∷ []) ≡ SyncDirectory (place_of front (string_bytes directory)) ∷ sync_calls front directories
sync_more front directories directory = ap (map (λ d. SyncDirectory (place_of front (string_bytes d)))) (reverse-append directories (directory ∷ []))

syncs_change_nothing : (front : List ℕ) (directories : List (String Global)) → changes_in (map (λ d. SyncDirectory (place_of front (string_bytes d))) directories) ≡ []
syncs_change_nothing front [] = refl
syncs_change_nothing front (d ∷ rest) = syncs_change_nothing front rest

-- a sync changes nothing
pub nothing_changed : (front : List ℕ) (directories : List (String Global)) → changes_in (sync_calls front directories) ≡ []
nothing_changed front directories = syncs_change_nothing front (reverse directories)
