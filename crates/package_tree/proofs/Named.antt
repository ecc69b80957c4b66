-- Sets of texts that lines name, and what of a list is in them.
use Rattle.std.proofs.Common.{◌≡◌, ◌<◌, ◌+◌, Bool, true, false, cond, ℕ, List, [], ◌∷◌, ◌++◌, take, length, get_or, refl, sym, ap, subst, ◌∙◌, append-nil}
use Rattle.std.specs.Prelude.{◌||◌, ◌&&◌}
use Rattle.std.specs.List.{list_any, filter}
use Rattle.std.specs.Str.{bytes_eq}
use Rattle.std.proofs.lemmas.Bool.{false≢true, false_from_ne_true}
use Rattle.std.proofs.lemmas.Grind.{take_at_read}
use Rattle.std.proofs.lemmas.List.{map-append}
use Rattle.std.proofs.lemmas.List.Elements.{filter-append}
use Rattle.std.proofs.lemmas.List.Folds.{list_any_more}
use Rattle.std.proofs.lemmas.Slice.Eq.{bytes_eq-Decides}
use Rattle.host_core.specs.Paths.{Path}
use Rattle.package_tree.specs.ShipMap.{paths_of}
use Rattle.package_tree.specs.declared.shipped.Shipped.{Shipped}
use Rattle.package_tree.proofs.Walks.{cond_or}

pub text_added : (key bytes q : Path) (new old : Bool) → key ≡ bytes → new ≡ cond (bytes_eq key q) true old → new ≡ (bytes_eq bytes q || old)
text_added key bytes q new old same added = added ∙ cond_or (bytes_eq key q) old ∙ ap (λ (k : Path). bytes_eq k q || old) same

swapped : (a b : Bool) → (a || b) ≡ (b || a)
swapped true true = refl
swapped true false = refl
swapped false true = refl
swapped false false = refl

-- one element more
pub any_more : {X : Type 0} (p : X → Bool) (xs : List X) (i : ℕ) (x : X) (new mid : Bool) → i < length xs → x ≡ get_or xs i x → new ≡ (p x || mid) → mid ≡ list_any p (take i xs) → new ≡ list_any p (take (i + 1) xs)
any_more {X} p xs i x new mid lt is new_is mid_is =
    new_is ∙ ap (λ b. p x || b) mid_is ∙ swapped (p x) (list_any p (take i xs)) ∙ sym (list_any_more p xs i x lt ∙ ap (λ (y : X). list_any p (take i xs) || p y) (sym is))

pub filtered_more : (P : Shipped → Bool) (files : List Shipped) (i : ℕ) (file : Shipped) (old new : List Path) → i < length files → file ≡ get_or files i file → old ≡ paths_of (filter P (take i files)) → new ≡ old ++ paths_of (filter P (file ∷ [])) → new ≡ paths_of (filter P (take (i + 1) files))
filtered_more P files i file old new lt is before added =
    added ∙ ap (λ (ps : List Path). ps ++ paths_of (filter P (file ∷ []))) before ∙ sym (map-append (λ (f : Shipped). f.path) (filter P (take i files)) (filter P (file ∷ [])))
    ∙ ap paths_of (sym (filter-append P (take i files) (file ∷ []))) ∙ ap (λ (fs : List Shipped). paths_of (filter P fs)) (ap (λ (f : Shipped). take i files ++ f ∷ []) is ∙ sym (take_at_read files i file lt).1)

one : (P : Shipped → Bool) (file : Shipped) (b : Bool) → P file ≡ b → filter P (file ∷ []) ≡ cond b (file ∷ []) []
one P file b is = ap (λ t. cond t (file ∷ []) []) is

pub kept_one : (P : Shipped → Bool) (file : Shipped) (old new : List Path) (copied : Path) → P file ≡ true → copied ≡ file.path → new ≡ old ++ copied ∷ [] → new ≡ old ++ paths_of (filter P (file ∷ []))
kept_one P file old new copied holds same pushed = pushed ∙ ap (λ (p : Path). old ++ p ∷ []) same ∙ ap (λ (fs : List Shipped). old ++ paths_of fs) (sym (one P file true holds))

pub passed_one : (P : Shipped → Bool) (file : Shipped) (old : List Path) → P file ≡ false → old ≡ old ++ paths_of (filter P (file ∷ []))
passed_one P file old fails = sym (append-nil old) ∙ ap (λ (fs : List Shipped). old ++ paths_of fs) (sym (one P file false fails))

-- names that pass a test

dropped : (a : Bool) → (a && false) ≡ false
dropped true = refl
dropped false = refl

same_name : (P : Path → Bool) (q name : Path) → (P q && bytes_eq q name) ≡ (P name && bytes_eq name q)
same_name P q name = at (bytes_eq name q) refl
  where
    apart : bytes_eq name q ≡ false → bytes_eq q name ≡ false
    apart e = false_from_ne_true (bytes_eq q name) (λ t. false≢true (sym e ∙ (bytes_eq-Decides name q).1 (sym ((bytes_eq-Decides q name).0 t))))

    at : (b : Bool) → bytes_eq name q ≡ b → (P q && bytes_eq q name) ≡ (P name && bytes_eq name q)
    at true e = subst (λ (x : Path). (P x && bytes_eq x name) ≡ (P name && bytes_eq name x)) ((bytes_eq-Decides name q).0 e) refl
    at false e = ap (λ b. P q && b) (apart e) ∙ dropped (P q) ∙ sym (ap (λ b. P name && b) e ∙ dropped (P name))

pub passing_added : (P : Path → Bool) (name key q : Path) (told new old : Bool) → told ≡ P name → told ≡ true → key ≡ name → new ≡ cond (bytes_eq key q) true old → new ≡ ((P q && bytes_eq q name) || old)
passing_added P name key q told new old says passes same added =
    added ∙ cond_or (bytes_eq key q) old ∙ ap (λ (k : Path). bytes_eq k q || old) same ∙ ap (λ b. (b && bytes_eq name q) || old) (sym passes ∙ says) ∙ ap (λ b. b || old) (sym (same_name P q name))

pub failing_added : (P : Path → Bool) (name q : Path) (told old : Bool) → told ≡ P name → told ≡ false → old ≡ ((P q && bytes_eq q name) || old)
failing_added P name q told old says fails = ap (λ b. b || old) (sym (same_name P q name ∙ ap (λ b. b && bytes_eq name q) (sym says ∙ fails)))
