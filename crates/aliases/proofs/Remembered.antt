-- Directories that aren't looked at again.
use Rattle.std.proofs.Common.{◌≡◌, ◌||◌, inl, inr, ℕ, Bool, true, false, IsTrue, if◌then◌else◌, List, [], ◌∷◌, ◌++◌, Result, Ok, Err, refl, sym, ap, subst, ◌∙◌}
use Rattle.std.specs.Prelude.{IfOk, IsOk}
use Rattle.std.specs.List.{list_any, AllByRecursion}
use Rattle.std.specs.Str.{bytes_eq}
use Rattle.std.proofs.lemmas.Bool.{false≢true, or_right}
use Rattle.std.proofs.lemmas.List.{append-nil, map-append}
use Rattle.std.proofs.lemmas.Slice.Eq.{bytes_eq-Decides}
use Rattle.host_core.specs.Paths.{Path}
use Rattle.host_core.specs.World.{World}
use Rattle.indexmap.specs.IndexSet.{insert_key}
use Rattle.aliases.specs.Aliases.{Alias, is_alias}
use Rattle.aliases.specs.Entries.{texts_of}
use Rattle.aliases.specs.Ways.{is_linked, AreSettled, IsSettled, Looked, settled, found, HasLooked}
use Rattle.aliases.proofs.Kept.{alias_more}
use Rattle.aliases.proofs.Progressing.{linked_alias, looked_settled, settled_more}
use Rattle.aliases.proofs.Tables.{some_text}

-- where there is room for one more, it is in the set
pub kept_in : {T E : Type 0} (r : Result T E) (P : Type 0) → IsOk r → IfOk r (λ x. P) → P
kept_in (Ok x) P is has = has
kept_in (Err e) P is has = absurd (false≢true is)

pub entered : {K : Type 0} (text : K → List ℕ) (eq : K → K → Bool) (keys : List K) (k : K) → ((a b : K) → eq a b ≡ bytes_eq (text a) (text b)) → list_any (bytes_eq (text k)) (texts_of text keys) ≡ false → texts_of text (insert_key eq keys k) ≡ texts_of text keys ++ text k ∷ []
entered {K = K} text eq keys k agree new =
    ap (λ b. texts_of text (if b then keys else keys ++ k ∷ [])) (same keys ∙ some_text text keys (text k) ∙ new) ∙ map-append text keys (k ∷ [])
  where
    same : (ks : List K) → list_any (eq k) ks ≡ list_any (λ j. bytes_eq (text k) (text j)) ks
    same [] = refl
    same (j ∷ ks) = ap (λ b. b || list_any (eq k) ks) (agree k j) ∙ ap (λ b. bytes_eq (text k) (text j) || b) (same ks)

-- what was looked at is settled
one_settled : (w : World) (aliases : List Alias) (looked : List Path) (way : Path) → AreSettled w aliases looked → list_any (bytes_eq way) looked ≡ true → IsSettled w aliases way
one_settled w aliases [] way all is = absurd (false≢true is)
one_settled w aliases (p ∷ looked) way all is = at (λ h. one_settled w aliases looked way all.1 h) (bytes_eq way p) refl is
  where
    at : (list_any (bytes_eq way) looked ≡ true → IsSettled w aliases way) → (b : Bool) → bytes_eq way p ≡ b → b || list_any (bytes_eq way) looked ≡ true → IsSettled w aliases way
    at later true same any = subst (IsSettled w aliases) (sym ((bytes_eq-Decides way p).0 same)) all.0
    at later false other any = later any

pub looked_again : (honest : Bool) (w : World) (way : Path) (aliases : List Alias) (looked : List Path) (told : Bool) → told ≡ list_any (bytes_eq way) looked → told ≡ true → (IsTrue honest → AreSettled w aliases looked) → HasLooked honest w way aliases aliases
looked_again honest w way aliases looked told tells is all = looked_settled honest w way aliases (λ h. one_settled w aliases looked way (all h) (sym tells ∙ is))

-- they stay so when an alias is added
all_settled : (w : World) (aliases : List Alias) (a : Alias) (looked : List Path) → is_linked w a.place ≡ true → AreSettled w aliases looked → AreSettled w (aliases ++ a ∷ []) looked
all_settled w aliases a [] linked all = tt
all_settled w aliases a (p ∷ looked) linked all = ((settled_more w aliases a p linked all.0).1, all_settled w aliases a looked linked all.1)

more_settled : (w : World) (way : Path) (aliases more : List Alias) (looked : List Path) → Looked w way aliases more → AreSettled w aliases looked → AreSettled w (aliases ++ more) looked × IsSettled w (aliases ++ more) way
more_settled w way aliases [] looked (settled here) all = subst (λ (l : List Alias). AreSettled w l looked × IsSettled w l way) (sym (append-nil aliases)) (all, here)
more_settled w way aliases (a ∷ []) looked (found b place in_world new) all = (
  all_settled w aliases a looked (linked_alias w a in_world) all,
  inl (alias_more aliases a way ∙ or_right (is_alias aliases way) (bytes_eq way a.place || false) (ap (λ t. t || false) ((bytes_eq-Decides way a.place).1 (sym place)))),
)
more_settled w way aliases (a ∷ (b ∷ more)) looked look all = elim look [ ]

last_settled : (w : World) (aliases : List Alias) (looked : List Path) (way : Path) → AreSettled w aliases looked → IsSettled w aliases way → AreSettled w aliases (looked ++ way ∷ [])
last_settled w aliases [] way all here = (here, tt)
last_settled w aliases (p ∷ looked) way all here = (all.0, last_settled w aliases looked way all.1 here)

pub remembered : (before after : Bool) (w v : World) (way : Path) (old new : List Alias) (looked next : List Path) → (IsTrue after → IsTrue before) → v ≡ w → (IsTrue before → AreSettled w old looked) → HasLooked after w way old new → next ≡ looked ++ way ∷ []
    → IsTrue after → AreSettled v new next
remembered before after w v way old new looked next falls same all has is h =
    let both = more_settled w way old has.added looked (has.looked h) (all (falls h)) in
    subst (λ (u : World). AreSettled u new next) (sym same)
    (subst (AreSettled w new) (sym is)
    (subst (λ (l : List Alias). AreSettled w l (looked ++ way ∷ [])) (sym has.kept)
    (last_settled w (old ++ has.added) looked way both.0 both.1)))
