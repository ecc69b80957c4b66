-- Names with spaces between them are the text of a field.
use Rattle.std.proofs.Common.{◌≡◌, ◌≢◌, ◌∙◌, ◌==◌, ◌&&◌, not, ℕ, Bool, true, false, cond, List, [], ◌∷◌, ◌++◌, length, refl, sym, ap, subst, arith, append_assoc}
use Rattle.std.specs.List.{AllByRecursion, list_all}
use Rattle.std.specs.Str.{bytes_eq}
use Rattle.std.proofs.lemmas.Bool.{true≢false}
use Rattle.std.proofs.lemmas.Bool.Decides.{nat_tests}
use Rattle.std.proofs.lemmas.List.{append-nil}
use Rattle.std.proofs.lemmas.List.Folds.{list_all-append}
use Rattle.std.proofs.lemmas.Slice.Eq.{bytes_eq-Decides}
use Rattle.control_fields.specs.Names.{is_blank, keep_before, trim_end}
use Rattle.control_fields.proofs.Trims.{trimmed_after}
use Rattle.status_records.specs.TriggerNames.{are_trigger_names, is_printed_sign, starts_with_sign}
use Rattle.trigger_interests.specs.Words.{is_trigger_name, is_trigger_sign}
use Rattle.trigger_watch.specs.Names.{behind_spaces, spaced}
use Rattle.trigger_watch.proofs.Declared.{IsSound}

printed : (b : ℕ) → is_trigger_sign b ≡ true → is_printed_sign b ≡ true
printed b h = grind (arith, nat_tests)

unblank : (b : ℕ) → is_trigger_sign b ≡ true → is_blank b ≡ false
unblank b h = grind (arith, nat_tests)

first_of : (a b : Bool) → (a && b) ≡ true → a ≡ true
first_of true b e = refl
first_of false b e = e

second_of : (a b : Bool) → (a && b) ≡ true → b ≡ true
second_of true b e = e
second_of false b e = absurd (true≢false (sym e))

both_of : (a b : Bool) → a ≡ true → b ≡ true → (a && b) ≡ true
both_of a b e f = ap (λ (x : Bool). x && b) e ∙ f

all_printed : (name : List ℕ) → is_trigger_name name ≡ true → list_all is_printed_sign name ≡ true
all_printed [] e = refl
all_printed (b ∷ bs) e =
    both_of (is_printed_sign b) (list_all is_printed_sign bs) (printed b (first_of (is_trigger_sign b) (is_trigger_name bs) e)) (all_printed bs (second_of (is_trigger_sign b) (is_trigger_name bs) e))

behind_printed : (names : List (List ℕ)) → AllByRecursion IsSound names → list_all is_printed_sign (behind_spaces names) ≡ true
behind_printed [] h = refl
behind_printed (name ∷ names) h =
    list_all-append is_printed_sign name (behind_spaces names) ∙ both_of (list_all is_printed_sign name) (list_all is_printed_sign (behind_spaces names)) (all_printed name h.0.signs) (behind_printed names h.1)

one_trimmed : (b : ℕ) (bs : List ℕ) → is_trigger_name (b ∷ bs) ≡ true → trim_end (b ∷ bs) ≡ b ∷ bs
one_trimmed b [] e = ap (λ (x : Bool). cond x [] (b ∷ [])) (unblank b (first_of (is_trigger_sign b) (is_trigger_name []) e))
one_trimmed b (c ∷ cs) e = ap (keep_before b) (one_trimmed c cs (second_of (is_trigger_sign b) (is_trigger_name (c ∷ cs)) e))

name_trimmed : (name : List ℕ) → is_trigger_name name ≡ true → trim_end name ≡ name
name_trimmed [] e = refl
name_trimmed (b ∷ bs) e = one_trimmed b bs e

begun : (name rest : List ℕ) → not (length name == 0) ≡ true → name ++ rest ≢ []
begun [] rest some = absurd (true≢false (sym some))
begun (b ∷ bs) rest some = λ e. cc e

trimmed : (name : List ℕ) (names : List (List ℕ)) → IsSound name → AllByRecursion IsSound names → trim_end (name ++ behind_spaces names) ≡ name ++ behind_spaces names
trimmed name [] sound all = subst (λ (l : List ℕ). trim_end l ≡ l) (sym (append-nil name)) (name_trimmed name sound.signs)
trimmed name (next ∷ names) sound all =
    subst (λ (l : List ℕ). trim_end l ≡ l) (append_assoc name (32 ∷ []) (next ++ behind_spaces names))
    (trimmed_after (name ++ 32 ∷ []) (next ++ behind_spaces names) (begun next (behind_spaces names) all.0.some) (trimmed next names all.0 all.1))

starts : (name rest : List ℕ) → IsSound name → starts_with_sign (name ++ rest) ≡ true
starts [] rest sound = absurd (true≢false (sym sound.some))
starts (b ∷ bs) rest sound = ap not (unblank b (first_of (is_trigger_sign b) (is_trigger_name bs) sound.signs))

pub spaced_names : (name : List ℕ) (names : List (List ℕ)) → AllByRecursion IsSound (name ∷ names) → are_trigger_names (spaced (name ∷ names)) ≡ true
spaced_names name names all =
    let text = name ++ behind_spaces names in
    both_of (list_all is_printed_sign text) (starts_with_sign text && bytes_eq (trim_end text) text) (behind_all)
    (both_of (starts_with_sign text) (bytes_eq (trim_end text) text) (starts name (behind_spaces names) all.0) ((bytes_eq-Decides (trim_end text) text).1 (trimmed name names all.0 all.1)))
  where
    behind_all : list_all is_printed_sign (name ++ behind_spaces names) ≡ true
    behind_all = list_all-append is_printed_sign name (behind_spaces names)
        ∙ both_of (list_all is_printed_sign name) (list_all is_printed_sign (behind_spaces names)) (all_printed name all.0.signs) (behind_printed names all.1)
