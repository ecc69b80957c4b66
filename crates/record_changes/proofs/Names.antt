-- Names behind others are names too.
use Rattle.std.proofs.Common.{◌≡◌, ◌≢◌, ◌⊎◌, inl, inr, ℕ, ◌==◌, ◌&&◌, ◌||◌, Bool, true, false, cond, not, List, [], ◌∷◌, ◌++◌, filter, nat_eq, refl, sym, ap, ◌∙◌, codes}
use Rattle.std.specs.List.{AllByRecursion, list_all, list_any, onto_first}
use Rattle.std.specs.Str.{bytes_eq}
use Rattle.std.proofs.lemmas.Bool.{true≢false, and_parts, eqb-true}
use Rattle.std.proofs.lemmas.Slice.Eq.{bytes_eq-Decides}
use Rattle.control_fields.specs.Names.{is_blank, keep_before, trim_end}
use Rattle.control_fields.proofs.Trims.{trimmed_after}
use Rattle.status_records.specs.TriggerNames.{are_trigger_names, is_printed_sign, starts_with_sign}
use Rattle.record_changes.specs.Activated.{behind, has_name, with_name, with_names, words_of}

pub has_some : (text name : List ℕ) → name ≢ [] → list_any (bytes_eq name) (words_of text) ≡ has_name text name
has_some text [] some = absurd (some refl)
has_some text (b ∷ bs) some = refl

-- a printed sign that is no blank
record IsClear (b : ℕ) : Type 0 where
  pub printed : is_printed_sign b ≡ true
  pub unblank : is_blank b ≡ false

abbrev AreClear : List ℕ → Type 0
AreClear word = AllByRecursion IsClear word

onto_clear : (b : ℕ) (words : List (List ℕ)) → IsClear b → AllByRecursion AreClear words → AllByRecursion AreClear (onto_first b words)
onto_clear b [] clear all = ((clear, tt), tt)
onto_clear b (word ∷ words) clear all = ((clear, all.0), all.1)

no_tab : (b : ℕ) → is_printed_sign b ≡ true → (b == 32) ≡ false → is_blank b ≡ false
no_tab b printed e = by (nat_eq b 9) refl
  where
    by : (x : Bool) → nat_eq b 9 ≡ x → is_blank b ≡ false
    by true tab = (let q = eqb-true b 9 tab in absurd (true≢false (sym printed ∙ ap is_printed_sign q)))
    by false other = ap (λ x. x || nat_eq b 9) e ∙ other

-- the words of printed signs are clear
words_clear : (text : List ℕ) → list_all is_printed_sign text ≡ true → AllByRecursion AreClear (words_of text)
words_clear [] all = (tt, tt)
words_clear (b ∷ bs) all =
    let parts = and_parts (is_printed_sign b) (list_all is_printed_sign bs) all in
    by parts.0 (words_clear bs parts.1) (b == 32) refl
  where
    by : is_printed_sign b ≡ true → AllByRecursion AreClear (words_of bs) → (x : Bool) → (b == 32) ≡ x → AllByRecursion AreClear (cond x ([] ∷ words_of bs) (onto_first b (words_of bs)))
    by sign rest true space = (tt, rest)
    by sign rest false other = onto_clear b (words_of bs) (record { printed = sign; unblank = no_tab b sign other }) rest

-- names, or nothing yet
abbrev pub AreNames : List ℕ → Type 0
AreNames text = (text ≡ []) ⊎ (are_trigger_names text ≡ true)

record AreSound (text : List ℕ) : Type 0 where
  pub printed : list_all is_printed_sign text ≡ true
  pub starts : starts_with_sign text ≡ true
  pub trimmed : trim_end text ≡ text

sound_parts : (text : List ℕ) → are_trigger_names text ≡ true → AreSound text
sound_parts text e =
    let parts = and_parts (list_all is_printed_sign text) (starts_with_sign text && bytes_eq (trim_end text) text) e in
    let ends = and_parts (starts_with_sign text) (bytes_eq (trim_end text) text) parts.1 in
    record { printed = parts.0; starts = ends.0; trimmed = (bytes_eq-Decides (trim_end text) text).0 ends.1 }

from_parts : (text : List ℕ) → AreSound text → are_trigger_names text ≡ true
from_parts text s =
    ap (λ x. x && (starts_with_sign text && bytes_eq (trim_end text) text)) s.printed ∙ ap (λ x. x && bytes_eq (trim_end text) text) s.starts ∙ (bytes_eq-Decides (trim_end text) text).1 s.trimmed

clear_printed : (word : List ℕ) → AreClear word → list_all is_printed_sign word ≡ true
clear_printed [] all = refl
clear_printed (b ∷ bs) all = ap (λ x. x && list_all is_printed_sign bs) all.0.printed ∙ clear_printed bs all.1

keep_clear : (b : ℕ) (bs : List ℕ) → is_blank b ≡ false → keep_before b bs ≡ b ∷ bs
keep_clear b [] e = ap (λ x. cond x [] (b ∷ [])) e
keep_clear b (c ∷ cs) e = refl

clear_trimmed : (word : List ℕ) → AreClear word → trim_end word ≡ word
clear_trimmed [] all = refl
clear_trimmed (b ∷ bs) all = ap (keep_before b) (clear_trimmed bs all.1) ∙ keep_clear b bs all.0.unblank

clear_sound : (b : ℕ) (bs : List ℕ) → AreClear (b ∷ bs) → AreSound (b ∷ bs)
clear_sound b bs all = record { printed = clear_printed (b ∷ bs) all; starts = ap not all.0.unblank; trimmed = clear_trimmed (b ∷ bs) all }

printed_both : (a w : List ℕ) → list_all is_printed_sign a ≡ true → list_all is_printed_sign w ≡ true → list_all is_printed_sign (a ++ w) ≡ true
printed_both [] w first second = second
printed_both (x ∷ a) w first second =
    let parts = and_parts (is_printed_sign x) (list_all is_printed_sign a) first in
    ap (λ y. y && list_all is_printed_sign (a ++ w)) parts.0 ∙ printed_both a w parts.1 second

-- a word behind a space
spaced_sound : (a : ℕ) (xs : List ℕ) (b : ℕ) (bs : List ℕ) → AreSound (a ∷ xs) → AreClear (b ∷ bs) → AreSound (behind (a ∷ xs) (b ∷ bs))
spaced_sound a xs b bs first all =
    let some : (b ∷ bs) ≢ [] = (λ e. cc e) in
    let spaced = (a ∷ xs) ++ 32 ∷ [] in
    record {
      printed = printed_both spaced (b ∷ bs) (printed_both (a ∷ xs) (32 ∷ []) first.printed refl) (clear_printed (b ∷ bs) all);
      starts = first.starts;
      trimmed = trimmed_after spaced (b ∷ bs) some (clear_trimmed (b ∷ bs) all);
    }

behind_names : (text : List ℕ) (b : ℕ) (bs : List ℕ) → AreNames text → AreClear (b ∷ bs) → AreNames (behind text (b ∷ bs))
behind_names [] b bs names all = inr (from_parts (b ∷ bs) (clear_sound b bs all))
behind_names (a ∷ xs) b bs (inl none) all = absurd (cc none)
behind_names (a ∷ xs) b bs (inr are) all = inr (from_parts (behind (a ∷ xs) (b ∷ bs)) (spaced_sound a xs b bs (sound_parts (a ∷ xs) are) all))

with_name_names : (text name : List ℕ) → AreNames text → AreClear name → AreNames (with_name text name)
with_name_names text [] names all = names
with_name_names text (b ∷ bs) names all = by (has_name text (b ∷ bs))
  where
    by : (x : Bool) → AreNames (cond x text (behind text (b ∷ bs)))
    by true = names
    by false = behind_names text b bs names all

with_names_names : (words : List (List ℕ)) (text : List ℕ) → AreNames text → AllByRecursion AreClear words → AreNames (with_names text words)
with_names_names [] text names all = names
with_names_names (word ∷ words) text names all = with_names_names words (with_name text word) (with_name_names text word names all.0) all.1

-- some stay some

some_with : (text name : List ℕ) → text ≢ [] → with_name text name ≢ []
some_with [] name some = absurd (some refl)
some_with (b ∷ bs) name some = by (has_name (b ∷ bs) name)
  where
    by : (x : Bool) → cond x (b ∷ bs) ((b ∷ bs) ++ codes " " ++ name) ≢ []
    by true = some
    by false = λ e. cc e

some_all : (words : List (List ℕ)) (text : List ℕ) → text ≢ [] → with_names text words ≢ []
some_all [] text some = some
some_all (word ∷ words) text some = some_all words (with_name text word) (some_with text word some)

some_first : (text : List ℕ) (b : ℕ) (bs : List ℕ) → with_name text (b ∷ bs) ≢ []
some_first [] b bs = by (has_name [] (b ∷ bs)) refl
  where
    by : (x : Bool) → has_name [] (b ∷ bs) ≡ x → cond x [] (b ∷ bs) ≢ []
    by true has = absurd (true≢false (sym has))
    by false none = λ e. cc e
some_first (a ∷ xs) b bs = some_with (a ∷ xs) (b ∷ bs) (λ e. cc e)

first_some : (words : List (List ℕ)) (text : List ℕ) (b : ℕ) → with_names text (onto_first b words) ≢ []
first_some [] text b = some_first text b []
first_some (word ∷ words) text b = some_all words (with_name text (b ∷ word)) (some_first text b word)

names_some : (text names : List ℕ) → starts_with_sign names ≡ true → with_names text (words_of names) ≢ []
names_some text [] e = absurd (true≢false (sym e))
names_some text (b ∷ bs) e = by (b == 32) refl
  where
    by : (x : Bool) → (b == 32) ≡ x → with_names text (cond x ([] ∷ words_of bs) (onto_first b (words_of bs))) ≢ []
    by true space = absurd (true≢false (sym e ∙ ap (λ y. not (y || nat_eq b 9)) space))
    by false other = first_some (words_of bs) text b

only_names : (text : List ℕ) → text ≢ [] → AreNames text → are_trigger_names text ≡ true
only_names text some (inl none) = absurd (some none)
only_names text some (inr are) = are

-- the names of a text behind those that are pending, if some are
pub all_names : (text names : List ℕ) → AreNames text → are_trigger_names names ≡ true → are_trigger_names (with_names text (words_of names)) ≡ true
all_names text names pending are =
    let parts = sound_parts names are in
    only_names (with_names text (words_of names)) (names_some text names parts.starts) (with_names_names (words_of names) text pending (words_clear names parts.printed))

-- one more of them
pub with_more : (words : List (List ℕ)) (text word : List ℕ) → with_names text (words ++ word ∷ []) ≡ with_name (with_names text words) word
with_more [] text word = refl
with_more (first ∷ words) text word = with_more words (with_name text first) word

-- of the words of names, those that pass a test are names too

clear_kept : (test : List ℕ → Bool) (words : List (List ℕ)) → AllByRecursion AreClear words → AllByRecursion AreClear (filter test words)
clear_kept test [] all = tt
clear_kept test (word ∷ words) all = by (test word) (clear_kept test words all.1)
  where
    by : (b : Bool) → AllByRecursion AreClear (filter test words) → AllByRecursion AreClear (cond b (word ∷ filter test words) (filter test words))
    by true rest = (all.0, rest)
    by false rest = rest

pub kept_names : (first second : List ℕ → Bool) (text : List ℕ) → are_trigger_names text ≡ true → AreNames (with_names [] (filter second (filter first (words_of text))))
kept_names first second text are =
    with_names_names (filter second (filter first (words_of text))) [] (inl refl)
    (clear_kept second (filter first (words_of text)) (clear_kept first (words_of text) (words_clear text (sound_parts text are).printed)))
