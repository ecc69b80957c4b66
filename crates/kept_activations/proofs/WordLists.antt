-- Names in the text of a field, with spaces between them.
use Rattle.std.proofs.Common.{◌≡◌, ◌==◌, ◌||◌, ℕ, Bool, true, false, cond, List, [], ◌∷◌, ◌++◌, length, refl, sym, ap, subst, ◌∙◌, arith, append_assoc}
use Rattle.std.specs.List.{AllByRecursion, list_any, onto_first}
use Rattle.std.specs.Str.{bytes_eq}
use Rattle.std.proofs.lemmas.Bool.{true≢false, and_parts, or_left, or_right}
use Rattle.std.proofs.lemmas.Bool.Decides.{nat_tests}
use Rattle.std.proofs.lemmas.List.{append-nil}
use Rattle.std.proofs.lemmas.List.Folds.{list_any-append}
use Rattle.std.proofs.lemmas.List.Splits.{length-slice_split, slice_split-cons_yes, slice_split-cons_no}
use Rattle.std.proofs.lemmas.Slice.Eq.{bytes_eq-Decides}
use Rattle.record_changes.specs.Activated.{behind, has_name, with_name, with_names, words_of}
use Rattle.trigger_interests.specs.Words.{is_trigger_name, is_trigger_sign}
use Rattle.trigger_watch.specs.Names.{spaced}
use Rattle.trigger_watch.proofs.Declared.{IsSound}

-- a word has no space
abbrev pub IsWord : List ℕ → Type 0
IsWord word = words_of word ≡ word ∷ []

abbrev pub AreWords : List (List ℕ) → Type 0
AreWords words = AllByRecursion IsWord words

onto_front : (b : ℕ) (first more : List (List ℕ)) → (length first ≡ 0 → ⊥) → onto_first b (first ++ more) ≡ onto_first b first ++ more
onto_front b [] more some = absurd (some refl)
onto_front b (word ∷ words) more some = refl

words_some : (text : List ℕ) → length (words_of text) ≡ 0 → ⊥
words_some text none = absurd (omega (arith, none, length-slice_split (λ byte. byte == 32) text))

-- a space cuts
pub words_then : (text more : List ℕ) → words_of (text ++ 32 ∷ more) ≡ words_of text ++ words_of more
words_then [] more = slice_split-cons_yes (λ byte. byte == 32) 32 more refl
words_then (b ∷ text) more = by (b == 32) refl (words_then text more)
  where
    by : (t : Bool) → (b == 32) ≡ t → words_of (text ++ 32 ∷ more) ≡ words_of text ++ words_of more → words_of (b ∷ (text ++ 32 ∷ more)) ≡ words_of (b ∷ text) ++ words_of more
    by true e rest =
        slice_split-cons_yes (λ byte. byte == 32) b (text ++ 32 ∷ more) e ∙ ap (λ (l : List (List ℕ)). [] ∷ l) rest
        ∙ ap (λ (l : List (List ℕ)). l ++ words_of more) (sym (slice_split-cons_yes (λ byte. byte == 32) b text e))
    by false e rest =
        slice_split-cons_no (λ byte. byte == 32) b (text ++ 32 ∷ more) e ∙ ap (onto_first b) rest ∙ onto_front b (words_of text) (words_of more) (words_some text)
        ∙ ap (λ (l : List (List ℕ)). l ++ words_of more) (sym (slice_split-cons_no (λ byte. byte == 32) b text e))

one_word : (b : ℕ) (word : List ℕ) → (b == 32) ≡ false → IsWord word → IsWord (b ∷ word)
one_word b word other is = slice_split-cons_no (λ byte. byte == 32) b word other ∙ ap (onto_first b) is

words_more : (b : ℕ) (words : List (List ℕ)) → (b == 32) ≡ false → AreWords words → AreWords (onto_first b words)
words_more b [] other all = (one_word b [] other refl, tt)
words_more b (word ∷ words) other all = (one_word b word other all.0, all.1)

-- those of a text are words
pub are_words : (text : List ℕ) → AreWords (words_of text)
are_words [] = (refl, tt)
are_words (b ∷ text) = by (b == 32) refl (are_words text)
  where
    by : (t : Bool) → (b == 32) ≡ t → AreWords (words_of text) → AreWords (cond t ([] ∷ words_of text) (onto_first b (words_of text)))
    by true e rest = (refl, rest)
    by false e rest = words_more b (words_of text) e rest

-- a name behind others

itself : (name : List ℕ) → bytes_eq name name ≡ true
itself name = (bytes_eq-Decides name name).1 refl

word_alone : (name : List ℕ) → IsWord name → list_any (bytes_eq name) (words_of name) ≡ true
word_alone name word = ap (list_any (bytes_eq name)) word ∙ or_left (bytes_eq name name) false (itself name)

behind_has : (text name : List ℕ) → IsWord name → has_name (behind text name) name ≡ true
behind_has text [] word = refl
behind_has [] (c ∷ cs) word = word_alone (c ∷ cs) word
behind_has (b ∷ bs) (c ∷ cs) word =
    ap (λ (l : List ℕ). list_any (bytes_eq (c ∷ cs)) (words_of l)) (append_assoc (b ∷ bs) (32 ∷ []) (c ∷ cs)) ∙ ap (list_any (bytes_eq (c ∷ cs))) (words_then (b ∷ bs) (c ∷ cs)) ∙ list_any-append (bytes_eq (c ∷ cs)) (words_of (b ∷ bs)) (words_of (c ∷ cs))
    ∙ or_right (list_any (bytes_eq (c ∷ cs)) (words_of (b ∷ bs))) (list_any (bytes_eq (c ∷ cs)) (words_of (c ∷ cs))) (word_alone (c ∷ cs) word)

behind_keeps : (text name : List ℕ) (c : ℕ) (cs : List ℕ) → has_name text (c ∷ cs) ≡ true → has_name (behind text name) (c ∷ cs) ≡ true
behind_keeps [] name c cs has = absurd (true≢false (sym has))
behind_keeps (b ∷ bs) name c cs has =
    ap (λ (l : List ℕ). list_any (bytes_eq (c ∷ cs)) (words_of l)) (append_assoc (b ∷ bs) (32 ∷ []) name) ∙ ap (list_any (bytes_eq (c ∷ cs))) (words_then (b ∷ bs) name) ∙ list_any-append (bytes_eq (c ∷ cs)) (words_of (b ∷ bs)) (words_of name)
    ∙ or_left (list_any (bytes_eq (c ∷ cs)) (words_of (b ∷ bs))) (list_any (bytes_eq (c ∷ cs)) (words_of name)) has

has_new : (text name : List ℕ) → IsWord name → has_name (with_name text name) name ≡ true
has_new text name word = by (has_name text name) refl
  where
    by : (t : Bool) → has_name text name ≡ t → has_name (cond t text (behind text name)) name ≡ true
    by true e = e
    by false e = behind_has text name word

has_still : (text name other : List ℕ) → has_name text other ≡ true → has_name (with_name text name) other ≡ true
has_still text name [] has = refl
has_still text name (c ∷ cs) has = by (has_name text name)
  where
    by : (t : Bool) → has_name (cond t text (behind text name)) (c ∷ cs) ≡ true
    by true = has
    by false = behind_keeps text name c cs has

-- with more names it has those it had
pub names_still : (text : List ℕ) (names : List (List ℕ)) (other : List ℕ) → has_name text other ≡ true → has_name (with_names text names) other ≡ true
names_still text [] other has = has
names_still text (name ∷ names) other has = names_still (with_name text name) names other (has_still text name other has)

-- and each of these
pub names_new : (text : List ℕ) (names : List (List ℕ)) (one : List ℕ) → AreWords names → list_any (bytes_eq one) names ≡ true → has_name (with_names text names) one ≡ true
names_new text [] one words among = absurd (true≢false (sym among))
names_new text (name ∷ names) one words among = by (bytes_eq one name) refl (names_new (with_name text name) names one words.1)
  where
    by : (t : Bool) → bytes_eq one name ≡ t → (list_any (bytes_eq one) names ≡ true → has_name (with_names (with_name text name) names) one ≡ true) → has_name (with_names (with_name text name) names) one ≡ true
    by true e later = names_still (with_name text name) names one (subst (λ (n : List ℕ). has_name (with_name text name) n ≡ true) (sym ((bytes_eq-Decides one name).0 e)) (has_new text name words.0))
    by false e later = later (sym (ap (λ (t : Bool). t || list_any (bytes_eq one) names) e) ∙ among)

-- names that files declare

no_space : (b : ℕ) → is_trigger_sign b ≡ true → (b == 32) ≡ false
no_space b h = grind (arith, nat_tests)

named_word : (name : List ℕ) → is_trigger_name name ≡ true → IsWord name
named_word [] e = refl
named_word (b ∷ bs) e =
    let parts = and_parts (is_trigger_sign b) (is_trigger_name bs) e in
    one_word b bs (no_space b parts.0) (named_word bs parts.1)

pub sound_words : (names : List (List ℕ)) → AllByRecursion IsSound names → AreWords names
sound_words [] all = tt
sound_words (name ∷ names) all = (named_word name all.0.signs, sound_words names all.1)

-- with spaces between them they can be read
pub words_spaced : (name : List ℕ) (names : List (List ℕ)) → AreWords (name ∷ names) → words_of (spaced (name ∷ names)) ≡ name ∷ names
words_spaced name [] all = ap words_of (append-nil name) ∙ all.0
words_spaced name (next ∷ names) all =
    words_then name (spaced (next ∷ names)) ∙ ap (λ (l : List (List ℕ)). l ++ words_of (spaced (next ∷ names))) all.0 ∙ ap (λ (l : List (List ℕ)). name ∷ l) (words_spaced next names all.1)
