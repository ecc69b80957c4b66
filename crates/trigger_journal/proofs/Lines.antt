-- What is read of our lines in front of a text.
use Rattle.std.proofs.Common.{◌≡◌, ◌==◌, ◌&&◌, ◌||◌, not, ℕ, Bool, true, false, cond, nat_eq, List, [], ◌∷◌, ◌++◌, length, map, filter, codes, refl, sym, ap, ◌∙◌, append_assoc, arith, Contains, zero, suc, ◌+◌, ◌<◌}
use Rattle.std.specs.List.{AllByRecursion, flat_map, list_any, onto_first, slice_split}
use Rattle.std.specs.Str.{bytes_eq}
use Rattle.std.proofs.lemmas.Bool.{true≢false, or_right, eqb-true}
use Rattle.std.proofs.lemmas.List.Concat.{flat_map-append}
use Rattle.std.proofs.lemmas.List.Folds.{list_any-append}
use Rattle.std.proofs.lemmas.List.Splits.{slice_split-cons_yes, slice_split-cons_no}
use Rattle.std.proofs.lemmas.Slice.Eq.{bytes_eq-Decides}
use Rattle.control_fields.specs.Names.{is_blank}
use Rattle.diversions.specs.Lines.{lines_in}
use Rattle.host_core.specs.World.{World}
use Rattle.status_records.specs.declared.record.Record.{Record}
use Rattle.trigger_interests.specs.Words.{is_trigger_name, is_trigger_sign, words_in}
use Rattle.trigger_interests.specs.Interests.{interests_of}
use Rattle.trigger_interests.specs.declared.interests.Interest.{Interest}
use Rattle.trigger_watch.specs.Names.{each_once, without}
use Rattle.trigger_watch.proofs.All.{all_filter, all_map}
use Rattle.trigger_watch.proofs.Declared.{IsSound, IsSoundInterest, sound_interests}
use Rattle.trigger_journal.specs.Asked.{is_for, is_found}
use Rattle.trigger_journal.specs.Ahead.{is_foreseen, missing, names_ahead, own_line, own_lines, packages_with_files, text_ahead}
use Rattle.trigger_journal.specs.Read.{own_request}
use Rattle.trigger_journal.specs.Requests.{own_awaiter, requests_by, requests_in}
use Rattle.trigger_journal.specs.declared.requests.Request.{Request}

first_of : (a b : Bool) → a && b ≡ true → a ≡ true
first_of true b e = refl
first_of false b e = e

second_of : (a b : Bool) → a && b ≡ true → b ≡ true
second_of true b e = e
second_of false b e = absurd (true≢false (sym e))

-- a sign of a name is no newline and no blank

record IsPlain (b : ℕ) : Type 0 where
  pub line : nat_eq b 10 ≡ false
  pub word : is_blank b ≡ false

differs : (b x : ℕ) → is_trigger_sign b ≡ true → is_trigger_sign x ≡ false → nat_eq b x ≡ false
differs b x sign other = by (nat_eq b x) refl
  where
    by : (t : Bool) → nat_eq b x ≡ t → nat_eq b x ≡ false
    by true same = absurd (true≢false (sym sign ∙ ap is_trigger_sign (eqb-true b x same) ∙ other))
    by false e = e

plain : (b : ℕ) → is_trigger_sign b ≡ true → IsPlain b
plain b sign = record {
  line = differs b 10 sign refl;
  word = ap (λ (t : Bool). t || nat_eq b 9) (differs b 32 sign refl) ∙ differs b 9 sign refl;
}

abbrev ArePlain : List ℕ → Type 0
ArePlain word = AllByRecursion IsPlain word

name_plain : (name : List ℕ) → is_trigger_name name ≡ true → ArePlain name
name_plain [] e = tt
name_plain (b ∷ bs) e = (plain b (first_of (is_trigger_sign b) (is_trigger_name bs) e), name_plain bs (second_of (is_trigger_sign b) (is_trigger_name bs) e))

own_plain : ArePlain own_awaiter
own_plain = name_plain own_awaiter refl

-- lines

abbrev IsOneLine : List ℕ → Type 0
IsOneLine line = AllByRecursion (λ b. nat_eq b 10 ≡ false) line

lines_cut : (line after : List ℕ) → IsOneLine line → lines_in (line ++ 10 ∷ after) ≡ line ∷ lines_in after
lines_cut [] after one = refl
lines_cut (b ∷ line) after one =
    ap (λ (t : Bool). cond t ([] ∷ lines_in (line ++ 10 ∷ after)) (onto_first b (lines_in (line ++ 10 ∷ after)))) one.0
    ∙ ap (onto_first b) (lines_cut line after one.1)

plain_line : (word rest : List ℕ) → ArePlain word → IsOneLine rest → IsOneLine (word ++ rest)
plain_line [] rest all one = one
plain_line (b ∷ word) rest all one = (all.0.line, plain_line word rest all.1 one)

abbrev own_text : List ℕ → List ℕ
own_text name = name ++ 32 ∷ own_awaiter

own_one_line : (name : List ℕ) → ArePlain name → IsOneLine (own_text name)
own_one_line name all = plain_line name (32 ∷ own_awaiter) all (refl, plain_line own_awaiter [] own_plain tt)

line_then : (name text : List ℕ) → own_line name ++ text ≡ own_text name ++ 10 ∷ text
line_then name text = append_assoc (own_text name) (10 ∷ []) text

-- words

one_word : (word : List ℕ) → ArePlain word → slice_split is_blank word ≡ word ∷ []
one_word [] all = refl
one_word (b ∷ word) all = slice_split-cons_no is_blank b word all.0.word ∙ ap (onto_first b) (one_word word all.1)

two_words : (word rest : List ℕ) → ArePlain word → slice_split is_blank (word ++ 32 ∷ rest) ≡ word ∷ slice_split is_blank rest
two_words [] rest all = slice_split-cons_yes is_blank 32 rest refl
two_words (b ∷ word) rest all = slice_split-cons_no is_blank b (word ++ 32 ∷ rest) all.0.word ∙ ap (onto_first b) (two_words word rest all.1)

own_words : (name : List ℕ) → IsSound name → words_in (own_text name) ≡ name ∷ own_awaiter ∷ []
own_words name sound =
    ap (filter (λ word. not (length word == 0))) (two_words name own_awaiter (name_plain name sound.signs) ∙ ap (λ (l : List (List ℕ)). name ∷ l) (one_word own_awaiter own_plain))
    ∙ ap (λ (t : Bool). cond t (name ∷ own_awaiter ∷ []) (own_awaiter ∷ [])) sound.some

-- requests

abbrev here : List ℕ → List Request
here line = requests_by (words_in line)

pub requests_then : (name text : List ℕ) → IsSound name → requests_in (own_line name ++ text) ≡ own_request name ∷ requests_in text
requests_then name text sound =
    ap requests_in (line_then name text) ∙ ap (flat_map here) (lines_cut (own_text name) text (own_one_line name (name_plain name sound.signs)))
    ∙ ap (λ (l : List (List ℕ)). requests_by l ++ requests_in text) (own_words name sound)

pub requests_ahead : (names : List (List ℕ)) (text : List ℕ) → AllByRecursion IsSound names → requests_in (own_lines names ++ text) ≡ map own_request names ++ requests_in text
requests_ahead [] text all = refl
requests_ahead (name ∷ names) text all =
    ap requests_in (append_assoc (own_line name) (own_lines names) text) ∙ requests_then name (own_lines names ++ text) all.0
    ∙ ap (λ (l : List Request). own_request name ∷ l) (requests_ahead names text all.1)

once_all : (P : List ℕ → Type 0) (names : List (List ℕ)) → AllByRecursion P names → AllByRecursion P (each_once names)
once_all P [] a = tt
once_all P (name ∷ names) a = (a.0, all_filter P (λ n. not (bytes_eq n name)) (each_once names) (once_all P names a.1))

pub names_sound : (w : World) (records : List Record) → AllByRecursion IsSound (names_ahead w records)
names_sound w records =
    let interests = interests_of w (packages_with_files records) in
    once_all IsSound (map (λ interest. interest.name) interests) (all_map IsSound (λ (interest : Interest). interest.name) interests (sound_interests w (packages_with_files records)))

missing_sound : (w : World) (records : List Record) (text : List ℕ) → AllByRecursion IsSound (missing (requests_in text) (names_ahead w records))
missing_sound w records text = all_filter IsSound (λ name. not (is_foreseen (requests_in text) name)) (names_ahead w records) (names_sound w records)

pub adds : (w : World) (records : List Record) (text : List ℕ)
    → requests_in (text_ahead (names_ahead w records) text) ≡ map own_request (missing (requests_in text) (names_ahead w records)) ++ requests_in text
adds w records text = requests_ahead (missing (requests_in text) (names_ahead w records)) text (missing_sound w records text)

-- a trigger is among those that are missing, or foreseen

own_foreseen : (names : List (List ℕ)) (name : List ℕ) → Contains names name → is_foreseen (map own_request names) name ≡ true
own_foreseen [] name has = absurd (omega (arith, has.1))
own_foreseen (n ∷ names) name (zero, lt, e) = ap (λ (t : Bool). t || is_foreseen (map own_request names) name) ((bytes_eq-Decides n name).1 e)
own_foreseen (n ∷ names) name (suc k, lt, e) = or_right (bytes_eq n name) (is_foreseen (map own_request names) name) (own_foreseen names name (k, omega (arith, lt), e))

or_left : (a b : Bool) → a ≡ true → a || b ≡ true
or_left true b e = refl
or_left false b e = absurd (true≢false (sym e))

contains_first : (p : List ℕ → Bool) (n : List ℕ) (names : List (List ℕ)) (name : List ℕ) (t : Bool) → t ≡ true → n ≡ name → Contains (cond t (n ∷ filter p names) (filter p names)) name
contains_first p n names name true e same = (zero, omega arith, same)
contains_first p n names name false e same = absurd (true≢false (sym e))

contains_more : (p : List ℕ → Bool) (n : List ℕ) (names : List (List ℕ)) (name : List ℕ) (t : Bool) → Contains (filter p names) name → Contains (cond t (n ∷ filter p names) (filter p names)) name
contains_more p n names name true has = (suc has.0, omega (arith, has.1), has.2)
contains_more p n names name false has = has

kept_in : (p : List ℕ → Bool) (names : List (List ℕ)) (name : List ℕ) → Contains names name → p name ≡ true → Contains (filter p names) name
kept_in p [] name has is = absurd (omega (arith, has.1))
kept_in p (n ∷ names) name (zero, lt, e) is = contains_first p n names name (p n) (ap p e ∙ is) e
kept_in p (n ∷ names) name (suc k, lt, e) is = contains_more p n names name (p n) (kept_in p names name (k, omega (arith, lt), e) is)

pub all_foreseen : (w : World) (records : List Record) (text name : List ℕ) → Contains (names_ahead w records) name → is_foreseen (requests_in (text_ahead (names_ahead w records) text)) name ≡ true
all_foreseen w records text name has =
    ap (λ (rs : List Request). is_foreseen rs name) (adds w records text)
    ∙ list_any-append (λ request. request.ours && bytes_eq request.name name) (map own_request left) (requests_in text)
    ∙ by (is_foreseen (requests_in text) name) refl
  where
    left : List (List ℕ)
    left = missing (requests_in text) (names_ahead w records)

    by : (t : Bool) → is_foreseen (requests_in text) name ≡ t → is_foreseen (map own_request left) name || is_foreseen (requests_in text) name ≡ true
    by true e = or_right (is_foreseen (map own_request left) name) (is_foreseen (requests_in text) name) e
    by false e = or_left (is_foreseen (map own_request left) name) (is_foreseen (requests_in text) name)
        (own_foreseen left name (kept_in (λ n. not (is_foreseen (requests_in text) n)) (names_ahead w records) name has (ap not e)))

found_at : (r : Request) (rs : List Request) (ahead name : List ℕ) (t : Bool) → r.ours ≡ t → (is_foreseen rs ahead ≡ true → is_found rs name ≡ true) → is_foreseen (r ∷ rs) ahead ≡ true → is_found (r ∷ rs) name ≡ true
found_at r rs ahead name true own later e = ap (λ (b : Bool). (b || is_for name r) || is_found rs name) own
found_at r rs ahead name false other later e =
    or_right (r.ours || is_for name r) (is_found rs name) (later (sym (ap (λ (b : Bool). (b && bytes_eq r.name ahead) || is_foreseen rs ahead) other) ∙ e))

found_by : (requests : List Request) (ahead name : List ℕ) → is_foreseen requests ahead ≡ true → is_found requests name ≡ true
found_by [] ahead name e = e
found_by (r ∷ rs) ahead name e = found_at r rs ahead name r.ours refl (found_by rs ahead name) e

pub each_found : (w : World) (records : List Record) (text ahead name : List ℕ) → Contains (names_ahead w records) ahead → is_found (requests_in (text_ahead (names_ahead w records) text)) name ≡ true
each_found w records text ahead name has = found_by (requests_in (text_ahead (names_ahead w records) text)) ahead name (all_foreseen w records text ahead has)
