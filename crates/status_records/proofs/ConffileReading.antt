-- Lines of conffiles that can be read.
use Rattle.std.proofs.Common.{◌≡◌, ℕ, Bool, true, false, cond, ◌&&◌, ◌||◌, ◌==◌, Option, None, Some, Result, Ok, Err, List, [], ◌∷◌, length, map, refl, sym, ap, subst, ◌∙◌, arith, codes}
use Rattle.std.specs.Prelude.{IfOk, MatchOption, is_some}
use Rattle.std.specs.List.{list_any, list_all, AllByRecursion}
use Rattle.std.specs.Str.{bytes_eq, IsUtf8, is_utf8}
use Rattle.std.proofs.lemmas.Bool.{true≢false, and_parts, false_from_ne_true}
use Rattle.std.proofs.lemmas.Bool.Decides.{nat_tests}
use Rattle.std.proofs.lemmas.Slice.Eq.{bytes_eq-Decides}
use Rattle.std.proofs.lemmas.Str.{IsUtf8-from_is_utf8, is_utf8-from_IsUtf8}
use Rattle.host_core.specs.Paths.{is_ship_text}
use Rattle.control_fields.specs.Names.{lower}
use Rattle.control_fields.specs.declared.field.Field.{Field}
use Rattle.conffiles.specs.Digests.{is_lower_digit, is_digest_text}
use Rattle.version_order.specs.Versions.{IsVersion}
use Rattle.status_records.specs.declared.values.Kind.TheVariants.{TriggerNames}
use Rattle.status_records.specs.TriggerNames.{are_trigger_names}
use Rattle.status_records.specs.Values.{kind_of, IsReadableAs, IsReadable}
use Rattle.status_records.specs.ConffilePaths.{is_ship_path}
use Rattle.status_records.specs.ConffileFields.{is_conffile_line, is_pending_line, are_apart, conffile_paths, pending_paths, IsConffileField, IsPendingField}
use Rattle.status_records.specs.Paragraphs.{field_in, line_of, lines_of_field, conffile_lines, pending_lines}
use Rattle.status_records.proofs.Lines.{is_printed, weaker, line_utf8}

-- paths

pub ship_read : {E : Type 0} (r : Result (Option (List ℕ)) E) (text bytes : List ℕ) → (text ≡ bytes) × IsUtf8 bytes → IfOk r (λ o. MatchOption o (is_ship_text text ≡ false) (λ p. (is_ship_text text ≡ true) × (p ≡ text)))
    → IfOk r (λ o. MatchOption o (is_ship_path bytes ≡ false) (λ p. (is_ship_path bytes ≡ true) × (p ≡ bytes)))
ship_read (Err e) text bytes is read = tt
ship_read (Ok None) text bytes is read = ap (λ b. b && is_ship_text bytes) (is_utf8-from_IsUtf8 bytes is.1) ∙ ap is_ship_text (sym is.0) ∙ read
ship_read (Ok (Some p)) text bytes is read = (ap (λ b. b && is_ship_text bytes) (is_utf8-from_IsUtf8 bytes is.1) ∙ ap is_ship_text (sym is.0) ∙ read.0, read.1 ∙ is.0)

pub no_ship : (bytes : List ℕ) → (IsUtf8 bytes → ⊥) → is_ship_path bytes ≡ false
no_ship bytes bad = ap (λ b. b && is_ship_text bytes) (false_from_ne_true (is_utf8 bytes) (λ e. bad (IsUtf8-from_is_utf8 bytes e)))

-- digests

digit_printed : (b : ℕ) → is_lower_digit b ≡ true → is_printed b ≡ true
digit_printed b e = grind (arith, nat_tests)

digest_utf8 : (text : List ℕ) → is_digest_text text ≡ true → IsUtf8 text
digest_utf8 text is = line_utf8 text (weaker is_lower_digit is_printed digit_printed text (and_parts (length text == 32) (list_all is_lower_digit text) is).1)

pub no_digest : (text : List ℕ) → (IsUtf8 text → ⊥) → is_digest_text text ≡ false
no_digest text bad = false_from_ne_true (is_digest_text text) (λ e. bad (digest_utf8 text e))

-- lines

pub any_called : {X Y : Type 0} (p : Y → Bool) (h : X → Y) (xs : List X) → list_any p (map h xs) ≡ list_any (λ x. p (h x)) xs
any_called p h [] = refl
any_called p h (x ∷ xs) = ap (λ b. p (h x) || b) (any_called p h xs)

pub line_tested : {X : Type 0} (o : Option X) (good : Bool) (Q : X → Type 0) → MatchOption o (good ≡ false) (λ x. (good ≡ true) × Q x) → is_some o ≡ good
line_tested None good Q is = sym is
line_tested (Some x) good Q is = sym is.0

-- the lines of a paragraph's fields

found_as : (text : List ℕ) (P : List (List ℕ) → Type 0) → P [] → (fs : List Field) → ((f : Field) → lower f.name ≡ text → IsReadable f → P f.more) → AllByRecursion IsReadable fs → P (lines_of_field (field_in text fs))
found_as text P none [] here all = none
found_as text P none (f ∷ fs) here all = by (bytes_eq (lower f.name) text) refl (found_as text P none fs here all.1)
  where
    by : (b : Bool) → bytes_eq (lower f.name) text ≡ b → P (lines_of_field (field_in text fs)) → P (lines_of_field (cond b (Some f) (field_in text fs)))
    by true e rest = here f ((bytes_eq-Decides (lower f.name) text).0 e) all.0
    by false e rest = rest

pub conffiles_read : (fs : List Field) → AllByRecursion IsReadable fs → (list_all is_conffile_line (conffile_lines fs) ≡ true) × (are_apart (conffile_paths (conffile_lines fs)) ≡ true)
conffiles_read fs all =
    found_as (codes "conffiles") (λ ls. (list_all is_conffile_line ls ≡ true) × (are_apart (conffile_paths ls) ≡ true)) (refl, refl) fs
    (λ f named good. let is : IsConffileField f = subst (λ (l : List ℕ). IsReadableAs (kind_of l) f) named good in (is.lines, is.apart)) all

pub pending_read : (fs : List Field) → AllByRecursion IsReadable fs → (list_all is_pending_line (pending_lines fs) ≡ true) × (are_apart (pending_paths (pending_lines fs)) ≡ true)
pending_read fs all =
    found_as (codes "new-conffiles") (λ ls. (list_all is_pending_line ls ≡ true) × (are_apart (pending_paths ls) ≡ true)) (refl, refl) fs
    (λ f named good. let is : IsPendingField f = subst (λ (l : List ℕ). IsReadableAs (kind_of l) f) named good in (is.lines, is.apart)) all

-- the version that was configured last

config_found : (fs : List Field) (value : List ℕ) → AllByRecursion IsReadable fs → Some value ≡ line_of (field_in (codes "config-version") fs) → IsVersion value
config_found [] value all e = absurd (cc e)
config_found (f ∷ fs) value all e = by (bytes_eq (lower f.name) (codes "config-version")) refl e (config_found fs value all.1)
  where
    same : (a b : List ℕ) → Some a ≡ Some b → b ≡ a
    same a b e = cc

    by : (b : Bool) → bytes_eq (lower f.name) (codes "config-version") ≡ b → Some value ≡ line_of (cond b (Some f) (field_in (codes "config-version") fs)) → (Some value ≡ line_of (field_in (codes "config-version") fs) → IsVersion value) → IsVersion value
    by true called e rest = subst IsVersion (same value f.first e) (subst (λ (l : List ℕ). IsReadableAs (kind_of l) f) ((bytes_eq-Decides (lower f.name) (codes "config-version")).0 called) all.0).1
    by false called e rest = rest e

pub version_read : {E : Type 0} (found : Result (Option (List ℕ)) E) (fs : List Field) (value : List ℕ) → AllByRecursion IsReadable fs → Some value ≡ line_of (field_in (codes "config-version") fs)
    → IfOk found (λ o. MatchOption o (IsVersion value → ⊥) (λ v. (v ≡ value) × IsVersion value)) → IfOk found (λ o. o ≡ line_of (field_in (codes "config-version") fs))
version_read (Err e) fs value all said read = tt
version_read (Ok None) fs value all said read = absurd (read (config_found fs value all said))
version_read (Ok (Some v)) fs value all said read = ap (λ (x : List ℕ). Some x) read.0 ∙ said

-- names of triggers or packages

names_found : (text : List ℕ) → kind_of text ≡ TriggerNames → (fs : List Field) (value : List ℕ) → AllByRecursion IsReadable fs → Some value ≡ line_of (field_in text fs) → are_trigger_names value ≡ true
names_found text kind [] value all e = absurd (cc e)
names_found text kind (f ∷ fs) value all e = by (bytes_eq (lower f.name) text) refl e (names_found text kind fs value all.1)
  where
    same : (a b : List ℕ) → Some a ≡ Some b → b ≡ a
    same a b e = cc

    by : (b : Bool) → bytes_eq (lower f.name) text ≡ b → Some value ≡ line_of (cond b (Some f) (field_in text fs)) → (Some value ≡ line_of (field_in text fs) → are_trigger_names value ≡ true) → are_trigger_names value ≡ true
    by true called e rest =
        let here : IsReadableAs TriggerNames f = subst (λ k. IsReadableAs k f) (ap kind_of ((bytes_eq-Decides (lower f.name) text).0 called) ∙ kind) all.0 in
        subst (λ v. are_trigger_names v ≡ true) (same value f.first e) here.1
    by false called e rest = rest e

pub names_read : {E : Type 0} (found : Result (Option (List ℕ)) E) (text : List ℕ) (fs : List Field) (value : List ℕ) → kind_of text ≡ TriggerNames → AllByRecursion IsReadable fs → Some value ≡ line_of (field_in text fs)
    → IfOk found (λ o. MatchOption o (are_trigger_names value ≡ false) (λ v. (v ≡ value) × (are_trigger_names value ≡ true))) → IfOk found (λ o. o ≡ line_of (field_in text fs))
names_read (Err e) text fs value kind all said read = tt
names_read (Ok None) text fs value kind all said read = absurd (true≢false (sym (names_found text kind fs value all said) ∙ read))
names_read (Ok (Some v)) text fs value kind all said read = ap (λ (x : List ℕ). Some x) read.0 ∙ said
