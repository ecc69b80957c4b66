-- Values that can be written on one line.
use Rattle.std.proofs.Common.{◌≡◌, ◌≢◌, ℕ, not, ◌<◌, Bool, true, false, cond, ◌&&◌, ltb, eqb, List, [], ◌∷◌, ◌++◌, length, get_or, refl, ap, ◌∙◌, arith, codes, Option, None, Some}
use Rattle.std.specs.Prelude.{IfSome}
use Rattle.std.specs.Char.{is_ascii_digit}
use Rattle.std.specs.Str.{IsUtf8, bytes_eq}
use Rattle.std.proofs.lemmas.Slice.Eq.{bytes_eq-Decides}
use Rattle.std.specs.List.{list_all, AllPass}
use Rattle.std.proofs.lemmas.Bool.{and_parts, and_from}
use Rattle.std.proofs.lemmas.Bool.Decides.{nat_tests}
use Rattle.std.proofs.lemmas.List.Folds.{list_all-append}
use Rattle.std.proofs.lemmas.Str.{IsUtf8-from_ascii}
use Rattle.std.proofs.lemmas.Str.Ascii.{IsAscii-from_reads}
use Rattle.std.proofs.lemmas.List.Sums.{AllPass-from_list_all, list_all-from_AllPass}
use Rattle.control_fields.specs.Names.{Lacks, is_blank, keep_before, trim_end, trim_start, IsName}
use Rattle.control_fields.specs.Spelling.{IsField}
use Rattle.control_fields.proofs.Trims.{trimmed_after}
use Rattle.control_fields.proofs.Written.{one_line}
use Rattle.texts.specs.PackageNames.{is_name_sign, is_package_name}
use Rattle.texts.proofs.PackageNames.{signs_of_name}
use Rattle.version_order.specs.Versions.{IsVersion, epoch_front, revision_end, is_upstream_sign, is_revision_sign}
use Rattle.status_records.specs.declared.words.Want.{Want}
use Rattle.status_records.specs.declared.words.Want.TheVariants as want
use Rattle.status_records.specs.declared.words.Flag.{Flag}
use Rattle.status_records.specs.declared.words.Flag.TheVariants as flag
use Rattle.status_records.specs.declared.words.StateWord.{StateWord}
use Rattle.status_records.specs.declared.words.StateWord.TheVariants as word
use Rattle.status_records.specs.Words.{want_word, flag_word, state_word, status_text}
use Rattle.status_records.specs.TriggerNames.{is_printed_sign, starts_with_sign, are_trigger_names}
use Rattle.status_records.specs.Paragraphs.{line_field}

-- a sign of ASCII, and the same or a space
abbrev pub is_visible : ℕ → Bool
is_visible b = ltb 32 b && ltb b 127

abbrev pub is_printed : ℕ → Bool
is_printed b = ltb 31 b && ltb b 127

pub weaker : (p q : ℕ → Bool) → ((b : ℕ) → p b ≡ true → q b ≡ true) → (l : List ℕ) → list_all p l ≡ true → list_all q l ≡ true
weaker p q so l e = list_all-from_AllPass q l (λ k d lt. so _ (AllPass-from_list_all p l e k d lt))

pub at_place : (p : ℕ → Bool) (l : List ℕ) (k d : ℕ) → k < length l → list_all p l ≡ true → p (get_or l k d) ≡ true
at_place p l k d lt e = AllPass-from_list_all p l e k d lt

printed : (b : ℕ) → is_visible b ≡ true → is_printed b ≡ true
printed b e = grind (arith, nat_tests)

not_break : (b : ℕ) → is_printed b ≡ true → b ≢ 10
not_break b e = grind (arith, nat_tests)

in_ascii : (b : ℕ) → is_printed b ≡ true → b < 128
in_ascii b e = grind (arith, nat_tests)

not_blank : (b : ℕ) → is_visible b ≡ true → is_blank b ≡ false
not_blank b e = grind (arith, nat_tests)

in_name : (b : ℕ) → is_visible b ≡ true → (32 < b) × (b < 127)
in_name b e = (grind (arith, nat_tests), grind (arith, nat_tests))

pub line_lacks : (l : List ℕ) → list_all is_printed l ≡ true → Lacks l 10
line_lacks l e i lt is = not_break (get_or l i 0) (at_place is_printed l i 0 lt e) is

pub line_utf8 : (l : List ℕ) → list_all is_printed l ≡ true → IsUtf8 l
line_utf8 l e = IsUtf8-from_ascii l (IsAscii-from_reads l (length l) (omega arith) (λ k lt. in_ascii (get_or l k 0) (at_place is_printed l k 0 lt e)))

pub visible_printed : (l : List ℕ) → list_all is_visible l ≡ true → list_all is_printed l ≡ true
visible_printed l e = weaker is_visible is_printed printed l e

pub visible_end : (l : List ℕ) → list_all is_visible l ≡ true → trim_end l ≡ l
visible_end [] e = refl
visible_end (b ∷ []) e = ap (λ y. cond y [] (b ∷ [])) (not_blank b (and_parts (is_visible b) true e).0)
visible_end (b ∷ c ∷ l) e = ap (keep_before b) (visible_end (c ∷ l) (and_parts (is_visible b) (list_all is_visible (c ∷ l)) e).1)

pub visible_start : (l : List ℕ) → list_all is_visible l ≡ true → trim_start l ≡ l
visible_start [] e = refl
visible_start (b ∷ l) e = ap (λ y. cond y (trim_start l) (b ∷ l)) (not_blank b (and_parts (is_visible b) (list_all is_visible l) e).0)

-- names of packages

sign_visible : (b : ℕ) → is_name_sign b ≡ true → is_visible b ≡ true
sign_visible b e = grind (arith, nat_tests)

pub name_visible : (name : List ℕ) → is_package_name name ≡ true → list_all is_visible name ≡ true
name_visible name e = weaker is_name_sign is_visible sign_visible name (signs_of_name name e)

-- versions

pass_all : (p q : ℕ → Bool) → ((b : ℕ) → p b ≡ true → q b ≡ true) → (l : List ℕ) → AllPass p l → list_all q l ≡ true
pass_all p q so l all = list_all-from_AllPass q l (λ k d lt. so _ (all k d lt))

digit_visible : (b : ℕ) → is_ascii_digit b ≡ true → is_visible b ≡ true
digit_visible b e = grind (arith, nat_tests)

revision_visible : (b : ℕ) → is_revision_sign b ≡ true → is_visible b ≡ true
revision_visible b e = grind (arith, nat_tests)

upstream_visible : (with_epoch : Bool) (b : ℕ) → is_upstream_sign with_epoch b ≡ true → is_visible b ≡ true
upstream_visible true b e = grind (arith, nat_tests)
upstream_visible false b e = grind (arith, nat_tests)

both_visible : (a b : List ℕ) → list_all is_visible a ≡ true → list_all is_visible b ≡ true → list_all is_visible (a ++ b) ≡ true
both_visible a b e f = list_all-append is_visible a b ∙ and_from (list_all is_visible a) (list_all is_visible b) e f

front_visible : (epoch : Option (List ℕ)) (n : List ℕ → Type 0) → IfSome epoch (λ digits. (digits ≢ []) × AllPass is_ascii_digit digits × n digits) → list_all is_visible (epoch_front epoch) ≡ true
front_visible None n known = refl
front_visible (Some digits) n known = both_visible digits (58 ∷ []) (pass_all is_ascii_digit is_visible digit_visible digits known.1) refl

end_visible : (revision : Option (List ℕ)) → IfSome revision (λ signs. (signs ≢ []) × AllPass is_revision_sign signs) → list_all is_visible (revision_end revision) ≡ true
end_visible None known = refl
end_visible (Some signs) known = pass_all is_revision_sign is_visible revision_visible signs known.1

pub version_visible : (text : List ℕ) → IsVersion text → list_all is_visible text ≡ true
version_visible text v =
    ap (list_all is_visible) v.written
    ∙ both_visible (epoch_front v.epoch ++ v.upstream) (revision_end v.revision)
    (both_visible (epoch_front v.epoch) v.upstream (front_visible v.epoch _ v.epoch_digits) (pass_all (is_upstream_sign _) is_visible (upstream_visible _) v.upstream v.upstream_signs.1)) (end_visible v.revision v.revision_signs)

-- the words of Status

want_visible : (w : Want) → list_all is_printed (want_word w) ≡ true
want_visible want.Unknown = refl
want_visible want.Install = refl
want_visible want.Hold = refl
want_visible want.Deinstall = refl
want_visible want.Purge = refl

flag_visible : (g : Flag) → list_all is_printed (flag_word g) ≡ true
flag_visible flag.Ok = refl
flag_visible flag.Reinstreq = refl

state_visible : (s : StateWord) → list_all is_printed (state_word s) ≡ true
state_visible word.NotInstalled = refl
state_visible word.ConfigFiles = refl
state_visible word.HalfInstalled = refl
state_visible word.Unpacked = refl
state_visible word.HalfConfigured = refl
state_visible word.TriggersAwaited = refl
state_visible word.TriggersPending = refl
state_visible word.Installed = refl

state_end : (s : StateWord) → (state_word s ≢ []) × (trim_end (state_word s) ≡ state_word s)
state_end word.NotInstalled = ((λ e. cc e), refl)
state_end word.ConfigFiles = ((λ e. cc e), refl)
state_end word.HalfInstalled = ((λ e. cc e), refl)
state_end word.Unpacked = ((λ e. cc e), refl)
state_end word.HalfConfigured = ((λ e. cc e), refl)
state_end word.TriggersAwaited = ((λ e. cc e), refl)
state_end word.TriggersPending = ((λ e. cc e), refl)
state_end word.Installed = ((λ e. cc e), refl)

pub both_printed : (a b : List ℕ) → list_all is_printed a ≡ true → list_all is_printed b ≡ true → list_all is_printed (a ++ b) ≡ true
both_printed a b e f = list_all-append is_printed a b ∙ and_from (list_all is_printed a) (list_all is_printed b) e f

pub status_printed : (w : Want) (g : Flag) (s : StateWord) → list_all is_printed (status_text w g s) ≡ true
status_printed w g s = both_printed (want_word w) (32 ∷ (flag_word g ++ 32 ∷ state_word s)) (want_visible w) (both_printed (flag_word g) (32 ∷ state_word s) (flag_visible g) (state_visible s))

pub status_start : (w : Want) (rest : List ℕ) → trim_start (want_word w ++ rest) ≡ want_word w ++ rest
status_start want.Unknown rest = refl
status_start want.Install rest = refl
status_start want.Hold rest = refl
status_start want.Deinstall rest = refl
status_start want.Purge rest = refl

flag_some : (g : Flag) (rest : List ℕ) → flag_word g ++ rest ≢ []
flag_some flag.Ok rest = λ e. cc e
flag_some flag.Reinstreq rest = λ e. cc e

pub status_end : (w : Want) (g : Flag) (s : StateWord) → trim_end (status_text w g s) ≡ status_text w g s
status_end w g s =
    let last = state_end s in
    let a = trimmed_after (32 ∷ []) (state_word s) last.0 last.1 in
    let b = trimmed_after (flag_word g) (32 ∷ state_word s) (λ e. cc e) a in
    let c = trimmed_after (32 ∷ []) (flag_word g ++ 32 ∷ state_word s) (flag_some g (32 ∷ state_word s)) b in
    trimmed_after (want_word w) (32 ∷ (flag_word g ++ 32 ∷ state_word s)) (λ e. cc e) c

-- fields of one line

pub name_of : (name : List ℕ) → list_all is_visible name ≡ true → 0 < length name → get_or name 0 0 ≢ 35 → get_or name 0 0 ≢ 45 → IsName name
name_of name e some hash dash = (some, hash, dash, λ k lt. in_name (get_or name k 0) (at_place is_visible name k 0 lt e))

no_colon : (b : ℕ) → not (eqb b 58) ≡ true → b ≢ 58
no_colon b e = grind (arith, nat_tests)

pub lacks_colon : (name : List ℕ) → list_all (λ b. not (eqb b 58)) name ≡ true → Lacks name 58
lacks_colon name e i lt is = no_colon (get_or name i 0) (at_place (λ b. not (eqb b 58)) name i 0 lt e) is

pub line_is_field : (name value : List ℕ) → IsName name → Lacks name 58 → list_all is_printed value ≡ true → trim_end value ≡ value → trim_start value ≡ value → IsField (line_field name value)
line_is_field name value is colon e end start = one_line (line_field name value) is colon (line_utf8 value e) (line_lacks value e) end start tt

pub package_is_field : (value : List ℕ) → list_all is_visible value ≡ true → IsField (line_field (codes "Package") value)
package_is_field value e =
    line_is_field (codes "Package") value (name_of (codes "Package") refl (omega arith) (omega arith) (omega arith)) (lacks_colon (codes "Package") refl) (visible_printed value e) (visible_end value e) (visible_start value e)

pub version_is_field : (value : List ℕ) → list_all is_visible value ≡ true → IsField (line_field (codes "Version") value)
version_is_field value e =
    line_is_field (codes "Version") value (name_of (codes "Version") refl (omega arith) (omega arith) (omega arith)) (lacks_colon (codes "Version") refl) (visible_printed value e) (visible_end value e) (visible_start value e)

pub config_is_field : (value : List ℕ) → list_all is_visible value ≡ true → IsField (line_field (codes "Config-Version") value)
config_is_field value e =
    line_is_field (codes "Config-Version") value (name_of (codes "Config-Version") refl (omega arith) (omega arith) (omega arith)) (lacks_colon (codes "Config-Version") refl) (visible_printed value e) (visible_end value e) (visible_start value e)

pub removed_is_field : IsField (line_field (codes "Removed-Since") (codes "yes"))
removed_is_field =
    line_is_field (codes "Removed-Since") (codes "yes") (name_of (codes "Removed-Since") refl (omega arith) (omega arith) (omega arith)) (lacks_colon (codes "Removed-Since") refl) refl refl refl

pub status_is_field : (w : Want) (g : Flag) (s : StateWord) → IsField (line_field (codes "Status") (status_text w g s))
status_is_field w g s =
    line_is_field (codes "Status") (status_text w g s) (name_of (codes "Status") refl (omega arith) (omega arith) (omega arith)) (lacks_colon (codes "Status") refl) (status_printed w g s) (status_end w g s) (status_start w (32 ∷ (flag_word g ++ 32 ∷ state_word s)))

-- names of triggers or packages

start_kept : (text : List ℕ) → starts_with_sign text ≡ true → trim_start text ≡ text
start_kept [] e = refl
start_kept (b ∷ bs) e = by (is_blank b) refl e
  where
    by : (blank : Bool) → is_blank b ≡ blank → not blank ≡ true → trim_start (b ∷ bs) ≡ b ∷ bs
    by true is e = absurd (cc e)
    by false is e = ap (λ y. cond y (trim_start bs) (b ∷ bs)) is

pub names_are_field : (name value : List ℕ) → IsName name → Lacks name 58 → are_trigger_names value ≡ true → IsField (line_field name value)
names_are_field name value is colon e =
    let parts = and_parts (list_all is_printed_sign value) (starts_with_sign value && bytes_eq (trim_end value) value) e in
    let ends = and_parts (starts_with_sign value) (bytes_eq (trim_end value) value) parts.1 in
    line_is_field name value is colon parts.0 ((bytes_eq-Decides (trim_end value) value).0 ends.1) (start_kept value ends.0)

no_blank : (b : ℕ) → not (eqb b 32) ≡ true → b ≢ 32
no_blank b e = grind (arith, nat_tests)

pub lacks_blank : (text : List ℕ) → list_all (λ b. not (eqb b 32)) text ≡ true → Lacks text 32
lacks_blank text e i lt is = no_blank (get_or text i 0) (at_place (λ b. not (eqb b 32)) text i 0 lt e) is
