-- The fields of a record's own: they can be written, and are found and read again.
use Rattle.std.proofs.Common.{◌≡◌, ℕ, Bool, true, false, cond, not, ◌&&◌, Option, None, Some, List, [], ◌∷◌, ◌++◌, map, refl, sym, ap, subst, ◌∙◌, append_assoc, arith, codes}
use Rattle.std.specs.Prelude.{IfSome, is_some}
use Rattle.std.specs.List.{list_any, list_all, AllByRecursion}
use Rattle.std.specs.Str.{bytes_eq}
use Rattle.std.proofs.lemmas.Bool.{true≢false, false_from_ne_true, or_from, or_parts, and_parts, not-true}
use Rattle.std.proofs.lemmas.List.{append-nil}
use Rattle.std.proofs.lemmas.Slice.Eq.{bytes_eq-Decides}
use Rattle.control_fields.specs.Names.{Lacks, IsName, lower, is_called, stands}
use Rattle.control_fields.specs.Spelling.{IsField, AreFields}
use Rattle.control_fields.specs.declared.field.Field.{Field}
use Rattle.control_fields.proofs.Written.{one_line, IsTrimmedMore as IsMore}
use Rattle.version_order.specs.Versions.{IsVersion}
use Rattle.texts.specs.PackageNames.{is_package_name}
use Rattle.status_records.specs.declared.record.Record.{Record}
use Rattle.status_records.specs.Words.{status_text}
use Rattle.status_records.specs.Fields.{own_names, is_one_of, recorded_fields}
use Rattle.status_records.specs.Values.{IsReadable}
use Rattle.status_records.specs.TriggerNames.{are_trigger_names}
use Rattle.status_records.specs.ConffileFields.{conffile_line, pending_line, is_conffile_line, is_pending_line, are_apart, conffile_paths, pending_paths}
use Rattle.status_records.specs.Paragraphs.{first_fields, config_field, removed_field, lines_field, names_field, line_field, trigger_fields, record_word, own_fields, paragraph_of, field_in, line_of, lines_of_field}
use Rattle.status_records.proofs.Kept.{called_append, others_stay, swapped}
use Rattle.status_records.proofs.Lines.{name_of, lacks_colon, package_is_field, status_is_field, version_is_field, config_is_field, removed_is_field, name_visible, version_visible, line_utf8, line_lacks, names_are_field}
use Rattle.status_records.proofs.Merging.{AreOut, all_append, all_merged, fields_merged, found_merged, left_merged}
use Rattle.status_records.proofs.Sayings.{not_called}

-- which names these fields have

abbrev AreOwn : List Field → Type 0
AreOwn fs = AllByRecursion (λ f. is_one_of own_names f ≡ true) fs

config_own : (v : Option (List ℕ)) → AreOwn (config_field v)
config_own None = tt
config_own (Some v) = (refl, tt)

removed_own : (b : Bool) → AreOwn (removed_field b)
removed_own true = (refl, tt)
removed_own false = tt

conffiles_own : (ls : List (List ℕ)) → AreOwn (lines_field (codes "Conffiles") ls)
conffiles_own [] = tt
conffiles_own (l ∷ ls) = (refl, tt)

pending_own : (ls : List (List ℕ)) → AreOwn (lines_field (codes "New-Conffiles") ls)
pending_own [] = tt
pending_own (l ∷ ls) = (refl, tt)

names_pending_own : (o : Option (List ℕ)) → AreOwn (names_field (codes "Triggers-Pending") o)
names_pending_own None = tt
names_pending_own (Some names) = (refl, tt)

names_awaited_own : (o : Option (List ℕ)) → AreOwn (names_field (codes "Triggers-Awaited") o)
names_awaited_own None = tt
names_awaited_own (Some names) = (refl, tt)

-- what holds of each of the optional fields holds of all of a record's own
own_from : (P : Field → Type 0) (r : Record) → P (line_field (codes "Package") r.name) → P (line_field (codes "Status") (status_text r.want r.flag (record_word r))) → P (line_field (codes "Version") r.version)
    → AllByRecursion P (config_field r.config_version) → AllByRecursion P (lines_field (codes "Conffiles") (map conffile_line r.conffiles))
    → AllByRecursion P (names_field (codes "Triggers-Pending") r.triggers.pending) → AllByRecursion P (names_field (codes "Triggers-Awaited") r.triggers.awaited)
    → AllByRecursion P (removed_field r.removed_since) → AllByRecursion P (lines_field (codes "New-Conffiles") (map pending_line r.pending)) → AllByRecursion P (own_fields r)
own_from P r named status version config conffiles triggers awaited removed pending =
    let behind =
    all_append P (config_field r.config_version) _ config
    (all_append P (lines_field (codes "Conffiles") (map conffile_line r.conffiles)) _ conffiles
    (all_append P (trigger_fields r.triggers) _ (all_append P (names_field (codes "Triggers-Pending") r.triggers.pending) _ triggers awaited)
    (all_append P (removed_field r.removed_since) _ removed pending))) in
    (named, (status, (version, behind)))

own_fields_own : (r : Record) → AreOwn (own_fields r)
own_fields_own r =
    own_from (λ f. is_one_of own_names f ≡ true) r refl refl refl (config_own r.config_version) (conffiles_own (map conffile_line r.conffiles)) (names_pending_own r.triggers.pending) (names_awaited_own r.triggers.awaited)
    (removed_own r.removed_since) (pending_own (map pending_line r.pending))

other_called : (f : Field) (fs : List Field) → is_one_of own_names f ≡ false → AreOwn fs → stands f.name fs ≡ false
other_called f [] other own = refl
other_called f (g ∷ fs) other own =
    or_from (bytes_eq (lower g.name) (lower f.name)) (is_called (lower f.name) fs)
    (false_from_ne_true (bytes_eq (lower g.name) (lower f.name)) (λ t. true≢false (sym own.0 ∙ ap (λ n. list_any (bytes_eq n) own_names) ((bytes_eq-Decides (lower g.name) (lower f.name)).0 t) ∙ other)))
    (other_called f fs other own.1)

others_lack : (text : List ℕ) (fs : List Field) → list_any (bytes_eq text) own_names ≡ true → AllByRecursion (λ f. is_one_of own_names f ≡ false) fs → is_called text fs ≡ false
others_lack text [] own others = refl
others_lack text (f ∷ fs) own others =
    or_from (bytes_eq (lower f.name) text) (is_called text fs)
    (false_from_ne_true (bytes_eq (lower f.name) text) (λ t. true≢false (sym own ∙ ap (λ n. list_any (bytes_eq n) own_names) (sym ((bytes_eq-Decides (lower f.name) text).0 t)) ∙ others.0)))
    (others_lack text fs own others.1)

own_out : (fs gs : List Field) → AreOwn fs → AllByRecursion (λ f. is_one_of own_names f ≡ false) gs → AreOut fs gs
own_out [] gs own others = tt
own_out (f ∷ fs) gs own others = (others_lack (lower f.name) gs own.0 others, own_out fs gs own.1 others)

others_out : (gs fs : List Field) → AllByRecursion (λ f. is_one_of own_names f ≡ false) gs → AreOwn fs → AreOut gs fs
others_out [] fs others own = tt
others_out (g ∷ gs) fs others own = (other_called g fs others.0 own, others_out gs fs others.1 own)

-- parts of one field at most, each of a name of its own

abbrev IsPart : List ℕ → List Field → Type 0
IsPart name [] = Unit {0}
IsPart name (f ∷ fs) = (f.name ≡ name) × (fs ≡ [])

abbrev ArePartsOf : List (List ℕ) → List (List Field) → Type 0
ArePartsOf [] [] = Unit {0}
ArePartsOf [] (p ∷ ps) = ⊥
ArePartsOf (n ∷ ns) [] = ⊥
ArePartsOf (n ∷ ns) (p ∷ ps) = IsPart n p × ArePartsOf ns ps

abbrev joined : List (List Field) → List Field
joined [] = []
joined (p ∷ ps) = p ++ joined ps

abbrev are_names_apart : List (List ℕ) → Bool
are_names_apart [] = true
are_names_apart (n ∷ ns) = not (list_any (λ m. bytes_eq (lower n) (lower m)) ns) && are_names_apart ns

abbrev AreNew : List Field → List (List ℕ) → Type 0
AreNew before ns = AllByRecursion (λ n. is_called (lower n) before ≡ false) ns

still_new : (before : List Field) (f : Field) (name : List ℕ) (ns : List (List ℕ)) → f.name ≡ name → list_any (λ m. bytes_eq (lower name) (lower m)) ns ≡ false → AreNew before ns → AreNew (before ++ f ∷ []) ns
still_new before f name [] named apart new = tt
still_new before f name (n ∷ ns) named apart new =
    let parts = or_parts (bytes_eq (lower name) (lower n)) (list_any (λ m. bytes_eq (lower name) (lower m)) ns) apart in (
      called_append (lower n) before (f ∷ []) new.0 (or_from (bytes_eq (lower f.name) (lower n)) false (ap (λ m. bytes_eq (lower m) (lower n)) named ∙ parts.0) refl),
      still_new before f name ns named parts.1 new.1,
    )

parts_written : (ns : List (List ℕ)) (ps : List (List Field)) (before : List Field) → ArePartsOf ns ps → are_names_apart ns ≡ true → AreNew before ns → AllByRecursion IsField (joined ps) → AreFields before (joined ps)
parts_written [] [] before parts apart new are = tt
parts_written [] (p ∷ ps) before parts apart new are = absurd parts
parts_written (n ∷ ns) [] before parts apart new are = absurd parts
parts_written (n ∷ ns) ([] ∷ ps) before parts apart new are = parts_written ns ps before parts.1 (and_parts (not (list_any (λ m. bytes_eq (lower n) (lower m)) ns)) (are_names_apart ns) apart).1 new.1 are
parts_written (n ∷ ns) ((f ∷ fs) ∷ ps) before parts apart new are =
    let both = and_parts (not (list_any (λ m. bytes_eq (lower n) (lower m)) ns)) (are_names_apart ns) apart in
    let none = parts.0.1 in (
      are.0,
      ap (λ m. is_called (lower m) before) parts.0.0 ∙ new.0,
      subst (λ (l : List Field). AreFields (before ++ f ∷ []) (l ++ joined ps)) (sym none)
          (parts_written ns ps (before ++ f ∷ []) parts.1 both.1 (still_new before f n ns parts.0.0 (not-true (list_any (λ m. bytes_eq (lower n) (lower m)) ns) both.0) new.1)
          (subst (λ (l : List Field). AllByRecursion IsField (l ++ joined ps)) none are.1)),
    )

-- the field of a part's name is the part's

abbrev first_of : List Field → Option Field
first_of [] = None
first_of (f ∷ fs) = Some f

abbrev part_called : List ℕ → List (List ℕ) → List (List Field) → Option Field
part_called text [] ps = None
part_called text (n ∷ ns) [] = None
part_called text (n ∷ ns) (p ∷ ps) = cond (bytes_eq (lower n) text) (first_of p) (part_called text ns ps)

parts_lack : (text : List ℕ) (ns : List (List ℕ)) (ps : List (List Field)) → ArePartsOf ns ps → list_any (λ m. bytes_eq text (lower m)) ns ≡ false → is_called text (joined ps) ≡ false
parts_lack text [] [] parts apart = refl
parts_lack text [] (p ∷ ps) parts apart = absurd parts
parts_lack text (n ∷ ns) [] parts apart = absurd parts
parts_lack text (n ∷ ns) ([] ∷ ps) parts apart = parts_lack text ns ps parts.1 (or_parts (bytes_eq text (lower n)) (list_any (λ m. bytes_eq text (lower m)) ns) apart).1
parts_lack text (n ∷ ns) ((f ∷ fs) ∷ ps) parts apart =
    let both = or_parts (bytes_eq text (lower n)) (list_any (λ m. bytes_eq text (lower m)) ns) apart in
    or_from (bytes_eq (lower f.name) text) (is_called text (fs ++ joined ps)) (ap (λ m. bytes_eq (lower m) text) parts.0.0 ∙ swapped text (lower n) both.0)
    (ap (λ (l : List Field). is_called text (l ++ joined ps)) parts.0.1 ∙ parts_lack text ns ps parts.1 both.1)

part_found : (text : List ℕ) (ns : List (List ℕ)) (ps : List (List Field)) → ArePartsOf ns ps → are_names_apart ns ≡ true → field_in text (joined ps) ≡ part_called text ns ps
part_found text [] [] parts apart = refl
part_found text [] (p ∷ ps) parts apart = absurd parts
part_found text (n ∷ ns) [] parts apart = absurd parts
part_found text (n ∷ ns) ([] ∷ ps) parts apart =
    let both = and_parts (not (list_any (λ m. bytes_eq (lower n) (lower m)) ns)) (are_names_apart ns) apart in
    by (bytes_eq (lower n) text) refl (part_found text ns ps parts.1 both.1) (not-true (list_any (λ m. bytes_eq (lower n) (lower m)) ns) both.0)
  where
    by : (b : Bool) → bytes_eq (lower n) text ≡ b → field_in text (joined ps) ≡ part_called text ns ps → list_any (λ m. bytes_eq (lower n) (lower m)) ns ≡ false → field_in text (joined ps) ≡ cond b None (part_called text ns ps)
    by true e rest other =
        not_called text (joined ps) (parts_lack text ns ps parts.1 (ap (λ t. list_any (λ m. bytes_eq t (lower m)) ns) (sym ((bytes_eq-Decides (lower n) text).0 e)) ∙ other))
    by false e rest other = rest
part_found text (n ∷ ns) ((f ∷ fs) ∷ ps) parts apart =
    let both = and_parts (not (list_any (λ m. bytes_eq (lower n) (lower m)) ns)) (are_names_apart ns) apart in
    ap (λ m. cond (bytes_eq (lower m) text) (Some f) (field_in text (fs ++ joined ps))) parts.0.0
    ∙ ap (λ (o : Option Field). cond (bytes_eq (lower n) text) (Some f) o) (ap (λ (l : List Field). field_in text (l ++ joined ps)) parts.0.1 ∙ part_found text ns ps parts.1 both.1)

-- the parts of a record's own fields

abbrev names_in_order : List (List ℕ)
names_in_order = codes "Package" ∷ codes "Status" ∷ codes "Version" ∷ codes "Config-Version" ∷ codes "Conffiles" ∷ codes "Triggers-Pending" ∷ codes "Triggers-Awaited" ∷ codes "Removed-Since" ∷ codes "New-Conffiles" ∷ []

abbrev own_parts : Record → List (List Field)
own_parts r =
    (line_field (codes "Package") r.name ∷ []) ∷ (line_field (codes "Status") (status_text r.want r.flag (record_word r)) ∷ []) ∷ (line_field (codes "Version") r.version ∷ [])
    ∷ config_field r.config_version ∷ lines_field (codes "Conffiles") (map conffile_line r.conffiles)
    ∷ names_field (codes "Triggers-Pending") r.triggers.pending ∷ names_field (codes "Triggers-Awaited") r.triggers.awaited
    ∷ removed_field r.removed_since ∷ lines_field (codes "New-Conffiles") (map pending_line r.pending) ∷ []

config_part : (v : Option (List ℕ)) → IsPart (codes "Config-Version") (config_field v)
config_part None = tt
config_part (Some v) = (refl, refl)

removed_part : (b : Bool) → IsPart (codes "Removed-Since") (removed_field b)
removed_part true = (refl, refl)
removed_part false = tt

lines_part : (name : List ℕ) (ls : List (List ℕ)) → IsPart name (lines_field name ls)
lines_part name [] = tt
lines_part name (l ∷ ls) = (refl, refl)

names_part : (name : List ℕ) (o : Option (List ℕ)) → IsPart name (names_field name o)
names_part name None = tt
names_part name (Some names) = (refl, refl)

own_are_parts : (r : Record) → ArePartsOf names_in_order (own_parts r)
own_are_parts r = (
  (refl, refl),
  (
    (refl, refl),
    (
      (refl, refl),
      (
        config_part r.config_version,
        (
          lines_part (codes "Conffiles") (map conffile_line r.conffiles),
          (
            names_part (codes "Triggers-Pending") r.triggers.pending,
            (names_part (codes "Triggers-Awaited") r.triggers.awaited, (removed_part r.removed_since, (lines_part (codes "New-Conffiles") (map pending_line r.pending), tt))),
          ),
        ),
      ),
    ),
  ),
)

own_joined : (r : Record) → joined (own_parts r) ≡ own_fields r
own_joined r =
    let firsts = first_fields r.name (status_text r.want r.flag (record_word r)) r.version in
    let config = config_field r.config_version in
    let conffiles = lines_field (codes "Conffiles") (map conffile_line r.conffiles) in
    let triggers = names_field (codes "Triggers-Pending") r.triggers.pending in
    let awaited = names_field (codes "Triggers-Awaited") r.triggers.awaited in
    let removed = removed_field r.removed_since in
    let pending = lines_field (codes "New-Conffiles") (map pending_line r.pending) in
    ap (λ (l : List Field). firsts ++ (config ++ (conffiles ++ l))) (ap (λ (l : List Field). triggers ++ (awaited ++ (removed ++ l))) (append-nil pending) ∙ sym (append_assoc triggers awaited (removed ++ pending)))

-- the same as they are written one behind the other
pub own_laid : (r : Record) (a b c d e f : List Field) → a ≡ first_fields r.name (status_text r.want r.flag (record_word r)) r.version → b ≡ a ++ config_field r.config_version → c ≡ b ++ lines_field (codes "Conffiles") (map conffile_line r.conffiles)
    → d ≡ c ++ trigger_fields r.triggers → e ≡ d ++ removed_field r.removed_since → f ≡ e ++ lines_field (codes "New-Conffiles") (map pending_line r.pending) → f ≡ own_fields r
own_laid r a b c d e f is_a is_b is_c is_d is_e is_f =
    let firsts = first_fields r.name (status_text r.want r.flag (record_word r)) r.version in
    let config = config_field r.config_version in
    let conffiles = lines_field (codes "Conffiles") (map conffile_line r.conffiles) in
    let triggers = trigger_fields r.triggers in
    let removed = removed_field r.removed_since in
    let pending = lines_field (codes "New-Conffiles") (map pending_line r.pending) in
    is_f ∙ ap (λ (l : List Field). l ++ pending) (is_e ∙ ap (λ (l : List Field). l ++ removed) (is_d ∙ ap (λ (l : List Field). l ++ triggers) (is_c ∙ ap (λ (l : List Field). l ++ conffiles) (is_b ∙ ap (λ (l : List Field). l ++ config) is_a))))
    ∙ append_assoc (((firsts ++ config) ++ conffiles) ++ triggers) removed pending
    ∙ append_assoc ((firsts ++ config) ++ conffiles) triggers (removed ++ pending)
    ∙ append_assoc (firsts ++ config) conffiles (triggers ++ (removed ++ pending))
    ∙ append_assoc firsts config (conffiles ++ (triggers ++ (removed ++ pending)))

-- the fields have a written form

config_fits : (v : Option (List ℕ)) → IfSome v IsVersion → AllByRecursion IsField (config_field v)
config_fits None is = tt
config_fits (Some v) is = (config_is_field v (version_visible v is), tt)

removed_fits : (b : Bool) → AllByRecursion IsField (removed_field b)
removed_fits true = (removed_is_field, tt)
removed_fits false = tt

lines_fit : (name : List ℕ) (ls : List (List ℕ)) → IsName name → Lacks name 58 → AllByRecursion IsMore ls → AllByRecursion IsField (lines_field name ls)
lines_fit name [] is colon all = tt
lines_fit name (l ∷ ls) is colon all = (one_line (record { name = name; first = []; more = l ∷ ls }) is colon (line_utf8 [] refl) (line_lacks [] refl) refl refl all, tt)

names_fit : (name : List ℕ) (o : Option (List ℕ)) → IsName name → Lacks name 58 → IfSome o (λ names. are_trigger_names names ≡ true) → AllByRecursion IsField (names_field name o)
names_fit name None is colon all = tt
names_fit name (Some names) is colon all = (names_are_field name names is colon all, tt)

-- what holds of the parts that are written
pub record ArePartsFit (r : Record) : Type 0 where
  pub version : IsVersion r.version
  pub config_version : IfSome r.config_version IsVersion
  pub triggers_pending : IfSome r.triggers.pending (λ names. are_trigger_names names ≡ true)
  pub triggers_awaited : IfSome r.triggers.awaited (λ names. are_trigger_names names ≡ true)

own_are_fields : (r : Record) → is_package_name r.name ≡ true → ArePartsFit r → AllByRecursion IsMore (map conffile_line r.conffiles) → AllByRecursion IsMore (map pending_line r.pending) → AllByRecursion IsField (own_fields r)
own_are_fields r named parts conffiles pending =
    own_from IsField r (package_is_field r.name (name_visible r.name named)) (status_is_field r.want r.flag (record_word r)) (version_is_field r.version (version_visible r.version parts.version))
    (config_fits r.config_version parts.config_version)
    (lines_fit (codes "Conffiles") (map conffile_line r.conffiles) (name_of (codes "Conffiles") refl (omega arith) (omega arith) (omega arith)) (lacks_colon (codes "Conffiles") refl) conffiles)
    (names_fit (codes "Triggers-Pending") r.triggers.pending (name_of (codes "Triggers-Pending") refl (omega arith) (omega arith) (omega arith)) (lacks_colon (codes "Triggers-Pending") refl) parts.triggers_pending)
    (names_fit (codes "Triggers-Awaited") r.triggers.awaited (name_of (codes "Triggers-Awaited") refl (omega arith) (omega arith) (omega arith)) (lacks_colon (codes "Triggers-Awaited") refl) parts.triggers_awaited)
    (removed_fits r.removed_since)
    (lines_fit (codes "New-Conffiles") (map pending_line r.pending) (name_of (codes "New-Conffiles") refl (omega arith) (omega arith) (omega arith)) (lacks_colon (codes "New-Conffiles") refl) pending)

own_written : (r : Record) → AllByRecursion IsField (own_fields r) → AreFields [] (own_fields r)
own_written r are =
    subst (AreFields []) (own_joined r)
    (parts_written names_in_order (own_parts r) [] (own_are_parts r) refl (refl, (refl, (refl, (refl, (refl, (refl, (refl, (refl, (refl, tt))))))))) (subst (AllByRecursion IsField) (sym (own_joined r)) are))

pub whole_written : (r : Record) → is_package_name r.name ≡ true → ArePartsFit r → AllByRecursion IsMore (map conffile_line r.conffiles) → AllByRecursion IsMore (map pending_line r.pending)
    → AllByRecursion (λ f. is_one_of own_names f ≡ false) r.fields → AreFields [] r.fields → AreFields [] (paragraph_of r)
whole_written r named parts conffiles pending others fields =
    fields_merged [] (own_fields r) r.fields (own_written r (own_are_fields r named parts conffiles pending)) fields (own_out (own_fields r) r.fields (own_fields_own r) others) (others_out r.fields (own_fields r) others (own_fields_own r))

-- their values can be read

config_readable : (v : Option (List ℕ)) → IfSome v IsVersion → AllByRecursion IsReadable (config_field v)
config_readable None is = tt
config_readable (Some v) is = ((refl, is), tt)

removed_readable : (b : Bool) → AllByRecursion IsReadable (removed_field b)
removed_readable true = ((refl, refl), tt)
removed_readable false = tt

conffiles_readable : (ls : List (List ℕ)) → list_all is_conffile_line ls ≡ true → are_apart (conffile_paths ls) ≡ true → AllByRecursion IsReadable (lines_field (codes "Conffiles") ls)
conffiles_readable [] lines apart = tt
conffiles_readable (l ∷ ls) lines apart = (record { nothing_first = refl; lines = lines; apart = apart }, tt)

pending_readable : (ls : List (List ℕ)) → list_all is_pending_line ls ≡ true → are_apart (pending_paths ls) ≡ true → AllByRecursion IsReadable (lines_field (codes "New-Conffiles") ls)
pending_readable [] lines apart = tt
pending_readable (l ∷ ls) lines apart = (record { nothing_first = refl; lines = lines; apart = apart }, tt)

names_readable_pending : (o : Option (List ℕ)) → IfSome o (λ names. are_trigger_names names ≡ true) → AllByRecursion IsReadable (names_field (codes "Triggers-Pending") o)
names_readable_pending None is = tt
names_readable_pending (Some names) is = ((refl, is), tt)

names_readable_awaited : (o : Option (List ℕ)) → IfSome o (λ names. are_trigger_names names ≡ true) → AllByRecursion IsReadable (names_field (codes "Triggers-Awaited") o)
names_readable_awaited None is = tt
names_readable_awaited (Some names) is = ((refl, is), tt)

pub record IsReadAgain (conffiles pending : List (List ℕ)) : Type 0 where
  pub lines : list_all is_conffile_line conffiles ≡ true
  pub apart : are_apart (conffile_paths conffiles) ≡ true
  pub pending_lines : list_all is_pending_line pending ≡ true
  pub pending_apart : are_apart (pending_paths pending) ≡ true

pub own_readable : (r : Record) → is_package_name r.name ≡ true → ArePartsFit r → IsReadAgain (map conffile_line r.conffiles) (map pending_line r.pending) → AllByRecursion IsReadable r.fields → AllByRecursion IsReadable (paragraph_of r)
own_readable r named parts again fields =
    all_merged IsReadable (own_fields r) r.fields
    (own_from IsReadable r (refl, named) (refl, (r.want, r.flag, record_word r, refl)) (refl, parts.version) (config_readable r.config_version parts.config_version)
    (conffiles_readable (map conffile_line r.conffiles) again.lines again.apart) (names_readable_pending r.triggers.pending parts.triggers_pending) (names_readable_awaited r.triggers.awaited parts.triggers_awaited)
    (removed_readable r.removed_since) (pending_readable (map pending_line r.pending) again.pending_lines again.pending_apart)) fields

-- what is found of them

config_by : (v : Option (List ℕ)) → line_of (first_of (config_field v)) ≡ v
config_by None = refl
config_by (Some v) = refl

removed_by : (b : Bool) → is_some (first_of (removed_field b)) ≡ b
removed_by true = refl
removed_by false = refl

lines_by : (name : List ℕ) (ls : List (List ℕ)) → lines_of_field (first_of (lines_field name ls)) ≡ ls
lines_by name [] = refl
lines_by name (l ∷ ls) = refl

names_by : (name : List ℕ) (o : Option (List ℕ)) → line_of (first_of (names_field name o)) ≡ o
names_by name None = refl
names_by name (Some names) = refl

module _ (r : Record) (others : AllByRecursion (λ f. is_one_of own_names f ≡ false) r.fields) where
  pub own_found : (text : List ℕ) → list_any (bytes_eq text) own_names ≡ true → field_in text (paragraph_of r) ≡ part_called text names_in_order (own_parts r)
  own_found text own =
      found_merged text (own_fields r) r.fields (others_lack text r.fields own others) ∙ ap (λ (l : List Field). field_in text l) (sym (own_joined r)) ∙ part_found text names_in_order (own_parts r) (own_are_parts r) refl

  pub package_again : field_in (codes "package") (paragraph_of r) ≡ Some (line_field (codes "Package") r.name)
  package_again = own_found (codes "package") refl

  pub status_again : field_in (codes "status") (paragraph_of r) ≡ Some (line_field (codes "Status") (status_text r.want r.flag (record_word r)))
  status_again = own_found (codes "status") refl

  pub version_again : field_in (codes "version") (paragraph_of r) ≡ Some (line_field (codes "Version") r.version)
  version_again = own_found (codes "version") refl

  pub config_again : line_of (field_in (codes "config-version") (paragraph_of r)) ≡ r.config_version
  config_again = ap line_of (own_found (codes "config-version") refl) ∙ config_by r.config_version

  pub removed_again : is_some (field_in (codes "removed-since") (paragraph_of r)) ≡ r.removed_since
  removed_again = ap is_some (own_found (codes "removed-since") refl) ∙ removed_by r.removed_since

  pub conffiles_again : lines_of_field (field_in (codes "conffiles") (paragraph_of r)) ≡ map conffile_line r.conffiles
  conffiles_again = ap lines_of_field (own_found (codes "conffiles") refl) ∙ lines_by (codes "Conffiles") (map conffile_line r.conffiles)

  pub pending_field_again : lines_of_field (field_in (codes "new-conffiles") (paragraph_of r)) ≡ map pending_line r.pending
  pending_field_again = ap lines_of_field (own_found (codes "new-conffiles") refl) ∙ lines_by (codes "New-Conffiles") (map pending_line r.pending)

  pub triggers_pending_again : line_of (field_in (codes "triggers-pending") (paragraph_of r)) ≡ r.triggers.pending
  triggers_pending_again = ap line_of (own_found (codes "triggers-pending") refl) ∙ names_by (codes "Triggers-Pending") r.triggers.pending

  pub triggers_awaited_again : line_of (field_in (codes "triggers-awaited") (paragraph_of r)) ≡ r.triggers.awaited
  triggers_awaited_again = ap line_of (own_found (codes "triggers-awaited") refl) ∙ names_by (codes "Triggers-Awaited") r.triggers.awaited

-- the other fields
pub others_kept : (r : Record) → AllByRecursion (λ f. is_one_of own_names f ≡ false) r.fields → recorded_fields (paragraph_of r) ≡ r.fields
others_kept r others = left_merged (λ f. not (is_one_of own_names f)) (own_fields r) r.fields (own_left (own_fields r) (own_fields_own r)) ∙ others_stay r.fields others
  where
    own_left : (fs : List Field) → AreOwn fs → AllByRecursion (λ f. not (is_one_of own_names f) ≡ false) fs
    own_left [] own = tt
    own_left (f ∷ fs) own = (ap not own.0, own_left fs own.1)

-- a paragraph isn't empty
pub some_written : (r : Record) → AllByRecursion (λ f. is_one_of own_names f ≡ false) r.fields → paragraph_of r ≡ [] → ⊥
some_written r others none = by (sym (package_again r others) ∙ ap (λ (l : List Field). field_in (codes "package") l) none)
  where
    by : Some (line_field (codes "Package") r.name) ≡ None → ⊥
    by e = cc e
