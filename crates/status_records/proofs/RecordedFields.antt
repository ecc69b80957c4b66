-- What a record has of a control file can be written, and read again.
use Rattle.std.proofs.Common.{◌≡◌, ◌≢◌, ℕ, Bool, true, false, cond, not, ◌||◌, Option, Some, None, List, [], ◌∷◌, ◌++◌, Bor, map, refl, sym, ap, subst, ◌∙◌, inl, inr, codes, append-nil}
use Rattle.std.specs.Prelude.{IfNone, filter}
use Rattle.std.specs.Str.{bytes_eq}
use Rattle.std.specs.List.{AllByRecursion, flat_map, list_all, list_any}
use Rattle.std.proofs.Props.{props}
use Rattle.std.proofs.Math.Logic.{∥∥₁_elim, ∥∥₁_map}
use Rattle.std.proofs.lemmas.Bool.{not-true, or_parts}
use Rattle.std.proofs.lemmas.List.{map-append}
use Rattle.control_fields.specs.Names.{lower, is_called, stands, value_of, IsName, Lacks}
use Rattle.control_fields.specs.Spelling.{AreFields, IsField}
use Rattle.control_fields.specs.declared.field.Field.{Field}
use Rattle.control_fields.proofs.Written.{one_line, IsTrimmedMore}
use Rattle.relation_fields.specs.Grammar.{Reads}
use Rattle.relation_fields.specs.OneLine.{IsOneLine, is_printed, print_clauses, rules_called}
use Rattle.relation_fields.specs.RelationFields.{field_rules, relation_key, IsRelation}
use Rattle.relation_fields.specs.declared.alternative.Alternative.{Alternative}
use Rattle.relation_fields.specs.declared.reading.Rules.{Rules}
use Rattle.relation_fields.specs.declared.relation_field.RelationField.{RelationField}
use Rattle.relation_fields.specs.declared.relation_field.RelationField.TheVariants.{Depends, PreDepends, Breaks, Conflicts, Provides, Replaces}
use Rattle.relation_fields.proofs.LineSigns.{line_end, line_front, line_printed}
use Rattle.relation_fields.proofs.OneLine.{line_reads}
use Rattle.texts.specs.PackageNames.{is_package_name}
use Rattle.status_records.specs.Fields.{own_names, is_one_of}
use Rattle.status_records.specs.Order.{in_dpkgs_order}
use Rattle.status_records.specs.Recorded.{is_left_out, is_recorded, AreFieldsOf, AreRecordedAs, IsOnOneLine, IsRecordedAs}
use Rattle.status_records.specs.Values.{IsReadable, IsReadableAs, IsReadableControl}
use Rattle.status_records.specs.Writable.{IsWritable}
use Rattle.status_records.proofs.ControlValues.{control_readable}
use Rattle.status_records.proofs.Kept.{left_over, new_among, other_kind}
use Rattle.status_records.proofs.Merging.{all_in_order, fields_in_order, same_before}
use Rattle.status_records.proofs.PlainLines.{plain_end, plain_lacks, plain_start, plain_utf8}

-- one without a line stays as it is
pub stays_so : {X : Type 0} (f g : Field) (name value : List ℕ) (found : Option X) → found ≡ None → IfNone found ((text : List ℕ) → IsOneLine (lower name) value text → ⊥) → name ≡ f.name → value ≡ value_of f → g ≡ f → IsRecordedAs f g
stays_so {X} f g name value found none is n v same =
    let refused = subst (λ (o : Option X). IfNone o ((text : List ℕ) → IsOneLine (lower name) value text → ⊥)) none is in
    inr (record {
      none = λ text line. refused text (subst (λ (k : List ℕ). IsOneLine (lower k) value text) (sym n) (subst (λ (t : List ℕ). IsOneLine (lower f.name) t text) (sym v) line));
      same = same;
    })

-- names stay

pub same_name : (f g : Field) → IsRecordedAs f g → g.name ≡ f.name
same_name f g is = elim is [ inl line ↦ line.name | inr stays ↦ ap (λ (h : Field). h.name) stays.same ]

pub called_as : (text : List ℕ) (fs gs : List Field) → AreRecordedAs fs gs → is_called text gs ≡ is_called text fs
called_as text [] gs are = ap (is_called text) are
called_as text (f ∷ fs) [] are = absurd are
called_as text (f ∷ fs) (g ∷ gs) are = λ i. bytes_eq (lower (same_name f g are.0 i)) text || called_as text fs gs are.1 i

-- one more

as_more : (fs gs : List Field) (f g : Field) → AreRecordedAs fs gs → IsRecordedAs f g → AreRecordedAs (fs ++ f ∷ []) (gs ++ g ∷ [])
as_more [] gs f g are is = subst (λ (l : List Field). AreRecordedAs (f ∷ []) (l ++ g ∷ [])) (sym are) (is, refl)
as_more (x ∷ fs) [] f g are is = absurd are
as_more (x ∷ fs) (y ∷ gs) f g are is = (are.0, as_more fs gs f g are.1 is)

pub recorded_more : (recorded next : List Field) (ys : List (Bor Field)) (x : Bor Field) (g : Field) → AreRecordedAs (map (λ b. b.now) ys) recorded → IsRecordedAs x.now g → next ≡ recorded ++ g ∷ [] → AreRecordedAs (map (λ b. b.now) (ys ++ x ∷ [])) next
recorded_more recorded next ys x g are is grown =
    subst (λ (l : List Field). AreRecordedAs l next) (sym (map-append (λ (b : Bor Field). b.now) ys (x ∷ [])))
    (subst (λ (l : List Field). AreRecordedAs (map (λ b. b.now) ys ++ x.now ∷ []) l) (sym grown) (as_more (map (λ b. b.now) ys) recorded x.now g are is))

pub recorded_new : (recorded all left next : List Field) (ys : List (Bor Field)) (x : Bor Field) (g : Field) → ∥ AreFields [] all ∥₁ → AreRecordedAs (map (λ b. b.now) ys) recorded → all ≡ map (λ b. b.now) ys ++ left → left ≡ x.now ∷ next → IsRecordedAs x.now g → stands g.name recorded ≡ false
recorded_new recorded all left next ys x g are so_far walked l is = ∥∥₁_elim are (hlevel props)
    (λ known.
    let here = new_among [] (map (λ b. b.now) ys) x.now next (subst (AreFields []) (walked ∙ ap (λ (r : List Field). map (λ b. b.now) ys ++ r) l) known) in
    called_as (lower g.name) (map (λ b. b.now) ys) recorded so_far ∙ ap (λ n. stands n (map (λ b. b.now) ys)) (same_name x.now g is) ∙ here)

pub recorded_all : (recorded all left : List Field) (ys : List (Bor Field)) → AreRecordedAs (map (λ b. b.now) ys) recorded → all ≡ map (λ b. b.now) ys ++ left → left ≡ [] → AreRecordedAs all recorded
recorded_all recorded all left ys are walked none =
    subst (λ (l : List Field). AreRecordedAs l recorded) (sym (walked ∙ ap (λ (r : List Field). map (λ b. b.now) ys ++ r) none ∙ append-nil (map (λ b. b.now) ys))) are

-- they can be written

line_field : (f g : Field) → IsField f → IsOnOneLine f g → IsField g
line_field f g is line =
    let of : IsOneLine (lower f.name) (value_of f) g.first = line.line in
    let printed = ap (list_all is_printed) of.written ∙ line_printed of.rules (value_of f) of.clauses of.reads in
    one_line g (subst IsName (sym line.name) is.name) (subst (λ (l : List ℕ). Lacks l 58) (sym line.name) is.no_colon) (plain_utf8 g.first printed) (plain_lacks g.first printed)
    (plain_end g.first printed (λ front e. line_end of.rules (value_of f) of.clauses of.reads front (sym of.written ∙ e)))
    (plain_start g.first printed (λ rest e. line_front of.rules (value_of f) of.clauses of.reads rest (sym of.written ∙ e)))
    (subst (λ (l : List (List ℕ)). AllByRecursion IsTrimmedMore l) (sym line.alone) tt)

recorded_field : (f g : Field) → IsField f → IsRecordedAs f g → IsField g
recorded_field f g is so = elim so [ inl line ↦ line_field f g is line | inr stays ↦ subst IsField (sym stays.same) is ]

recorded_fields_are : (before fs gs : List Field) → AreFields before fs → AreRecordedAs fs gs → AreFields before gs
recorded_fields_are before [] gs are so = subst (AreFields before) (sym so) tt
recorded_fields_are before (f ∷ fs) [] are so = absurd so
recorded_fields_are before (f ∷ fs) (g ∷ gs) are so = (
  recorded_field f g are.0 so.0,
  ap (λ n. stands n before) (same_name f g so.0) ∙ are.1,
  same_before (before ++ f ∷ []) (before ++ g ∷ []) gs (λ text. same_last text before) (recorded_fields_are (before ++ f ∷ []) fs gs are.2 so.1),
)
  where
    same_last : (text : List ℕ) (xs : List Field) → is_called text (xs ++ f ∷ []) ≡ is_called text (xs ++ g ∷ [])
    same_last text [] = ap (λ n. bytes_eq (lower n) text || false) (sym (same_name f g so.0))
    same_last text (x ∷ xs) = ap (λ b. bytes_eq (lower x.name) text || b) (same_last text xs)

-- and read

of_relation : (relation : RelationField) → rules_called (relation_key relation) ≡ Some (field_rules relation)
of_relation Depends = refl
of_relation PreDepends = refl
of_relation Breaks = refl
of_relation Conflicts = refl
of_relation Provides = refl
of_relation Replaces = refl

same_some : (a b : Rules) → Some a ≡ Some b → a ≡ b
same_some a b e = cc e

none_is_some : (a : Rules) → (None ≡ Some a) → ⊥
none_is_some a e = cc e

line_readable : (f g : Field) → IsOnOneLine f g → IsReadableControl g
line_readable f g line =
    let of : IsOneLine (lower f.name) (value_of f) g.first = line.line in
    let key : lower g.name ≡ lower f.name = ap lower line.name in
    let value : value_of g ≡ print_clauses of.clauses = ap (λ (l : List (List ℕ)). g.first ++ flat_map (λ line. 10 ∷ line) l) line.alone ∙ append-nil g.first ∙ of.written in
    control_readable g
    (λ e. absurd (none_is_some of.rules (sym (ap rules_called (sym key ∙ e)) ∙ of.called)))
    (λ relation e.
    let same : field_rules relation ≡ of.rules = same_some (field_rules relation) of.rules (sym (of_relation relation) ∙ sym (ap rules_called (sym key ∙ e)) ∙ of.called) in
    (of.clauses, subst (λ (r : Rules). Reads r (value_of g) of.clauses) (sym same) (subst (λ (t : List ℕ). Reads of.rules t of.clauses) (sym value) (line_reads of.rules (value_of f) of.clauses of.reads))))

as_readable : (f g : Field) → IsReadableControl f → IsRecordedAs f g → IsReadableControl g
as_readable f g is so = elim so [ inl line ↦ line_readable f g line | inr stays ↦ subst IsReadableControl (sym stays.same) is ]

-- a field that is none of a record's own, which can be read
abbrev IsOther : Field → Type 0
IsOther f = (is_one_of own_names f ≡ false) × IsReadableControl f

all_as : (fs gs : List Field) → AllByRecursion IsOther fs → AreRecordedAs fs gs → AllByRecursion IsOther gs
all_as [] gs all so = subst (AllByRecursion IsOther) (sym so) tt
all_as (f ∷ fs) [] all so = absurd so
all_as (f ∷ fs) (g ∷ gs) all so = ((ap (λ n. list_any (bytes_eq (lower n)) own_names) (same_name f g so.0) ∙ all.0.0, as_readable f g all.0.1 so.0), all_as fs gs all.1 so.1)

all_recorded : (fs : List Field) → AllByRecursion IsReadableControl fs → AllByRecursion IsOther (filter is_recorded fs)
all_recorded [] all = tt
all_recorded (f ∷ fs) all = by (is_recorded f) refl (all_recorded fs all.1)
  where
    by : (b : Bool) → is_recorded f ≡ b → AllByRecursion IsOther (filter is_recorded fs) → AllByRecursion IsOther (cond b (f ∷ filter is_recorded fs) (filter is_recorded fs))
    by true e rest = (((or_parts (is_one_of own_names f) (is_left_out f) (not-true (is_one_of own_names f || is_left_out f) e)).0, all.0), rest)
    by false e rest = rest

each_of : (P Q : Field → Type 0) (fs : List Field) → ((f : Field) → P f → Q f) → AllByRecursion P fs → AllByRecursion Q fs
each_of P Q [] so all = tt
each_of P Q (f ∷ fs) so all = (so f all.0, each_of P Q fs so all.1)

-- what a record has of a control file can be written, and read again
pub writable_of : (name other : List ℕ) (fields control : List Field) → name ≡ other → is_package_name other ≡ true → AreFieldsOf control fields → ∥ AreFields [] control ∥₁ → ∥ AllByRecursion IsReadableControl control ∥₁ → ∥ IsWritable name fields ∥₁
writable_of name other fields control is named so are readable = ∥∥₁_elim are (hlevel props) (λ known. ∥∥₁_map readable (λ all.
    let kept = filter is_recorded control in
    let others = all_as (in_dpkgs_order kept) fields (all_in_order IsOther kept (all_recorded control all)) so in
    record {
      named = ap is_package_name is ∙ named;
      written = recorded_fields_are [] (in_dpkgs_order kept) fields (fields_in_order kept (left_over is_recorded [] (λ f kept. refl) [] control known)) so;
      others = each_of IsOther (λ f. is_one_of own_names f ≡ false) fields (λ f other. other.0) others;
      readable = each_of IsOther IsReadable fields (λ f other. subst (λ k. IsReadableAs k f) (sym (other_kind (lower f.name) other.0)) other.1) others;
    }))
