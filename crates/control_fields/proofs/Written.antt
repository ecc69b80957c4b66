-- What is read has a written form.
use Rattle.std.proofs.Common.{◌≡◌, ◌≢◌, ◌<◌, ◌≤◌, ◌+◌, ℕ, suc, Bool, true, false, cond, List, [], ◌∷◌, ◌++◌, length, get_or, refl, sym, ap, subst, ◌∙◌, append_assoc, inl, inr, arith}
use Rattle.std.specs.Prelude.{nat_eq}
use Rattle.std.specs.Str.{IsUtf8, IsAscii}
use Rattle.std.specs.List.{AllByRecursion, onto_first}
use Rattle.std.proofs.lemmas.Bool.{eqb-false}
use Rattle.std.proofs.lemmas.List.{append-nil, map-append, length-append}
use Rattle.std.proofs.lemmas.Str.{IsUtf8-append, IsUtf8-from_ascii, IsAscii-append}
use Rattle.std.proofs.lemmas.Str.Ascii.{IsAscii-nil, IsAscii-cons}
use Rattle.control_fields.specs.Names.{Lacks, is_blank, keep_before, trim_end, trim_start, ended, ended_first, settled, settled_last, IsName, stands, with_line}
use Rattle.control_fields.specs.Grammar.{Reading, start, closed, with_last, field_of, lines_of, paragraphs_of, Takes, Run, Reads}
use Rattle.control_fields.specs.Faults.{BeginsBlank}
use Rattle.control_fields.specs.Spelling.{has_no_blank, spell_first, IsMore, IsField, AreFields, IsParagraph}
use Rattle.control_fields.specs.declared.field.Field.{Field}
use Rattle.control_fields.specs.declared.located.Located.{Located}
use Rattle.control_fields.proofs.Cases.{begins}
use Rattle.control_fields.proofs.Trims.{blanks_are_ascii, utf8_front, utf8_rest, lacks_front, lacks_rest, lacks_cons, lacks_append, end_parts, trim_end_again, start_parts, trim_start_again}
use Rattle.control_fields.proofs.Settled.{same_field, settled_again, stands_settled}

-- fields of one line

name_is_ascii : (name : List ℕ) → IsName name → IsAscii name
name_is_ascii name is = λ i. by i
  where
    past : (bs : List ℕ) → ((i : ℕ) → i < length bs → get_or bs i 0 < 127) → IsAscii bs
    past [] h = IsAscii-nil
    past (b ∷ bs) h = IsAscii-cons b bs (let k = h 0 (omega arith) in omega arith) (past bs (λ i lt. h (suc i) (omega arith)))

    by : IsAscii name
    by = past name (λ i lt. (is.3 i lt).1)

name_utf8 : (name : List ℕ) → IsName name → IsUtf8 name
name_utf8 name is = IsUtf8-from_ascii name (name_is_ascii name is)

name_lacks : (name : List ℕ) → IsName name → Lacks name 10
name_lacks name is = λ i lt e. let k = (is.3 i lt).0 in omega arith

blank_utf8 : (v : List ℕ) → IsUtf8 v → IsUtf8 (58 ∷ 32 ∷ v)
blank_utf8 v is = IsUtf8-append (58 ∷ 32 ∷ []) v (IsUtf8-from_ascii (58 ∷ 32 ∷ []) (IsAscii-cons 58 (32 ∷ []) (omega arith) (IsAscii-cons 32 [] (omega arith) IsAscii-nil))) is

colon_utf8 : (name v : List ℕ) → IsUtf8 v → IsUtf8 (58 ∷ spell_first name v)
colon_utf8 name [] is = by (has_no_blank name [])
  where
    by : (b : Bool) → IsUtf8 (58 ∷ cond b [] (32 ∷ []))
    by true = IsUtf8-from_ascii (58 ∷ []) (IsAscii-cons 58 [] (omega arith) IsAscii-nil)
    by false = blank_utf8 [] is
colon_utf8 name (b ∷ bs) is = blank_utf8 (b ∷ bs) is

blank_lacks : (v : List ℕ) → Lacks v 10 → Lacks (58 ∷ 32 ∷ v) 10
blank_lacks v h = lacks_cons 58 (32 ∷ v) 10 (λ e. omega arith) (lacks_cons 32 v 10 (λ e. omega arith) h)

colon_lacks : (name v : List ℕ) → Lacks v 10 → Lacks (58 ∷ spell_first name v) 10
colon_lacks name [] h = by (has_no_blank name [])
  where
    by : (b : Bool) → Lacks (58 ∷ cond b [] (32 ∷ [])) 10
    by true = lacks_cons 58 [] 10 (λ e. omega arith) h
    by false = blank_lacks [] h
colon_lacks name (b ∷ bs) h = blank_lacks (b ∷ bs) h

-- a line that goes on with a field, with no blanks at its end
pub record IsTrimmedMore (l : List ℕ) : Type 0 where
  pub utf8 : IsUtf8 l
  pub one_line : Lacks l 10
  pub trimmed : trim_end l ≡ l
  pub blank : BeginsBlank l

-- such lines go on with a field, and their last one has ended
pub trimmed_more : (ls : List (List ℕ)) → AllByRecursion IsTrimmedMore ls → AllByRecursion IsMore ls × (ended ls ≡ ls)
trimmed_more [] all = (tt, refl)
trimmed_more (l ∷ []) all = let is = all.0 in ((record { utf8 = is.utf8; one_line = is.one_line; blank = subst BeginsBlank (sym is.trimmed) is.blank }, tt), ap (λ (t : List ℕ). t ∷ []) is.trimmed)
trimmed_more (l ∷ m ∷ ls) all =
    let is = all.0 in
    let rest = trimmed_more (m ∷ ls) all.1 in
    ((record { utf8 = is.utf8; one_line = is.one_line; blank = subst BeginsBlank (sym is.trimmed) is.blank }, rest.0), ap (λ (t : List (List ℕ)). l ∷ t) rest.1)

-- a field whose value may go on, with blanks at its end
pub record IsOpen (f : Field) : Type 0 where
  pub name : IsName f.name
  pub no_colon : Lacks f.name 58
  pub utf8 : IsUtf8 f.first
  pub one_line : Lacks f.first 10
  pub start_trimmed : trim_start f.first ≡ f.first
  pub more : AllByRecursion IsMore f.more

ended_field : (f : Field) → IsOpen f → settled f ≡ f → IsField f
ended_field f is whole = record {
  name = is.name;
  no_colon = is.no_colon;
  utf8 = IsUtf8-append f.name (58 ∷ spell_first f.name f.first) (name_utf8 f.name is.name) (colon_utf8 f.name f.first is.utf8);
  one_line = lacks_append f.name (58 ∷ spell_first f.name f.first) 10 (name_lacks f.name is.name) (colon_lacks f.name f.first is.one_line);
  start_trimmed = is.start_trimmed;
  more = is.more;
  ended = whole;
}

first_whole : (first : List ℕ) (ls : List (List ℕ)) → trim_end first ≡ first → ended_first first ls ≡ first
first_whole first [] e = e
first_whole first (l ∷ ls) e = refl

-- a name, a trimmed value of one line and trimmed lines that go on with it make a field that has a written form
pub one_line : (f : Field) → IsName f.name → Lacks f.name 58 → IsUtf8 f.first → Lacks f.first 10 → trim_end f.first ≡ f.first → trim_start f.first ≡ f.first → AllByRecursion IsTrimmedMore f.more → IsField f
one_line f name no_colon utf8 line ending beginning more =
    let whole = trimmed_more f.more more in
    ended_field f (record { name = name; no_colon = no_colon; utf8 = utf8; one_line = line; start_trimmed = beginning; more = whole.0 })
    (same_field f.name (ended_first f.first f.more) f.first (ended f.more) f.more (first_whole f.first f.more ending) whole.1)

-- a field line makes one that may go on
read_field : (text name value : List ℕ) → text ≡ name ++ 58 ∷ value → Lacks name 58 → IsName name → IsUtf8 text → Lacks text 10 → IsOpen (field_of name value)
read_field text name value parts first good utf8 line =
    let s = start_parts value in
    let v = trim_start value in
    let front : List ℕ = name ++ 58 ∷ s.0 in
    let split : text ≡ front ++ v = parts ∙ ap (λ (l : List ℕ). name ++ 58 ∷ l) s.1 ∙ sym (append_assoc name (58 ∷ s.0) v) in
    let ascii : IsAscii front = IsAscii-append name (58 ∷ s.0) (name_is_ascii name good) (IsAscii-cons 58 s.0 (omega arith) (blanks_are_ascii s.0 s.2)) in
    record {
      name = good;
      no_colon = first;
      utf8 = utf8_rest front v (subst IsUtf8 split utf8) (IsUtf8-from_ascii front ascii);
      one_line = lacks_rest front v 10 (subst (λ (l : List ℕ). Lacks l 10) split line);
      start_trimmed = trim_start_again value;
      more = tt;
    }

-- a line without the blanks at its end

ended_utf8 : (l : List ℕ) → IsUtf8 l → IsUtf8 (trim_end l)
ended_utf8 l is = let e = end_parts l in utf8_front (trim_end l) e.0 (subst IsUtf8 e.1 is) (IsUtf8-from_ascii e.0 (blanks_are_ascii e.0 e.2))

ended_lacks : (l : List ℕ) → Lacks l 10 → Lacks (trim_end l) 10
ended_lacks l h = let e = end_parts l in lacks_front (trim_end l) e.0 10 (subst (λ (t : List ℕ). Lacks t 10) e.1 h)

-- a value that has ended

long_start : (bs : List ℕ) → length (trim_start bs) ≤ length bs
long_start bs = let s = start_parts bs in let whole : length bs ≡ length (s.0 ++ trim_start bs) = ap length s.1 in omega (arith, whole, length-append s.0 (trim_start bs))

shorter : (b : ℕ) (bs : List ℕ) → trim_start bs ≡ b ∷ bs → ⊥
shorter b bs e = let h = long_start bs in let k : length (trim_start bs) ≡ length (b ∷ bs) = ap length e in omega (arith, h, k)

start_by : (b : ℕ) (bs : List ℕ) (x : Bool) → is_blank b ≡ x → trim_start (b ∷ bs) ≡ b ∷ bs → trim_start (keep_before b (trim_end bs)) ≡ keep_before b (trim_end bs)
start_by b bs true e same = absurd (let k : cond true (trim_start bs) (b ∷ bs) ≡ b ∷ bs = ap (λ y. cond y (trim_start bs) (b ∷ bs)) (sym e) ∙ same in shorter b bs k)
start_by b bs false e same = kept (trim_end bs)
  where
    stays : (t : List ℕ) → trim_start (b ∷ t) ≡ b ∷ t
    stays t = ap (λ y. cond y (trim_start t) (b ∷ t)) e

    kept : (t : List ℕ) → trim_start (keep_before b t) ≡ keep_before b t
    kept [] = ap (λ y. trim_start (cond y [] (b ∷ []))) e ∙ stays [] ∙ ap (λ y. cond y [] (b ∷ [])) (sym e)
    kept (c ∷ cs) = stays (c ∷ cs)

-- what begins with no blank begins so without the blanks at its end
start_ended : (bs : List ℕ) → trim_start bs ≡ bs → trim_start (trim_end bs) ≡ trim_end bs
start_ended [] e = refl
start_ended (b ∷ bs) e = start_by b bs (is_blank b) refl e

ended_line : (l : List ℕ) → IsMore l → IsMore (trim_end l)
ended_line l is = record { utf8 = ended_utf8 l is.utf8; one_line = ended_lacks l is.one_line; blank = subst BeginsBlank (sym (trim_end_again l)) is.blank }

ended_lines : (ls : List (List ℕ)) → AllByRecursion IsMore ls → AllByRecursion IsMore (ended ls)
ended_lines [] all = tt
ended_lines (l ∷ []) all = (ended_line l all.0, tt)
ended_lines (l ∷ m ∷ ls) all = (all.0, ended_lines (m ∷ ls) all.1)

settled_open : (f : Field) → IsOpen f → IsOpen (settled f)
settled_open f is = by f.more is.more
  where
    by : (ls : List (List ℕ)) → AllByRecursion IsMore ls → IsOpen (let g : Field = record { name = f.name; first = ended_first f.first ls; more = ended ls } in g)
    by [] all = record { name = is.name; no_colon = is.no_colon; utf8 = ended_utf8 f.first is.utf8; one_line = ended_lacks f.first is.one_line; start_trimmed = start_ended f.first is.start_trimmed; more = tt }
    by (l ∷ ls) all = record { name = is.name; no_colon = is.no_colon; utf8 = is.utf8; one_line = is.one_line; start_trimmed = is.start_trimmed; more = ended_lines (l ∷ ls) all }

settled_field : (f : Field) → IsOpen f → IsField (settled f)
settled_field f is = ended_field (settled f) (settled_open f is) (settled_again f)

-- fields after others

pub add_field : (before fs : List Field) (f : Field) → AreFields before fs → IsField f → stands f.name (before ++ fs) ≡ false → AreFields before (fs ++ f ∷ [])
add_field before [] f are is new = (is, subst (λ (l : List Field). stands f.name l ≡ false) (append-nil before) new, tt)
add_field before (g ∷ fs) f are is new = (are.0, are.1, add_field (before ++ g ∷ []) fs f are.2 is (subst (λ (l : List Field). stands f.name l ≡ false) (sym (append_assoc before (g ∷ []) fs)) new))

pub add_all : {X : Type 0} (P : X → Type 0) (xs : List X) (x : X) → AllByRecursion P xs → P x → AllByRecursion P (xs ++ x ∷ [])
add_all P [] x all is = (is, tt)
add_all P (y ∷ xs) x all is = (all.0, add_all P xs x all.1 is)

-- fields after others, the last of which may go on
abbrev pub AreOpen : List Field → List Field → Type 0
AreOpen before [] = Unit {0}
AreOpen before (f ∷ []) = IsOpen f × (stands f.name before ≡ false)
AreOpen before (f ∷ g ∷ fs) = IsField f × (stands f.name before ≡ false) × AreOpen (before ++ f ∷ []) (g ∷ fs)

settled_fields : (before fs : List Field) → AreOpen before fs → AreFields before (settled_last fs)
settled_fields before [] are = tt
settled_fields before (f ∷ []) are = (settled_field f are.0, are.1, tt)
settled_fields before (f ∷ g ∷ fs) are = (are.0, are.1, settled_fields (before ++ f ∷ []) (g ∷ fs) are.2)

add_open : (before fs : List Field) (f : Field) → AreFields before fs → IsOpen f → stands f.name (before ++ fs) ≡ false → AreOpen before (fs ++ f ∷ [])
add_open before [] f are is new = (is, subst (λ (l : List Field). stands f.name l ≡ false) (append-nil before) new)
add_open before (g ∷ []) f are is new = (are.0, are.1, add_open (before ++ g ∷ []) [] f are.2 is (subst (λ (l : List Field). stands f.name l ≡ false) (sym (append_assoc before (g ∷ []) [])) new))
add_open before (g ∷ h ∷ fs) f are is new = (are.0, are.1, add_open (before ++ g ∷ []) (h ∷ fs) f are.2 is (subst (λ (l : List Field). stands f.name l ≡ false) (sym (append_assoc before (g ∷ []) (h ∷ fs))) new))

add_line : (before front : List Field) (last : Field) (l : List ℕ) → AreOpen before (front ++ last ∷ []) → IsMore l → AreOpen before (front ++ with_line last l ∷ [])
add_line before [] last l are is =
    let old = are.0 in
    (record { name = old.name; no_colon = old.no_colon; utf8 = old.utf8; one_line = old.one_line; start_trimmed = old.start_trimmed; more = add_all IsMore last.more l old.more is }, are.1)
add_line before (g ∷ []) last l are is = (are.0, are.1, add_line (before ++ g ∷ []) [] last l are.2 is)
add_line before (g ∷ h ∷ front) last l are is = (are.0, are.1, add_line (before ++ g ∷ []) (h ∷ front) last l are.2 is)

-- all that was read so far has a written form, where the last field ends
abbrev pub IsWritten : Reading → Type 0
IsWritten s = AllByRecursion IsParagraph (paragraphs_of s.done) × AreOpen [] s.begun.paragraph

closed_parts : (d : List Located) (j : ℕ) (p : List Field) → AllByRecursion IsParagraph (paragraphs_of d) → AreOpen [] p → AllByRecursion IsParagraph (paragraphs_of (with_last d (record { line = j; paragraph = p })))
closed_parts d j [] all are = all
closed_parts d j (f ∷ p) all are =
    let last : Located = record { line = j; paragraph = settled_last (f ∷ p) } in
    subst (λ (l : List (List Field)). AllByRecursion IsParagraph l) (sym (map-append (λ (l : Located). l.paragraph) d (last ∷ [])))
    (add_all IsParagraph (paragraphs_of d) (settled_last (f ∷ p)) all (record { some = some_settled f p; are = settled_fields [] (f ∷ p) are }))
  where
    some_settled : (g : Field) (fs : List Field) → settled_last (g ∷ fs) ≡ [] → ⊥
    some_settled g [] e = cc e
    some_settled g (h ∷ fs) e = cc e

pub closed_written : (s : Reading) → IsWritten s → AllByRecursion IsParagraph (paragraphs_of (closed s))
closed_written s is = closed_parts s.done s.begun.line s.begun.paragraph is.0 is.1

takes_written : (n : ℕ) (l : List ℕ) (s t : Reading) → Lacks l 10 → Takes n l s t → IsWritten s → IsWritten t
takes_written n l s t line takes is = elim takes.1 [
  | inl k ↦ subst IsWritten (sym k.to) (closed_written s is, tt)
  | inr (inl k) ↦ subst IsWritten (sym k.to) (
    is.0,
    add_line [] k.front k.last l (subst (AreOpen []) k.now is.1) (record { utf8 = takes.0; one_line = line; blank = begins (trim_end l) k.begin k.rest k.is k.blank }),
  )
  | inr (inr k) ↦ subst IsWritten (sym k.to) (
    is.0,
    add_open [] (settled_last s.begun.paragraph) (field_of k.name k.value) (settled_fields [] s.begun.paragraph is.1)
        (read_field l k.name k.value k.cut.parts k.cut.first k.good takes.0 line) (stands_settled k.name s.begun.paragraph ∙ k.new),
  )
]

abbrev pub AreLines : List (List ℕ) → Type 0
AreLines ls = AllByRecursion (λ l. Lacks l 10) ls

pub run_written : (n : ℕ) (ls : List (List ℕ)) (s t : Reading) → AreLines ls → Run n ls s t → IsWritten s → IsWritten t
run_written n [] s t all run is = subst IsWritten (sym run) is
run_written n (l ∷ ls) s t all run is = run_written (n + 1) ls run.0 t all.1 run.2 (takes_written n l s run.0 all.0 run.1 is)

onto_line : (x : ℕ) (ls : List (List ℕ)) → x ≢ 10 → AreLines ls → AreLines (onto_first x ls)
onto_line x [] ne all = (lacks_cons x [] 10 ne (λ i lt e. omega (arith, lt)), tt)
onto_line x (l ∷ ls) ne all = (lacks_cons x l 10 ne all.0, all.1)

lines_by : (x : ℕ) (ls : List (List ℕ)) (y : Bool) → nat_eq x 10 ≡ y → AreLines ls → AreLines (cond (nat_eq x 10) ([] ∷ ls) (onto_first x ls))
lines_by x ls true e all = subst (λ z. AreLines (cond z ([] ∷ ls) (onto_first x ls))) (sym e) ((λ i lt h. omega (arith, lt)), all)
lines_by x ls false e all = subst (λ z. AreLines (cond z ([] ∷ ls) (onto_first x ls))) (sym e) (onto_line x ls (eqb-false x 10 e) all)

pub lines_are : (bytes : List ℕ) → AreLines (lines_of bytes)
lines_are [] = ((λ i lt e. omega (arith, lt)), tt)
lines_are (x ∷ bytes) = lines_by x (lines_of bytes) (nat_eq x 10) refl (lines_are bytes)

pub writable : (bytes : List ℕ) (ps : List (List Field)) → Reads (lines_of bytes) ps → AllByRecursion IsParagraph ps
writable bytes ps reads =
    subst (λ (l : List (List Field)). AllByRecursion IsParagraph l) (sym reads.2)
    (closed_written reads.0 (run_written 1 (lines_of bytes) start reads.0 (lines_are bytes) reads.1 (tt, tt)))
