-- A status file with its notes stands for one table, and then none of its lines is faulty.
use Rattle.std.proofs.Common.{◌≡◌, ◌<◌, inl, inr, zero, suc, arith, ℕ, List, [], ◌∷◌, ◌++◌, Option, Some, None, is_some, Bool, true, refl, sym, ap, subst, ◌∙◌, codes}
use Rattle.std.specs.List.{AllByRecursion, list_any}
use Rattle.std.specs.Option.{option_to_list}
use Rattle.std.specs.Str.{bytes_eq}
use Rattle.std.proofs.Props.{props}
use Rattle.std.proofs.Math.Logic.{∥∥₁_elim}
use Rattle.std.proofs.lemmas.Bool.{true≢false}
use Rattle.std.proofs.lemmas.List.{map-append}
use Rattle.host_core.specs.World.{World}
use Rattle.host_core.specs.declared.node.Node.{Node}
use Rattle.host_core.specs.declared.node.Node.TheVariants.{File, Dir, Link}
use Rattle.administration.specs.Places.{status_path}
use Rattle.control_fields.specs.Grammar.{lines_of, paragraphs_of}
use Rattle.control_fields.specs.Faults.{IsReadTo}
use Rattle.control_fields.specs.declared.field.Field.{Field}
use Rattle.control_fields.specs.declared.located.Located.{Located}
use Rattle.control_fields.specs.declared.fault.ControlFault.{ControlFault}
use Rattle.control_fields.proofs.Once.{reads_once, not_stuck}
use Rattle.status_records.specs.declared.record.Record.{Record}
use Rattle.status_records.specs.Records.{record_in, standing}
use Rattle.status_records.specs.Paragraphs.{field_in, record_word, Says, IsGone, IsRecordOf, SaysEntry, IsEntry, Enters}
use Rattle.status_records.specs.Words.{agrees, disagrees, is_not_installed, state_of}
use Rattle.status_records.specs.declared.words.StateWord.{StateWord}
use Rattle.status_records.specs.declared.words.StateWord.TheVariants.{NotInstalled}
use Rattle.status_records.specs.Damage.{AreAmiss, IsMissing, IsFaultyEntry, IsFaultOf, IsFirstFault}
use Rattle.status_db.specs.Held.{HasRecords, Holds}
use Rattle.status_db.specs.NoteDamage.{AreNotesFine, AreNotesDamaged, AreRecordsDamaged, IsFaultyNote, IsFaultyNumber, IsFaultyRest, IsFineNumber, IsNoteDamage}
use Rattle.status_db.specs.Notes.{IsNote, IsNoteAt, Lookup, Note, entered, limit, note_path, with_notes}
use Rattle.status_records.specs.Status.{IsStatus, IsStatusAt, IsDamageAt}
use Rattle.status_db.proofs.Ordered.{one_table}
use Rattle.status_records.proofs.Parsing.{gone_state}
use Rattle.status_records.proofs.Missing.{some_line}
use Rattle.status_records.proofs.SameRecords.{off_by, record_once, state_from_word, status_once}
use Rattle.status_records.proofs.Sayings.{says_same}

-- what holds of all holds of one

at_front : {X : Type 0} (P : X → Type 0) (front rest : List X) (x : X) → AllByRecursion P (front ++ x ∷ rest) → P x
at_front P [] rest x all = all.0
at_front P (y ∷ front) rest x all = at_front P front rest x all.1

pub all_at : {X : Type 0} (P : X → Type 0) (xs front rest : List X) (x : X) → xs ≡ front ++ x ∷ rest → AllByRecursion P xs → P x
all_at P xs front rest x is all = at_front P front rest x (subst (AllByRecursion P) is all)

not_empty : {X : Type 0} (front rest : List X) (x : X) → [] ≡ front ++ x ∷ rest → ⊥
not_empty [] rest x e = cc e
not_empty (y ∷ front) rest x e = cc e

-- one paragraph says one name, and one record or none

name_once : (fields : List Field) (a b : List ℕ) (k l : List Record) → SaysEntry fields a k → SaysEntry fields b l → a ≡ b
name_once fields a b k l first second = says_same (codes "package") fields a b first.named.0 second.named.0

gone_or_not : (fields : List Field) (r : Record) → IsGone fields → IsRecordOf fields r → ⊥
gone_or_not fields r gone is =
    true≢false (sym (gone_state r.want gone.0 r.flag gone.1 (record_word r) (says_same (codes "status") fields _ _ is.status gone.2)) ∙ ap is_not_installed (state_from_word r) ∙ is.stands)

kept_once : (fields : List Field) (a b : List ℕ) (k l : List Record) → SaysEntry fields a k → SaysEntry fields b l → k ≡ l
kept_once fields a b k l first second = elim first.stands_for [
  | inl gone ↦ elim second.stands_for [ inl also ↦ gone.1 ∙ sym also.1 | inr s ↦ absurd (gone_or_not fields s.0 gone.0 s.1) ]
  | inr r ↦ elim second.stands_for [
    | inl also ↦ absurd (gone_or_not fields r.0 also.0 r.1)
    | inr s ↦ r.2 ∙ ap (λ (x : Record). x ∷ []) (record_once fields r.0 s.0 r.1 s.1) ∙ sym s.2
  ]
]

enters_once : (ps : List (List Field)) (n m a b : List (List ℕ)) (q r s t : List Record) → q ≡ r → Enters n q ps a s → Enters m r ps b t → s ≡ t
enters_once [] n m a b q r s t same first second = first.1 ∙ same ∙ sym second.1
enters_once (p ∷ ps) n m a b q r s t same first second =
    enters_once ps (n ++ first.0 ∷ []) (m ++ second.0 ∷ []) a b (q ++ first.1) (r ++ second.1) s t
    (ap (λ (l : List Record). l ++ first.1) same ∙ ap (λ (l : List Record). r ++ l) (kept_once p first.0 second.0 first.1 second.1 first.2.says second.2.says)) first.3 second.3

-- a paragraph of a table, behind those before it
entry_at : (front rest : List (List Field)) (p : List Field) (n a b : List (List ℕ)) (q r s t : List Record) → Enters n q (front ++ p ∷ rest) a s → Enters n r front b t → (name : List ℕ) × (kept : List Record) × IsEntry b p name kept
entry_at [] rest p n a b q r s t whole before = (whole.0, whole.1, subst (λ (l : List (List ℕ)). IsEntry l p whole.0 whole.1) (sym before.0) whole.2)
entry_at (f ∷ front) rest p n a b q r s t whole before =
    entry_at front rest p (n ++ before.0 ∷ []) a b (q ++ whole.1) (r ++ before.1) s t
    (subst (λ (x : List ℕ). Enters (n ++ x ∷ []) (q ++ whole.1) (front ++ p ∷ rest) a s) (name_once f whole.0 before.0 whole.1 before.1 whole.2.says before.2.says) whole.3)
    before.3

-- a paragraph of a table isn't faulty

said : (text : List ℕ) (fields : List Field) (value : List ℕ) → Says text fields value → field_in text fields ≡ None → ⊥
said text fields value says none = let e : Some says.field ≡ None = sym says.there ∙ none in cc e

not_missing : (fields : List Field) (name : List ℕ) (kept : List Record) → SaysEntry fields name kept → IsMissing fields → ⊥
not_missing fields name kept says (inl unnamed) = said (codes "package") fields name says.named.0 unnamed
not_missing fields name kept says (inr (inl status)) = elim says.stands_for [ inl gone ↦ said (codes "status") fields _ gone.0.2 status | inr r ↦ said (codes "status") fields _ r.1.status status ]
not_missing fields name kept says (inr (inr version)) = elim says.stands_for [ inl gone ↦ version.1 gone.0 | inr r ↦ said (codes "version") fields _ r.1.version version.0 ]

-- what stands beside the word of a record's state agrees with it
beside_word : (fields : List Field) (r : Record) → IsRecordOf fields r → agrees (record_word r) (is_some (field_in (codes "triggers-pending") fields)) (is_some (field_in (codes "triggers-awaited") fields)) ≡ true
beside_word fields r is =
    let pending = ap is_some is.triggers_pending ∙ some_line (field_in (codes "triggers-pending") fields) in
    let awaited = ap is_some is.triggers_awaited ∙ some_line (field_in (codes "triggers-awaited") fields) in
    sym (ap (λ (p : Bool). agrees (record_word r) p (is_some r.triggers.awaited)) pending ∙ ap (agrees (record_word r) (is_some (field_in (codes "triggers-pending") fields))) awaited) ∙ r.beside

not_amiss : (fields : List Field) (name : List ℕ) (kept : List Record) → SaysEntry fields name kept → AreAmiss fields → ⊥
not_amiss fields name kept says amiss =
    let pending = is_some (field_in (codes "triggers-pending") fields) in
    let awaited = is_some (field_in (codes "triggers-awaited") fields) in
    elim says.stands_for [
      | inl gone ↦
          let same = status_once amiss.0 gone.0.0 amiss.1 gone.0.1 amiss.2 NotInstalled (says_same (codes "status") fields _ _ amiss.3 gone.0.2) in
          true≢false (sym amiss.4 ∙ ap (λ (q : StateWord). disagrees q pending awaited) same.2)
      | inr r ↦
          let same = status_once amiss.0 r.0.want amiss.1 r.0.flag amiss.2 (record_word r.0) (says_same (codes "status") fields _ _ amiss.3 r.1.status) in
          true≢false (sym amiss.4 ∙ ap (λ (q : StateWord). disagrees q pending awaited) same.2 ∙ off_by (is_not_installed (state_of (record_word r.0))) (agrees (record_word r.0) pending awaited) (beside_word fields r.0 r.1))
    ]

not_faulty : (names : List (List ℕ)) (l : Located) (line : ℕ) (name : List ℕ) (kept : List Record) → IsEntry names l.paragraph name kept → IsFaultyEntry names l line → ⊥
not_faulty names l line name kept entry (inl whole) = elim whole.0 [
  | inl missing ↦ not_missing l.paragraph name kept entry.says missing
  | inr (inl taken) ↦ true≢false (sym taken.2 ∙ ap (λ (n : List ℕ). list_any (bytes_eq n) names) (says_same (codes "package") l.paragraph taken.0 name taken.1.0 entry.says.named.0) ∙ entry.new)
  | inr (inr amiss) ↦ not_amiss l.paragraph name kept entry.says amiss
]
not_faulty names l line name kept entry (inr field) = field.1.bad (all_at _ l.paragraph field.1.front field.1.rest field.1.field field.1.is entry.readable)

-- nor is a line of its text

not_broken : (text : List ℕ) (rs : List Record) (paragraphs : List Located) (begun : Located) (fault : Option ControlFault) (line : ℕ) → IsStatus text rs → IsReadTo (lines_of text) paragraphs begun fault → IsFaultOf paragraphs begun fault line → ⊥
not_broken text rs paragraphs begun (Some fault) line is read told = not_stuck (lines_of text) is.reads.0 read.0 fault is.reads.1 read.1
not_broken text rs paragraphs begun None line is read (inl among) =
    let parted = map-append (λ (l : Located). l.paragraph) among.front (among.faulty ∷ among.rest) in
    let same = reads_once (lines_of text) is.paragraphs (paragraphs_of paragraphs) is.reads (read.0, read.1, ap paragraphs_of read.2) ∙ ap paragraphs_of among.is ∙ parted in
    let entry = entry_at (paragraphs_of among.front) (paragraphs_of among.rest) among.faulty.paragraph [] is.names among.names [] [] (standing rs) among.records
    (subst (λ (ps : List (List Field)). Enters [] [] ps is.names (standing rs)) same is.enters) among.before in
    not_faulty among.names among.faulty line entry.0 entry.1 entry.2 among.here
not_broken text rs paragraphs begun None line is read (inr end) = elim end.1 [
  | inl field ↦ not_empty field.front field.rest field.field (sym (ap (λ (l : Located). l.paragraph) read.3) ∙ field.is)
  | inr broken ↦ let e : None ≡ Some broken.1.0 = broken.1.1 in cc e
]

whole_text : (text : List ℕ) (rs : List Record) (line : ℕ) → IsStatus text rs → IsFirstFault text line → ⊥
whole_text text rs line is fault = not_broken text rs fault.paragraphs fault.begun fault.fault line is fault.read fault.told

pub one_text : (text : List ℕ) (a b : List Record) → IsStatus text a → IsStatus text b → standing a ≡ standing b
one_text text a b first second =
    enters_once second.paragraphs [] [] first.names second.names [] [] (standing a) (standing b) refl
    (subst (λ (ps : List (List Field)). Enters [] [] ps first.names (standing a)) (reads_once (lines_of text) first.paragraphs second.paragraphs first.reads second.reads) first.enters) second.enters

-- the same of what stands at the status file's place

not_damaged : (node : Option Node) (rs : List Record) (line : ℕ) → IsStatusAt node rs → IsDamageAt node line → ⊥
not_damaged None rs line is damage = whole_text [] rs line is damage
not_damaged (Some (File bytes access)) rs line is damage = whole_text bytes rs line is damage
not_damaged (Some (Dir access)) rs line is damage = is
not_damaged (Some (Link target)) rs line is damage = is

one_status : (node : Option Node) (a b : List Record) → IsStatusAt node a → IsStatusAt node b → standing a ≡ standing b
one_status None a b first second = one_text [] a b first second
one_status (Some (File bytes access)) a b first second = one_text bytes a b first second
one_status (Some (Dir access)) a b first second = absurd first
one_status (Some (Link target)) a b first second = absurd first

-- a note's text is of one note, and none of its lines is faulty

one_entry : (a b : Option Record) → option_to_list a ≡ option_to_list b → a ≡ b
one_entry None None e = refl
one_entry None (Some s) e = absurd (cc e)
one_entry (Some r) None e = absurd (cc e)
one_entry (Some r) (Some s) e = let same : r ≡ s = cc e in ap (λ (x : Record). Some x) same

note_once : (text : List ℕ) (a b : Note) → IsNote text a → IsNote text b → a ≡ b
note_once text a b first second =
    let same : first.fields ∷ [] ≡ second.fields ∷ [] = reads_once (lines_of text) (first.fields ∷ []) (second.fields ∷ []) first.reads second.reads in
    let fields : first.fields ≡ second.fields = cc same in
    let says = subst (λ (fs : List Field). SaysEntry fs a.name (option_to_list a.entry)) fields first.entry.says in
    let name = name_once second.fields a.name b.name (option_to_list a.entry) (option_to_list b.entry) says second.entry.says in
    let entry = one_entry a.entry b.entry (kept_once second.fields a.name b.name (option_to_list a.entry) (option_to_list b.entry) says second.entry.says) in
    λ i. record { name = name i; entry = entry i }

one_note : (node : Option Node) (a b : Option Note) → IsNoteAt node a → IsNoteAt node b → a ≡ b
one_note None a b first second = first ∙ sym second
one_note (Some (File bytes access)) a b first second = first.1 ∙ ap (λ (n : Note). Some n) (note_once bytes first.0 second.0 first.2 second.2) ∙ sym second.1
one_note (Some (Dir access)) a b first second = absurd first
one_note (Some (Link target)) a b first second = absurd first

rest_not_broken : (rest : List Located) (begun : ℕ) (fields : List Field) (line : ℕ) → [] ≡ paragraphs_of rest → fields ≡ [] → IsFaultyRest rest begun fields None line → ⊥
rest_not_broken (second ∷ rest) begun fields line none empty told = let e : [] ≡ second.paragraph ∷ paragraphs_of rest = none in cc e
rest_not_broken [] begun (field ∷ fields) line none empty told = cc empty
rest_not_broken [] begun [] line none empty told = let e : None ≡ Some told.0 = told.1 in cc e

note_not_broken : (text : List ℕ) (note : Note) (paragraphs : List Located) (begun : Located) (fault : Option ControlFault) (line : ℕ) → IsNote text note → IsReadTo (lines_of text) paragraphs begun fault → IsFaultyNote paragraphs begun fault line → ⊥
note_not_broken text note paragraphs begun (Some fault) line is read told = not_stuck (lines_of text) is.reads.0 read.0 fault is.reads.1 read.1
note_not_broken text note [] begun None line is read told =
    let same : is.fields ∷ [] ≡ [] = reads_once (lines_of text) (is.fields ∷ []) [] is.reads (read.0, read.1, ap paragraphs_of read.2) in
    cc same
note_not_broken text note (first ∷ rest) begun None line is read told =
    let same : is.fields ∷ [] ≡ first.paragraph ∷ paragraphs_of rest = reads_once (lines_of text) (is.fields ∷ []) (first.paragraph ∷ paragraphs_of rest) is.reads (read.0, read.1, ap paragraphs_of read.2) in
    let here : is.fields ≡ first.paragraph = cc same in
    let none : [] ≡ paragraphs_of rest = cc same in
    elim told [
      | inl faulty ↦ not_faulty [] first line note.name (option_to_list note.entry) (subst (λ (fs : List Field). IsEntry [] fs note.name (option_to_list note.entry)) here is.entry) faulty
      | inr behind ↦ rest_not_broken rest begun.line begun.paragraph line none (ap (λ (l : Located). l.paragraph) read.3) behind.1
    ]

not_damaged_note : (node : Option Node) (note : Option Note) (line : ℕ) → IsNoteAt node note → IsNoteDamage node line → ⊥
not_damaged_note None given line is damage = damage
not_damaged_note (Some (File bytes access)) given line is damage = note_not_broken bytes is.0 damage.paragraphs damage.begun damage.fault line is.2 damage.read damage.told
not_damaged_note (Some (Dir access)) given line is damage = is
not_damaged_note (Some (Link target)) given line is damage = is

-- the status file and the notes

fine_number : (w : World) (n : ℕ) (file : List ℕ) (line : ℕ) → IsFineNumber w n → IsFaultyNumber w n file line → ⊥
fine_number w n file line fine (inl damaged) = not_damaged_note (w (note_path n)) fine.note line fine.is damaged.1
fine_number w n file line fine (inr spare) = fine.spare spare.3

notes_not_damaged : (w : World) (file : List ℕ) (line : ℕ) → AreNotesFine w → AreNotesDamaged w file line → ⊥
notes_not_damaged w file line fine (inl bad) = fine.text bad.0
notes_not_damaged w file line fine (inr first) = fine_number w first.1.number file line (fine.each first.1.number first.1.within) first.1.here

pub records_not_damaged : (w : World) (table : List Record) (file : List ℕ) (line : ℕ) → AreNotesFine w → HasRecords w table → AreRecordsDamaged w file line → ⊥
records_not_damaged w table file line fine has (inl status) = ∥∥₁_elim has (hlevel props) (λ held. not_damaged (w status_path) held.base line held.status status.1)
records_not_damaged w table file line fine has (inr noted) = notes_not_damaged w file line fine noted.1

same_notes : (a b : ℕ → Option Note) (k : ℕ) (of : Lookup) → ((n : ℕ) → n < k → a n ≡ b n) → with_notes a k of ≡ with_notes b k of
same_notes a b zero of same = refl
same_notes a b (suc k) of same = ap (λ (n : Option Note). entered n (with_notes a k of)) (same k (omega arith)) ∙ ap (entered (b k)) (same_notes a b k of (λ n lt. same n (omega (arith, lt))))

pub one_holding : (w : World) (a b : List Record) → Holds w a → Holds w b → a ≡ b
one_holding w a b first second =
    let base = one_status (w status_path) first.base second.base first.status second.status in
    let notes : (n : ℕ) → n < limit → first.notes n ≡ second.notes n = λ n lt. one_note (w (note_path n)) (first.notes n) (second.notes n) (first.noted n lt) (second.noted n lt) in
    one_table a b first.order second.order (λ q.
    first.each q
    ∙ ap (λ (rs : List Record). with_notes first.notes limit (record_in rs) q) base
    ∙ ap (λ (of : Lookup). of q) (same_notes first.notes second.notes limit (record_in (standing second.base)) notes)
    ∙ sym (second.each q))

pub one_records : (w : World) (a b : List Record) → HasRecords w a → HasRecords w b → (a ≡ b → ⊥) → ⊥
one_records w a b first second apart = ∥∥₁_elim first (hlevel props) (λ is. ∥∥₁_elim second (hlevel props) (λ also. apart (one_holding w a b is also)))
