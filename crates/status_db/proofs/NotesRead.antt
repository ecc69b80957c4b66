-- Notes that are read one after another.
use Rattle.std.proofs.Common.{◌≡◌, ◌≢◌, inl, inr, ℕ, zero, suc, ◌+◌, ◌<◌, ◌≤◌, cond, eqb, List, [], ◌∷◌, length, get_or, Option, None, Result, Ok, Err, OnOk, IfErr, IsErrAnd, refl, sym, ap, subst, ◌∙◌, arith, add-one}
use Rattle.std.proofs.Math.Logic.{∥∥₁_map}
use Rattle.std.proofs.lemmas.Bool.{cases_eq, eq-eqb, ne_eqb}
use Rattle.host_core.specs.Paths.{Path}
use Rattle.host_core.specs.World.{World, IsDirectory}
use Rattle.host_core.specs.declared.node.Node.{Node}
use Rattle.administration.specs.Places.{status_path, temporary, updates_path}
use Rattle.administration.specs.Directories.{HasBadName}
use Rattle.administration.specs.Files.{NoDirectory}
use Rattle.administration.specs.declared.fault.AdministrationFault.{AdministrationFault}
use Rattle.administration.specs.declared.fault.AdministrationFault.TheVariants.{Damaged, Device, NoMemory, Declined}
use Rattle.administration.proofs.WholeFiles.{no_directory_none, no_directory_at}
use Rattle.status_records.specs.declared.record.Record.{Record}
use Rattle.status_db.specs.NoteDamage.{AreNotesFine, IsFineNumber, IsNoteDamage, IsRecordsDamage}
use Rattle.status_db.specs.NoteReading.{AreNumbersTaken, IsFileDamage, IsNameDamage, IsNotesDamage, IsNumberDamage, IsNumberTaken, IsNumbersDamage, IsSpareDamage}
use Rattle.status_db.specs.Notes.{IsNoteAt, IsNoteTaken, Note, entered, limit, limit_is, note_path, with_notes, within_limit}
use Rattle.status_db.specs.Order.{AreInOrder}
use Rattle.status_records.specs.Records.{record_in, standing}
use Rattle.status_records.specs.Status.{IsStatus, IsStatusAt, IsStatusDamage}
use Rattle.status_db.specs.Held.{HasRecords, HasSame, Holds, IsFree, IsTableOf, IsTableOfText}
use Rattle.status_db.proofs.Readings.{same_below}

pub taken_start : (w : World) (before : List Record) → AreNumbersTaken w 0 0 before before
taken_start w before = record {
  notes = λ n. None;
  are = λ n lt. absurd (omega (arith, lt));
  spares = λ n lt. absurd (omega (arith, lt));
  each = λ name. refl;
  free = λ n le lt. absurd (omega (arith, lt));
  within = omega arith;
}

module _ (w : World) (k : ℕ) (before mid after : List Record) (count : ℕ) where
  -- the notes so far with one more
  abbrev grown : (ℕ → Option Note) → Option Note → ℕ → Option Note
  grown notes note n = cond (eqb n k) note (notes n)

  at_last : (notes : ℕ → Option Note) (note : Option Note) (n : ℕ) → n ≡ k → grown notes note n ≡ note
  at_last notes note n e = ap (λ b. cond b note (notes n)) (eq-eqb n k e)

  at_other : (notes : ℕ → Option Note) (note : Option Note) (n : ℕ) → n ≢ k → grown notes note n ≡ notes n
  at_other notes note n ne = ap (λ b. cond b note (notes n)) (ne_eqb n k ne)

  takes : (c : ℕ) (so_far : AreNumbersTaken w count k before mid) → (note : Option Note) → IsNoteAt (w (note_path k)) note → NoDirectory (w (temporary (note_path k))) → ((name : List ℕ) → record_in after name ≡ entered note (record_in mid) name)
      → c ≤ suc k → ((n : ℕ) → c ≤ n → n < suc k → w (note_path n) ≡ None) → AreNumbersTaken w c (suc k) before after
  takes c so_far note is spare each le free = record {
    notes = grown so_far.notes note;
    are = λ n lt. elim (cases_eq n k) [
      | inl e ↦ subst (λ (o : Option Note). IsNoteAt (w (note_path n)) o) (sym (at_last so_far.notes note n e)) (subst (λ (m : ℕ). IsNoteAt (w (note_path m)) note) (sym e) is)
      | inr ne ↦ subst (λ (o : Option Note). IsNoteAt (w (note_path n)) o) (sym (at_other so_far.notes note n ne)) (so_far.are n (omega (arith, lt, ne)))
    ];
    spares = λ n lt. elim (cases_eq n k) [
      | inl e ↦ subst (λ (m : ℕ). NoDirectory (w (temporary (note_path m)))) (sym e) spare
      | inr ne ↦ so_far.spares n (omega (arith, lt, ne))
    ];
    each = λ name. each name ∙ (λ i. entered note (λ q. so_far.each q i) name)
        ∙ (λ i. entered (sym (at_last so_far.notes note k refl) i) (sym (same_below so_far.notes (grown so_far.notes note) k (λ n lt. at_other so_far.notes note n (λ e. absurd (omega (arith, lt, e)))) (record_in before)) i) name);
    free = free;
    within = le;
  }

  pub taken_more : AreNumbersTaken w count k before mid → IsNumberTaken w k mid after → AreNumbersTaken w (k + 1) (k + 1) before after
  taken_more so_far is = subst (λ (m : ℕ). AreNumbersTaken w m m before after) (sym (add-one k)) (takes (suc k) so_far is.note is.is is.spare is.each (omega arith) (λ n le lt. absurd (omega (arith, le, lt))))

pub taken_none : (w : World) (k : ℕ) (before mid : List Record) (count : ℕ) → AreNumbersTaken w count k before mid → (w (note_path k) ≡ None) × (w (temporary (note_path k)) ≡ None) → AreNumbersTaken w count (k + 1) before mid
taken_none w k before mid count so_far none =
    subst (λ (m : ℕ). AreNumbersTaken w count m before mid) (sym (add-one k))
    (takes w k before mid mid count count so_far None (subst (λ (o : Option Node). IsNoteAt o None) (sym none.0) refl) (no_directory_at (w (temporary (note_path k))) None none.1 no_directory_none) (λ name. refl) (omega (arith, so_far.within))
    (λ n le lt. elim (cases_eq n k) [ inl e ↦ ap (λ (m : ℕ). w (note_path m)) e ∙ none.0 | inr ne ↦ so_far.free n le (omega (arith, lt, ne)) ]))

-- the first number with a fault
fine_number : (w : World) (count number : ℕ) (before after : List Record) → AreNumbersTaken w count number before after → (n : ℕ) → n < number → IsFineNumber w n
fine_number w count number before after taken n lt = record { note = taken.notes n; is = taken.are n lt; spare = taken.spares n lt }

pub first_faulty : (w : World) (count number : ℕ) (before after : List Record) (fault : AdministrationFault) → number < limit → AreNumbersTaken w count number before after → IsNumberDamage w number fault → IsNumbersDamage w fault
first_faulty w count number before after (Damaged file line) lt taken here = record { number = number; within = lt; before = fine_number w count number before after taken; here = here }
first_faulty w count number before after Device lt taken here = tt
first_faulty w count number before after NoMemory lt taken here = tt
first_faulty w count number before after Declined lt taken here = tt

-- of one number

pub number_taken : (w : World) (n : ℕ) (before after : List Record) → IsNoteTaken (w (note_path n)) before after → NoDirectory (w (temporary (note_path n))) → IsNumberTaken w n before after
number_taken w n before after taken spare = record { note = taken.0; is = taken.1; spare = spare; each = taken.2 }

pub number_file : (w : World) (n : ℕ) (path : Path) (fault : AdministrationFault) → path ≡ note_path n → IsFileDamage w path fault → IsNumberDamage w n fault
number_file w n path (Damaged file line) e damage = inl (damage.0 ∙ e, subst (λ (p : Path). IsNoteDamage (w p) line) e damage.1)
number_file w n path Device e damage = tt
number_file w n path NoMemory e damage = tt
number_file w n path Declined e damage = tt

pub number_spare : (w : World) (n : ℕ) (path : Path) (before after : List Record) (fault : AdministrationFault) → path ≡ temporary (note_path n) → IsNoteTaken (w (note_path n)) before after → IsSpareDamage w path fault → IsNumberDamage w n fault
number_spare w n path before after (Damaged file line) e taken damage = inr ((taken.0, taken.1), damage.0 ∙ e, damage.1, subst (λ (p : Path). IsDirectory (w p)) e damage.2)
number_spare w n path before after Device e taken damage = tt
number_spare w n path before after NoMemory e taken damage = tt
number_spare w n path before after Declined e taken damage = tt

-- all of them

pub names_told : (w : World) (fault : AdministrationFault) → IsNameDamage w fault → IsNotesDamage w fault
names_told w (Damaged file line) damage = inl damage
names_told w Device damage = tt
names_told w NoMemory damage = tt
names_told w Declined damage = tt

pub numbers_told : (w : World) (fault : AdministrationFault) → (HasBadName w updates_path → ⊥) → IsNumbersDamage w fault → IsNotesDamage w fault
numbers_told w (Damaged file line) text damage = inr (text, damage)
numbers_told w Device text damage = tt
numbers_told w NoMemory text damage = tt
numbers_told w Declined text damage = tt

pub all_fine : (w : World) (count : ℕ) (before after : List Record) → (HasBadName w updates_path → ⊥) → AreNumbersTaken w count 10000 before after → AreNotesFine w
all_fine w count before after text taken = record { text = text; each = λ n lt. fine_number w count 10000 before after taken n (within_limit n lt) }

pub all_free : (w : World) (count : ℕ) (before after : List Record) → AreNumbersTaken w count 10000 before after → IsFree count w
all_free w count before after taken n le lt = taken.free n le (within_limit n lt)

held : (w : World) (count : ℕ) (before after : List Record) → AreInOrder after → ((base : List Record) × IsStatusAt (w status_path) base × HasSame base before) → AreNumbersTaken w count 10000 before after → Holds w after
held w count before after order is taken = record {
  base = is.0;
  status = is.1;
  notes = taken.notes;
  noted = λ n lt. taken.are n (within_limit n lt);
  each = λ name. taken.each name ∙ (λ i. with_notes taken.notes 10000 (λ q. is.2 q i) name) ∙ (λ i. with_notes taken.notes (sym limit_is i) (record_in (standing is.0)) name);
  order = order;
}

pub all_held : (w : World) (count : ℕ) (before after : List Record) → AreInOrder after → IsTableOf (w status_path) before → AreNumbersTaken w count 10000 before after → HasRecords w after
all_held w count before after order base taken = ∥∥₁_map base (λ is. held w count before after order is taken)

-- what is told of the whole

pub status_told : (w : World) (fault : AdministrationFault) → IsStatusDamage w fault → IsRecordsDamage w fault
status_told w (Damaged file line) damage = inl damage
status_told w Device damage = tt
status_told w NoMemory damage = tt
status_told w Declined damage = tt

pub notes_told : (w : World) (table : List Record) (fault : AdministrationFault) → IsTableOf (w status_path) table → IsNotesDamage w fault → IsRecordsDamage w fault
notes_told w table (Damaged file line) is damage = inr (∥∥₁_map is (λ b. (b.0, b.1)), damage)
notes_told w table Device is damage = tt
notes_told w table NoMemory is damage = tt
notes_told w table Declined is damage = tt

-- the table of a text
pub table_of_text : (bytes : List ℕ) (records table : List Record) → ∥ IsStatus bytes records ∥₁ → standing records ≡ records → ((name : List ℕ) → record_in table name ≡ record_in records name) → IsTableOfText bytes table
table_of_text bytes records table is stand same = ∥∥₁_map is (λ status. (records, status, λ name. same name ∙ ap (λ (l : List Record). record_in l name) (sym stand)))

pub number_by : {T E : Type 0} (result : Result T E) (w v : World) (n : ℕ) (path spare : Path) (before after : List Record) → path ≡ note_path n → spare ≡ temporary (note_path n) → v ≡ w → IsNoteTaken (w path) before after → OnOk result (NoDirectory (v spare)) → OnOk result (IsNumberTaken w n before after)
number_by (Ok x) w v n path spare before after e f same taken free =
    number_taken w n before after (subst (λ (p : Path). IsNoteTaken (w p) before after) e taken)
    (no_directory_at (w (temporary (note_path n))) (v spare) (ap w (sym f) ∙ ap (λ (u : World). u spare) (sym same)) free)
number_by (Err e) w v n path spare before after e1 f same taken free = tt

-- within a list the default doesn't matter
pub default_any : {X : Type 0} (xs : List X) (i : ℕ) (d e : X) → i < length xs → get_or xs i d ≡ get_or xs i e
default_any [] i d e lt = absurd (omega (arith, lt))
default_any (x ∷ xs) zero d e lt = refl
default_any (x ∷ xs) (suc i) d e lt = default_any xs i d e (omega (arith, lt))

-- the reading of a number was broken off
pub numbers_stopped : {T : Type 0} (result : Result T AdministrationFault) (given : AdministrationFault) (w v : World) (count number : ℕ) (before after : List Record) → IsErrAnd result (λ e. e ≡ given) → number < limit → v ≡ w → AreNumbersTaken w count number before after → IsNumberDamage v number given → IfErr result (IsNumbersDamage w)
numbers_stopped (Ok x) given w v count number before after is lt same taken damage = tt
numbers_stopped (Err e) given w v count number before after is lt same taken damage = subst (IsNumbersDamage w) (sym is) (first_faulty w count number before after given lt taken (subst (λ (u : World). IsNumberDamage u number given) same damage))
