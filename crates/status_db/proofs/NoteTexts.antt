-- What a note's text says.
use Rattle.std.proofs.Common.{◌≡◌, ◌==◌, codes, inl, inr, ℕ, false, List, [], ◌∷◌, ◌-◌, ◌≤◌, arith, drop, take, get_or, length, Option, Some, None, refl, sym, ap, subst, ◌∙◌}
use Rattle.std.specs.List.{AllByRecursion}
use Rattle.std.proofs.lemmas.Bool.{true≢false}
use Rattle.std.proofs.lemmas.List.{take_all}
use Rattle.std.specs.Option.{option_to_list}
use Rattle.control_fields.specs.Grammar.{lines_of, paragraphs_of}
use Rattle.control_fields.specs.Faults.{IsReadTo}
use Rattle.control_fields.specs.declared.field.Field.{Field}
use Rattle.control_fields.specs.declared.located.Located.{Located}
use Rattle.control_fields.specs.declared.fault.ControlFault.{ControlFault}
use Rattle.host_core.specs.declared.node.Access.{Access}
use Rattle.host_core.specs.declared.node.Node.{Node}
use Rattle.host_core.specs.declared.node.Node.TheVariants.{File}
use Rattle.status_records.specs.declared.record.Record.{Record}
use Rattle.status_records.specs.declared.reading.StatusFault.{StatusFault}
use Rattle.status_records.specs.declared.reading.StatusFault.TheVariants.{Line, NoMemory}
use Rattle.status_records.specs.Faults.{IsEntryFault, IsSound}
use Rattle.status_db.specs.NoteFaults.{IsNoteTextFault, IsRestFault, IsStartFault}
use Rattle.status_db.specs.Notes.{IsNote, IsNoteAt, IsNoteTaken, IsSaid, entered}
use Rattle.status_records.specs.Paragraphs.{IsEntry}
use Rattle.status_records.specs.Records.{record_in}
use Rattle.status_records.specs.Words.{is_not_installed}
use Rattle.status_records.proofs.Sayings.{says_same}

pub head_of : (ps : List Located) (l : Located) (e : (length ps == 0) ≡ false) → l ≡ get_or ps 0 l → ps ≡ l ∷ drop 1 ps
head_of [] l e is = absurd (true≢false e)
head_of (p ∷ ps) l e is = ap (λ (x : Located). x ∷ ps) (sym is)

pub cut_rest : (ps : List Located) → take (length ps - 1) (drop 1 ps) ≡ drop 1 ps
cut_rest ps = take_all (length ps - 1) (drop 1 ps) (short ps)
  where
    short : (qs : List Located) → length (drop 1 qs) ≤ length qs - 1
    short [] = omega arith
    short (q ∷ qs) = omega arith

pub first_sound : (ps : List Located) (l : Located) → ps ≡ l ∷ drop 1 ps → AllByRecursion IsSound ps → IsSound l
first_sound ps l is all = (subst (AllByRecursion IsSound) is all).0

module _ (bytes : List ℕ) (ps : List Located) (begun : Located) (fault : Option ControlFault) (read : IsReadTo (lines_of bytes) ps begun fault) where
  pub start_fault : (told : StatusFault) → ps ≡ [] → IsStartFault begun fault told → IsNoteTextFault bytes told
  start_fault NoMemory none is = tt
  start_fault (Line line) none is = record { paragraphs = []; begun = begun; fault = fault; read = subst (λ (l : List Located). IsReadTo (lines_of bytes) l begun fault) none read; told = is }

  pub entry_fault : (l : Located) (told : StatusFault) → ps ≡ l ∷ drop 1 ps → IsEntryFault [] l told → IsNoteTextFault bytes told
  entry_fault l NoMemory first is = tt
  entry_fault l (Line line) first is = record { paragraphs = l ∷ drop 1 ps; begun = begun; fault = fault; read = subst (λ (x : List Located). IsReadTo (lines_of bytes) x begun fault) first read; told = inl is }

  pub rest_fault : (l : Located) (name : List ℕ) (kept : List Record) (rest : List Located) (told : StatusFault) → ps ≡ l ∷ drop 1 ps → IsEntry [] l.paragraph name kept → rest ≡ drop 1 ps → IsRestFault rest begun fault told → IsNoteTextFault bytes told
  rest_fault l name kept rest NoMemory first entry is told = tt
  rest_fault l name kept rest (Line line) first entry is told = record {
    paragraphs = l ∷ drop 1 ps;
    begun = begun;
    fault = fault;
    read = subst (λ (x : List Located). IsReadTo (lines_of bytes) x begun fault) first read;
    told = inr ((name, kept, entry), subst (λ (r : List Located). IsRestFault r begun fault (Line line)) is told);
  }

  pub note_of : (l : Located) (name : List ℕ) (kept : Option Record) (rest : List Located) → ps ≡ l ∷ drop 1 ps → IsEntry [] l.paragraph name (option_to_list kept) → rest ≡ drop 1 ps → rest ≡ [] → fault ≡ None → IsNote bytes (record { name = name; entry = kept })
  note_of l name kept rest first entry is none whole =
      let all = subst (λ (f : Option ControlFault). IsReadTo (lines_of bytes) ps begun f) whole read in
      record {
        fields = l.paragraph;
        reads = (all.0, all.1, sym (ap paragraphs_of (first ∙ ap (λ (r : List Located). l ∷ r) (sym is ∙ none))) ∙ ap paragraphs_of all.2);
        entry = entry;
      }

-- the record that a note brings is of the note's package
pub said_entry : (fields : List Field) (name : List ℕ) (kept : Option Record) → IsEntry [] fields name (option_to_list kept) → IsSaid name kept
said_entry fields name None entry = tt
said_entry fields name (Some r) entry = elim entry.says.stands_for [
  | inl gone ↦ absurd (let e = gone.1 in cc e)
  | inr s ↦ let same : r ≡ s.0 = (let e = s.2 in cc e) in (
    ap (λ (x : Record). x.name) same ∙ says_same (codes "package") fields s.0.name name s.1.name entry.says.named.0,
    ap (λ (x : Record). is_not_installed x.state) same ∙ s.1.stands,
  )
]

pub said_note : (text : List ℕ) (name : List ℕ) (kept : Option Record) → IsNote text (record { name = name; entry = kept }) → IsSaid name kept
said_note text name kept note = said_entry note.fields name kept note.entry

pub file_taken : (found : Option Node) (bytes text : List ℕ) (access : Access) (name : List ℕ) (kept : Option Record) (before after : List Record) → found ≡ Some (File bytes access) → text ≡ bytes → IsNote text (record { name = name; entry = kept })
    → ((q : List ℕ) → record_in after q ≡ entered (Some (record { name = name; entry = kept })) (record_in before) q) → IsNoteTaken found before after
file_taken found bytes text access name kept before after is same note each =
    (Some (record { name = name; entry = kept }), subst (λ (o : Option Node). IsNoteAt o (Some (record { name = name; entry = kept }))) (sym is) ((record { name = name; entry = kept }), refl, subst (λ (t : List ℕ). IsNote t (record { name = name; entry = kept })) same note), each)
