-- The record of each name after some notes: by the last note of that name.
use Rattle.std.proofs.Common.{◌≡◌, ℕ, Bool, true, false, cond, List, [], ◌∷◌, ◌++◌, Option, Some, None, refl, sym, ap, ◌∙◌}
use Rattle.std.specs.Str.{bytes_eq}
use Rattle.std.proofs.lemmas.Bool.{true≢false}
use Rattle.status_records.specs.declared.record.Record.{Record}
use Rattle.status_records.specs.Records.{record_in, put_record, drop_record}
use Rattle.status_records.proofs.Tables.{record_in-put_record, record_in-drop_record}
use Rattle.unpack_rows.specs.declared.notes.Note.{Note}
use Rattle.unpack_rows.specs.declared.notes.Note.TheVariants.{Put, Drop}
use Rattle.unpack_rows.specs.Notes.{noted}

abbrev pub note_name : Note → List ℕ
note_name (Put r) = r.name
note_name (Drop name) = name

abbrev pub note_value : Note → Option Record
note_value (Put r) = Some r
note_value (Drop name) = None

-- the record of a name, that was this one, after a note
abbrev pub said : Note → List ℕ → Option Record → Option Record
said n q o = cond (bytes_eq (note_name n) q) (note_value n) o

abbrev pub last_of : Option Record → List Note → List ℕ → Option Record
last_of o [] q = o
last_of o (n ∷ ns) q = last_of (said n q o) ns q

pub noted_last : (ns : List Note) (table : List Record) (q : List ℕ) → record_in (noted table ns) q ≡ last_of (record_in table q) ns q
noted_last [] table q = refl
noted_last (Put r ∷ ns) table q = noted_last ns (put_record r table) q ∙ ap (λ o. last_of o ns q) (record_in-put_record r table q)
noted_last (Drop name ∷ ns) table q = noted_last ns (drop_record name table) q ∙ ap (λ o. last_of o ns q) (record_in-drop_record name table q)

pub last_of-append : (o : Option Record) (a b : List Note) (q : List ℕ) → last_of o (a ++ b) q ≡ last_of (last_of o a q) b q
last_of-append o [] b q = refl
last_of-append o (n ∷ a) b q = last_of-append (said n q o) a b q

pub skipped : (b : Bool) (r o : Option Record) → b ≡ false → cond b r o ≡ o
skipped true r o e = absurd (true≢false e)
skipped false r o e = refl

pub taken : (b : Bool) (r o : Option Record) → b ≡ true → cond b r o ≡ r
taken true r o e = refl
taken false r o e = absurd (true≢false (sym e))

-- a note that is made unless its owner has a failed undo
pub made_unless : (b : Bool) (n : Note) (o : Option Record) (q : List ℕ) → bytes_eq (note_name n) q ≡ true → last_of o (cond b [] (n ∷ [])) q ≡ cond b o (note_value n)
made_unless true n o q e = refl
made_unless false n o q e = taken (bytes_eq (note_name n) q) (note_value n) o e

pub missed_unless : (b : Bool) (n : Note) (o : Option Record) (q : List ℕ) → bytes_eq (note_name n) q ≡ false → last_of o (cond b [] (n ∷ [])) q ≡ o
missed_unless true n o q e = refl
missed_unless false n o q e = skipped (bytes_eq (note_name n) q) (note_value n) o e
