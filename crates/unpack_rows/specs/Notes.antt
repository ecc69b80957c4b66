-- What is noted beside the rows of an unpack: a function of how far they are (Policy 6.6).
use Rattle.std.specs.Prelude.{ℕ, ◌+◌, cond, List, [], ◌∷◌, ◌++◌, Option, Some, None, take, drop}
use Rattle.status_records.specs.declared.record.Record.{Record}
use Rattle.status_records.specs.declared.words.Flag.TheVariants as flag
use Rattle.status_records.specs.declared.words.State.TheVariants as state
use Rattle.status_records.specs.Records.{put_record, drop_record}
use Rattle.undo_rows.specs.declared.failed.Failed.{Failed}
use Rattle.undo_rows.specs.Place.{Place, Forward, Ready, Back}
use Rattle.unpack_rows.specs.declared.kinds.RowKind.{RowKind}
use Rattle.unpack_rows.specs.declared.kinds.RowKind.TheVariants.{Prerm, Other, Preinst, Files, Postrm}
use Rattle.unpack_rows.specs.declared.notes.Note.{Note}
use Rattle.unpack_rows.specs.declared.notes.Note.TheVariants.{Put, Drop}
use Rattle.unpack_rows.specs.Kinds.{own_of, owner_of, has_prerm, state_of}
use Rattle.unpack_rows.specs.Failures.{has_failed}
use Rattle.status_records.specs.Standings.{standing_as}

-- want and flag stay
abbrev pub half_configured : Record → Record
half_configured r = standing_as r.flag state.HalfConfigured r

-- it wants reinstallation
abbrev pub half_installed : Record → Record
half_installed r = standing_as flag.Reinstreq state.HalfInstalled r

-- want and flag stay
abbrev pub unpacked : Record → Record
unpacked r = standing_as r.flag state.Unpacked r

-- the table after some notes
abbrev pub noted : List Record → List Note → List Record
noted table [] = table
noted table (Put r ∷ notes) = noted (put_record r table) notes
noted table (Drop name ∷ notes) = noted (drop_record name table) notes

-- a note, or none, as a list
abbrev pub listed : Option Note → List Note
listed None = []
listed (Some note) = note ∷ []

-- `start` is the package's record as it was found, if there was one
module _ (start : Option Record) (incoming : Record) where
  -- the record as it was found, or none
  abbrev pub as_before : Option Record → Note
  as_before None = Drop incoming.name
  as_before (Some r) = Put r

  -- before the call of a row, whether or not the script is there
  abbrev pub note_before : RowKind → Option Note
  note_before Prerm = Some (Put (half_configured (own_of start incoming)))
  note_before (Other r) = Some (Put (half_configured r))
  note_before Preinst = Some (Put (half_installed (own_of start incoming)))
  note_before Files = None
  note_before Postrm = None

  -- after its undo call; a package whose prerm's row is still to be undone is unpacked meanwhile
  abbrev pub note_undone : RowKind → Option Note
  note_undone Prerm = Some (as_before start)
  note_undone (Other r) = Some (Put r)
  note_undone Preinst = Some (cond (has_prerm (state_of start)) (Put (unpacked (own_of start incoming))) (as_before start))
  note_undone Files = None
  note_undone Postrm = None

  -- those before the calls of these rows
  abbrev pub notes_forward : List RowKind → List Note
  notes_forward [] = []
  notes_forward (k ∷ ks) = listed (note_before k) ++ notes_forward ks

  -- those after the undo of these rows, the last of them first; the first has this number. A package with a failed undo gets no
  -- further note.
  abbrev pub notes_back : ℕ → List RowKind → List Failed → List Note
  notes_back row [] failed = []
  notes_back row (k ∷ ks) failed =
      notes_back (row + 1) ks failed
      ++ cond (has_failed row (owner_of (own_of start incoming).name k) failed) [] (listed (note_undone k))

  -- all notes up to a place
  abbrev pub notes_at : List RowKind → Place → List Note
  notes_at kinds (Forward k) = notes_forward (take k kinds)
  notes_at kinds (Ready k) = notes_forward (take (k + 1) kinds)
  notes_at kinds (Back k fall failed) =
      notes_forward (take (fall.row + 1) kinds) ++ notes_back k (drop k (take (fall.row + 1) kinds)) failed
