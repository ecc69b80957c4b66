-- The records and the lists of a unit, and how parts and stages change them.
use Rattle.std.specs.Prelude.{ℕ, Bool, true, false, List, [], ◌∷◌}
use Rattle.file_lists.specs.Filed.{Filed}
use Rattle.file_lists.specs.declared.paths.PackageList.{PackageList}
use Rattle.held_administration.specs.declared.held.Administration.{Administration}
use Rattle.status_db.specs.Recorded.{Recorded}
use Rattle.status_records.specs.declared.record.Record.{Record}
use Rattle.unit_stages.specs.Parts.{parts_lists, parts_records}
use Rattle.unit_stages.specs.declared.part.Part.{Part}
use Rattle.unit_stages.specs.declared.part.Part.TheVariants.{Note, Forget, Settle, Remove, RemoveDirectories, Clear, List as Listing, DropList, DropMembers}
use Rattle.unit_stages.specs.declared.stage.Stage.{Stage}

pub record Holding : Type 0 where
  pub records : List Record
  pub lists : List PackageList

-- those that are open
abbrev pub holding : Recorded → Filed → Holding
holding database lists = record { records = database.records; lists = lists.lists }

-- those of an administration
abbrev pub holding_of : Administration → Holding
holding_of administration = holding administration.database administration.lists

-- the package's list is written
abbrev pub is_listing : Part → Bool
is_listing (Note r) = false
is_listing Forget = false
is_listing (Settle settled) = false
is_listing (Remove leaving) = false
is_listing (RemoveDirectories leaving) = false
is_listing (Clear names) = false
is_listing (Listing paths) = true
is_listing DropList = false
is_listing (DropMembers keep_postrm) = false

module _ (name : List ℕ) where
  -- after these parts
  abbrev pub after_parts : List Part → Holding → Holding
  after_parts parts h = record { records = parts_records name parts h.records; lists = parts_lists name parts h.lists }

  -- after stages whose calls succeeded
  abbrev pub after_stages : List Stage → Holding → Holding
  after_stages [] h = h
  after_stages (stage ∷ stages) h = after_stages stages (after_parts stage.parts.items h)
