-- Edited conffiles that would stay.
use Rattle.std.specs.Prelude.{◌≡◌, ◌⊎◌, ◌&&◌, ℕ, Bool, false, true, not, List, [], ◌∷◌, Option, Some, None, is_some, flat_map, if◌then◌else◌}
use Rattle.std.specs.List.{count_by, list_any}
use Rattle.std.specs.Str.{bytes_eq}
use Rattle.md5.specs.Md5.{md5}
use Rattle.host_core.specs.Paths.{Path}
use Rattle.host_core.specs.World.{World}
use Rattle.host_core.specs.declared.node.Node.{Node}
use Rattle.host_core.specs.declared.node.Node.TheVariants.{File, Dir, Link}
use Rattle.diversions.specs.Ways.{Ways, place}
use Rattle.status_records.specs.Paragraphs.{record_text}
use Rattle.status_records.specs.Records.{record_in}
use Rattle.status_records.specs.declared.entries.ConffileEntry.{ConffileEntry}
use Rattle.status_records.specs.declared.record.Record.{Record}
use Rattle.inquiries.specs.declared.reading.SeenAll.{SeenAll}
use Rattle.foretold_changes.specs.declared.looking.LookedPath.{LookedPath}
use Rattle.foretold_changes.specs.declared.keeping.Conffile.{Conffile}
use Rattle.foretold_changes.specs.declared.staying.LookedConffile.{LookedConffile}
use Rattle.foretold_changes.specs.declared.staying.Stay.{Stay}
use Rattle.foretold_changes.specs.declared.staying.Stay.TheVariants.{Edited, Unread}

-- a package that the command touched: its record would be written otherwise
abbrev pub is_other : Option Record → Record → Bool
is_other None r = true
is_other (Some before) r = not (bytes_eq (record_text before) (record_text r))

-- a line is told of a path
abbrev pub is_told : List LookedPath → Path → Bool
is_told looked path = list_any (λ l. bytes_eq l.path path && is_some l.found) looked

-- a conffile that would be recorded, where no line is told of its place
abbrev pub conffile_at : List LookedPath → Ways → List ℕ → ConffileEntry → List Conffile
conffile_at looked ways name e = if is_told looked (place ways name e.path) then [] else record { name = name; at = place ways name e.path; digest = e.digest } ∷ []

-- those of a package that the command touched
abbrev pub conffiles_of : List LookedPath → List Record → Ways → Record → List Conffile
conffiles_of looked table ways r = if is_other (record_in table r.name) r then flat_map (conffile_at looked ways r.name) r.conffiles else []

-- those of all packages, by what stands and what would
abbrev pub conffiles_in : List LookedPath → SeenAll → SeenAll → List Conffile
conffiles_in looked before now = flat_map (conffiles_of looked before.opened.database.records now.opened.diversions.ways) now.opened.database.records

-- a file with other bytes than those that were settled last
abbrev pub is_edited : Option Node → Option (List ℕ) → Bool
is_edited None digest = false
is_edited (Some (File bytes access)) None = false
is_edited (Some (File bytes access)) (Some digest) = not (bytes_eq (md5 bytes) digest)
is_edited (Some (Dir access)) digest = false
is_edited (Some (Link target)) digest = false

abbrev pub stay_of : Option Node → Option (List ℕ) → Option Stay
stay_of node digest = if is_edited node digest then Some Edited else None

-- what a look at a conffile told: that it is edited or not, or that there is no knowing
abbrev pub IsSeen : World → LookedConffile → Type 0
IsSeen w l = (l.stay ≡ stay_of (w l.conffile.at) l.conffile.digest) ⊎ (l.stay ≡ Some Unread)

abbrev pub is_unread_stay : Option Stay → Bool
is_unread_stay None = false
is_unread_stay (Some Edited) = false
is_unread_stay (Some Unread) = true

-- of how many conffiles there is no knowing
abbrev pub unread_stays : List LookedConffile → ℕ
unread_stays stays = count_by (λ l. is_unread_stay l.stay) stays
