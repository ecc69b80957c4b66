-- What is told of the paths that would be changed, and of conffiles that stay.
use Rattle.std.specs.Prelude.{◌≡◌, ◌≤◌, ◌+◌, ℕ, List, [], ◌++◌, Option, Some, None, Contains, codes, flat_map, map}
use Rattle.std.specs.List.{AllByRecursion, IsDistinct}
use Rattle.std.specs.Str.{bytes_eq}
use Rattle.host_core.specs.Paths.{Path}
use Rattle.host_core.specs.World.{World}
use Rattle.host_overlay.specs.Seen.{seen}
use Rattle.inquiries.specs.Read.{HasFollowed}
use Rattle.inquiries.specs.declared.reading.SeenAll.{SeenAll}
use Rattle.queries.specs.Paths.{path_text}
use Rattle.shown_lines.specs.Lines.{line}
use Rattle.foretold_changes.specs.Changes.{IsFound, change_word, unread_paths}
use Rattle.foretold_changes.specs.Owning.{owner_for, owner_text, owners_at}
use Rattle.foretold_changes.specs.Staying.{IsSeen, conffiles_in, unread_stays}
use Rattle.foretold_changes.specs.declared.change.Change.{Change}
use Rattle.foretold_changes.specs.declared.keeping.Conffile.{Conffile}
use Rattle.foretold_changes.specs.declared.looking.LookedOver.{LookedOver}
use Rattle.foretold_changes.specs.declared.looking.LookedPath.{LookedPath}
use Rattle.foretold_changes.specs.declared.staying.LookedConffile.{LookedConffile}
use Rattle.foretold_changes.specs.declared.staying.Stay.{Stay}
use Rattle.foretold_changes.specs.declared.staying.Stay.TheVariants.{Edited, Unread}

-- `WORD PATH PKG`
abbrev pub change_line : SeenAll → SeenAll → Path → Change → List ℕ
change_line before now path change = line (change_word change ++ (codes " " ++ (path_text path ++ (codes " " ++ owner_text (owner_for change (owners_at before path) (owners_at now path))))))

abbrev pub found_line : SeenAll → SeenAll → Path → Option Change → List ℕ
found_line before now path None = []
found_line before now path (Some change) = change_line before now path change

-- the line of a path, where something differs
abbrev pub changed_lines : SeenAll → SeenAll → LookedPath → List ℕ
changed_lines before now l = found_line before now l.path l.found

-- `keep PATH edited`, and `unread PATH PKG`
abbrev pub stay_line : Conffile → Option Stay → List ℕ
stay_line c None = []
stay_line c (Some Edited) = line (codes "keep " ++ (path_text c.at ++ codes " edited"))
stay_line c (Some Unread) = line (codes "unread " ++ (path_text c.at ++ (codes " " ++ c.name)))

abbrev pub stay_lines : LookedConffile → List ℕ
stay_lines l = stay_line l.conffile l.stay

-- what was read of an administration, as a command's opening would find it
abbrev pub IsReadFrom : World → SeenAll → Type 0
IsReadFrom w all = HasFollowed all.opened.database.records all.opened.lists.lists all.opened.diversions.ways (seen all.shown) w

-- Paths were looked at, each once, and the administration that would stand was read; at all other paths stands what stood there.
pub record IsLookedOver (old new : World) (l : LookedOver) : Type 0 where
  pub read : IsReadFrom new l.to_come
  pub once : IsDistinct bytes_eq (map (λ (x : LookedPath). x.path) l.looked.items)
  pub found : AllByRecursion (IsFound old new) l.looked.items
  pub whole : (q : Path) → (Contains (map (λ (x : LookedPath). x.path) l.looked.items) q → ⊥) → new q ≡ old q

-- The lines of paths that would be changed, and behind them those of conffiles that would stay, by what was read of both worlds. No more
-- of them are told as unread than looks failed, of which the device had failed at the first count before, and at the last count behind them.
pub record AreTold (old new : World) (first last : ℕ) (text : List ℕ) : Type 0 where
  pub over : LookedOver
  pub looked_over : IsLookedOver old new over
  pub before : SeenAll
  pub read : IsReadFrom old before
  pub stays : List LookedConffile
  pub each : map (λ (x : LookedConffile). x.conffile) stays ≡ conffiles_in over.looked.items before over.to_come
  pub stay : AllByRecursion (IsSeen old) stays
  pub few : unread_paths over.looked.items + unread_stays stays + first ≤ last
  pub told : text ≡ flat_map (changed_lines before over.to_come) over.looked.items ++ flat_map stay_lines stays
