-- Where a commit leaves all as it was.
use Rattle.std.specs.Prelude.{◌≡◌, ◌≢◌, false, true, ◌∷◌}
use Rattle.host_core.specs.Paths.{Path}
use Rattle.administration.specs.Places.{temporary}
use Rattle.control_members.specs.Names.{is_member_name}
use Rattle.control_members.specs.Stored.{stored_member_path}
use Rattle.file_lists.specs.Taking.{IsNoList}
use Rattle.file_removal.specs.Clearing.{is_among}
use Rattle.status_db.specs.Held.{is_record_place}
use Rattle.listed_files.specs.Areas.{is_leaving_place}
use Rattle.unpack_commit.specs.Commit.{Changes}

-- no control file of a package, nor the temporary name of one
abbrev pub IsNoMember : Path → Path → Type 0
IsNoMember owner q = (name : Path) → is_member_name name ≡ true → (q ≢ stored_member_path owner name) × (q ≢ temporary (stored_member_path owner name))

-- none of the paths that a commit may change
pub record IsUntouched (c : Changes) (q : Path) : Type 0 where
  -- the old paths that go, and the names that are cleared
  pub stays : is_leaving_place c.leaving q ≡ false
  pub uncleared : is_among c.names q ≡ false
  -- the lists of the package and of those that lose places, and its control files
  pub unlisted : IsNoList (c.name ∷ c.losers) q
  pub no_member : IsNoMember c.name q
  -- the records
  pub unnoted : is_record_place q ≡ false
