-- Where parts leave all in the administration as it was.
use Rattle.std.specs.Prelude.{◌≡◌, ◌≢◌, false, true}
use Rattle.host_core.specs.Paths.{Path, is_below_administration}
use Rattle.administration.specs.Places.{list_path, temporary}
use Rattle.control_members.specs.Names.{is_member_name}
use Rattle.control_members.specs.Stored.{stored_member_path}
use Rattle.status_db.specs.Held.{is_record_place}

-- a place below its directory that is none of the records' and none of this package's
pub record IsAside (name q : Path) : Type 0 where
  pub below : is_below_administration q ≡ true
  pub unnoted : is_record_place q ≡ false
  -- neither the package's list nor the name under which it is written
  pub unlisted : (q ≢ list_path name) × (q ≢ temporary (list_path name))
  -- none of its control files
  pub no_member : (member : Path) → is_member_name member ≡ true → q ≢ stored_member_path name member
