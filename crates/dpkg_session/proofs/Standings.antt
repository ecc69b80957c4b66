-- What a session knows of its host's administration, at the opening and after a run.
use Rattle.std.proofs.Common.{◌≡◌, Bool, List, Option, Some, None, IsTrue, refl, subst, sym}
use Rattle.std.specs.Prelude.{true}
use Rattle.std.proofs.Math.Logic.{∥∥₁_map}
use Rattle.host_core.proofs.Nodes.{directory_is}
use Rattle.host_core.specs.declared.node.Node.{Node}
use Rattle.host_core.specs.declared.node.Node.TheVariants.{File, Dir, Link}
use Rattle.host_core.specs.World.{World, IsDirectory, is_directory}
use Rattle.host_core.specs.Host.{State}
use Rattle.administration.specs.Places.{home_path, info_path, updates_path, diversions_path, temporary}
use Rattle.administration.specs.Files.{NoDirectory}
use Rattle.administration.proofs.WholeFiles.{no_directory_at, no_directory_file, no_directory_none}
use Rattle.diversions.specs.Diverted.{Diverted}
use Rattle.diversions.specs.Lines.{HasEntries}
use Rattle.diversions.specs.declared.entry.Diversion.{Diversion}
use Rattle.file_lists.specs.Filed.{Filed}
use Rattle.opening.specs.Opened.{IsFound, IsOpened}
use Rattle.status_db.specs.Held.{IsKept}
use Rattle.status_db.specs.Recorded.{Recorded}
use Rattle.held_administration.specs.Order.{IsInOrder}
use Rattle.unpack_relations.specs.declared.options.UnpackOptions.{UnpackOptions}
use Rattle.dpkg_session.specs.declared.report.Candidate.{Candidate}
use Rattle.unit_reports.specs.declared.report.Unit.{Unit as AUnit}
use Rattle.unit_reports.specs.Held.{Held, held}
use Rattle.dpkg_session.specs.Run.{IsRun}
use Rattle.dpkg_session.specs.Standing.{AreRecorded, IsStanding}
use Rattle.dpkg_session.proofs.Beside.{diverted_run, diverted_spare_run, table_run}

directory_there : (node : Option Node) → is_directory node ≡ true → IsDirectory node
directory_there None is = cc
directory_there (Some (File bytes access)) is = cc
directory_there (Some (Dir access)) is = (access, refl)
directory_there (Some (Link target)) is = cc

entries_no_directory : (found : Option Node) (entries : List Diversion) → HasEntries found entries → NoDirectory found
entries_no_directory None entries has is = no_directory_none is
entries_no_directory (Some (File bytes access)) entries has is = no_directory_file (File bytes access) (bytes, access, refl) is
entries_no_directory (Some (Dir access)) entries has is = absurd has
entries_no_directory (Some (Link target)) entries has is = absurd has

-- open records, part by part

pub recorded : (d : Recorded) (w : World) → IsKept d w → AreRecorded d w
recorded d w kept = (
  directory_is (w home_path) kept.unblocked.home,
  directory_is (w updates_path) kept.unblocked.updates,
  kept.unblocked.text,
  kept.unblocked.status_spare,
  kept.unblocked.spares,
  kept.holds,
  kept.free,
)

pub kept_recorded : (d : Recorded) (w : World) → AreRecorded d w → IsKept d w
kept_recorded d w is = record {
  unblocked = record {
    home = directory_there (w home_path) is.0;
    updates = directory_there (w updates_path) is.1;
    text = is.2;
    status_spare = is.3;
    spares = is.4;
  };
  holds = is.5;
  free = is.6;
}

-- what a unit needs
pub order_standing : (h : Held) (w : World) → IsStanding h w → IsInOrder h.records h.lists w
order_standing h w is = record {
  home = is.0.0;
  info = is.1;
  loose = is.2;
  tmp = is.5;
  kept = kept_recorded h.records w is.0;
  listed = is.6;
}

pub standing_found : (h : Held) (w : World) → IsFound h.records.records h.records.notes h.lists h.ways.entries w → IsStanding h w
standing_found h w found = (
  recorded h.records w found.records,
  directory_is (w info_path) found.info,
  (λ name plain. (found.listed.sound name plain).loose),
  entries_no_directory (w diversions_path) h.ways.entries found.diversions,
  found.diversions_spare,
  found.tmp,
  ∣ found.listed.lists ∣₁,
  ∣ found.diversions ∣₁,
)

-- right after the opening no note stands
pub standing_opened : (d : Recorded) (f : Filed) (v : Diverted) (w : World) → d.notes ≡ 0 → IsOpened d.records f.lists v.ways.entries w → IsStanding (held d f v) w
standing_opened d f v w none opened = standing_found (held d f v) w (subst (λ n. IsFound d.records n f.lists v.ways.entries w) (sym none) opened)

pub standing_run : (auto : UnpackOptions) (cs : List Candidate) (us : List AUnit) (before after : Held) (s t : State) → IsRun auto cs us before after s t → IsTrue t.honest → IsInOrder after.records after.lists t.world → IsStanding before s.world → IsStanding after t.world
standing_run auto cs us before after s t run h order standing = (
  recorded after.records t.world order.kept,
  order.info,
  order.loose,
  no_directory_at (t.world diversions_path) (s.world diversions_path) (diverted_run auto cs us before after s t run h) standing.3,
  no_directory_at (t.world (temporary diversions_path)) (s.world (temporary diversions_path)) (diverted_spare_run auto cs us before after s t run h) standing.4,
  order.tmp,
  order.listed,
  ∥∥₁_map standing.7 (λ has. table_run auto cs us before after s t run h has),
)
