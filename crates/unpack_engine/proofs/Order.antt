-- The administration as a unit finds it, for its beginning and its rows.
use Rattle.std.proofs.Common.{◌≡◌, true, List, Option, Some, None, refl, ap}
use Rattle.std.proofs.lemmas.Bool.{false≢true}
use Rattle.texts.specs.PackageNames.{is_package_name}
use Rattle.host_core.specs.Paths.{Path}
use Rattle.host_core.specs.World.{World, IsDirectory, is_directory}
use Rattle.host_core.specs.declared.node.Node.{Node}
use Rattle.host_core.specs.declared.node.Node.TheVariants.{File, Dir, Link}
use Rattle.administration.specs.Places.{home_path, info_path}
use Rattle.control_members.specs.Stored.{IsMembersReady}
use Rattle.control_members.specs.declared.member.Member.{Member}
use Rattle.file_lists.specs.Writing.{IsListReady}
use Rattle.file_lists.specs.declared.paths.PackageList.{PackageList}
use Rattle.status_db.specs.Held.{IsKept}
use Rattle.status_db.specs.Recorded.{Recorded}
use Rattle.held_administration.specs.Order.{IsInOrder}
use Rattle.unpack_engine.specs.Units.{HasBegun}
use Rattle.unpack_engine.proofs.Cleared.{laid_info, laid_loose}
use Rattle.unpack_engine.proofs.Dropping.{laying_kept}
use Rattle.unpack_engine.proofs.Ready.{list_ready, members_ready}

pub directory_there : (node : Option Node) → is_directory node ≡ true → IsDirectory node
directory_there None e = absurd (false≢true e)
directory_there (Some (File bytes access)) e = absurd (false≢true e)
directory_there (Some (Dir access)) e = (access, refl)
directory_there (Some (Link target)) e = absurd (false≢true e)

pub there_directory : (found : Option Node) → IsDirectory found → is_directory found ≡ true
there_directory found is = ap is_directory is.1

module _ (d : Recorded) (lists : List PackageList) (w : World) (order : IsInOrder d lists w) where
  pub home_there : IsDirectory (w home_path)
  home_there = directory_there (w home_path) order.home

  pub info_there : IsDirectory (w info_path)
  info_there = directory_there (w info_path) order.info

  pub own_list : (name : Path) → is_package_name name ≡ true → IsListReady name w
  own_list name named = list_ready w info_there order.loose name named

  pub own_members : (name : Path) → is_package_name name ≡ true → IsMembersReady name w
  own_members name named = members_ready w info_there order.loose name named

  -- what a unit that has begun finds
  module _ (name : Path) (named : is_package_name name ≡ true) (ms : List Member) (new : World) (begun : HasBegun ms w new) where
    pub records_begun : IsKept d new
    records_begun = laying_kept w new begun.lays d order.kept

    pub list_begun : IsListReady name new
    list_begun = list_ready new (laid_info w new begun.lays info_there) (laid_loose w new begun.lays order.loose) name named

    pub members_begun : IsMembersReady name new
    members_begun = members_ready new (laid_info w new begun.lays info_there) (laid_loose w new begun.lays order.loose) name named
