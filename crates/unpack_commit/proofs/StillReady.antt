-- At each moment of a commit, and in its end, no directory is in the way of what is written next.
use Rattle.std.proofs.Common.{refl, sym, subst, List}
use Rattle.host_core.specs.Paths.{Path}
use Rattle.host_core.specs.World.{World, IsDirectory}
use Rattle.administration.specs.Places.{info_path, list_path, temporary}
use Rattle.control_members.specs.Stored.{IsMembersReady, stored_member_path}
use Rattle.control_members.proofs.Apart.{info_no_temporary, info_other}
use Rattle.diversions.specs.Ways.{Ways}
use Rattle.file_lists.specs.declared.paths.PackageList.{PackageList}
use Rattle.file_lists.specs.Writing.{IsListReady}
use Rattle.status_records.specs.declared.record.Record.{Record}
use Rattle.listed_files.specs.Closing.{SparesAdministration}
use Rattle.listed_files.specs.Concluding.{AreElsewhere}
use Rattle.unpack_commit.specs.Areas.{IsUntouched}
use Rattle.unpack_commit.specs.Commit.{Changes, HasCommitted, MayCommit}
use Rattle.unpack_commit.proofs.Left.{committed_keeps, committing_keeps}
use Rattle.unpack_commit.proofs.Loose.{committed_loose, committing_loose}
use Rattle.unpack_commit.proofs.Ready.{info_is_no_list}
use Rattle.unpack_commit.proofs.Stays.{no_leaving_place}

-- the directory `info` itself is none of the paths that a commit may change
info_untouched : (c : Changes) → SparesAdministration c.leaving → AreElsewhere c.names → IsUntouched c info_path
info_untouched c spares elsewhere = record {
  stays = no_leaving_place c.leaving info_path spares refl;
  uncleared = elsewhere info_path refl;
  unlisted = λ name has. info_is_no_list name;
  no_member = λ word member. (info_other c.name word, info_no_temporary c.name word);
  unnoted = refl;
}

module _ (c : Changes) (ways : Ways) (lists : List PackageList) (old : World) (spares : SparesAdministration c.leaving) (elsewhere : AreElsewhere c.names) where
  module _ (after : List Record) (new : World) (has : HasCommitted c ways lists after old new) where
    info_after : IsDirectory (old info_path) → IsDirectory (new info_path)
    info_after info = subst IsDirectory (sym (committed_keeps c ways lists old after new info_path has (info_untouched c spares elsewhere))) info

    pub members_still_ready : (owner : Path) → IsMembersReady owner old → IsMembersReady owner new
    members_still_ready owner ready = record {
      info = info_after ready.info;
      own = λ name member. committed_loose c ways lists old (stored_member_path owner name) refl after new has (ready.own name member);
      spares = λ name member. committed_loose c ways lists old (temporary (stored_member_path owner name)) refl after new has (ready.spares name member);
    }

    pub lists_still_ready : (name : Path) → IsListReady name old → IsListReady name new
    lists_still_ready name ready = record {
      info = info_after ready.info;
      target = committed_loose c ways lists old (list_path name) refl after new has ready.target;
      spare = committed_loose c ways lists old (temporary (list_path name)) refl after new has ready.spare;
    }

  module _ (records before : List Record) (now : World) (may : MayCommit c ways lists records before old now) where
    info_amid : IsDirectory (old info_path) → IsDirectory (now info_path)
    info_amid info = subst IsDirectory (sym (committing_keeps c ways lists old records before now info_path may (info_untouched c spares elsewhere))) info

    pub members_ready_amid : (owner : Path) → IsMembersReady owner old → IsMembersReady owner now
    members_ready_amid owner ready = record {
      info = info_amid ready.info;
      own = λ name member. committing_loose c ways lists old (stored_member_path owner name) refl records before now may (ready.own name member);
      spares = λ name member. committing_loose c ways lists old (temporary (stored_member_path owner name)) refl records before now may (ready.spares name member);
    }

    pub lists_ready_amid : (name : Path) → IsListReady name old → IsListReady name now
    lists_ready_amid name ready = record {
      info = info_amid ready.info;
      target = committing_loose c ways lists old (list_path name) refl records before now may ready.target;
      spare = committing_loose c ways lists old (temporary (list_path name)) refl records before now may ready.spare;
    }
