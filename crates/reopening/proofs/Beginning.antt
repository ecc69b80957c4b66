-- The beginning of an unpack, and what follows its rows: no opening refuses what stands in `info`.
use Rattle.std.proofs.Common.{◌≡◌, inl, inr, ℕ, zero, suc, Bool, true, false, nat_le, List, ◌∷◌, Option, Some, None, Contains, refl, sym, subst, arith}
use Rattle.texts.specs.PackageNames.{is_package_name}
use Rattle.host_core.proofs.Paths.{decide}
use Rattle.host_core.specs.Outcome.{script_name}
use Rattle.host_core.specs.Paths.{Path}
use Rattle.host_core.specs.World.{World}
use Rattle.administration.specs.Places.{list_path, script_path}
use Rattle.undo_rows.specs.Transcripts.{Ended, Committed, Unwound}
use Rattle.control_members.proofs.MemberNames.{script_is_member}
use Rattle.control_members.specs.Stored.{stored_member_path}
use Rattle.diversions.specs.Ways.{Ways}
use Rattle.file_lists.specs.Info.{AreLoose, IsLink}
use Rattle.file_lists.specs.Lists.{IsReadable}
use Rattle.file_lists.specs.Owners.{paths_of}
use Rattle.file_lists.specs.Writing.{list_file}
use Rattle.file_lists.specs.declared.paths.PackageList.{PackageList}
use Rattle.file_removal.specs.Removal.{any_path, IsRemoving, Removed}
use Rattle.listed_files.proofs.Closings.{removed_inside, removing_inside, retiring_inside}
use Rattle.status_records.specs.Records.{record_in}
use Rattle.status_records.specs.declared.record.Record.{Record}
use Rattle.unit_stages.proofs.Outside.{cleared_outside}
use Rattle.unpack_commit.proofs.Left.{same_list}
use Rattle.unpack_commit.specs.Commit.{Changes, HasCommitted, MayCommit, renewed_lists}
use Rattle.unpack_commit.specs.Takeover.{put_records}
use Rattle.unpack_engine.proofs.Cleared.{cleared_clearing}
use Rattle.unpack_steps.specs.Clearing.{IsCleared, IsClearing, MayClear}
use Rattle.unpack_engine.specs.Units.{HasDropped, HasFollowed, HasLeft, MayDrop, MayLeave, MayLeaveBy}
use Rattle.listed_files.specs.Closing.{HasReleased, HasRenewed, MayRelease, MayRenew, SparesAdministration}
use Rattle.listed_files.specs.Concluding.{AreElsewhere}
use Rattle.reopening.proofs.Entries.{IsSafe, safe_fewer, safe_more, safe_quiet}
use Rattle.reopening.proofs.Inside.{IsQuiet, quiet_laid, quiet_noted, quiet_outside, quiet_still, quiet_then}
use Rattle.reopening.proofs.Steps.{AreGood, dropped_quiet, dropping_quiet, member_no_list, no_link_none, one_dropped, own_links, released_quiet, releasing_quiet, replaced_quiet, replacing_quiet, script_no_list, script_others, stored_quiet, storing_quiet}

-- what a name without a record left behind goes

module _ (name : Path) (named : is_package_name name ≡ true) (old now : World) where
  clearing_quiet : IsClearing name old now → IsQuiet old now
  clearing_quiet is = record {
    stays = λ q unnamed. (let others = unnamed.others name named in is.rest q (record { list = others.list.0; members = λ member m. (others.members member m).0 }));
    links = own_links name old now
        (λ member m link. elim (is.members member m) [
          | inl same ↦ subst IsLink same link
          | inr none ↦ absurd (no_link_none (now (stored_member_path name member)) none link)
        ])
        (λ owner script other. is.rest (script_path owner script) (record { list = script_no_list owner name script; members = λ member m. script_others name owner member script other m }));
    lists = λ q readable. elim (decide q name) [
      | inl same ↦ subst (λ (n : Path). IsReadable (now (list_path n))) (sym same)
          (one_dropped (old (list_path name)) (now (list_path name)) is.list (subst (λ (n : Path). IsReadable (old (list_path n))) same readable))
      | inr other ↦ subst IsReadable (sym (is.rest (list_path q) (record { list = λ e. other (same_list q name e); members = λ member m. member_no_list name q member m }))) readable
    ];
  }

  pub going_quiet : (gone goes : Bool) → MayClear gone goes name old now → IsQuiet old now
  going_quiet true goes cleared = clearing_quiet (cleared_clearing name named old now cleared)
  going_quiet false true clearing = clearing_quiet clearing
  going_quiet false false same = quiet_still old now same

-- behind it the package is one of which nothing is refused
pub cleared_safe : (names : List (List ℕ)) (ways : Ways) (name : Path) (old cleared : World) → is_package_name name ≡ true → IsCleared name old cleared → AreLoose cleared → IsSafe names ways old → IsSafe (name ∷ names) ways cleared
cleared_safe names ways name old cleared named clears loose safe =
    safe_more names name ways cleared clears.list (λ script. clears.members (script_name script) (script_is_member script))
    (safe_quiet names ways old cleared (going_quiet name named old cleared true true clears) safe loose)

-- and so is one that is recorded
pub recorded_safe : (names : List (List ℕ)) (ways : Ways) (name : Path) (w : World) → Contains names name → IsSafe names ways w → IsSafe (name ∷ names) ways w
recorded_safe names ways name w known safe = safe_fewer names (name ∷ names) ways w fewer safe
  where
    fewer : (q : List ℕ) → Contains (name ∷ names) q → Contains names q
    fewer q (zero, lt, e) = subst (Contains names) e known
    fewer q (suc k, lt, e) = (k, omega (arith, lt), e)

-- the commit

module _ (c : Changes) (ways : Ways) (lists : List PackageList) (named : is_package_name c.name ≡ true) (spares : SparesAdministration c.leaving) (elsewhere : AreElsewhere c.names) (listed : AreGood c.listed)
    (losers_named : (q : Path) → Contains c.losers q → is_package_name q ≡ true) (losers_good : (q : Path) → Contains c.losers q → AreGood (paths_of (renewed_lists c ways lists) q)) where
  removing_quiet : (old now : World) → IsRemoving c.leaving old now → IsQuiet old now
  removing_quiet old now is = quiet_outside old now (removing_inside c.leaving old now spares is)

  removed_quiet : (old now : World) → Removed any_path c.leaving old now → IsQuiet old now
  removed_quiet old now is = quiet_outside old now (removed_inside c.leaving old now spares any_path is)

  renewing_quiet : (old now : World) → MayRenew c.leaving (list_path c.name) (list_file c.listed) old now → IsQuiet old now
  renewing_quiet old now (inl is) = removing_quiet old now is
  renewing_quiet old now (inr m) = quiet_then old m.0 now (removed_quiet old m.0 m.1) (replacing_quiet c.name named c.listed listed m.0 now m.2)

  renewed_quiet : (old now : World) → HasRenewed c.leaving (list_path c.name) (list_file c.listed) old now → IsQuiet old now
  renewed_quiet old now has = quiet_then old has.mid now (removed_quiet old has.mid has.removed) (replaced_quiet c.name named c.listed listed has.mid now has.replaced)

  abbrev had : List PackageList
  had = renewed_lists c ways lists

  may_release_quiet : (old now : World) → MayRelease ways c.places c.losers had c.names old now → IsQuiet old now
  may_release_quiet old now (inl is) = releasing_quiet ways c.places c.losers had losers_named losers_good old now is
  may_release_quiet old now (inr m) =
      quiet_then old m.0 now (released_quiet ways c.places c.losers had losers_named losers_good old m.0 m.1) (quiet_outside m.0 now (retiring_inside c.names m.0 now elsewhere m.3))

  has_released_quiet : (old now : World) → HasReleased ways c.places c.losers had c.names old now → IsQuiet old now
  has_released_quiet old now has =
      quiet_then old has.mid now (released_quiet ways c.places c.losers had losers_named losers_good old has.mid has.taken) (quiet_outside has.mid now (cleared_outside c.names has.mid now elsewhere has.cleared))

  committed_quiet : (after : List Record) (old now : World) → HasCommitted c ways lists after old now → IsQuiet old now
  committed_quiet after old now has =
      quiet_then old has.renewed now (renewed_quiet old has.renewed has.renewal)
      (quiet_then has.renewed has.stored now (stored_quiet c.name named has.renewed has.stored c.members has.stale has.replaced)
      (quiet_then has.stored has.released now (has_released_quiet has.stored has.released has.release) (quiet_noted has.released now has.noted.rest)))

  committing_quiet : (records before : List Record) (old now : World) → MayCommit c ways lists records before old now → IsQuiet old now
  committing_quiet records before old now (MayCommit.renewing may has opens) = renewing_quiet old now may
  committing_quiet records before old now (MayCommit.replacing renewed stale first is has opens) =
      quiet_then old renewed now (renewed_quiet old renewed first) (storing_quiet c.name named renewed now c.members stale is)
  committing_quiet records before old now (MayCommit.releasing renewed stored stale first second whole may has opens) =
      quiet_then old renewed now (renewed_quiet old renewed first)
      (quiet_then renewed stored now (stored_quiet c.name named renewed stored c.members stale second) (may_release_quiet stored now may))
  committing_quiet records before old now (MayCommit.noting renewed stored released stale first second whole third is) =
      quiet_then old renewed now (renewed_quiet old renewed first)
      (quiet_then renewed stored now (stored_quiet c.name named renewed stored c.members stale second)
      (quiet_then stored released now (has_released_quiet stored released third) (quiet_noted released now is.rest)))

  -- or the end of the list of a package without a record

  may_drop_quiet : (reached : Bool) (found : Option Record) (old now : World) → MayDrop reached found c.name old now → IsQuiet old now
  may_drop_quiet true None old now dropping = dropping_quiet c.name named old now dropping
  may_drop_quiet true (Some r) old now same = quiet_still old now same
  may_drop_quiet false found old now same = quiet_still old now same

  has_dropped_quiet : (reached : Bool) (found : Option Record) (old now : World) → HasDropped reached found c.name old now → IsQuiet old now
  has_dropped_quiet true None old now dropped = dropped_quiet c.name named old now dropped
  has_dropped_quiet true (Some r) old now same = quiet_still old now same
  has_dropped_quiet false found old now same = quiet_still old now same

  -- and then `tmp.ci` goes
  module _ (records : List Record) (table : List Record) (others : ℕ) where
    followed_quiet : (ended : Ended) (old now : World) → HasFollowed c records ways lists table others ended old now → IsQuiet old now
    followed_quiet Committed old now has = committed_quiet (put_records records table) old now has
    followed_quiet (Unwound fall failed) old now has = has_dropped_quiet (nat_le others fall.row) (record_in table c.name) old now has

    pub leaving_quiet : (ended : Ended) (old now : World) → MayLeave c records ways lists table others ended old now → IsQuiet old now
    leaving_quiet Committed old now (MayLeaveBy.following may) = committing_quiet records table old now may
    leaving_quiet Committed old now (MayLeaveBy.clearing_away followed has opens laying) = quiet_then old followed now (followed_quiet Committed old followed has) (quiet_laid followed now laying.rest)
    leaving_quiet (Unwound fall failed) old now (MayLeaveBy.following may) = may_drop_quiet (nat_le others fall.row) (record_in table c.name) old now may
    leaving_quiet (Unwound fall failed) old now (MayLeaveBy.clearing_away followed has opens laying) = quiet_then old followed now (followed_quiet (Unwound fall failed) old followed has) (quiet_laid followed now laying.rest)

    pub left_quiet : (ended : Ended) (old now : World) → HasLeft c records ways lists table others ended old now → IsQuiet old now
    left_quiet ended old now has = quiet_then old has.followed now (followed_quiet ended old has.followed has.has_followed) (quiet_laid has.followed now has.removed.rest)
