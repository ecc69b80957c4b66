-- A commit puts no directory in the way of what is written next.
use Rattle.std.proofs.Common.{◌≡◌, ◌⊎◌, inl, inr, Bool, true, false, cond, List, ◌∷◌, ◌++◌, Option, Some, None, is_some, refl, sym, ap, subst, ◌∙◌}
use Rattle.std.specs.Str.{bytes_eq}
use Rattle.std.proofs.lemmas.Bool.{false≢true}
use Rattle.std.proofs.lemmas.Slice.Eq.{bytes_eq-Decides}
use Rattle.host_core.specs.Paths.{Path}
use Rattle.host_core.specs.Nodes.{own_access}
use Rattle.host_core.specs.World.{World, IsDirectory, IsFile, lowered}
use Rattle.host_core.specs.declared.node.Node.{Node}
use Rattle.host_core.specs.declared.node.Node.TheVariants.{File, Dir, Link}
use Rattle.administration.specs.Files.{IsReplacing, NoDirectory}
use Rattle.administration.specs.Places.{info_path, list_path, temporary}
use Rattle.administration.proofs.WholeFiles.{no_directory_at, no_directory_file, no_directory_none}
use Rattle.control_members.specs.Members.{member_node}
use Rattle.control_members.specs.Stored.{AreReplaced, AreReplacing, IsSpare, is_among, over, stored_member_path}
use Rattle.control_members.specs.declared.member.Member.{Member}
use Rattle.control_members.proofs.Lookup.{loose_at}
use Rattle.control_members.proofs.Writing.{spare_free}
use Rattle.diversions.specs.Ways.{Ways}
use Rattle.file_lists.specs.declared.paths.PackageList.{PackageList}
use Rattle.file_lists.specs.Info.{AreLoose}
use Rattle.file_lists.specs.Owners.{paths_of}
use Rattle.file_lists.specs.Taking.{HasTakenAll, IsTaking, left_file}
use Rattle.file_lists.specs.Writing.{left_paths, list_file, list_text}
use Rattle.file_removal.specs.declared.leaving.Leaving.{Leaving}
use Rattle.file_removal.specs.Clearing.{cleared, is_among as is_cleared}
use Rattle.file_removal.specs.Removal.{any_path, IsRemoving, Removed}
use Rattle.file_removal.proofs.Lowered.{directory_lowered}
use Rattle.status_db.specs.Held.{is_record_place}
use Rattle.status_records.specs.declared.record.Record.{Record}
use Rattle.listed_files.specs.Closing.{AreSparesLoose, HasReleased, HasRenewed, MayRelease, MayRenew}
use Rattle.unpack_commit.specs.Commit.{Changes, HasCommitted, MayCommit, renewed_lists}
use Rattle.unpack_commit.proofs.Ready.{loose_replaced}

list_is_file : (paths : List Path) → IsFile (list_file paths)
list_is_file paths = (list_text paths, own_access 0o644, refl)

-- while a list is written

pub loose_replacing : (path : Path) (node : Node) (old now : World) (q : Path) → IsFile node → IsReplacing path node old now → NoDirectory (old q) → NoDirectory (now q)
loose_replacing path node old now q file is none = by (bytes_eq q path) (bytes_eq q (temporary path)) refl refl
  where
    by : (b t : Bool) → bytes_eq q path ≡ b → bytes_eq q (temporary path) ≡ t → NoDirectory (now q)
    by true t e f =
        let same : q ≡ path = (bytes_eq-Decides q path).0 e in
        elim is.target [
          | inl kept ↦ no_directory_at (now q) (old q) (ap now same ∙ kept ∙ ap old (sym same)) none
          | inr written ↦ no_directory_at (now q) (Some node) (ap now same ∙ written) (no_directory_file node file)
        ]
    by false true e f = no_directory_at (now q) (now (temporary path)) (ap now ((bytes_eq-Decides q (temporary path)).0 f)) is.spare
    by false false e f = no_directory_at (now q) (old q)
        (is.rest q (λ same. false≢true (sym e ∙ (bytes_eq-Decides q path).1 same)) (λ same. false≢true (sym f ∙ (bytes_eq-Decides q (temporary path)).1 same))) none

-- control files that took the place of others

spare_of : (n : Option Node) (before now : Option Node) → now ≡ cond (is_some n) None before → IsSpare n before now
spare_of None before now e = e
spare_of (Some node) before now e = no_directory_at now None e no_directory_none

pub replaced_replacing : (owner : Path) (new : List Member) (old : List Path) (before now : World) → AreReplaced owner new old before now → AreReplacing owner new old before now
replaced_replacing owner new old before now is = record {
  own = λ name member. inr (is.stands name member);
  spares = λ name member. spare_of (member_node new name) (before (temporary (stored_member_path owner name))) (now (temporary (stored_member_path owner name))) (is.spares name member);
  rest = is.rest;
}

loose_over : (n : Option Node) (among : Bool) (before now : Option Node) → NoDirectory n → NoDirectory before → (now ≡ before) ⊎ (now ≡ over n (cond among None before)) → NoDirectory now
loose_over n among before now whole free (inl e) = no_directory_at now before e free
loose_over (Some x) among before now whole free (inr e) = no_directory_at now (Some x) e whole
loose_over None true before now whole free (inr e) = no_directory_at now None e no_directory_none
loose_over None false before now whole free (inr e) = no_directory_at now before e free

cleared_loose : (n : Option Node) → NoDirectory n → NoDirectory (cleared n)
cleared_loose None none = none
cleared_loose (Some (File bytes access)) none = no_directory_none
cleared_loose (Some (Dir access)) none = none
cleared_loose (Some (Link target)) none = no_directory_none

-- at a path where no directory stands none stands behind a part of a commit, and at each moment of it

module _ (q : Path) where
  removed_loose : (xs : List Leaving) (old new : World) → Removed any_path xs old new → NoDirectory (old q) → NoDirectory (new q)
  removed_loose xs old new removed none = elim (removed.2.each q) [
    | inl gone ↦ no_directory_at (new q) None gone.1 no_directory_none
    | inr kept ↦ no_directory_at (new q) (old q) kept.1 none
  ]

  removing_loose : (xs : List Leaving) (old now : World) → IsRemoving xs old now → NoDirectory (old q) → NoDirectory (now q)
  removing_loose xs old now amid none = elim (amid.each q) [
    | inl same ↦ no_directory_at (now q) (old q) same none
    | inr going ↦ elim going.1 [
      | inl gone ↦ no_directory_at (now q) None gone no_directory_none
      | inr low ↦ no_directory_at (now q) (lowered (old q)) low (λ is. none (directory_lowered (old q) is))
    ]
  ]

  module _ (xs : List Leaving) (list : Path) (listed : List Path) (old : World) where
    renewed_loose : (new : World) → HasRenewed xs list (list_file listed) old new → NoDirectory (old q) → NoDirectory (new q)
    renewed_loose new has none = loose_replaced list (list_file listed) has.mid new q (list_is_file listed) has.replaced (removed_loose xs old has.mid has.removed none)

    renewing_loose : (now : World) → MayRenew xs list (list_file listed) old now → NoDirectory (old q) → NoDirectory (now q)
    renewing_loose now (inl is) none = removing_loose xs old now is none
    renewing_loose now (inr m) none = loose_replacing list (list_file listed) m.0 now q (list_is_file listed) m.2 (removed_loose xs old m.0 m.1 none)

  replacing_loose : (owner : Path) (new : List Member) (stale : List Path) (old now : World) → AreReplacing owner new stale old now → NoDirectory (old q) → NoDirectory (now q)
  replacing_loose owner new stale old now is none d = none (subst IsDirectory (is.rest q (λ name member. (
    λ e. no_directory_at (now q) (now (stored_member_path owner name)) (ap now e)
        (loose_over (member_node new name) (is_among stale name) (old (stored_member_path owner name)) (now (stored_member_path owner name)) (loose_at new name)
        (no_directory_at (old (stored_member_path owner name)) (old q) (ap old (sym e)) none) (is.own name member)) d,
    λ e. no_directory_at (now q) (now (temporary (stored_member_path owner name))) (ap now e)
        (spare_free owner (member_node new name) (old (temporary (stored_member_path owner name))) (now (temporary (stored_member_path owner name)))
        (no_directory_at (old (temporary (stored_member_path owner name))) (old q) (ap old (sym e)) none) (is.spares name member)) d,
  ))) d)

  module _ (ways : Ways) (places from : List Path) (had : List PackageList) (old : World) where
    left_loose : (now : World) (name : Path) → q ≡ list_path name → now (list_path name) ≡ Some (left_file ways places had name) → NoDirectory (now q)
    left_loose now name e is = no_directory_at (now q) (Some (left_file ways places had name)) (ap now e ∙ is)
        (no_directory_file (left_file ways places had name) (list_is_file (left_paths ways places name (paths_of had name))))

    taken_loose : (mid : World) → HasTakenAll ways places from had old mid → AreSparesLoose from mid → NoDirectory (old q) → NoDirectory (mid q)
    taken_loose mid taken spares none d = none (subst IsDirectory (taken.rest q (λ name has. (
      λ e. left_loose mid name e (taken.lists name has) d,
      λ e. no_directory_at (mid q) (mid (temporary (list_path name))) (ap mid e) (spares name has) d,
    ))) d)

    list_loose : (now : World) (name : Path) → q ≡ list_path name → (now (list_path name) ≡ old (list_path name)) ⊎ (now (list_path name) ≡ Some (left_file ways places had name)) → NoDirectory (old q) → NoDirectory (now q)
    list_loose now name e (inl same) none = no_directory_at (now q) (old q) (ap now e ∙ same ∙ ap old (sym e)) none
    list_loose now name e (inr left) none = left_loose now name e left

    taking_loose : (now : World) → IsTaking ways places from had old now → NoDirectory (old q) → NoDirectory (now q)
    taking_loose now is none d = none (subst IsDirectory (is.rest q (λ name has. (
      λ e. list_loose now name e (is.lists name has) none d,
      λ e. no_directory_at (now q) (now (temporary (list_path name))) (ap now e) (is.spares name has) d,
    ))) d)

    module _ (names : List Path) where
      released_loose : (new : World) → HasReleased ways places from had names old new → NoDirectory (old q) → NoDirectory (new q)
      released_loose new has none = no_directory_at (new q) _ (has.cleared.each q) (by (is_cleared names q) (taken_loose has.mid has.taken has.spares none))
        where
          by : (b : Bool) → NoDirectory (has.mid q) → NoDirectory (cond b (cleared (has.mid q)) (has.mid q))
          by true mid = cleared_loose (has.mid q) mid
          by false mid = mid

      releasing_loose : (now : World) → MayRelease ways places from had names old now → NoDirectory (old q) → NoDirectory (now q)
      releasing_loose now (inl is) none = taking_loose now is none
      releasing_loose now (inr m) none =
          let mid = taken_loose m.0 m.1 m.2 none in
          elim (m.3.each q) [
            | inl same ↦ no_directory_at (now q) (m.0 q) same mid
            | inr going ↦ elim going.1 [
              | inl low ↦ no_directory_at (now q) (lowered (m.0 q)) low (λ is. mid (directory_lowered (m.0 q) is))
              | inr gone ↦ no_directory_at (now q) (cleared (m.0 q)) gone (cleared_loose (m.0 q) mid)
            ]
          ]

-- so it is of the whole, where no record is noted

module _ (c : Changes) (ways : Ways) (lists : List PackageList) (old : World) (q : Path) (out : is_record_place q ≡ false) where
  renewed_then : (renewed : World) → HasRenewed c.leaving (list_path c.name) (list_file c.listed) old renewed → NoDirectory (old q) → NoDirectory (renewed q)
  renewed_then renewed first none = renewed_loose q c.leaving (list_path c.name) c.listed old renewed first none

  stored_then : (renewed stored : World) (stale : List Path) → AreReplaced c.name c.members stale renewed stored → NoDirectory (renewed q) → NoDirectory (stored q)
  stored_then renewed stored stale second none = replacing_loose q c.name c.members stale renewed stored (replaced_replacing c.name c.members stale renewed stored second) none

  released_then : (stored released : World) → HasReleased ways c.places c.losers (renewed_lists c ways lists) c.names stored released → NoDirectory (stored q) → NoDirectory (released q)
  released_then stored released third none = released_loose q ways c.places c.losers (renewed_lists c ways lists) stored c.names released third none

  pub committed_loose : (after : List Record) (new : World) → HasCommitted c ways lists after old new → NoDirectory (old q) → NoDirectory (new q)
  committed_loose after new has none = no_directory_at (new q) (has.released q) (has.noted.rest q out)
      (released_then has.stored has.released has.release (stored_then has.renewed has.stored has.stale has.replaced (renewed_then has.renewed has.renewal none)))

  pub committing_loose : (records before : List Record) (now : World) → MayCommit c ways lists records before old now → NoDirectory (old q) → NoDirectory (now q)
  committing_loose records before now (MayCommit.renewing may has opens) none = renewing_loose q c.leaving (list_path c.name) c.listed old now may none
  committing_loose records before now (MayCommit.replacing renewed stale first is has opens) none = replacing_loose q c.name c.members stale renewed now is (renewed_then renewed first none)
  committing_loose records before now (MayCommit.releasing renewed stored stale first second whole may has opens) none =
      releasing_loose q ways c.places c.losers (renewed_lists c ways lists) stored c.names now may (stored_then renewed stored stale second (renewed_then renewed first none))
  committing_loose records before now (MayCommit.noting renewed stored released stale first second whole third is) none =
      no_directory_at (now q) (released q) (is.rest q out) (released_then stored released third (stored_then renewed stored stale second (renewed_then renewed first none)))

module _ (c : Changes) (ways : Ways) (lists : List PackageList) (old : World) where
  pub info_loose : (after : List Record) (new : World) → HasCommitted c ways lists after old new → AreLoose old → AreLoose new
  info_loose after new has loose = λ name plain. committed_loose c ways lists old (info_path ++ 47 ∷ name) refl after new has (loose name plain)

  pub info_loose_amid : (records before : List Record) (now : World) → MayCommit c ways lists records before old now → AreLoose old → AreLoose now
  info_loose_amid records before now may loose = λ name plain. committing_loose c ways lists old (info_path ++ 47 ∷ name) refl records before now may (loose name plain)
