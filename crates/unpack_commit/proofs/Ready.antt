-- The parts of a commit leave no directory in the way of those behind them.
use Rattle.std.proofs.Common.{◌≡◌, ◌≢◌, Bool, true, false, List, ◌∷◌, ◌++◌, codes, length, refl, sym, ap, subst, ◌∙◌, arith, Some}
use Rattle.std.specs.Str.{bytes_eq}
use Rattle.std.proofs.lemmas.Bool.{false≢true}
use Rattle.std.proofs.lemmas.Slice.Eq.{bytes_eq-Decides}
use Rattle.host_core.specs.Paths.{Path}
use Rattle.host_core.specs.World.{World, IsDirectory, IsFile}
use Rattle.host_core.specs.Nodes.{own_access}
use Rattle.host_core.specs.declared.node.Node.{Node}
use Rattle.administration.specs.Files.{IsReplaced, NoDirectory}
use Rattle.administration.specs.Places.{home_path, info_path, is_within, list_path, temporary}
use Rattle.administration.proofs.WholeFiles.{no_directory_at, no_directory_file, no_directory_none}
use Rattle.administration.proofs.Within.{below_within}
use Rattle.control_members.specs.Names.{is_member_name}
use Rattle.control_members.specs.Stored.{IsMembersReady, KeepsBesideWritten, stored_member_path}
use Rattle.control_members.proofs.Apart.{info_no_temporary, info_other, no_list, no_list_temporary, no_temporary, same_of_temporaries}
use Rattle.control_members.proofs.Replacing.{ready_beside}
use Rattle.file_lists.specs.Writing.{IsListReady, list_file, list_text}
use Rattle.file_removal.specs.declared.leaving.Leaving.{Leaving}
use Rattle.file_removal.specs.Removal.{any_path}
use Rattle.listed_files.specs.Closing.{HasRenewed, SparesAdministration}
use Rattle.listed_files.proofs.Areas.{renewed_keeps}
use Rattle.listed_files.proofs.Closings.{ready_removed}
use Rattle.unpack_commit.proofs.Stays.{no_renewed_place}

-- names in `info` that are no list's

pub info_is_no_list : (name : Path) → (info_path ≢ list_path name) × (info_path ≢ temporary (list_path name))
info_is_no_list name = (λ e. absurd (omega (arith, ap length e)), λ e. absurd (omega (arith, ap length e)))

pub member_is_no_list : (owner word name : Path) → is_member_name word ≡ true → (stored_member_path owner word ≢ list_path name) × (stored_member_path owner word ≢ temporary (list_path name))
member_is_no_list owner word name member = (no_list owner name word member, no_temporary owner word (list_path name) member)

pub spare_is_no_list : (owner word name : Path) → is_member_name word ≡ true → (temporary (stored_member_path owner word) ≢ list_path name) × (temporary (stored_member_path owner word) ≢ temporary (list_path name))
spare_is_no_list owner word name member = (
  λ e. no_list_temporary name (stored_member_path owner word) (sym e),
  λ e. no_list owner name word member (same_of_temporaries (stored_member_path owner word) (list_path name) e),
)

-- control files, once the list was written

module _ (xs : List Leaving) (name : Path) (node : Node) (old new : World) (spares : SparesAdministration xs) (has : HasRenewed xs (list_path name) node old new) where
  pub renewed_same : (q : Path) → is_within home_path q ≡ true → q ≢ list_path name → q ≢ temporary (list_path name) → new q ≡ old q
  renewed_same q within ne_list ne_spare = renewed_keeps xs (list_path name) node old new has q (no_renewed_place xs (list_path name) q spares within ne_list ne_spare)

  pub members_ready_renewed : (owner : Path) → IsMembersReady owner old → IsMembersReady owner new
  members_ready_renewed owner ready =
      let info = info_is_no_list name in
      ready_beside owner old new (renewed_same info_path refl info.0 info.1) (λ word member. (let m = member_is_no_list owner word name member in
      let s = spare_is_no_list owner word name member in (
        renewed_same (stored_member_path owner word) (below_within home_path (codes "info/" ++ (owner ++ 46 ∷ word))) m.0 m.1,
        renewed_same (temporary (stored_member_path owner word)) (below_within home_path ((codes "info/" ++ (owner ++ 46 ∷ word)) ++ codes ".dpkg-inst")) s.0 s.1,
      ))) ready

-- lists, once another was written

pub loose_replaced : (path : Path) (node : Node) (old new : World) (q : Path) → IsFile node → IsReplaced path node old new → NoDirectory (old q) → NoDirectory (new q)
loose_replaced path node old new q file is none = by (bytes_eq q path) (bytes_eq q (temporary path)) refl refl
  where
    by : (b t : Bool) → bytes_eq q path ≡ b → bytes_eq q (temporary path) ≡ t → NoDirectory (new q)
    by true t e f = no_directory_at (new q) (Some node) (ap new ((bytes_eq-Decides q path).0 e) ∙ is.target) (no_directory_file node file)
    by false true e f = no_directory_at (new q) _ (ap new ((bytes_eq-Decides q (temporary path)).0 f) ∙ is.spare) no_directory_none
    by false false e f = no_directory_at (new q) (old q)
        (is.rest q (λ same. false≢true (sym e ∙ (bytes_eq-Decides q path).1 same)) (λ same. false≢true (sym f ∙ (bytes_eq-Decides q (temporary path)).1 same))) none

pub list_ready_renewed : (xs : List Leaving) (name : Path) (listed : List Path) (old new : World) (other : Path) → SparesAdministration xs → HasRenewed xs (list_path name) (list_file listed) old new → IsListReady other old → IsListReady other new
list_ready_renewed xs name listed old new other spares has ready =
    let mid = ready_removed any_path other xs old has.mid spares has.removed ready in
    let info = info_is_no_list name in
    let file : IsFile (list_file listed) = (list_text listed, own_access 0o644, refl) in
    record {
      info = subst IsDirectory (sym (has.replaced.rest info_path info.0 info.1)) mid.info;
      target = loose_replaced (list_path name) (list_file listed) has.mid new (list_path other) file has.replaced mid.target;
      spare = loose_replaced (list_path name) (list_file listed) has.mid new (temporary (list_path other)) file has.replaced mid.spare;
    }

-- lists, once control files were stored

pub list_is_no_member : (owner name : Path) (word : Path) → is_member_name word ≡ true → (list_path name ≢ stored_member_path owner word) × (list_path name ≢ temporary (stored_member_path owner word))
list_is_no_member owner name word member = (λ e. (member_is_no_list owner word name member).0 (sym e), λ e. (spare_is_no_list owner word name member).0 (sym e))

pub list_spare_is_no_member : (owner name : Path) (word : Path) → is_member_name word ≡ true → (temporary (list_path name) ≢ stored_member_path owner word) × (temporary (list_path name) ≢ temporary (stored_member_path owner word))
list_spare_is_no_member owner name word member = (λ e. (member_is_no_list owner word name member).1 (sym e), λ e. (spare_is_no_list owner word name member).1 (sym e))

pub list_ready_stored : (owner : Path) (old new : World) (name : Path) → KeepsBesideWritten owner old new → IsListReady name old → IsListReady name new
list_ready_stored owner old new name rest ready = record {
  info = subst IsDirectory (sym (rest info_path (λ word member. (info_other owner word, info_no_temporary owner word)))) ready.info;
  target = no_directory_at (new (list_path name)) (old (list_path name)) (rest (list_path name) (list_is_no_member owner name)) ready.target;
  spare = no_directory_at (new (temporary (list_path name))) (old (temporary (list_path name))) (rest (temporary (list_path name)) (list_spare_is_no_member owner name)) ready.spare;
}
