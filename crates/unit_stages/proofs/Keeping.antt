-- Scripts leave the administration in order.
use Rattle.std.proofs.Common.{◌≡◌, ◌||◌, ℕ, Bool, true, false, List, [], ◌∷◌, ◌++◌, codes, nat_eq, refl, sym, ap, subst, ◌∙◌}
use Rattle.std.specs.List.{list_any, starts_with}
use Rattle.std.specs.Str.{bytes_eq}
use Rattle.std.proofs.Math.Logic.{∥∥₁_map}
use Rattle.std.proofs.lemmas.Bool.{true≢false}
use Rattle.std.proofs.lemmas.Slice.Eq.{bytes_eq-Decides}
use Rattle.host_core.specs.Paths.{Path, is_named_by, is_own, is_owned_by, own_places}
use Rattle.host_core.specs.World.{World, IsDirectory, SameOn, is_directory, is_kept}
use Rattle.host_core.specs.Host.{State, Needs, AtEachMomentOf, OnlyScripts}
use Rattle.host_core.proofs.Moments.{since_now}
use Rattle.host_core.proofs.Scripts.{only_kept}
use Rattle.administration.specs.Places.{home_path, info_path, list_path, status_path, temporary, tmp_path, updates_path}
use Rattle.file_lists.specs.Beside.{AreSameBeside}
use Rattle.file_lists.specs.Lists.{HasLists, IsReadable, Lists}
use Rattle.file_lists.specs.Writing.{with_list}
use Rattle.file_lists.proofs.SameBeside.{same_then, with_beside}
use Rattle.file_lists.specs.declared.paths.PackageList.{PackageList}
use Rattle.status_db.specs.Held.{IsKept, is_record_place}
use Rattle.status_db.specs.Recorded.{Recorded}
use Rattle.status_db.proofs.NotedWorlds.{kept_on}
use Rattle.held_administration.specs.Order.{IsInOrder}
use Rattle.unit_stages.specs.Parts.{parts_lists}
use Rattle.unit_stages.specs.declared.part.Part.{Part}
use Rattle.unit_stages.specs.declared.part.Part.TheVariants.{Note, Forget, Settle, Remove, RemoveDirectories, Clear, List as Listing, DropList, DropMembers}
use Rattle.unit_stages.specs.Holding.{is_listing}
use Rattle.unit_stages.specs.Running.{IsOpenable}

-- the names of the administration are kept

true_or : (a b : Bool) → b ≡ true → a || b ≡ true
true_or true b is = refl
true_or false b is = is

or_cases : (a b c : Bool) → (a ≡ true → c ≡ true) → (b ≡ true → c ≡ true) → a || b ≡ true → c ≡ true
or_cases true b c first second is = first refl
or_cases false b c first second is = second is

own_is : (p q : Path) → is_own p ≡ true → bytes_eq q p ≡ true → is_own q ≡ true
own_is p q own same = subst (λ x. is_own x ≡ true) (sym ((bytes_eq-Decides q p).0 same)) own

own_note : (q : Path) → starts_with nat_eq q (updates_path ++ codes "/") ≡ true → is_own q ≡ true
own_note q below = true_or (bytes_eq q (codes "/var/lib/dpkg")) (list_any (is_owned_by q) own_places)
    (true_or (is_owned_by q status_path) _ (or_first _ _ (true_or _ (starts_with nat_eq q (updates_path ++ codes "/")) below)))
  where
    or_first : (a b : Bool) → a ≡ true → a || b ≡ true
    or_first true b is = refl
    or_first false b is = absurd (true≢false (sym is))

pub own_record : (q : Path) → is_record_place q ≡ true → is_own q ≡ true
own_record q = or_cases (bytes_eq q status_path) _ (is_own q) (own_is status_path q refl)
    (or_cases (bytes_eq q (temporary status_path)) _ (is_own q) (own_is (temporary status_path) q refl) (own_note q))

pub kept_own : (places : List Path) (q : Path) → is_own q ≡ true → is_kept places q ≡ true
kept_own places q own = ap (λ b. b || list_any (is_named_by q) places) own

-- what the next opening finds, where all is in order
pub order_opens : (d : Recorded) (lists : List PackageList) (w : World) → IsInOrder d lists w → IsOpenable d.records w
order_opens d lists w order = record {
  records = order.kept.holds;
  opens = record { unblocked = order.kept.unblocked; table = d.records; records = order.kept.holds };
  loose = order.loose;
}

module _ (places : List Path) (v w : World) (same : SameOn (is_kept places) v w) where
  same_own : (q : Path) → is_own q ≡ true → w q ≡ v q
  same_own q own = same q (kept_own places q own)

  records_kept : (d : Recorded) → IsKept d v → IsKept d w
  records_kept d kept = kept_on v w d.records d.notes (λ q is. same_own q (own_record q is))
      (subst IsDirectory (sym (same_own home_path refl)) kept.unblocked.home) (subst IsDirectory (sym (same_own updates_path refl)) kept.unblocked.updates) kept

  lists_kept : (names : List Path) (lists : List PackageList) → HasLists v names lists → HasLists w names lists
  lists_kept names lists has = record {
    readable = λ name known. subst IsReadable (sym (same_own (list_path name) refl)) (has.readable name known);
    whole = λ name q known is. has.whole name q known (subst (λ n. Lists n q) (same_own (list_path name) refl) is);
    sound = λ name q is. let found = has.sound name q is in (found.0, subst (λ n. Lists n q) (sym (same_own (list_path name) refl)) found.1);
  }

  pub order_kept : (d : Recorded) (lists : List PackageList) → IsInOrder d lists v → IsInOrder d lists w
  order_kept d lists order = record {
    home = ap is_directory (same_own home_path refl) ∙ order.home;
    info = ap is_directory (same_own info_path refl) ∙ order.info;
    loose = λ entry plain is. order.loose entry plain (subst IsDirectory (same_own (info_path ++ 47 ∷ entry) refl) is);
    tmp = same_own tmp_path refl ∙ order.tmp;
    kept = records_kept d order.kept;
    listed = ∥∥₁_map order.listed (lists_kept _ lists);
  }

-- and so they leave it behind them
pub order_after : (places : List Path) (d : Recorded) (lists : List PackageList) (a b : State) → Needs a (IsInOrder d lists) → AtEachMomentOf (OnlyScripts (is_kept places)) a b → Needs b (IsInOrder d lists)
order_after places d lists a b order since = λ h.
    order_kept places a.world b.world (only_kept (is_kept places) a.world b.world since.added (since_now (OnlyScripts (is_kept places) a.world) a b since h)) d lists (order (since.honest h))

-- parts write no list but the package's
pub parts_beside : (name : List ℕ) (parts : List Part) (ls : List PackageList) → AreSameBeside name ls (parts_lists name parts ls)
parts_beside name [] ls = record { before = refl; behind = refl }
parts_beside name (Note r ∷ parts) ls = parts_beside name parts ls
parts_beside name (Forget ∷ parts) ls = parts_beside name parts ls
parts_beside name (Settle settled ∷ parts) ls = parts_beside name parts ls
parts_beside name (Remove leaving ∷ parts) ls = parts_beside name parts ls
parts_beside name (RemoveDirectories leaving ∷ parts) ls = parts_beside name parts ls
parts_beside name (Clear names ∷ parts) ls = parts_beside name parts ls
parts_beside name (Listing paths ∷ parts) ls = same_then name ls (with_list name paths ls) (parts_lists name parts (with_list name paths ls)) (with_beside name paths ls) (parts_beside name parts (with_list name paths ls))
parts_beside name (DropList ∷ parts) ls = parts_beside name parts ls
parts_beside name (DropMembers keep_postrm ∷ parts) ls = parts_beside name parts ls

-- parts that write no list leave the lists
pub unlisted : (name : List ℕ) (parts : List Part) (ls : List PackageList) → list_any is_listing parts ≡ false → parts_lists name parts ls ≡ ls
unlisted name [] ls none = refl
unlisted name (Note r ∷ parts) ls none = unlisted name parts ls none
unlisted name (Forget ∷ parts) ls none = unlisted name parts ls none
unlisted name (Settle settled ∷ parts) ls none = unlisted name parts ls none
unlisted name (Remove leaving ∷ parts) ls none = unlisted name parts ls none
unlisted name (RemoveDirectories leaving ∷ parts) ls none = unlisted name parts ls none
unlisted name (Clear names ∷ parts) ls none = unlisted name parts ls none
unlisted name (Listing paths ∷ parts) ls none = absurd (true≢false none)
unlisted name (DropList ∷ parts) ls none = unlisted name parts ls none
unlisted name (DropMembers keep_postrm ∷ parts) ls none = unlisted name parts ls none
