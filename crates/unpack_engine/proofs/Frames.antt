-- While rows run the administration stays as it was, but for records and the package's list.
use Rattle.std.proofs.Common.{◌≡◌, ◌≢◌, ◌||◌, ◌⊎◌, inl, inr, true, false, List, Some, ap, ◌∙◌}
use Rattle.std.specs.List.{list_any}
use Rattle.host_core.specs.Paths.{Path, is_below_administration, is_named_by, is_own}
use Rattle.host_core.specs.World.{World, Change, is_kept}
use Rattle.host_core.proofs.Scripts.{changed_kept}
use Rattle.administration.specs.Places.{list_path, temporary}
use Rattle.undo_rows.specs.Place.{Place}
use Rattle.file_lists.specs.Writing.{list_file}
use Rattle.file_check.specs.Rearranged.{IsRearranged}
use Rattle.package_files.specs.declared.work.Work.{Work}
use Rattle.package_files.specs.Files.{Each, Misses}
use Rattle.package_files.specs.Names.{IsNamed}
use Rattle.package_files.specs.Back.{CanGoBack}
use Rattle.status_db.specs.Held.{is_record_place}
use Rattle.status_records.specs.declared.record.Record.{Record}
use Rattle.listed_files.specs.Listing.{HasTurnedBack, MayList, MayTurnBack, MayUnlist}
use Rattle.listed_files.proofs.Listings.{all_miss}
use Rattle.unpack_rows.specs.Stages.{Stage, Unwritten, Wrote, Restored}
use Rattle.unpack_steps.specs.Task.{Task, all_places, name}
use Rattle.unpack_steps.specs.Trail.{Follows, HasCome, HasFiles, HasGoneBack, HasPutAll, HasTurned}
use Rattle.unpack_steps.specs.At.{AreWorksAt, IsAmid}
use Rattle.unpack_steps.proofs.FileWorlds.{still_written}
use Rattle.unpack_steps.proofs.Rearranged.{named_rearranged}

-- a path of the program's own in the administration, at which no record and no list of this package is written
pub record IsBeside (list q : Path) : Type 0 where
  pub own : is_own q ≡ true
  pub below : is_below_administration q ≡ true
  pub unnoted : is_record_place q ≡ false
  pub unlisted : q ≢ list
  pub unspared : q ≢ temporary list

-- the list of before stands again
pub put_list : (t : Task) (works : List Work) (c : Change) (back : World) → HasPutAll t works c back ⊎ HasTurned t works c back → back (list_path (name t)) ≡ Some (list_file t.listed)
put_list t works c back (inl all) = all.unlisted.replaced.target
put_list t works c back (inr turned) = turned.turned.unlisted.target

module _ (t : Task) (q : Path) (beside : IsBeside (list_path (name t)) q) (all_named : Each IsNamed t.works) where
  pub follows_same : (places : List Path) (c : Change) (v w : World) → Follows places c v w → w q ≡ v q
  follows_same places c v w follows = follows.rest q beside.unnoted ∙ changed_kept (is_kept places) c v follows.avoids q (ap (λ b. b || list_any (is_named_by q) places) beside.own)

  module _ (works : List Work) (moved : IsRearranged t.works works) where
    named : Each IsNamed works
    named = named_rearranged t.works works moved all_named

    miss : Each (λ x. Misses x q) works
    miss = all_miss works q named beside.below

    pub listing_same : (paths : List Path) (v w : World) → MayList (list_path (name t)) (list_file paths) works v w → w q ≡ v q
    listing_same paths v w (inl is) = is.rest q beside.unlisted beside.unspared
    listing_same paths v w (inr m) = m.2.rest q miss ∙ m.1.rest q beside.unlisted beside.unspared

    turned_same : (union listed : List Path) (v w : World) → HasTurnedBack (list_path (name t)) (list_file union) (list_file listed) works v w → w q ≡ v q
    turned_same union listed v w has =
        has.unlisted.rest q beside.unlisted beside.unspared ∙ has.undone.rest q miss ∙ has.replaced.rest q beside.unlisted beside.unspared

    pub turning_same : (union listed : List Path) (v w : World) → MayTurnBack (list_path (name t)) (list_file union) (list_file listed) works v w → w q ≡ v q
    turning_same union listed v w (inl may) = listing_same union v w may
    turning_same union listed v w (inr m) =
        m.4.rest q beside.unlisted beside.unspared ∙ m.3.rest q miss ∙ m.2.rest q beside.unlisted beside.unspared

    pub files_same : (c : Change) (w : World) → HasFiles t works c w → w q ≡ t.start.world q
    files_same c w has = follows_same (all_places t) has.late has.written w has.since
        ∙ has.listed.written.rest q miss ∙ has.listed.replaced.rest q beside.unlisted beside.unspared
        ∙ follows_same t.places has.early t.start.world has.found has.before

    can_go_back : (c : Change) (w : World) → HasFiles t works c w → CanGoBack works w
    can_go_back c w has = (has.listed.mid, still_written t works c w has moved named)

    pub unlisting_same : (paths : List Path) (c : Change) (v w : World) → HasFiles t works c v → MayUnlist (list_path (name t)) (list_file paths) works v w → w q ≡ v q
    unlisting_same paths c v w has (inl is) = let can = can_go_back c v has in (is can.0 can.1).rest q miss
    unlisting_same paths c v w has (inr m) = let can = can_go_back c v has in m.2.rest q beside.unlisted beside.unspared ∙ (m.1 can.0 can.1).rest q miss

    put_same : (c : Change) (w : World) → HasPutAll t works c w ⊎ HasTurned t works c w → w q ≡ t.start.world q
    put_same c w (inl all) =
        let can = can_go_back c all.last all.files in
        all.unlisted.replaced.rest q beside.unlisted beside.unspared ∙ (all.unlisted.back can.0 can.1).rest q miss ∙ files_same c all.last all.files
    put_same c w (inr turned) = turned_same t.union t.listed turned.found w turned.turned ∙ follows_same t.places c t.start.world turned.found turned.before

    pub gone_back_same : (c : Change) (w : World) → HasGoneBack t works c w → w q ≡ t.start.world q
    gone_back_same c w has = follows_same t.places has.late has.back w has.since ∙ put_same has.early has.back has.put

  pub come_same : (place : Place) (stage : Stage) (works : List Work) → AreWorksAt t place stage works → (c : Change) (w : World) → HasCome t stage works c w → w q ≡ t.start.world q
  come_same place Unwritten works are c w come = follows_same t.places c t.start.world w come
  come_same place Wrote works are c w come = files_same works are.same c w come
  come_same place Restored works are c w come = gone_back_same works are.same c w come

  pub amid_same : (table : List Record) (c : Change) (w : World) → IsAmid t table c w → w q ≡ t.start.world q
  amid_same table c w (IsAmid.untouched follows) = follows_same t.places c t.start.world w follows
  amid_same table c w (IsAmid.writing works found moved marked follows may) = turning_same works moved t.union t.listed found w may ∙ follows_same t.places c t.start.world found follows
  amid_same table c w (IsAmid.written works moved marked has) = files_same works moved c w has
  amid_same table c w (IsAmid.going_back works last moved marked has may) = unlisting_same works moved t.listed c last w has may ∙ files_same works moved c last has
  amid_same table c w (IsAmid.back works moved has) = gone_back_same works moved c w has
