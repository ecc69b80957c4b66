-- Where script calls alone change what stands there, while a unit's rows run.
use Rattle.std.proofs.Common.{◌≡◌, ◌≢◌, ◌||◌, ◌⊎◌, inl, inr, Bool, true, false, List, [], ◌∷◌, ◌++◌, refl, sym, ap, subst, ◌∙◌}
use Rattle.std.specs.List.{list_any}
use Rattle.std.proofs.lemmas.List.Folds.{list_any-append}
use Rattle.host_core.specs.Paths.{Path, is_named_by, is_own}
use Rattle.host_core.specs.World.{World, Avoids, Change, changed, is_kept}
use Rattle.host_core.proofs.Scripts.{Avoids-append, changed-append, changed_at}
use Rattle.administration.specs.Places.{list_path, temporary}
use Rattle.undo_rows.specs.Place.{Place}
use Rattle.file_lists.specs.Writing.{list_file}
use Rattle.file_check.specs.Rearranged.{IsRearranged}
use Rattle.package_files.specs.declared.work.Work.{Work}
use Rattle.package_files.specs.Files.{Each, Misses}
use Rattle.package_files.specs.Names.{IsNamed}
use Rattle.package_files.specs.Back.{CanGoBack}
use Rattle.status_db.specs.Held.{is_record_place}
use Rattle.status_records.specs.declared.record.Record.{Record}
use Rattle.listed_files.specs.Listing.{HasTurnedBack, MayList, MayTurnBack, MayUnlist}
use Rattle.unpack_rows.specs.Stages.{Stage, Unwritten, Wrote, Restored}
use Rattle.unpack_steps.specs.Task.{Task, all_places, name, shipped_places}
use Rattle.unpack_steps.specs.Trail.{Follows, HasCome, HasFiles, HasGoneBack, HasPutAll, HasTurned}
use Rattle.unpack_steps.specs.At.{AreWorksAt, IsAmid}
use Rattle.unpack_steps.proofs.FileWorlds.{still_written}
use Rattle.unpack_steps.proofs.Rearranged.{each_rearranged, named_rearranged}

-- scripts that leave more places alone leave these alone

less_named : (a b c : Bool) → a || (b || c) ≡ false → a || b ≡ false
less_named true b c e = e
less_named false true c e = e
less_named false false c e = refl

less_kept : (places more : List Path) (q : Path) → is_kept (places ++ more) q ≡ false → is_kept places q ≡ false
less_kept places more q out = less_named (is_own q) (list_any (is_named_by q) places) (list_any (is_named_by q) more) (ap (λ b. is_own q || b) (sym (list_any-append (is_named_by q) places more)) ∙ out)

pub less_avoided : (places more : List Path) (c : Change) → Avoids (is_kept (places ++ more)) c → Avoids (is_kept places) c
less_avoided places more [] avoids = tt
less_avoided places more (e ∷ c) avoids = (less_kept places more e.0 avoids.0, less_avoided places more c avoids.1)

module _ (t : Task) where
  files_avoid : (works : List Work) (c : Change) (w : World) → HasFiles t works c w → Avoids (is_kept t.places) c
  files_avoid works c w has = subst (Avoids (is_kept t.places)) (sym has.changes)
      (Avoids-append (is_kept t.places) has.early has.late has.before.avoids (less_avoided t.places (shipped_places t) has.late has.since.avoids))

  put_avoids : (works : List Work) (c : Change) (w : World) → HasPutAll t works c w ⊎ HasTurned t works c w → Avoids (is_kept t.places) c
  put_avoids works c w (inl all) = files_avoid works c all.last all.files
  put_avoids works c w (inr turned) = turned.before.avoids

  gone_back_avoids : (works : List Work) (c : Change) (w : World) → HasGoneBack t works c w → Avoids (is_kept t.places) c
  gone_back_avoids works c w has = subst (Avoids (is_kept t.places)) (sym has.changes)
      (Avoids-append (is_kept t.places) has.early has.late (put_avoids works has.early has.back has.put) has.since.avoids)

  pub come_avoids : (stage : Stage) (works : List Work) (c : Change) (w : World) → HasCome t stage works c w → Avoids (is_kept t.places) c
  come_avoids Unwritten works c w come = come.avoids
  come_avoids Wrote works c w come = files_avoid works c w come
  come_avoids Restored works c w come = gone_back_avoids works c w come

  pub amid_avoids : (table : List Record) (c : Change) (w : World) → IsAmid t table c w → Avoids (is_kept t.places) c
  amid_avoids table c w (IsAmid.untouched follows) = follows.avoids
  amid_avoids table c w (IsAmid.writing works found moved marked follows may) = follows.avoids
  amid_avoids table c w (IsAmid.written works moved marked has) = files_avoid works c w has
  amid_avoids table c w (IsAmid.going_back works last moved marked has may) = files_avoid works c last has
  amid_avoids table c w (IsAmid.back works moved has) = gone_back_avoids works c w has

-- a path at which no record, not the list of this package and no work is written
pub record IsSpared (list : Path) (works : List Work) (q : Path) : Type 0 where
  pub unnoted : is_record_place q ≡ false
  pub unlisted : q ≢ list
  pub unspared : q ≢ temporary list
  pub missed : Each (λ x. Misses x q) works

module _ (t : Task) (q : Path) (spared : IsSpared (list_path (name t)) t.works q) (all_named : Each IsNamed t.works) where
  follows_there : (places : List Path) (c : Change) (v w : World) → Follows places c v w → w q ≡ changed c v q
  follows_there places c v w follows = follows.rest q spared.unnoted

  -- calls, after calls that had led there
  follows_on : (places : List Path) (c d e : Change) (u v w : World) → e ≡ c ++ d → v q ≡ changed c u q → Follows places d v w → w q ≡ changed e u q
  follows_on places c d e u v w is before follows =
      follows_there places d v w follows ∙ changed_at d v (changed c u) q before ∙ ap (λ (x : World). x q) (sym (changed-append c d u)) ∙ ap (λ x. changed x u q) (sym is)

  module _ (works : List Work) (moved : IsRearranged t.works works) where
    named : Each IsNamed works
    named = named_rearranged t.works works moved all_named

    miss : Each (λ x. Misses x q) works
    miss = each_rearranged (λ x. Misses x q) (λ x m. record { target = m.target; backup = m.backup; fresh = m.fresh }) (λ x m. record { target = m.target; backup = m.backup; fresh = m.fresh }) t.works works moved spared.missed

    listing_there : (paths : List Path) (v w : World) → MayList (list_path (name t)) (list_file paths) works v w → w q ≡ v q
    listing_there paths v w (inl is) = is.rest q spared.unlisted spared.unspared
    listing_there paths v w (inr m) = m.2.rest q miss ∙ m.1.rest q spared.unlisted spared.unspared

    turned_there : (union listed : List Path) (v w : World) → HasTurnedBack (list_path (name t)) (list_file union) (list_file listed) works v w → w q ≡ v q
    turned_there union listed v w has =
        has.unlisted.rest q spared.unlisted spared.unspared ∙ has.undone.rest q miss ∙ has.replaced.rest q spared.unlisted spared.unspared

    turning_there : (union listed : List Path) (v w : World) → MayTurnBack (list_path (name t)) (list_file union) (list_file listed) works v w → w q ≡ v q
    turning_there union listed v w (inl may) = listing_there union v w may
    turning_there union listed v w (inr m) =
        m.4.rest q spared.unlisted spared.unspared ∙ m.3.rest q miss ∙ m.2.rest q spared.unlisted spared.unspared

    files_there : (c : Change) (w : World) → HasFiles t works c w → w q ≡ changed c t.start.world q
    files_there c w has = follows_on (all_places t) has.early has.late c t.start.world has.written w has.changes
        (has.listed.written.rest q miss ∙ has.listed.replaced.rest q spared.unlisted spared.unspared ∙ follows_there t.places has.early t.start.world has.found has.before)
        has.since

    can_go_back : (c : Change) (w : World) → HasFiles t works c w → CanGoBack works w
    can_go_back c w has = (has.listed.mid, still_written t works c w has moved named)

    unlisting_there : (paths : List Path) (c : Change) (v w : World) → HasFiles t works c v → MayUnlist (list_path (name t)) (list_file paths) works v w → w q ≡ v q
    unlisting_there paths c v w has (inl is) = let can = can_go_back c v has in (is can.0 can.1).rest q miss
    unlisting_there paths c v w has (inr m) = let can = can_go_back c v has in m.2.rest q spared.unlisted spared.unspared ∙ (m.1 can.0 can.1).rest q miss

    put_there : (c : Change) (w : World) → HasPutAll t works c w ⊎ HasTurned t works c w → w q ≡ changed c t.start.world q
    put_there c w (inl all) =
        let can = can_go_back c all.last all.files in
        all.unlisted.replaced.rest q spared.unlisted spared.unspared ∙ (all.unlisted.back can.0 can.1).rest q miss ∙ files_there c all.last all.files
    put_there c w (inr turned) = turned_there t.union t.listed turned.found w turned.turned ∙ follows_there t.places c t.start.world turned.found turned.before

    gone_back_there : (c : Change) (w : World) → HasGoneBack t works c w → w q ≡ changed c t.start.world q
    gone_back_there c w has =
        follows_on t.places has.early has.late c t.start.world has.back w has.changes (put_there has.early has.back has.put) has.since

  pub come_there : (place : Place) (stage : Stage) (works : List Work) → AreWorksAt t place stage works → (c : Change) (w : World) → HasCome t stage works c w → w q ≡ changed c t.start.world q
  come_there place Unwritten works are c w come = follows_there t.places c t.start.world w come
  come_there place Wrote works are c w come = files_there works are.same c w come
  come_there place Restored works are c w come = gone_back_there works are.same c w come

  pub amid_there : (table : List Record) (c : Change) (w : World) → IsAmid t table c w → w q ≡ changed c t.start.world q
  amid_there table c w (IsAmid.untouched follows) = follows_there t.places c t.start.world w follows
  amid_there table c w (IsAmid.writing works found moved marked follows may) = turning_there works moved t.union t.listed found w may ∙ follows_there t.places c t.start.world found follows
  amid_there table c w (IsAmid.written works moved marked has) = files_there works moved c w has
  amid_there table c w (IsAmid.going_back works last moved marked has may) = unlisting_there works moved t.listed c last w has may ∙ files_there works moved c last has
  amid_there table c w (IsAmid.back works moved has) = gone_back_there works moved c w has
