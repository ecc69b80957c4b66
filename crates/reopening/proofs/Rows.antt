-- While the rows of an unpack run, no opening refuses what stands in `info`.
use Rattle.std.proofs.Common.{◌≡◌, ◌≢◌, inl, inr, true, List, refl, sym, subst, ◌∙◌}
use Rattle.texts.specs.PackageNames.{is_package_name}
use Rattle.host_core.proofs.Paths.{decide}
use Rattle.host_core.specs.Paths.{Path}
use Rattle.host_core.proofs.Scripts.{changed_kept}
use Rattle.host_core.specs.World.{Change, World, is_kept}
use Rattle.administration.specs.Places.{list_path, script_path, temporary}
use Rattle.undo_rows.specs.Place.{Place}
use Rattle.control_members.proofs.Apart.{no_list_temporary}
use Rattle.file_lists.specs.Info.{IsLink}
use Rattle.file_lists.specs.Lists.{IsReadable}
use Rattle.file_lists.specs.Writing.{list_file}
use Rattle.file_check.specs.Rearranged.{IsRearranged}
use Rattle.package_files.specs.Files.{Each, Misses}
use Rattle.package_files.specs.Names.{IsNamed}
use Rattle.package_files.specs.declared.work.Work.{Work}
use Rattle.package_files.specs.Back.{CanGoBack}
use Rattle.status_records.specs.declared.record.Record.{Record}
use Rattle.unpack_commit.proofs.Left.{same_list}
use Rattle.unpack_engine.proofs.Frames.{IsBeside, amid_same, come_same, put_list}
use Rattle.listed_files.proofs.Listings.{all_miss}
use Rattle.listed_files.specs.Listing.{MayList, MayTurnBack, MayUnlist}
use Rattle.unpack_rows.specs.Stages.{Stage, Unwritten, Wrote, Restored}
use Rattle.unpack_steps.proofs.FileWorlds.{still_written}
use Rattle.unpack_steps.proofs.Rearranged.{named_rearranged}
use Rattle.unpack_steps.specs.At.{AreWorksAt, IsAmid}
use Rattle.unpack_steps.specs.Task.{Task, all_places, name}
use Rattle.unpack_steps.specs.Trail.{Follows, HasCome, HasFiles, HasGoneBack}
use Rattle.reopening.proofs.Inside.{IsInside, IsQuiet, kept_inside, list_inside, script_inside}
use Rattle.reopening.proofs.Steps.{AreGood, good_readable, one_written, script_no_list, script_no_spare}

-- where all stays but one list
beside_of : (own q : Path) → IsInside q → q ≢ list_path own → q ≢ temporary (list_path own) → IsBeside (list_path own) q
beside_of own q inside unlisted unspared = record { own = inside.own; below = inside.below; unnoted = inside.unnoted; unlisted = unlisted; unspared = unspared }

pub quiet_beside : (own : Path) (old now : World) → is_package_name own ≡ true → ((q : Path) → IsBeside (list_path own) q → now q ≡ old q) → (IsReadable (old (list_path own)) → IsReadable (now (list_path own))) → IsQuiet old now
quiet_beside own old now named same list = record {
  stays = λ q unnamed. (let others = unnamed.others own named in same q (beside_of own q unnamed.inside others.list.0 others.list.1));
  links = λ owner script link.
      subst IsLink (same (script_path owner script) (beside_of own (script_path owner script) (script_inside owner script) (script_no_list owner own script) (script_no_spare owner (list_path own) script))) link;
  lists = λ q readable. elim (decide q own) [
    | inl is ↦ subst (λ (n : Path). IsReadable (now (list_path n))) (sym is) (list (subst (λ (n : Path). IsReadable (old (list_path n))) is readable))
    | inr other ↦ subst IsReadable (sym (same (list_path q) (beside_of own (list_path q) (list_inside q) (λ e. other (same_list q own e)) (no_list_temporary q (list_path own))))) readable
  ];
}

module _ (t : Task) (named : is_package_name (name t) ≡ true) (works_named : Each IsNamed t.works) (union : AreGood t.union) (listed : AreGood t.listed) where
  abbrev list : Path
  list = list_path (name t)

  -- the package's list, by what was done so far

  follows_list : (places : List Path) (c : Change) (v w : World) → Follows places c v w → w list ≡ v list
  follows_list places c v w follows = follows.rest list refl ∙ changed_kept (is_kept places) c v follows.avoids list (kept_inside places list (list_inside (name t)))

  module _ (works : List Work) (moved : IsRearranged t.works works) where
    all_named : Each IsNamed works
    all_named = named_rearranged t.works works moved works_named

    miss : Each (λ x. Misses x list) works
    miss = all_miss works list all_named refl

    listing_list : (v w : World) → MayList list (list_file t.union) works v w → IsReadable (v list) → IsReadable (w list)
    listing_list v w (inl is) readable = one_written (v list) (w list) t.union union is.target readable
    listing_list v w (inr m) readable = subst IsReadable (sym (m.2.rest list miss ∙ m.1.target)) (good_readable t.union union)

    files_list : (c : Change) (w : World) → HasFiles t works c w → IsReadable (w list)
    files_list c w has = subst IsReadable (sym (follows_list (all_places t) has.late has.written w has.since ∙ has.listed.written.rest list miss ∙ has.listed.replaced.target)) (good_readable t.union union)

    can_go_back : (c : Change) (w : World) → HasFiles t works c w → CanGoBack works w
    can_go_back c w has = (has.listed.mid, still_written t works c w has moved all_named)

    turning_list : (v w : World) → MayTurnBack list (list_file t.union) (list_file t.listed) works v w → IsReadable (v list) → IsReadable (w list)
    turning_list v w (inl may) readable = listing_list v w may readable
    turning_list v w (inr m) readable = one_written (m.1 list) (w list) t.listed listed m.4.target (subst IsReadable (sym (m.3.rest list miss ∙ m.2.target)) (good_readable t.union union))

    unlisting_list : (c : Change) (v w : World) → HasFiles t works c v → MayUnlist list (list_file t.listed) works v w → IsReadable (w list)
    unlisting_list c v w has (inl is) = let can = can_go_back c v has in subst IsReadable (sym ((is can.0 can.1).rest list miss)) (files_list c v has)
    unlisting_list c v w has (inr m) =
        let can = can_go_back c v has in
        one_written (m.0 list) (w list) t.listed listed m.2.target (subst IsReadable (sym ((m.1 can.0 can.1).rest list miss)) (files_list c v has))

    gone_back_list : (c : Change) (w : World) → HasGoneBack t works c w → IsReadable (w list)
    gone_back_list c w has = subst IsReadable (sym (follows_list t.places has.late has.back w has.since ∙ put_list t works has.early has.back has.put)) (good_readable t.listed listed)

  amid_list : (table : List Record) (c : Change) (w : World) → IsAmid t table c w → IsReadable (t.start.world list) → IsReadable (w list)
  amid_list table c w (IsAmid.untouched follows) readable = subst IsReadable (sym (follows_list t.places c t.start.world w follows)) readable
  amid_list table c w (IsAmid.writing works found moved marked follows may) readable = turning_list works moved found w may (subst IsReadable (sym (follows_list t.places c t.start.world found follows)) readable)
  amid_list table c w (IsAmid.written works moved marked has) readable = files_list works moved c w has
  amid_list table c w (IsAmid.going_back works last moved marked has may) readable = unlisting_list works moved c last w has may
  amid_list table c w (IsAmid.back works moved has) readable = gone_back_list works moved c w has

  come_list : (place : Place) (stage : Stage) (works : List Work) → AreWorksAt t place stage works → (c : Change) (w : World) → HasCome t stage works c w → IsReadable (t.start.world list) → IsReadable (w list)
  come_list place Unwritten works are c w come readable = subst IsReadable (sym (follows_list t.places c t.start.world w come)) readable
  come_list place Wrote works are c w come readable = files_list works are.same c w come
  come_list place Restored works are c w come readable = gone_back_list works are.same c w come

  -- at each moment, and where they end
  pub amid_quiet : (table : List Record) (c : Change) (w : World) → IsAmid t table c w → IsQuiet t.start.world w
  amid_quiet table c w amid = quiet_beside (name t) t.start.world w named (λ q beside. amid_same t q beside works_named table c w amid) (amid_list table c w amid)

  pub come_quiet : (place : Place) (stage : Stage) (works : List Work) → AreWorksAt t place stage works → (c : Change) (w : World) → HasCome t stage works c w → IsQuiet t.start.world w
  come_quiet place stage works are c w come =
      quiet_beside (name t) t.start.world w named (λ q beside. come_same t q beside works_named place stage works are c w come) (come_list place stage works are c w come)
