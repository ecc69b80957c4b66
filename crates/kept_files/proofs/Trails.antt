-- What stands at a kept path that the works leave alone, while the rows of an unpack run: the same at each moment.
use Rattle.std.proofs.Common.{◌≡◌, ◌≢◌, ◌||◌, ◌⊎◌, inl, inr, Bool, true, false, List, ◌++◌, Option, refl, ap, ◌∙◌}
use Rattle.std.specs.List.{list_any}
use Rattle.std.proofs.lemmas.List.Folds.{list_any-append}
use Rattle.host_core.specs.Paths.{Path, is_named_by, is_own}
use Rattle.host_core.specs.World.{World, Change, is_kept}
use Rattle.host_core.specs.declared.node.Node.{Node}
use Rattle.host_core.proofs.Scripts.{changed_kept}
use Rattle.administration.specs.Files.{IsReplaced, IsReplacing}
use Rattle.administration.specs.Places.{list_path, temporary}
use Rattle.undo_rows.specs.Place.{Place}
use Rattle.file_lists.specs.Writing.{list_file}
use Rattle.file_check.specs.Rearranged.{IsRearranged}
use Rattle.package_files.specs.declared.work.Work.{Work}
use Rattle.package_files.specs.Files.{Each}
use Rattle.package_files.specs.Names.{IsNamed}
use Rattle.package_files.specs.Free.{IsWrittenFrom}
use Rattle.status_db.specs.Held.{is_record_place}
use Rattle.status_records.specs.declared.record.Record.{Record}
use Rattle.listed_files.specs.Listing.{MayList, MayTurnBack, MayUnlist}
use Rattle.unpack_rows.specs.Stages.{Stage, Unwritten, Wrote, Restored}
use Rattle.unpack_steps.specs.Task.{Task, all_places, name, shipped_places}
use Rattle.unpack_steps.specs.Trail.{Follows, HasCome, HasFiles, HasGoneBack, HasPutAll, HasTurned}
use Rattle.unpack_steps.specs.At.{AreWorksAt, IsAmid}
use Rattle.unpack_steps.proofs.FileWorlds.{still_written}
use Rattle.unpack_steps.proofs.Rearranged.{named_rearranged}
use Rattle.kept_files.proofs.Works.{Spares, amid_leaves, put_leaves, spares_rearranged, undone_leaves, written_leaves}

more_named : (a b c : Bool) → a || b ≡ true → a || (b || c) ≡ true
more_named true b c e = refl
more_named false true c e = refl
more_named false false true c = refl
more_named false false false c = c

-- what is kept stays so with more places
pub more_kept : (places more : List Path) (q : Path) → is_kept places q ≡ true → is_kept (places ++ more) q ≡ true
more_kept places more q is =
    ap (λ b. is_own q || b) (list_any-append (is_named_by q) places more) ∙ more_named (is_own q) (list_any (is_named_by q) places) (list_any (is_named_by q) more) is

-- calls and notes alone
pub follows_leaves : (places : List Path) (q : Path) → is_record_place q ≡ false → is_kept places q ≡ true → (c : Change) (v w : World) → Follows places c v w → w q ≡ v q
follows_leaves places q unnoted kept c v w follows = follows.rest q unnoted ∙ changed_kept (is_kept places) c v follows.avoids q kept

-- a path at which neither a record nor the list is written, and which scripts leave alone
pub record IsHere (t : Task) (q : Path) : Type 0 where
  pub unnoted : is_record_place q ≡ false
  pub unlisted : q ≢ list_path (name t)
  pub unspared : q ≢ temporary (list_path (name t))
  pub kept : is_kept t.places q ≡ true

module _ (t : Task) (q : Path) (node : Option Node) (here : IsHere t q) (stands : t.start.world q ≡ node) where
  followed : (c : Change) (w : World) → Follows t.places c t.start.world w → w q ≡ node
  followed c w follows = follows_leaves t.places q here.unnoted here.kept c t.start.world w follows ∙ stands

  replaced : (new : Node) (v w : World) → v q ≡ node → IsReplaced (list_path (name t)) new v w → w q ≡ node
  replaced new v w is has = has.rest q here.unlisted here.unspared ∙ is

  replacing : (new : Node) (v w : World) → v q ≡ node → IsReplacing (list_path (name t)) new v w → w q ≡ node
  replacing new v w is has = has.rest q here.unlisted here.unspared ∙ is

  module _ (all_named : Each IsNamed t.works) (all_spare : Each (Spares q node) t.works) where
    module _ (works : List Work) (moved : IsRearranged t.works works) where
      named : Each IsNamed works
      named = named_rearranged t.works works moved all_named

      spares : Each (Spares q node) works
      spares = spares_rearranged q node t.works works moved all_spare

      listing_leaves : (paths : List Path) (v w : World) → v q ≡ node → MayList (list_path (name t)) (list_file paths) works v w → w q ≡ node
      listing_leaves paths v w is (inl has) = replacing (list_file paths) v w is has
      listing_leaves paths v w is (inr m) = let mid = replaced (list_file paths) v m.0 is m.1 in amid_leaves q node works spares m.0 m.0 w mid mid m.2

      turning_leaves : (union listed : List Path) (v w : World) → v q ≡ node → MayTurnBack (list_path (name t)) (list_file union) (list_file listed) works v w → w q ≡ node
      turning_leaves union listed v w is (inl may) = listing_leaves union v w is may
      turning_leaves union listed v w is (inr m) =
          replacing (list_file listed) m.1 w (undone_leaves q node works spares m.0 m.1 (replaced (list_file union) v m.0 is m.2) m.3) m.4

      module _ (c : Change) (w : World) (has : HasFiles t works c w) where
        mid_is : has.listed.mid q ≡ node
        mid_is = replaced (list_file t.union) has.found has.listed.mid (followed has.early has.found has.before) has.listed.replaced

        from_mid : IsWrittenFrom works has.listed.mid w
        from_mid = still_written t works c w has moved named

        pub files_leave : w q ≡ node
        files_leave =
            follows_leaves (all_places t) q here.unnoted (more_kept t.places (shipped_places t) q here.kept) has.late has.written w has.since
            ∙ written_leaves q node works spares has.listed.mid has.written mid_is has.listed.written

        unlisting_leaves : (paths : List Path) (u : World) → MayUnlist (list_path (name t)) (list_file paths) works w u → u q ≡ node
        unlisting_leaves paths u (inl going) = amid_leaves q node works spares has.listed.mid w u mid_is files_leave (going has.listed.mid from_mid)
        unlisting_leaves paths u (inr m) = replacing (list_file paths) m.0 u (put_leaves q node works spares has.listed.mid w m.0 mid_is files_leave (m.1 has.listed.mid from_mid)) m.2

      put_all_leaves : (c : Change) (w : World) → HasPutAll t works c w ⊎ HasTurned t works c w → w q ≡ node
      put_all_leaves c w (inl all) =
          replaced (list_file t.listed) all.unlisted.mid w
          (put_leaves q node works spares all.files.listed.mid all.last all.unlisted.mid (mid_is c all.last all.files) (files_leave c all.last all.files)
          (all.unlisted.back all.files.listed.mid (from_mid c all.last all.files))) all.unlisted.replaced
      put_all_leaves c w (inr it) =
          replaced (list_file t.listed) it.turned.back w
          (undone_leaves q node works spares it.turned.mid it.turned.back (replaced (list_file t.union) it.found it.turned.mid (followed c it.found it.before) it.turned.replaced) it.turned.undone) it.turned.unlisted

      gone_back_leaves : (c : Change) (w : World) → HasGoneBack t works c w → w q ≡ node
      gone_back_leaves c w has = follows_leaves t.places q here.unnoted here.kept has.late has.back w has.since ∙ put_all_leaves has.early has.back has.put

    pub come_leaves : (place : Place) (stage : Stage) (works : List Work) → AreWorksAt t place stage works → (c : Change) (w : World) → HasCome t stage works c w → w q ≡ node
    come_leaves place Unwritten works are c w come = followed c w come
    come_leaves place Wrote works are c w come = files_leave works are.same c w come
    come_leaves place Restored works are c w come = gone_back_leaves works are.same c w come

    pub rows_leave : (table : List Record) (c : Change) (w : World) → IsAmid t table c w → w q ≡ node
    rows_leave table c w (IsAmid.untouched follows) = followed c w follows
    rows_leave table c w (IsAmid.writing works found moved marked follows may) = turning_leaves works moved t.union t.listed found w (followed c found follows) may
    rows_leave table c w (IsAmid.written works moved marked has) = files_leave works moved c w has
    rows_leave table c w (IsAmid.going_back works last moved marked has may) = unlisting_leaves works moved c last has t.listed w may
    rows_leave table c w (IsAmid.back works moved has) = gone_back_leaves works moved c w has

  -- nothing was written yet
  pub unwritten_leaves : (c : Change) (w : World) → Follows t.places c t.start.world w → w q ≡ node
  unwritten_leaves c w follows = followed c w follows
