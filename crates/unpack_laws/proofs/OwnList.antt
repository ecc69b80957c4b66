-- The list of the package at each moment of a unit.
use Rattle.std.proofs.Common.{◌≡◌, ◌⊎◌, inl, inr, ℕ, Bool, true, false, nat_le, length, List, [], ◌∷◌, Option, Some, None, Contains, refl, sym, ap, subst, ◌∙◌}
use Rattle.std.specs.List.{AllByRecursion}
use Rattle.std.proofs.lemmas.Bool.{or_from}
use Rattle.host_core.specs.Paths.{Path}
use Rattle.host_core.specs.World.{World, Change, is_kept}
use Rattle.host_core.specs.Events.{Event}
use Rattle.host_core.specs.Host.{State}
use Rattle.host_core.proofs.Scripts.{changed_kept}
use Rattle.host_core.specs.declared.node.Node.{Node}
use Rattle.administration.specs.Places.{list_path}
use Rattle.undo_rows.specs.Place.{Place}
use Rattle.undo_rows.specs.Transcripts.{Ended, Committed, Unwound}
use Rattle.control_members.specs.Stored.{AreReplaced}
use Rattle.file_lists.specs.Writing.{list_file}
use Rattle.file_lists.specs.declared.paths.PackageList.{PackageList}
use Rattle.file_check.specs.Rearranged.{IsRearranged}
use Rattle.package_files.specs.declared.work.Work.{Work}
use Rattle.package_files.specs.Files.{Each, Misses}
use Rattle.package_files.specs.Back.{CanGoBack}
use Rattle.package_tree.specs.ShipMap.{paths_of as shipped_paths}
use Rattle.status_records.specs.Records.{record_in}
use Rattle.status_records.specs.declared.record.Record.{Record}
use Rattle.unpack_commit.specs.Commit.{AreNoting, Changes, HasCommitted, MayCommit, renewed_lists}
use Rattle.unpack_commit.specs.Takeover.{put_records, taken_places}
use Rattle.unpack_commit.proofs.Left.{list_within, no_other, own_list}
use Rattle.unpack_commit.proofs.Ready.{list_is_no_member}
use Rattle.unpack_commit.proofs.Stays.{no_leaving_place}
use Rattle.file_removal.specs.Removal.{any_path}
use Rattle.listed_files.specs.Areas.{is_leaving_place, is_list_place}
use Rattle.listed_files.specs.Closing.{HasReleased, HasRenewed, MayRenew}
use Rattle.listed_files.specs.Listing.{MayList, MayTurnBack, MayUnlist}
use Rattle.listed_files.proofs.Apart.{list_below}
use Rattle.listed_files.proofs.Areas.{released_keeps, releasing_keeps, renewing_keeps}
use Rattle.listed_files.proofs.Closings.{removed_stays}
use Rattle.listed_files.proofs.Listings.{all_miss}
use Rattle.unpack_plan.specs.Lists.{IsUnion}
use Rattle.unpack_plan.specs.Planned.{IsPlanned, Planned}
use Rattle.unpack_plan.specs.Records.{IsFresh}
use Rattle.unpack_rows.specs.Kinds.{kinds_of}
use Rattle.unpack_rows.specs.Notes.{as_before, half_configured}
use Rattle.unpack_rows.specs.Stages.{Stage, Unwritten, Wrote, Restored, stage_of}
use Rattle.unpack_rows.specs.declared.notes.Note.TheVariants.{Put}
use Rattle.unpack_rows.specs.declared.rows.Present.{Present}
use Rattle.unpack_steps.specs.At.{AreWorksAt, IsAmid}
use Rattle.unpack_steps.specs.Task.{Task, all_places, lists_at, state_on}
use Rattle.unpack_steps.specs.Trail.{Follows, HasCome, HasFiles, HasGoneBack}
use Rattle.unpack_steps.proofs.FileWorlds.{still_written}
use Rattle.unpack_steps.proofs.Rearranged.{named_rearranged}
use Rattle.unpack_steps.specs.Clearing.{MayClear, is_gone, next_ready}
use Rattle.unpack_laws.proofs.Alone.{Based, based_amid}
use Rattle.unpack_engine.specs.Units.{Given, Ground, HasDropped, HasFollowed, IsAmidUnit, IsRunning, IsStage, MayDrop, MayFollow, MayLeave, MayLeaveBy, changes, commit_records, ground_of, job_of, last_place, package_name, table_after, task_from, unit_losers}
use Rattle.unpack_engine.proofs.Frames.{put_list}
use Rattle.unpack_engine.proofs.Losing.{loser_other}
use Rattle.unpack_laws.specs.InHand.{unit_found, unit_listed, unit_name, unit_yielding}
use Rattle.unpack_laws.specs.Whole.{IsOwnList}
use Rattle.unpack_laws.proofs.NotedRecords.{AreGoodRows, IsGoodNote, record_at}

no_record : {X : Type 0} (r : Record) → Some r ≡ None → X
no_record r e = absurd (let same : Some r ≡ None = e in cc)

module _ (g : Given) (stored : Present) (p : Planned) (plan : IsPlanned (job_of g stored) p) (places : List Path) where
  abbrev here : Ground
  here = ground_of g places

  abbrev own : List ℕ
  own = package_name here p

  abbrev list : Path
  list = list_path own

  found_is : p.found ≡ unit_found g
  found_is = plan.records_are.found_is

  listed_is : p.listed ≡ unit_listed g
  listed_is = plan.lists_are.listed_is

  -- how the rows leave it

  joins : (before : Option Node) (now : Option Node) → now ≡ Some (list_file p.union) → IsOwnList g before now
  joins before now is = IsOwnList.joined p.union (subst (λ (l : List Path). IsUnion l (shipped_paths g.«package».files) p.union) listed_is plan.lists_are.union_is) is

  restores : (before : Option Node) (now : Option Node) → now ≡ Some (list_file p.listed) → IsOwnList g before now
  restores before now is = IsOwnList.restored (is ∙ ap (λ (l : List Path). Some (list_file l)) listed_is)

  renews : (before : Option Node) (now : Option Node) → now ≡ Some (list_file p.new_list) → IsOwnList g before now
  renews before now is = IsOwnList.renewed p.fresh p.new_list (subst (λ f. IsFresh (unit_yielding g) g.«package» f p.fresh) found_is plan.records_are.fresh_is) plan.lists_are.new_is is

  module _ (begun : State) where
    abbrev task : Task
    task = task_from here p begun

    abbrev Own : World → Type 0
    Own w = IsOwnList g (begun.world list) (w list)

    followed : (more : List Path) (c : Change) (v w : World) → Follows more c v w → w list ≡ v list
    followed more c v w follows = follows.rest list refl ∙ changed_kept (is_kept more) c v follows.avoids list refl

    module _ (works : List Work) (moved : IsRearranged p.works works) where
      miss : Each (λ x. Misses x list) works
      miss = all_miss works list (named_rearranged p.works works moved plan.works_are.named) (list_below own)

      files_list : (c : Change) (w : World) → HasFiles task works c w → w list ≡ Some (list_file p.union)
      files_list c w has = followed (all_places task) has.late has.written w has.since ∙ has.listed.written.rest list miss ∙ has.listed.replaced.target

      can : (c : Change) (w : World) → HasFiles task works c w → CanGoBack works w
      can c w has = (has.listed.mid, still_written task works c w has moved (named_rearranged p.works works moved plan.works_are.named))

      gone_back_list : (c : Change) (w : World) → HasGoneBack task works c w → w list ≡ Some (list_file p.listed)
      gone_back_list c w has = followed places has.late has.back w has.since ∙ put_list task works has.early has.back has.put

      listing_list : (c : Change) (found now : World) → Follows places c begun.world found → MayList list (list_file p.union) works found now → Own now
      listing_list c found now follows (inl is) = elim is.target [
        | inl same ↦ IsOwnList.stood (same ∙ followed places c begun.world found follows)
        | inr whole ↦ joins (begun.world list) (now list) whole
      ]
      listing_list c found now follows (inr m) = joins (begun.world list) (now list) (m.2.rest list miss ∙ m.1.target)

      turning_list : (c : Change) (found now : World) → Follows places c begun.world found → MayTurnBack list (list_file p.union) (list_file p.listed) works found now → Own now
      turning_list c found now follows (inl may) = listing_list c found now follows may
      turning_list c found now follows (inr m) = elim m.4.target [
        | inl same ↦ joins (begun.world list) (now list) (same ∙ m.3.rest list miss ∙ m.2.target)
        | inr whole ↦ restores (begun.world list) (now list) whole
      ]

      unlisting_list : (c : Change) (last now : World) → HasFiles task works c last → MayUnlist list (list_file p.listed) works last now → Own now
      unlisting_list c last now has (inl is) = let w = can c last has in joins (begun.world list) (now list) ((is w.0 w.1).rest list miss ∙ files_list c last has)
      unlisting_list c last now has (inr m) =
          let w = can c last has in
          elim m.2.target [
            | inl same ↦ joins (begun.world list) (now list) (same ∙ (m.1 w.0 w.1).rest list miss ∙ files_list c last has)
            | inr whole ↦ restores (begun.world list) (now list) whole
          ]

    come_list : (place : Place) (stage : Stage) (works : List Work) → AreWorksAt task place stage works → (c : Change) (w : World) → HasCome task stage works c w → Own w
    come_list place Unwritten works are c w come = IsOwnList.stood (followed places c begun.world w come)
    come_list place Wrote works are c w come = joins (begun.world list) (w list) (files_list works are.same c w come)
    come_list place Restored works are c w come = restores (begun.world list) (w list) (gone_back_list works are.same c w come)

    amid_list : (table : List Record) (c : Change) (w : World) → IsAmid task table c w → Own w
    amid_list table c w (IsAmid.untouched follows) = IsOwnList.stood (followed places c begun.world w follows)
    amid_list table c w (IsAmid.writing works found moved marked follows may) = turning_list works moved c found w follows may
    amid_list table c w (IsAmid.written works moved marked has) = joins (begun.world list) (w list) (files_list works moved c w has)
    amid_list table c w (IsAmid.going_back works last moved marked has may) = unlisting_list works moved c last w has may
    amid_list table c w (IsAmid.back works moved has) = restores (begun.world list) (w list) (gone_back_list works moved c w has)

  -- what follows the rows

  module _ (works : List Work) (lists : List PackageList) where
    abbrev c : Changes
    c = changes here p works lists

    own_keeps : Contains (unit_losers here p works lists) own → ⊥
    own_keeps has = loser_other g.ways (taken_places works) lists own here.yields own has refl

    kept_or_new : (v w : World) → MayRenew p.leaving list (list_file p.new_list) v w → (w list ≡ v list) ⊎ (w list ≡ Some (list_file p.new_list))
    kept_or_new v w (inl is) = inl (renewing_keeps p.leaving [] (list_file p.new_list) v w (inl is) list
        (or_from (is_leaving_place p.leaving list) (is_list_place [] list) (no_leaving_place p.leaving list plan.lists_are.spares (list_within own)) refl))
    kept_or_new v w (inr m) = elim m.2.target [
      | inl same ↦ inl (same ∙ removed_stays any_path p.leaving v m.0 list plan.lists_are.spares m.1 (list_below own))
      | inr whole ↦ inr whole
    ]

    pub noting_list : (records before : List Record) (v renewed stored_then released w : World) (stale : List Path) → HasRenewed p.leaving list (list_file p.new_list) v renewed → AreReplaced own p.members stale renewed stored_then
        → HasReleased g.ways c.places c.losers (renewed_lists c g.ways lists) c.names stored_then released → AreNoting records before released w → w list ≡ Some (list_file p.new_list)
    noting_list records before v renewed stored_then released w stale first second third is =
        is.rest list refl
        ∙ released_keeps g.ways c.places c.losers (renewed_lists c g.ways lists) c.names stored_then released list third (no_other c.losers own own_keeps) (plan.names_are.elsewhere list (list_within own))
        ∙ second.rest list (list_is_no_member own own) ∙ first.replaced.target

    pub committed_list : (after : List Record) (v w : World) → HasCommitted c g.ways lists after v w → w list ≡ Some (list_file p.new_list)
    committed_list after v w has = own_list c g.ways lists v after w plan.names_are.elsewhere has own_keeps

    pub committing_list : (records before : List Record) (v w : World) → MayCommit c g.ways lists records before v w → (w list ≡ v list) ⊎ (w list ≡ Some (list_file p.new_list))
    committing_list records before v w (MayCommit.renewing may has opens) = kept_or_new v w may
    committing_list records before v w (MayCommit.replacing renewed stale first is has opens) = inr (is.rest list (list_is_no_member own own) ∙ first.replaced.target)
    committing_list records before v w (MayCommit.releasing renewed stored_then stale first second whole may has opens) = inr
        (releasing_keeps g.ways c.places c.losers (renewed_lists c g.ways lists) c.names stored_then w list may (no_other c.losers own own_keeps) (plan.names_are.elsewhere list (list_within own))
        ∙ second.rest list (list_is_no_member own own) ∙ first.replaced.target)
    committing_list records before v w (MayCommit.noting renewed stored_then released stale first second whole third is) = inr (noting_list records before v renewed stored_then released w stale first second third is)

    -- a list goes only where there was no record

    module _ (place : Place) where
      abbrev WasNone : Option Record → Type 0
      WasNone o = o ≡ None → p.found ≡ None

      none_before : (o : Option Record) → p.found ≡ o → IsGoodNote WasNone own (as_before p.found p.incoming o)
      none_before None is = λ same none. is
      none_before (Some r) is = λ same none. no_record r none

      some_others : (rs : List Record) → AllByRecursion (λ r. IsGoodNote WasNone own (Put (half_configured r)) × IsGoodNote WasNone own (Put r)) rs
      some_others [] = tt
      some_others (r ∷ rs) = (((λ same none. no_record _ none), (λ same none. no_record _ none)), some_others rs)

      some_rows : AreGoodRows WasNone own p.found p.incoming p.others
      some_rows = record {
        deconfigured = λ same none. no_record _ none;
        begun = λ same none. no_record _ none;
        put_back = λ same none. no_record _ none;
        before = none_before p.found refl;
        others_are = some_others p.others;
      }

      unrecorded : record_in (table_after here p place) own ≡ None → p.found ≡ None
      unrecorded none = record_at WasNone own p.found p.incoming p.others some_rows g.records place (λ before. found_is ∙ ap (record_in g.records) (sym plan.records_are.own) ∙ before) none

      dropping_list : (reached : Bool) (found : Option Record) → record_in (table_after here p place) own ≡ found → (v w : World) → MayDrop reached found own v w → (w list ≡ v list) ⊎ ((p.found ≡ None) × (w list ≡ None))
      dropping_list true None is v w may = elim may.target [ inl same ↦ inl same | inr none ↦ inr (unrecorded is, none) ]
      dropping_list true (Some r) is v w same = inl (ap (λ (x : World). x list) same)
      dropping_list false found is v w same = inl (ap (λ (x : World). x list) same)

      dropped_list : (reached : Bool) (found : Option Record) → record_in (table_after here p place) own ≡ found → (v w : World) → HasDropped reached found own v w → (w list ≡ v list) ⊎ ((p.found ≡ None) × (w list ≡ None))
      dropped_list true None is v w has = inr (unrecorded is, has.target)
      dropped_list true (Some r) is v w same = inl (ap (λ (x : World). x list) same)
      dropped_list false found is v w same = inl (ap (λ (x : World). x list) same)

    -- from what stood there as the rows ended
    module _ (before : Option Node) (v w : World) (was : IsOwnList g before (v list)) where
      still : w list ≡ v list → IsOwnList g before (w list)
      still same = subst (IsOwnList g before) (sym same) was

      kept_or_gone : (w list ≡ v list) ⊎ ((p.found ≡ None) × (w list ≡ None)) → IsOwnList g before (w list)
      kept_or_gone (inl same) = still same
      kept_or_gone (inr gone) = IsOwnList.gone (sym found_is ∙ gone.0) gone.1

      kept_or_renewed : (w list ≡ v list) ⊎ (w list ≡ Some (list_file p.new_list)) → IsOwnList g before (w list)
      kept_or_renewed (inl same) = still same
      kept_or_renewed (inr new) = renews before (w list) new

      may_follow_list : (e : Ended) → MayFollow c (commit_records here p works lists (table_after here p (last_place here p e))) g.ways lists (table_after here p (last_place here p e)) (length p.others) e v w → IsOwnList g before (w list)
      may_follow_list Committed may = kept_or_renewed (committing_list (commit_records here p works lists (table_after here p (last_place here p Committed))) (table_after here p (last_place here p Committed)) v w may)
      may_follow_list (Unwound fall failed) may = kept_or_gone (dropping_list (last_place here p (Unwound fall failed)) (nat_le (length p.others) fall.row) (record_in (table_after here p (last_place here p (Unwound fall failed))) own) refl v w may)

      followed_list : (e : Ended) → HasFollowed c (commit_records here p works lists (table_after here p (last_place here p e))) g.ways lists (table_after here p (last_place here p e)) (length p.others) e v w → IsOwnList g before (w list)
      followed_list Committed has = renews before (w list) (committed_list (put_records (commit_records here p works lists (table_after here p (last_place here p Committed))) (table_after here p (last_place here p Committed))) v w has)
      followed_list (Unwound fall failed) has = kept_or_gone (dropped_list (last_place here p (Unwound fall failed)) (nat_le (length p.others) fall.row) (record_in (table_after here p (last_place here p (Unwound fall failed))) own) refl v w has)

    leave_list : (e : Ended) (before : Option Node) (v w : World) → IsOwnList g before (v list)
        → MayLeave c (commit_records here p works lists (table_after here p (last_place here p e))) g.ways lists (table_after here p (last_place here p e)) (length p.others) e v w → IsOwnList g before (w list)
    leave_list e before v w was (MayLeaveBy.following may) = may_follow_list before v w was e may
    leave_list e before v w was (MayLeaveBy.clearing_away followed has opens laying) = subst (IsOwnList g before) (sym (laying.rest list refl)) (followed_list before v followed was e has)

  -- how it begins

  going_list : (found : Option Record) → p.found ≡ found → (place : Place) (v w : World)
      → MayClear (is_gone found (length p.others) place) (is_gone found (length p.others) (next_ready place)) own v w → (w list ≡ v list) ⊎ ((p.found ≡ None) × (w list ≡ None))
  going_list None is place v w may = by (is_gone None (length p.others) place) (is_gone None (length p.others) (next_ready place)) may
    where
      by : (gone goes : Bool) → MayClear gone goes own v w → (w list ≡ v list) ⊎ ((p.found ≡ None) × (w list ≡ None))
      by true goes has = inr (is, has.list)
      by false true may = elim may.list [ inl same ↦ inl same | inr none ↦ inr (is, none) ]
      by false false same = inl (ap (λ (x : World). x list) same)
  going_list (Some r) is place v w same = inl (ap (λ (x : World). x list) same)

  stood_or_gone : (before now : Option Node) → (now ≡ before) ⊎ ((p.found ≡ None) × (now ≡ None)) → IsOwnList g before now
  stood_or_gone before now (inl same) = IsOwnList.stood same
  stood_or_gone before now (inr gone) = IsOwnList.gone (sym found_is ∙ gone.0) gone.1

  -- and from there
  rebased : (before begun now : Option Node) → IsOwnList g before begun → (now ≡ begun → IsOwnList g before now) → IsOwnList g begun now → IsOwnList g before now
  rebased before begun now first still (IsOwnList.stood same) = still same
  rebased before begun now first still (IsOwnList.gone none is) = IsOwnList.gone none is
  rebased before begun now first still (IsOwnList.restored is) = IsOwnList.restored is
  rebased before begun now first still (IsOwnList.joined union are is) = IsOwnList.joined union are is
  rebased before begun now first still (IsOwnList.renewed fresh paths is_fresh are is) = IsOwnList.renewed fresh paths is_fresh are is

  since_begun : (old : World) (begun : State) (now : Option Node) → Based here p old begun.world → IsOwnList g (begun.world list) now → IsOwnList g (old list) now
  since_begun old begun now begins is =
      let first : IsOwnList g (old list) (begun.world list) = subst (λ n. IsOwnList g n (begun.world list)) (begins.1.begins.lays list refl)
      (stood_or_gone (begins.1.begun list) (begun.world list) (going_list p.found refl begins.0 begins.1.begun begun.world begins.1.clears)) in
      rebased (old list) (begun.world list) now first (λ same. subst (IsOwnList g (old list)) (sym same) first) is

  stage_list : (old : World) (so_far : List Event) (now : World) → IsStage here p old so_far now → IsOwnList g (old list) (now list)
  stage_list old so_far now (IsStage.running (IsRunning.beginning none may)) = IsOwnList.stood (may.rest list refl)
  stage_list old so_far now (IsStage.running (IsRunning.running begun before more is none begins stops)) =
      since_begun old (state_on begun stops.base) (now list) (based_amid here p old begun _ now begins stops) (amid_list (state_on begun stops.base) _ _ now stops.files)
  stage_list old so_far now (IsStage.leaving ended works begun last begins are come may) =
      since_begun old begun (now list) (last_place here p ended, begins)
      (leave_list works (lists_at (task_from here p begun) (stage_of (kinds_of p.found p.others) (last_place here p ended))) ended (begun.world list) last now
      (come_list begun (last_place here p ended) _ works are _ last come) may)

  pub list_planned : (old : World) (so_far : List Event) (now : World) → IsStage here p old so_far now → IsOwnList g (old (list_path (unit_name g))) (now (list_path (unit_name g)))
  list_planned old so_far now stage = subst (λ (n : List ℕ). IsOwnList g (old (list_path n)) (now (list_path n))) plan.records_are.own (stage_list old so_far now stage)

pub list_unit : (g : Given) (places : List Path) (old now : World) (so_far : List Event) → IsAmidUnit g places old so_far now → IsOwnList g (old (list_path (unit_name g))) (now (list_path (unit_name g)))
list_unit g places old now so_far (inl looks) = IsOwnList.stood (ap (λ (w : World). w (list_path (unit_name g))) looks.0)
list_unit g places old now so_far (inr amid) = list_planned g amid.plan_for.stored amid.plan amid.plan_for.planned places old so_far now amid.under_way.stage
