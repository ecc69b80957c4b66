-- The record that a run of the stages leaves.
use Rattle.std.proofs.Common.{◌≡◌, ◌≢◌, ◌⊎◌, inl, inr, ℕ, Bool, true, false, cond, List, [], ◌∷◌, map, Option, Some, None, refl, sym, subst, ◌∙◌}
use Rattle.std.specs.Prelude.{codes}
use Rattle.std.proofs.lemmas.Bool.{true≢false}
use Rattle.host_core.specs.Host.{State}
use Rattle.host_core.specs.Paths.{Path}
use Rattle.host_core.specs.declared.call.Call.{Call}
use Rattle.host_core.specs.declared.call.Script.{Script}
use Rattle.host_core.specs.declared.call.Script.TheVariants as script
use Rattle.diversions.specs.Ways.{Ways}
use Rattle.file_lists.specs.Owners.{paths_of}
use Rattle.file_lists.specs.declared.paths.PackageList.{PackageList}
use Rattle.status_records.specs.Records.{record_in}
use Rattle.status_records.specs.declared.record.Record.{Record}
use Rattle.status_records.specs.declared.words.State.{State as PackageState}
use Rattle.status_records.specs.declared.words.State.TheVariants as state
use Rattle.undo_rows.specs.declared.rows.Called.{Called}
use Rattle.undo_rows.specs.declared.rows.Owner.{Owner}
use Rattle.unit_stages.specs.Parts.{parts_records}
use Rattle.unit_stages.specs.declared.part.Part.{Part}
use Rattle.unit_stages.specs.Holding.{Holding, after_parts}
use Rattle.unit_stages.specs.Runs.{HasRestored, HaveRun}
use Rattle.unit_stages.specs.declared.stage.Stage.{Stage}
use Rattle.removal_engine.specs.Extents.{BeginsFrom}
use Rattle.removal_engine.specs.Ends.{EndsWith, left_by, left_by_all}
use Rattle.removal_engine.specs.Records.{config_files, goes_at_once, half_configured, purged, without_files}
use Rattle.removal_engine.specs.Scripts.{call_of}
use Rattle.removal_engine.specs.Stages.{Deed, Planned, deed, files_stages, gone_stage, left_stage, planned, prerm_stage, purge_stages, removal_stages, stages_from}
use Rattle.removal_engine.specs.Units.{HasEnded, IsCallOf, IsEndOf}
use Rattle.removal_engine.specs.declared.extent.Extent.{Extent}
use Rattle.removal_engine.specs.declared.extent.Extent.TheVariants.{Remove, Purge, InFavour}
use Rattle.removal_engine.specs.declared.scripts.Stored.{Stored}
use Rattle.removal_engine.proofs.Deeds.{all_same_records, deed_records, deeds_records}
use Rattle.removal_engine.proofs.Tables.{drop_other, drop_own, put_other, put_own}

-- what is noted is of this package
abbrev pub IsOwn : List ℕ → Deed → Type 0
IsOwn name (Deed.Notes r) = r.name ≡ name
IsOwn name Deed.Forgets = Unit {0}
IsOwn name (Deed.Settles conffiles) = Unit {0}
IsOwn name (Deed.Removes leaving) = Unit {0}
IsOwn name (Deed.RemovesDirectories leaving) = Unit {0}
IsOwn name (Deed.Clears names) = Unit {0}
IsOwn name (Deed.Lists paths) = Unit {0}
IsOwn name Deed.DropsList = Unit {0}
IsOwn name (Deed.DropsMembers keep_postrm) = Unit {0}

abbrev pub AreOwn : List ℕ → List Deed → Type 0
AreOwn name [] = Unit {0}
AreOwn name (d ∷ ds) = IsOwn name d × AreOwn name ds

abbrev pub AreOwnStages : List ℕ → List Planned → Type 0
AreOwnStages name [] = Unit {0}
AreOwnStages name (p ∷ ps) = (AreOwn name p.parts × AreOwn name p.restore) × AreOwnStages name ps

-- the package's record is that, and those of others are as before
pub record IsNow (name : List ℕ) (first now : List Record) (o : Option Record) : Type 0 where
  pub own : record_in now name ≡ o
  pub others : (q : List ℕ) → q ≢ name → record_in now q ≡ record_in first q

module _ (name : List ℕ) (first : List Record) where
  one_leaves : (d : Deed) (rs : List Record) (o : Option Record) → IsOwn name d → IsNow name first rs o → IsNow name first (deed_records name d rs) (left_by d o)
  one_leaves (Deed.Notes r) rs o own now = record { own = put_own r rs name own; others = λ q other. put_other r rs name q own other ∙ now.others q other }
  one_leaves Deed.Forgets rs o own now = record { own = drop_own name rs; others = λ q other. drop_other name rs q other ∙ now.others q other }
  one_leaves (Deed.Settles conffiles) rs o own now = now
  one_leaves (Deed.Removes leaving) rs o own now = now
  one_leaves (Deed.RemovesDirectories leaving) rs o own now = now
  one_leaves (Deed.Clears names) rs o own now = now
  one_leaves (Deed.Lists paths) rs o own now = now
  one_leaves Deed.DropsList rs o own now = now
  one_leaves (Deed.DropsMembers keep_postrm) rs o own now = now

  all_leave : (ds : List Deed) (rs : List Record) (o : Option Record) → AreOwn name ds → IsNow name first rs o → IsNow name first (deeds_records name ds rs) (left_by_all ds o)
  all_leave [] rs o own now = now
  all_leave (d ∷ ds) rs o own now = all_leave ds (deed_records name d rs) (left_by d o) own.1 (one_leaves d rs o own.0 now)

  parts_leave : (parts : List Part) (rs : List Record) (o : Option Record) → AreOwn name (map deed parts) → IsNow name first rs o → IsNow name first (parts_records name parts rs) (left_by_all (map deed parts) o)
  parts_leave parts rs o own now =
      subst (λ (x : List Record). IsNow name first x (left_by_all (map deed parts) o)) (sym (all_same_records name parts rs)) (all_leave (map deed parts) rs o own now)

  -- what is left where a call failed
  abbrev IsFallen : Stage → Option Record → Holding → Type 0
  IsFallen s o after =
      (left : Option Record) × ((left ≡ left_by_all (map deed s.parts.items) o) ⊎ (left ≡ left_by_all (map deed s.restore.items) (left_by_all (map deed s.parts.items) o))) × IsNow name first after.records left

  fallen : (ways : Ways) (s : Stage) (owners : List Owner) (before after : Holding) (a b : State) (o : Option Record) → AreOwn name (map deed s.restore.items) → IsNow name first (parts_records name s.parts.items before.records) (left_by_all (map deed s.parts.items) o)
      → HasRestored name ways owners s.restore.items (after_parts name s.parts.items before) after a b → IsFallen s o after
  fallen ways s owners before after a b o own now (HasRestored.restored all does same) = (
    left_by_all (map deed s.restore.items) (left_by_all (map deed s.parts.items) o),
    inr refl,
    subst (λ (h : Holding). IsNow name first h.records (left_by_all (map deed s.restore.items) (left_by_all (map deed s.parts.items) o))) (sym same)
        (parts_leave s.restore.items (parts_records name s.parts.items before.records) (left_by_all (map deed s.parts.items) o) own now),
  )
  fallen ways s owners before after a b o own now (HasRestored.left some stays same) =
      (left_by_all (map deed s.parts.items) o, inl refl, subst (λ (h : Holding). IsNow name first h.records (left_by_all (map deed s.parts.items) o)) (sym same) now)

  pub run_ends : (ways : Ways) (stages : List Stage) (failed : Option Call) (before after : Holding) (s t : State) (told now : List Called) (o : Option Record) → AreOwnStages name (map planned stages) → IsNow name first before.records o
      → HaveRun name ways stages failed before after s t told now → (left : Option Record) × EndsWith (map planned stages) failed o left × IsNow name first after.records left
  run_ends ways [] failed before after s t told now o own is run =
      (o, (run.0, refl), subst (λ (h : Holding). IsNow name first h.records o) (sym run.1) is)
  run_ends ways (stage ∷ stages) failed before after s t told now o own is (inl passed) =
      let further = run_ends ways stages failed (after_parts name stage.parts.items before) after passed.mid t passed.more now (left_by_all (map deed stage.parts.items) o) own.1 (parts_leave stage.parts.items before.records o own.0.0 is) passed.further in
      (further.0, inl further.1, further.2)
  run_ends ways (stage ∷ stages) failed before after s t told now o own is (inr fell) =
      let left = fallen ways stage fell.fell.undo.owners before after fell.fell.undo.undone t o own.0.1 (parts_leave stage.parts.items before.records o own.0.0 is) fell.fell.undo.restored in
      (left.0, inr record { call = fell.fell.call; answer = fell.fell.answer; forward = fell.fell.forward; left = left.1 }, left.2)

-- which end that is

made : (name : List ℕ) (s : Script) (there : Bool) (word : List ℕ) (call : Call) → call_of name s there word ≡ Some call → call_of name s true word ≡ Some call
made name s true word call is = is
made name s false word call is = absurd (nothing is)
  where
    nothing : None ≡ Some call → ⊥
    nothing e = cc

quiet : {A : Type 0} (call : Call) → None ≡ Some call → A
quiet call e = cc

either : {X : Type 0} (x y : X) → (x ≡ y) ⊎ (x ≡ y) → x ≡ y
either x y (inl is) = is
either x y (inr is) = is

module _ (ways : Ways) (lists : List PackageList) (stored : Stored) (r : Record) (to_come : List Path) where
  -- what is left behind, where it is a purge exactly if that is the extent
  module _ (extent : Extent) (purge : Bool) (purges : purge ≡ true → extent ≡ Purge) (leaves : purge ≡ false → extent ≢ Purge) where
    abbrev Ends : Option Call → Option Record → Type 0
    Ends failed left = IsEndOf r extent failed left

    told_so : (failed answer : Option Call) (left is : Option Record) → failed ≡ answer → left ≡ is → Ends answer is → Ends failed left
    told_so failed answer left is e f end = subst (λ (x : Option Call). Ends x left) (sym e) (subst (Ends answer) (sym f) end)

    -- of a purge, from this record of a removed package on
    purge_ends : (c : Record) (listed : List Path) (failed : Option Call) (before left : Option Record) → ((call : Call) → IsCallOf c script.Postrm (codes "purge") call → Ends (Some call) (Some (purged c)))
        → EndsWith (purge_stages ways lists c stored listed) failed before left → Ends failed left
    purge_ends c listed failed before left so (inl (inl done)) = told_so failed None left None done.0 done.1 IsEndOf.gone
    purge_ends c listed failed before left so (inl (inr fell)) = quiet fell.call fell.forward
    purge_ends c listed failed before left so (inr fell) =
        told_so failed (Some fell.call) left (Some (purged c)) fell.answer (either left (Some (purged c)) fell.left) (so fell.call (made c.name script.Postrm stored.postrm (codes "purge") fell.call fell.forward))

    behind_left : (p : Bool) → purge ≡ p → (failed : Option Call) (left : Option Record) → EndsWith (cond p (purge_stages ways lists (config_files r) stored to_come) []) failed (Some (config_files r)) left → Ends failed left
    behind_left true is failed left ends = purge_ends (config_files r) to_come failed (Some (config_files r)) left (λ call of. IsEndOf.removed_alone call (purges is) of) ends
    behind_left false is failed left ends = told_so failed None left (Some (config_files r)) ends.0 ends.1 (IsEndOf.left (leaves is))

    ends_end : (at_once : Bool) (failed : Option Call) (before left : Option Record) → EndsWith (cond at_once (gone_stage r ∷ []) (left_stage r ∷ cond purge (purge_stages ways lists (config_files r) stored to_come) [])) failed before left → Ends failed left
    ends_end true failed before left (inl done) = told_so failed None left None done.0 done.1 IsEndOf.gone
    ends_end true failed before left (inr fell) = quiet fell.call fell.forward
    ends_end false failed before left (inl further) = behind_left purge refl failed left further
    ends_end false failed before left (inr fell) = quiet fell.call fell.forward

    files_end : (failed : Option Call) (before left : Option Record) → EndsWith (files_stages ways lists r stored purge to_come) failed before left → Ends failed left
    files_end failed before left (inl further) = ends_end (goes_at_once r stored) failed (Some (without_files r)) left further
    files_end failed before left (inr fell) =
        told_so failed (Some fell.call) left (Some (without_files r)) fell.answer (either left (Some (without_files r)) fell.left) (IsEndOf.not_left fell.call (made r.name script.Postrm stored.postrm (codes "remove") fell.call fell.forward))

    -- where the prerm is called, and a removed package is purged alone
    module _ (calls : extent ≢ InFavour) (begins : r.state ≡ state.ConfigFiles → extent ≡ Purge) where
      prerm_end : (failed : Option Call) (before left : Option Record) → EndsWith (prerm_stage r stored ∷ files_stages ways lists r stored purge to_come) failed before left → Ends failed left
      prerm_end failed before left (inl further) = files_end failed (Some (half_configured r)) left further
      prerm_end failed before left (inr fell) = by fell.left
        where
          by : (left ≡ Some (half_configured r)) ⊎ (left ≡ Some r) → Ends failed left
          by (inl is) = told_so failed (Some fell.call) left (Some (half_configured r)) fell.answer is (IsEndOf.not_undone fell.call calls (made r.name script.Prerm stored.prerm (codes "remove") fell.call fell.forward))
          by (inr is) = told_so failed (Some fell.call) left (Some r) fell.answer is (IsEndOf.undone fell.call calls (made r.name script.Prerm stored.prerm (codes "remove") fell.call fell.forward))

      from_end : (s : PackageState) → r.state ≡ s → (failed : Option Call) (left : Option Record) → EndsWith (stages_from ways lists s r stored purge to_come) failed (Some r) left → Ends failed left
      from_end state.NotInstalled is failed left ends = files_end failed (Some r) left ends
      from_end state.ConfigFiles is failed left ends = purge_ends r (paths_of lists r.name) failed (Some r) left (λ call of. IsEndOf.not_purged call (begins is) of is) ends
      from_end state.HalfInstalled is failed left ends = files_end failed (Some r) left ends
      from_end state.Unpacked is failed left ends = files_end failed (Some r) left ends
      from_end state.HalfConfigured is failed left ends = prerm_end failed (Some r) left ends
      from_end state.Installed is failed left ends = prerm_end failed (Some r) left ends

  removal_end : (extent : Extent) → BeginsFrom extent r.state → (failed : Option Call) (left : Option Record) → EndsWith (removal_stages ways lists extent r stored to_come) failed (Some r) left → IsEndOf r extent failed left
  removal_end Remove begins failed left ends = from_end Remove false (λ e. absurd (true≢false (sym e))) (λ e is. cc) (λ is. cc) (λ is. absurd (begins is)) r.state refl failed left ends
  removal_end Purge begins failed left ends = from_end Purge true (λ e. refl) (λ e. absurd (true≢false e)) (λ is. cc) (λ is. refl) r.state refl failed left ends
  removal_end InFavour begins failed left ends = files_end InFavour false (λ e. absurd (true≢false (sym e))) (λ e is. cc) failed (Some r) left ends

  -- each note is of the package
  module _ (name : List ℕ) (own : r.name ≡ name) where
    purges_own : (listed : List Path) (c : Record) → c.name ≡ name → AreOwnStages name (purge_stages ways lists c stored listed)
    purges_own listed c is = (((is, (tt, tt)), tt), (((tt, (tt, (tt, (tt, (tt, tt))))), tt), tt))

    behind_own : (purge : Bool) → AreOwnStages name (cond purge (purge_stages ways lists (config_files r) stored to_come) [])
    behind_own true = purges_own to_come (config_files r) own
    behind_own false = tt

    ends_own : (at_once purge : Bool) → AreOwnStages name (cond at_once (gone_stage r ∷ []) (left_stage r ∷ cond purge (purge_stages ways lists (config_files r) stored to_come) []))
    ends_own true purge = (((tt, (tt, (tt, (tt, tt)))), tt), tt)
    ends_own false purge = (((tt, (own, tt)), tt), behind_own purge)

    files_own : (purge : Bool) → AreOwnStages name (files_stages ways lists r stored purge to_come)
    files_own purge = (((own, (tt, (tt, (tt, (tt, (own, tt)))))), tt), ends_own (goes_at_once r stored) purge)

    from_own : (s : PackageState) (purge : Bool) → AreOwnStages name (stages_from ways lists s r stored purge to_come)
    from_own state.NotInstalled purge = files_own purge
    from_own state.ConfigFiles purge = purges_own (paths_of lists r.name) r own
    from_own state.HalfInstalled purge = files_own purge
    from_own state.Unpacked purge = files_own purge
    from_own state.HalfConfigured purge = (((own, tt), (own, tt)), files_own purge)
    from_own state.Installed purge = (((own, tt), (own, tt)), files_own purge)

    removal_own : (extent : Extent) → AreOwnStages name (removal_stages ways lists extent r stored to_come)
    removal_own Remove = from_own r.state false
    removal_own Purge = from_own r.state true
    removal_own InFavour = files_own false

    -- the end of a whole run
    pub has_ended : (extent : Extent) (stages : List Stage) → map planned stages ≡ removal_stages ways lists extent r stored to_come → BeginsFrom extent r.state → (failed : Option Call) (before after : Holding) (s t : State) (told now : List Called)
        → record_in before.records name ≡ Some r → HaveRun name ways stages failed before after s t told now → HasEnded extent name failed before.records after.records
    has_ended extent stages are begins failed before after s t told now found run =
        let ends = run_ends name before.records ways stages failed before after s t told now (Some r) (subst (AreOwnStages name) (sym are) (removal_own extent)) (record { own = found; others = λ q other. refl }) run in
        record {
          entry = r;
          found = found;
          own = subst (IsEndOf r extent failed) (sym ends.2.own) (removal_end extent begins failed ends.0 (subst (λ (ps : List Planned). EndsWith ps failed (Some r) ends.0) are ends.1));
          others = ends.2.others;
        }
