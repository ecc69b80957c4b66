-- The stages of a removal or a purge, and of a configure, are of their package and write lists that are read back.
use Rattle.std.proofs.Common.{◌≡◌, ℕ, Bool, true, false, cond, List, [], ◌∷◌, ◌++◌, map, refl, sym, ap, subst, arith, Contains}
use Rattle.std.specs.List.{AllByRecursion}
use Rattle.std.specs.Str.{IsUtf8}
use Rattle.host_core.specs.Paths.{Path}
use Rattle.host_core.specs.World.{World}
use Rattle.conffiles.specs.declared.decisions.ConfPolicy.{ConfPolicy}
use Rattle.conffiles.specs.declared.entries.Settled.{Settled}
use Rattle.configure_engine.specs.Settled.{settled}
use Rattle.configure_engine.specs.Stages.{AreFirstParts, SettlesThese, half, list_parts}
use Rattle.configure_engine.specs.Units.{IsPlanFor as IsConfigurePlanFor}
use Rattle.configure_engine.specs.Waiting.{going_paths}
use Rattle.diversions.specs.Ways.{Ways}
use Rattle.file_lists.specs.Owners.{paths_of}
use Rattle.file_lists.specs.declared.paths.PackageList.{PackageList}
use Rattle.removal_engine.proofs.Elsewhere.{cleared_elsewhere, purged_elsewhere, waiting_elsewhere}
use Rattle.removal_engine.proofs.Sparing.{leaving_spares}
use Rattle.removal_engine.specs.Lists.{IsToCome}
use Rattle.removal_engine.specs.Records.{config_files, entry_paths, goes_at_once}
use Rattle.removal_engine.specs.Stages.{Deed, Planned, deed, files_stage, files_stages, gone_stage, last_stage, left_stage, planned, prerm_stage, purge_stages, removal_stages, stages_from}
use Rattle.removal_engine.specs.Stages.{Notes, Forgets, Settles, Removes, RemovesDirectories, Clears, Lists, DropsList, DropsMembers}
use Rattle.removal_engine.specs.Units.{IsPlanFor}
use Rattle.removal_engine.specs.declared.extent.Extent.{Extent}
use Rattle.removal_engine.specs.declared.extent.Extent.TheVariants.{Remove, Purge, InFavour}
use Rattle.removal_engine.specs.declared.scripts.Stored.{Stored}
use Rattle.status_records.specs.Words.{is_not_installed}
use Rattle.status_records.specs.declared.entries.ConffileEntry.{ConffileEntry}
use Rattle.status_records.specs.declared.record.Record.{Record}
use Rattle.status_records.specs.declared.words.State.{State}
use Rattle.status_records.specs.declared.words.State.TheVariants as state
use Rattle.unit_stages.specs.declared.part.Part.{Part}
use Rattle.unit_stages.specs.declared.part.Part.TheVariants as part
use Rattle.unit_stages.specs.declared.stage.Stage.{Stage}
use Rattle.listed_files.specs.Closing.{SparesAdministration}
use Rattle.listed_files.specs.Concluding.{AreElsewhere}
use Rattle.reopening.proofs.Parts.{AreSafeParts, IsSafePart}
use Rattle.reopening.proofs.Stages.{AreSafeStages}
use Rattle.reopening.proofs.Steps.{AreGood, good_filter}
use Rattle.reopening.proofs.Texts.{entries_text, good_none, good_paths, with_parents_text}

-- the same of what a part does

abbrev IsSafeDeed : Path → Deed → Type 0
IsSafeDeed name (Notes r) = (r.name ≡ name) × (is_not_installed r.state ≡ false)
IsSafeDeed name Forgets = Unit {0}
IsSafeDeed name (Settles settled) = Unit {0}
IsSafeDeed name (Removes leaving) = SparesAdministration leaving
IsSafeDeed name (RemovesDirectories leaving) = SparesAdministration leaving
IsSafeDeed name (Clears names) = AreElsewhere names
IsSafeDeed name (Lists paths) = AreGood paths
IsSafeDeed name DropsList = Unit {0}
IsSafeDeed name (DropsMembers keep_postrm) = Unit {0}

abbrev AreSafeDeeds : Path → List Deed → Type 0
AreSafeDeeds name deeds = AllByRecursion (IsSafeDeed name) deeds

pub record IsSafePlanned (name : Path) (p : Planned) : Type 0 where
  pub parts : AreSafeDeeds name p.parts
  pub restore : AreSafeDeeds name p.restore

abbrev pub AreSafePlanned : Path → List Planned → Type 0
AreSafePlanned name ps = AllByRecursion (IsSafePlanned name) ps

deed_part : (name : Path) (p : Part) → IsSafeDeed name (deed p) → IsSafePart name p
deed_part name (part.Note r) safe = safe
deed_part name part.Forget safe = safe
deed_part name (part.Settle settled) safe = safe
deed_part name (part.Remove leaving) safe = safe
deed_part name (part.RemoveDirectories leaving) safe = safe
deed_part name (part.Clear names) safe = safe
deed_part name (part.List paths) safe = safe
deed_part name part.DropList safe = safe
deed_part name (part.DropMembers keep_postrm) safe = safe

deeds_parts : (name : Path) (parts : List Part) → AreSafeDeeds name (map deed parts) → AreSafeParts name parts
deeds_parts name [] safe = tt
deeds_parts name (p ∷ ps) safe = (deed_part name p safe.0, deeds_parts name ps safe.1)

pub planned_safe : (name : Path) (stages : List Stage) → AreSafePlanned name (map planned stages) → AreSafeStages name stages
planned_safe name [] safe = tt
planned_safe name (s ∷ ss) safe = (record { parts = deeds_parts name s.parts.items safe.0.parts; restore = deeds_parts name s.restore.items safe.0.restore }, planned_safe name ss safe.1)

pub gone_safe : (name : List ℕ) (r : Record) → IsSafePlanned name (gone_stage r)
gone_safe name r = record { parts = (tt, (good_none, (tt, (tt, tt)))); restore = tt }

module _ (entries : Ways) (lists : List PackageList) (name : List ℕ) (stored : Stored) where
  module _ (r : Record) (own : r.name ≡ name) where
    files_safe : (to_come : List Path) → AreGood to_come → IsSafePlanned name (files_stage entries lists r stored to_come)
    files_safe to_come good = record {
      parts = (
        (own, refl),
        (
          waiting_elsewhere entries r.name r.pending,
          (leaving_spares entries lists r.name to_come (entry_paths r.conffiles) (paths_of lists r.name), (cleared_elsewhere entries lists r, (good, ((own, refl), tt)))),
        ),
      );
      restore = tt;
    }

    left_safe : IsSafePlanned name (left_stage r)
    left_safe = record { parts = (tt, ((own, refl), tt)); restore = tt }

    last_safe : (listed : List Path) → IsSafePlanned name (last_stage entries lists r listed)
    last_safe listed = record { parts = (leaving_spares entries lists r.name [] (entry_paths r.conffiles) listed, (good_none, (tt, (tt, (tt, tt))))); restore = tt }

    purges_safe : is_not_installed r.state ≡ false → (listed : List Path) → AreSafePlanned name (purge_stages entries lists r stored listed)
    purges_safe stands listed = (record { parts = ((own, stands), (purged_elsewhere entries lists r, tt)); restore = tt }, (last_safe listed, tt))

  module _ (r : Record) (own : r.name ≡ name) (to_come : List Path) (good : AreGood to_come) where
    behind_left : (purge : Bool) → AreSafePlanned name (cond purge (purge_stages entries lists (config_files r) stored to_come) [])
    behind_left true = purges_safe (config_files r) own refl to_come
    behind_left false = tt

    ends_safe : (at_once purge : Bool) → AreSafePlanned name (cond at_once (gone_stage r ∷ []) (left_stage r ∷ cond purge (purge_stages entries lists (config_files r) stored to_come) []))
    ends_safe true purge = (gone_safe name r, tt)
    ends_safe false purge = (left_safe r own, behind_left purge)

    all_files_safe : (purge : Bool) → AreSafePlanned name (files_stages entries lists r stored purge to_come)
    all_files_safe purge = (files_safe r own to_come good, ends_safe (goes_at_once r stored) purge)

    prerm_safe : is_not_installed r.state ≡ false → IsSafePlanned name (prerm_stage r stored)
    prerm_safe stands = record { parts = ((own, refl), tt); restore = ((own, stands), tt) }

    from_safe : (s : State) → r.state ≡ s → (purge : Bool) → AreSafePlanned name (stages_from entries lists s r stored purge to_come)
    from_safe state.NotInstalled is purge = all_files_safe purge
    from_safe state.ConfigFiles is purge = purges_safe r own (ap is_not_installed is) (paths_of lists r.name)
    from_safe state.HalfInstalled is purge = all_files_safe purge
    from_safe state.Unpacked is purge = all_files_safe purge
    from_safe state.HalfConfigured is purge = (prerm_safe (ap is_not_installed is), all_files_safe purge)
    from_safe state.Installed is purge = (prerm_safe (ap is_not_installed is), all_files_safe purge)

    removal_safe : (extent : Extent) → AreSafePlanned name (removal_stages entries lists extent r stored to_come)
    removal_safe Remove = from_safe r.state refl false
    removal_safe Purge = from_safe r.state refl true
    removal_safe InFavour = all_files_safe false

housed_text : (at_once : Bool) (entries : List ConffileEntry) (q : Path) → Contains (cond at_once [] (entry_paths entries)) q → IsUtf8 q
housed_text true entries q none = absurd (omega (arith, none.1))
housed_text false entries q has = entries_text entries q has

to_come_good : (r : Record) (stored : Stored) (to_come : List Path) → IsToCome r stored to_come → AreGood to_come
to_come_good r stored to_come comes =
    good_paths to_come comes.are_paths
    (with_parents_text _ _ to_come comes.are (λ q has. entries_text _ q has) (λ q has. housed_text (goes_at_once r stored) r.conffiles q has))

pub removal_plan_safe : (entries : Ways) (lists : List PackageList) (r : Record) (extent : Extent) (w : World) (honest : Bool) (stages : List Stage) (name : List ℕ) → r.name ≡ name → IsPlanFor entries lists r extent w honest stages → AreSafeStages name stages
removal_plan_safe entries lists r extent w honest stages name own plan =
    planned_safe name stages (subst (AreSafePlanned name) (sym plan.are) (removal_safe entries lists name plan.stored r own plan.to_come (to_come_good r plan.stored plan.to_come plan.comes) extent))

-- a configure

settles_safe : (name : List ℕ) (list : List Settled) (p : Part) → SettlesThese list p → IsSafePart name p
settles_safe name list (part.Note r) is = absurd is
settles_safe name list part.Forget is = tt
settles_safe name list (part.Settle settled) is = tt
settles_safe name list (part.Remove leaving) is = absurd is
settles_safe name list (part.RemoveDirectories leaving) is = absurd is
settles_safe name list (part.Clear names) is = absurd is
settles_safe name list (part.List paths) is = absurd is
settles_safe name list part.DropList is = tt
settles_safe name list (part.DropMembers keep_postrm) is = tt

listing_safe : (name : List ℕ) (going listed : List Path) (rest : List Part) → AreGood listed → AreSafeParts name rest → AreSafeParts name (list_parts going listed ++ rest)
listing_safe name [] listed rest good safe = safe
listing_safe name (q ∷ going) listed rest good safe = (good_filter _ listed good, safe)

first_safe : (r : Record) (name : List ℕ) → r.name ≡ name → (listed : List Path) → AreGood listed → (decisions : List Settled) (parts : List Part) → AreFirstParts r listed decisions parts → AreSafeParts name parts
first_safe r name own listed good [] parts are = subst (AreSafeParts name) (sym are) ((own, refl), tt)
first_safe r name own listed good (e ∷ es) parts are =
    subst (AreSafeParts name) (sym are.2) ((own, refl), (settles_safe name (e ∷ es) are.0 are.1, listing_safe name (going_paths r) listed (part.Note (half (settled r)) ∷ []) good ((own, refl), tt)))

pub configure_plan_safe : {ways : Ways} (r : Record) (policy : ConfPolicy) (listed : List Path) (w : World) (honest : Bool) (stages : List Stage) (name : List ℕ) → r.name ≡ name → AreGood listed → IsConfigurePlanFor r policy ways listed w honest stages → AreSafeStages name stages
configure_plan_safe r policy listed w honest stages name own good plan =
    let is = plan.stages_are in
    subst (AreSafeStages name) (sym is.are) (
      record { parts = first_safe r name own listed good plan.decisions is.first.parts.items is.parts; restore = subst (AreSafeParts name) (sym is.no_restore) tt },
      (record { parts = subst (AreSafeParts name) (sym is.installs) ((own, refl), tt); restore = subst (AreSafeParts name) (sym is.no_restore_either) tt }, tt),
    )
