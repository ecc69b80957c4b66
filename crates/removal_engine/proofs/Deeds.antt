-- Parts are told by what they do.
use Rattle.std.proofs.Common.{◌≡◌, ℕ, false, List, [], ◌∷◌, map, refl, sym, ap, subst, ◌∙◌}
use Rattle.std.specs.List.{AllByRecursion}
use Rattle.std.proofs.lemmas.Bool.{true≢false}
use Rattle.host_core.specs.World.{World}
use Rattle.file_lists.specs.Owners.{paths_of}
use Rattle.file_lists.specs.Writing.{with_list}
use Rattle.file_lists.specs.declared.paths.PackageList.{PackageList}
use Rattle.status_records.specs.Records.{drop_record, put_record}
use Rattle.status_records.specs.declared.record.Record.{Record}
use Rattle.listed_files.specs.Closing.{SparesAdministration}
use Rattle.listed_files.specs.Concluding.{AreElsewhere}
use Rattle.unit_stages.specs.PartFitting.{AreFit, AreSettleable, HaveNoSettle, IsFit, IsListing, IsNotable, is_settling}
use Rattle.unit_stages.specs.Parts.{part_lists, part_records, parts_lists, parts_records}
use Rattle.unit_stages.specs.declared.part.Part.{Part}
use Rattle.unit_stages.specs.declared.part.Part.TheVariants.{Note, Forget, Settle, Remove, RemoveDirectories, Clear, List as Listing, DropList, DropMembers}
use Rattle.unit_stages.specs.Fitting.{AreStagesFit, AreStagesSettleable, SettlesNothing}
use Rattle.unit_stages.specs.declared.stage.Stage.{Stage}
use Rattle.removal_engine.specs.Stages.{Deed, Planned, deed, planned}

-- no conffile is settled
abbrev pub IsStill : Deed → Type 0
IsStill (Deed.Notes r) = Unit {0}
IsStill Deed.Forgets = Unit {0}
IsStill (Deed.Settles conffiles) = ⊥
IsStill (Deed.Removes leaving) = Unit {0}
IsStill (Deed.RemovesDirectories leaving) = Unit {0}
IsStill (Deed.Clears names) = Unit {0}
IsStill (Deed.Lists paths) = Unit {0}
IsStill Deed.DropsList = Unit {0}
IsStill (Deed.DropsMembers keep_postrm) = Unit {0}

still : (part : Part) → IsStill (deed part) → is_settling part ≡ false
still (Note r) is = refl
still Forget is = refl
still (Settle conffiles) is = absurd is
still (Remove leaving) is = refl
still (RemoveDirectories leaving) is = refl
still (Clear names) is = refl
still (Listing paths) is = refl
still DropList is = refl
still (DropMembers keep_postrm) is = refl

all_still : (parts : List Part) → AllByRecursion IsStill (map deed parts) → HaveNoSettle parts
all_still [] all = tt
all_still (part ∷ parts) all = (still part all.0, all_still parts all.1)

can_be_done : (parts : List Part) (w : World) → HaveNoSettle parts → AreSettleable parts w
can_be_done [] w none = tt
can_be_done (Note r ∷ parts) w none = can_be_done parts w none.1
can_be_done (Forget ∷ parts) w none = can_be_done parts w none.1
can_be_done (Settle conffiles ∷ parts) w none = absurd (true≢false none.0)
can_be_done (Remove leaving ∷ parts) w none = none.1
can_be_done (RemoveDirectories leaving ∷ parts) w none = none.1
can_be_done (Clear names ∷ parts) w none = none.1
can_be_done (Listing paths ∷ parts) w none = can_be_done parts w none.1
can_be_done (DropList ∷ parts) w none = can_be_done parts w none.1
can_be_done (DropMembers keep_postrm ∷ parts) w none = can_be_done parts w none.1

abbrev pub IsStillStage : Planned → Type 0
IsStillStage p = AllByRecursion IsStill p.parts × AllByRecursion IsStill p.restore

stages_still : (stages : List Stage) → AllByRecursion IsStillStage (map planned stages) → AllByRecursion SettlesNothing stages
stages_still [] all = tt
stages_still (s ∷ stages) all = (record { parts = all_still s.parts.items all.0.0; restore = all_still s.restore.items all.0.1 }, stages_still stages all.1)

pub stages_settleable : (stages : List Stage) (w : World) → AllByRecursion IsStillStage (map planned stages) → AreStagesSettleable stages w
stages_settleable [] w all = tt
stages_settleable (s ∷ stages) w all = (can_be_done s.parts.items w (all_still s.parts.items all.0.0), all_still s.restore.items all.0.1, stages_still stages all.1)

module _ (name : List ℕ) where
  -- what a deed needs
  abbrev pub IsDeedFit : Deed → List Record → List PackageList → Type 0
  IsDeedFit (Deed.Notes r) rs ls = IsNotable name r rs
  IsDeedFit Deed.Forgets rs ls = paths_of ls name ≡ []
  IsDeedFit (Deed.Settles conffiles) rs ls = ⊥
  IsDeedFit (Deed.Removes leaving) rs ls = SparesAdministration leaving
  IsDeedFit (Deed.RemovesDirectories leaving) rs ls = SparesAdministration leaving
  IsDeedFit (Deed.Clears names) rs ls = AreElsewhere names
  IsDeedFit (Deed.Lists paths) rs ls = IsListing name paths rs
  IsDeedFit Deed.DropsList rs ls = paths_of ls name ≡ []
  IsDeedFit (Deed.DropsMembers keep_postrm) rs ls = Unit {0}

  abbrev pub deed_records : Deed → List Record → List Record
  deed_records (Deed.Notes r) rs = put_record r rs
  deed_records Deed.Forgets rs = drop_record name rs
  deed_records (Deed.Settles conffiles) rs = rs
  deed_records (Deed.Removes leaving) rs = rs
  deed_records (Deed.RemovesDirectories leaving) rs = rs
  deed_records (Deed.Clears names) rs = rs
  deed_records (Deed.Lists paths) rs = rs
  deed_records Deed.DropsList rs = rs
  deed_records (Deed.DropsMembers keep_postrm) rs = rs

  abbrev pub deed_lists : Deed → List PackageList → List PackageList
  deed_lists (Deed.Notes r) ls = ls
  deed_lists Deed.Forgets ls = ls
  deed_lists (Deed.Settles conffiles) ls = ls
  deed_lists (Deed.Removes leaving) ls = ls
  deed_lists (Deed.RemovesDirectories leaving) ls = ls
  deed_lists (Deed.Clears names) ls = ls
  deed_lists (Deed.Lists paths) ls = with_list name paths ls
  deed_lists Deed.DropsList ls = ls
  deed_lists (Deed.DropsMembers keep_postrm) ls = ls

  abbrev pub deeds_records : List Deed → List Record → List Record
  deeds_records [] rs = rs
  deeds_records (d ∷ ds) rs = deeds_records ds (deed_records d rs)

  abbrev pub deeds_lists : List Deed → List PackageList → List PackageList
  deeds_lists [] ls = ls
  deeds_lists (d ∷ ds) ls = deeds_lists ds (deed_lists d ls)

  abbrev pub AreDeedsFit : List Deed → List Record → List PackageList → Type 0
  AreDeedsFit [] rs ls = Unit {0}
  AreDeedsFit (d ∷ ds) rs ls = IsDeedFit d rs ls × AreDeedsFit ds (deed_records d rs) (deed_lists d ls)

  abbrev pub IsPlannedFit : Planned → List Record → List PackageList → Type 0
  IsPlannedFit p rs ls = AreDeedsFit p.parts rs ls × AreDeedsFit p.restore (deeds_records p.parts rs) (deeds_lists p.parts ls)

  abbrev pub ArePlannedFit : List Planned → List Record → List PackageList → Type 0
  ArePlannedFit [] rs ls = Unit {0}
  ArePlannedFit (p ∷ ps) rs ls = IsPlannedFit p rs ls × ArePlannedFit ps (deeds_records p.parts rs) (deeds_lists p.parts ls)

  pub same_records : (part : Part) (rs : List Record) → part_records name part rs ≡ deed_records (deed part) rs
  same_records (Note r) rs = refl
  same_records Forget rs = refl
  same_records (Settle conffiles) rs = refl
  same_records (Remove leaving) rs = refl
  same_records (RemoveDirectories leaving) rs = refl
  same_records (Clear names) rs = refl
  same_records (Listing paths) rs = refl
  same_records DropList rs = refl
  same_records (DropMembers keep_postrm) rs = refl

  pub same_lists : (part : Part) (ls : List PackageList) → part_lists name part ls ≡ deed_lists (deed part) ls
  same_lists (Note r) ls = refl
  same_lists Forget ls = refl
  same_lists (Settle conffiles) ls = refl
  same_lists (Remove leaving) ls = refl
  same_lists (RemoveDirectories leaving) ls = refl
  same_lists (Clear names) ls = refl
  same_lists (Listing paths) ls = refl
  same_lists DropList ls = refl
  same_lists (DropMembers keep_postrm) ls = refl

  pub all_same_records : (parts : List Part) (rs : List Record) → parts_records name parts rs ≡ deeds_records (map deed parts) rs
  all_same_records [] rs = refl
  all_same_records (part ∷ parts) rs = all_same_records parts (part_records name part rs) ∙ ap (deeds_records (map deed parts)) (same_records part rs)

  all_same_lists : (parts : List Part) (ls : List PackageList) → parts_lists name parts ls ≡ deeds_lists (map deed parts) ls
  all_same_lists [] ls = refl
  all_same_lists (part ∷ parts) ls = all_same_lists parts (part_lists name part ls) ∙ ap (deeds_lists (map deed parts)) (same_lists part ls)

  one_fits : (part : Part) (rs : List Record) (ls : List PackageList) → IsDeedFit (deed part) rs ls → IsFit name part rs ls
  one_fits (Note r) rs ls fit = fit
  one_fits Forget rs ls fit = fit
  one_fits (Settle conffiles) rs ls fit = absurd fit
  one_fits (Remove leaving) rs ls fit = fit
  one_fits (RemoveDirectories leaving) rs ls fit = fit
  one_fits (Clear names) rs ls fit = fit
  one_fits (Listing paths) rs ls fit = fit
  one_fits DropList rs ls fit = fit
  one_fits (DropMembers keep_postrm) rs ls fit = fit

  all_fit : (parts : List Part) (rs : List Record) (ls : List PackageList) → AreDeedsFit (map deed parts) rs ls → AreFit name parts rs ls
  all_fit [] rs ls fit = tt
  all_fit (part ∷ parts) rs ls fit = (
    one_fits part rs ls fit.0,
    all_fit parts (part_records name part rs) (part_lists name part ls)
        (subst (λ (x : List Record). AreDeedsFit (map deed parts) x (part_lists name part ls)) (sym (same_records part rs))
        (subst (AreDeedsFit (map deed parts) (deed_records (deed part) rs)) (sym (same_lists part ls)) fit.1)),
  )

  -- stages fit where what they do fits
  pub stages_fit : (stages : List Stage) (rs : List Record) (ls : List PackageList) → ArePlannedFit (map planned stages) rs ls → AreStagesFit name stages rs ls
  stages_fit [] rs ls fit = tt
  stages_fit (s ∷ stages) rs ls fit =
      let parts = s.parts.items in
      let now = parts_records name parts rs in
      let now_lists = parts_lists name parts ls in (
        record {
          parts = all_fit parts rs ls fit.0.0;
          restore = all_fit s.restore.items now now_lists
              (subst (λ (x : List Record). AreDeedsFit (map deed s.restore.items) x now_lists) (sym (all_same_records parts rs))
              (subst (AreDeedsFit (map deed s.restore.items) (deeds_records (map deed parts) rs)) (sym (all_same_lists parts ls)) fit.0.1));
        },
        stages_fit stages now now_lists
            (subst (λ (x : List Record). ArePlannedFit (map planned stages) x now_lists) (sym (all_same_records parts rs))
            (subst (ArePlannedFit (map planned stages) (deeds_records (map deed parts) rs)) (sym (all_same_lists parts ls)) fit.1)),
      )
