-- Records are taken up behind an opening.
use Rattle.std.proofs.Common.{◌≡◌, ℕ, Bool, IsTrue, List, [], ◌∷◌, ◌++◌, Option, Some, None, Result, Ok, Err, inl, inr, map, refl, sym, ap, subst, ◌∙◌, append-nil}
use Rattle.std.specs.Prelude.{IfOk, IsSome, OnOk}
use Rattle.host_core.specs.World.{World, IsDirectory, KeepsBut}
use Rattle.host_core.specs.Host.{AtEachMoment, Falls, Since, State}
use Rattle.host_core.specs.declared.fault.HostFault.{HostFault}
use Rattle.host_core.specs.declared.fault.HostFault.TheVariants.{Device, NoMemory, Declined}
use Rattle.host_core.proofs.Moments.{since_now, since_then, since_weaker, since_weaker_if}
use Rattle.administration.specs.Fault.{fault_of}
use Rattle.administration.specs.Places.{info_path, diversions_path, tmp_path, list_path, temporary}
use Rattle.administration.specs.declared.fault.AdministrationFault.{AdministrationFault}
use Rattle.administration.proofs.WholeFiles.{no_directory_at}
use Rattle.adopted_conffiles.specs.Adopted.{all_adopted, all_taken}
use Rattle.adopted_conffiles.specs.Adopting.{IsAdopting}
use Rattle.adopted_conffiles.proofs.Taken.{same_names, stands_still}
use Rattle.diversions.specs.Ways.{Ways}
use Rattle.diversions.specs.declared.entry.Diversion.{Diversion}
use Rattle.diversions.specs.Lines.{HasEntries}
use Rattle.file_lists.specs.Info.{IsSound}
use Rattle.file_lists.specs.declared.paths.PackageList.{PackageList}
use Rattle.status_db.specs.Held.{HasRecords, is_record_place}
use Rattle.status_db.specs.Noting.{AreNoted, IsMerging}
use Rattle.status_records.specs.Records.{standing}
use Rattle.status_records.specs.declared.record.Record.{Record}
use Rattle.opening.specs.Followed.{IsFollowed}
use Rattle.opening.specs.Leaving.{IsOpeningOrMerging}
use Rattle.opening.specs.Opened.{IsFound, IsListed, IsOpened}
use Rattle.opening.specs.Parts.{IsDamaged, OpensAndMerges, fault_in, names_of}
use Rattle.opening.specs.Architectures.{AreOfOne}
use Rattle.opening.specs.TakenUp.{HasTakenUp, IsOpeningOrAdopting, IsShut, IsTakenUp, OpensAndAdopts}
use Rattle.opening.specs.declared.open.Opened.{Opened as AnOpened}
use Rattle.opening.proofs.KeptLists.{has_lists_kept}

-- what was found stays so with other records of the same packages

pub found_changed : (old_table table : List Record) (old_notes notes : ℕ) (lists : List PackageList) (entries : List Diversion) (u v : World) → names_of table ≡ names_of old_table → standing table ≡ table
    → IsFound old_table old_notes lists entries u → AreNoted table notes u v → IsFound table notes lists entries v
found_changed old_table table old_notes notes lists entries u v names stand found noted = record {
  home = noted.kept.unblocked.home;
  info = subst IsDirectory (sym (noted.rest info_path refl)) found.info;
  updates = noted.kept.unblocked.updates;
  text = λ bad. found.text (bad.0, bad.1, bad.2, subst IsSome (noted.rest (info_path ++ 47 ∷ bad.0) refl) bad.3);
  diversions = subst (λ n. HasEntries n entries) (sym (noted.rest diversions_path refl)) found.diversions;
  diversions_spare = no_directory_at (v (temporary diversions_path)) (u (temporary diversions_path)) (noted.rest (temporary diversions_path) refl) found.diversions_spare;
  tmp = noted.rest tmp_path refl ∙ found.tmp;
  records = noted.kept;
  standing = stand;
  listed = subst (λ (ns : List (List ℕ)). IsListed v ns lists) (sym names) (record {
    sound = λ entry plain. subst (IsSound (names_of old_table) entry) (sym (noted.rest (info_path ++ 47 ∷ entry) refl)) (found.listed.sound entry plain);
    lists = has_lists_kept u v (names_of old_table) lists (λ name known. noted.rest (list_path name) refl) found.listed.lists;
  });
}

pub found_adopted : (ways : Ways) (table new : List Record) (notes : ℕ) (lists : List PackageList) (entries : List Diversion) (u v : World) → new ≡ all_adopted u ways table → IsOpened table lists entries u → AreNoted new notes u v → IsFound new notes lists entries v
found_adopted ways table new notes lists entries u v are opened noted =
    found_changed table new 0 notes lists entries u v (ap names_of are ∙ same_names u ways table) (ap standing are ∙ stands_still u ways table opened.standing ∙ sym are) opened noted

-- the merging behind it

pub kept_both : (u v w : World) → KeepsBut is_record_place u v → KeepsBut is_record_place v w → KeepsBut is_record_place u w
kept_both u v w first second q out = second q out ∙ first q out

merging_adopts : (ways : Ways) (table new : List Record) (u v w : World) → new ≡ all_adopted u ways table → KeepsBut is_record_place u v → IsMerging new v w → IsAdopting ways table u w
merging_adopts ways table new u v w are rest merging = record {
  front = table;
  back = [];
  is = sym (append-nil table);
  records = subst (HasRecords w) (are ∙ sym (append-nil (all_adopted u ways table))) merging.same;
  opens = merging.opens;
  rest = kept_both u v w rest merging.rest;
}

pub moments_merged : (ways : Ways) (table new : List Record) (notes : ℕ) (a b c : State) → (IsTrue b.honest → new ≡ all_adopted a.world ways table) → (IsTrue b.honest → AreNoted new notes a.world b.world) → Falls b c → AtEachMoment (IsAdopting ways table) a b
    → AtEachMoment (IsMerging new) b c → AtEachMoment (IsAdopting ways table) a c
moments_merged ways table new notes a b c are noted falls first second =
    since_then (λ so_far. IsAdopting ways table a.world) a b c first
    (since_weaker_if (λ so_far. IsMerging new b.world) (λ so_far. IsAdopting ways table a.world) b c (λ h so_far w merging. merging_adopts ways table new a.world b.world w (are (falls h)) (noted (falls h)).rest merging) second)

pub always : {T E P : Type 0} (result : Result T E) → P → OnOk result P
always (Ok x) p = p
always (Err e) p = tt

pub on_ok : {T E P Q : Type 0} (result : Result T E) → (P → Q) → OnOk result P → OnOk result Q
on_ok (Ok x) f p = f p
on_ok (Err e) f p = tt

pub if_ok : {T E : Type 0} (result : Result T E) {P Q : T → Type 0} → ((x : T) → P x → Q x) → IfOk result P → IfOk result Q
if_ok (Ok x) f p = f x p
if_ok (Err e) f p = tt

pub not_damaged : (fault : HostFault) → IsDamaged (Some (fault_of fault)) → ⊥
not_damaged Device damaged = damaged
not_damaged NoMemory damaged = damaged
not_damaged Declined damaged = damaged

-- as a whole

pub moments_open : (a b : State) → AtEachMoment IsOpeningOrMerging a b → AtEachMoment IsOpeningOrAdopting a b
moments_open a b since = since_weaker (λ so_far. IsOpeningOrMerging a.world) (λ so_far. IsOpeningOrAdopting a.world) a b (λ so_far w is. IsOpeningOrAdopting.opening is) since

pub moments_adopted : (ways : Ways) (table : List Record) (lists : List PackageList) (a b c : State) → (IsTrue b.honest → IsOpened table lists ways.entries b.world) → Falls b c → AtEachMoment IsOpeningOrMerging a b → AtEachMoment (IsAdopting ways table) b c → AtEachMoment IsOpeningOrAdopting a c
moments_adopted ways table lists a b c opened falls first second =
    since_then (λ so_far. IsOpeningOrAdopting a.world) a b c (moments_open a b first)
    (since_weaker_if (λ so_far. IsAdopting ways table b.world) (λ so_far. IsOpeningOrAdopting a.world) b c
    (λ h so_far w is. IsOpeningOrAdopting.adopting b.world ways table lists (since_now (λ so_far. IsOpeningOrMerging a.world) a b first (falls h)) (opened (falls h)) is) second)

pub opens_taken : (fault : Option AdministrationFault) (ways : Ways) (table : List Record) (u v w : World) → OpensAndMerges None u v → (IsDamaged fault → ⊥) → HasRecords v table → AreOfOne table → IsAdopting ways table v w → OpensAndAdopts fault u w
opens_taken fault ways table u v w opens sound records one is = record {
  read = v;
  found = None;
  opens = opens;
  takes = inr (record { sound = sound; ways = ways; table = table; records = records; one = one; adopting = is });
}

pub opens_refused : (fault : AdministrationFault) (u v : World) → IsShut fault u v → OpensAndAdopts (Some fault) u v
opens_refused fault u v (inl opens) = record { read = v; found = Some fault; opens = opens; takes = (refl, refl) }
opens_refused fault u v (inr two) = record { read = two.0; found = None; opens = two.1; takes = inl two.2 }

-- what is answered

pub taken_up : (result : Result AnOpened AdministrationFault) (opened : AnOpened) (u v w : World) → OpensAndMerges None u v → IsOpened opened.database.records opened.lists.lists opened.diversions.ways.entries v → IsFollowed opened.lists.lists opened.diversions.ways v
    → AreOfOne opened.database.records → IfOk result (λ kept. kept.lists ≡ opened.lists) → IfOk result (λ kept. kept.diversions ≡ opened.diversions) → IfOk result (λ kept. kept.database.records ≡ all_adopted v opened.diversions.ways opened.database.records)
    → OnOk result (all_taken v opened.diversions.ways opened.database.records ≡ [] → w ≡ v) → OnOk result (KeepsBut is_record_place v w) → IfOk result (λ kept. IsTakenUp kept.database.records kept.lists.lists kept.diversions.ways u w)
taken_up (Ok kept) opened u v w opens is followed one lists diversions are still rest =
    rw (lists, diversions)
    (record { read = v; before = opened.database.records; opens = opens; opened = is; followed = followed; one = one; are = are; still = still; rest = rest })
taken_up (Err fault) opened u v w opens is followed one lists diversions are still rest = tt
