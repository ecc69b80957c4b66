-- All was read, and then the notes are merged into the status file.
use Rattle.std.proofs.Common.{ℕ, IsTrue, List, ◌∷◌, ◌++◌, Option, Some, None, refl, sym, subst, ◌∙◌}
use Rattle.std.specs.Prelude.{IsSome}
use Rattle.host_core.specs.World.{World, IsDirectory}
use Rattle.host_core.specs.Host.{State, Falls, Since}
use Rattle.host_core.proofs.Moments.{since_now, since_then, since_weaker, since_weaker_if}
use Rattle.administration.specs.Places.{info_path, diversions_path, tmp_path, list_path, temporary}
use Rattle.administration.specs.declared.fault.AdministrationFault.{AdministrationFault}
use Rattle.administration.proofs.WholeFiles.{no_directory_at}
use Rattle.diversions.specs.declared.entry.Diversion.{Diversion}
use Rattle.diversions.specs.Lines.{HasEntries}
use Rattle.file_lists.specs.Info.{IsSound}
use Rattle.file_lists.specs.declared.paths.PackageList.{PackageList}
use Rattle.status_db.specs.Held.{HasRecords}
use Rattle.status_db.specs.Noting.{AreNoted, IsMerging}
use Rattle.status_records.specs.declared.record.Record.{Record}
use Rattle.opening.specs.Leaving.{IsOpening, IsReading}
use Rattle.opening.specs.Opened.{IsFound, IsListed}
use Rattle.opening.specs.Parts.{IsDamaged, Opens, ReadsAndMerges, names_of, parts}
use Rattle.opening.proofs.KeptLists.{has_lists_kept}

-- what was found stays so, and no note stands any more

listed_noted : (records : List Record) (names : List (List ℕ)) (lists : List PackageList) (u v : World) → AreNoted records 0 u v → IsListed u names lists → IsListed v names lists
listed_noted records names lists u v noted listed = record {
  sound = λ entry plain. subst (IsSound names entry) (sym (noted.rest (info_path ++ 47 ∷ entry) refl)) (listed.sound entry plain);
  lists = has_lists_kept u v names lists (λ name known. noted.rest (list_path name) refl) listed.lists;
}

pub found_noted : (records : List Record) (notes : ℕ) (lists : List PackageList) (entries : List Diversion) (u v : World) → IsFound records notes lists entries u → AreNoted records 0 u v → IsFound records 0 lists entries v
found_noted records notes lists entries u v found noted = record {
  home = noted.kept.unblocked.home;
  info = subst IsDirectory (sym (noted.rest info_path refl)) found.info;
  updates = noted.kept.unblocked.updates;
  text = λ bad. found.text (bad.0, bad.1, bad.2, subst IsSome (noted.rest (info_path ++ 47 ∷ bad.0) refl) bad.3);
  diversions = subst (λ n. HasEntries n entries) (sym (noted.rest diversions_path refl)) found.diversions;
  diversions_spare = no_directory_at (v (temporary diversions_path)) (u (temporary diversions_path)) (noted.rest (temporary diversions_path) refl) found.diversions_spare;
  tmp = noted.rest tmp_path refl ∙ found.tmp;
  records = noted.kept;
  standing = found.standing;
  listed = listed_noted records (names_of records) lists u v noted found.listed;
}

-- of all that was done

pub opens_failed : (fault : AdministrationFault) (u v : World) → Opens parts (Some fault) u v → ReadsAndMerges (Some fault) u v
opens_failed fault u v opens = record { read = v; found = Some fault; opens = opens; merges = (refl, refl) }

pub opens_merged : (fault : Option AdministrationFault) (table : List Record) (u v w : World) → Opens parts None u v → HasRecords v table → (IsDamaged fault → ⊥) → IsMerging table v w → ReadsAndMerges fault u w
opens_merged fault table u v w opens records sound merging = record {
  read = v;
  found = None;
  opens = opens;
  merges = record { sound = sound; table = table; records = records; merging = merging };
}

pub moments_opening : (a b : State) → Since (λ so_far. IsOpening a.world) a b → Since (λ so_far. IsReading a.world) a b
moments_opening a b since = since_weaker (λ so_far. IsOpening a.world) (λ so_far. IsReading a.world) a b (λ so_far w is. IsReading.opening is) since

pub moments_merging : (table : List Record) (a b c : State) → Since (λ so_far. IsOpening a.world) a b → (IsTrue b.honest → HasRecords b.world table) → Falls b c → Since (λ so_far. IsMerging table b.world) b c → Since (λ so_far. IsReading a.world) a c
moments_merging table a b c first records falls second = since_then (λ so_far. IsReading a.world) a b c (moments_opening a b first)
    (since_weaker_if (λ so_far. IsMerging table b.world) (λ so_far. IsReading a.world) b c (λ h so_far w merging.
    IsReading.merging b.world table (since_now (λ so_far. IsOpening a.world) a b first (falls h)) (records (falls h)) merging) second)
