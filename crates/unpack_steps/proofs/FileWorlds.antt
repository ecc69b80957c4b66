-- The files that the file row wrote stay while scripts are called and records are noted.
use Rattle.std.proofs.Common.{◌≡◌, List, true, false, Contains, refl, sym, subst, ◌∙◌}
use Rattle.std.proofs.lemmas.Bool.{false_from_ne_true}
use Rattle.host_core.specs.Paths.{Path}
use Rattle.host_core.specs.World.{World, Change, IsDirectory, is_kept}
use Rattle.host_core.proofs.Scripts.{changed_kept}
use Rattle.administration.specs.Places.{home_path, list_path, temporary}
use Rattle.file_check.specs.Rearranged.{IsRearranged}
use Rattle.package_files.specs.declared.work.Work.{Work}
use Rattle.package_files.specs.Files.{Each, Misses, HasWritten}
use Rattle.package_files.specs.Free.{IsWrittenFrom}
use Rattle.package_files.specs.Names.{IsNamed}
use Rattle.package_files.proofs.WorkLists.{Agree, each_map, new_agree}
use Rattle.package_files.proofs.WorkNames.{kept_names}
use Rattle.status_db.specs.Held.{is_record_place}
use Rattle.listed_files.proofs.Apart.{apart}
use Rattle.unpack_steps.specs.Task.{Task, all_places, name}
use Rattle.unpack_steps.specs.Trail.{Follows, HasFiles}
use Rattle.unpack_steps.proofs.Rearranged.{places_listed}
use Rattle.unpack_steps.proofs.Standing.{apart_by, record_below}

module _ (places : List Path) (c : Change) (v w : World) (follows : Follows places c v w) where
  kept_same : (q : Path) → is_kept places q ≡ true → is_record_place q ≡ false → w q ≡ v q
  kept_same q kept out = follows.rest q out ∙ changed_kept (is_kept places) c v follows.avoids q kept

  no_record : (x : Work) (q : Path) → IsNamed x → (Misses x q → ⊥) → is_record_place q ≡ false
  no_record x q named hits = false_from_ne_true (is_record_place q) (λ is. hits (apart x q named (record_below q is)))

  names_same : (x : Work) → IsNamed x → Contains places x.place → Agree w v x
  names_same x named listed =
      let kept = kept_names places x named listed in
      record {
        target = kept_same x.target kept.target (no_record x x.target named (λ m. m.target refl));
        backup = kept_same x.backup kept.backup (no_record x x.backup named (λ m. m.backup refl));
        fresh = kept_same x.fresh kept.fresh (no_record x x.fresh named (λ m. m.fresh refl));
      }

  pub written_still : (works : List Work) (was : World) → Each IsNamed works → Each (λ x. Contains places x.place) works → IsWrittenFrom works was v → IsWrittenFrom works was w
  written_still works was named listed from = record {
    free = from.free;
    seen = from.seen;
    has = each_map (λ x. IsNamed x × Contains places x.place) (HasWritten was v) (HasWritten was w) (λ x is has. new_agree was v w x (names_same x is.0 is.1) has) works
        (each_map IsNamed (λ x. Contains places x.place) (λ x. IsNamed x × Contains places x.place) (λ x a b. (a, b)) works named listed) from.has;
  }

-- what was written can be put back
module _ (t : Task) (works : List Work) (c : Change) (w : World) (has : HasFiles t works c w) where
  pub still_written : IsRearranged t.works works → Each IsNamed works → IsWrittenFrom works has.listed.mid w
  still_written moved named = written_still (all_places t) has.late has.written w has.since works has.listed.mid named (places_listed t.places t.works works moved) has.from

  pub home_before : IsDirectory (has.listed.mid home_path)
  home_before = subst IsDirectory (sym (has.listed.replaced.rest home_path (apart_by home_path (list_path (name t)) refl) (apart_by home_path (temporary (list_path (name t))) refl))) has.home
