-- A place of another package is none that an unpack's commit touches: no old path of the package goes there, and no name of the
-- installer is there.
use Rattle.std.proofs.Common.{◌≡◌, ◌≢◌, ◌||◌, ◌&&◌, not, ℕ, zero, suc, Bool, true, false, cond, List, [], ◌∷◌, ◌++◌, Option, Contains, filter, map, refl, sym, ap, ◌∙◌, arith}
use Rattle.std.specs.List.{flat_map, list_any}
use Rattle.std.specs.Str.{bytes_eq}
use Rattle.std.proofs.lemmas.Bool.{and_parts, false_from_ne_true, or_from, true≢false}
use Rattle.std.proofs.lemmas.List.Folds.{list_any-append}
use Rattle.std.proofs.lemmas.Slice.Eq.{bytes_eq-Decides}
use Rattle.host_core.specs.Paths.{Path, has_reserved_suffix}
use Rattle.host_core.specs.Suffixes.{suffix_text}
use Rattle.host_core.specs.declared.suffix.Suffix.TheVariants.{New, Tmp}
use Rattle.host_core.proofs.ShipNames.{plain_other}
use Rattle.administration.specs.Places.{home_path, is_within}
use Rattle.diversions.specs.Ways.{Ways, is_led_to, place}
use Rattle.file_check.specs.Ships.{is_conffile}
use Rattle.file_lists.specs.Owners.{has_other_owner, owners_of}
use Rattle.file_lists.specs.declared.paths.Listed.{Listed}
use Rattle.file_lists.specs.declared.paths.PackageList.{PackageList}
use Rattle.file_removal.specs.Clearing.{is_among}
use Rattle.file_removal.specs.declared.leaving.Leaving.{Leaving}
use Rattle.list_changes.specs.Clearable.{clearable, is_clearable}
use Rattle.list_changes.specs.Leaving.{is_place_of, leaving_of, stays}
use Rattle.package_files.specs.declared.work.Work.{Work}
use Rattle.package_files.specs.Files.{Each}
use Rattle.package_files.specs.Names.{IsNamed}
use Rattle.listed_files.specs.Areas.{is_leaving_place}
use Rattle.status_records.specs.declared.record.Record.{Record}
use Rattle.unpack_plan.specs.Lists.{entry_paths, old_leaving}
use Rattle.unpack_plan.specs.Names.{backups, cut_names, gone_names, known_conffiles, left_names, waiting_name, was_cut}
use Rattle.unpack_plan.specs.Planned.{IsPlanned, Planned}
use Rattle.unpack_plan.specs.Records.{entries_of}
use Rattle.unpack_rows.specs.declared.rows.Present.{Present}
use Rattle.unpack_engine.specs.Units.{Given, Ground, ground_of, job_of, package_name}
use Rattle.unpack_laws.specs.InHand.{IsNoCut, IsNoLeaving, unit_found, unit_listed, unit_name}
use Rattle.unpack_laws.proofs.Alone.{IsAside}
use Rattle.unpack_laws.proofs.Passing.{no_cleared, no_leaving, outside_list, outside_member, outside_records, outside_tmp}
use Rattle.kept_files.specs.Kept.{IsOthersPlace, IsPackagePlace}

any_there : {X : Type 0} (P : X → Bool) (xs : List X) (x : X) → Contains xs x → P x ≡ true → list_any P xs ≡ true
any_there P [] x there is = absurd (omega (arith, there.1))
any_there P (y ∷ ys) x (zero, lt, at) is = first (P y) (list_any P ys) (ap P at ∙ is)
  where
    first : (a b : Bool) → a ≡ true → a || b ≡ true
    first true b e = refl
    first false b e = absurd (true≢false (sym e))
any_there P (y ∷ ys) x (suc k, lt, at) is = later (P y) (list_any P ys) (any_there P ys x (k, omega (arith, lt), at) is)
  where
    later : (a b : Bool) → b ≡ true → a || b ≡ true
    later true b e = refl
    later false b e = e

pub other_owner : (ways : Ways) (lists : List PackageList) (name : List ℕ) (q : Path) → IsOthersPlace ways lists name q → has_other_owner ways lists name q ≡ true
other_owner ways lists name q is =
    any_there (λ (owner : Listed). not (bytes_eq owner.name name)) (owners_of ways lists q) is.owner is.lies
    (ap not (false_from_ne_true (bytes_eq is.owner.name name) (λ e. is.other ((bytes_eq-Decides is.owner.name name).0 e))))

-- old paths

last_stays : (a b c d : Bool) → d ≡ true → a || (b || (c || d)) ≡ true
last_stays true b c d is = refl
last_stays false true c d is = refl
last_stays false false true d is = refl
last_stays false false false d is = is

goes_not : (conffile staying here : Bool) → (here ≡ true → staying ≡ true) → not (conffile || staying) && here ≡ false
goes_not true staying here so = refl
goes_not false true here so = refl
goes_not false false true so = absurd (true≢false (sym (so refl)))
goes_not false false false so = refl

module _ (q : Path) (ways : Ways) (lists : List PackageList) (name : List ℕ) (owned : has_other_owner ways lists name q ≡ true) where
  stays_here : (to_come : List Path) (at : Path) → bytes_eq q at ≡ true → stays ways lists name to_come at ≡ true
  stays_here to_come at same =
      last_stays (is_led_to ways at) (is_within home_path at) (is_place_of ways name to_come at) (has_other_owner ways lists name at)
      (ap (has_other_owner ways lists name) (sym ((bytes_eq-Decides q at).0 same)) ∙ owned)

  pub none_leaves : (to_come conffiles xs : List Path) → is_leaving_place (leaving_of ways lists name to_come conffiles xs) q ≡ false
  none_leaves to_come conffiles [] = refl
  none_leaves to_come conffiles (x ∷ xs) =
      or_from (not (list_any (bytes_eq x) conffiles || stays ways lists name to_come (place ways name x)) && bytes_eq q (place ways name x)) (is_leaving_place (leaving_of ways lists name to_come conffiles xs) q)
      (goes_not (list_any (bytes_eq x) conffiles) (stays ways lists name to_come (place ways name x)) (bytes_eq q (place ways name x)) (stays_here to_come (place ways name x)))
      (none_leaves to_come conffiles xs)

-- names with an ending of the installer's

module _ (q : Path) (plain : has_reserved_suffix q ≡ false) where
  not_new : (at : Path) → bytes_eq q (at ++ suffix_text New) ≡ false
  not_new at = false_from_ne_true (bytes_eq q (at ++ suffix_text New)) (λ e. plain_other q at New plain ((bytes_eq-Decides q (at ++ suffix_text New)).0 e))

  no_backup : (works : List Work) → Each IsNamed works → is_among (backups works) q ≡ false
  no_backup [] named = refl
  no_backup (x ∷ xs) named =
      or_from (bytes_eq q x.backup) (is_among (backups xs) q)
      (false_from_ne_true (bytes_eq q x.backup) (λ e. plain_other q x.place Tmp plain ((bytes_eq-Decides q x.backup).0 e ∙ named.0.backup)))
      (no_backup xs named.1)

  no_waiting : (ways : Ways) (name : List ℕ) (paths : List Path) → is_among (map (waiting_name ways name) paths) q ≡ false
  no_waiting ways name [] = refl
  no_waiting ways name (p ∷ ps) = or_from (bytes_eq q (waiting_name ways name p)) (is_among (map (waiting_name ways name) ps) q) (not_new (place ways name p)) (no_waiting ways name ps)

  no_clearable : (at : Path) → is_among (clearable ((at ++ suffix_text New) ∷ [])) q ≡ false
  no_clearable at = by (is_clearable (at ++ suffix_text New))
    where
      by : (b : Bool) → is_among (cond b ((at ++ suffix_text New) ∷ []) []) q ≡ false
      by true = or_from (bytes_eq q (at ++ suffix_text New)) false (not_new at) refl
      by false = refl

  no_gone : (leaving : List Leaving) → is_among (gone_names leaving) q ≡ false
  no_gone [] = refl
  no_gone (x ∷ xs) = by x.goes (no_gone xs)
    where
      by : (b : Bool) → is_among (gone_names xs) q ≡ false → is_among (cond b (clearable ((x.place ++ suffix_text New) ∷ [])) [] ++ gone_names xs) q ≡ false
      by true rest =
          list_any-append (bytes_eq q) (clearable ((x.place ++ suffix_text New) ∷ [])) (gone_names xs)
          ∙ or_from (is_among (clearable ((x.place ++ suffix_text New) ∷ [])) q) (is_among (gone_names xs) q) (no_clearable x.place) rest
      by false rest = rest

  no_cut : (found : Option Record) (leaving : List Leaving) → is_among (cut_names found leaving) q ≡ false
  no_cut found leaving = by (was_cut found)
    where
      by : (b : Bool) → is_among (cond b (gone_names leaving) []) q ≡ false
      by true = no_gone leaving
      by false = refl

module _ (g : Given) (stored : Present) (p : Planned) (plan : IsPlanned (job_of g stored) p) (places : List Path) (q : Path) (packaged : IsPackagePlace q) (others : IsOthersPlace g.ways g.lists (unit_name g) q) where
  abbrev here : Ground
  here = ground_of g places

  leaves_not : IsNoLeaving g q
  leaves_not fresh paths is_fresh is_after =
      none_leaves q g.ways g.lists (unit_name g) (other_owner g.ways g.lists (unit_name g) q others) paths (entry_paths (entries_of (unit_found g))) (unit_listed g)

  cuts_not : IsNoCut g q
  cuts_not fresh paths is_fresh is_after = no_cut q packaged.plain (unit_found g) (old_leaving g.ways g.lists (unit_name g) (unit_found g) paths (unit_listed g))

  pub aside : IsAside here p q
  aside = record {
    unnoted = outside_records q packaged.outside;
    tmp = outside_tmp q packaged.outside;
    list = outside_list q packaged.outside (package_name here p);
    no_member = λ name is. outside_member q packaged.outside (package_name here p) name;
    stays = no_leaving g stored p plan places q leaves_not;
    uncleared = no_cleared g stored p plan places q (no_backup q packaged.plain p.works plan.works_are.named)
        (no_waiting q packaged.plain g.ways (unit_name g) (filter (λ c. not (is_conffile g.«package».conffiles c)) (known_conffiles (unit_found g)))) cuts_not;
    unlost = λ works begun stage moved n has. outside_list q packaged.outside n;
  }
