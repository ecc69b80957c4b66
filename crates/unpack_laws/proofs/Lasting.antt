-- A file that is written at its place stays there: no old path goes from it, and it is no waiting file.
use Rattle.std.proofs.Common.{◌≡◌, ◌||◌, ◌&&◌, not, inl, ℕ, zero, suc, Bool, true, false, cond, List, [], ◌∷◌, ◌++◌, Option, Contains, map, refl, sym, ap, subst, ◌∙◌, arith}
use Rattle.std.specs.List.{list_any}
use Rattle.std.specs.Str.{bytes_eq}
use Rattle.std.proofs.lemmas.Bool.{false_from_ne_true, or_from, true≢false}
use Rattle.std.proofs.lemmas.List.Folds.{list_any-append}
use Rattle.std.proofs.lemmas.Slice.Eq.{bytes_eq-Decides}
use Rattle.host_core.specs.Paths.{Path, is_ship_text}
use Rattle.host_core.specs.Suffixes.{suffix_text}
use Rattle.host_core.specs.declared.suffix.Suffix.TheVariants.{New}
use Rattle.host_core.proofs.ShipNames.{plain_other, ships}
use Rattle.administration.specs.Places.{home_path, is_within}
use Rattle.diversions.specs.Ways.{Ways, is_led_to, place}
use Rattle.file_lists.specs.Owners.{has_other_owner}
use Rattle.file_lists.specs.declared.paths.PackageList.{PackageList}
use Rattle.file_removal.specs.Clearing.{is_among}
use Rattle.file_removal.specs.declared.leaving.Leaving.{Leaving}
use Rattle.package_files.specs.declared.work.Work.{Work}
use Rattle.list_changes.specs.Clearable.{clearable, is_clearable}
use Rattle.list_changes.specs.Leaving.{is_place_of, leaving_of, stays}
use Rattle.status_records.specs.declared.record.Record.{Record}
use Rattle.listed_files.specs.Areas.{is_leaving_place}
use Rattle.unpack_plan.specs.Lists.{entry_paths, old_leaving}
use Rattle.unpack_plan.specs.Names.{cut_names, gone_name, gone_names, waiting_name, was_cut}
use Rattle.unpack_plan.specs.Records.{entries_of}
use Rattle.unpack_engine.specs.Units.{Given}
use Rattle.unpack_laws.specs.InHand.{unit_found, unit_listed, unit_name, unit_works}
use Rattle.unpack_laws.specs.Whole.{IsLasting}
use Rattle.unpack_laws.proofs.Marks.{work_path}

some_left : (a b : Bool) → a ≡ true → a || b ≡ true
some_left true b e = refl
some_left false b e = absurd (true≢false (sym e))

some_right : (a b : Bool) → b ≡ true → a || b ≡ true
some_right true b e = refl
some_right false b e = e

none_left : (a b : Bool) → a ≡ false → a && b ≡ false
none_left true b e = absurd (true≢false e)
none_left false b e = refl

none_right : (a b : Bool) → b ≡ false → a && b ≡ false
none_right true b e = e
none_right false b e = refl

module _ (ways : Ways) (name : List ℕ) where
  place_among : (paths : List Path) (path : Path) → Contains paths path → is_place_of ways name paths (place ways name path) ≡ true
  place_among [] path has = absurd (omega (arith, has.1))
  place_among (p ∷ paths) path (zero, lt, is) =
      some_left (bytes_eq (place ways name path) (place ways name p)) (is_place_of ways name paths (place ways name path))
      ((bytes_eq-Decides (place ways name path) (place ways name p)).1 (ap (place ways name) (sym is)))
  place_among (p ∷ paths) path (suc k, lt, is) =
      some_right (bytes_eq (place ways name path) (place ways name p)) (is_place_of ways name paths (place ways name path)) (place_among paths path (k, omega (arith, lt), is))

  -- what the list to come has doesn't go
  module _ (lists : List PackageList) (to_come conffiles : List Path) (q : Path) (has : is_place_of ways name to_come q ≡ true) where
    stays_there : stays ways lists name to_come q ≡ true
    stays_there =
        some_right (is_led_to ways q) _ (some_right (is_within home_path q) _ (some_left (is_place_of ways name to_come q) (has_other_owner ways lists name q) has))

    none_goes : (path : Path) → not (list_any (bytes_eq path) conffiles || stays ways lists name to_come (place ways name path)) && bytes_eq q (place ways name path) ≡ false
    none_goes path = by (bytes_eq q (place ways name path)) refl
      where
        by : (b : Bool) → bytes_eq q (place ways name path) ≡ b → not (list_any (bytes_eq path) conffiles || stays ways lists name to_come (place ways name path)) && b ≡ false
        by false e = none_right _ false refl
        by true e =
            none_left _ true (ap not (some_right (list_any (bytes_eq path) conffiles) (stays ways lists name to_come (place ways name path))
            (subst (λ r. stays ways lists name to_come r ≡ true) ((bytes_eq-Decides q (place ways name path)).0 e) stays_there)))

    no_leaving_at : (listed : List Path) → is_leaving_place (leaving_of ways lists name to_come conffiles listed) q ≡ false
    no_leaving_at [] = refl
    no_leaving_at (l ∷ ls) = or_from _ _ (none_goes l) (no_leaving_at ls)

  -- a place is no waiting file
  no_waiting : (q : Path) → is_ship_text q ≡ true → (paths : List Path) → is_among (map (waiting_name ways name) paths) q ≡ false
  no_waiting q ship [] = refl
  no_waiting q ship (p ∷ paths) =
      or_from (bytes_eq q (waiting_name ways name p)) _
      (false_from_ne_true (bytes_eq q (waiting_name ways name p)) (λ e. plain_other q (place ways name p) New (ships q ship).plain ((bytes_eq-Decides q (waiting_name ways name p)).0 e)))
      (no_waiting q ship paths)

-- nor one that a unit left which was cut
module _ (q : Path) (ship : is_ship_text q ≡ true) where
  no_gone_at : (at : Path) (goes : Bool) → is_among (cond goes (clearable ((at ++ suffix_text New) ∷ [])) []) q ≡ false
  no_gone_at at false = refl
  no_gone_at at true = by (is_clearable (at ++ suffix_text New))
    where
      by : (b : Bool) → is_among (cond b ((at ++ suffix_text New) ∷ []) []) q ≡ false
      by false = refl
      by true =
          or_from (bytes_eq q (at ++ suffix_text New)) false
          (false_from_ne_true (bytes_eq q (at ++ suffix_text New)) (λ e. plain_other q at New (ships q ship).plain ((bytes_eq-Decides q (at ++ suffix_text New)).0 e))) refl

  no_gone : (leaving : List Leaving) → is_among (gone_names leaving) q ≡ false
  no_gone [] = refl
  no_gone (x ∷ xs) = list_any-append (bytes_eq q) (gone_name x) (gone_names xs) ∙ or_from _ _ (no_gone_at x.place x.goes) (no_gone xs)

  no_cut : (found : Option Record) (leaving : List Leaving) → is_among (cut_names found leaving) q ≡ false
  no_cut found leaving = by (was_cut found)
    where
      by : (b : Bool) → is_among (cond b (gone_names leaving) []) q ≡ false
      by true = no_gone leaving
      by false = refl

module _ (g : Given) (x : Work) (has : Contains (unit_works g) x) (ship : is_ship_text x.place ≡ true) where
  place_lasts : IsLasting g x.place
  place_lasts =
      let at = work_path g.ways (unit_name g) g.«package».conffiles g.«package».files x has in
      record {
        stays = λ fresh paths is after. no_leaving_at g.ways (unit_name g) g.lists paths (entry_paths (entries_of (unit_found g))) x.place
            (subst (λ r. is_place_of g.ways (unit_name g) paths r ≡ true) at.2 (place_among g.ways (unit_name g) paths at.0 ((after.are at.0).1 (inl at.1)))) (unit_listed g);
        uncleared = no_waiting g.ways (unit_name g) x.place ship _;
        uncut = λ fresh paths is after. no_cut x.place ship (unit_found g) (old_leaving g.ways g.lists (unit_name g) (unit_found g) paths (unit_listed g));
      }

  pub target_lasts : x.target ≡ x.place → IsLasting g x.target
  target_lasts same = subst (IsLasting g) (sym same) place_lasts
