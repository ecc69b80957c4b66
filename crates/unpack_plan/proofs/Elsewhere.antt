-- Names beside places that a package may have lie outside the administration.
use Rattle.std.proofs.Common.{◌≡◌, ◌≢◌, Bool, true, false, cond, List, [], ◌∷◌, ◌++◌, Option, None, refl, sym, ap, ◌∙◌, inl, inr}
use Rattle.std.specs.Prelude.{◌||◌}
use Rattle.std.specs.Str.{bytes_eq}
use Rattle.std.proofs.lemmas.Bool.{true≢false, false_from_ne_true}
use Rattle.std.proofs.lemmas.List.Folds.{list_any-append}
use Rattle.std.proofs.lemmas.Slice.Eq.{bytes_eq-Decides}
use Rattle.host_core.specs.Paths.{Path, is_below_administration, is_ship_text}
use Rattle.host_core.specs.Suffixes.{suffix_text}
use Rattle.host_core.specs.declared.node.Node.TheVariants.{Link}
use Rattle.host_core.specs.declared.suffix.Suffix.{Suffix}
use Rattle.host_core.specs.declared.suffix.Suffix.TheVariants.{New, Tmp, Inst}
use Rattle.host_core.proofs.ShipNames.{plain_other}
use Rattle.administration.specs.Places.{home_path, is_within}
use Rattle.administration.proofs.Within.{within_is}
use Rattle.file_removal.specs.Clearing.{is_among}
use Rattle.file_removal.specs.declared.leaving.Leaving.{Leaving}
use Rattle.package_files.specs.Files.{Each}
use Rattle.package_files.specs.Names.{IsNamed}
use Rattle.package_files.specs.declared.work.Work.{Work}
use Rattle.list_changes.specs.Clearable.{clearable}
use Rattle.list_changes.proofs.Outside.{clearable_elsewhere}
use Rattle.status_records.specs.declared.record.Record.{Record}
use Rattle.listed_files.specs.Concluding.{AreElsewhere}
use Rattle.listed_files.proofs.Apart.{apart, goes_on}
use Rattle.unpack_plan.specs.Names.{backups, cut_names, gone_name, gone_names, was_cut}

abbrev work_at : Path → Work
work_at p = record { path = p; place = p; target = p ++ suffix_text New; backup = p ++ suffix_text Tmp; fresh = p ++ suffix_text Inst; node = Link []; had = None }

home_is_plain : (p : Path) (s : Suffix) → home_path ≢ p ++ suffix_text s
home_is_plain p s = plain_other home_path p s refl

-- the three names of a work, and any path within the administration's directory
new_apart : (p q : Path) → is_ship_text p ≡ true → is_within home_path q ≡ true → q ≢ p ++ suffix_text New
new_apart p q ship within e = elim (within_is home_path q within) [
  | inl home ↦ home_is_plain p New (sym home ∙ e)
  | inr below ↦ (apart (work_at p) q (record { place = ship; target = inr refl; backup = refl; fresh = refl }) (ap is_below_administration below.1 ∙ goes_on below.0)).target e
]

backup_apart : (x : Work) (q : Path) → IsNamed x → is_within home_path q ≡ true → q ≢ x.backup
backup_apart x q named within e = elim (within_is home_path q within) [
  | inl home ↦ home_is_plain x.place Tmp (sym home ∙ e ∙ named.backup)
  | inr below ↦ (apart x q named (ap is_below_administration below.1 ∙ goes_on below.0)).backup e
]

apart_test : (q n : Path) → q ≢ n → bytes_eq q n ≡ false
apart_test q n other = false_from_ne_true (bytes_eq q n) (λ e. other ((bytes_eq-Decides q n).0 e))

pub new_elsewhere : (p : Path) → is_ship_text p ≡ true → AreElsewhere ((p ++ suffix_text New) ∷ [])
new_elsewhere p ship q within = ap (λ b. b || false) (apart_test q (p ++ suffix_text New) (new_apart p q ship within))

pub backups_elsewhere : (works : List Work) → Each IsNamed works → AreElsewhere (backups works)
backups_elsewhere [] named q within = refl
backups_elsewhere (x ∷ works) named q within =
    ap (λ b. b || is_among (backups works) q) (apart_test q x.backup (backup_apart x q named.0 within)) ∙ backups_elsewhere works named.1 q within

pub elsewhere_more : (names : List Path) (n : Path) → AreElsewhere names → AreElsewhere (n ∷ []) → AreElsewhere (names ++ n ∷ [])
elsewhere_more [] n before one q within = one q within
elsewhere_more (m ∷ names) n before one q within =
    ap (λ b. b || is_among (names ++ n ∷ []) q) (first (bytes_eq q m) (is_among names q) (before q within)) ∙ elsewhere_more names n (λ r in_r. second (bytes_eq r m) (is_among names r) (before r in_r)) one q within
  where
    first : (a b : Bool) → (a || b) ≡ false → a ≡ false
    first true b e = absurd (true≢false e)
    first false b e = refl

    second : (a b : Bool) → (a || b) ≡ false → b ≡ false
    second true b e = absurd (true≢false e)
    second false b e = e

pub append_elsewhere : (xs ys : List Path) → AreElsewhere xs → AreElsewhere ys → AreElsewhere (xs ++ ys)
append_elsewhere xs ys first second q within = list_any-append (bytes_eq q) xs ys ∙ ap (λ b. b || is_among ys q) (first q within) ∙ second q within

gone_elsewhere : (leaving : List Leaving) → AreElsewhere (gone_names leaving)
gone_elsewhere [] = λ q within. refl
gone_elsewhere (x ∷ xs) = append_elsewhere (gone_name x) (gone_names xs) (one x.goes) (gone_elsewhere xs)
  where
    one : (goes : Bool) → AreElsewhere (cond goes (clearable ((x.place ++ suffix_text New) ∷ [])) [])
    one true = clearable_elsewhere ((x.place ++ suffix_text New) ∷ [])
    one false = λ q within. refl

pub cut_elsewhere : (found : Option Record) (leaving : List Leaving) → AreElsewhere (cut_names found leaving)
cut_elsewhere found leaving = by (was_cut found)
  where
    by : (cut : Bool) → AreElsewhere (cond cut (gone_names leaving) [])
    by true = gone_elsewhere leaving
    by false = λ q within. refl
