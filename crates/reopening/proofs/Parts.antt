-- Parts of a unit, in the end and at each moment: no opening refuses what stands in `info`, and `tmp.ci` is left alone.
use Rattle.std.proofs.Common.{◌≡◌, ◌≢◌, inl, inr, ℕ, Bool, true, false, not, cond, List, [], ◌∷◌, ◌++◌, Contains, filter, get_or, refl, sym, ap, subst, ◌∙◌, arith}
use Rattle.std.specs.List.{AllByRecursion}
use Rattle.std.specs.Str.{bytes_eq}
use Rattle.std.specs.Cmp.Lexicographic.{slice_cmp}
use Rattle.std.specs.Ordering.{is_lt, nat_cmp}
use Rattle.texts.specs.PackageNames.{is_package_name}
use Rattle.host_core.specs.Events.{Event}
use Rattle.host_core.specs.Host.{OnlyScripts}
use Rattle.host_core.specs.Paths.{Path, is_below_administration, is_own}
use Rattle.host_core.proofs.Scripts.{only_kept}
use Rattle.host_core.specs.World.{World, is_kept}
use Rattle.administration.proofs.Within.{within_is}
use Rattle.administration.specs.Places.{home_path, is_within, list_path, temporary, tmp_path}
use Rattle.control_members.specs.Stored.{goes, stored_member_path}
use Rattle.status_db.specs.Held.{is_record_place}
use Rattle.status_records.specs.Records.{drop_record, place_record, put_record}
use Rattle.status_records.specs.Words.{is_not_installed}
use Rattle.status_records.specs.declared.record.Record.{Record}
use Rattle.unit_stages.proofs.ConffileNames.{below_none}
use Rattle.unit_stages.proofs.Outside.{IsOutside, cleared_outside, clearing_outside, removed_outside, removing_outside}
use Rattle.unit_stages.specs.Doing.{AreDoing, IsFirstDoing, MayDo, MayDrop}
use Rattle.unit_stages.specs.Parts.{HasDone, HaveDone, part_records, parts_records}
use Rattle.unit_stages.specs.declared.part.Part.{Part}
use Rattle.unit_stages.specs.declared.part.Part.TheVariants.{Note, Forget, Settle, Remove, RemoveDirectories, Clear, List as Listing, DropList, DropMembers}
use Rattle.listed_files.specs.Closing.{SparesAdministration}
use Rattle.listed_files.specs.Concluding.{AreElsewhere}
use Rattle.reopening.proofs.Inside.{IsQuiet, quiet_here, quiet_inside, quiet_noted, quiet_outside, quiet_scripts, quiet_then}
use Rattle.reopening.proofs.Steps.{AreGood, dropped_quiet, dropping_quiet, replaced_quiet, replacing_quiet, taken_quiet, taking_quiet}

-- and `tmp.ci` stays as it is
pub record IsCalm (old now : World) : Type 0 where
  pub quiet : IsQuiet old now
  pub tmp : (q : Path) → is_within tmp_path q ≡ true → now q ≡ old q

pub calm_here : (w : World) → IsCalm w w
calm_here w = record { quiet = quiet_here w; tmp = λ q within. refl }

pub calm_then : (u v w : World) → IsCalm u v → IsCalm v w → IsCalm u w
calm_then u v w first second = record { quiet = quiet_then u v w first.quiet second.quiet; tmp = λ q within. second.tmp q within ∙ first.tmp q within }

pub calm_still : (old now : World) → now ≡ old → IsCalm old now
calm_still old now same = subst (IsCalm old) (sym same) (calm_here old)

-- a path within `tmp.ci`

abbrev byte : Path → ℕ
byte p = get_or p 14 0

pub record IsTemporary (q : Path) : Type 0 where
  pub below : is_within home_path q ≡ true
  pub under : is_below_administration q ≡ true
  pub own : is_own q ≡ true
  pub unnoted : is_record_place q ≡ false
  pub letter : byte q ≡ 116

pub temporary_is : (q : Path) → is_within tmp_path q ≡ true → IsTemporary q
temporary_is q within = elim (within_is tmp_path q within) [
  | inl is ↦ subst IsTemporary (sym is) (record { below = refl; under = refl; own = refl; unnoted = refl; letter = refl })
  | inr more ↦ subst IsTemporary (sym more.1) (record { below = refl; under = refl; own = refl; unnoted = refl; letter = refl })
]

pub tmp_no_list : (name q : Path) → is_within tmp_path q ≡ true → (q ≢ list_path name) × (q ≢ temporary (list_path name))
tmp_no_list name q within = (let at = (temporary_is q within).letter in (λ e. absurd (omega (arith, at, ap byte e)), λ e. absurd (omega (arith, at, ap byte e))))

pub tmp_no_member : (name q member : Path) → is_within tmp_path q ≡ true → q ≢ stored_member_path name member
tmp_no_member name q member within e = (let at = (temporary_is q within).letter in absurd (omega (arith, at, ap byte e)))

-- where all within the directory of the administration stays, or all but records
calm_outside : (old now : World) → IsOutside old now → IsCalm old now
calm_outside old now same = record { quiet = quiet_outside old now same; tmp = λ q within. same q (temporary_is q within).below }

calm_below : (old now : World) → ((q : Path) → is_below_administration q ≡ true → now q ≡ old q) → IsCalm old now
calm_below old now same = record { quiet = quiet_inside old now (λ q inside. same q inside.below); tmp = λ q within. same q (temporary_is q within).under }

pub calm_noted : (old now : World) → ((q : Path) → is_record_place q ≡ false → now q ≡ old q) → IsCalm old now
calm_noted old now rest = record { quiet = quiet_noted old now rest; tmp = λ q within. rest q (temporary_is q within).unnoted }

pub calm_scripts : (places : List Path) (old : World) (so_far : List Event) (now : World) → OnlyScripts (is_kept places) old so_far now → IsCalm old now
calm_scripts places old so_far now only = record {
  quiet = quiet_scripts places old so_far now only;
  tmp = λ q within. only_kept (is_kept places) old now so_far only q (kept_tmp q within);
}
  where
    kept_tmp : (q : Path) → is_within tmp_path q ≡ true → is_kept places q ≡ true
    kept_tmp q within = elim (within_is tmp_path q within) [
      | inl is ↦ subst (λ (p : Path). is_kept places p ≡ true) (sym is) refl
      | inr more ↦ subst (λ (p : Path). is_kept places p ≡ true) (sym more.1) refl
    ]

-- A part of this package: a record of it that stands is noted, no place of the administration goes, and the list is one that is read
-- back.
abbrev pub IsSafePart : Path → Part → Type 0
IsSafePart name (Note r) = (r.name ≡ name) × (is_not_installed r.state ≡ false)
IsSafePart name Forget = Unit {0}
IsSafePart name (Settle settled) = Unit {0}
IsSafePart name (Remove leaving) = SparesAdministration leaving.items
IsSafePart name (RemoveDirectories leaving) = SparesAdministration leaving.items
IsSafePart name (Clear names) = AreElsewhere names.items
IsSafePart name (Listing paths) = AreGood paths
IsSafePart name DropList = Unit {0}
IsSafePart name (DropMembers keep_postrm) = Unit {0}

abbrev pub AreSafeParts : Path → List Part → Type 0
AreSafeParts name parts = AllByRecursion (IsSafePart name) parts

module _ (name : Path) (named : is_package_name name ≡ true) where
  part_done : (declined : Path → Type 0) (part : Part) (rs : List Record) (old new : World) → IsSafePart name part → HasDone name declined part rs old new → IsCalm old new
  part_done declined (Note r) rs old new safe done = calm_noted old new done.rest
  part_done declined Forget rs old new safe done = calm_noted old new done.rest
  part_done declined (Settle settled) rs old new safe done = calm_below old new (λ q below. done.rest q (below_none settled.items q below))
  part_done declined (Remove leaving) rs old new safe done = calm_outside old new (removed_outside false leaving.items old new safe declined done)
  part_done declined (RemoveDirectories leaving) rs old new safe done = calm_outside old new (removed_outside true leaving.items old new safe declined done)
  part_done declined (Clear names) rs old new safe done = calm_outside old new (cleared_outside names.items old new safe done)
  part_done declined (Listing paths) rs old new safe done =
      record { quiet = replaced_quiet name named paths safe old new done; tmp = λ q within. (let other = tmp_no_list name q within in done.rest q other.0 other.1) }
  part_done declined DropList rs old new safe done = record { quiet = dropped_quiet name named old new done; tmp = λ q within. done.rest q (tmp_no_list name q within).0 }
  part_done declined (DropMembers keep_postrm) rs old new safe done = record {
    quiet = taken_quiet name named old new (goes done.names keep_postrm) done.taken;
    tmp = λ q within. done.taken.rest q (λ member is. tmp_no_member name q member within);
  }

  may_drop : (keep_postrm : Bool) (old now : World) → MayDrop name keep_postrm old now → IsCalm old now
  may_drop keep_postrm old now (inl same) = calm_still old now same
  may_drop keep_postrm old now (inr taking) = record {
    quiet = taking_quiet name named old now (goes taking.0 keep_postrm) taking.2;
    tmp = λ q within. taking.2.rest q (λ member is. tmp_no_member name q member within);
  }

  part_doing : (part : Part) (rs : List Record) (old now : World) → IsSafePart name part → MayDo name part rs old now → IsCalm old now
  part_doing (Note r) rs old now safe may = calm_noted old now may.rest
  part_doing Forget rs old now safe may = calm_noted old now may.rest
  part_doing (Settle settled) rs old now safe may = calm_below old now (λ q below. may.rest q (below_none settled.items q below))
  part_doing (Remove leaving) rs old now safe may = calm_outside old now (removing_outside false leaving.items old now safe may)
  part_doing (RemoveDirectories leaving) rs old now safe may = calm_outside old now (removing_outside true leaving.items old now safe may)
  part_doing (Clear names) rs old now safe may = calm_outside old now (clearing_outside names.items old now safe may)
  part_doing (Listing paths) rs old now safe may =
      record { quiet = replacing_quiet name named paths safe old now may; tmp = λ q within. (let other = tmp_no_list name q within in may.rest q other.0 other.1) }
  part_doing DropList rs old now safe may = record { quiet = dropping_quiet name named old now may; tmp = λ q within. may.rest q (tmp_no_list name q within).0 }
  part_doing (DropMembers keep_postrm) rs old now safe may = may_drop keep_postrm old now may

  pub parts_done : (declined : Path → Type 0) (parts : List Part) (rs : List Record) (old new : World) → AreSafeParts name parts → HaveDone name declined parts rs old new → IsCalm old new
  parts_done declined [] rs old new safe same = calm_still old new same
  parts_done declined (part ∷ parts) rs old new safe done = calm_then old done.0 new (part_done declined part rs old done.0 safe.0 done.1) (parts_done declined parts (part_records name part rs) done.0 new safe.1 done.2)

  safe_split : (front back : List Part) → AreSafeParts name (front ++ back) → AreSafeParts name front × AreSafeParts name back
  safe_split [] back safe = (tt, safe)
  safe_split (part ∷ front) back safe = (let rest = safe_split front back safe.1 in ((safe.0, rest.0), rest.1))

  first_doing : (parts : List Part) (rs : List Record) (old now : World) → AreSafeParts name parts → IsFirstDoing name parts rs old now → IsCalm old now
  first_doing [] rs old now safe over = calm_still old now over.same
  first_doing (part ∷ parts) rs old now safe doing = part_doing part rs old now safe.0 doing.may

  pub parts_doing : (declined : Path → Type 0) (parts : List Part) (rs : List Record) (old now : World) → AreSafeParts name parts → AreDoing name declined parts rs old now → IsCalm old now
  parts_doing declined parts rs old now safe doing =
      let both = safe_split doing.front doing.back (subst (AreSafeParts name) doing.are safe) in
      calm_then old doing.mid now (parts_done declined doing.front rs old doing.mid both.0 doing.done) (first_doing doing.back (parts_records name doing.front rs) doing.mid now both.1 doing.next)

  -- the first of them are safe too
  pub front_safe : (parts front back : List Part) → parts ≡ front ++ back → AreSafeParts name parts → AreSafeParts name front
  front_safe parts front back are safe = (safe_split front back (subst (AreSafeParts name) are safe)).0

-- the records that are left: none is of a package that is gone, and each has one of these names

pub record IsOneOf (names : List (List ℕ)) (r : Record) : Type 0 where
  pub stands : is_not_installed r.state ≡ false
  pub named : Contains names r.name

abbrev pub AreOf : List (List ℕ) → List Record → Type 0
AreOf names rs = AllByRecursion (IsOneOf names) rs

all_filter : (names : List (List ℕ)) (keep : Record → Bool) (rs : List Record) → AreOf names rs → AreOf names (filter keep rs)
all_filter names keep [] all = tt
all_filter names keep (r ∷ rs) all = by (keep r) (all_filter names keep rs all.1)
  where
    by : (b : Bool) → AreOf names (filter keep rs) → AreOf names (cond b (r ∷ filter keep rs) (filter keep rs))
    by true rest = (all.0, rest)
    by false rest = rest

all_placed : (names : List (List ℕ)) (r : Record) (rs : List Record) → IsOneOf names r → AreOf names rs → AreOf names (place_record r rs)
all_placed names r [] here all = (here, tt)
all_placed names r (x ∷ xs) here all = by (is_lt (slice_cmp nat_cmp x.name r.name)) (all_placed names r xs here all.1)
  where
    by : (b : Bool) → AreOf names (place_record r xs) → AreOf names (cond b (x ∷ place_record r xs) (r ∷ x ∷ xs))
    by true rest = (all.0, rest)
    by false rest = (here, all)

pub of_dropped : (names : List (List ℕ)) (name : List ℕ) (rs : List Record) → AreOf names rs → AreOf names (drop_record name rs)
of_dropped names name rs all = all_filter names (λ r. not (bytes_eq r.name name)) rs all

pub of_put : (names : List (List ℕ)) (r : Record) (rs : List Record) → IsOneOf names r → AreOf names rs → AreOf names (put_record r rs)
of_put names r rs here all = all_placed names r (drop_record r.name rs) here (of_dropped names r.name rs all)

module _ (names : List (List ℕ)) (name : List ℕ) (has : Contains names name) where
  part_of : (part : Part) (rs : List Record) → IsSafePart name part → AreOf names rs → AreOf names (part_records name part rs)
  part_of (Note r) rs safe all = of_put names r rs (record { stands = safe.1; named = subst (Contains names) (sym safe.0) has }) all
  part_of Forget rs safe all = of_dropped names name rs all
  part_of (Settle settled) rs safe all = all
  part_of (Remove leaving) rs safe all = all
  part_of (RemoveDirectories leaving) rs safe all = all
  part_of (Clear cleared) rs safe all = all
  part_of (Listing paths) rs safe all = all
  part_of DropList rs safe all = all
  part_of (DropMembers keep_postrm) rs safe all = all

  pub parts_of : (parts : List Part) (rs : List Record) → AreSafeParts name parts → AreOf names rs → AreOf names (parts_records name parts rs)
  parts_of [] rs safe all = all
  parts_of (part ∷ parts) rs safe all = parts_of parts (part_records name part rs) safe.1 (part_of part rs safe.0 all)
