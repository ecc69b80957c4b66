-- What stays of the administration at each moment of a commit: all but the names in `info`.
use Rattle.std.proofs.Common.{◌≡◌, ◌≢◌, ◌||◌, ◌&&◌, inl, inr, ℕ, Bool, true, false, List, [], ◌∷◌, ◌++◌, get_or, nat_eq, codes, refl, sym, ap, subst, ◌∙◌, arith}
use Rattle.std.specs.List.{starts_with}
use Rattle.std.specs.Str.{bytes_eq}
use Rattle.std.proofs.lemmas.Bool.{false_from_ne_true, or_cases, or_from, true≢false}
use Rattle.std.proofs.lemmas.List.Elements.{Contains-append_right}
use Rattle.std.proofs.lemmas.Slice.Eq.{bytes_eq-Decides}
use Rattle.host_core.specs.Paths.{Path}
use Rattle.host_core.specs.World.{World, IsDirectory}
use Rattle.host_core.specs.declared.node.Node.{Node}
use Rattle.administration.specs.Places.{home_path, is_within, list_path, status_path, temporary, updates_path}
use Rattle.administration.proofs.Within.{below_within, rest_of}
use Rattle.control_members.specs.Stored.{KeepsBesideWritten}
use Rattle.diversions.specs.Ways.{Ways}
use Rattle.file_lists.specs.declared.paths.PackageList.{PackageList}
use Rattle.file_lists.specs.Taking.{IsNoList}
use Rattle.file_removal.specs.declared.leaving.Leaving.{Leaving}
use Rattle.status_db.specs.Recorded.{Recorded}
use Rattle.status_db.specs.Held.{CanOpenRecords, IsKept, is_record_place}
use Rattle.status_db.proofs.NotedWorlds.{kept_on}
use Rattle.listed_files.specs.Areas.{is_leaving_place, is_list_place, is_renewed_place}
use Rattle.listed_files.specs.Closing.{HasReleased, HasRenewed, MayRelease, MayRenew, SparesAdministration}
use Rattle.listed_files.specs.Concluding.{AreElsewhere}
use Rattle.listed_files.proofs.Areas.{released_keeps, releasing_keeps, renewed_keeps, renewing_keeps}

-- the first byte of a name in the directory of the administration: `i` for what is in `info`
pub byte : Path → ℕ
byte p = get_or p 14 0

-- all within the administration is as before, but `info` and what is in it
pub record Stays (old now : World) : Type 0 where
  pub same : (q : Path) → is_within home_path q ≡ true → (byte q ≡ 105 → ⊥) → now q ≡ old q

pub stays_then : (a b c : World) → Stays a b → Stays b c → Stays a c
stays_then a b c first second = record { same = λ q within other. second.same q within other ∙ first.same q within other }

-- no path that goes lies in the administration

pub no_leaving_place : (xs : List Leaving) (q : Path) → SparesAdministration xs → is_within home_path q ≡ true → is_leaving_place xs q ≡ false
no_leaving_place [] q spares within = refl
no_leaving_place (x ∷ xs) q spares within =
    or_from (x.goes && bytes_eq q x.place) (is_leaving_place xs q) (here x.goes (bytes_eq q x.place) refl refl)
    (no_leaving_place xs q (λ y has goes. spares y (Contains-append_right (x ∷ []) xs y has) goes) within)
  where
    here : (g b : Bool) → x.goes ≡ g → bytes_eq q x.place ≡ b → g && b ≡ false
    here false b goes e = refl
    here true false goes e = refl
    here true true goes e =
        absurd (true≢false (sym within ∙ ap (is_within home_path) ((bytes_eq-Decides q x.place).0 e) ∙ spares x (0, omega arith, refl) goes))

pub no_list_place : (list q : Path) → q ≢ list → q ≢ temporary list → is_list_place list q ≡ false
no_list_place list q ne_list ne_spare =
    or_from (bytes_eq q list) (bytes_eq q (temporary list)) (false_from_ne_true (bytes_eq q list) (λ e. ne_list ((bytes_eq-Decides q list).0 e)))
    (false_from_ne_true (bytes_eq q (temporary list)) (λ e. ne_spare ((bytes_eq-Decides q (temporary list)).0 e)))

pub no_renewed_place : (xs : List Leaving) (list q : Path) → SparesAdministration xs → is_within home_path q ≡ true → q ≢ list → q ≢ temporary list → is_renewed_place xs list q ≡ false
no_renewed_place xs list q spares within ne_list ne_spare =
    or_from (is_leaving_place xs q) (is_list_place list q) (no_leaving_place xs q spares within) (no_list_place list q ne_list ne_spare)

other_list : (name q : Path) → (byte q ≡ 105 → ⊥) → (q ≢ list_path name) × (q ≢ temporary (list_path name))
unfolding byte
other_list name q other = (λ e. other (ap byte e), λ e. other (ap byte e))

-- the parts of a commit

module _ (xs : List Leaving) (name : Path) (node : Node) (old : World) (spares : SparesAdministration xs) where
  outside : (q : Path) → is_within home_path q ≡ true → (byte q ≡ 105 → ⊥) → is_renewed_place xs (list_path name) q ≡ false
  outside q within other = let apart = other_list name q other in no_renewed_place xs (list_path name) q spares within apart.0 apart.1

  pub renewing_stays : (now : World) → MayRenew xs (list_path name) node old now → Stays old now
  renewing_stays now may = record { same = λ q within other. renewing_keeps xs (list_path name) node old now may q (outside q within other) }

  pub renewed_stays : (new : World) → HasRenewed xs (list_path name) node old new → Stays old new
  renewed_stays new has = record { same = λ q within other. renewed_keeps xs (list_path name) node old new has q (outside q within other) }

pub written_stays : (owner : Path) (old now : World) → KeepsBesideWritten owner old now → Stays old now
unfolding byte
written_stays owner old now rest = record { same = λ q within other. rest q (λ name member. (λ e. other (ap byte e), λ e. other (ap byte e))) }

module _ (ways : Ways) (places from : List Path) (had : List PackageList) (names : List Path) (old : World) (elsewhere : AreElsewhere names) where
  no_list : (q : Path) → (byte q ≡ 105 → ⊥) → IsNoList from q
  no_list q other name has = other_list name q other

  pub releasing_stays : (now : World) → MayRelease ways places from had names old now → Stays old now
  releasing_stays now may = record { same = λ q within other. releasing_keeps ways places from had names old now q may (no_list q other) (elsewhere q within) }

  pub released_stays : (new : World) → HasReleased ways places from had names old new → Stays old new
  released_stays new has = record { same = λ q within other. released_keeps ways places from had names old new q has (no_list q other) (elsewhere q within) }

-- so the records are kept

pub record_within : (q : Path) → is_record_place q ≡ true → (is_within home_path q ≡ true) × (byte q ≡ 105 → ⊥)
unfolding byte
record_within q is = elim (or_cases (bytes_eq q status_path) (bytes_eq q (temporary status_path) || starts_with nat_eq q (updates_path ++ codes "/")) is) [
  | inl e ↦ at status_path ((bytes_eq-Decides q status_path).0 e) refl (λ b. absurd (omega (arith, b)))
  | inr more ↦ elim (or_cases (bytes_eq q (temporary status_path)) (starts_with nat_eq q (updates_path ++ codes "/")) more) [
    | inl e ↦ at (temporary status_path) ((bytes_eq-Decides q (temporary status_path)).0 e) refl (λ b. absurd (omega (arith, b)))
    | inr below ↦
        let rest = rest_of q (updates_path ++ codes "/") below in
        at (updates_path ++ 47 ∷ rest.0) rest.1 (below_within home_path (codes "updates/" ++ rest.0)) (λ b. absurd (omega (arith, b)))
  ]
]
  where
    at : (p : Path) → q ≡ p → is_within home_path p ≡ true → (byte p ≡ 105 → ⊥) → (is_within home_path q ≡ true) × (byte q ≡ 105 → ⊥)
    at p e within other = (ap (is_within home_path) e ∙ within, λ b. other (sym (ap byte e) ∙ b))

pub kept_stays : (d : Recorded) (old now : World) → Stays old now → IsKept d old → IsKept d now
unfolding byte
kept_stays d old now stays kept = kept_on old now d.records d.notes (λ q is. (let r = record_within q is in stays.same q r.0 r.1))
    (subst IsDirectory (sym (stays.same home_path refl (λ b. absurd (omega (arith, b))))) kept.unblocked.home)
    (subst IsDirectory (sym (stays.same updates_path refl (λ b. absurd (omega (arith, b))))) kept.unblocked.updates) kept

pub kept_opens : (d : Recorded) (w : World) → IsKept d w → CanOpenRecords w
kept_opens d w kept = record { unblocked = kept.unblocked; table = d.records; records = kept.holds }
