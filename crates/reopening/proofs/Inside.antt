-- What moments of a command leave of `info` and of the diversions.
use Rattle.std.proofs.Common.{◌≡◌, ◌≢◌, ◌||◌, true, false, List, refl, sym, ap, subst, ◌∙◌}
use Rattle.std.specs.List.{list_any}
use Rattle.texts.specs.PackageNames.{is_package_name}
use Rattle.host_core.specs.Paths.{Path, is_below_administration, is_named_by, is_own}
use Rattle.host_core.specs.Events.{Event}
use Rattle.host_core.specs.Host.{OnlyScripts}
use Rattle.host_core.proofs.Scripts.{only_kept}
use Rattle.host_core.specs.World.{World, KeepsBut, is_kept}
use Rattle.host_core.specs.declared.call.Script.{Script}
use Rattle.administration.specs.Places.{list_path, script_path, temporary, tmp_path, is_within}
use Rattle.control_members.specs.Names.{is_member_name}
use Rattle.control_members.specs.Stored.{stored_member_path}
use Rattle.file_lists.specs.Info.{IsLink}
use Rattle.file_lists.specs.Lists.{IsReadable}
use Rattle.status_db.specs.Held.{is_record_place}
use Rattle.unit_stages.proofs.Outside.{IsOutside}
use Rattle.listed_files.proofs.Closings.{below_within}

-- a path of the program's own below its directory, at which no record is written, outside `tmp.ci`
pub record IsInside (q : Path) : Type 0 where
  pub own : is_own q ≡ true
  pub below : is_below_administration q ≡ true
  pub unnoted : is_record_place q ≡ false
  pub outside : is_within tmp_path q ≡ false

-- neither the list of this package nor one of its control files, nor the temporary name of one
pub record IsOthers (name q : Path) : Type 0 where
  pub list : (q ≢ list_path name) × (q ≢ temporary (list_path name))
  pub members : (member : Path) → is_member_name member ≡ true → (q ≢ stored_member_path name member) × (q ≢ temporary (stored_member_path name member))

-- none of a package's, whatever the packages are
pub record IsUnnamed (q : Path) : Type 0 where
  pub inside : IsInside q
  pub others : (name : Path) → is_package_name name ≡ true → IsOthers name q

-- such a path stays, no link comes to the place of a stored script, and what could be read as a list can be read
pub record IsQuiet (old now : World) : Type 0 where
  pub stays : (q : Path) → IsUnnamed q → now q ≡ old q
  pub links : (owner : Path) (script : Script) → IsLink (now (script_path owner script)) → IsLink (old (script_path owner script))
  pub lists : (name : Path) → IsReadable (old (list_path name)) → IsReadable (now (list_path name))

pub quiet_here : (w : World) → IsQuiet w w
quiet_here w = record { stays = λ q unnamed. refl; links = λ owner script link. link; lists = λ name readable. readable }

pub quiet_then : (u v w : World) → IsQuiet u v → IsQuiet v w → IsQuiet u w
quiet_then u v w first second = record {
  stays = λ q unnamed. second.stays q unnamed ∙ first.stays q unnamed;
  links = λ owner script link. first.links owner script (second.links owner script link);
  lists = λ name readable. second.lists name (first.lists name readable);
}

pub quiet_still : (old now : World) → now ≡ old → IsQuiet old now
quiet_still old now same = subst (IsQuiet old) (sym same) (quiet_here old)

pub list_inside : (name : Path) → IsInside (list_path name)
list_inside name = record { own = refl; below = refl; unnoted = refl; outside = refl }

pub script_inside : (owner : Path) (script : Script) → IsInside (script_path owner script)
script_inside owner script = record { own = refl; below = refl; unnoted = refl; outside = refl }

-- where all of these paths stay
pub quiet_inside : (old now : World) → ((q : Path) → IsInside q → now q ≡ old q) → IsQuiet old now
quiet_inside old now same = record {
  stays = λ q unnamed. same q unnamed.inside;
  links = λ owner script link. subst IsLink (same (script_path owner script) (script_inside owner script)) link;
  lists = λ name readable. subst IsReadable (sym (same (list_path name) (list_inside name))) readable;
}

pub quiet_outside : (old now : World) → IsOutside old now → IsQuiet old now
quiet_outside old now same = quiet_inside old now (λ q inside. same q (below_within q inside.below))

pub quiet_noted : (old now : World) → KeepsBut is_record_place old now → IsQuiet old now
quiet_noted old now rest = quiet_inside old now (λ q inside. rest q inside.unnoted)

pub quiet_laid : (old now : World) → KeepsBut (is_within tmp_path) old now → IsQuiet old now
quiet_laid old now rest = quiet_inside old now (λ q inside. rest q inside.outside)

pub kept_inside : (places : List Path) (q : Path) → IsInside q → is_kept places q ≡ true
kept_inside places q inside = ap (λ b. b || list_any (is_named_by q) places) inside.own

pub quiet_scripts : (places : List Path) (old : World) (so_far : List Event) (now : World) → OnlyScripts (is_kept places) old so_far now → IsQuiet old now
quiet_scripts places old so_far now only = quiet_inside old now (λ q inside. only_kept (is_kept places) old now so_far only q (kept_inside places q inside))
