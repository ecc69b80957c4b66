-- What a unit of a command hits (deb-triggers): a trigger of another package that the units behind it don't tell.
use Rattle.std.specs.Prelude.{◌≡◌, ℕ, Bool, true, false, List, ◌∷◌, ◌++◌}
use Rattle.std.specs.List.{AllByRecursion}
use Rattle.std.specs.Str.{bytes_eq}
use Rattle.file_lists.specs.Owners.{paths_of}
use Rattle.file_lists.specs.declared.paths.PackageList.{PackageList}
use Rattle.host_core.specs.World.{World}
use Rattle.trigger_interests.specs.Hits.{is_hit_among}
use Rattle.trigger_interests.specs.Interests.{activations_of}
use Rattle.trigger_watch.specs.Names.{is_among}
use Rattle.trigger_watch.specs.Touches.{names_before}
use Rattle.trigger_watch.specs.declared.hits.Hits.{Hits}
use Rattle.trigger_watch.specs.declared.touching.Touch.{Touch}

-- How a unit of a package hits a trigger: its files changed, and one of those that its list has now is the trigger's path or lies below it;
-- or its own file `triggers` activates it; or its files changed, and it hit the trigger before the command.
pub data IsHitBy (w : World) (lists : List PackageList) (by_files : Bool) (before : List Hits) (trigger : List ℕ) (touch : Touch) : Type 0 where
  by_file : by_files ≡ true → touch.files ≡ true → is_hit_among (paths_of lists touch.«package») trigger ≡ true → IsHitBy w lists by_files before trigger touch
  by_name : is_among (activations_of w touch.«package») trigger ≡ true → IsHitBy w lists by_files before trigger touch
  as_before : touch.files ≡ true → is_among (names_before before touch.«package») trigger ≡ true → IsHitBy w lists by_files before trigger touch

-- one of the units, in their order, hits it
pub record IsHit (w : World) (lists : List PackageList) (by_files : Bool) (before : List Hits) (touches : List Touch) (trigger : List ℕ) : Type 0 where
  pub front : List Touch
  pub touch : Touch
  pub behind : List Touch
  pub are : touches ≡ front ++ touch ∷ behind
  pub hit : IsHitBy w lists by_files before trigger touch

-- and neither that one nor one behind it is of the interested package: such a unit configures it, or leaves it less than installed
pub record IsHitLast (w : World) (lists : List PackageList) (by_files : Bool) (before : List Hits) (touches : List Touch) (owner trigger : List ℕ) : Type 0 where
  pub hits : IsHit w lists by_files before touches trigger
  pub other : AllByRecursion (λ t. bytes_eq t.«package» owner ≡ false) (hits.touch ∷ hits.behind)
