-- What is told of what was activated: no package is passed over.
use Rattle.std.specs.Prelude.{◌≡◌, Bool, List, map}
use Rattle.host_core.specs.World.{World}
use Rattle.file_lists.specs.declared.paths.PackageList.{PackageList}
use Rattle.status_records.specs.declared.record.Record.{Record}
use Rattle.trigger_watch.specs.Activations.{activated_of, activations_of, packages_of}
use Rattle.trigger_watch.specs.declared.touching.Touch.{Touch}
use Rattle.trigger_watch.specs.declared.watching.TriggerWatch.{TriggerWatch}

-- each package with activated interests has an activation of its own
abbrev pub IsEachTold : World → List Record → List PackageList → Bool → TriggerWatch → List Touch → Type 0
IsEachTold w records lists by_files watch touches =
    map (λ a. a.«package») (activations_of w records lists by_files watch touches) ≡ packages_of (activated_of w records lists by_files watch touches)
