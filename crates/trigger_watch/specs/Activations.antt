-- Which triggers are activated by packages that a command has touched (deb-triggers).
use Rattle.std.specs.Prelude.{not, ℕ, Bool, if◌then◌else◌, List, [], ◌∷◌, map, filter, reverse}
use Rattle.std.specs.List.{flat_map, list_any, take_while}
use Rattle.std.specs.Str.{bytes_eq}
use Rattle.host_core.specs.World.{World}
use Rattle.file_lists.specs.declared.paths.PackageList.{PackageList}
use Rattle.status_records.specs.TriggerNames.{are_trigger_names}
use Rattle.status_records.specs.declared.record.Record.{Record}
use Rattle.trigger_interests.specs.Interests.{interests_of}
use Rattle.trigger_interests.specs.declared.interests.Interest.{Interest}
use Rattle.trigger_watch.specs.Names.{each_once, is_among, spaced}
use Rattle.trigger_watch.specs.Touches.{touching_hits}
use Rattle.trigger_watch.specs.Watch.{installed}
use Rattle.trigger_watch.specs.declared.activating.Activation.{Activation}
use Rattle.trigger_watch.specs.declared.hits.Hits.{Hits}
use Rattle.trigger_watch.specs.declared.touching.Touch.{Touch}
use Rattle.trigger_watch.specs.declared.watching.TriggerWatch.{TriggerWatch}

-- what was hit since a package was last touched itself, the last first; all, where it wasn't touched
abbrev pub hits_since : List ℕ → List Hits → List Hits
hits_since owner hits = take_while (λ h. not (bytes_eq h.«package» owner)) (reverse hits)

-- An interest is activated where one of these hits its trigger: so what a unit hits before one of the interested package itself is
-- nothing, since its own configuring follows (deb-triggers).
abbrev pub is_activated : List Hits → Interest → Bool
is_activated hits interest = list_any (λ h. is_among h.names interest.name) (hits_since interest.«package» hits)

-- those among interests, in their order
abbrev pub activated : List Hits → List Interest → List Interest
activated hits interests = filter (is_activated hits) interests

-- the packages of interests, each once
abbrev pub packages_of : List Interest → List (List ℕ)
packages_of interests = each_once (map (λ interest. interest.«package») interests)

-- the names among them that are of a package, each once
abbrev pub names_for : List Interest → List ℕ → List (List ℕ)
names_for interests owner = each_once (map (λ interest. interest.name) (filter (λ interest. bytes_eq interest.«package» owner) interests))

-- what is activated of a package, as the text of a field; a text that no field can have activates nothing, and no names that files declare come to one (laws: `each_is_told`)
abbrev pub activation : List Interest → List ℕ → List Activation
activation interests owner =
    let text = spaced (names_for interests owner) in
    if are_trigger_names text then record { «package» = owner; names = text } ∷ [] else []

-- of each package of interests, in their order
abbrev pub activations_by : List Interest → List Activation
activations_by interests = flat_map (activation interests) (packages_of interests)

-- The interests that are activated, of the packages that are installed now, by their files `triggers` as these are now. The hits are those
-- of the units, in their order, by what each package hit before and by what it hits now. (A path that a package gave up counts where
-- somebody was interested in it before the units; where the interest came with them, it counts only if it's still listed.)
abbrev pub activated_of : World → List Record → List PackageList → Bool → TriggerWatch → List Touch → List Interest
activated_of w records lists by_files watch touches =
    let interests = interests_of w (installed records) in
    activated (touching_hits w lists by_files watch.before.items interests touches) interests

-- what units have activated
abbrev pub activations_of : World → List Record → List PackageList → Bool → TriggerWatch → List Touch → List Activation
activations_of w records lists by_files watch touches = activations_by (activated_of w records lists by_files watch touches)
