-- Which triggers are asked for, and of which packages (deb-triggers, dpkg-trigger).
use Rattle.std.specs.Prelude.{◌&&◌, ◌||◌, ℕ, Bool, List, filter}
use Rattle.std.specs.List.{list_any}
use Rattle.std.specs.Str.{bytes_eq}
use Rattle.host_core.specs.World.{World}
use Rattle.status_records.specs.declared.record.Record.{Record}
use Rattle.trigger_interests.specs.Hits.{is_hit}
use Rattle.trigger_interests.specs.Interests.{interests_of}
use Rattle.trigger_interests.specs.declared.interests.Interest.{Interest}
use Rattle.trigger_watch.specs.Activations.{activations_by}
use Rattle.trigger_watch.specs.Watch.{installed}
use Rattle.trigger_watch.specs.declared.activating.Activation.{Activation}
use Rattle.trigger_journal.specs.Requests.{requests_of}
use Rattle.trigger_journal.specs.declared.requests.Request.{Request}

-- a request is one for the trigger of this name: by the name itself, or, of a path, by one below it
abbrev pub is_for : List ℕ → Request → Bool
is_for name request = bytes_eq request.name name || is_hit name request.name

-- Among requests that were found there is one for it; or one of ours, which a command left that was stopped: what it activated isn't
-- known then, and may be a trigger that nobody was interested in before it.
abbrev pub is_found : List Request → List ℕ → Bool
is_found found name = list_any (λ request. request.ours || is_for name request) found

-- others than we ask for it
abbrev pub is_asked : List Request → List ℕ → Bool
is_asked requests name = list_any (λ request. request.others && is_for name request) requests

-- the interests for which there is a request that was found before, or one of others now
abbrev pub asked_among : List Request → List Request → List Interest → List Interest
asked_among found now interests = filter (λ interest. is_found found interest.name || is_asked now interest.name) interests

-- what becomes pending by requests that were found before and by the journal, of the packages that are installed
abbrev pub asked_of : World → List Record → List Request → List Activation
asked_of w records found = activations_by (asked_among found (requests_of w) (interests_of w (installed records)))
