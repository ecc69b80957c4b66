-- What is read of what was written ahead.
use Rattle.std.specs.Prelude.{◌≡◌, true, ℕ, List, [], ◌∷◌, ◌++◌, Contains, map}
use Rattle.host_core.specs.World.{World}
use Rattle.status_records.specs.declared.record.Record.{Record}
use Rattle.trigger_journal.specs.Asked.{is_found}
use Rattle.trigger_journal.specs.Ahead.{is_foreseen, missing, names_ahead, text_ahead}
use Rattle.trigger_journal.specs.Requests.{own_awaiter, request_of, requests_in}
use Rattle.trigger_journal.specs.declared.requests.Request.{Request}

-- our request for a trigger
abbrev pub own_request : List ℕ → Request
own_request name = request_of name (own_awaiter ∷ [])

-- our requests stand in front of those that stood there, for each trigger in which a package with files is interested that had none
abbrev pub AddsRequests : World → List Record → List ℕ → Type 0
AddsRequests w records text =
    requests_in (text_ahead (names_ahead w records) text) ≡ map own_request (missing (requests_in text) (names_ahead w records)) ++ requests_in text

-- each of these triggers is asked for by a line of ours
abbrev pub AreAllForeseen : World → List Record → List ℕ → Type 0
AreAllForeseen w records text = (name : List ℕ) → Contains (names_ahead w records) name → is_foreseen (requests_in (text_ahead (names_ahead w records) text)) name ≡ true

-- and where there is such a trigger, each is found, also one that a package has come to be interested in since
abbrev pub IsEachFound : World → List Record → List ℕ → Type 0
IsEachFound w records text = (ahead name : List ℕ) → Contains (names_ahead w records) ahead → is_found (requests_in (text_ahead (names_ahead w records) text)) name ≡ true
