-- What stands in the journal behind a command that was stopped (deb-triggers, dpkg-trigger).
use Rattle.std.specs.Prelude.{◌≡◌, ℕ, true, List, Some, Contains}
use Rattle.host_core.specs.World.{World}
use Rattle.status_records.specs.Records.{record_in}
use Rattle.status_records.specs.declared.record.Record.{Record}
use Rattle.trigger_journal.specs.Ahead.{has_files}
use Rattle.trigger_journal.specs.Requests.{requests_of}
use Rattle.trigger_journal.specs.declared.requests.Request.{Request}
use Rattle.kept_activations.specs.Pending.{has_interest}

-- a later request for the same trigger: who asked by the earlier one asks by this one too
pub record AsksStill (earlier later : Request) : Type 0 where
  pub name : later.name ≡ earlier.name
  pub ours : earlier.ours ≡ true → later.ours ≡ true
  pub others : earlier.others ≡ true → later.others ≡ true

-- To the journal it was only added: each request of before stands there still, maybe with more who await it. That is all that
-- dpkg-trigger does.
abbrev pub StandsStill : World → World → Type 0
StandsStill old new = (request : Request) → Contains (requests_of old) request → (later : Request) × Contains (requests_of new) later × AsksStill request later

-- a recorded package with files is interested in a trigger
pub record IsSomeInterested (w : World) (records : List Record) : Type 0 where
  pub owner : List ℕ
  pub trigger : List ℕ
  pub entry : Record
  pub found : record_in records owner ≡ Some entry
  pub files : has_files entry.state ≡ true
  pub interest : has_interest w owner trigger ≡ true
