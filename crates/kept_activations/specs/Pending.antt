-- What stands of a trigger, by the records and by the files `triggers` of packages (deb-triggers).
use Rattle.std.specs.Prelude.{◌≡◌, ◌&&◌, ℕ, Bool, true, false, List, Some}
use Rattle.std.specs.List.{list_any}
use Rattle.std.specs.Str.{bytes_eq}
use Rattle.host_core.specs.World.{World}
use Rattle.record_changes.specs.Activated.{has_name, pending_text}
use Rattle.status_records.specs.Records.{record_in}
use Rattle.status_records.specs.Words.{is_installed}
use Rattle.status_records.specs.declared.record.Record.{Record}
use Rattle.trigger_interests.specs.Interests.{declared, is_interest}

-- the package is installed, by its record
pub record IsInstalled (records : List Record) (owner : List ℕ) : Type 0 where
  pub entry : Record
  pub found : record_in records owner ≡ Some entry
  pub installed : is_installed entry.state ≡ true

-- it is half-configured or less, by its record: what it is configured by comes again
pub record IsUnfinished (records : List Record) (owner : List ℕ) : Type 0 where
  pub entry : Record
  pub found : record_in records owner ≡ Some entry
  pub less : is_installed entry.state ≡ false

-- the trigger is pending of the package, which is installed
pub record IsPending (records : List Record) (owner trigger : List ℕ) : Type 0 where
  pub entry : Record
  pub found : record_in records owner ≡ Some entry
  pub installed : is_installed entry.state ≡ true
  pub named : has_name (pending_text entry.triggers.pending) trigger ≡ true

-- its file `triggers` has the directive `interest` for this name, in one of its forms
abbrev pub has_interest : World → List ℕ → List ℕ → Bool
has_interest w owner trigger = list_any (λ d. is_interest d.directive && bytes_eq d.name trigger) (declared w owner)

-- the package is installed, and interested in the trigger
pub record IsInterested (w : World) (records : List Record) (owner trigger : List ℕ) : Type 0 where
  pub installed : IsInstalled records owner
  pub interest : has_interest w owner trigger ≡ true
