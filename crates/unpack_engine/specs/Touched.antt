-- Which packages a unit has touched.
use Rattle.std.specs.Prelude.{◌≡◌, ◌||◌, ◌&&◌, ◌↔◌, true, false, not, ℕ, Bool, List, Option, Some, None, Contains, filter}
use Rattle.std.specs.List.{list_any}
use Rattle.std.specs.Str.{bytes_eq}
use Rattle.file_lists.specs.Increasing.{AreIncreasing}
use Rattle.status_records.specs.Records.{record_in}
use Rattle.status_records.specs.declared.record.Record.{Record}
use Rattle.status_records.specs.declared.words.State.{State}
use Rattle.status_records.specs.declared.words.State.TheVariants as state

-- the package is unpacked, and its prerm was called
abbrev pub is_half_configured : State → Bool
is_half_configured state.NotInstalled = false
is_half_configured state.ConfigFiles = false
is_half_configured state.HalfInstalled = false
is_half_configured state.Unpacked = false
is_half_configured state.HalfConfigured = true
is_half_configured state.Installed = false

-- the package is half-configured now and wasn't before
abbrev pub is_deconfigured : (now : Option Record) (before : Record) → Bool
is_deconfigured None before = false
is_deconfigured (Some now) before = is_half_configured now.state && not (is_half_configured before.state)

-- those of these packages, where this is the table now
abbrev pub deconfigured : List Record → List Record → List Record
deconfigured table others = filter (λ r. is_deconfigured (record_in table r.name) r) others

-- one of these records is of this name
abbrev pub is_named : List Record → List ℕ → Bool
is_named records q = list_any (λ r. bytes_eq q r.name) records

-- the one that was named, or one of these records
abbrev pub is_touched : List ℕ → List Record → List ℕ → Bool
is_touched name records q = is_named records q || bytes_eq q name

-- these names are told, in order
pub record AreTold (name : List ℕ) (records : List Record) (names : List (List ℕ)) : Type 0 where
  pub order : AreIncreasing names
  pub exact : (q : List ℕ) → Contains names q ↔ (is_touched name records q ≡ true)
