-- The packages that wait to be configured.
use Rattle.std.specs.Prelude.{ℕ, Bool, true, false, List, ◌&&◌, filter}
use Rattle.status_db.specs.Order.{names_of}
use Rattle.status_records.specs.declared.record.Record.{Record}
use Rattle.status_records.specs.declared.words.Flag.{Flag}
use Rattle.status_records.specs.declared.words.Flag.TheVariants as flag
use Rattle.status_records.specs.declared.words.State.{State}
use Rattle.status_records.specs.declared.words.State.TheVariants as state

-- unpacked or half-configured
abbrev pub is_unconfigured : State → Bool
is_unconfigured state.NotInstalled = false
is_unconfigured state.ConfigFiles = false
is_unconfigured state.HalfInstalled = false
is_unconfigured state.Unpacked = true
is_unconfigured state.HalfConfigured = true
is_unconfigured state.Installed = false

-- it needn't be installed again first
abbrev pub is_sound : Flag → Bool
is_sound flag.Ok = true
is_sound flag.Reinstreq = false

-- a package that can wait to be configured
abbrev pub can_wait : Record → Bool
can_wait r = is_unconfigured r.state && is_sound r.flag

-- the names of all packages that can, in name order
abbrev pub waiting_names : List Record → List (List ℕ)
waiting_names records = names_of (filter can_wait records)
