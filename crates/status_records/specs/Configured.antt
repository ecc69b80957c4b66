-- What a record tells of the last configuration of its package.
use Rattle.std.specs.Prelude.{ℕ, cond, List, Option, Some}
use Rattle.status_records.specs.declared.record.Record.{Record}
use Rattle.status_records.specs.Words.{is_installed}

-- the version that was configured last: that of an installed package; none where the package was never configured
abbrev pub last_configured : Record → Option (List ℕ)
last_configured r = cond (is_installed r.state) (Some r.version) r.config_version
