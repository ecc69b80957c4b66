-- What is known of triggers before a command.
use Rattle.std.specs.Prelude.{◌≡◌, ℕ, Bool, List, filter}
use Rattle.host_core.specs.World.{World}
use Rattle.file_lists.specs.declared.paths.PackageList.{PackageList}
use Rattle.status_db.specs.Order.{names_of}
use Rattle.status_records.specs.Words.{is_installed}
use Rattle.status_records.specs.declared.record.Record.{Record}
use Rattle.trigger_interests.specs.Interests.{interests_of}
use Rattle.trigger_watch.specs.Hits.{hits_of}
use Rattle.trigger_watch.specs.declared.watching.TriggerWatch.{TriggerWatch}

-- the packages that are installed, in the order of the records
abbrev pub installed : List Record → List (List ℕ)
installed records = names_of (filter (λ r. is_installed r.state) records)

-- what each recorded package hits of the interests of the installed ones
pub record IsWatch (w : World) (records : List Record) (lists : List PackageList) (by_files : Bool) (watch : TriggerWatch) : Type 0 where
  pub before : watch.before.items ≡ hits_of w lists by_files (interests_of w (installed records)) (names_of records)
