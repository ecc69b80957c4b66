-- What is written ahead: a line of ours for each trigger in which a recorded package is interested.
use Rattle.std.specs.Prelude.{◌&&◌, ℕ, Bool, true, false, not, List, [], ◌∷◌, ◌++◌, codes, filter, map}
use Rattle.std.specs.List.{flat_map, list_any}
use Rattle.std.specs.Str.{bytes_eq}
use Rattle.host_core.specs.World.{World}
use Rattle.status_db.specs.Order.{names_of}
use Rattle.status_records.specs.declared.record.Record.{Record}
use Rattle.status_records.specs.declared.words.State.{State}
use Rattle.status_records.specs.declared.words.State.TheVariants.{NotInstalled, ConfigFiles, HalfInstalled, Unpacked, HalfConfigured, Installed}
use Rattle.trigger_interests.specs.Interests.{interests_of}
use Rattle.trigger_watch.specs.Names.{each_once}
use Rattle.trigger_journal.specs.Requests.{own_awaiter, requests_in}
use Rattle.trigger_journal.specs.declared.requests.Request.{Request}

-- a package in this state has files
abbrev pub has_files : State → Bool
has_files NotInstalled = false
has_files ConfigFiles = false
has_files HalfInstalled = true
has_files Unpacked = true
has_files HalfConfigured = true
has_files Installed = true

-- the packages that have files, in the order of the records
abbrev pub packages_with_files : List Record → List (List ℕ)
packages_with_files records = names_of (filter (λ r. has_files r.state) records)

-- the triggers in which one of them is interested, each once
abbrev pub names_ahead : World → List Record → List (List ℕ)
names_ahead w records = each_once (map (λ interest. interest.name) (interests_of w (packages_with_files records)))

-- whether a line of ours stands for a trigger
abbrev pub is_foreseen : List Request → List ℕ → Bool
is_foreseen requests name = list_any (λ request. request.ours && bytes_eq request.name name) requests

-- those of these triggers for which none stands
abbrev pub missing : List Request → List (List ℕ) → List (List ℕ)
missing requests names = filter (λ name. not (is_foreseen requests name)) names

-- our line for a trigger
abbrev pub own_line : List ℕ → List ℕ
own_line name = (name ++ 32 ∷ own_awaiter) ++ 10 ∷ []

abbrev pub own_lines : List (List ℕ) → List ℕ
own_lines names = flat_map own_line names

-- a text with our lines for these triggers in front, where they are missing
abbrev pub text_ahead : List (List ℕ) → List ℕ → List ℕ
text_ahead names text = own_lines (missing (requests_in text) names) ++ text
