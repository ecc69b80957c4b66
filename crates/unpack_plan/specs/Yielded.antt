-- Conffiles that change their package (Policy 10.7.4): where a package ships a conffile of which its record has no entry, the digest
-- counts as recorded that another package records of the same place, if that one lets it take its paths.
use Rattle.std.specs.Prelude.{◌&&◌, ◌||◌, not, ℕ, Bool, cond, false, List, [], ◌∷◌, Option, Some, None, is_some}
use Rattle.std.specs.List.{fold, list_any}
use Rattle.std.specs.Str.{bytes_eq}
use Rattle.diversions.specs.Ways.{place, Ways}
use Rattle.host_core.specs.Paths.{Path}
use Rattle.status_records.specs.ConffilePaths.{placed_by}
use Rattle.status_records.specs.Conffiles.{has_entry}
use Rattle.status_records.specs.declared.entries.ConffileEntry.{ConffileEntry}
use Rattle.status_records.specs.declared.entries.PendingDigest.{PendingDigest}
use Rattle.status_records.specs.declared.record.Record.{Record}
use Rattle.unpack_commit.specs.Takeover.{is_config_files}

-- where paths are, the incoming package, the packages that let it take paths of theirs, and all records
pub record Yielding : Type 0 where
  pub ways : Ways
  pub incoming : List ℕ
  pub names : List (List ℕ)
  pub records : List Record

abbrev pub yielding : Ways → List ℕ → List (List ℕ) → List Record → Yielding
yielding ways incoming names records = record { ways = ways; incoming = incoming; names = names; records = records }

-- another package, of which only conffiles are left, or that lets the incoming one take paths of its own
abbrev pub does_yield : Yielding → Record → Bool
does_yield y r = not (bytes_eq r.name y.incoming) && (is_config_files r.state || list_any (bytes_eq r.name) y.names)

-- an entry of a package that records a digest of this place
abbrev pub records_digest_of : Ways → List ℕ → Path → ConffileEntry → Bool
records_digest_of ways name at e = bytes_eq (place ways name e.path) at && is_some e.digest

-- the first of them
abbrev pub entry_at : Ways → List ℕ → Path → List ConffileEntry → Option ConffileEntry
entry_at ways name at [] = None
entry_at ways name at (e ∷ es) = cond (records_digest_of ways name at e) (Some e) (entry_at ways name at es)

abbrev pub or_else : Option ConffileEntry → Option ConffileEntry → Option ConffileEntry
or_else None other = other
or_else (Some e) other = Some e

-- that of a package that yields
abbrev pub yielded_by : Yielding → Path → Record → Option ConffileEntry
yielded_by y at r = cond (does_yield y r) (entry_at y.ways r.name at r.conffiles) None

-- the first one, in the order of names
abbrev pub first_yielded : Yielding → Path → List Record → Option ConffileEntry
first_yielded y at [] = None
first_yielded y at (r ∷ rs) = or_else (yielded_by y at r) (first_yielded y at rs)

-- of the place that a path of the incoming package has
abbrev pub yielded : Yielding → Path → Option ConffileEntry
yielded y path = first_yielded y (place y.ways y.incoming path) y.records

-- the entry of a shipped conffile with the digest of another's
abbrev pub moved_entry : PendingDigest → ConffileEntry → ConffileEntry
moved_entry p e = record { path = p.path; digest = e.digest; obsolete = false; remove_on_upgrade = false; conffile = p.conffile; digested = e.digested }

-- with that, where there is one
abbrev pub put_moved : PendingDigest → List ConffileEntry → Option ConffileEntry → List ConffileEntry
put_moved p entries None = entries
put_moved p entries (Some e) = placed_by (λ x. x.path) (moved_entry p e) entries

abbrev pub counted_with : Yielding → List ConffileEntry → PendingDigest → List ConffileEntry
counted_with y entries p = cond (has_entry entries p.path) entries (put_moved p entries (yielded y p.path))

-- What counts as recorded when conffiles are shipped: the entries that the package's record has, and of each conffile of which there
-- is none the digest that is yielded.
abbrev pub counted_entries : Yielding → List ConffileEntry → List PendingDigest → List ConffileEntry
counted_entries y entries shipped = fold (counted_with y) entries shipped
