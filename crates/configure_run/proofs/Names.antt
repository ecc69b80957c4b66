-- The packages that wait, by a set of their names.
use Rattle.std.proofs.Common.{◌≡◌, ℕ, Bool, List, ap}
use Rattle.std.specs.Prelude.{◌&&◌}
use Rattle.status_records.specs.declared.record.Record.{Record}
use Rattle.name_sets.specs.Names.{is_among}
use Rattle.configure_run.specs.Asked.{can_wait}
use Rattle.configure_run.specs.Starting.{waits}

-- the package of a record waits, by a set of the names
pub waits_by : (names : List (List ℕ)) (set : List ℕ → Bool) (r : Record) → ((q : List ℕ) → set q ≡ is_among names q) → (can_wait r && set r.name) ≡ waits names r
waits_by names set r is = ap (λ b. can_wait r && b) (is r.name)
