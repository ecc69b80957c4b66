use Rattle.std.proofs.Common.{◌≡◌, ◌++◌, take, drop, map}
use Rattle.status_records.specs.Records.{place_record}
use Rattle.queries.proofs.records.place_of.Given as goal

abbrev pub invariant-loop-i : goal.invariant-loop-i
invariant-loop-i l = place_record l.entry (map (λ r. r.now) l.ordered) ≡ map (λ r. r.now) (take l.i l.ordered) ++ place_record l.entry (map (λ r. r.now) (drop l.i l.ordered))
