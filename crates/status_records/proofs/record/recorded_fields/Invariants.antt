use Rattle.std.proofs.Common.{◌≡◌, ◌++◌, map}
use Rattle.status_records.specs.Fields.{own_names, fields_but}
use Rattle.status_records.proofs.record.recorded_fields.Given as goal

abbrev pub invariant-loop-field : goal.invariant-loop-field
invariant-loop-field l = (l.kept ≡ fields_but own_names (map (λ b. b.now) l.yielded)) × (l.control ≡ map (λ b. b.now) l.yielded ++ l.field-iterator)
