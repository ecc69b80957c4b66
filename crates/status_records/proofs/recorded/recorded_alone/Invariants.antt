use Rattle.std.proofs.Common.{◌≡◌, ◌++◌, map}
use Rattle.std.specs.Prelude.{filter}
use Rattle.status_records.specs.Recorded.{is_recorded}
use Rattle.status_records.proofs.recorded.recorded_alone.Given as goal

abbrev pub invariant-loop-field : goal.invariant-loop-field
invariant-loop-field l = (l.kept ≡ filter is_recorded (map (λ b. b.now) l.yielded)) × (l.control ≡ map (λ b. b.now) l.yielded ++ l.field-iterator)
