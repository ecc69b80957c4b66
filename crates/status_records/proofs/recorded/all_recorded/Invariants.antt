use Rattle.std.proofs.Common.{◌≡◌, ◌++◌, map}
use Rattle.status_records.specs.Recorded.{AreRecordedAs}
use Rattle.status_records.proofs.recorded.all_recorded.Given as goal

abbrev pub invariant-loop-field : goal.invariant-loop-field
invariant-loop-field l = AreRecordedAs (map (λ b. b.now) l.yielded) l.recorded × (l.fields ≡ map (λ b. b.now) l.yielded ++ l.field-iterator)
