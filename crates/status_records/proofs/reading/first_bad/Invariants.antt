use Rattle.std.proofs.Common.{◌≡◌, ◌++◌, map, length}
use Rattle.std.specs.List.{AllByRecursion}
use Rattle.status_records.specs.Values.{IsReadable}
use Rattle.status_records.proofs.reading.first_bad.Given as goal

abbrev pub invariant-loop-field : goal.invariant-loop-field
invariant-loop-field l =
    (l.index ≡ length (map (λ b. b.now) l.yielded)) × (l.located.paragraph ≡ map (λ b. b.now) l.yielded ++ l.field-iterator) × AllByRecursion IsReadable (map (λ b. b.now) l.yielded)
