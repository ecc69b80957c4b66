use Rattle.std.proofs.Common.{◌≡◌, filter, map, take}
use Rattle.record_changes.specs.Pending.{is_name}
use Rattle.record_changes.proofs.pending.names_among.Given as goal

abbrev pub invariant-loop-word : goal.invariant-loop-word
invariant-loop-word l = l.names ≡ filter is_name (map (λ w. w.now) (take l.word-index l.words))
