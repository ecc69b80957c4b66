use Rattle.std.proofs.Common.{◌≡◌, map, take}
use Rattle.record_changes.specs.Activated.{with_names}
use Rattle.record_changes.proofs.changed.with_names.Given as goal

-- those before it are there
abbrev pub invariant-loop-word : goal.invariant-loop-word
invariant-loop-word l = l.all.items ≡ with_names l.fn.text (map (λ w. w.now) (take l.word-index l.word-items))
