use Rattle.std.proofs.Common.{◌≡◌, ◌++◌, ◌∷◌, take}
use Rattle.std.specs.List.{flat_map}
use Rattle.control_fields.proofs.field.Field.value.Given as goal

abbrev pub invariant-loop-line : goal.invariant-loop-line
invariant-loop-line l = l.value.items ≡ l.self.first ++ flat_map (λ line. 10 ∷ line) (take l.line-index l.self.more)
