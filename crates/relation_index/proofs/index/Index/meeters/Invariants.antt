use Rattle.std.proofs.Common.{take, ℕ}
use Rattle.std.specs.Prelude.{◌↔◌}
use Rattle.std.specs.List.{Contains}
use Rattle.relation_index.specs.Packages.{Meets}
use Rattle.relation_index.proofs.index.Index.meeters.Given as goal

abbrev pub invariant-loop-alternative : goal.invariant-loop-alternative
invariant-loop-alternative l = (x : ℕ) → Contains l.list x ↔ Meets (take l.alternative-index l.clause) l.packages x
