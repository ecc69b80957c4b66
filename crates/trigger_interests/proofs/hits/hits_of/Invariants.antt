use Rattle.std.proofs.Common.{◌≡◌, map, take}
use Rattle.trigger_interests.specs.Hits.{is_hit_among}
use Rattle.trigger_interests.proofs.hits.hits_of.Given as goal

abbrev pub invariant-loop-interest : goal.invariant-loop-interest
invariant-loop-interest l = l.marks.items ≡ map (λ interest. is_hit_among l.paths interest.name) (take l.interest-index l.interests)
