use Rattle.std.proofs.Common.{◌≡◌, map, take}
use Rattle.trigger_journal.proofs.foreseeing.names_of.Given as goal

abbrev pub invariant-loop-interest : goal.invariant-loop-interest
invariant-loop-interest l = l.names.items ≡ map (λ interest. interest.name) (take l.interest-index l.interests)
