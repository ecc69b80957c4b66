use Rattle.std.proofs.Common.{◌≡◌, take}
use Rattle.trigger_journal.specs.Asked.{asked_among}
use Rattle.trigger_journal.proofs.asking.asked_among.Given as goal

abbrev pub invariant-loop-interest : goal.invariant-loop-interest
invariant-loop-interest l = l.asked.items ≡ asked_among l.found l.now (take l.interest-index l.interests)
