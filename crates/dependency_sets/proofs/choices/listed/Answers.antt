use Rattle.std.proofs.Common.{arith}
use Rattle.std.specs.Prelude.{IsTrue}
use Rattle.dependency_sets.specs.Sets.{has}
use Rattle.dependency_sets.proofs.ListingLaws.{listed_none, marked_more, listed_all}
use Rattle.dependency_sets.proofs.StrikingLaws.{in_range}
use Rattle.dependency_sets.proofs.choices.listed.Goals as goal

pub loop-number-init : goal.loop-number-init
loop-number-init c = listed_none (λ x. IsTrue (has c.args.set.now x)) _ c.new-list.ensures

pub loop-number-preserved : goal.loop-number-preserved
loop-number-preserved c = marked_more (has c.args.set.now) c.loop-number.number c.loop-number.list _ c.loop-number.invariant c.in_ok-push_if_marked.ensures

pub returns : goal.returns
returns c = listed_all (λ x. IsTrue (has c.args.set.now x)) c.loop-number.number c.loop-number.list (λ x t. omega (arith, in_range c.args.set.now x t)) c.loop-number.invariant
