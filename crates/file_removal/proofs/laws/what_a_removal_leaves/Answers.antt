use Rattle.std.proofs.Common.{◌++◌, inl, inr}
use Rattle.host_core.specs.Events.{IsDeniedIn}
use Rattle.host_core.proofs.Denials.{denied_front, denied_behind}
use Rattle.file_removal.proofs.Leavings.{spared_stays, loose_stays, loose_gone, in_order, empty_gone, finishes_unless, unless_wider, once, done}
use Rattle.file_removal.proofs.laws.what_a_removal_leaves.Goals as goal

pub returns-clause-spared : goal.returns-clause-spared
returns-clause-spared c = λ s d xs old new q removed spared. spared_stays s d old xs new q removed spared

pub returns-clause-loose : goal.returns-clause-loose
returns-clause-loose c = λ s xs old new q removed loose. loose_stays s old xs new q removed loose

pub returns-clause-gone : goal.returns-clause-gone
returns-clause-gone c = λ s xs old new x removed has may loose. loose_gone s old xs new x removed has may loose

pub returns-clause-less : goal.returns-clause-less
returns-clause-less c = λ s d xs old new q removed. elim (removed.each q) [ inl gone ↦ inr gone.1 | inr kept ↦ inl kept.1 ]

pub returns-clause-once : goal.returns-clause-once
returns-clause-once c = λ s d xs old new other q first second. once s d xs old new first other q second

pub returns-clause-wider : goal.returns-clause-wider
returns-clause-wider c = λ earlier es later d xs old new removed. unless_wider (IsDeniedIn es) (IsDeniedIn (earlier ++ (es ++ later))) d xs old new (λ p is. denied_behind earlier (es ++ later) p (denied_front es later p is)) removed

pub returns-clause-order : goal.returns-clause-order
returns-clause-order c = λ xs order. in_order xs order

pub returns-clause-empty : goal.returns-clause-empty
returns-clause-empty c = λ s d xs old new x order removed has may leaves is bare. empty_gone s d xs old new removed order x has may leaves is bare

pub returns-clause-finished : goal.returns-clause-finished
returns-clause-finished c = λ s d xs old now new order amid more. finishes_unless _ d xs old now new order amid (s, λ later p is. (later, is), more)

pub returns-clause-again : goal.returns-clause-again
returns-clause-again c = λ s d xs old new newer q order first second. done s d xs old new newer q order first second
