use Rattle.kept_activations.proofs.NotedAll.{asked_pending, hit_pending, pending_stays}
use Rattle.kept_activations.proofs.noting.what_is_activated_becomes_pending.Goals as goal

pub returns-clause-hit : goal.returns-clause-hit
returns-clause-hit c = λ by_files known touched noted before after s end owner trigger has none honest interested hit. hit_pending by_files known touched noted before after s end has none honest owner trigger interested hit

pub returns-clause-asked : goal.returns-clause-asked
returns-clause-asked c = λ by_files known touched noted before after s end owner trigger has none honest interested asked. asked_pending by_files known touched noted before after s end has none honest owner trigger interested asked

pub returns-clause-stays : goal.returns-clause-stays
returns-clause-stays c = λ by_files known touched noted before after s end owner trigger has none honest pending. pending_stays by_files known touched noted before after s end has none honest owner trigger pending
