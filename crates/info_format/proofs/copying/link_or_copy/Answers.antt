use Rattle.std.proofs.Common.{Err, ap, ◌∙◌}
use Rattle.host_core.proofs.Losses.{proper_synced}
use Rattle.info_format.proofs.Copies.{linked_is, since_behind}
use Rattle.info_format.proofs.copying.link_or_copy.Goals as goal

pub link-requires-clause-synced : goal.link-requires-clause-synced
link-requires-clause-synced g c = λ h. proper_synced _ _ (g.H.Host.settled c.args.host.now h) c.requires.proper

pub returns-in-Ok-clause-both : goal.returns-in-Ok-clause-both
returns-in-Ok-clause-both g c = λ h. linked_is c.args.pair.now.long c.args.pair.now.short _ _ c.in-Ok.ensures.does

pub returns-in_err-copy-in-Err-Declined-clause-any_moment : goal.returns-in_err-copy-in-Err-Declined-clause-any_moment
returns-in_err-copy-in-Err-Declined-clause-any_moment g c = since_behind c.link.result c.args.pair.now.long c.args.pair.now.short _ _ (c.in-Err-Declined.is ∙ ap Err c.in-Err-Declined.field-0-is) c.link.ensures.does _ c.copy.ensures.silent.honest
    (λ h. c.requires.there (c.link.ensures.silent.honest h)) (λ h. c.requires.absent (c.link.ensures.silent.honest h)) c.copy.ensures.any_moment

pub returns-then-branch-clause-any_moment : goal.returns-then-branch-clause-any_moment
returns-then-branch-clause-any_moment g c = since_behind c.link.result c.args.pair.now.long c.args.pair.now.short _ _ (c.in-Err-Declined.is ∙ ap Err c.in-Err-Declined.field-0-is) c.link.ensures.does _ c.copy.ensures.silent.honest
    (λ h. c.requires.there (c.link.ensures.silent.honest h)) (λ h. c.requires.absent (c.link.ensures.silent.honest h)) c.copy.ensures.any_moment

pub returns-else-branch-clause-any_moment : goal.returns-else-branch-clause-any_moment
returns-else-branch-clause-any_moment g c = since_behind c.link.result c.args.pair.now.long c.args.pair.now.short _ _ (c.in-Err-Declined.is ∙ ap Err c.in-Err-Declined.field-0-is) c.link.ensures.does _ c.copy.ensures.silent.honest
    (λ h. c.requires.there (c.link.ensures.silent.honest h)) (λ h. c.requires.absent (c.link.ensures.silent.honest h)) c.copy.ensures.any_moment
