use Rattle.opening.specs.Leaving.{IsOpeningOrMerging}
use Rattle.opening.proofs.Followed.{brought_looked, moments_looked, opened_looked, opens_looked}
use Rattle.opening.proofs.following.open_followed.Goals as goal

pub returns-in-Ok-clause-opens : goal.returns-in-Ok-clause-opens
returns-in-Ok-clause-opens g c = λ h. opens_looked c.follow.result _ _ _ (c.in-Ok.ensures.opens (c.follow.ensures.silent.honest h)) c.follow.ensures.reads.world c.follow.ensures.sound

pub returns-in-Ok-clause-opened : goal.returns-in-Ok-clause-opened
returns-in-Ok-clause-opened g c = λ h.
    opened_looked c.follow.result c.in-Ok.opened _ _ c.follow.ensures.database c.follow.ensures.lists c.follow.ensures.entries c.follow.ensures.reads.world (c.in-Ok.ensures.opened (c.follow.ensures.silent.honest h))

pub returns-in-Ok-clause-any_moment : goal.returns-in-Ok-clause-any_moment
returns-in-Ok-clause-any_moment g c = moments_looked (IsOpeningOrMerging (g.H.Host.state c.args.host.now).world) _ _ _ c.open_administration.ensures.any_moment c.follow.ensures.reads

pub returns-in-Ok-clause-brought : goal.returns-in-Ok-clause-brought
returns-in-Ok-clause-brought g c = λ h stopped. brought_looked c.follow.result _ _ _ (c.in-Ok.ensures.brought (c.follow.ensures.silent.honest h) stopped) c.follow.ensures.reads
