use Rattle.host_overlay.specs.Seen.{seen}
use Rattle.inquiries.proofs.Followed.{held_followed}
use Rattle.inquiries.proofs.reading.follow_seen.Goals as goal

pub returns-in-Ok-clause-held : goal.returns-in-Ok-clause-held
returns-in-Ok-clause-held g c =
    held_followed c.in-Ok.opened c.args.all.opened (seen c.args.all.shown) _ _ c.follow.ensures.reads c.in-Ok.ensures.database c.in-Ok.ensures.lists c.in-Ok.ensures.entries c.in-Ok.ensures.followed c.requires.held
