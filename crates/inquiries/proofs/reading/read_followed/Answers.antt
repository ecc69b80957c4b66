use Rattle.host_core.proofs.Moments.{reads_then}
use Rattle.inquiries.proofs.Followed.{finds_looked}
use Rattle.inquiries.proofs.reading.read_followed.Goals as goal

pub returns-in-Ok-clause-finds : goal.returns-in-Ok-clause-finds
returns-in-Ok-clause-finds g c = λ h. finds_looked c.follow_seen.result _ (c.in-Ok.ensures.finds (c.follow_seen.ensures.silent.honest h)) c.follow_seen.ensures.sound

pub returns-in-Ok-clause-reads : goal.returns-in-Ok-clause-reads
returns-in-Ok-clause-reads g c = reads_then _ _ _ c.read_all.ensures.reads c.follow_seen.ensures.reads
