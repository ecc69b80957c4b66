use Rattle.std.proofs.Common.{inl, sym, subst}
use Rattle.host_core.specs.World.{World}
use Rattle.host_core.proofs.Moments.{reads_then}
use Rattle.info_format.specs.Seeing.{IsSeenThrough}
use Rattle.opening.specs.Parts.{fault_in}
use Rattle.inquiries.specs.Read.{FindsLists}
use Rattle.inquiries.proofs.reading.read_seen.Goals as goal

pub see_names-requires : goal.see_names-requires
see_names-requires g c = record { records = λ h. (c.requires h).records }

pub open_seen-requires : goal.open_seen-requires
open_seen-requires g c = record { through = λ h. subst (λ (w : World). IsSeenThrough w c.in-Ok.shown) (sym c.see_names.ensures.reads.world) (c.in-Ok.ensures.through h) }

pub returns-in-Ok-clause-finds : goal.returns-in-Ok-clause-finds
returns-in-Ok-clause-finds g c = λ h. subst (λ (w : World). FindsLists c.args.names.now w (fault_in c.open_seen.result)) c.see_names.ensures.reads.world (c.open_seen.ensures.finds h)

pub returns-in-Ok-clause-reads : goal.returns-in-Ok-clause-reads
returns-in-Ok-clause-reads g c = reads_then _ _ _ c.see_names.ensures.reads c.open_seen.ensures.reads

pub returns-in-Err-clause-finds : goal.returns-in-Err-clause-finds
returns-in-Err-clause-finds g c = λ h. inl (c.in-Err.ensures.fault h)
