use Rattle.std.proofs.Common.{inr, sym, subst}
use Rattle.host_core.specs.World.{World}
use Rattle.host_overlay.specs.Seen.{seen}
use Rattle.inquiries.specs.Read.{HasSeenLists}
use Rattle.inquiries.proofs.reading.open_seen.Goals as goal

pub open_seen-requires : goal.open_seen-requires
open_seen-requires g c = record { sources = λ h. (c.requires.through h).sources }

pub returns-in-Ok-clause-finds : goal.returns-in-Ok-clause-finds
returns-in-Ok-clause-finds g c = λ h. record {
  shown = seen c.args.shown (g.H.Host.state c.args.host.now).world;
  is_seen = (c.requires.through (c.open_seen.ensures.silent.honest h)).shows;
  text = c.in-Ok.ensures.text h;
  sound = c.in-Ok.ensures.sound h;
}

pub returns-in-Ok-clause-lists : goal.returns-in-Ok-clause-lists
returns-in-Ok-clause-lists g c = λ h.
    subst (HasSeenLists c.args.names.now c.in-Ok.lists.lists (seen c.args.shown)) (sym c.open_seen.ensures.reads.world) ((c.requires.through (c.open_seen.ensures.silent.honest h)).shows, c.in-Ok.ensures.lists h)

pub returns-in-Err-clause-finds : goal.returns-in-Err-clause-finds
returns-in-Err-clause-finds g c = λ h. inr (seen c.args.shown (g.H.Host.state c.args.host.now).world, (c.requires.through (c.open_seen.ensures.silent.honest h)).shows, c.in-Err.ensures.damage h)
