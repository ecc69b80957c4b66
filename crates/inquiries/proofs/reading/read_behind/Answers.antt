use Rattle.std.proofs.Common.{sym, subst}
use Rattle.host_overlay.specs.Seen.{seen}
use Rattle.opening.specs.Parts.{IsTable, names_of}
use Rattle.diversions.specs.Lines.{HasDiversions}
use Rattle.inquiries.specs.Read.{HasSeenLists}
use Rattle.inquiries.proofs.PartByPart.{diversions_faulty}
use Rattle.inquiries.proofs.reading.read_behind.Goals as goal

pub returns-in-Ok-clause-finds : goal.returns-in-Ok-clause-finds
returns-in-Ok-clause-finds g c = λ h. ((c.in-Ok.diversions.ways.entries, c.in-Ok.ensures.entries h), tt)

pub returns-in-Ok-clause-held : goal.returns-in-Ok-clause-held
returns-in-Ok-clause-held g c = λ h.
    let same = sym c.open.ensures.reads.world in
    let h0 = c.open.ensures.silent.honest h in (
      (subst (λ w. IsTable w c.args.database.records) same (c.requires.table h0)).records,
      (
        subst (HasSeenLists (names_of c.args.database.records) c.args.lists.lists (seen c.args.shown)) same (c.requires.lists h0),
        subst (λ w. HasDiversions w c.in-Ok.diversions.ways.entries) same (c.in-Ok.ensures.entries h),
      ),
    )

pub returns-in-Err-clause-finds : goal.returns-in-Err-clause-finds
returns-in-Err-clause-finds g c = λ h. diversions_faulty (g.H.Host.state c.args.host.now).world c.in-Err.fault (c.in-Err.ensures.damage h)
