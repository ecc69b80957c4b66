use Rattle.std.proofs.Common.{[], ◌∷◌}
use Rattle.host_core.proofs.Moments.{reads_then}
use Rattle.diversions.specs.Lines.{HasDiversions}
use Rattle.opening.specs.Parts.{Root}
use Rattle.inquiries.proofs.PartByPart.{diversions_finds, needs_told, root_fine}
use Rattle.inquiries.proofs.reading.read_diversions.Goals as goal

pub returns-clause-finds : goal.returns-clause-finds
returns-clause-finds g c = λ h.
    let u = (g.H.Host.state c.args.host.now).world in
    let v = (g.H.Host.state c.check_root.new.host).world in
    let same = c.check_root.ensures.reads.world in
    diversions_finds (Root ∷ []) c.open.result u v same (root_fine u v same (c.in_ok-check_root.ensures.opens (c.open.ensures.silent.honest h))) (c.open.ensures.entries h) (c.open.ensures.damage h)

pub returns-clause-entries : goal.returns-clause-entries
returns-clause-entries g c =
    needs_told c.open.result (λ d w. HasDiversions w d.ways.entries) (g.H.Host.state c.check_root.new.host) (g.H.Host.state c.open.new.host) c.open.ensures.reads.world c.open.ensures.entries

pub returns-clause-reads : goal.returns-clause-reads
returns-clause-reads g c = reads_then _ _ _ c.check_root.ensures.reads c.open.ensures.reads
