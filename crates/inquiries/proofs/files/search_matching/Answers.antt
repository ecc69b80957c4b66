use Rattle.host_overlay.specs.Seen.{seen}
use Rattle.inquiries.proofs.PartByPart.{all_memory}
use Rattle.inquiries.proofs.files.search_matching.Goals as goal

pub returns-clause-told : goal.returns-clause-told
returns-clause-told g c = (c.in_ok-all.all.opened.database.records, c.in_ok-all.all.opened.lists.lists, c.in_ok-all.all.opened.diversions.ways.entries, seen c.in_ok-all.all.shown, c.in_ok-all.ensures.held, c.in_ok-text.ensures)

pub returns-in_err-text-clause-finds : goal.returns-in_err-text-clause-finds
returns-in_err-text-clause-finds g c = λ h. all_memory c.from_residual-in_err-text.result (g.H.Host.state c.args.host.now).world c.from_residual-in_err-text.ensures.1
