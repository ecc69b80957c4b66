use Rattle.unit_stages.specs.Holding.{holding_of}
use Rattle.disappearance.proofs.Plans.{gone_begun, gone_records, gone_settleable, gone_taken}
use Rattle.disappearance.proofs.Renewing.{same_but}
use Rattle.disappearance.proofs.unit.take_away.Goals as goal

pub run_stages-requires-clause-settleable : goal.run_stages-requires-clause-settleable
run_stages-requires-clause-settleable g c = λ h. gone_settleable c.args.gone.items c.requires.quiet.0 _ c.requires.quiet.1

pub returns-clause-taken : goal.returns-clause-taken
returns-clause-taken g c =
    gone_taken c.args.name.now c.args.diversions.now.ways c.args.gone.items c.requires.quiet.0 c.requires.quiet.1 c.in_ok-run_stages.field-0 (holding_of c.args.administration.now) (holding_of c.run_stages.new.administration)
    (g.H.Host.state c.args.host.now) (g.H.Host.state c.run_stages.new.host) c.args.told.now.items c.run_stages.new.told.items c.in_ok-run_stages.ensures.ran

pub returns-clause-untold : goal.returns-clause-untold
returns-clause-untold g c =
    (gone_begun c.args.name.now c.args.diversions.now.ways c.args.gone.items c.requires.quiet.0 c.requires.quiet.1 (g.H.Host.state c.args.host.now) (g.H.Host.state c.run_stages.new.host) c.args.told.now.items c.run_stages.new.told.items c.run_stages.ensures.told).1

pub returns-clause-silent : goal.returns-clause-silent
returns-clause-silent g c =
    (gone_begun c.args.name.now c.args.diversions.now.ways c.args.gone.items c.requires.quiet.0 c.requires.quiet.1 (g.H.Host.state c.args.host.now) (g.H.Host.state c.run_stages.new.host) c.args.told.now.items c.run_stages.new.told.items c.run_stages.ensures.told).0

pub returns-in_err-run_stages-clause-untold : goal.returns-in_err-run_stages-clause-untold
returns-in_err-run_stages-clause-untold g c =
    (gone_begun c.args.name.now c.args.diversions.now.ways c.args.gone.items c.requires.quiet.0 c.requires.quiet.1 (g.H.Host.state c.args.host.now) (g.H.Host.state c.run_stages.new.host) c.args.told.now.items c.run_stages.new.told.items c.run_stages.ensures.told).1

pub returns-in_err-run_stages-clause-silent : goal.returns-in_err-run_stages-clause-silent
returns-in_err-run_stages-clause-silent g c =
    (gone_begun c.args.name.now c.args.diversions.now.ways c.args.gone.items c.requires.quiet.0 c.requires.quiet.1 (g.H.Host.state c.args.host.now) (g.H.Host.state c.run_stages.new.host) c.args.told.now.items c.run_stages.new.told.items c.run_stages.ensures.told).0

pub returns-in_err-renew_one-clause-untold : goal.returns-in_err-renew_one-clause-untold
returns-in_err-renew_one-clause-untold g c =
    (gone_begun c.args.name.now c.args.diversions.now.ways c.args.gone.items c.requires.quiet.0 c.requires.quiet.1 (g.H.Host.state c.args.host.now) (g.H.Host.state c.run_stages.new.host) c.args.told.now.items c.run_stages.new.told.items c.run_stages.ensures.told).1

pub returns-in_err-renew_one-clause-silent : goal.returns-in_err-renew_one-clause-silent
returns-in_err-renew_one-clause-silent g c =
    (gone_begun c.args.name.now c.args.diversions.now.ways c.args.gone.items c.requires.quiet.0 c.requires.quiet.1 (g.H.Host.state c.args.host.now) (g.H.Host.state c.run_stages.new.host) c.args.told.now.items c.run_stages.new.told.items c.run_stages.ensures.told).0

pub returns-clause-indexed : goal.returns-clause-indexed
returns-clause-indexed g c =
    let name = c.args.name.now in
    let ways = c.args.diversions.now.ways in
    let gone = c.args.gone.items in
    let before = holding_of c.args.administration.now in
    let after = holding_of c.run_stages.new.administration in
    let s = g.H.Host.state c.args.host.now in
    let t = g.H.Host.state c.run_stages.new.host in
    let now = c.run_stages.new.told.items in
    let taken = gone_taken name ways gone c.requires.quiet.0 c.requires.quiet.1 c.in_ok-run_stages.field-0 before after s t c.args.told.now.items now c.in_ok-run_stages.ensures.ran in
    c.in_ok-renew_one.ensures.ok c.args.administration.now.database.records c.law.ensures.order c.requires.indexed
    (same_but name c.args.administration.now.database.records c.run_stages.new.administration.database.records (gone_records name ways gone c.requires.quiet.0 c.requires.quiet.1 before after s t now now taken))
