use Rattle.std.proofs.Common.{sym, ap, ◌∙◌}
use Rattle.std.specs.Option.{option_copied}
use Rattle.removal_engine.proofs.Tables.{named}
use Rattle.disappearance.proofs.Plans.{plan_is}
use Rattle.disappearance.proofs.stages.plan_stages.Goals as goal

pub has_postrm-requires : goal.has_postrm-requires
has_postrm-requires g c = record { named = named c.unwrap-entry.result.now }

pub plan_of-requires : goal.plan_of-requires
plan_of-requires g c = record { named = named c.unwrap-entry.result.now }

pub returns-clause-plan : goal.returns-clause-plan
returns-clause-plan g c = λ lists.
    let found = sym c.get.ensures ∙ ap option_copied c.unwrap-entry.ensures in
    plan_is c.args.incoming.now c.args.version.now c.args.name.now (record { records = c.args.database.now.records; lists = lists }) _ _ c.unwrap-entry.result.now found c.in_ok-stored.stored c.in_ok-plan.plan.call.items c.in_ok-plan.plan.gone.items
    c.in_ok-stored.ensures.looks.found c.in_ok-plan.ensures.calls c.in_ok-plan.ensures.goes
