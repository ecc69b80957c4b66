use Rattle.std.proofs.Common.{refl, subst}
use Rattle.host_core.proofs.Barriers.{answered_here}
use Rattle.record_changes.specs.Taking.{HasDecided}
use Rattle.record_changes.specs.Units.{IsChange}
use Rattle.unit_reports.proofs.Counting.{no_memory_within}
use Rattle.unit_reports.specs.declared.refusal.Rule.TheVariants.{Unknown}
use Rattle.unit_reports.specs.declared.report.Reply.TheVariants.{Done}
use Rattle.record_changes.proofs.Notes.{answered_within, broken_or, refused_within}
use Rattle.record_changes.proofs.units.change_named.Goals as goal

pub returns-in-Ok-Made-clause-unit : goal.returns-in-Ok-Made-clause-unit
returns-in-Ok-Made-clause-unit g c =
    let (r, found, same) = subst (HasDecided c.args.asked.now c.args.administration.now.database.records) c.in-Ok-Made.field-0-is c.in-Ok-Made.ensures in
    broken_or c.made.result.reply (λ done. record {
      is = λ diverted. IsChange.made r found same done (record { held = refl; here = refl });
      opened = λ ways was. was;
      order = c.requires.order;
      indexed = λ are. are;
      answered = answered_here (g.H.Host.state c.args.host.now);
    }) c.made.ensures.unit

pub returns-in-Ok-Made-clause-not_closed : goal.returns-in-Ok-Made-clause-not_closed
returns-in-Ok-Made-clause-not_closed g c = answered_within Done _ _ c.made.result (λ before. before) c.made.ensures.unit

pub returns-in-Ok-Refused-clause-not_closed : goal.returns-in-Ok-Refused-clause-not_closed
returns-in-Ok-Refused-clause-not_closed g c = refused_within Unknown _ c.unknown.result c.unknown.ensures.unit

pub returns-in-Err-clause-not_closed : goal.returns-in-Err-clause-not_closed
returns-in-Err-clause-not_closed g c = no_memory_within c.no_memory.result.reply c.no_memory.ensures.reply
