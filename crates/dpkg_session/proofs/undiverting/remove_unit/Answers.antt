use Rattle.std.proofs.Common.{inl, inr, ap}
use Rattle.diversions.specs.Diverted.{Diverted}
use Rattle.unit_reports.specs.declared.report.Breakage.TheVariants.{NoMemory}
use Rattle.dpkg_session.proofs.Shipped.{truename_shipped}
use Rattle.dpkg_session.proofs.Runs.{broken_by}
use Rattle.dpkg_session.proofs.undiverting.remove_unit.Goals as goal

pub returns-in-Ok-clause-unit : goal.returns-in-Ok-clause-unit
returns-in-Ok-clause-unit g c = elim c.unit_of.ensures.unit [
  | inl broken ↦ inl (broken_by NoMemory c.unit_of.result.reply broken)
  | inr unit ↦ inr record {
    answer = c.in-Ok.answer;
    shipped = record { path = c.law.ensures; target = truename_shipped c.args.diversions.now.ways c.args.asked.now.path c.law-2.ensures c.law.ensures };
    unit = unit;
    first = c.in-Ok.ensures.answer;
    table = ap (λ (d : Diverted). d.ways) c.in-Ok.ensures.table;
    left = c.in-Ok.ensures.left;
    flushed = c.in-Ok.ensures.flushed;
  }
]
