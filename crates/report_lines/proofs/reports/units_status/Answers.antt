use Rattle.std.proofs.Common.{arith, ◌≡◌, ◌≤◌, ◌+◌, List, [], ◌∷◌, ◌++◌, max, take, ap, sym, ◌∙◌}
use Rattle.std.proofs.lemmas.List.{take_more}
use Rattle.unit_reports.specs.declared.report.Breakage.TheVariants.{Device, NoMemory, Declined, Damaged, Closed, Abandoned}
use Rattle.unit_reports.specs.declared.report.Reply.{Reply}
use Rattle.unit_reports.specs.declared.report.Reply.TheVariants.{Done, Refused, Failed, Looped, Broken}
use Rattle.unit_reports.specs.declared.report.Unit.{Unit as AUnit}
use Rattle.report_lines.specs.Replies.{reply_status}
use Rattle.report_lines.specs.Reports.{units_status}
use Rattle.report_lines.proofs.reports.units_status.Goals as goal

one_more : (us : List AUnit) (u : AUnit) → units_status (us ++ u ∷ []) ≡ max (reply_status u.reply) (units_status us)
one_more [] u = omega arith
one_more (v ∷ us) u = let h = one_more us u in omega (arith, h)

at_most : (r : Reply) → reply_status r ≤ 2
at_most Done = omega arith
at_most (Refused r) = omega arith
at_most (Failed f) = omega arith
at_most (Looped c) = omega arith
at_most (Broken Device) = omega arith
at_most (Broken NoMemory) = omega arith
at_most (Broken Declined) = omega arith
at_most (Broken Damaged) = omega arith
at_most (Broken Closed) = omega arith
at_most (Broken Abandoned) = omega arith

pub loop-unit-preserved : goal.loop-unit-preserved
loop-unit-preserved c =
    let us = take c.loop-unit.unit-index c.args.units.now in
    let u = c.unit-item.result in
    let fronts : take (c.loop-unit.unit-index + 1) c.args.units.now ≡ us ++ u ∷ [] =
    take_more c.args.units.now c.loop-unit.unit-index u c.loop-unit-test.true ∙ ap (λ (q : AUnit). us ++ q ∷ []) (sym c.unit-item.is) in
    record {
      value = omega (arith, one_more us u, ap units_status fronts, c.reply_status.ensures, c.max-status.ensures, c.loop-unit.invariant.value);
      bound = omega (arith, at_most u.reply, c.reply_status.ensures, c.max-status.ensures, c.loop-unit.invariant.bound);
    }
