use Rattle.std.proofs.Common.{◌∙◌, arith, string_bytes}
use Rattle.report_lines.specs.States.{state_line}
use Rattle.report_lines.proofs.Adding.{line_more, lines_all}
use Rattle.report_lines.proofs.reports.add_touched.Goals as goal

pub loop-touched-preserved : goal.loop-touched-preserved
loop-touched-preserved c = line_more state_line c.args.packages.now c.loop-touched.touched-index c.touched-item.result (string_bytes c.args.lines.now) (string_bytes c.loop-touched.lines) c.as_str.result.now (string_bytes c.push_str.new.self) (omega (arith, c.loop-touched-test.true)) c.touched-item.is c.loop-touched.invariant (c.as_str.ensures.value ∙ c.in_ok-line.ensures) c.in_ok-push_str.ensures.bytes

pub returns : goal.returns
returns c = lines_all state_line c.args.packages.now c.loop-touched.touched-index (string_bytes c.args.lines.now) (string_bytes c.loop-touched.lines) (omega (arith, c.loop-touched-test.false)) c.loop-touched.invariant
