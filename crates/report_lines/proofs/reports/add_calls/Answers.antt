use Rattle.std.proofs.Common.{◌∙◌, arith, string_bytes}
use Rattle.report_lines.specs.Calls.{call_line}
use Rattle.report_lines.proofs.Adding.{line_more, lines_all}
use Rattle.report_lines.proofs.reports.add_calls.Goals as goal

pub loop-called-preserved : goal.loop-called-preserved
loop-called-preserved c = line_more call_line c.args.calls.now c.loop-called.called-index c.called-item.result (string_bytes c.args.lines.now) (string_bytes c.loop-called.lines) c.as_str.result.now (string_bytes c.push_str.new.self) (omega (arith, c.loop-called-test.true)) c.called-item.is c.loop-called.invariant (c.as_str.ensures.value ∙ c.in_ok-line.ensures) c.in_ok-push_str.ensures.bytes

pub returns : goal.returns
returns c = lines_all call_line c.args.calls.now c.loop-called.called-index (string_bytes c.args.lines.now) (string_bytes c.loop-called.lines) (omega (arith, c.loop-called-test.false)) c.loop-called.invariant
