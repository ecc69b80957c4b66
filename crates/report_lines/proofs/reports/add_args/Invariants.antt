use Rattle.std.proofs.Common.{◌≡◌, ◌++◌, take, string_bytes}
use Rattle.std.specs.List.{flat_map}
use Rattle.report_lines.specs.Calls.{arg_text}
use Rattle.report_lines.proofs.reports.add_args.Given as goal

abbrev pub invariant-loop-arg : goal.invariant-loop-arg
invariant-loop-arg l = string_bytes l.text ≡ string_bytes l.initial.text ++ flat_map arg_text (take l.arg-index l.args)
