use Rattle.std.proofs.Common.{rules}
use Rattle.command_words.proofs.comparison.Comparison.verdict.Goals as goal

pub fault_verdict-requires : goal.fault_verdict-requires
fault_verdict-requires c = search rules

pub returns-in-Err : goal.returns-in-Err
returns-in-Err c = search rules
