use Rattle.std.proofs.Common.{rules}
use Rattle.status_records.proofs.words.StateWord.name.Goals as goal

pub returns-in-Unpacked : goal.returns-in-Unpacked
returns-in-Unpacked c = search rules
