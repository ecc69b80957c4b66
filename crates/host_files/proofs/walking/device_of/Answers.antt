use Rattle.std.proofs.Common.{Some, string_bytes}
use Rattle.host_files.specs.SystemCalls.{look_call}
use Rattle.host_files.proofs.Meeting.{includes_call}
use Rattle.host_files.proofs.walking.device_of.Goals as goal

pub returns-in-Some-clause-calls : goal.returns-in-Some-clause-calls
returns-in-Some-clause-calls c = includes_call _ c.args.system.now.trace.calls c.look.new.self.trace.calls c.in_ok-seen.ensures.ok
