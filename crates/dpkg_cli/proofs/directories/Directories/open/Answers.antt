use Rattle.std.proofs.Common.{rules}
use Rattle.dpkg_cli.proofs.directories.Directories.open.Goals as goal

pub returns-in-Err-Device-clause-cause : goal.returns-in-Err-Device-clause-cause
returns-in-Err-Device-clause-cause c = search rules

pub returns-in-Err-Declined-clause-cause : goal.returns-in-Err-Declined-clause-cause
returns-in-Err-Declined-clause-cause c = search rules
