use Rattle.std.proofs.Common.{[], subst}
use Rattle.host_files.specs.Directories.{IsDirectoryOf}
use Rattle.host_files.proofs.DirectoryLaws.{directory_found, directory_of_root}
use Rattle.host_files.proofs.changed.directory_of.Goals as goal

pub returns-in-Some : goal.returns-in-Some
returns-in-Some c = subst (λ p. IsDirectoryOf p c.in-Some.above.now) c.as_str.ensures (directory_found c.as_str.result.now c.in-Some.above.now c.in-Some.field-0-1.now c.in-Some.ensures.cases)

pub returns-in-None : goal.returns-in-None
returns-in-None c = subst (λ p. IsDirectoryOf p []) c.as_str.ensures (directory_of_root c.as_str.result.now c.in-None.ensures.cases)
