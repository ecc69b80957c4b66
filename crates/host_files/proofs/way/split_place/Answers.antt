use Rattle.host_files.proofs.DirectoryLaws.{entry_split}
use Rattle.host_files.proofs.way.split_place.Goals as goal

pub returns : goal.returns
returns c = entry_split (λ x. x.0.now) (λ x. x.1.now) c.args.place.now _ c.rsplit_once.result c.rsplit_once.ensures.cases
