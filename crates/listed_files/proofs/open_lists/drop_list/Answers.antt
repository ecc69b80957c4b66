use Rattle.administration.proofs.NamePaths.{list_is_path}
use Rattle.listed_files.proofs.open_lists.drop_list.Goals as goal

pub list_path-requires : goal.list_path-requires
list_path-requires g c = list_is_path c.args.name.now c.requires.named
