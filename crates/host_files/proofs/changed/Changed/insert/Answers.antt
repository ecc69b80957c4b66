use Rattle.std.proofs.Common.{◌∙◌, true, string_bytes}
use Rattle.std.specs.BTreeSet.{contains_text}
use Rattle.std.specs.Str.{bytes_eq}
use Rattle.std.proofs.lemmas.Map.Text.{btree_set_updates_text}
use Rattle.host_files.proofs.DirectoryLaws.{still_there}
use Rattle.host_files.proofs.changed.Changed.insert.Goals as goal

pub returns-clause-kept : goal.returns-clause-kept
returns-clause-kept c = λ other there.
    let key = string_bytes c.in_ok-directory.directory in
    btree_set_updates_text key c.args.self.now.directories c.insert.new.self true c.in_ok-insert.ensures.updates other
    ∙ still_there (bytes_eq key other) (contains_text c.args.self.now.directories other) there
