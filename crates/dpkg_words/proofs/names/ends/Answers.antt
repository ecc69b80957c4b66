use Rattle.std.proofs.lemmas.Str.Pattern.{ends_text}
use Rattle.dpkg_words.proofs.names.ends.Goals as goal

pub returns : goal.returns
returns c = ends_text c.ends_with.result c.args.below.now c.args.name.now c.ends_with.ensures.cases
