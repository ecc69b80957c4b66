use Rattle.std.proofs.Common.{List, ap, ◌∙◌}
use Rattle.std.specs.Option.{option_copied}
use Rattle.file_removal.specs.declared.leaving.Leaving.{Leaving}
use Rattle.unpack_plan.specs.Names.{cleared_names}
use Rattle.unpack_plan.proofs.files.own_files.Goals as goal

pub returns-clause-names : goal.returns-clause-names
returns-clause-names c =
    let tree = c.args.tree in
    c.in_ok-contents.ensures.names ∙ ap (λ (l : List Leaving). cleared_names c.args.diversions.now.ways tree.name (option_copied c.args.found) tree.conffiles c.in_ok-contents.contents.works.items l) c.as_slice-leaving.ensures.value
