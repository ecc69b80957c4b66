use Rattle.std.proofs.Common.{◌∙◌, List, ap}
use Rattle.std.specs.Option.{option_copied}
use Rattle.package_files.specs.declared.work.Work.{Work}
use Rattle.host_core.specs.Paths.{Path}
use Rattle.unpack_plan.specs.Names.{cleared_names}
use Rattle.unpack_plan.proofs.contents.contents_of.Goals as goal

pub own_works-requires : goal.own_works-requires
own_works-requires c = (c.args.tree.flagged, c.args.tree.fitting)

pub returns-clause-names : goal.returns-clause-names
returns-clause-names c =
    let entries = c.args.diversions.now.ways in
    let tree = c.args.tree in
    c.in_ok-names.ensures.names ∙ ap (λ (l : List Path). cleared_names entries tree.name (option_copied c.args.found) l c.as_slice.result.now c.args.leaving.now) c.as_slice-kept.ensures
    ∙ ap (λ (xs : List Work). cleared_names entries tree.name (option_copied c.args.found) tree.conffiles xs c.args.leaving.now) c.as_slice.ensures.value
