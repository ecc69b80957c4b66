use Rattle.std.proofs.Common.{◌∙◌, ap, List, is_some}
use Rattle.host_core.specs.Paths.{Path}
use Rattle.name_tables.specs.Tables.{put_value, value_in}
use Rattle.verification.specs.Tables.{given}
use Rattle.verification.specs.declared.sums.Sum.{Sum}
use Rattle.verification.proofs.SumTables.{added_first, already_first, path_of, told_nowhere, told_there}
use Rattle.verification.proofs.sums.Sums.add.Goals as goal

pub returns : goal.returns
returns c = λ path.
    let sums = c.args.self.now in
    let found = c.get.ensures ∙ ap (λ (l : List Sum). value_in path_of l c.args.sum.path) c.self.view_is in
    let none = told_nowhere c.get.result c.is_some.result (value_in path_of sums c.args.sum.path) found c.is_some.ensures c.if-is_some.false in
    ap (λ (l : List Sum). given l path) (c.in_ok-put.ensures.ok ∙ ap (put_value path_of c.args.sum) c.self.view_is) ∙ added_first sums c.args.sum none path
