use Rattle.std.proofs.Common.{◌∙◌, ◌++◌, sym, ap, subst, List}
use Rattle.std.specs.List.{AllByRecursion}
use Rattle.diversions.specs.Lines.{lines_in}
use Rattle.host_core.specs.Paths.{Path}
use Rattle.file_lists.specs.Lists.{paths_in}
use Rattle.file_lists.specs.Owners.{IsListable, IsSameSet}
use Rattle.file_lists.proofs.Sorting.{listable}
use Rattle.file_lists.proofs.reading.read_text.Goals as goal

pub in_order-requires : goal.in_order-requires
in_order-requires c =
    let read = c.in_ok-read_lines.ensures.paths ∙ ap (λ (l : List Path). l ++ paths_in (lines_in c.args.text.now)) c.new.ensures.items in
    subst (AllByRecursion IsListable) (sym read) (listable (lines_in c.args.text.now) c.in_ok-read_lines.ensures.whole.good)

pub returns-clause-same : goal.returns-clause-same
returns-clause-same c =
    let read = c.in_ok-read_lines.ensures.paths ∙ ap (λ (l : List Path). l ++ paths_in (lines_in c.args.text.now)) c.new.ensures.items in
    subst (λ (l : List Path). IsSameSet l c.in_ok-in_order.field-0) read c.in_ok-in_order.ensures.same
