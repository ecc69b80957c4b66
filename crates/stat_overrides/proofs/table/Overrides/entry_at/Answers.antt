use Rattle.std.proofs.Common.{◌∙◌, ◌≡◌, ℕ, Option, List, None, Some, ap, sym, subst}
use Rattle.std.specs.Prelude.{option_copied}
use Rattle.name_tables.specs.Order.{AreInOrder}
use Rattle.name_tables.specs.Tables.{value_in}
use Rattle.stat_overrides.specs.Reading.{path_of}
use Rattle.stat_overrides.specs.declared.lines.Override.{Override}
use Rattle.stat_overrides.proofs.Entries.{value_nowhere, value_there}
use Rattle.stat_overrides.proofs.table.Overrides.entry_at.Goals as goal

pub returns-in_err-at : goal.returns-in_err-at
returns-in_err-at c =
    let xs = c.as_slice-entries.result.now in
    let same : xs ≡ c.args.self.now.table = c.as_slice-entries.ensures in
    let named : c.as_bytes.result.now ≡ c.args.path.now = c.as_bytes.ensures.value in
    ap option_copied c.from_residual.ensures
    ∙ sym (sym (ap (λ (l : List Override). value_in path_of l c.args.path.now) same) ∙ sym (ap (value_in path_of xs) named) ∙ value_nowhere xs c.as_bytes.result.now c.in_err-at.ensures.none)

pub returns : goal.returns
returns c =
    let xs = c.as_slice-entries.result.now in
    let x = c.index-entries-at.result in
    let same : xs ≡ c.args.self.now.table = c.as_slice-entries.ensures in
    let named : c.as_bytes.result.now ≡ c.args.path.now = c.as_bytes.ensures.value in
    let order : AreInOrder path_of xs = subst (λ (l : List Override). AreInOrder path_of l) (sym same) c.law.ensures in
    sym (sym (ap (λ (l : List Override). value_in path_of l c.args.path.now) same) ∙ sym (ap (value_in path_of xs) named)
    ∙ value_there xs c.as_bytes.result.now c.in_ok-at.at x order c.in_ok-at.ensures.some.0 c.index-entries-at.is c.in_ok-at.ensures.some.1)
