use Rattle.std.proofs.Common.{◌∙◌, ◌≡◌, ℕ, Option, List, None, Some, ap, sym, subst}
use Rattle.std.specs.Prelude.{option_map}
use Rattle.hex.specs.Hex.{encode_lower}
use Rattle.name_tables.specs.Order.{AreInOrder}
use Rattle.name_tables.specs.Tables.{value_in}
use Rattle.verification.specs.declared.sums.Sum.{Sum}
use Rattle.verification.proofs.SumTables.{digest_of, path_of, value_nowhere, value_there}
use Rattle.verification.proofs.sums.Sums.digest_of.Goals as goal

pub returns-in_err-at : goal.returns-in_err-at
returns-in_err-at c =
    let xs = c.as_slice-sums.result.now in
    let same : xs ≡ c.args.self.now = c.as_slice-sums.ensures ∙ c.self.view_is in
    let named : c.as_bytes.result.now ≡ c.args.path.now = c.as_bytes.ensures.value ∙ c.as_str.ensures in
    let nowhere : value_in path_of c.args.self.now c.args.path.now ≡ None =
    sym (ap (λ (l : List Sum). value_in path_of l c.args.path.now) same) ∙ sym (ap (value_in path_of xs) named) ∙ value_nowhere xs c.as_bytes.result.now c.in_err-at.ensures.none in
    let none : c.from_residual.result ≡ None = c.from_residual.ensures in
    ap (option_map encode_lower) none ∙ sym (ap (option_map digest_of) nowhere)

pub returns : goal.returns
returns c =
    let xs = c.as_slice-sums.result.now in
    let x = c.index-sums-at.result in
    let same : xs ≡ c.args.self.now = c.as_slice-sums.ensures ∙ c.self.view_is in
    let named : c.as_bytes.result.now ≡ c.args.path.now = c.as_bytes.ensures.value ∙ c.as_str.ensures in
    let order : AreInOrder path_of xs = subst (λ (l : List Sum). AreInOrder path_of l) (sym c.as_slice-sums.ensures) c.law.ensures in
    let there : value_in path_of c.args.self.now c.args.path.now ≡ Some x =
    sym (ap (λ (l : List Sum). value_in path_of l c.args.path.now) same) ∙ sym (ap (value_in path_of xs) named)
    ∙ value_there xs c.as_bytes.result.now c.in_ok-at.at x order c.in_ok-at.ensures.some.0 c.index-sums-at.is c.in_ok-at.ensures.some.1 in
    ap (λ (s : Sum). Some (digest_of s)) (sym c.index-sums-at.is) ∙ sym (ap (option_map digest_of) there)
