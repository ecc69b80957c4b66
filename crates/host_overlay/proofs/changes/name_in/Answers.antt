use Rattle.std.proofs.Common.{◌≡◌, sym, ap, ◌∙◌, rules, true}
use Rattle.std.proofs.lemmas.Bool.{true≢false}
use Rattle.host_core.specs.Tree.{has_slash}
use Rattle.host_overlay.proofs.Splits.{same_name}
use Rattle.host_overlay.proofs.changes.name_in.Goals as goal

pub returns-then-contains-clause-none : goal.returns-then-contains-clause-none
returns-then-contains-clause-none c = λ name plain is.
    let slash : has_slash c.in-Some.name.now ≡ true = search rules in
    let same : c.in-Some.name.now ≡ name = same_name c.args.top.now c.in-Some.name.now name (sym c.in-Some.ensures.some ∙ is) in
    true≢false (sym slash ∙ ap has_slash same ∙ plain)
