use Rattle.std.proofs.Common.{◌∙◌, ◌<◌, ◌%◌, sym, ap, subst, List, length, [], Contains}
use Rattle.std.proofs.Math.ListN.{set}
use Rattle.std.proofs.lemmas.Result.{on_ok_weaker}
use Rattle.aliases.specs.Aliases.{resolved}
use Rattle.file_lists.specs.declared.spot.Spot.{Spot}
use Rattle.file_lists.specs.Index.{Keyed, path_number, KeepsRows}
use Rattle.file_lists.proofs.Increasing.{get_or_any}
use Rattle.file_lists.proofs.Indexes.{rows_kept, row_set}
use Rattle.file_lists.proofs.index.Index.enter.Goals as goal

pub returns-clause-kept : goal.returns-clause-kept
returns-clause-kept c =
    let rows = c.self.inside.rows.items in
    let aliases = c.self.inside.aliases in
    let at = c.in_ok-at.at in
    let lt = subst (λ (k : Keyed). at < length k.rows) (sym c.self.view_is) c.in_ok-at.ensures.within in
    let here = c.index_mut.ensures.value ∙ get_or_any rows at c.index_mut.result.now [] lt in
    subst (λ (k : Keyed). KeepsRows k (record { rows = set rows at c.take.new.self; aliases = aliases })) c.self.view_is
    (rows_kept rows aliases at c.take.new.self lt (λ s has. c.take.ensures.kept s (subst (λ (r : List Spot). Contains r s) (sym here) has)))

pub returns-clause-there : goal.returns-clause-there
returns-clause-there c =
    let rows = c.self.inside.rows.items in
    let aliases = c.self.inside.aliases in
    let at = c.in_ok-at.at in
    let key = resolved aliases c.args.path.now in
    let lt = subst (λ (k : Keyed). at < length k.rows) (sym c.self.view_is) c.in_ok-at.ensures.within in
    let is = c.in_ok-at.ensures.row ∙ ap (λ (k : Keyed). path_number (resolved k.aliases c.args.path.now) % length k.rows) (sym c.self.view_is) in
    on_ok_weaker c.take.result (λ there. subst (λ (r : List Spot). Contains r c.args.spot) (sym (row_set rows at c.take.new.self key lt is)) there) c.take.ensures.there
