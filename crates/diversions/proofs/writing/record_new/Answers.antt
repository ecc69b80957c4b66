use Rattle.std.proofs.Common.{◌++◌, ◌∷◌, []}
use Rattle.host_core.proofs.Moments.{since_weaker_if}
use Rattle.diversions.proofs.Moving.{file_is, home_stays, on_ok, ready_doubled, ready_moved, recorded_by, under_way_by}
use Rattle.diversions.proofs.Turning.{goes_here}
use Rattle.diversions.proofs.writing.record_new.Goals as goal

pub returns-in_err-text_with-clause-turns : goal.returns-in_err-text_with-clause-turns
returns-in_err-text_with-clause-turns g c = goes_here _

pub returns-clause-done : goal.returns-clause-done
returns-clause-done g c = λ h.
    let b = c.carry_out.ensures.silent.honest h in
    let d = c.args.entry.now in
    on_ok c.carry_out.result (λ replaced. recorded_by (c.args.table.now ++ d ∷ []) _ _ _ (file_is (c.args.table.now ++ d ∷ []) _ _ c.file_of-node.ensures c.in_ok-text_with.ensures) c.requires.may
    (ready_moved c.args.way.moves c.args.way.brings c.args.route.now.from c.args.route.now.to _ c.law.ensures c.law-2.ensures (c.requires.ready b) (c.requires.can b)) replaced)
    (c.carry_out.ensures.done h)

pub returns-clause-any_moment : goal.returns-clause-any_moment
returns-clause-any_moment g c =
    let d = c.args.entry.now in
    since_weaker_if _ _ _ _ (λ h so_far w is.
    let b = c.carry_out.ensures.silent.honest h in
    under_way_by c.args.way.moves c.args.route.now.from c.args.route.now.to (c.args.table.now ++ d ∷ []) _ _ w (file_is (c.args.table.now ++ d ∷ []) _ _ c.file_of-node.ensures c.in_ok-text_with.ensures) c.requires.may
    (home_stays c.args.way.moves c.args.route.now.from c.args.route.now.to _ c.law.ensures c.law-2.ensures) (ready_moved c.args.way.moves c.args.way.brings c.args.route.now.from c.args.route.now.to _ c.law.ensures c.law-2.ensures (c.requires.ready b) (c.requires.can b)) (ready_doubled c.args.way.moves c.args.way.brings c.args.route.now.from c.args.route.now.to _ c.law-2.ensures (c.requires.ready b) (c.requires.can b)) is)
    c.carry_out.ensures.any_moment
