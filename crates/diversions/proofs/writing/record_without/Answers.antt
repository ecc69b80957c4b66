use Rattle.std.proofs.Common.{◌∙◌, ap}
use Rattle.host_core.proofs.Moments.{since_weaker_if}
use Rattle.host_core.specs.Paths.{Path}
use Rattle.diversions.specs.Entries.{without}
use Rattle.diversions.specs.Writing.{table_text}
use Rattle.diversions.proofs.Moving.{file_is, home_stays, on_ok, ready_doubled, ready_moved, recorded_by, under_way_by}
use Rattle.diversions.proofs.Tables.{table_without}
use Rattle.diversions.proofs.Turning.{goes_here}
use Rattle.diversions.proofs.writing.record_without.Goals as goal

pub returns-in_err-text_without-clause-turns : goal.returns-in_err-text_without-clause-turns
returns-in_err-text_without-clause-turns g c = goes_here _

pub returns-clause-done : goal.returns-clause-done
returns-clause-done g c = λ h.
    let b = c.carry_out.ensures.silent.honest h in
    let left = without c.args.path.now c.args.table.now in
    on_ok c.carry_out.result (λ replaced. recorded_by left _ _ _ (file_is left _ _ c.file_of-node.ensures (c.in_ok-text_without.ensures ∙ ap (λ (p : Path). table_text (without p c.args.table.now)) c.as_str.ensures)) (table_without c.args.path.now c.args.table.now c.law.ensures)
    (ready_moved c.args.way.moves c.args.way.brings c.args.route.now.from c.args.route.now.to _ c.law-2.ensures c.law-3.ensures (c.requires.ready b) (c.requires.can b)) replaced)
    (c.carry_out.ensures.done h)

pub returns-clause-any_moment : goal.returns-clause-any_moment
returns-clause-any_moment g c =
    let left = without c.args.path.now c.args.table.now in
    since_weaker_if _ _ _ _ (λ h so_far w is.
    let b = c.carry_out.ensures.silent.honest h in
    under_way_by c.args.way.moves c.args.route.now.from c.args.route.now.to left _ _ w (file_is left _ _ c.file_of-node.ensures (c.in_ok-text_without.ensures ∙ ap (λ (p : Path). table_text (without p c.args.table.now)) c.as_str.ensures)) (table_without c.args.path.now c.args.table.now c.law.ensures)
    (home_stays c.args.way.moves c.args.route.now.from c.args.route.now.to _ c.law-2.ensures c.law-3.ensures) (ready_moved c.args.way.moves c.args.way.brings c.args.route.now.from c.args.route.now.to _ c.law-2.ensures c.law-3.ensures (c.requires.ready b) (c.requires.can b)) (ready_doubled c.args.way.moves c.args.way.brings c.args.route.now.from c.args.route.now.to _ c.law-3.ensures (c.requires.ready b) (c.requires.can b)) is)
    c.carry_out.ensures.any_moment
