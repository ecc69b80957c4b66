use Rattle.std.proofs.Common.{◌≡◌, ◌++◌, ◌∙◌, ◌∷◌, [], List, ap, append_assoc, sym}
use Rattle.std.specs.Prelude.{is_some}
use Rattle.dpkg_session.specs.declared.installing.Installed.{Installed}
use Rattle.command_line.specs.Printing.{last_of_round, last_of_rounds}
use Rattle.command_line.specs.Roots.{around}
use Rattle.command_line.proofs.Rounds.{last_behind, one_then}
use Rattle.command_line.proofs.Trees.{within_first, within_rest}
use Rattle.command_line.proofs.installing.+run_rounds.Goals as goal

pub returns-clause-done : goal.returns-clause-done
returns-clause-done g t c =
    let next = c.run_next-over.ensures.next c.if-over.false in
    let others = c.run_rounds.ensures.done in
    let old = c.args.hosts.now in
    let mid = c.run_next-over.new.hosts in
    let new = c.run_rounds.new.hosts in
    let came = next.0 in
    let more = others.0 in
    let round = next.2 in (
      came ∷ more,
      others.1 ∙ ap (λ (l : List Installed). l ++ more) next.1 ∙ append_assoc c.args.reports.now.items (came ∷ []) more,
      one_then _ _ round.0 _ round.1 (around g.S.Hosts old new) (around g.S.Hosts old mid) (around g.S.Hosts mid new) (within_first g.S.Hosts old mid new c.run_rounds.ensures.on) (within_rest g.S.Hosts old mid new c.run_next-over.ensures.on)
          _ _ _ _ came more _ _ _ _ _ _ round.2 round.3 next.3 others.2,
      others.3 ∙ ap is_some (sym (last_behind (last_of_round came) (last_of_rounds more) next.3)),
      (c.run_next-over.new.watcher, next.4, others.4),
    )
