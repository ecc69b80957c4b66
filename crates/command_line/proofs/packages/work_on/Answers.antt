use Rattle.std.proofs.Common.{◌≡◌, inr, subst, sym}
use Rattle.std.proofs.lemmas.Result.{IfErr-weaker, IfOk-weaker}
use Rattle.command_line.specs.Packages.{HasWorkedToEnd, triggering_of}
use Rattle.command_line.specs.Roots.{IsUnbegun, held_anew}
use Rattle.unit_reports.specs.Held.{Held, held_by}
use Rattle.command_line.proofs.Trees.{opened_anew}
use Rattle.command_line.proofs.packages.work_on.Goals as goal

pub returns-in-Ok-clause-done : goal.returns-in-Ok-clause-done
returns-in-Ok-clause-done g c =
    let session = c.in-Ok.session in
    let asked = c.args.asked.now in
    let process = c.args.process in
    let begun = g.S.Opened.Host.state session.host in
    let before = held_by session.administration session.diversions in
    let anew = held_anew session.administration.database.records session.administration.lists.lists session.diversions.ways in
    let same : before ≡ anew = opened_anew session.administration.database session.administration.lists session.diversions c.in-Ok.ensures.number (session.opened c.in-Ok.ensures.closed).noting in
    IfOk-weaker c.work_to_end-ended.result _ _ (λ ended done. record {
      table = session.administration.database.records;
      lists = session.administration.lists.lists;
      ways = session.diversions.ways;
      state = begun;
      opened = record {
        silent = c.in-Ok.ensures.silent;
        opens = c.in-Ok.ensures.opens;
        opening = c.in-Ok.ensures.any_moment;
        opened = c.in-Ok.ensures.opened;
        taken_up = c.in-Ok.ensures.taken_up;
      };
      end = g.S.Opened.Host.state c.into_host.result;
      given = c.close_root.ensures.given;
      worked = subst (λ host. HasWorkedToEnd asked process ended anew begun (g.S.Opened.Host.state host)) (sym c.into_host.ensures)
          (subst (λ (h : Held). HasWorkedToEnd asked process ended h begun (g.S.Opened.Host.state c.work_to_end-ended.new.session.host)) same done);
    }) c.work_to_end-ended.ensures.done

pub returns-in-Ok-clause-refused : goal.returns-in-Ok-clause-refused
returns-in-Ok-clause-refused g c =
    let session = c.in-Ok.session in
    let begun = g.S.Opened.Host.state session.host in
    IfErr-weaker c.work_to_end-ended.result _ _ (λ fault unbegun. inr (record {
      state = begun;
      silent = c.in-Ok.ensures.silent;
      opens = c.in-Ok.ensures.opens;
      opening = c.in-Ok.ensures.any_moment;
      end = g.S.Opened.Host.state c.into_host.result;
      given = c.close_root.ensures.given;
      unbegun = subst (λ host. IsUnbegun (triggering_of c.args.asked.now c.args.process) fault begun (g.S.Opened.Host.state host)) (sym c.into_host.ensures) unbegun;
    })) c.work_to_end-ended.ensures.unbegun
