use Rattle.std.proofs.Common.{◌≡◌, Some, arith, inr, subst, sym}
use Rattle.std.proofs.lemmas.Result.{IfErr-weaker, IfOk-weaker}
use Rattle.command_line.specs.Roots.{Around, IsUnbegun, around, held_anew}
use Rattle.unit_reports.specs.Held.{Held, held_by}
use Rattle.command_line.specs.Unpacks.{HasRunToEnd, triggering_for}
use Rattle.command_line.proofs.Trees.{ended_within, opened_anew}
use Rattle.command_line.proofs.unpacking.unpack_on.Goals as goal

pub returns-in-Ok-clause-done : goal.returns-in-Ok-clause-done
returns-in-Ok-clause-done g c =
    let old = c.args.hosts.now in
    let mid = c.run_to_end-ended.new.hosts in
    let new = c.close_root.new.self in
    let inner : Around = around g.S.Hosts old mid in
    let outer : Around = around g.S.Hosts old new in
    let session = c.in-Ok.session in
    let begun = g.S.Opened.Host.state session.host in
    let before = held_by session.administration session.diversions in
    let anew = held_anew session.administration.database.records session.administration.lists.lists session.diversions.ways in
    let same : before ≡ anew = opened_anew session.administration.database session.administration.lists session.diversions c.in-Ok.ensures.number (session.opened c.in-Ok.ensures.closed).noting in
    IfOk-weaker c.run_to_end-ended.result _ _ (λ ended done. record {
      table = session.administration.database.records;
      lists = session.administration.lists.lists;
      ways = session.diversions.ways;
      state = begun;
      opened = record {
        silent = c.in-Ok.ensures.silent;
        opens = c.in-Ok.ensures.opens;
        opening = c.in-Ok.ensures.any_moment;
        opened = c.in-Ok.ensures.opened;
        taken_up = c.in-Ok.ensures.taken_up;
      };
      end = g.S.Opened.Host.state c.into_host.result;
      given = c.close_root.ensures.given;
      ran = subst (λ host. HasRunToEnd outer c.args.options c.args.unpacking.now ended anew begun (g.S.Opened.Host.state host)) (sym c.into_host.ensures)
          (ended_within outer inner (record { tree = λ word s h. h; seen = c.close_root.ensures.seen; full = c.close_root.ensures.full; failed = λ h. omega arith }) c.args.options c.args.unpacking.now ended anew begun (g.S.Opened.Host.state c.run_to_end-ended.new.session.host)
          (subst (λ (h : Held). HasRunToEnd inner c.args.options c.args.unpacking.now ended h begun (g.S.Opened.Host.state c.run_to_end-ended.new.session.host)) same done));
    }) c.run_to_end-ended.ensures.done

pub returns-in-Ok-clause-refused : goal.returns-in-Ok-clause-refused
returns-in-Ok-clause-refused g c =
    let session = c.in-Ok.session in
    let begun = g.S.Opened.Host.state session.host in
    IfErr-weaker c.run_to_end-ended.result _ _ (λ fault unbegun. inr (record {
      state = begun;
      silent = c.in-Ok.ensures.silent;
      opens = c.in-Ok.ensures.opens;
      opening = c.in-Ok.ensures.any_moment;
      end = g.S.Opened.Host.state c.into_host.result;
      given = c.close_root.ensures.given;
      unbegun = subst (λ host. IsUnbegun (Some (triggering_for c.args.unpacking.now)) fault begun (g.S.Opened.Host.state host)) (sym c.into_host.ensures) unbegun;
    })) c.run_to_end-ended.ensures.unbegun
