use Rattle.std.proofs.Common.{List, ℕ, [], refl, subst, ◌∙◌, sym}
use Rattle.std.specs.Vec.Iter.{into_iter_items}
use Rattle.dpkg_session.specs.Run.{HasRunThrough}
use Rattle.unit_reports.specs.Held.{held_by}
use Rattle.unpack_relations.specs.declared.options.UnpackOptions.{UnpackOptions}
use Rattle.command_line.specs.Reading.{AreReadFor}
use Rattle.command_line.specs.Roots.{Around, around}
use Rattle.command_line.proofs.Steps.{reads_keep}
use Rattle.command_line.proofs.Trees.{gone_on, read_for}
use Rattle.command_line.proofs.unpacking.run_session.Goals as goal

pub returns-clause-same_hosts : goal.returns-clause-same_hosts
returns-clause-same_hosts g c =
    let run = c.run.ensures.run c.requires.open in
    reads_keep _ (λ t. t.hosts.ghost_name) (λ s t x h. h.0) run.0 c.args.trees.now c.run.new.trees run.1

pub returns-clause-done : goal.returns-clause-done
returns-clause-done g c =
    let run = c.run.ensures.run c.requires.open in
    let old = c.args.trees.now in
    let new = c.run.new.trees in
    let a : Around = around g.S.Hosts old.hosts.now new.hosts.now in
    record {
      candidates = run.0;
      left = into_iter_items new.left.now;
      read = subst (λ (words : List (List ℕ)). AreReadFor a old.asked.now.owners [] words run.0 (into_iter_items new.left.now)) c.requires.unread
          (read_for _ g.S.Hosts (λ t. t.hosts.now) (λ t. into_iter_items t.left.now) (λ t. t.asked.now) (λ t. t.words.now) (λ s x t h. (h.1, h.2, h.3, h.4, h.5)) old.asked.now [] run.0 old new refl (c.requires.all ∙ sym c.requires.unread) run.1);
      all = record { run = subst (λ (o : UnpackOptions). HasRunThrough o run.0 (into_iter_items new.left.now) c.run.result (held_by c.args.session.now.administration c.args.session.now.diversions) (held_by c.run.new.self.administration c.run.new.self.diversions) (g.S.Opened.Host.state c.args.session.now.host) (g.S.Opened.Host.state c.run.new.self.host)) c.allowed_of-allowed.ensures run.2; counts = c.run.ensures.counts c.requires.open; told = c.run.ensures.told };
    }

pub returns-clause-on : goal.returns-clause-on
returns-clause-on g c =
    let run = c.run.ensures.run c.requires.open in
    gone_on _ g.S.Hosts (λ t. t.hosts.now) (λ t. into_iter_items t.left.now) (λ t. t.asked.now) (λ t. t.words.now) (λ s x t h. (h.1, h.2, h.3, h.4, h.5)) run.0 c.args.trees.now c.run.new.trees run.1

pub returns-clause-watched : goal.returns-clause-watched
returns-clause-watched g c = (g.S.Opened.Host.state c.args.session.now.host, c.run.ensures.watched)
