use Rattle.std.proofs.Common.{false, subst, rules, List, ℕ}
use Rattle.std.specs.BTreeSet.{contains_text}
use Rattle.std.specs.String.{string_bytes}
use Rattle.std.proofs.lemmas.Map.Text.{btree_set_updates_text}
use Rattle.host_core.proofs.Moments.{reads_then}
use Rattle.host_core.specs.World.{World}
use Rattle.package_tree.specs.OtherFiles.{control_member, HasTakenOther}
use Rattle.package_tree.proofs.Sets.{above_text}
use Rattle.package_tree.proofs.Drawn.{IsTaken}
use Rattle.package_tree.proofs.OthersTaken.{other_drawn, other_nodes, other_kept}
use Rattle.package_tree.proofs.others.add_all.Goals as goal

pub loop-text-preserved : goal.loop-text-preserved
loop-text-preserved g c =
    let w = (g.H.Host.state c.args.host.now).world in
    let v = (g.H.Host.state c.loop-text.host).world in
    let so_far = c.loop-text.invariant in
    let key = string_bytes c.in-Some.text in
    let all = contains_text c.args.names in
    let left = contains_text c.loop-text.left in
    let rest = contains_text c.pop_first.new.self in
    let old = c.loop-text.others.items in
    let new = c.add.new.others.items in
    let taken : IsTaken key left rest = record {
      here = c.in-Some.ensures.member;
      fewer = btree_set_updates_text key c.loop-text.left c.pop_first.new.self false c.in-Some.ensures.updates;
      above = above_text c.in-Some.text c.pop_first.new.self c.in-Some.ensures.all_above;
    } in
    record {
      drawn = other_drawn all left rest old new key c.in_ok-add.ensures.some.0 so_far.drawn taken (subst (λ (n : List ℕ). HasTakenOther n c.in_ok-add.ensures.some.0 old new) c.new.ensures c.in_ok-add.ensures.some.1);
      nodes = λ h.
          (let here = subst (λ (x : World). HasTakenOther key (x (control_member key)) old new) so_far.reads.world (subst (λ (n : List ℕ). HasTakenOther n (v (control_member n)) old new) c.new.ensures (c.in_ok-add.ensures.taken h)) in
          other_nodes w old new key (so_far.nodes (c.add.ensures.silent.honest h)) here);
      kept = λ h.
          (let here = subst (λ (x : World). HasTakenOther key (x (control_member key)) old new) so_far.reads.world (subst (λ (n : List ℕ). HasTakenOther n (v (control_member n)) old new) c.new.ensures (c.in_ok-add.ensures.taken h)) in
          other_kept w all left rest old new key (so_far.kept (c.add.ensures.silent.honest h)) taken here);
      reads = reads_then _ _ _ so_far.reads c.add.ensures.reads;
      silent = search rules;
      counts = search rules;
    }
