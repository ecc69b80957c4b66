use Rattle.std.proofs.Common.{false, subst, sym, rules, List, []}
use Rattle.std.specs.BTreeSet.{contains_text}
use Rattle.std.specs.String.{string_bytes}
use Rattle.std.proofs.lemmas.Bool.{false≢true}
use Rattle.std.proofs.lemmas.Str.{IsUtf8-string_bytes}
use Rattle.std.proofs.lemmas.Map.Text.{btree_set_updates_text}
use Rattle.host_core.specs.Paths.{Path}
use Rattle.host_core.proofs.Moments.{reads_then}
use Rattle.package_tree.specs.Shipped.{AreInOrder, ArePathTexts}
use Rattle.package_tree.specs.Walk.{AreChildren, IsAmid, IsOrderly, Takes}
use Rattle.package_tree.proofs.Sets.{above_text, no_keys, nothing_left}
use Rattle.package_tree.proofs.Walks.{Took, amid_start, orderly_start, start_seen, start_bad, path_bad, path_fine, orderly_next, in_order_next, none_here, texts_next, all_done}
use Rattle.package_tree.proofs.walk.walk.Goals as goal

pub returns-then-branch-clause-found : goal.returns-then-branch-clause-found
returns-then-branch-clause-found g c = λ h.
    start_bad (g.H.Host.state c.args.host.now).world c.in_ok-root.root c.in_ok-look_into.field-0 (contains_text c.new-todo.result) (contains_text c.look_into.new.todo) c.in_ok-root.ensures c.if-branch.true (c.in_ok-look_into.ensures.found h)

pub loop-init : goal.loop-init
loop-init g c =
    let old = contains_text c.new-todo.result in
    let todo = contains_text c.look_into.new.todo in
    let none = no_keys c.new-todo.result c.new-todo.ensures.empty in
    let children : AreChildren [] old todo = subst (λ (p : Path). AreChildren p old todo) c.in_ok-root.ensures c.in_ok-look_into.ensures.children in
    record {
      amid = λ h.
          (let w = (g.H.Host.state c.args.host.now).world in
          let seen = start_seen w c.in_ok-root.root c.in_ok-look_into.field-0 old todo c.in_ok-root.ensures c.if-branch.false (c.in_ok-look_into.ensures.found h) in
          subst (λ (l : List Path). IsAmid w l todo) (sym c.requires) (amid_start w old todo (g.H.Host.tree c.args.host.now (c.look_into.ensures.silent.honest h)) none seen.0 seen.1 children));
      orderly = subst (λ (l : List Path). IsOrderly l todo) (sym c.requires) (orderly_start old todo none children);
      order = subst AreInOrder (sym c.requires) tt;
      texts = subst ArePathTexts (sym c.requires) (λ q here. absurd (none_here q here));
      reads = c.look_into.ensures.reads;
      silent = c.look_into.ensures.silent;
      counts = c.in_ok-look_into.ensures.counts;
    }

pub returns-in_default-clause-found : goal.returns-in_default-clause-found
returns-in_default-clause-found g c = λ h.
    all_done (g.H.Host.state c.args.host.now).world c.loop.found.items (contains_text c.loop.todo) (c.loop.invariant.amid h) c.loop.invariant.order
    (nothing_left c.loop.todo (λ some. false≢true (c.in_default.ensures.variant.1 some)))

pub returns-then-is_bad-clause-found : goal.returns-then-is_bad-clause-found
returns-then-is_bad-clause-found g c = λ h.
    let text = c.in-Some.text in
    let took : Took (string_bytes text) (contains_text c.loop.todo) (contains_text c.pop_first.new.self) = record {
      popped = c.in-Some.ensures.member;
      less = btree_set_updates_text (string_bytes text) c.loop.todo c.pop_first.new.self false c.in-Some.ensures.updates;
      above = above_text text c.pop_first.new.self c.in-Some.ensures.all_above;
    } in
    path_bad (g.H.Host.state c.args.host.now).world (g.H.Host.state c.loop.host).world c.loop.found.items c.new-path.result (string_bytes text) (contains_text c.loop.todo) (contains_text c.pop_first.new.self) (contains_text c.look.new.todo)
    c.in_ok-sight.sight c.is_bad.result c.loop.invariant.reads.world c.new-path.ensures (c.loop.invariant.amid (c.look.ensures.looks.silent.honest h)) took c.if-is_bad.true c.is_bad.ensures (c.in_ok-sight.ensures.looks.found h)

pub loop-preserved : goal.loop-preserved
loop-preserved g c =
    let text = c.in-Some.text in
    let path = string_bytes text in
    let todo = contains_text c.loop.todo in
    let rest = contains_text c.pop_first.new.self in
    let later = contains_text c.look.new.todo in
    let found = c.loop.found.items in
    let next = c.take.new.found.items in
    let sight = c.in_ok-sight.sight in
    let took : Took path todo rest = record {
      popped = c.in-Some.ensures.member;
      less = btree_set_updates_text path c.loop.todo c.pop_first.new.self false c.in-Some.ensures.updates;
      above = above_text text c.pop_first.new.self c.in-Some.ensures.all_above;
    } in
    let children : AreChildren path rest later = subst (λ (p : Path). AreChildren p rest later) c.new-path.ensures c.in_ok-sight.ensures.children in
    let takes : Takes found path sight next = subst (λ (p : Path). Takes found p sight next) c.new-path.ensures c.in_ok-take.ensures in
    record {
      amid = λ h.
          (let before = c.look.ensures.looks.silent.honest h in
          path_fine (g.H.Host.state c.args.host.now).world (g.H.Host.state c.loop.host).world found next c.new-path.result path todo rest later sight c.is_bad.result
          (g.H.Host.tree c.args.host.now (c.loop.invariant.silent.honest before)) c.loop.invariant.reads.world c.new-path.ensures (c.loop.invariant.amid before) c.loop.invariant.orderly took c.if-is_bad.false c.is_bad.ensures
          (c.in_ok-sight.ensures.looks.found h) c.in_ok-sight.ensures.children c.in_ok-take.ensures);
      orderly = orderly_next found next path todo rest later sight c.loop.invariant.orderly took children takes;
      texts = texts_next found next path sight c.loop.invariant.texts (IsUtf8-string_bytes text) (c.loop.invariant.orderly.paths path c.in-Some.ensures.member) takes;
      order = in_order_next found next path todo rest sight c.loop.invariant.orderly c.loop.invariant.order took takes;
      reads = reads_then _ _ _ c.loop.invariant.reads c.look.ensures.looks.reads;
      silent = search rules;
      counts = search rules;
    }
