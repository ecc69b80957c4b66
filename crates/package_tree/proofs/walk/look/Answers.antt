use Rattle.std.proofs.Common.{rules, ◌∙◌, ap}
use Rattle.std.specs.BTreeSet.{contains_text}
use Rattle.host_core.specs.Paths.{has_room, is_below_administration}
use Rattle.host_core.proofs.Moments.{reads_then}
use Rattle.package_tree.proofs.Walks.{looked_shut, looked_open, looked_left_out}
use Rattle.package_tree.proofs.walk.look.Goals as goal

pub returns-then-not-is_directory-clause-looks : goal.returns-then-not-is_directory-clause-looks
returns-then-not-is_directory-clause-looks g c = record {
  found = λ h.
      looked_shut (g.H.Host.state c.args.host.now).world c.args.path.now _ _ _ (contains_text c.args.todo.now) (g.H.Host.tree c.args.host.now (c.kind.ensures.silent.honest h))
      (c.has_room.ensures ∙ ap has_room c.as_str.ensures) c.if-not-has_room.false (c.in_ok-kind.ensures.found h) c.is_directory.ensures.1 c.if-not-is_directory.true;
  reads = search (rules, reads_then);
  silent = search rules;
  counts = search rules;
}

pub returns-then-is_below_administration-clause-looks : goal.returns-then-is_below_administration-clause-looks
returns-then-is_below_administration-clause-looks g c = record {
  found = λ h.
      looked_left_out (g.H.Host.state c.kind.new.self).world (g.H.Host.state c.args.host.now).world c.args.path.now c.has_room.result c.in_ok-look_into.field-0 c.is_below_administration.result c.is_directory.result c.in_ok-kind.field-0
      (contains_text c.args.todo.now) (contains_text c.look_into.new.todo) c.kind.ensures.reads.world (c.has_room.ensures ∙ ap has_room c.as_str.ensures) c.if-not-has_room.false c.if-branch.false (c.in_ok-look_into.ensures.found h)
      (c.is_below_administration.ensures ∙ ap is_below_administration c.as_str-2.ensures) c.if-is_below_administration.true (c.in_ok-kind.ensures.found (c.look_into.ensures.silent.honest h)) c.is_directory.ensures.0 c.if-not-is_directory.false;
  reads = search (rules, reads_then);
  silent = search rules;
  counts = search rules;
}

pub returns-clause-looks : goal.returns-clause-looks
returns-clause-looks g c = record {
  found = λ h.
      looked_open (g.H.Host.state c.kind.new.self).world (g.H.Host.state c.args.host.now).world c.args.path.now c.has_room.result c.in_ok-look_into.field-0 c.is_below_administration.result
      (contains_text c.args.todo.now) (contains_text c.look_into.new.todo) c.kind.ensures.reads.world (c.has_room.ensures ∙ ap has_room c.as_str.ensures) c.if-not-has_room.false c.if-branch.false (c.in_ok-look_into.ensures.found h)
      (c.is_below_administration.ensures ∙ ap is_below_administration c.as_str-2.ensures) c.if-is_below_administration.false;
  reads = search (rules, reads_then);
  silent = search rules;
  counts = search rules;
}

pub returns-then-branch-clause-looks : goal.returns-then-branch-clause-looks
returns-then-branch-clause-looks g c = record {
  found = search rules;
  reads = search (rules, reads_then);
  silent = search rules;
  counts = search rules;
}
