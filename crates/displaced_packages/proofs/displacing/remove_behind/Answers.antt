use Rattle.displaced_packages.proofs.displacing.remove_behind.Goals as goal

pub returns-in-Ok-displaced_with-clause-removed : goal.returns-in-Ok-displaced_with-clause-removed
returns-in-Ok-displaced_with-clause-removed g c = record {
  later = c.in-Ok.later;
  removed = c.in-Ok.ensures.removed;
  names_are = c.in-Ok-displaced_with.ensures.names;
  first = c.in-Ok-displaced_with.ensures.first;
}
