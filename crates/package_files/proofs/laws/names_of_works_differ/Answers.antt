use Rattle.package_files.proofs.WorkNames.{named_apart, named_differ, by_place, kept_names, other_misses}
use Rattle.package_files.proofs.laws.names_of_works_differ.Goals as goal

pub returns-clause-apart : goal.returns-clause-apart
returns-clause-apart c = named_apart

pub returns-clause-differ : goal.returns-clause-differ
returns-clause-differ c = named_differ

pub returns-clause-by_place : goal.returns-clause-by_place
returns-clause-by_place c = by_place

pub returns-clause-kept : goal.returns-clause-kept
returns-clause-kept c = kept_names

pub returns-clause-misses : goal.returns-clause-misses
returns-clause-misses c = other_misses
