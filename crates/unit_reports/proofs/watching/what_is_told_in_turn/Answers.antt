use Rattle.std.proofs.Common.{refl}
use Rattle.unit_reports.proofs.Telling.{none_added, one_added, told_added, told_more, told_one}
use Rattle.unit_reports.proofs.watching.what_is_told_in_turn.Goals as goal

pub returns-clause-none : goal.returns-clause-none
returns-clause-none c = λ start s w. refl

pub returns-clause-one : goal.returns-clause-one
returns-clause-one c = λ start s at old new u is told answered. told_one c.W.Watcher.tells s at old new u is told answered

pub returns-clause-more : goal.returns-clause-more
returns-clause-more c = λ start s at old mid new us vs first told answered second. told_more c.W.Watcher.tells s at old mid new us vs first told answered second

pub returns-clause-none_added : goal.returns-clause-none_added
returns-clause-none_added c = λ start s w us. none_added c.W.Watcher.tells s w us

pub returns-clause-one_added : goal.returns-clause-one_added
returns-clause-one_added c = λ start s at old new us u is told answered. one_added c.W.Watcher.tells s at old new us u is told answered

pub returns-clause-added : goal.returns-clause-added
returns-clause-added c = λ start s at old mid new first second third a told answered b. told_added c.W.Watcher.tells s at old mid new first second third a told answered b
