use Rattle.std.proofs.Common.{◌≡◌, drop, length, suc}
use Rattle.name_patterns.specs.Patterns.{matches, matches_behind}
use Rattle.name_patterns.proofs.Marked.{any_marked}
use Rattle.name_patterns.proofs.patterns.matches.Given as goal

abbrev pub invariant-loop-sign : goal.invariant-loop-sign
invariant-loop-sign l = record {
  each : length l.marks.items ≡ suc (length l.text);
  so_far : any_marked (matches_behind l.quoted (drop l.sign-index l.pattern)) l.marks.items l.text ≡ matches l.pattern l.text;
}
