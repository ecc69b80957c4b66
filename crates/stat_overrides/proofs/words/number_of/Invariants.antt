use Rattle.std.proofs.Common.{◌≡◌, ◌≤◌, drop}
use Rattle.stat_overrides.specs.Words.{number_from}
use Rattle.stat_overrides.proofs.words.number_of.Given as goal

abbrev pub invariant-loop-digit : goal.invariant-loop-digit
invariant-loop-digit l = record {
  so_far : number_from l.base l.limit l.value (drop l.digit-index l.digits) ≡ number_from l.base l.limit 0 l.digits;
  within : l.value ≤ l.limit;
}
