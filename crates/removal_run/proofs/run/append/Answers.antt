use Rattle.std.proofs.Common.{◌≡◌, [], List, sym, subst}
use Rattle.std.specs.List.{AllByRecursion}
use Rattle.unit_reports.specs.Units.{IsRefusal, calls_of}
use Rattle.unit_reports.specs.declared.report.Unit.{Unit as AUnit}
use Rattle.removal_run.proofs.run.append.Goals as goal

pub tell_all-requires : goal.tell_all-requires
tell_all-requires g c = record {
  quiet = subst (λ (us : List AUnit). calls_of us ≡ []) (sym c.as_slice.ensures.value) c.requires.quiet;
  refused = subst (AllByRecursion (λ (u : AUnit). IsRefusal u.reply)) (sym c.as_slice.ensures.value) c.requires.refused;
}
