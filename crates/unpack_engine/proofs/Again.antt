-- The table of diversions, read again in a unit: what is said of it of a part of the unit is said of the whole.
use Rattle.std.proofs.Common.{◌≡◌, ◌⊎◌, IsTrue, List, [], ◌∷◌, ◌++◌, Option, Some, None, inl, inr, refl, sym, ap, subst, ◌∙◌}
use Rattle.std.specs.Prelude.{Err, IfOk, Ok, Result}
use Rattle.diversions.specs.Ways.{Ways}
use Rattle.host_core.proofs.Moments.{since_reads, since_then}
use Rattle.host_core.proofs.Scripts.{calls_of-scripts}
use Rattle.host_core.specs.Events.{Ran, calls_of}
use Rattle.host_core.specs.Host.{Reads, Silent, State, calls}
use Rattle.host_core.specs.Loss.{IsLater}
use Rattle.held_administration.specs.declared.held.Administration.{Administration}
use Rattle.status_records.specs.declared.record.Record.{Record}
use Rattle.file_lists.specs.declared.paths.PackageList.{PackageList}
use Rattle.package_tree.specs.declared.package.Package.{Package}
use Rattle.unpack_plan.specs.Planned.{IsPlanned, Job, Planned}
use Rattle.unpack_engine.specs.Tables.{IsPlanWith}
use Rattle.unpack_engine.specs.Units.{IsPlanBy, IsReadAgain}

-- nothing was called between them
pub calls_silent : (a b : State) → Silent a b → calls b ≡ calls a
calls_silent a b silent = sym (calls_of-scripts b.events) ∙ ap calls_of silent.scripts ∙ calls_of-scripts a.events

pub later_then : (a b c : State) → IsLater a b → IsLater b c → IsLater a c
later_then a b c first second = since_then (λ so_far w. Unit {0}) a b c first second

pub later_reads : (a b : State) → Reads a b → IsLater a b
later_reads a b reads = since_reads (λ so_far w. Unit {0}) a b reads (λ es all. tt)

module _ (lists : List PackageList) (plan : Planned) (first late : Ways) (a b c : State) where
  pub read_longer : IsReadAgain lists plan first late a b → IsLater b c → IsReadAgain lists plan first late a c
  read_longer r later = record {
    before = r.before;
    files = r.files;
    parted = r.parted;
    m = r.m;
    since = r.since;
    until = later_then r.m b c r.until later;
    ran = r.ran;
    calls_are = r.calls_are;
    all = r.all;
    table = r.table;
    aliases = r.aliases;
  }

  pub either_longer : (late ≡ first) ⊎ IsReadAgain lists plan first late a b → IsLater b c → (late ≡ first) ⊎ IsReadAgain lists plan first late a c
  either_longer (inl same) later = inl same
  either_longer (inr again) later = inr (read_longer again later)

  pub read_earlier : Reads a b → Silent a b → IsReadAgain lists plan first late b c → IsReadAgain lists plan first late a c
  read_earlier reads silent r = record {
    before = r.before;
    files = r.files;
    parted = r.parted;
    m = r.m;
    since = later_then a b r.m (later_reads a b reads) r.since;
    until = r.until;
    ran = r.ran;
    calls_are = r.calls_are ∙ ap (λ (l : List Ran). l ++ r.ran) (calls_silent a b silent);
    all = r.all;
    table = r.table;
    aliases = r.aliases;
  }

-- of an answer something holds that doesn't go by it
pub if_ok_any : {T E : Type 0} (result : Result T E) (A : Type 0) → A → IfOk result (λ x. A)
if_ok_any (Ok x) A is = is
if_ok_any (Err e) A is = tt

-- a plan by the table that was read, of the same records and packages
pub planned_by : (records : List Record) (lists : List PackageList) (first late : Ways) (spare : Option Package) (plan other : Planned) (with_ : IsPlanWith records lists first spare plan)
    → IsPlanned (record with_.of.job { ways = late }) other → IsPlanBy records other
planned_by records lists first late spare plan other with_ planned = record {
  job = record with_.of.job { ways = late };
  records_are = with_.records_are;
  others = with_.others;
  planned = planned;
}
