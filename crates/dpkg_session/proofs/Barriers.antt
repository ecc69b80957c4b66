-- A barrier behind what was done.
use Rattle.std.proofs.Common.{◌≡◌, List, [], ◌∷◌, ◌++◌, Option, Some, None, Result, inl, inr, length, sym, subst, ◌∙◌}
use Rattle.administration.specs.Fault.{fault_of}
use Rattle.administration.specs.declared.fault.AdministrationFault.{AdministrationFault}
use Rattle.undo_rows.specs.Telling.{Begun}
use Rattle.host_core.specs.Paths.{Path}
use Rattle.host_core.specs.World.{World, Barrier}
use Rattle.host_core.specs.Events.{Event, Ran, Did, scripts_of}
use Rattle.host_core.specs.Host.{State, Does, Falls, Happens, Needs, Silent, Since, WasDenied}
use Rattle.host_core.specs.Loss.{IsLater}
use Rattle.host_core.proofs.Moments.{since_barrier, since_then, silent_then}
use Rattle.host_core.specs.declared.fault.HostFault.{HostFault}
use Rattle.host_core.specs.declared.fault.HostFault.TheVariants.{Device, NoMemory, Declined}
use Rattle.undo_rows.specs.Transcripts.{Ended, MayRun}
use Rattle.diversions.specs.Ways.{Ways}
use Rattle.status_records.specs.declared.record.Record.{Record}
use Rattle.file_lists.specs.declared.paths.PackageList.{PackageList}
use Rattle.adopted_conffiles.specs.Adopting.{IsAdopting}
use Rattle.opening.specs.Parts.{IsDamaged, OpensAndMerges}
use Rattle.opening.specs.TakenUp.{IsOpeningOrAdopting, IsTakenUp, OpensAndAdopts, TakesUp}
use Rattle.undo_rows.specs.declared.unwinding.Unwinding.{Unwinding}
use Rattle.status_db.specs.Recorded.{Recorded}
use Rattle.held_administration.specs.Order.{IsInOrder}
use Rattle.host_core.proofs.Denials.{denied_first}
use Rattle.unpack_engine.proofs.Carrying.{left_wider}
use Rattle.unpack_engine.proofs.Quiet.{amid_unit_still}
use Rattle.unpack_engine.specs.Units.{as_begun, Given, GoesByTable, Ground, HasCalled, HasCalledRows, HasCarriedOut, HasFailedFor, HasLeft, HasLeftUnless, HasUnpacked, IsAmidEither, IsPlanFor, IsReadAgain, changes, commit_records, ground_of}
use Rattle.unpack_plan.specs.Planned.{Planned}
use Rattle.undo_rows.specs.declared.rows.Called.{Called}
use Rattle.undo_rows.specs.declared.rows.Row.{Row}
use Rattle.host_core.proofs.Barriers.{since_to_disk}
use Rattle.opening.specs.Stopped.{BeginsOnDisk}
use Rattle.opening.proofs.Brought.{begins_then}

-- the unit of a package, with a barrier behind it

plan_behind : (g : Given) (w : World) (m t : State) (plan : Planned) → Falls m t → IsPlanFor g w m.honest plan → IsPlanFor g w t.honest plan
plan_behind g w m t plan falls is = record { stored = is.stored; seen = λ h. is.seen (falls h); planned = is.planned }

carried_behind : (g : Ground) (p : Planned) (ended : Ended) (after : Recorded) (lists : List PackageList) (s m t : State) (told now : List Called) → HasCarriedOut g p ended after lists s m told now
    → Happens (Did Barrier ∷ []) m t → Silent m t → IsLater m t → HasCarriedOut g p ended after lists s t told now
carried_behind g p ended after lists s m t told now is goes silent later =
    let works = is.mid.works in
    let listed = is.mid.lists in
    let table = is.mid.database.records in
    record {
      mid = is.mid;
      last = is.last;
      ran = is.ran;
      since = silent_then is.last m t is.since silent;
      later = since_then _ is.last m t is.later later;
      leaves = λ h. subst (HasLeft (changes g p works listed) (commit_records g p works listed table) g.ways listed table (length p.others) ended is.last.world) (sym goes.world) (is.leaves (goes.honest h));
      stays = λ h. subst (HasLeftUnless (changes g p works listed) (commit_records g p works listed table) g.ways listed table (length p.others) (WasDenied is.last t) ended is.last.world) (sym goes.world)
          (left_wider (changes g p works listed) (commit_records g p works listed table) g.ways listed table (length p.others) (WasDenied is.last m) (WasDenied is.last t) (λ q denied. denied_first is.last m t q denied later) ended is.last.world m.world (is.stays (goes.honest h)));
      records = is.records;
      lists_are = is.lists_are;
    }

pub unpacked_to_disk : (g : Given) (places : List Path) (ended : Ended) (after : Recorded) (lists : List PackageList) (s m t : State) (told now : List Called) → HasUnpacked g places ended after lists s m told now
    → Happens (Did Barrier ∷ []) m t → Silent m t → IsLater m t → HasUnpacked g places ended after lists s t told now
unpacked_to_disk g places ended after lists s m t told now is goes silent later = record {
  plan = is.plan;
  plan_for = plan_behind g s.world m t is.plan goes.honest is.plan_for;
  carried_out = carried_behind (ground_of g places) is.plan ended after lists s m t told now is.carried_out goes silent later;
}

pub failed_behind : (g : Given) (s m t : State) (u : Option Unwinding) → HasFailedFor g s m u → Silent m t → HasFailedFor g s t u
failed_behind g s m t u failed behind = record { plan = failed.plan; plan_for = plan_behind g s.world m t failed.plan behind.honest failed.plan_for; cause = failed.cause }

again_behind : (lists : List PackageList) (plan : Planned) (first late : Ways) (s m t : State) → IsReadAgain lists plan first late s m → IsLater m t → IsReadAgain lists plan first late s t
again_behind lists plan first late s m t is later = record {
  before = is.before;
  files = is.files;
  parted = is.parted;
  m = is.m;
  since = is.since;
  until = since_then (λ so_far w. Unit {0}) is.m m t is.until later;
  ran = is.ran;
  calls_are = is.calls_are;
  all = is.all;
  table = is.table;
  aliases = is.aliases;
}

pub goes_behind : (g : Given) (u : Option Unwinding) (s m t : State) → GoesByTable g u s m → Silent m t → IsLater m t → GoesByTable g u s t
goes_behind g u s m t goes behind later = record {
  either = elim goes.either [
    | inl same ↦ inl same
    | inr (plan, is, again) ↦ inr (plan, plan_behind (as_begun g) s.world m t plan behind.honest is, again_behind g.lists plan g.begun g.ways s m t again later)
  ];
  again = λ none has. (let (plan, is, again) = goes.again none has in (plan, plan_behind (as_begun g) s.world m t plan behind.honest is, again_behind g.lists plan g.begun g.ways s m t again later));
}

-- nothing is called at a barrier
pub either_still : (first late : Given) (places : List Path) (old : World) (x quiet : List Event) (w : World) → scripts_of quiet ≡ [] → IsAmidEither first late places old x w → IsAmidEither first late places old (x ++ quiet) w
either_still first late places old x quiet w none (inl amid) = inl (amid_unit_still first places old x quiet w none amid)
either_still first late places old x quiet w none (inr amid) = inr (amid_unit_still late places old x quiet w none amid)

begun_behind : (P : List Ran → Type 0) (s m t : State) (told now : List Called) → Begun P s m told now → Silent m t → Begun P s t told now
begun_behind P s m t told now begun behind = record {
  ts = begun.ts;
  more = begun.more;
  first_of = begun.first_of;
  honest = λ h. begun.honest (behind.honest h);
  cut = begun.cut;
  scripts = behind.scripts ∙ begun.scripts;
  cut_short = begun.cut_short;
  tells = begun.tells;
}

rows_behind : (rows : List Row) (s m t : State) (told now : List Called) → HasCalledRows rows s m told now → Silent m t → HasCalledRows rows s t told now
rows_behind rows s m t told now (HasCalledRows.nothing silent same) behind = HasCalledRows.nothing (silent_then s m t silent behind) same
rows_behind rows s m t told now (HasCalledRows.some begun) behind = HasCalledRows.some (begun_behind (MayRun rows) s m t told now begun behind)

pub called_behind : (g : Given) (s m t : State) (told now : List Called) → HasCalled g s m told now → Silent m t → HasCalled g s t told now
called_behind g s m t told now (HasCalled.unplanned silent same) behind = HasCalled.unplanned (silent_then s m t silent behind) same
called_behind g s m t told now (HasCalled.planned plan is rows) behind = HasCalled.planned plan (plan_behind g s.world m t plan behind.honest is) (rows_behind plan.rows s m t told now rows behind)

pub order_behind : (d : Recorded) (lists : List PackageList) (m t : State) → Happens (Did Barrier ∷ []) m t → Needs m (IsInOrder d lists) → Needs t (IsInOrder d lists)
order_behind d lists m t goes order = λ h. subst (IsInOrder d lists) (sym goes.world) (order (goes.honest h))

-- an opening

pub opening_to_disk : (result : Result Unit HostFault) (a b c : State) → Since (λ so_far. IsOpeningOrAdopting a.world) a b → Does Barrier b c result → Since (λ so_far. IsOpeningOrAdopting a.world) a c
opening_to_disk result a b c first does = since_to_disk (λ so_far. IsOpeningOrAdopting a.world) result a b c (λ x quiet w none is. is) first does

-- what a stopped command has left was on the disk first, and then came a barrier
pub brought_behind : (result : Result Unit HostFault) (a b c : State) → BeginsOnDisk a b → Does Barrier b c result → BeginsOnDisk a c
brought_behind result a b c begins does = begins_then a b c begins (since_barrier (λ w. Unit {0}) result b c does (λ h. tt))

-- where the barrier failed it is refused for that, and all else stands
pub opens_stopped : (fault : HostFault) (given : AdministrationFault) (old now later : World) → given ≡ fault_of fault → later ≡ now → OpensAndAdopts None old now → OpensAndAdopts (Some given) old later
opens_stopped fault given old now later is same all = by all.found all.opens all.takes
  where
    sound : (f : HostFault) → IsDamaged (Some (fault_of f)) → ⊥
    sound Device damaged = damaged
    sound NoMemory damaged = damaged
    sound Declined damaged = damaged

    by : (found : Option AdministrationFault) → OpensAndMerges found old all.read → TakesUp found None all.read now → OpensAndAdopts (Some given) old later
    by None opens (inl refused) = absurd refused
    by None opens (inr takes) = record {
      read = all.read;
      found = None;
      opens = opens;
      takes = inr (record {
        sound = λ damaged. sound fault (subst (λ f. IsDamaged (Some f)) is damaged);
        ways = takes.ways;
        table = takes.table;
        records = takes.records;
        one = takes.one;
        adopting = subst (IsAdopting takes.ways takes.table all.read) (sym same) takes.adopting;
      });
    }
    by (Some f) opens takes = absurd (let e : None ≡ Some f = takes.0 in cc)

-- what was taken up is so behind a barrier
pub taken_behind : (table : List Record) (lists : List PackageList) (ways : Ways) (old now later : World) → later ≡ now → IsTakenUp table lists ways old now → IsTakenUp table lists ways old later
taken_behind table lists ways old now later same is = subst (IsTakenUp table lists ways old) (sym same) is
