-- Where the rows begin.
use Rattle.std.proofs.Common.{◌≡◌, ℕ, ◌+◌, false, List, [], Option, Some, None, nat_le, length, refl, sym, subst, arith}
use Rattle.std.proofs.lemmas.List.{append-nil}
use Rattle.host_core.specs.Paths.{Path}
use Rattle.host_core.specs.Host.{State, Needs}
use Rattle.undo_rows.specs.Place.{Forward}
use Rattle.diversions.specs.Ways.{Ways}
use Rattle.file_lists.specs.Filed.{Filed}
use Rattle.package_files.specs.declared.work.Work.{Work}
use Rattle.status_db.specs.Recorded.{Recorded}
use Rattle.status_records.specs.declared.record.Record.{Record}
use Rattle.unpack_steps.specs.declared.plan.Rows.{Rows}
use Rattle.unpack_steps.specs.At.{At, IsBegun, holding}
use Rattle.unpack_steps.specs.Follows.{follows_none}
use Rattle.unpack_steps.specs.Clearing.{HasCleared, is_gone}
use Rattle.unpack_steps.specs.Task.{IsSound, name, task_of}

-- before any row nothing is gone
nothing_gone : (found : Option Record) (others : ℕ) → is_gone found others (Forward 0) ≡ false
nothing_gone None others = grind arith
nothing_gone (Some r) others = refl

pub at_begin : (s : State) (d : Recorded) (l : Filed) (ways : Ways) (places : List Path) (works : List Work) (plan : Rows) → IsSound (task_of s d l ways places works plan) → d.closed ≡ false → l.closed ≡ false
    → Needs s (IsBegun (task_of s d l ways places works plan) d) → At (task_of s d l ways places works plan) (holding d l places works) s (Forward 0)
at_begin s d l ways places works plan sound opened lists_open begun = record {
  sound = sound;
  falls = λ h. h;
  within = omega arith;
  records = refl;
  opened = opened;
  lists = refl;
  lists_open = lists_open;
  places = refl;
  works = refl;
  since = [];
  events = sym (append-nil s.events);
  ran = [];
  ended = refl;
  base = s.world;
  cleared = λ h. subst (λ gone. HasCleared gone (name (task_of s d l ways places works plan)) s.world s.world) (sym (nothing_gone plan.found (length plan.others.items))) refl;
  members = λ h. (begun h).members;
  world = λ h. record { kept = (begun h).kept; ready = (begun h).ready; came = follows_none places s.world };
}
