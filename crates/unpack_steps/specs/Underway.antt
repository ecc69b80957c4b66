-- The rows of an unpack that run in parts.
use Rattle.std.specs.Prelude.{List}
use Rattle.host_core.specs.Host.{State}
use Rattle.diversions.specs.Ways.{Ways}
use Rattle.package_files.specs.declared.work.Work.{Work}
use Rattle.unpack_steps.specs.At.{Holding}
use Rattle.unpack_steps.specs.Task.{Task, task_by}
use Rattle.unpack_steps.specs.declared.plan.Rows.{Rows}
use Rattle.unpack_steps.specs.declared.underway.Underway.{Underway}

-- since they began: the task with these places of the shipped paths
abbrev pub task_since : {H : Type 0} → (H → State) → Underway H → Ways → List Work → Rows → Task
task_since state u ways works rows = task_by (state u.start.host.value) u.start.administration.value ways works rows

-- the task with these diversions and these places in place of its own
abbrev pub with_places : Ways → List Work → Task → Task
with_places ways works t = record t { ways = ways; works = works }

abbrev pub holding_works : List Work → Holding → Holding
holding_works works g = record g { works = works }
