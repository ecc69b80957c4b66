-- An unpack while its rows run: what stays the same, and what it holds.
use Rattle.host_core.specs.declared.host.Host.{Ghosts}
use Rattle.unpack_steps.specs.At.{Holding, holding_by}
use Rattle.unpack_steps.specs.Task.{Task, task_by}
use Rattle.unpack_steps.specs.declared.unpacking.Unpacking.{Unpacking}

module _ {H : Type 0} {host : Ghosts H} (u : Unpacking H host) where
  -- its rows as they began
  abbrev pub task_in : Task
  task_in = task_by (host.state u.start.now.host.value) u.start.now.administration.value u.diversions.now.ways u.shipped.now.value.items u.rows.now

  abbrev pub held_in : Holding
  held_in = holding_by u.administration.now u.works.now.items
