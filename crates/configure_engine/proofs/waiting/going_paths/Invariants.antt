use Rattle.std.proofs.Common.{◌≡◌, map, filter, take}
use Rattle.status_records.specs.declared.entries.ConffileEntry.{ConffileEntry}
use Rattle.configure_engine.specs.Waiting.{goes}
use Rattle.configure_engine.proofs.waiting.going_paths.Given as goal

abbrev pub invariant-loop-conffile : goal.invariant-loop-conffile
invariant-loop-conffile l = l.paths.items ≡ map (λ (e : ConffileEntry). e.path) (filter (goes l.entry.pending) (take l.conffile-index l.entry.conffiles))
