use Rattle.std.proofs.Common.{◌≡◌, ℕ, List, Some, Contains, IsTrue, take}
use Rattle.host_core.specs.Host.{Since, Silent, NoFault}
use Rattle.administration.specs.Places.{list_path}
use Rattle.file_lists.specs.Index.{IsIndexed}
use Rattle.file_lists.specs.Owners.{paths_of}
use Rattle.file_lists.specs.Taking.{without_all, left_file, IsTaking}
use Rattle.file_lists.specs.Writing.{left_paths}
use Rattle.file_lists.proofs.taking.take_all.Given as goal

abbrev pub invariant-loop-name : goal.invariant-loop-name
invariant-loop-name g l = record {
  silent : Silent (g.H.Host.state l.fn.host) (g.H.Host.state l.host);
  counts : NoFault (g.H.Host.state l.fn.host) (g.H.Host.state l.host);
  since : Since (λ so_far. IsTaking l.diversions.ways l.places l.from l.fn.table (g.H.Host.state l.fn.host).world) (g.H.Host.state l.fn.host) (g.H.Host.state l.host);
  taken : IsTrue (g.H.Host.state l.host).honest → (name : List ℕ) → Contains (take l.name-index l.from) name → (g.H.Host.state l.host).world (list_path name) ≡ Some (left_file l.diversions.ways l.places l.fn.table name);
  table : l.table ≡ without_all l.diversions.ways l.places (take l.name-index l.from) l.fn.table;
  indexed : IsIndexed l.index l.table;
  lefts : (name : List ℕ) → left_paths l.diversions.ways l.places name (paths_of l.table name) ≡ left_paths l.diversions.ways l.places name (paths_of l.fn.table name);
}
