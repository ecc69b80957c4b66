-- What is next: a removal, or none where it is nobody's turn.
use Rattle.std.specs.Prelude.{◌≡◌, ℕ, Bool, List, Option, Some, None}
use Rattle.dependency_check.specs.Waiting.{Waiting}
use Rattle.relation_index.specs.declared.package.Package.{Package}
use Rattle.status_records.specs.declared.record.Record.{Record}
use Rattle.removal_run.specs.Waiting.{IsQueueNow, name_at}
use Rattle.removal_run.specs.Whose.{IsNobodysTurn, IsWhoseTurn}
use Rattle.removal_run.specs.declared.waiting.Next.{Next}

-- the next package of a queue
pub record IsNextIn (ignore_depends : Bool) (q : Waiting) (n : Next) : Type 0 where
  pub next : IsWhoseTurn ignore_depends q n.number
  pub named : n.name ≡ name_at q.packages n.number

abbrev pub IsNext : Bool → Waiting → Option Next → Type 0
IsNext ignore_depends q None = IsNobodysTurn ignore_depends q
IsNext ignore_depends q (Some n) = IsNextIn ignore_depends q n

-- this is the queue at a moment, and it is nobody's turn
pub record IsNothing (ignore_depends : Bool) (packages : List Package) (now : List Record) (names : List (List ℕ)) (q : Waiting) : Type 0 where
  pub queue : IsQueueNow packages now names q
  pub nobody : IsNobodysTurn ignore_depends q
