-- What is kept of the configurable and the removable set between two results.
use Rattle.std.specs.Prelude.{◌≡◌, ℕ, ◌<◌, Bool, true, false, List, [], length, slice_set}
use Rattle.dependency_sets.specs.Largest.{Within}
use Rattle.dependency_sets.specs.Meets.{HasAllMet}
use Rattle.dependency_sets.specs.Removal.{AreReliances}
use Rattle.dependency_sets.specs.Sets.{has, but}
use Rattle.dependency_sets.specs.Striking.{Struck, IsAnswered}
use Rattle.dependency_sets.specs.declared.clause.Clause.{Clause}

-- the clauses of all packages, and which of these are installed and which wait now
pub record Queue : Type 0 where
  pub clauses : List Clause
  pub installed : List Bool
  pub waiting : List Bool

-- one was configured: it is installed, and waits no longer
abbrev pub has_configured : ℕ → Queue → Queue
has_configured x q = record { clauses = q.clauses; installed = slice_set q.installed x true; waiting = slice_set q.waiting x false }

-- one was refused or failed
abbrev pub waits_no_longer : ℕ → Queue → Queue
waits_no_longer x q = record { clauses = q.clauses; installed = q.installed; waiting = slice_set q.waiting x false }

-- one was removed: it isn't installed, and waits no longer
abbrev pub has_removed : ℕ → Queue → Queue
has_removed x q = record { clauses = q.clauses; installed = slice_set q.installed x false; waiting = slice_set q.waiting x false }

-- the members are the configurable set, and nothing is left to look at
pub record IsKept (clauses : List Clause) (supply waiting : ℕ → Bool) (members : List Bool) (pending gone : List ℕ) (rows : List (List ℕ)) : Type 0 where
  pub struck : Struck clauses supply waiting members gone
  pub answered : (j : ℕ) → j < length clauses → IsAnswered clauses supply members [] j
  pub settled : pending ≡ []
  pub gone_len : length gone ≡ length clauses
  pub met : HasAllMet clauses (length members) rows

-- who goes only with whom when nothing was gone; since then some that waited are gone, and the others wait
pub record IsLeaving (clauses : List Clause) (installed waiting : ℕ → Bool) (list : List Clause) (gone left : ℕ → Bool) : Type 0 where
  pub reliances : AreReliances clauses installed waiting list
  pub from : Within gone waiting
  pub left_is : (x : ℕ) → left x ≡ but waiting gone x

-- what is installed now is what was at first without those that are gone
pub record IsLeavingNow (clauses : List Clause) (installed : List Bool) (kept : Queue) : Type 0 where
  pub at_first : ℕ → Bool
  pub waited : ℕ → Bool
  pub leaving : IsLeaving clauses at_first waited kept.clauses (has kept.installed) (has kept.waiting)
  pub now_is : (x : ℕ) → has installed x ≡ but at_first (has kept.installed) x
  pub room : length kept.installed ≡ length installed
