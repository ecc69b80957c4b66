-- Unpacks as turns of a run: the next tree is read, and its package is unpacked.
use Rattle.std.specs.Prelude.{◌≡◌, ℕ, List, [], ◌∷◌, ◌++◌}
use Rattle.host_core.specs.Events.{Event}
use Rattle.host_core.specs.Host.{State, AtEachMomentOf}
use Rattle.host_core.specs.World.{World}
use Rattle.unit_reports.specs.Held.{Held}
use Rattle.unit_reports.specs.declared.report.Unit.{Unit as AUnit}
use Rattle.diversions.specs.Diverted.{Diverted}
use Rattle.dpkg_session.specs.Growth.{StaysWritable}
use Rattle.unpack_relations.specs.declared.options.UnpackOptions.{UnpackOptions}
use Rattle.dpkg_session.specs.Installs.{label_of}
use Rattle.dpkg_session.specs.Run.{IsAmidUnitOf, RunsUnit}
use Rattle.dpkg_session.specs.Units.{IsBrokenOff}
use Rattle.dpkg_session.specs.declared.report.Candidate.{Candidate}

-- the trees that are still to be read, the labels of those that were unpacked, the diversions, and the names by which these are lent
pub record Unread (T : Type 0) : Type 0 where
  pub trees : T
  pub labels : List (List ℕ)
  pub diverted : Diverted
  pub lent : ℕ × ℕ × ℕ

abbrev pub unread : {T : Type 0} → T → List (List ℕ) → Diverted → ℕ × ℕ × ℕ → Unread T
unread trees labels diverted lent = record { trees = trees; labels = labels; diverted = diverted; lent = lent }

-- what is lent stays the same, and the table can be changed if it could before
pub record StaysLent {T : Type 0} (left later : Unread T) : Type 0 where
  pub lent : later.lent ≡ left.lent
  pub writable : StaysWritable left.diverted later.diverted

-- all trees were read, and nothing has changed since then
abbrev pub AreAllRead : {T : Type 0} → (T → List (List ℕ)) → Unread T → Unread T → Type 0
AreAllRead words now left = (words left.trees ≡ []) × (now ≡ left)

-- by these words of the trees, and by what it is to read the next one
module _ {T : Type 0} (words : T → List (List ℕ)) (reads : T → Candidate → T → Type 0) (allowed : UnpackOptions) (left : Unread T) where
  -- The next tree was read.
  pub record ReadsTree (later : Unread T) (c : Candidate) : Type 0 where
    pub read : reads left.trees c later.trees
    pub word : words left.trees ≡ c.label ∷ words later.trees

  -- Its unit was done, and its label is behind those of the others.
  pub record UnpacksTree (before : Held) (u : AUnit) (later : Unread T) (after : Held) (s t : State) : Type 0 where
    pub c : Candidate
    pub read : ReadsTree later c
    pub labelled : later.labels ≡ left.labels ++ label_of c ∷ []
    pub runs : RunsUnit allowed c before after u s t

  -- Its unit was broken off.
  pub record BreaksTree (later : Unread T) (before : Held) (s t : State) (u : AUnit) : Type 0 where
    pub c : Candidate
    pub read : ReadsTree later c
    pub broken : IsBrokenOff allowed c before u s t
    pub moments : AtEachMomentOf (IsAmidUnitOf allowed c.tree before) s t

  -- its unit is under way
  abbrev pub IsAmidTree : Unread T → Held → World → List Event → World → Type 0
  IsAmidTree later before old so_far now = (c : Candidate) × ReadsTree later c × IsAmidUnitOf allowed c.tree before old so_far now
