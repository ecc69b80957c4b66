-- What is looked at before a file of interests is written, and what writing some of them leaves.
use Rattle.std.specs.Prelude.{◌≡◌, ◌⊎◌, ◌&&◌, not, ℕ, Bool, true, false, List, ◌∷◌, ◌++◌, map, filter, Option}
use Rattle.administration.specs.Files.{KeepsBesideFile, NoDirectory}
use Rattle.administration.specs.Places.{temporary}
use Rattle.host_core.specs.Paths.{Path}
use Rattle.host_core.specs.World.{World}
use Rattle.host_core.specs.declared.node.Node.{Node}
use Rattle.trigger_interests.specs.declared.interests.Interest.{Interest}
use Rattle.trigger_watch.specs.Names.{each_once, is_among}
use Rattle.trigger_files.specs.declared.registering.Plan.{Plan}
use Rattle.trigger_files.specs.Lines.{file_of, lines_for}
use Rattle.trigger_files.specs.Places.{is_register, paths_name, place}
use Rattle.trigger_files.specs.Registered.{KeepsBesideRegisters, is_hindered, is_unsettled}

-- the names to be looked at: that of the paths, those of triggers in which a package is interested, and those that stand in the directory
abbrev pub names_for : List Interest → List (List ℕ) → List (List ℕ)
names_for entries listed = each_once (filter is_register (paths_name ∷ (map (λ i. i.name) entries ++ listed)))

-- each of these names is one of such a file
abbrev pub AreRegisters : List (List ℕ) → Type 0
AreRegisters names = (name : List ℕ) → is_among names name ≡ true → is_register name ≡ true

-- exactly the names whose files haven't their lines
abbrev pub AreUnsettled : List Interest → World → List (List ℕ) → Type 0
AreUnsettled entries w names = (name : List ℕ) → is_among names name ≡ (is_register name && is_unsettled entries w name)

-- those of names at which a file can be written
abbrev pub open_of : World → List (List ℕ) → List (List ℕ)
open_of w names = filter (λ name. not (is_hindered w (place name))) names

abbrev pub AreOpen : World → List (List ℕ) → Type 0
AreOpen w names = (name : List ℕ) → is_among names name ≡ true → is_hindered w (place name) ≡ false

-- What is to be done of these interests: the names whose files haven't their lines, and those of them at which a file can be written.
pub record IsPlan (entries : List Interest) (plan : Plan) (w : World) : Type 0 where
  pub entries_same : plan.entries.items ≡ entries
  pub due : AreUnsettled entries w plan.due.items
  pub free_same : plan.free.items ≡ open_of w plan.due.items

-- a node stands at a path, or nothing, and all but its temporary name is as before
pub record IsPut (path : Path) (node : Option Node) (old new : World) : Type 0 where
  pub target : new path ≡ node
  pub spare : NoDirectory (new (temporary path))
  pub rest : KeepsBesideFile path old new

-- at each moment: what stood there, or that
pub record IsPutting (path : Path) (node : Option Node) (old now : World) : Type 0 where
  pub target : (now path ≡ old path) ⊎ (now path ≡ node)
  pub rest : KeepsBesideFile path old now

-- the files of these names are written, and no others
pub record AreWritten (entries : List Interest) (names : List (List ℕ)) (old new : World) : Type 0 where
  pub each : (name : List ℕ) → is_register name ≡ true → is_among names name ≡ true → new (place name) ≡ file_of (lines_for entries name)
  pub others : (name : List ℕ) → is_register name ≡ true → is_among names name ≡ false → new (place name) ≡ old (place name)
  pub rest : KeepsBesideRegisters old new

pub record AreBeingWritten (entries : List Interest) (names : List (List ℕ)) (old now : World) : Type 0 where
  pub each : (name : List ℕ) → is_register name ≡ true → is_among names name ≡ true → (now (place name) ≡ old (place name)) ⊎ (now (place name) ≡ file_of (lines_for entries name))
  pub others : (name : List ℕ) → is_register name ≡ true → is_among names name ≡ false → now (place name) ≡ old (place name)
  pub rest : KeepsBesideRegisters old now
