-- What settling conffiles leaves, in the end and at each moment.
use Rattle.std.specs.Prelude.{◌≡◌, ◌⊎◌, ℕ, Bool, true, false, List, [], ◌∷◌, ◌++◌, Option, Some, None, IsSome}
use Rattle.std.specs.List.{list_any, find, All}
use Rattle.std.specs.Str.{bytes_eq}
use Rattle.md5.specs.Md5.{md5}
use Rattle.host_core.specs.Paths.{Path}
use Rattle.host_core.specs.Suffixes.{suffix_text}
use Rattle.host_core.specs.World.{World, moved, IsFile, KeepsBut}
use Rattle.host_core.specs.declared.node.Access.{Access}
use Rattle.host_core.specs.declared.node.Kind.{Kind}
use Rattle.host_core.specs.declared.node.Kind.TheVariants as kind
use Rattle.host_core.specs.declared.node.Node.{Node}
use Rattle.host_core.specs.declared.node.Node.TheVariants.{File, Dir, Link}
use Rattle.host_core.specs.declared.suffix.Suffix.TheVariants as suffix
use Rattle.administration.specs.Files.{NoDirectory}
use Rattle.conffiles.specs.Decisions.{Row, IsRow, decision_of}
use Rattle.conffiles.specs.declared.decisions.ConfPolicy.{ConfPolicy}
use Rattle.conffiles.specs.declared.decisions.Decision.{Decision}
use Rattle.conffiles.specs.declared.decisions.Decision.TheVariants.{TakeNew, DropNew, NewToDist, BackupOld, Nothing, Delete, Rename}
use Rattle.conffiles.specs.declared.entries.Settled.{Settled}

-- what stands at a conffile's path and beside it: itself, the shipped file, the copy that is kept, the shipped file that wasn't taken
pub record ConffileFiles : Type 0 where
  pub home : Option Node
  pub shipped : Option Node
  pub backup : Option Node
  pub dist : Option Node

abbrev pub shipped_name : Path → Path
shipped_name x = x ++ suffix_text suffix.New

abbrev pub backup_name : Path → Path
backup_name x = x ++ suffix_text suffix.Old

abbrev pub dist_name : Path → Path
dist_name x = x ++ suffix_text suffix.Dist

-- where files are written before they are renamed
abbrev pub spare_name : Path → Path
spare_name x = x ++ suffix_text suffix.Inst

abbrev pub files_at : World → Path → ConffileFiles
files_at w x = record { home = w x; shipped = w (shipped_name x); backup = w (backup_name x); dist = w (dist_name x) }

-- the access of the file that is there
abbrev pub access_at : Option Node → Option Access
access_at None = None
access_at (Some (File bytes access)) = Some access
access_at (Some (Dir access)) = None
access_at (Some (Link target)) = None

-- a file with another access, where there is one
abbrev pub with_access : Node → Option Access → Node
with_access node None = node
with_access (File bytes own) (Some access) = File bytes access
with_access (Dir own) (Some access) = Dir own
with_access (Link target) (Some access) = Link target

-- the shipped file in the place of what is there: it has the access of the file that was there (Policy 10.7.3: local changes stay)
abbrev pub renewed : Option Node → Option Node → Option Node
renewed home None = home
renewed home (Some new) = Some (with_access new (access_at home))

-- a file that is there takes a place
abbrev pub first_of : Option Node → Option Node → Option Node
first_of None there = there
first_of (Some node) there = Some node

-- only where a shipped file is there a copy is kept
abbrev pub kept_beside : Option Node → Option Node → Option Node → Option Node
kept_beside None home backup = backup
kept_beside (Some new) home backup = first_of home backup

-- what each decision leaves; where no shipped file is there it was settled before
abbrev pub settled_files : Decision → ConffileFiles → ConffileFiles
settled_files TakeNew f = record f { home = renewed f.home f.shipped; shipped = None }
settled_files DropNew f = record f { shipped = None }
settled_files NewToDist f = record f { shipped = None; dist = first_of f.shipped f.dist }
settled_files BackupOld f = record f { home = renewed f.home f.shipped; shipped = None; backup = kept_beside f.shipped f.home f.backup }
settled_files Nothing f = f
settled_files Delete f = record f { home = None }
settled_files Rename f = record f { home = None; backup = first_of f.home f.backup }

-- on the way from some files to others: nothing is done, the copy is kept, and the file is in its place, or all is done
abbrev pub IsBetween : ConffileFiles → ConffileFiles → ConffileFiles → Type 0
IsBetween old new now = (now ≡ old) ⊎ ((now ≡ record old { backup = new.backup }) ⊎ ((now ≡ record old { backup = new.backup; home = new.home }) ⊎ (now ≡ new)))

-- the names at which the files of a conffile stand
abbrev pub conffile_names : Path → List Path
conffile_names x = x ∷ shipped_name x ∷ backup_name x ∷ dist_name x ∷ spare_name x ∷ []

abbrev pub is_conffile_name : Path → Path → Bool
is_conffile_name x q = list_any (bytes_eq q) (conffile_names x)

-- whether something else than a file is there
abbrev pub is_other : Option Node → Bool
is_other None = false
is_other (Some (File bytes access)) = false
is_other (Some (Dir access)) = true
is_other (Some (Link target)) = true

abbrev pub is_other_kind : Option Kind → Bool
is_other_kind None = false
is_other_kind (Some kind.File) = false
is_other_kind (Some kind.Directory) = true
is_other_kind (Some kind.SymbolicLink) = true

-- these names in the order of their bytes
abbrev pub ordered_names : Path → List Path
ordered_names x = x ∷ dist_name x ∷ spare_name x ∷ shipped_name x ∷ backup_name x ∷ []

-- the first of some names at which something else than a file stands
abbrev pub obstacle_of : World → List Path → Option Path
obstacle_of w names = find (λ p. is_other (w p)) names

-- nothing or a file
abbrev pub IsFileOrNone : Option Node → Type 0
IsFileOrNone None = Unit {0}
IsFileOrNone (Some node) = IsFile node

-- what a conffile needs to be settled: no directory or link at its path or as the shipped file, and no directory at the other names
pub record CanSettle (x : Path) (w : World) : Type 0 where
  pub home : IsFileOrNone (w x)
  pub shipped : IsFileOrNone (w (shipped_name x))
  pub backup : NoDirectory (w (backup_name x))
  pub dist : NoDirectory (w (dist_name x))
  pub spare : NoDirectory (w (spare_name x))

-- a file was moved, where one was there
abbrev pub IsMovedIfThere : Path → Path → World → World → Type 0
IsMovedIfThere from to old new = ((old from ≡ None) × (new ≡ old)) ⊎ (IsSome (old from) × (new ≡ moved old from to))

-- the files of one conffile are changed so, and nothing else; what was left where files are written may be gone
pub record HasChanged (change : ConffileFiles → ConffileFiles) (x : Path) (old new : World) : Type 0 where
  pub files : files_at new x ≡ change (files_at old x)
  pub spare : (new (spare_name x) ≡ old (spare_name x)) ⊎ (new (spare_name x) ≡ None)
  pub rest : KeepsBut (is_conffile_name x) old new

-- at each moment of that: parts of a file stand only where files are written
pub record IsChanging (change : ConffileFiles → ConffileFiles) (x : Path) (old now : World) : Type 0 where
  pub files : IsBetween (files_at old x) (change (files_at old x)) (files_at now x)
  pub spare : NoDirectory (now (spare_name x))
  pub rest : KeepsBut (is_conffile_name x) old now

-- a copy of what is there is kept
abbrev pub backed_up : ConffileFiles → ConffileFiles
backed_up f = record f { backup = first_of f.home f.backup }

-- a list of conffiles

-- one is settled
pub record HasSettled (old new : World) (e : Settled) : Type 0 where
  pub files : files_at new e.path ≡ settled_files e.decision (files_at old e.path)
  pub spare : (new (spare_name e.path) ≡ old (spare_name e.path)) ⊎ (new (spare_name e.path) ≡ None)

-- one is being settled
pub record IsSettling (old now : World) (e : Settled) : Type 0 where
  pub files : IsBetween (files_at old e.path) (settled_files e.decision (files_at old e.path)) (files_at now e.path)
  pub spare : NoDirectory (now (spare_name e.path))

-- one is as before
pub record IsUntouched (old now : World) (e : Settled) : Type 0 where
  pub files : files_at now e.path ≡ files_at old e.path
  pub spare : now (spare_name e.path) ≡ old (spare_name e.path)

abbrev pub is_name_of_some : List Settled → Path → Bool
is_name_of_some list q = list_any (λ e. is_conffile_name e.path q) list

-- each is settled, and nothing else is changed
pub record AreSettled (list : List Settled) (old new : World) : Type 0 where
  pub each : All (HasSettled old new) list
  pub rest : KeepsBut (is_name_of_some list) old new

-- the first of some is being settled, and the others are as before
abbrev pub IsFirstSettling : World → World → List Settled → Type 0
IsFirstSettling old now [] = Unit {0}
IsFirstSettling old now (e ∷ es) = IsSettling old now e × All (IsUntouched old now) es

-- at each moment: some are settled, the next one is being settled, and those behind it are as before
pub record AreSettling (list : List Settled) (old now : World) : Type 0 where
  pub front : List Settled
  pub back : List Settled
  pub is : list ≡ front ++ back
  pub settled : All (HasSettled old now) front
  pub next : IsFirstSettling old now back
  pub rest : KeepsBut (is_name_of_some list) old now

-- settling again

-- the digest of a file that is there
abbrev pub digest_at : Option Node → Option (List ℕ)
digest_at None = None
digest_at (Some (File bytes access)) = Some (md5 bytes)
digest_at (Some (Dir access)) = None
digest_at (Some (Link target)) = None

-- what is decided of these files, by what is recorded and shipped
abbrev pub IsDecided : Option (List ℕ) → Option (List ℕ) → ConfPolicy → ConffileFiles → Decision → Type 0
IsDecided recorded shipped policy f decision = (row : Row) × IsRow row recorded (digest_at f.home) shipped × (decision ≡ decision_of row policy)

-- the shipped file has the shipped digest, unless it went already
abbrev pub IsShippedAs : Option (List ℕ) → ConffileFiles → Type 0
IsShippedAs shipped f = (f.shipped ≡ None) ⊎ (digest_at f.shipped ≡ shipped)
