-- In which rounds an install takes its trees, of which the control files are looked at first (Policy 7.2).
use Rattle.std.specs.Prelude.{◌≡◌, ◌≢◌, ◌⊎◌, ◌||◌, ⊤, ℕ, Bool, IsTrue, List, [], ◌∷◌, length, map, nat_le, slice_index_or, MatchBool, Option, Some, None, Result, Ok, Err}
use Rattle.host_core.specs.Host.{Reads, Silent, State}
use Rattle.host_core.specs.World.{World}
use Rattle.install_order.specs.Rounds.{AreRounds}
use Rattle.package_tree.specs.ControlFile.{IsControlText}
use Rattle.package_tree.specs.Fault.{CountsTree}
use Rattle.package_tree.specs.Tree.{HasControl, IsReadingFault}
use Rattle.package_tree.specs.declared.control_file.ControlFile.{ControlFile}
use Rattle.package_tree.specs.declared.fault.TreeFault.{TreeFault}
use Rattle.package_tree.specs.declared.fault.TreeFault.TheVariants as tree_faults
use Rattle.recorded_packages.specs.Packages.{ArePackagesOf}
use Rattle.relation_index.specs.declared.package.Package.{Package}
use Rattle.status_records.specs.declared.record.Record.{Record}
use Rattle.command_words.specs.declared.unpacking.Unpacking.{Unpacking}
use Rattle.command_line.specs.Reading.{IsWithoutRoom}
use Rattle.command_line.specs.Roots.{Around}

-- what a look at a tree finds: its control file, or a fault
abbrev pub IsLookedAs : World → Result ControlFile TreeFault → Type 0
IsLookedAs w (Ok file) = (text : List ℕ) × HasControl w text × IsControlText text file.paragraph file.name file.version
IsLookedAs w (Err fault) = IsReadingFault w fault

-- the tree behind a word was looked at, on a host on which no script was called and nothing changed, and which was given back
pub record IsLooking (a : Around) (word : List ℕ) (read : Result ControlFile TreeFault) : Type 0 where
  pub state : State
  pub behind : a.tree word state
  pub end : State
  pub read_as : IsTrue end.honest → IsLookedAs state.world read
  pub silent : Silent state end
  pub reads : Reads state end
  pub given : a.seen end
  pub counts : CountsTree state end read

-- What is found for a word: what a look finds, or that the device failed on opening a host for it, or that there was no room for an
-- archive. A look for which memory is wanting finds nothing, and ends the command.
abbrev pub IsLookedAt : Around → List ℕ → Result ControlFile TreeFault → Type 0
IsLookedAt a word read = (read ≢ Err tree_faults.NoMemory) × (IsLooking a word read ⊎ (((read ≡ Err tree_faults.Device) × a.failed) ⊎ IsWithoutRoom a word read))

-- one that can't be read needs nothing of others, and meets nothing
abbrev pub looked_as : Result ControlFile TreeFault → Option ControlFile
looked_as (Ok file) = Some file
looked_as (Err fault) = None

abbrev pub HasLooked : Around → List ℕ → Option ControlFile → Type 0
HasLooked a word found = (read : Result ControlFile TreeFault) × IsLookedAt a word read × (found ≡ looked_as read)

-- this was found for words, one after another
abbrev pub AreLookedAt : Around → List (List ℕ) → List (Option ControlFile) → Type 0
AreLookedAt a [] [] = ⊤
AreLookedAt a [] (l ∷ ls) = ⊥
AreLookedAt a (word ∷ words) [] = ⊥
AreLookedAt a (word ∷ words) (l ∷ ls) = HasLooked a word l × AreLookedAt a words ls

-- the words of rounds, by their numbers
abbrev pub word_at : List (List ℕ) → ℕ → List ℕ
word_at words x = slice_index_or words x []

abbrev pub words_at : List (List ℕ) → List ℕ → List (List ℕ)
words_at words round = map (word_at words) round

-- These are the rounds that install_order finds of these words by what was found for them, with the packages of the records.
pub record IsOrdered (records : List Record) (words : List (List ℕ)) (looked : List (Option ControlFile)) (rounds : List (List (List ℕ))) : Type 0 where
  pub packages : List Package
  pub recorded : ArePackagesOf records packages
  pub numbers : List (List ℕ)
  pub order : AreRounds packages looked numbers
  pub are : rounds ≡ map (words_at words) numbers

-- the trees are looked at, and taken in these rounds
abbrev pub IsOrderOf : Around → List (List ℕ) → List Record → List (List (List ℕ)) → Type 0
IsOrderOf a words records rounds = (looked : List (Option ControlFile)) × AreLookedAt a words looked × IsOrdered records words looked rounds

-- trees that are taken as they are given are one round, and one tree alone is
abbrev pub is_one_round : Unpacking → Bool
is_one_round u = u.as_given || nat_le (length u.trees) 1

-- the rounds of an install
abbrev pub AreRoundsOf : Around → Unpacking → List Record → List (List (List ℕ)) → Type 0
AreRoundsOf a u records rounds = MatchBool (is_one_round u) (rounds ≡ u.trees ∷ []) (IsOrderOf a u.trees records rounds)
