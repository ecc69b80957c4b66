-- What the text of the file `diversions` says: three lines an entry, its path, its target and its owner.
use Rattle.std.specs.Prelude.{◌≡◌, ◌+◌, ℕ, List, [], ◌∷◌, ◌++◌, cond, codes, length, nat_eq, Option, Some, None}
use Rattle.std.specs.List.{onto_first, flat_map}
use Rattle.host_core.specs.World.{World}
use Rattle.host_core.specs.declared.node.Node.{Node}
use Rattle.host_core.specs.declared.node.Node.TheVariants.{File, Dir, Link}
use Rattle.administration.specs.Places.{diversions_path}
use Rattle.administration.specs.declared.fault.AdministrationFault.{AdministrationFault}
use Rattle.administration.specs.declared.fault.AdministrationFault.TheVariants.{Damaged, Device, NoMemory, Declined}
use Rattle.diversions.specs.declared.entry.Owner.{Owner}
use Rattle.diversions.specs.declared.entry.Owner.TheVariants.{Local, Package}
use Rattle.diversions.specs.declared.entry.Diversion.{Diversion}
use Rattle.diversions.specs.Entries.{IsTable}

-- the lines of a text: each ends with a newline, which the last may lack
abbrev pub lines_in : List ℕ → List (List ℕ)
lines_in [] = []
lines_in (b ∷ bs) = cond (nat_eq b 10) ([] ∷ lines_in bs) (onto_first b (lines_in bs))

-- a colon, or the package's name
abbrev pub owner_line : Owner → List ℕ
owner_line Local = codes ":"
owner_line (Package name) = name

-- the three lines of an entry
abbrev pub entry_lines : Diversion → List (List ℕ)
entry_lines d = d.path ∷ d.target ∷ owner_line d.owner ∷ []

abbrev pub lines_of : List Diversion → List (List ℕ)
lines_of entries = flat_map entry_lines entries

-- the text has these entries, in their order
pub record ReadsAs (text : List ℕ) (entries : List Diversion) : Type 0 where
  pub lines : lines_in text ≡ lines_of entries
  pub table : IsTable entries

-- The first faulty entry, by its first line: what stands behind the entries before it is no entry that a table may have
-- after them.
pub record IsFirstFaulty (text : List ℕ) (line : ℕ) : Type 0 where
  pub before : List Diversion
  pub line_there : List ℕ
  pub more : List (List ℕ)
  pub lines : lines_in text ≡ lines_of before ++ line_there ∷ more
  pub table : IsTable before
  pub faulty : (d : Diversion) (rest : List (List ℕ)) → line_there ∷ more ≡ entry_lines d ++ rest → IsTable (before ++ d ∷ []) → ⊥
  pub count : line ≡ length (lines_of before) + 1

-- what stands at the file's place has these entries; where nothing stands there are none
abbrev pub HasEntries : Option Node → List Diversion → Type 0
HasEntries None entries = entries ≡ []
HasEntries (Some (File bytes access)) entries = ReadsAs bytes entries
HasEntries (Some (Dir access)) entries = ⊥
HasEntries (Some (Link target)) entries = ⊥

abbrev pub HasDiversions : World → List Diversion → Type 0
HasDiversions w entries = HasEntries (w diversions_path) entries

-- why no entries are read of a node: the first line of a faulty entry, or line 0 where it is no file
abbrev pub IsDamageAt : Option Node → ℕ → Type 0
IsDamageAt None line = ⊥
IsDamageAt (Some (File bytes access)) line = IsFirstFaulty bytes line
IsDamageAt (Some (Dir access)) line = line ≡ 0
IsDamageAt (Some (Link target)) line = line ≡ 0

-- why the file can't be read, by what stands at its place
abbrev pub IsNodeDamage : Option Node → AdministrationFault → Type 0
IsNodeDamage found (Damaged file line) = (file ≡ diversions_path) × IsDamageAt found line
IsNodeDamage found Device = Unit {0}
IsNodeDamage found NoMemory = Unit {0}
IsNodeDamage found Declined = Unit {0}

abbrev pub IsDiversionsDamage : World → AdministrationFault → Type 0
IsDiversionsDamage w fault = IsNodeDamage (w diversions_path) fault

-- the same by its text
abbrev pub IsFileDamage : List ℕ → AdministrationFault → Type 0
IsFileDamage text (Damaged file line) = (file ≡ diversions_path) × IsFirstFaulty text line
IsFileDamage text Device = Unit {0}
IsFileDamage text NoMemory = Unit {0}
IsFileDamage text Declined = Unit {0}
