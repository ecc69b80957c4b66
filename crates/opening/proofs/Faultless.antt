-- A part that can be read has no fault.
use Rattle.std.proofs.Common.{◌≡◌, inl, inr, ℕ, List, ◌∷◌, [], ◌++◌, Option, Some, None, sym, ap, subst, ◌∙◌}
use Rattle.std.specs.Prelude.{IsSome}
use Rattle.std.specs.List.{AllByRecursion}
use Rattle.std.proofs.lemmas.Bool.{true≢false}
use Rattle.host_core.proofs.Nodes.{none_stands, directory_stands}
use Rattle.host_core.specs.Paths.{Path}
use Rattle.host_core.specs.Tree.{IsTree}
use Rattle.host_core.specs.World.{World, IsDirectory}
use Rattle.host_core.specs.declared.node.Node.{Node}
use Rattle.host_core.specs.declared.node.Node.TheVariants.{File, Dir, Link}
use Rattle.administration.specs.Places.{info_path, diversions_path, tmp_path}
use Rattle.administration.specs.Directories.{HasBadName}
use Rattle.administration.specs.declared.fault.AdministrationFault.TheVariants.{Damaged}
use Rattle.administration.proofs.WholeFiles.{no_directory_none}
use Rattle.file_lists.specs.Lists.{IsReadable}
use Rattle.file_lists.specs.Info.{entry_path, IsSound, IsFaultyWhole, HasBadLine, HasFault, AreSound, IsInfoDamage}
use Rattle.opening.specs.Parts.{Part, Root, Way, Records, Spare, Info, Diversions, Leftovers, parts, names_of, IsReadableInfo, IsLeftoversFault, IsFine, IsFaulty, IsFirstFault}
use Rattle.opening.proofs.OneTable.{all_at, one_records, records_not_damaged}
use Rattle.opening.proofs.OneDiversions.{not_faulty}

-- an entry of `info`

not_whole : (names : List (List ℕ)) (entry : Path) (found : Option Node) → IsSound names entry found → IsFaultyWhole names entry found → ⊥
not_whole names entry found sound (inl directory) = sound.loose directory
not_whole names entry found sound (inr link) = elim link.0 [ inl list ↦ subst IsReadable link.1.1 (sound.list list) | inr script ↦ sound.script script link.1 ]

no_bad_line : (node : Option Node) (line : ℕ) → IsReadable node → HasBadLine node line → ⊥
no_bad_line None line good bad = bad
no_bad_line (Some (File bytes access)) line whole bad = elim bad.faulty [
  | inl not_good ↦ not_good (all_at _ _ bad.front bad.rest bad.bad bad.is whole.good)
  | inr cut ↦ true≢false (sym cut.0 ∙ whole.ended)
]
no_bad_line (Some (Dir access)) line good bad = bad
no_bad_line (Some (Link target)) line good bad = bad

sound_entry : (names : List (List ℕ)) (entry : Path) (node : Option Node) (line : ℕ) → IsSound names entry node → HasFault names entry node line → ⊥
sound_entry names entry node line sound (inl whole) = not_whole names entry node sound whole.0
sound_entry names entry node line sound (inr bad) = no_bad_line node line (sound.list bad.1) bad.2

sound_info : (w : World) (names : List (List ℕ)) (file : Path) (line : ℕ) → (HasBadName w info_path → ⊥) → AreSound w names → IsInfoDamage w names (Damaged file line) → ⊥
sound_info w names file line text sound (inl bad) = text bad.0
sound_info w names file line text sound (inr first) = sound_entry names first.1.entry (w (entry_path first.1.entry)) line (sound first.1.entry first.1.plain) first.1.fault

readable_info : (w : World) (file : Path) (line : ℕ) → IsReadableInfo w → IsFaulty w Info file line → ⊥
readable_info w file line is faulty = one_records w is.table faulty.0 is.is_table.records faulty.1.records (λ same.
    sound_info w (names_of is.table) file line is.text is.sound (subst (λ (n : List (List ℕ)). IsInfoDamage w n (Damaged file line)) (ap names_of (sym same)) faulty.2))

-- the other parts

-- below what isn't there nothing stands
below_nothing : (w : World) (name : Path) → IsTree w → w tmp_path ≡ None → IsSome (w (tmp_path ++ 47 ∷ name)) → ⊥
below_nothing w name tree none stands = no_directory_none (subst IsDirectory none (tree tmp_path name stands))

no_leftovers : (w : World) (file : Path) → IsTree w → w tmp_path ≡ None → IsLeftoversFault w file → ⊥
no_leftovers w file tree none (inl whole) = elim whole.1 [ inl loose ↦ none_stands (w tmp_path) none loose.0 | inr bad ↦ below_nothing w bad.0 tree none bad.3 ]
no_leftovers w file tree none (inr held) = below_nothing w held.1.0 tree none (directory_stands (w (tmp_path ++ 47 ∷ held.1.0)) held.1.2.holds)

faultless : (part : Part) (w : World) (file : Path) (line : ℕ) → IsTree w → IsFine w part → IsFaulty w part file line → ⊥
faultless Root w file line tree fine faulty = faulty.2 fine
faultless (Way path) w file line tree fine faulty = faulty.2.1 fine
faultless Records w file line tree fine faulty = records_not_damaged w fine.1.0 file line fine.0 fine.1.1.records faulty
faultless (Spare path) w file line tree fine faulty = fine faulty.2
faultless Info w file line tree fine faulty = readable_info w file line fine faulty
faultless Diversions w file line tree fine faulty = not_faulty (w diversions_path) fine.0 line fine.1 faulty.1
faultless Leftovers w file line tree fine faulty = no_leftovers w file tree fine faulty.1

none_among : (among : List Part) (w : World) (file : Path) (line : ℕ) → IsTree w → AllByRecursion (IsFine w) among → IsFirstFault among w file line → ⊥
none_among [] w file line tree fine fault = fault
none_among (part ∷ among) w file line tree fine fault = elim fault [
  | inl here ↦ faultless part w file line tree fine.0 here
  | inr later ↦ none_among among w file line tree fine.1 later.1
]

pub no_fault : (w : World) (file : Path) (line : ℕ) → IsTree w → AllByRecursion (IsFine w) parts → IsFirstFault parts w file line → ⊥
no_fault w file line tree fine fault = none_among parts w file line tree fine fault
