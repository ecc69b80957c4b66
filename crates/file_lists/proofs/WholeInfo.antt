-- All lists, from the entries of the directory.
use Rattle.std.proofs.Common.{◌≡◌, ◌↔◌, inl, inr, ℕ, Bool, true, false, Contains, List, [], Option, Some, None, refl, sym, ap, subst, ◌∙◌}
use Rattle.std.specs.Prelude.{IsSome}
use Rattle.administration.proofs.Emptying.{no_element}
use Rattle.host_core.specs.Paths.{Path}
use Rattle.host_core.specs.World.{World, IsDirectory}
use Rattle.host_core.specs.Tree.{IsTree, has_slash}
use Rattle.host_core.specs.declared.node.Node.{Node}
use Rattle.administration.specs.Places.{list_name, list_path}
use Rattle.administration.specs.declared.fault.AdministrationFault.{AdministrationFault}
use Rattle.administration.specs.declared.fault.AdministrationFault.TheVariants.{Damaged, Device, NoMemory, Declined}
use Rattle.administration.proofs.Within.{first_name}
use Rattle.file_lists.specs.declared.paths.PackageList.{PackageList}
use Rattle.file_lists.specs.Owners.{names_of, paths_of}
use Rattle.file_lists.specs.Lists.{Lists, IsReadable, HasLists}
use Rattle.file_lists.specs.Info.{entry_path, IsListOf, IsScriptOf, IsSound, IsFaultyWhole, HasFault, AreSound, AreLoose, IsInfoDamage}
use Rattle.file_lists.specs.Reading.{AreSoundAmong, HaveTaken, AreEntries, IsFaultAmong, IsNameFault}
use Rattle.file_lists.proofs.Entries.{sound_nothing}
use Rattle.file_lists.proofs.Tables.{has_name, no_paths}

-- an entry is sound where nothing stands, or if those that stand are
sound_if_there : (w : World) (names : List (List ℕ)) (entry : Path) (node : Option Node) → w (entry_path entry) ≡ node → (IsSome (w (entry_path entry)) → IsSound names entry (w (entry_path entry))) → IsSound names entry (w (entry_path entry))
sound_if_there w names entry None is there = subst (IsSound names entry) (sym is) (sound_nothing names entry)
sound_if_there w names entry (Some node) is there = there (subst IsSome (sym is) refl)

pub are_sound : (w : World) (names : List (List ℕ)) (all : Path → Bool) → AreEntries w all → AreSoundAmong w names all → AreSound w names
are_sound w names all entries sound = λ entry plain. sound_if_there w names entry (w (entry_path entry)) refl (λ some. sound entry (entries.whole entry plain some))

pub are_loose : (w : World) (names : List (List ℕ)) → AreSound w names → AreLoose w
are_loose w names sound = λ name plain. (sound name plain).loose

directory_there : (w : World) (p : Path) → IsDirectory (w p) → IsSome (w p)
directory_there w p d = subst IsSome (sym d.1) refl

-- below the directory nothing stands but its entries, since none of them is a directory
all_entries : (w : World) (names : List (List ℕ)) (all : Path → Bool) → IsTree w → AreEntries w all → AreSoundAmong w names all → (e : Path) → IsSome (w (entry_path e)) → all e ≡ true
all_entries w names all tree entries sound e some =
    let first = first_name e in
    elim first.ends [
      | inl same ↦ entries.whole e (ap has_slash same ∙ first.plain) some
      | inr m ↦
          let d : IsDirectory (w (entry_path first.name)) = tree (entry_path first.name) m.0 (subst (λ (x : Path). IsSome (w (entry_path x))) m.1 some) in
          absurd ((sound first.name (entries.whole first.name first.plain (directory_there w (entry_path first.name) d))).loose d)
    ]

lists_there : (node : Option Node) (q : Path) → Lists node q → IsSome node
lists_there None q lists = absurd lists
lists_there (Some node) q lists = refl

readable_if_there : (node : Option Node) → (IsSome node → IsReadable node) → IsReadable node
readable_if_there None there = tt
readable_if_there (Some node) there = there refl

-- Of one set of names what is said of another with the same names.

abbrev AreSame : List (List ℕ) → List (List ℕ) → Type 0
AreSame names others = (n : List ℕ) → Contains names n ↔ Contains others n

list_of_same : (a b : List (List ℕ)) (entry : Path) → ((n : List ℕ) → Contains a n → Contains b n) → IsListOf a entry → IsListOf b entry
list_of_same a b entry to of = (of.0, to of.0 of.1, of.2)

script_of_same : (a b : List (List ℕ)) (entry : Path) → ((n : List ℕ) → Contains a n → Contains b n) → IsScriptOf a entry → IsScriptOf b entry
script_of_same a b entry to of = (of.0, of.1, to of.1 of.2, of.3)

sound_same : (a b : List (List ℕ)) (entry : Path) (node : Option Node) → AreSame a b → IsSound a entry node → IsSound b entry node
sound_same a b entry node same is = record {
  loose = is.loose;
  list = λ of. is.list (list_of_same b a entry (λ n. (same n).1) of);
  script = λ of link. is.script (script_of_same b a entry (λ n. (same n).1) of) link;
}

faulty_same : (a b : List (List ℕ)) (entry : Path) (node : Option Node) → ((n : List ℕ) → Contains a n → Contains b n) → IsFaultyWhole a entry node → IsFaultyWhole b entry node
faulty_same a b entry node to is = elim is [
  | inl d ↦ inl d
  | inr (inl of, l) ↦ inr (inl (list_of_same a b entry to of), l)
  | inr (inr of, l) ↦ inr (inr (script_of_same a b entry to of), l)
]

fault_same : (a b : List (List ℕ)) (entry : Path) (node : Option Node) (line : ℕ) → AreSame a b → HasFault a entry node line → HasFault b entry node line
fault_same a b entry node line same is = elim is [
  | inl whole ↦ inl (faulty_same a b entry node (λ n. (same n).0) whole.0, whole.1)
  | inr bad ↦ inr (λ whole. bad.0 (faulty_same b a entry node (λ n. (same n).1) whole), list_of_same a b entry (λ n. (same n).0) bad.1, bad.2)
]

pub among_same : (w : World) (a b : List (List ℕ)) (all : Path → Bool) → AreSame a b → AreSoundAmong w a all → AreSoundAmong w b all
among_same w a b all same sound = λ name e. sound_same a b name (w (entry_path name)) same (sound name e)

-- the lists of these names, where at first none had a path
pub has_lists : (w : World) (names : List (List ℕ)) (all : Path → Bool) (empty lists : List PackageList) → IsTree w → AreEntries w all → AreSoundAmong w names all → AreSame (names_of empty) names → ((n : List ℕ) → paths_of empty n ≡ []) → HaveTaken w all empty lists → HasLists w names lists
has_lists w names all empty lists tree entries sound same none taken = record {
  readable = λ name has. readable_if_there (w (list_path name)) (λ some. (sound (list_name name) (all_entries w names all tree entries sound (list_name name) some)).list (name, has, refl));
  whole = λ name q has there. (taken.listed name q ((same name).1 has) (all_entries w names all tree entries sound (list_name name) (lists_there (w (list_path name)) q there))).1 there;
  sound = λ name q has. at name q has (all (list_name name)) refl;
}
  where
    named : (name q : Path) → Contains (paths_of lists name) q → Contains (names_of lists) name
    named name q has = elim (has_name lists name) [ inl h ↦ h | inr e ↦ absurd (no_element q (subst (λ ps. Contains ps q) (no_paths lists name e) has)) ]

    at : (name q : Path) → Contains (paths_of lists name) q → (b : Bool) → all (list_name name) ≡ b → Contains names name × Lists (w (list_path name)) q
    at name q has true e =
        let there = subst (λ ns. Contains ns name) taken.names (named name q has) in
        ((same name).0 there, (taken.listed name q there e).0 has)
    at name q has false e = absurd (no_element q (subst (λ ps. Contains ps q) (taken.others name e ∙ none name) has))

pub name_damage : (w : World) (names : List (List ℕ)) (fault : AdministrationFault) → IsNameFault w fault → IsInfoDamage w names fault
name_damage w names (Damaged file line) is = inl is
name_damage w names Device is = tt
name_damage w names NoMemory is = tt
name_damage w names Declined is = tt

pub entry_damage : (w : World) (names mine : List (List ℕ)) (all : Path → Bool) (fault : AdministrationFault) → AreEntries w all → AreSame mine names → IsFaultAmong w mine all fault → IsInfoDamage w names fault
entry_damage w names mine all (Damaged file line) entries same is = inr (
  entries.text,
  record {
    entry = is.name;
    plain = (entries.there is.name is.among).0;
    is = is.is;
    fault = fault_same mine names is.name (w (entry_path is.name)) line same is.fault;
    first = λ lesser plain before. sound_if_there w names lesser (w (entry_path lesser)) refl (λ some. sound_same mine names lesser (w (entry_path lesser)) same (is.first lesser (entries.whole lesser plain some) before));
  },
)
entry_damage w names mine all Device entries same is = tt
entry_damage w names mine all NoMemory entries same is = tt
entry_damage w names mine all Declined entries same is = tt
