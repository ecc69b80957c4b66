-- What is judged of one entry.
use Rattle.std.proofs.Common.{◌≡◌, ◌≢◌, ◌↔◌, inl, inr, ℕ, Bool, true, false, cond, List, [], ◌++◌, Option, Some, None, IsTrue, is_some, get_or, refl, sym, ap, subst, ◌∙◌, Contains}
use Rattle.std.specs.Prelude.{MatchOption, MatchBool, IfSome, IfNone, codes}
use Rattle.std.specs.List.{list_any}
use Rattle.std.specs.Str.{bytes_eq}
use Rattle.std.proofs.lemmas.Bool.{true≢false, false≢true}
use Rattle.std.proofs.lemmas.List.{append_cancel_right}
use Rattle.std.proofs.lemmas.Slice.Eq.{bytes_eq-Decides}
use Rattle.std.proofs.lemmas.Map.Views.{Contains-from_any}
use Rattle.std.proofs.lemmas.List.Folds.{list_any_at}
use denote.Ref.{Bor}
use Rattle.host_core.specs.Paths.{Path}
use Rattle.host_core.specs.World.{World, kind_of}
use Rattle.host_core.specs.declared.node.Access.{Access}
use Rattle.host_core.specs.declared.node.Kind.TheVariants as kinds
use Rattle.host_core.specs.declared.node.Node.{Node}
use Rattle.host_core.specs.declared.node.Node.TheVariants.{File, Dir, Link}
use Rattle.administration.specs.Places.{list_name}
use Rattle.administration.specs.declared.fault.AdministrationFault.{AdministrationFault}
use Rattle.administration.specs.declared.fault.AdministrationFault.TheVariants.{Damaged, Device, NoMemory, Declined}
use Rattle.file_lists.specs.declared.paths.PackageList.{PackageList}
use Rattle.file_lists.specs.Lists.{IsReadable, IsWhole, Lists}
use Rattle.file_lists.specs.Info.{entry_path, IsOneOf, IsListOf, IsScriptOf, IsSound, IsFaultyWhole, HasFault}
use Rattle.file_lists.specs.Owners.{names_of, paths_of}
use Rattle.file_lists.specs.Table.{IsAt, IsSet}
use Rattle.file_lists.specs.Reading.{IsLinesFault, IsBadList, IsListFault, IsListFaultAt, IsFaultAt, IsListAt, HasTaken}
use Rattle.file_lists.specs.declared.fault.EntryFault.{EntryFault}
use Rattle.file_lists.specs.declared.fault.EntryFault.TheVariants as kind
use Rattle.file_lists.proofs.Increasing.{get_or_any}
use Rattle.file_lists.proofs.Tables.{within_names}

pub suffix_some : (r : Option (Bor (List ℕ))) (bytes t u : List ℕ) → t ≡ u → MatchOption r ((front : List ℕ) → bytes ≢ front ++ t) (λ x. bytes ≡ x.now ++ t) → IfSome r (λ x. bytes ≡ x.now ++ u)
suffix_some None bytes t u e is = tt
suffix_some (Some x) bytes t u e is = is ∙ ap (λ (l : List ℕ). x.now ++ l) e

pub suffix_none : (r : Option (Bor (List ℕ))) (bytes t u : List ℕ) → t ≡ u → MatchOption r ((front : List ℕ) → bytes ≢ front ++ t) (λ x. bytes ≡ x.now ++ t) → IfNone r ((front : List ℕ) → bytes ≢ front ++ u)
suffix_none None bytes t u e is = λ front same. is front (same ∙ ap (λ (l : List ℕ). front ++ l) (sym e))
suffix_none (Some x) bytes t u e is = tt

-- names that come before one ending are the same
pub contains_any : (names : List (List ℕ)) (name : List ℕ) → Contains names name → list_any (bytes_eq name) names ≡ true
contains_any names name has = list_any_at (bytes_eq name) names has.0 name has.1 ((bytes_eq-Decides name (get_or names has.0 name)).1 (sym has.2))

pub any_contains : (names : List (List ℕ)) (name : List ℕ) → list_any (bytes_eq name) names ≡ true → Contains names name
any_contains names name is = Contains-from_any (λ x y e. (bytes_eq-Decides x y).0 e) name names is

-- where a name stands among the lists it is one of their names
pub at_contains : (lists : List PackageList) (name : List ℕ) (at : ℕ) → IsAt lists name at → Contains (names_of lists) name
at_contains lists name at is = (let lt = within_names lists at is.0 in (at, lt, get_or_any (names_of lists) at name [] lt ∙ is.1))

pub one_of : (lists : List PackageList) (ending entry front : List ℕ) (r : Option ℕ) (b : Bool) → entry ≡ front ++ ending → b ≡ is_some r → IfSome r (λ at. IsAt lists front at) → IfNone r (Contains (names_of lists) front → ⊥) → IsTrue b ↔ IsOneOf (names_of lists) ending entry
one_of lists ending entry front None b is told some none = (
  λ t. absurd (false≢true (sym told ∙ t)),
  λ of. absurd (none (subst (Contains (names_of lists)) (append_cancel_right of.0 front ending (sym of.2 ∙ is)) of.1)),
)
one_of lists ending entry front (Some at) b is told some none = (λ t. (front, at_contains lists front at some, is), λ of. told)

-- the list of a name that stands there, and of one that stands nowhere
pub list_found : (lists : List PackageList) (entry front : List ℕ) (r : Option ℕ) → entry ≡ front ++ codes ".list" → IfSome r (λ at. IsAt lists front at) → IfSome r (λ at. IsListAt lists entry at)
list_found lists entry front None is some = tt
list_found lists entry front (Some at) is some = record { within = some.0; is = is ∙ ap list_name (sym some.1) }

pub list_missing : (lists : List PackageList) (entry front : List ℕ) (r : Option ℕ) → entry ≡ front ++ codes ".list" → IfNone r (Contains (names_of lists) front → ⊥) → IfNone r (IsListOf (names_of lists) entry → ⊥)
list_missing lists entry front None is none = λ of. none (subst (Contains (names_of lists)) (append_cancel_right of.0 front (codes ".list") (sym of.2 ∙ is)) of.1)
list_missing lists entry front (Some at) is none = tt

pub sound_nothing : (names : List (List ℕ)) (entry : Path) → IsSound names entry None
sound_nothing names entry = record {
  loose = λ d. absurd (let e : None ≡ Some (Dir d.0) = d.1 in cc);
  list = λ of. tt;
  script = λ of link. absurd (let e : None ≡ Some (Link link.0) = link.1 in cc);
}

pub sound_link : (names : List (List ℕ)) (entry : Path) (target : List ℕ) → (IsListOf names entry → ⊥) → (IsScriptOf names entry → ⊥) → IsSound names entry (Some (Link target))
sound_link names entry target apart_list apart_script = record {
  loose = λ d. absurd (let e : Some (Link target) ≡ Some (Dir d.0) = d.1 in cc);
  list = λ of. absurd (apart_list of);
  script = λ of link. apart_script of;
}

pub sound_file : (names : List (List ℕ)) (entry : Path) (bytes : List ℕ) (access : Access) → (IsListOf names entry → IsWhole bytes) → IsSound names entry (Some (File bytes access))
sound_file names entry bytes access good = record {
  loose = λ d. absurd (let e : Some (File bytes access) ≡ Some (Dir d.0) = d.1 in cc);
  list = good;
  script = λ of link. absurd (let e : Some (File bytes access) ≡ Some (Link link.0) = link.1 in cc);
}

-- What its kind tells of a node that is no list.

pub kind_none : (names : List (List ℕ)) (entry : Path) (node : Option Node) → None ≡ kind_of node → IsSound names entry node
kind_none names entry None is = sound_nothing names entry
kind_none names entry (Some (File bytes access)) is = absurd cc
kind_none names entry (Some (Dir access)) is = absurd cc
kind_none names entry (Some (Link target)) is = absurd cc

pub kind_directory : (names : List (List ℕ)) (entry : Path) (node : Option Node) → Some kinds.Directory ≡ kind_of node → IsFaultyWhole names entry node
kind_directory names entry None is = absurd cc
kind_directory names entry (Some (File bytes access)) is = absurd cc
kind_directory names entry (Some (Dir access)) is = inl (access, refl)
kind_directory names entry (Some (Link target)) is = absurd cc

pub kind_link : (names : List (List ℕ)) (entry : Path) (b : Bool) (node : Option Node) → Some kinds.SymbolicLink ≡ kind_of node → (IsListOf names entry → ⊥) → IsTrue b ↔ IsScriptOf names entry → MatchBool b (IsFaultyWhole names entry node) (IsSound names entry node)
kind_link names entry b None is other told = absurd cc
kind_link names entry b (Some (File bytes access)) is other told = absurd cc
kind_link names entry b (Some (Dir access)) is other told = absurd cc
kind_link names entry true (Some (Link target)) is other told = inr (inr (told.0 refl), (target, refl))
kind_link names entry false (Some (Link target)) is other told = sound_link names entry target other (λ of. false≢true (told.1 of))

pub kind_file : (names : List (List ℕ)) (entry : Path) (node : Option Node) → Some kinds.File ≡ kind_of node → (IsListOf names entry → ⊥) → IsSound names entry node
kind_file names entry None is other = absurd cc
kind_file names entry (Some (File bytes access)) is other = sound_file names entry bytes access (λ of. absurd (other of))
kind_file names entry (Some (Dir access)) is other = absurd cc
kind_file names entry (Some (Link target)) is other = absurd cc

-- what was judged faulty, or sound, of the node that stands there
pub judged_faulty : (names : List (List ℕ)) (entry : Path) (b : Bool) (node : Option Node) → b ≡ true → MatchBool b (IsFaultyWhole names entry node) (IsSound names entry node) → HasFault names entry node 0
judged_faulty names entry true node is told = inl (told, refl)
judged_faulty names entry false node is told = absurd (false≢true is)

pub judged_sound : (names : List (List ℕ)) (entry : Path) (b : Bool) (node : Option Node) → b ≡ false → MatchBool b (IsFaultyWhole names entry node) (IsSound names entry node) → IsSound names entry node
judged_sound names entry true node is told = absurd (true≢false is)
judged_sound names entry false node is told = told

-- What stands at a list's place.

pub sound_list : (names : List (List ℕ)) (entry : Path) (node : Option Node) → IsReadable node → IsSound names entry node
sound_list names entry None readable = sound_nothing names entry
sound_list names entry (Some (File bytes access)) readable = sound_file names entry bytes access (λ of. readable)
sound_list names entry (Some (Dir access)) readable = absurd readable
sound_list names entry (Some (Link target)) readable = absurd readable

pub lines_fault : (bytes : List ℕ) (access : Access) (fault : EntryFault) → IsLinesFault bytes fault → IsListFault (Some (File bytes access)) fault
lines_fault bytes access (kind.Line number) is = inr (
  λ bad. elim bad [
    | inl d ↦ absurd (let e : Some (File bytes access) ≡ Some (Dir d.0) = d.1 in cc)
    | inr l ↦ absurd (let e : Some (File bytes access) ≡ Some (Link l.0) = l.1 in cc)
  ],
  is,
)
lines_fault bytes access kind.NoMemory is = tt

pub list_fault : (names : List (List ℕ)) (entry : Path) (node : Option Node) (line : ℕ) → IsListOf names entry → IsListFault node (kind.Line line) → HasFault names entry node line
list_fault names entry node line of fault = elim fault [
  | inl whole ↦ inl (faulty whole.0, whole.1)
  | inr bad ↦ inr (λ whole. bad.0 (back whole), of, bad.1)
]
  where
    faulty : IsBadList node → IsFaultyWhole names entry node
    faulty is = elim is [ inl d ↦ inl d | inr l ↦ inr (inl of, l) ]

    back : IsFaultyWhole names entry node → IsBadList node
    back is = elim is [ inl d ↦ inl d | inr l ↦ inr l.1 ]

pub list_at_is : (lists : List PackageList) (entry : Path) (at : ℕ) → IsListAt lists entry at → IsListOf (names_of lists) entry
list_at_is lists entry at is = (let lt = within_names lists at is.within in (get_or (names_of lists) at [], (at, lt, get_or_any (names_of lists) at (get_or (names_of lists) at []) [] lt), is.is))

-- the list of one package has other paths
pub taken_list : (entry : Path) (node : Option Node) (at : ℕ) (paths : List Path) (old new : List PackageList) → IsListAt old entry at → IsSet at paths old new → ((q : Path) → Contains paths q ↔ Lists node q) → HasTaken entry node old new
taken_list entry node at paths old new is set_there lists = record {
  names = set_there.names;
  listed = λ name q has e. subst (λ ps. Contains ps q ↔ Lists node q) (sym (set_there.each name ∙ ap (λ b. cond b paths (paths_of old name)) ((bytes_eq-Decides name (get_or (names_of old) at [])).1 (append_cancel_right name (get_or (names_of old) at []) (codes ".list") (sym e ∙ is.is))))) (lists q);
  others = λ name differs. set_there.each name ∙ ap (λ b. cond b paths (paths_of old name)) (other name differs (bytes_eq name (get_or (names_of old) at [])) refl);
}
  where
    other : (name : List ℕ) → entry ≢ list_name name → (b : Bool) → bytes_eq name (get_or (names_of old) at []) ≡ b → bytes_eq name (get_or (names_of old) at []) ≡ false
    other name differs true e = absurd (differs (is.is ∙ ap list_name (sym ((bytes_eq-Decides name (get_or (names_of old) at [])).0 e))))
    other name differs false e = e

-- an entry that is no list changes none
pub taken_other : (entry : Path) (node : Option Node) (lists : List PackageList) → (IsListOf (names_of lists) entry → ⊥) → HasTaken entry node lists lists
taken_other entry node lists other = record {
  names = refl;
  listed = λ name q has e. absurd (other (name, has, e));
  others = λ name differs. refl;
}

-- the fault of a list, told with its path
pub list_fault_at : (w : World) (names : List (List ℕ)) (entry : Path) (fault : AdministrationFault) → IsListOf names entry → IsListFaultAt w entry fault → IsFaultAt w names entry fault
list_fault_at w names entry (Damaged file line) of is = (is.0, list_fault names entry (w (entry_path entry)) line of is.1)
list_fault_at w names entry Device of is = tt
list_fault_at w names entry NoMemory of is = tt
list_fault_at w names entry Declined of is = tt
