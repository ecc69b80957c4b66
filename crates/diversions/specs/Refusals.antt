-- Why a diversion isn't added or taken away (dpkg-divert(1)): conditions in the order in which they are looked for.
use Rattle.std.specs.Prelude.{◌&&◌, ◌||◌, Bool, true, false, not, cond, is_some, List, [], ◌∷◌, ◌++◌, Option, Some, None}
use Rattle.std.specs.List.{list_any}
use Rattle.std.specs.Str.{bytes_eq}
use Rattle.host_core.specs.Paths.{Path}
use Rattle.host_core.specs.World.{World}
use Rattle.aliases.specs.Aliases.{Alias, resolved}
use Rattle.diversions.specs.Entries.{is_diverted, is_target, entry_of}
use Rattle.diversions.specs.Sights.{sight_of, is_directory_kind, moves_node, moves_back}
use Rattle.diversions.specs.Ways.{Ways, truename}
use Rattle.diversions.specs.declared.entry.Owner.{Owner}
use Rattle.diversions.specs.declared.entry.Owner.TheVariants.{Local, Package}
use Rattle.diversions.specs.declared.entry.Diversion.{Diversion}
use Rattle.diversions.specs.declared.sight.Sight.{Sight}
use Rattle.diversions.specs.declared.refusal.Answer.{Answer}
use Rattle.diversions.specs.declared.refusal.Answer.TheVariants.{Done, Refused}
use Rattle.diversions.specs.declared.refusal.Refusal.{Refusal}
use Rattle.diversions.specs.declared.refusal.Refusal.TheVariants.{SamePath, Directory, AlreadyDiverted, TargetDiverted, Conffile, NotDiverted, OtherOwner, TargetExists, NoParent}
use Rattle.diversions.specs.declared.refusal.Seen.{Seen}

-- the first that holds
abbrev pub first_holding : {T : Type 0} → List (T × Bool) → Option T
first_holding [] = None
first_holding (c ∷ cs) = cond c.1 (Some c.0) (first_holding cs)

abbrev pub same_owner : Owner → Owner → Bool
same_owner Local Local = true
same_owner Local (Package other) = false
same_owner (Package name) Local = false
same_owner (Package name) (Package other) = bytes_eq name other

-- an entry is this owner's
abbrev pub is_owned : Option Diversion → Owner → Bool
is_owned None owner = false
is_owned (Some d) owner = same_owner d.owner owner

-- the entry of a path goes to this target, and is this owner's
abbrev pub is_same : Option Diversion → Path → Owner → Bool
is_same None target owner = false
is_same (Some d) target owner = bytes_eq d.target target && same_owner d.owner owner

-- the table has this very diversion
abbrev pub has_same : List Diversion → Diversion → Bool
has_same entries d = is_same (entry_of entries d.path) d.target d.owner

-- a node that is to be moved has no way: no directory is above the target, or another node is in the way there
abbrev pub move_conditions : Bool → Sight → List (Refusal × Bool)
move_conditions moves sight =
    (NoParent, moves && not (is_directory_kind sight.above))
    ∷ (TargetExists, moves && (is_some sight.to && not sight.same))
    ∷ []

-- two names have one place
abbrev pub is_one_place : List Alias → Path → Path → Bool
is_one_place aliases one other = bytes_eq (resolved aliases one) (resolved aliases other)

-- an entry diverts the place of the path for another owner
abbrev pub is_rival : List Alias → Diversion → Diversion → Bool
is_rival aliases d e = is_one_place aliases e.path d.path && not (same_owner e.owner d.owner)

-- the listed name is diverted, or its place is for another owner
abbrev pub is_path_taken : Ways → Diversion → Bool
is_path_taken ways d = is_diverted ways.entries d.path || list_any (is_rival ways.aliases d) ways.entries

-- an entry diverts the same place for the same owner, by another name
abbrev pub is_twin : List Alias → Diversion → Diversion → Bool
is_twin aliases d e = is_one_place aliases e.path d.path && same_owner e.owner d.owner

-- the target stands in an entry already, or the path is the target of one
abbrev pub is_name_taken : List Diversion → Diversion → Bool
is_name_taken entries d = is_diverted entries d.target || (is_target entries d.target || is_target entries d.path)

-- the same of their places, of an entry that isn't a twin
abbrev pub is_place_taken : List Alias → Diversion → Diversion → Bool
is_place_taken aliases d e =
    not (is_twin aliases d e) && (is_one_place aliases e.path d.target || (is_one_place aliases e.target d.target || is_one_place aliases e.target d.path))

abbrev pub is_target_taken : Ways → Diversion → Bool
is_target_taken ways d = is_name_taken ways.entries d || list_any (is_place_taken ways.aliases d) ways.entries

abbrev pub add_conditions : Sight → Ways → Diversion → Bool → Seen → List (Refusal × Bool)
add_conditions sight ways d rename seen =
    (SamePath, is_one_place ways.aliases d.target d.path)
    ∷ (Directory, is_directory_kind sight.from || is_directory_kind sight.to)
    ∷ (AlreadyDiverted, is_path_taken ways d)
    ∷ (TargetDiverted, is_target_taken ways d)
    ∷ (Conffile, seen.conffile)
    ∷ move_conditions (moves_node rename seen.listed sight) sight

abbrev pub owner_conditions : List Diversion → Path → Owner → List (Refusal × Bool)
owner_conditions entries path owner =
    (NotDiverted, not (is_diverted entries path))
    ∷ (OtherOwner, not (is_owned (entry_of entries path) owner))
    ∷ []

-- what moving a node back from the place of a target needs
abbrev pub back_conditions : World → Path → Path → Bool → List (Refusal × Bool)
back_conditions w target path rename = move_conditions (moves_back rename w target path) (sight_of rename w target path)

-- the node goes back from the place of the target to that of the path
abbrev pub remove_conditions : World → Ways → Path → Owner → Bool → List (Refusal × Bool)
remove_conditions w ways path owner rename =
    owner_conditions ways.entries path owner ++ back_conditions w (truename ways path) (resolved ways.aliases path) rename

-- what is moved goes from the place of the path to that of the target
abbrev pub add_refusal : World → Ways → Diversion → Bool → Seen → Option Refusal
add_refusal w ways d rename seen =
    first_holding (add_conditions (sight_of rename w (resolved ways.aliases d.path) (resolved ways.aliases d.target)) ways d rename seen)

abbrev pub remove_refusal : World → Ways → Path → Owner → Bool → Option Refusal
remove_refusal w ways path owner rename = first_holding (remove_conditions w ways path owner rename)

abbrev pub answer_of : Option Refusal → Answer
answer_of None = Done
answer_of (Some refusal) = Refused refusal

-- the very same diversion again is done before every refusal
abbrev pub add_answer : World → Ways → Diversion → Bool → Seen → Answer
add_answer w ways d rename seen = cond (has_same ways.entries d) Done (answer_of (add_refusal w ways d rename seen))

abbrev pub remove_answer : World → Ways → Path → Owner → Bool → Answer
remove_answer w ways path owner rename = answer_of (remove_refusal w ways path owner rename)
