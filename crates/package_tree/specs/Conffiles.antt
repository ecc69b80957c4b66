-- What the lines of `DEBIAN/conffiles` say (Policy 10.7.1).
use Rattle.std.specs.Prelude.{◌≡◌, ◌||◌, ◌++◌, ◌∷◌, ◌+◌, [], ℕ, Bool, List, Option, Some, None, cond, if◌then◌else◌, codes, drop, length, map, nat_eq}
use Rattle.std.specs.List.{starts_with, AllByRecursion}
use Rattle.std.specs.Str.{bytes_eq}
use Rattle.control_fields.specs.Grammar.{lines_of}
use Rattle.host_core.specs.declared.node.Node.{Node}
use Rattle.host_core.specs.declared.node.Node.TheVariants.{File, Dir, Link}
use Rattle.package_tree.specs.declared.conffile_lines.Entry.{Entry}
use Rattle.package_tree.specs.declared.conffile_lines.Entry.TheVariants.{Blank, Plain, Flagged, Odd}

-- space, tab, form feed, vertical tab and CR, which don't count at the end of a line of `conffiles`
abbrev pub is_white : ℕ → Bool
is_white b = nat_eq b 32 || (nat_eq b 9 || (nat_eq b 12 || (nat_eq b 11 || nat_eq b 13)))

-- white space stays only before what stays
abbrev pub keep_before : ℕ → List ℕ → List ℕ
keep_before b [] = cond (is_white b) [] (b ∷ [])
keep_before b (c ∷ cs) = b ∷ c ∷ cs

-- without the white space at the end
abbrev pub trimmed : List ℕ → List ℕ
trimmed [] = []
trimmed (b ∷ bs) = keep_before b (trimmed bs)

-- the flag of a path that goes with the upgrade
abbrev pub flag : List ℕ
flag = codes "remove-on-upgrade"

abbrev pub flag_and_blank : List ℕ
flag_and_blank = codes "remove-on-upgrade "

-- what a text says: a path, a flagged one, nothing, or none of these
abbrev pub said : List ℕ → Entry
said text =
    if starts_with nat_eq text (codes "/") then Plain text
    else (if bytes_eq text flag then Flagged []
    else (if starts_with nat_eq text flag_and_blank then Flagged (drop 18 text)
    else (if bytes_eq text [] then Blank else Odd)))

-- the same of a line
abbrev pub entry_of : List ℕ → Entry
entry_of line = said (trimmed line)

-- all lines of a text
abbrev pub entries_of : List ℕ → List Entry
entries_of text = map entry_of (lines_of text)

-- all lines of the file, where one stands
abbrev pub entries_at : Option Node → List Entry
entries_at None = []
entries_at (Some (File bytes access)) = entries_of bytes
entries_at (Some (Dir access)) = []
entries_at (Some (Link target)) = []

-- the first entry of which P holds, with the number of its line
pub record IsFirstEntry (P : Entry → Type 0) (entries : List Entry) (number : ℕ) (entry : Entry) : Type 0 where
  pub front : List Entry
  pub rest : List Entry
  pub is : entries ≡ front ++ entry ∷ rest
  pub count : number ≡ length front + 1
  pub holds : P entry
  pub first : AllByRecursion (λ e. P e → ⊥) front

-- P holds of none
abbrev pub HasNoEntry : (Entry → Type 0) → List Entry → Type 0
HasNoEntry P entries = AllByRecursion (λ e. P e → ⊥) entries

-- a line that doesn't begin with a slash has another first word than the flag
abbrev pub IsOdd : Entry → Type 0
IsOdd Blank = ⊥
IsOdd (Plain path) = ⊥
IsOdd (Flagged path) = ⊥
IsOdd Odd = Unit {0}

-- this is the line of the first such
abbrev pub IsFirstOdd : List Entry → ℕ → Type 0
IsFirstOdd entries line = (entry : Entry) × IsFirstEntry IsOdd entries line entry
