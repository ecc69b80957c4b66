-- What `compare-versions A OP B` asks, and its answer (Policy 5.6.12 orders versions).
use Rattle.std.specs.Prelude.{◌≡◌, ◌&&◌, ⊤, Bool, true, false, List, ℕ, ◌++◌, Option, Some, None, option_map, codes, if◌then◌else◌}
use Rattle.std.specs.Fmt.{decimal}
use Rattle.std.specs.Ordering.{is_eq, is_ge, is_gt, is_le, is_lt, is_ne}
use Rattle.std.specs.Option.{option_map_or, option_or}
use Rattle.std.specs.Str.{bytes_eq}
use Rattle.std.specs.declared.cmp.Ordering.{Ordering}
use Rattle.std.specs.declared.cmp.Ordering.TheVariants.{Less, Equal, Greater}
use Rattle.shown_lines.specs.Lines.{line}
use Rattle.version_order.specs.Versions.{fault_of}
use Rattle.version_order.specs.VersionOrder.{version_order}
use Rattle.version_order.specs.declared.fault.VersionFault.{VersionFault}
use Rattle.version_order.specs.declared.fault.VersionFault.TheVariants.{Empty, Epoch, EmptyPart, Char, NoMemory}
use Rattle.command_words.specs.declared.comparison.Operator.{Operator}
use Rattle.command_words.specs.declared.comparison.Verdict.{Verdict}
use Rattle.command_words.specs.declared.comparison.Verdict.TheVariants.{Holds, Fails, Bad, OutOfMemory}
use Rattle.command_words.specs.declared.comparison.Operator.TheVariants.{Lt, Le, Eq, Ne, Ge, Gt, LtNl, LeNl, GeNl, GtNl}

-- the operators by names, for which an empty text is no version
abbrev pub named_operator : List ℕ → Option Operator
named_operator word =
    if bytes_eq word (codes "lt") then Some Lt
    else if bytes_eq word (codes "le") then Some Le
    else if bytes_eq word (codes "eq") then Some Eq
    else if bytes_eq word (codes "ne") then Some Ne
    else if bytes_eq word (codes "ge") then Some Ge
    else if bytes_eq word (codes "gt") then Some Gt
    else None

-- those for which it stands behind all
abbrev pub late_operator : List ℕ → Option Operator
late_operator word =
    if bytes_eq word (codes "lt-nl") then Some LtNl
    else if bytes_eq word (codes "le-nl") then Some LeNl
    else if bytes_eq word (codes "ge-nl") then Some GeNl
    else if bytes_eq word (codes "gt-nl") then Some GtNl
    else None

-- the signs of control files, of which `<` and `>` are old names of `<=` and `>=`
abbrev pub sign_operator : List ℕ → Option Operator
sign_operator word =
    if bytes_eq word (codes "<<") then Some Lt
    else if bytes_eq word (codes "<=") then Some Le
    else if bytes_eq word (codes "<") then Some Le
    else if bytes_eq word (codes "=") then Some Eq
    else if bytes_eq word (codes ">=") then Some Ge
    else if bytes_eq word (codes ">") then Some Ge
    else if bytes_eq word (codes ">>") then Some Gt
    else None

-- the operator of a word
abbrev pub operator_of : List ℕ → Option Operator
operator_of word = option_or (option_or (named_operator word) (late_operator word)) (sign_operator word)

-- whether an operator holds of two texts in this order
abbrev pub holds : Operator → Ordering → Bool
holds Lt order = is_lt order
holds Le order = is_le order
holds Eq order = is_eq order
holds Ne order = is_ne order
holds Ge order = is_ge order
holds Gt order = is_gt order
holds LtNl order = is_lt order
holds LeNl order = is_le order
holds GeNl order = is_ge order
holds GtNl order = is_gt order

-- the operators for which an empty text stands behind all versions; for the others it is none
abbrev pub is_late : Operator → Bool
is_late Lt = false
is_late Le = false
is_late Eq = false
is_late Ne = false
is_late Ge = false
is_late Gt = false
is_late LtNl = true
is_late LeNl = true
is_late GeNl = true
is_late GtNl = true

-- a text that stands behind all versions
abbrev pub is_behind : Operator → List ℕ → Bool
is_behind operator text = is_late operator && bytes_eq text (codes "")

-- a text as a version, or none that stands behind all
abbrev pub version_text : Operator → List ℕ → Option (List ℕ)
version_text operator text = if is_behind operator text then None else Some text

-- the order of two versions, or of empty texts in their places
abbrev pub order_of : Option (List ℕ) → Option (List ℕ) → Ordering
order_of None None = Equal
order_of None (Some b) = Greater
order_of (Some a) None = Less
order_of (Some a) (Some b) = version_order a b

-- what is wrong with a text
abbrev pub text_fault : Operator → List ℕ → Option VersionFault
text_fault operator text = if is_behind operator text then None else fault_of text

-- the first of the two texts that is no version, and what is wrong with it
abbrev pub bad_version : Operator → List ℕ → List ℕ → Option (List ℕ × VersionFault)
bad_version operator a b =
    option_map_or (λ fault. Some (a, fault)) (text_fault operator a) (option_map (λ fault. (b, fault)) (text_fault operator b))

-- whether the operator holds of the texts
abbrev pub holds_of : List ℕ → Operator → List ℕ → Bool
holds_of a operator b = holds operator (order_of (version_text operator a) (version_text operator b))

-- a fault by its name and its field
abbrev pub fault_text : VersionFault → List ℕ
fault_text Empty = codes "Empty"
fault_text Epoch = codes "Epoch"
fault_text EmptyPart = codes "EmptyPart"
fault_text (Char place) = codes "Char " ++ decimal place
fault_text NoMemory = codes "NoMemory"

-- the line that names a text that isn't a version
abbrev pub bad_version_line : List ℕ × VersionFault → List ℕ
bad_version_line bad = line (codes "bad version " ++ (bad.0 ++ (codes ": " ++ fault_text bad.1)))

-- the answer to a comparison of texts: whether it holds of them, or the first that is bad
abbrev pub IsVerdict : List ℕ → Operator → List ℕ → Verdict → Type 0
IsVerdict a operator b Holds = (bad_version operator a b ≡ None) × (holds_of a operator b ≡ true)
IsVerdict a operator b Fails = (bad_version operator a b ≡ None) × (holds_of a operator b ≡ false)
IsVerdict a operator b (Bad text fault) = bad_version operator a b ≡ Some (text.now, fault)
IsVerdict a operator b OutOfMemory = ⊤

-- a text that isn't a version, with its fault, or want of memory
abbrev pub IsBadText : Operator → List ℕ → Verdict → Type 0
IsBadText operator a (Bad text fault) = (text.now ≡ a) × (text_fault operator a ≡ Some fault)
IsBadText operator a OutOfMemory = ⊤
IsBadText operator a Holds = ⊥
IsBadText operator a Fails = ⊥
