-- The table of the kinds of lines (docs/FORMATS.md): which members each has, in their order.
use Rattle.std.specs.Prelude.{ℕ, List, [], ◌∷◌, codes, if◌then◌else◌}
use Rattle.std.specs.Str.{bytes_eq}
use Rattle.json_lines.specs.declared.forms.Form.{Form}
use Rattle.json_lines.specs.declared.forms.Form.TheVariants.{Bare, Why, Changed, Kept, State, NoState, Script, Files, Clash, Cycle, Refused, Call, RefusedPath, RefusedPattern, Listed, Selected, Audited, Cut, Differs, Place, Diverted, Other}
use Rattle.json_lines.specs.declared.forms.Kind.{Kind}
use Rattle.json_lines.specs.declared.forms.Kind.TheVariants as kind

-- the names of the members, parted by blanks
abbrev pub names_in : Form → List ℕ
names_in Bare = codes "line"
names_in Why = codes "line why"
names_in Changed = codes "line path package"
names_in Kept = codes "line path why"
names_in State = codes "line package version want flag state"
names_in NoState = codes "line package state"
names_in Script = codes "line package script arguments"
names_in Files = codes "line package rule path"
names_in Clash = codes "line package rule path other"
names_in Cycle = codes "line package rule trigger"
names_in Refused = codes "line package rule detail"
names_in Call = codes "line side package script arguments"
names_in RefusedPath = codes "line path rule"
names_in RefusedPattern = codes "line pattern rule"
names_in Listed = codes "package version state flag"
names_in Selected = codes "package want"
names_in Audited = codes "package state flag"
names_in Cut = codes "line package state flag"
names_in Differs = codes "line path package"
names_in Place = codes "path"
names_in Diverted = codes "diverter path target"
names_in Other = codes "line rest"

-- how many words stand before those of the member that has all that are too many: a path or an argument may have blanks
abbrev pub merged_in : Form → ℕ
merged_in Bare = 0
merged_in Why = 1
merged_in Changed = 1
merged_in Kept = 1
merged_in State = 5
merged_in NoState = 2
merged_in Script = 3
merged_in Files = 3
merged_in Clash = 3
merged_in Cycle = 3
merged_in Refused = 3
merged_in Call = 4
merged_in RefusedPath = 1
merged_in RefusedPattern = 1
merged_in Listed = 3
merged_in Selected = 1
merged_in Audited = 2
merged_in Cut = 3
merged_in Differs = 1
merged_in Place = 0
merged_in Diverted = 1
merged_in Other = 1

-- `state PKG none`, or `state PKG VERSION WANT FLAG STATE`
abbrev pub state_form : List (List ℕ) → Form
state_form (name ∷ none ∷ []) = NoState
state_form _ = State

-- a unit fails by a script, by a fault of its files, or since its triggers lead to themselves
abbrev pub cause_form : List ℕ → Form
cause_form word =
    if bytes_eq word (codes "preinst") then Script
    else if bytes_eq word (codes "postinst") then Script
    else if bytes_eq word (codes "prerm") then Script
    else if bytes_eq word (codes "postrm") then Script
    else if bytes_eq word (codes "Clash") then Clash
    else if bytes_eq word (codes "DiversionTarget") then Clash
    else if bytes_eq word (codes "TriggerCycle") then Cycle
    else Files

-- `failed PKG CAUSE ..`
abbrev pub failed_form : List (List ℕ) → Form
failed_form (name ∷ cause ∷ rest) = cause_form cause
failed_form _ = Other

abbrev pub form_by_word : List ℕ → List (List ℕ) → Form
form_by_word word rest =
    if bytes_eq word (codes "state") then state_form rest
    else if bytes_eq word (codes "failed") then failed_form rest
    else if bytes_eq word (codes "refused") then Refused
    else if bytes_eq word (codes "broken") then Why
    else if bytes_eq word (codes "write") then Changed
    else if bytes_eq word (codes "replace") then Changed
    else if bytes_eq word (codes "remove") then Changed
    else if bytes_eq word (codes "unread") then Changed
    else if bytes_eq word (codes "keep") then Kept
    else if bytes_eq word (codes "done") then Bare
    else if bytes_eq word (codes "dry") then Bare
    else Other

-- a line of a unit, by its first word
abbrev pub unit_form : List (List ℕ) → Form
unit_form [] = Other
unit_form (word ∷ rest) = form_by_word word rest

-- `refused PATH RULE`, or another line of a unit
abbrev pub diverting_form : List (List ℕ) → Form
diverting_form [] = Other
diverting_form (word ∷ rest) = if bytes_eq word (codes "refused") then RefusedPath else unit_form (word ∷ rest)

abbrev pub verified_form_by : List ℕ → Form
verified_form_by word =
    if bytes_eq word (codes "refused") then Refused
    else if bytes_eq word (codes "cut") then Cut
    else Differs

abbrev pub verified_form : List (List ℕ) → Form
verified_form [] = Differs
verified_form (word ∷ rest) = verified_form_by word

-- the form of a line of these words; what a question refuses, calls, paths, lines of `search` and diversions and fields of a paragraph have their own
abbrev pub form_of : Kind → List (List ℕ) → Form
form_of kind.Units words = unit_form words
form_of kind.Diverting words = diverting_form words
form_of kind.Listing words = Listed
form_of kind.Selections words = Selected
form_of kind.Audit words = Audited
form_of kind.Verification words = verified_form words
form_of kind.Paths words = Other
form_of kind.Search words = Other
form_of kind.Diversions words = Other
form_of kind.Paragraph words = Other
