-- The JSON text of lines.
use Rattle.std.specs.Prelude.{ℕ, Bool, List, [], ◌∷◌, ◌++◌, Option, Some, None, codes, if◌then◌else◌, nat_eq}
use Rattle.std.specs.List.{ends_with, flat_map, starts_with}
use Rattle.json_lines.specs.Cutting.{before_colon, behind_blank, between, cut_at, cut_at_last_colon, pieces}
use Rattle.json_lines.specs.Diverted.{begins_path, diverted_parts}
use Rattle.json_lines.specs.Forms.{form_of}
use Rattle.json_lines.specs.Members.{formed, member, object}
use Rattle.json_lines.specs.Paragraphs.{fields}
use Rattle.json_lines.specs.declared.forms.Form.TheVariants.{Call, Listed, Place, Refused, RefusedPattern, Selected}
use Rattle.json_lines.specs.declared.forms.Kind.{Kind}
use Rattle.json_lines.specs.declared.forms.Kind.TheVariants as kind

-- `call SIDE PKG SCRIPT ARGS`, and what stands behind the last colon
abbrev pub call_parts : List ℕ → Option (List ℕ × List ℕ) → List (List ℕ)
call_parts line None = formed Call (between 32 line)
call_parts line (Some parts) = formed Call (between 32 parts.0) ++ member (codes "outcome") (behind_blank parts.1) ∷ []

-- a line of a unit: a call of a script, or another
abbrev pub unit_members : List ℕ → List (List ℕ)
unit_members line =
    if starts_with nat_eq line (codes "call ") then call_parts line (cut_at_last_colon line)
    else formed (form_of kind.Units (between 32 line)) (between 32 line)

-- a path, or `refused PKG Unknown`
abbrev pub path_members : List ℕ → List (List ℕ)
path_members line = formed (if begins_path line then Place else Refused) (between 32 line)

-- `PKG: PATH`
abbrev pub owner_parts : List ℕ → Option (List ℕ × List ℕ) → List (List ℕ)
owner_parts line None = formed Place (between 32 line)
owner_parts line (Some parts) = member (codes "package") (before_colon parts.0) ∷ member (codes "path") parts.1 ∷ []

-- no package has the state or want `Unknown`
abbrev pub is_unknown : List ℕ → Bool
is_unknown line = ends_with nat_eq line (codes " Unknown")

-- `refused PATTERN Unknown`, or a package
abbrev pub listed_members : List ℕ → List (List ℕ)
listed_members line = formed (if is_unknown line then RefusedPattern else Listed) (between 32 line)

-- the same, and between PKG and WANT stand tabs
abbrev pub selection_members : List ℕ → List (List ℕ)
selection_members line =
    if is_unknown line then formed RefusedPattern (between 32 line) else formed Selected (pieces 9 line)

-- the members of a line
abbrev pub members_of : Kind → List ℕ → List (List ℕ)
members_of kind.Units line = unit_members line
members_of kind.Listing line = listed_members line
members_of kind.Diversions line = diverted_parts line (cut_at 32 line)
members_of kind.Paths line = path_members line
members_of kind.Search line = owner_parts line (cut_at 32 line)
members_of kind.Selections line = selection_members line
members_of other line = formed (form_of other (between 32 line)) (between 32 line)

-- the fields of a record, or `refused PKG Unknown`: no field's name has a blank
abbrev pub record_members : List (List ℕ) → List (List ℕ)
record_members [] = []
record_members (line ∷ lines) =
    if starts_with nat_eq line (codes "refused ") then formed Refused (between 32 line) else fields (line ∷ lines)

abbrev pub line_text : Kind → List ℕ → List ℕ
line_text kind line = object (members_of kind line)

-- an object for each line, or one for all lines of a paragraph
abbrev pub text_of_lines : Kind → List (List ℕ) → List ℕ
text_of_lines kind.Paragraph lines = object (record_members lines)
text_of_lines other lines = flat_map (λ line. line_text other line) lines

abbrev pub json_text : Kind → List ℕ → List ℕ
json_text kind text = text_of_lines kind (pieces 10 text)
