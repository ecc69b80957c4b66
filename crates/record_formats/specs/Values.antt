-- What a record says of a field, as dpkg-query shows it: of one of its paragraph, or of one that is made of several.
use Rattle.std.specs.Prelude.{ℕ, ◌-◌, ◌==◌, ◌||◌, Bool, true, false, List, [], ◌∷◌, ◌++◌, Option, Some, None, codes, drop, if◌then◌else◌, length, option_map, replicate, take}
use Rattle.std.specs.List.{flat_map}
use Rattle.std.specs.Option.{option_or}
use Rattle.std.specs.Str.{bytes_eq}
use Rattle.control_fields.specs.Names.{value_of}
use Rattle.control_fields.specs.declared.field.Field.{Field}
use Rattle.recorded_packages.specs.Packages.{is_foreign}
use Rattle.status_records.specs.Paragraphs.{field_in, paragraph_of, record_word}
use Rattle.status_records.specs.Words.{flag_word, state_word, want_word}
use Rattle.status_records.specs.declared.record.Record.{Record}
use Rattle.status_records.specs.declared.words.Flag.{Flag}
use Rattle.status_records.specs.declared.words.Flag.TheVariants as flag
use Rattle.status_records.specs.declared.words.State.{State}
use Rattle.status_records.specs.declared.words.State.TheVariants as state
use Rattle.status_records.specs.declared.words.StateWord.{StateWord}
use Rattle.status_records.specs.declared.words.StateWord.TheVariants as word
use Rattle.status_records.specs.declared.words.Want.{Want}
use Rattle.status_records.specs.declared.words.Want.TheVariants as want
use Rattle.record_formats.specs.declared.pieces.Piece.{Piece}
use Rattle.record_formats.specs.declared.pieces.Piece.TheVariants as piece
use Rattle.record_formats.specs.declared.pieces.Shown.{Shown}
use Rattle.record_formats.specs.declared.values.Made.{Made}
use Rattle.record_formats.specs.declared.values.Made.TheVariants.{PackageName, Summary, Abbreviation, Wanted, Standing, Flagged}

-- what stands on the line of a field's name; nothing where the field is missing
abbrev pub line_from : Option Field → List ℕ
line_from None = []
line_from (Some f) = f.first

abbrev pub line_in : List ℕ → List Field → List ℕ
line_in key fields = line_from (field_in key fields)

-- the summary of a package: the first line of its description; of one that is half-installed it is told where there is none
abbrev pub summary_from : State → Option Field → List ℕ
summary_from st (Some f) = f.first
summary_from state.NotInstalled None = []
summary_from state.ConfigFiles None = []
summary_from state.HalfInstalled None = codes "(no description available)"
summary_from state.Unpacked None = []
summary_from state.HalfConfigured None = []
summary_from state.Installed None = []

abbrev pub summary : Record → List Field → List ℕ
summary r fields = summary_from r.state (field_in (codes "description") fields)

-- several of its name may be installed, or it is of another architecture than the root
abbrev pub is_qualified : Option (List ℕ) → Record → List Field → Bool
is_qualified root r fields = bytes_eq (line_in (codes "multi-arch") fields) (codes "same") || is_foreign root r

-- `PKG:ARCH` of such a package, `PKG` of any other
abbrev pub qualified_name : Option (List ℕ) → Record → List Field → List ℕ
qualified_name root r fields =
    if is_qualified root r fields then r.name ++ 58 ∷ line_in (codes "architecture") fields else r.name

-- the letters that dpkg has for what is wanted of a package, for its state, and for whether it is to be installed again
abbrev pub want_letter : Want → List ℕ
want_letter want.Unknown = codes "u"
want_letter want.Install = codes "i"
want_letter want.Hold = codes "h"
want_letter want.Deinstall = codes "r"
want_letter want.Purge = codes "p"

abbrev pub state_letter : StateWord → List ℕ
state_letter word.NotInstalled = codes "n"
state_letter word.ConfigFiles = codes "c"
state_letter word.HalfInstalled = codes "H"
state_letter word.Unpacked = codes "U"
state_letter word.HalfConfigured = codes "F"
state_letter word.TriggersAwaited = codes "W"
state_letter word.TriggersPending = codes "t"
state_letter word.Installed = codes "i"

abbrev pub flag_letter : Flag → List ℕ
flag_letter flag.Ok = codes " "
flag_letter flag.Reinstreq = codes "R"

abbrev pub abbreviation : Record → List ℕ
abbreviation r = want_letter r.want ++ (state_letter (record_word r) ++ flag_letter r.flag)

-- names of what is made of several fields, or of a part of one
abbrev pub made_of : List ℕ → Option Made
made_of key =
    if bytes_eq key (codes "binary:package") then Some PackageName
    else if bytes_eq key (codes "binary:summary") then Some Summary
    else if bytes_eq key (codes "binary:synopsis") then Some Summary
    else if bytes_eq key (codes "db:status-abbrev") then Some Abbreviation
    else if bytes_eq key (codes "db:status-want") then Some Wanted
    else if bytes_eq key (codes "db:status-status") then Some Standing
    else if bytes_eq key (codes "db:status-eflag") then Some Flagged
    else None

abbrev pub made_value : Option (List ℕ) → Record → List Field → Made → List ℕ
made_value root r fields PackageName = qualified_name root r fields
made_value root r fields Summary = summary r fields
made_value root r fields Abbreviation = abbreviation r
made_value root r fields Wanted = want_word r.want
made_value root r fields Standing = state_word (record_word r)
made_value root r fields Flagged = flag_word r.flag

-- fields that are `no` where they are missing
abbrev pub is_denied : List ℕ → Bool
is_denied key = bytes_eq key (codes "essential") || (bytes_eq key (codes "protected") || bytes_eq key (codes "multi-arch"))

-- fields that are empty where they are missing: those that dpkg knows
abbrev pub is_stated : List ℕ → Bool
is_stated key =
    bytes_eq key (codes "priority") || (bytes_eq key (codes "section") || (bytes_eq key (codes "installed-size")
    || (bytes_eq key (codes "origin") || (bytes_eq key (codes "maintainer") || (bytes_eq key (codes "bugs")
    || (bytes_eq key (codes "architecture") || (bytes_eq key (codes "source") || (bytes_eq key (codes "config-version")
    || bytes_eq key (codes "description")))))))))

abbrev pub is_relation : List ℕ → Bool
is_relation key =
    bytes_eq key (codes "replaces") || (bytes_eq key (codes "provides") || (bytes_eq key (codes "depends")
    || (bytes_eq key (codes "pre-depends") || (bytes_eq key (codes "recommends") || (bytes_eq key (codes "suggests")
    || (bytes_eq key (codes "breaks") || (bytes_eq key (codes "conflicts") || bytes_eq key (codes "enhances"))))))))

-- triggers of a package
abbrev pub is_of_triggers : List ℕ → Bool
is_of_triggers key = bytes_eq key (codes "triggers-pending") || bytes_eq key (codes "triggers-awaited")

abbrev pub is_of_files : List ℕ → Bool
is_of_files key =
    bytes_eq key (codes "conffiles") || (bytes_eq key (codes "filename") || (bytes_eq key (codes "size")
    || (bytes_eq key (codes "md5sum") || (bytes_eq key (codes "msdos-filename") || is_of_triggers key))))

-- what stands for a field that is missing; nothing at all for one that dpkg doesn't know
abbrev pub missing_value : List ℕ → Option (List ℕ)
missing_value key =
    if is_denied key then Some (codes "no")
    else if is_stated key || (is_relation key || is_of_files key) then Some []
    else None

-- a field's value; that of `Conffiles` is its lines alone, and before triggers stands a blank
abbrev pub own_value : List ℕ → Field → List ℕ
own_value key f =
    if bytes_eq key (codes "conffiles") then drop 1 (value_of f)
    else if is_of_triggers key then 32 ∷ value_of f
    else value_of f

abbrev pub field_value : List ℕ → List Field → Option (List ℕ)
field_value key fields = option_or (option_map (own_value key) (field_in key fields)) (missing_value key)

-- what a record, whose paragraph has these fields, says of the field of a name, which is given in lower case
abbrev pub value_from : Option (List ℕ) → Record → List Field → List ℕ → Option Made → Option (List ℕ)
value_from root r fields key None = field_value key fields
value_from root r fields key (Some made) = Some (made_value root r fields made)

abbrev pub value : Option (List ℕ) → Record → List Field → List ℕ → Option (List ℕ)
value root r fields key = value_from root r fields key (made_of key)

-- a text with blanks to its right or left, up to a width
abbrev pub padded : ℕ → Bool → List ℕ → List ℕ
padded width left text =
    if left then text ++ replicate (width - length text) 32 else replicate (width - length text) 32 ++ text

-- a value at its width: padded and cut, by bytes; as it is without a width
abbrev pub fitted : ℕ → Bool → List ℕ → List ℕ
fitted width left text = if width == 0 then text else take width (padded width left text)

abbrev pub shown_value : Shown → Option (List ℕ) → List ℕ
shown_value s None = []
shown_value s (Some text) = fitted s.width s.left text

-- what stands for a piece of a format
abbrev pub piece_text : Option (List ℕ) → Record → List Field → Piece → List ℕ
piece_text root r fields (piece.Byte b) = b ∷ []
piece_text root r fields (piece.Field s) = shown_value s (value root r fields s.name)

unfoldable pub shown_record : Option (List ℕ) → List Piece → Record → List ℕ
shown_record root pieces r = flat_map (piece_text root r (paragraph_of r)) pieces

-- records one after another under a format
abbrev pub formatted_text : Option (List ℕ) → List Piece → List Record → List ℕ
formatted_text root pieces records = flat_map (shown_record root pieces) records
