-- How a record is written as a paragraph, and what a paragraph says.
use Rattle.std.specs.Prelude.{◌≡◌, ◌⊎◌, ℕ, Bool, true, false, not, ◌&&◌, cond, List, [], ◌∷◌, ◌++◌, Option, Some, None, is_some, IfSome, map, codes}
use Rattle.std.specs.List.{list_any, AllByRecursion}
use Rattle.std.specs.Str.{bytes_eq}
use Rattle.control_fields.specs.Names.{lower}
use Rattle.control_fields.specs.Spelling.{spell}
use Rattle.control_fields.specs.declared.field.Field.{Field}
use Rattle.texts.specs.PackageNames.{is_package_name}
use Rattle.version_order.specs.Versions.{IsVersion}
use Rattle.status_records.specs.declared.entries.ConffileEntry.{ConffileEntry}
use Rattle.status_records.specs.declared.entries.PendingDigest.{PendingDigest}
use Rattle.status_records.specs.declared.record.Record.{Record}
use Rattle.status_records.specs.declared.words.Want.{Want}
use Rattle.status_records.specs.declared.words.Flag.{Flag}
use Rattle.status_records.specs.declared.words.State.{State}
use Rattle.status_records.specs.declared.words.StateWord.{StateWord}
use Rattle.status_records.specs.declared.words.StateWord.TheVariants.{NotInstalled}
use Rattle.status_records.specs.declared.triggers.Triggers.{Triggers}
use Rattle.status_records.specs.Words.{status_text, word_of, is_not_installed, is_installed}
use Rattle.status_records.specs.TriggerNames.{are_trigger_names}
use Rattle.status_records.specs.Fields.{recorded_fields}
use Rattle.status_records.specs.Order.{merged}
use Rattle.status_records.specs.Values.{IsReadable}
use Rattle.status_records.specs.ConffilePaths.{AreInOrder, in_path_order}
use Rattle.status_records.specs.ConffileFields.{conffile_words, pending_words, words_of_conffile, words_of_pending, conffile_line, pending_line}

-- a field of one line
abbrev pub line_field : List ℕ → List ℕ → Field
line_field name value = record { name = name; first = value; more = [] }

-- the fields that each record has
abbrev pub first_fields : List ℕ → List ℕ → List ℕ → List Field
first_fields name status version = line_field (codes "Package") name ∷ line_field (codes "Status") status ∷ line_field (codes "Version") version ∷ []

-- the version last configured, where there is one beside the record's own
abbrev pub config_field : Option (List ℕ) → List Field
config_field None = []
config_field (Some version) = line_field (codes "Config-Version") version ∷ []

-- written only where a removal has reached the package's files
abbrev pub removed_field : Bool → List Field
removed_field removed = cond removed (line_field (codes "Removed-Since") (codes "yes") ∷ []) []

-- a field whose value stands on the lines behind its name; none without lines
abbrev pub lines_field : List ℕ → List (List ℕ) → List Field
lines_field name [] = []
lines_field name (line ∷ lines) = record { name = name; first = []; more = line ∷ lines } ∷ []

-- names of triggers or packages, where there are any
abbrev pub names_field : List ℕ → Option (List ℕ) → List Field
names_field name None = []
names_field name (Some names) = line_field name names ∷ []

abbrev pub trigger_fields : Triggers → List Field
trigger_fields t = names_field (codes "Triggers-Pending") t.pending ++ names_field (codes "Triggers-Awaited") t.awaited

-- the word of a record's state
abbrev pub record_word : Record → StateWord
record_word r = word_of r.state (is_some r.triggers.pending) (is_some r.triggers.awaited)

-- The fields of a record's own in dpkg's order, and behind them the two that dpkg doesn't name.
abbrev pub own_fields : Record → List Field
own_fields r =
    first_fields r.name (status_text r.want r.flag (record_word r)) r.version
    ++ (config_field r.config_version
    ++ (lines_field (codes "Conffiles") (map conffile_line r.conffiles)
    ++ (trigger_fields r.triggers
    ++ (removed_field r.removed_since ++ lines_field (codes "New-Conffiles") (map pending_line r.pending)))))

-- a record's own fields, each before the first other one that stands behind it in dpkg's order
abbrev pub paragraph_of : Record → List Field
paragraph_of r = merged (own_fields r) r.fields

-- a record's lines in the status file
abbrev pub record_text : Record → List ℕ
record_text r = spell (paragraph_of r)

-- what holds of the parts of each record
pub record HasParts (r : Record) : Type 0 where
  pub version : IsVersion r.version
  pub config_version : IfSome r.config_version IsVersion
  pub conffiles : AreInOrder (map (λ e. e.path) r.conffiles)
  pub pending : AreInOrder (map (λ p. p.path) r.pending)
  pub triggers_pending : IfSome r.triggers.pending (λ names. are_trigger_names names ≡ true)
  pub triggers_awaited : IfSome r.triggers.awaited (λ names. are_trigger_names names ≡ true)

-- the field of a name, which is given in lower case
abbrev pub field_in : List ℕ → List Field → Option Field
field_in text [] = None
field_in text (f ∷ fs) = cond (bytes_eq (lower f.name) text) (Some f) (field_in text fs)

-- the field of a name has this value, on one line
pub record Says (text : List ℕ) (fields : List Field) (value : List ℕ) : Type 0 where
  pub field : Field
  pub there : field_in text fields ≡ Some field
  pub value_is : field.first ≡ value
  pub one_line : field.more ≡ []

-- the paragraph is of the package of this name
abbrev pub IsNamed : List Field → List ℕ → Type 0
IsNamed fields name = Says (codes "package") fields name × (is_package_name name ≡ true)

-- the state is not-installed
abbrev pub IsGone : List Field → Type 0
IsGone fields = (want : Want) × (flag : Flag) × Says (codes "status") fields (status_text want flag NotInstalled)

-- what stands on a field's own line, and the lines that go on with it; nothing where the field is missing
abbrev pub line_of : Option Field → Option (List ℕ)
line_of None = None
line_of (Some f) = Some f.first

abbrev pub lines_of_field : Option Field → List (List ℕ)
lines_of_field None = []
lines_of_field (Some f) = f.more

-- whether a package of this state is installed and awaits no triggers
abbrev pub is_configured_in : State → List Field → Bool
is_configured_in state fields = is_installed state && not (is_some (field_in (codes "triggers-awaited") fields))

-- Config-Version; that of an installed package isn't looked at, since its Version was configured last. Where triggers are awaited
-- dpkg keeps it, and so it is kept here.
abbrev pub earlier_version : State → List Field → Option (List ℕ)
earlier_version state fields = cond (is_configured_in state fields) None (line_of (field_in (codes "config-version") fields))

-- the lines of the conffiles, and of the digests that aren't settled yet
abbrev pub conffile_lines : List Field → List (List ℕ)
conffile_lines fields = lines_of_field (field_in (codes "conffiles") fields)

abbrev pub pending_lines : List Field → List (List ℕ)
pending_lines fields = lines_of_field (field_in (codes "new-conffiles") fields)

-- the lines say these entries, which stand in path order
abbrev pub AreConffilesOf : List (List ℕ) → List ConffileEntry → Type 0
AreConffilesOf lines entries = map words_of_conffile entries ≡ in_path_order (λ w. w.path) (map conffile_words lines)

abbrev pub ArePendingOf : List (List ℕ) → List PendingDigest → Type 0
ArePendingOf lines pending = map words_of_pending pending ≡ in_path_order (λ w. w.path) (map pending_words lines)

-- what a paragraph says of a package that isn't gone
pub record IsRecordOf (fields : List Field) (r : Record) : Type 0 where
  pub name : Says (codes "package") fields r.name
  pub status : Says (codes "status") fields (status_text r.want r.flag (record_word r))
  pub version : Says (codes "version") fields r.version
  pub config_version : r.config_version ≡ earlier_version r.state fields
  pub removed_since : r.removed_since ≡ is_some (field_in (codes "removed-since") fields)
  pub conffiles : AreConffilesOf (conffile_lines fields) r.conffiles
  pub pending : ArePendingOf (pending_lines fields) r.pending
  pub triggers_pending : r.triggers.pending ≡ line_of (field_in (codes "triggers-pending") fields)
  pub triggers_awaited : r.triggers.awaited ≡ line_of (field_in (codes "triggers-awaited") fields)
  pub others : r.fields ≡ recorded_fields fields
  pub stands : is_not_installed r.state ≡ false

-- what a paragraph says: its package's name, and the records that it stands for, none where the package is gone
pub record SaysEntry (fields : List Field) (name : List ℕ) (kept : List Record) : Type 0 where
  pub named : IsNamed fields name
  pub stands_for : (IsGone fields × (kept ≡ [])) ⊎ ((r : Record) × IsRecordOf fields r × (kept ≡ r ∷ []))

-- a paragraph after those of other packages, each value of which can be read
pub record IsEntry (names : List (List ℕ)) (fields : List Field) (name : List ℕ) (kept : List Record) : Type 0 where
  pub says : SaysEntry fields name kept
  pub new : list_any (bytes_eq name) names ≡ false
  pub readable : AllByRecursion IsReadable fields

-- Paragraphs one after another, from the names and records of those before to those behind.
abbrev pub Enters : List (List ℕ) → List Record → List (List Field) → List (List ℕ) → List Record → Type 0
Enters names records [] names' records' = (names' ≡ names) × (records' ≡ records)
Enters names records (p ∷ ps) names' records' =
    (name : List ℕ) × (kept : List Record) × IsEntry names p name kept × Enters (names ++ name ∷ []) (records ++ kept) ps names' records'
