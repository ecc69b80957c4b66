-- What dpkg's words come to: the program's own words, a text, or a refusal.
use Rattle.std.specs.Prelude.{ℕ, ◌&&◌, ◌||◌, ◌==◌, Bool, true, false, not, List, [], ◌∷◌, ◌++◌, Option, Some, None, codes, if◌then◌else◌, is_some}
use Rattle.std.specs.List.{list_any}
use Rattle.std.specs.Str.{bytes_eq}
use Rattle.dpkg_words.specs.Arguments.{asking_words, behind_dashes, changing_words, configuring_words, listing_words, plain_names, removing_words, root_of, tree_front, triggering_words}
use Rattle.dpkg_words.specs.Options.{Text, name_of}
use Rattle.dpkg_words.specs.Picking.{picks}
use Rattle.dpkg_words.specs.Reading.{administration_of, read_all}
use Rattle.dpkg_words.specs.Refusals.{fault_line}
use Rattle.dpkg_words.specs.Screens.{help_screen, version_of}
use Rattle.dpkg_words.specs.declared.options.Action.{Action}
use Rattle.dpkg_words.specs.declared.options.Action.TheVariants as action
use Rattle.dpkg_words.specs.declared.reading.Options.{Options}
use Rattle.dpkg_words.specs.declared.reading.Outcome.{Outcome}
use Rattle.dpkg_words.specs.declared.reading.Outcome.TheVariants as outcome
use Rattle.dpkg_words.specs.declared.reading.Reading.{Reading}
use Rattle.dpkg_words.specs.declared.refusals.Why.{Why}
use Rattle.dpkg_words.specs.declared.refusals.Why.TheVariants as why
use Rattle.dpkg_words.specs.declared.translation.Translated.{Translated}
use Rattle.dpkg_words.specs.declared.translation.Translated.TheVariants.{Ours, Gathers, Prints, Selects, Clears, Refused}

abbrev pub refusal : Why → Text → Translated
refusal why word = Refused (fault_line why word)

abbrev pub printed : Text → ℕ → Translated
printed text status = Prints (record { text = text; status = status })

-- the whole system's root, or one that begins with `/` (47)
abbrev pub is_rooted : Text → Bool
is_rooted [] = true
is_rooted (c ∷ cs) = c == 47

-- the administration is that of the root, and the root is absolute
abbrev pub rooted : Options → Translated → Translated
rooted o come =
    if bytes_eq o.admindir (administration_of o.instdir)
    then (if is_rooted o.instdir then come else refusal why.RelativeRoot o.instdir)
    else refusal why.Administration o.admindir

abbrev pub under_root : Options → List Text → Translated
under_root o words = rooted o (Ours words)

-- words before files: behind them stand these; or with `--recursive` the archives below these directories, or those that aren't
-- passed over
abbrev pub over_files : Options → List Text → List Text → Translated
over_files o front files =
    if o.recursive || picks o.picking
    then Gathers (record { front = front; root = root_of o.instdir; files = files; recursive = o.recursive; picking = o.picking })
    else Ours (behind_dashes front files)

-- no filter is passed over that can't be read
abbrev pub unless_unread : Option Text → Translated → Translated
unless_unread (Some pattern) come = refusal why.Filter pattern
unless_unread None come = come

-- `--install FILE..` or `--unpack FILE..`
abbrev pub trees : Action → Text → Bool → Options → List Text → Translated
trees asked name as_given o [] = refusal why.NoWords (name_of asked)
trees asked name as_given o (w ∷ ws) = unless_unread o.unread (rooted o (over_files o (tree_front name as_given o) (w ∷ ws)))

-- `--configure PKG..`, or `--configure --pending`: with no name, only that asks for all
abbrev pub configured_by : Bool → Options → List Text → Translated
configured_by true o (w ∷ ws) = refusal why.Words (codes "--pending")
configured_by true o [] = under_root o (configuring_words o [])
configured_by false o [] = refusal why.NoWords (codes "--configure")
configured_by false o (w ∷ ws) = under_root o (configuring_words o (w ∷ ws))

abbrev pub configured : Options → List Text → Translated
configured o words = configured_by o.pending o words

-- `--triggers-only --pending`, or `--triggers-only PKG..`: all triggers that are pending, also where packages are named
abbrev pub triggered_by : Bool → Options → List Text → Translated
triggered_by true o (w ∷ ws) = refusal why.Words (codes "--pending")
triggered_by true o [] = under_root o (triggering_words o)
triggered_by false o [] = refusal why.NoWords (codes "--triggers-only")
triggered_by false o (w ∷ ws) = under_root o (triggering_words o)

abbrev pub triggered : Options → List Text → Translated
triggered o words = triggered_by o.pending o words

-- `--remove --pending` or `--purge --pending`: of all packages that are selected to go
abbrev pub removed_selected : Options → List Text → Translated
removed_selected o [] = under_root o (removing_words (codes "remove-selected") o [])
removed_selected o (w ∷ ws) = refusal why.Words (codes "--pending")

-- `--remove PKG..` or `--purge PKG..`
abbrev pub removed_by : Bool → Action → Text → Options → List Text → Translated
removed_by true asked name o words = removed_selected o words
removed_by false asked name o [] = refusal why.NoWords (name_of asked)
removed_by false asked name o (w ∷ ws) = under_root o (removing_words name o (w ∷ ws))

abbrev pub removed : Action → Text → Options → List Text → Translated
removed asked name o words = removed_by o.pending asked name o words

-- `--set-selections`, on standard input
abbrev pub selecting : Options → List Text → Translated
selecting o [] = rooted o (Selects (changing_words (codes "select") o))
selecting o (w ∷ ws) = refusal why.Words (codes "--set-selections")

-- `--clear-selections`, of all packages that aren't essential
abbrev pub clear_selections : Options → List Text → Translated
clear_selections o [] = rooted o (Clears (record { front = changing_words (codes "select") o; root = root_of o.instdir }))
clear_selections o (w ∷ ws) = refusal why.Words (codes "--clear-selections")

-- `--get-selections [PATTERN..]`
abbrev pub selections : Options → List Text → Translated
selections o words = under_root o (asking_words (codes "selections") o (plain_names words))

-- `--list [PATTERN..]`
abbrev pub listed : Options → List Text → Translated
listed o words = under_root o (listing_words o (plain_names words))

-- `--status PKG` or `--listfiles PKG`
abbrev pub asked_one : Action → Text → Options → List Text → Translated
asked_one asked name o (w ∷ []) = under_root o (asking_words name o (plain_names (w ∷ [])))
asked_one asked name o _ = refusal why.OneWord (name_of asked)

-- `[` or `\`
abbrev pub is_sign : ℕ → Bool
is_sign byte = byte == 91 || byte == 92

abbrev pub has_signs : Text → Bool
has_signs word = list_any is_sign word

-- some text in which these aren't signs
abbrev pub is_searchable : Text → Bool
is_searchable [] = false
is_searchable (c ∷ cs) = not (has_signs (c ∷ cs))

-- a path, or a pattern for paths: it begins with `/`, `*` or `?`
abbrev pub is_whole : Text → Bool
is_whole [] = false
is_whole (c ∷ cs) = c == 47 || c == 42 || c == 63

-- a word that is neither is a part of a path
abbrev pub sought : Text → Text
sought word = if is_whole word then word else codes "*" ++ (word ++ codes "*")

-- `--search PATH`, `--search PATTERN`, or a part of a path
abbrev pub searched : Options → List Text → Translated
searched o (w ∷ []) = if is_searchable w then under_root o (asking_words (codes "search") o (sought w ∷ [])) else refusal why.Pattern w
searched o _ = refusal why.OneWord (codes "--search")

-- `--audit`, of all packages
abbrev pub audited : Options → List Text → Translated
audited o [] = under_root o (asking_words (codes "audit") o [])
audited o (w ∷ ws) = refusal why.Words (codes "--audit")

-- `--verify [PKG..]`
abbrev pub verified : Options → List Text → Translated
verified o words = under_root o (asking_words (codes "verify") o (plain_names words))

abbrev pub status_for : Bool → ℕ
status_for true = 0
status_for false = 1

-- For dpkg an empty version is earlier than any by these operators, and by the program's own words later by those with `-nl`: so the
-- same is asked of the two the other way round.
abbrev pub late_operator : Text → Option Text
late_operator operator =
    if bytes_eq operator (codes "lt") then Some (codes "lt-nl")
    else if bytes_eq operator (codes "<<") then Some (codes "lt-nl")
    else if bytes_eq operator (codes "le") then Some (codes "le-nl")
    else if bytes_eq operator (codes "<=") then Some (codes "le-nl")
    else if bytes_eq operator (codes "<") then Some (codes "le-nl")
    else if bytes_eq operator (codes "ge") then Some (codes "ge-nl")
    else if bytes_eq operator (codes ">=") then Some (codes "ge-nl")
    else if bytes_eq operator (codes ">") then Some (codes "ge-nl")
    else if bytes_eq operator (codes "gt") then Some (codes "gt-nl")
    else if bytes_eq operator (codes ">>") then Some (codes "gt-nl")
    else None

-- a comparison in the program's own words
abbrev pub comparison : Text → Text → Text → Translated
comparison a operator b = Ours (behind_dashes (codes "coizkerra" ∷ codes "compare-versions" ∷ []) (a ∷ operator ∷ b ∷ []))

-- the other way round, if the operator has one that is for that
abbrev pub turned_round : Text → Text → Text → Option Text → Translated
turned_round a operator b None = comparison a operator b
turned_round a operator b (Some late) = comparison b late a

abbrev pub is_empty : Text → Bool
is_empty text = bytes_eq text (codes "")

abbrev pub is_equality : Text → Bool
is_equality operator = bytes_eq operator (codes "eq") || bytes_eq operator (codes "=")

-- where a version may be empty: it equals an empty one alone
abbrev pub compared_with_empty : Text → Text → Text → Translated
compared_with_empty a operator b =
    if is_equality operator then printed [] (status_for (bytes_eq a b))
    else if bytes_eq operator (codes "ne") then printed [] (status_for (not (bytes_eq a b)))
    else turned_round a operator b (late_operator operator)

-- `--compare-versions VERSION OPERATOR VERSION`
abbrev pub compared : List Text → Translated
compared (a ∷ operator ∷ b ∷ []) = if is_empty a || is_empty b then compared_with_empty a operator b else comparison a operator b
compared _ = refusal why.ThreeWords (codes "--compare-versions")

-- `--validate-version VERSION`: only a version can be compared, with itself
abbrev pub validated : List Text → Translated
validated (v ∷ []) = Ours (behind_dashes (codes "coizkerra" ∷ codes "compare-versions" ∷ []) (v ∷ codes "eq" ∷ v ∷ []))
validated _ = refusal why.OneWord (codes "--validate-version")

-- what is told without a look at a root
abbrev pub told : Action → Text → ℕ → List Text → Translated
told asked text status [] = printed text status
told asked text status (w ∷ ws) = refusal why.Words (name_of asked)

-- what an action comes to, with the options and the words behind them
abbrev pub done : Action → Options → List Text → Translated
done action.Install o words = trees action.Install (codes "install") true o words
done action.Unpack o words = trees action.Unpack (codes "unpack") false o words
done action.Configure o words = configured o words
done action.TriggersOnly o words = triggered o words
done action.Remove o words = removed action.Remove (codes "remove") o words
done action.Purge o words = removed action.Purge (codes "purge") o words
done action.SetSelections o words = selecting o words
done action.ClearSelections o words = clear_selections o words
done action.GetSelections o words = selections o words
done action.Status o words = asked_one action.Status (codes "status") o words
done action.List o words = listed o words
done action.ListFiles o words = asked_one action.ListFiles (codes "listfiles") o words
done action.Search o words = searched o words
done action.Audit o words = audited o words
done action.Verify o words = verified o words
done action.CompareVersions o words = compared words
done action.ValidateVersion o words = validated words
done action.PrintArchitecture o words = told action.PrintArchitecture (codes "amd64\n") 0 words
done action.PrintForeignArchitectures o words = told action.PrintForeignArchitectures [] 0 words
done (action.Assert holds) o words = told (action.Assert holds) [] (status_for holds) words

-- what ends the reading before any action
abbrev pub ended_by : Outcome → Options → Translated
ended_by outcome.Help o = printed help_screen 0
ended_by outcome.Version o = printed (version_of o.robot) 0
ended_by (outcome.Fault why word) o = refusal why word

-- the last option may lack its value, and there may be no action
abbrev pub acted : Bool → Option Action → Reading → Translated
acted true asked r = refusal why.NoValue []
acted false (Some asked) r = done asked r.options r.words
acted false None r = refusal why.NoAction []

abbrev pub unless_ended : Option Outcome → Reading → Translated
unless_ended (Some ending) r = ended_by ending r.options
unless_ended None r = acted (is_some r.wants) r.options.action r

abbrev pub translated_from : Reading → Translated
translated_from r = unless_ended r.outcome r

abbrev pub behind_program : List Text → List Text
behind_program [] = []
behind_program (name ∷ words) = words

-- What dpkg's words come to, the first of which is the program's name.
unfoldable pub translated : List Text → Translated
translated words = translated_from (read_all (behind_program words))
