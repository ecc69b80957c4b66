-- The command line, as clap's rules: the subcommands with their flags and words.
use Rattle.std.specs.Prelude.{ℕ, Bool, true, false, List, [], ◌∷◌, ◌++◌, ◌&&◌, map, fold, Some, codes}
use Rattle.std.specs.Cmp.Lexicographic.{slice_cmp}
use Rattle.std.specs.List.{flat_map}
use Rattle.std.specs.Ordering.{is_lt, nat_cmp}
use Rattle.clap.specs.Words.{App, Rule, Shape, Text, new_app, new_rule, with_rule, with_subcommand}
use Rattle.clap.specs.declared.builder.ArgAction.TheVariants.{Append, Set, SetTrue}

-- a word that has to be given, at its place
abbrev pub word_rule : Text → Rule
word_rule id = record (new_rule id) { action = Some Set; required = true }

-- a word that may be given, at its place
abbrev pub maybe_word_rule : Text → Rule
maybe_word_rule id = record (new_rule id) { action = Some Set }

-- `--root DIR`, `/` if it isn't given
abbrev pub root_rule : Rule
root_rule = record (new_rule (codes "root")) { long = Some (codes "root"); action = Some Set; defaults = codes "/" ∷ [] }

-- an option with a value, as `--package P`
abbrev pub option_rule : Text → Rule
option_rule id = record (new_rule id) { long = Some id; action = Some Set }

-- a flag, as `--rename`
abbrev pub flag_rule : Text → Rule
flag_rule id = record (new_rule id) { long = Some id; action = Some SetTrue }

-- an option with a value that may be given again and again, as `--assume-failure CALL`
abbrev pub options_rule : Text → Rule
options_rule id = record (new_rule id) { long = Some id; action = Some Append }

-- words at the last places, as `TREE..`
abbrev pub words_rule : Text → Bool → Rule
words_rule id required = record (new_rule id) { action = Some Append; required = required }

-- `compare-versions A OP B`
abbrev pub compare_versions_app : App
compare_versions_app = with_rule (with_rule (with_rule (new_app (codes "compare-versions")) (word_rule (codes "A"))) (word_rule (codes "OP"))) (word_rule (codes "B"))

-- `help [COMMAND]`
abbrev pub help_app : App
help_app = with_rule (new_app (codes "help")) (maybe_word_rule (codes "COMMAND"))

-- a subcommand that has a root, and prints lines: `--json`
abbrev pub rooted_app : Text → App
rooted_app name = with_rule (with_rule (new_app name) root_rule) (flag_rule (codes "json"))

-- `--dry-run`, `--changes` and `--assume-failure PKG:SCRIPT:WORD`
abbrev pub with_rehearsal : App → App
with_rehearsal a = with_rule (with_rule (with_rule a (flag_rule (codes "dry-run"))) (flag_rule (codes "changes"))) (options_rule (codes "assume-failure"))

-- `--status-fd N` and `--log FILE`
abbrev pub with_frontends : App → App
with_frontends a = with_rule (with_rule a (options_rule (codes "status-fd"))) (option_rule (codes "log"))

-- a subcommand that changes what is under a root: `--wait SECONDS`
abbrev pub changing_app : Text → App
changing_app name = with_rehearsal (with_frontends (with_rule (rooted_app name) (option_rule (codes "wait"))))

-- a subcommand that asks for one word under a root
abbrev pub asking_app : Text → Text → App
asking_app name id = with_rule (rooted_app name) (word_rule id)

-- a subcommand that asks of all packages, or of those whose names match patterns
abbrev pub matching_app : Text → App
matching_app name = with_rule (rooted_app name) (words_rule (codes "PATTERN") false)

-- `list [--root DIR] [--json | --table | --format FORMAT] [PATTERN..]`
abbrev pub list_app : App
list_app = with_rule (with_rule (with_rule (rooted_app (codes "list")) (flag_rule (codes "table"))) (option_rule (codes "format"))) (words_rule (codes "PATTERN") false)

-- `truename [--root DIR] [--json] [--package P] PATH`
abbrev pub truename_app : App
truename_app = with_rule (with_rule (rooted_app (codes "truename")) (option_rule (codes "package"))) (word_rule (codes "PATH"))

-- `--package P` and `--local`
abbrev pub with_owner : App → App
with_owner a = with_rule (with_rule a (option_rule (codes "package"))) (flag_rule (codes "local"))

-- `--rename` and `PATH`
abbrev pub with_diverted : App → App
with_diverted a = with_rule (with_rule a (flag_rule (codes "rename"))) (word_rule (codes "PATH"))

-- `divert [--root DIR] [--json] [--wait SECONDS] [--status-fd N].. [--log FILE] [--dry-run [--changes] [--assume-failure PKG:SCRIPT:WORD]..] (--package P | --local) [--divert TARGET] [--rename] PATH`
abbrev pub divert_app : App
divert_app = with_diverted (with_rule (with_owner (changing_app (codes "divert"))) (option_rule (codes "divert")))

-- `undivert [--root DIR] [--json] [--wait SECONDS] [--status-fd N].. [--log FILE] [--dry-run [--changes] [--assume-failure PKG:SCRIPT:WORD]..] (--package P | --local) [--rename] PATH`
abbrev pub undivert_app : App
undivert_app = with_diverted (with_owner (changing_app (codes "undivert")))

-- `--force-confold`, `--force-confnew` and `--force-confmiss`
abbrev pub with_conffiles_forced : App → App
with_conffiles_forced a = with_rule (with_rule (with_rule a (flag_rule (codes "force-confold"))) (flag_rule (codes "force-confnew"))) (flag_rule (codes "force-confmiss"))

-- these and `--force-depends`
abbrev pub with_forced : App → App
with_forced a = with_rule (with_conffiles_forced a) (flag_rule (codes "force-depends"))

-- `--path-exclude PATTERN` and `--path-include PATTERN`
abbrev pub with_filters : App → App
with_filters a = with_rule (with_rule a (options_rule (codes "path-exclude"))) (options_rule (codes "path-include"))

-- one that calls scripts: `--scripts-stderr`, `--no-triggers` and `--abort-after N`
abbrev pub calling_app : Text → App
calling_app name = with_rule (with_rule (with_rule (changing_app name) (flag_rule (codes "scripts-stderr"))) (flag_rule (codes "no-triggers"))) (option_rule (codes "abort-after"))

-- `install [--root DIR] [--json] [--wait SECONDS] [--status-fd N].. [--log FILE] [--dry-run [--changes] [--assume-failure PKG:SCRIPT:WORD]..] [--scripts-stderr] [--no-triggers] [--abort-after N] [--owner-root] [--auto-deconfigure]
-- [--path-exclude PATTERN | --path-include PATTERN].. [--force-confold | --force-confnew] [--force-confmiss] [--force-depends] [--as-given] TREE..`; `unpack` likewise, without `--as-given`
abbrev pub unpacking_app : Text → App
unpacking_app name = with_forced (with_filters (with_rule (with_rule (calling_app name) (flag_rule (codes "owner-root"))) (flag_rule (codes "auto-deconfigure"))))

abbrev pub install_app : App
install_app = with_rule (with_rule (unpacking_app (codes "install")) (flag_rule (codes "as-given"))) (words_rule (codes "TREE") true)

abbrev pub unpack_app : App
unpack_app = with_rule (unpacking_app (codes "unpack")) (words_rule (codes "TREE") true)

-- `configure [--root DIR] [--json] [--wait SECONDS] [--status-fd N].. [--log FILE] [--dry-run [--changes] [--assume-failure PKG:SCRIPT:WORD]..] [--scripts-stderr] [--abort-after N]
-- [--force-confold | --force-confnew] [--force-confmiss] [--force-depends] ([--no-triggers] [PKG..] | --triggers-only)`
abbrev pub configure_app : App
configure_app = with_rule (with_rule (with_forced (calling_app (codes "configure"))) (flag_rule (codes "triggers-only"))) (words_rule (codes "PKG") false)

-- `remove [--root DIR] [--json] [--wait SECONDS] [--status-fd N].. [--log FILE] [--dry-run [--changes] [--assume-failure PKG:SCRIPT:WORD]..] [--scripts-stderr] [--no-triggers] [--abort-after N] [--force-depends] PKG..`; `purge` likewise
abbrev pub removing_app : Text → App
removing_app name = with_rule (with_rule (calling_app name) (flag_rule (codes "force-depends"))) (words_rule (codes "PKG") true)

-- `remove-selected [--root DIR] [--json] [--wait SECONDS] [--status-fd N].. [--log FILE] [--dry-run [--changes] [--assume-failure PKG:SCRIPT:WORD]..] [--scripts-stderr] [--no-triggers] [--abort-after N] [--force-depends]`
abbrev pub remove_selected_app : App
remove_selected_app = with_rule (calling_app (codes "remove-selected")) (flag_rule (codes "force-depends"))

-- `select [--root DIR] [--json] [--wait SECONDS] [--status-fd N].. [--log FILE] [--dry-run [--changes] [--assume-failure PKG:SCRIPT:WORD]..] PKG=WANT..`
abbrev pub select_app : App
select_app = with_rule (changing_app (codes "select")) (words_rule (codes "PKG=WANT") true)

-- `verify [--root DIR] [--json] [--tree TREE] [--owner-root] [PKG..]`
abbrev pub verify_app : App
verify_app = with_rule (with_rule (with_rule (rooted_app (codes "verify")) (option_rule (codes "tree"))) (flag_rule (codes "owner-root"))) (words_rule (codes "PKG") false)

-- clap's own flag and subcommand for help are none of ours
abbrev pub without_help : App → App
without_help a = record a { top = record a.top { disable_help_flag = true; disable_help_subcommand = true } }

-- a command to which subcommands are added in turn
abbrev pub with_all : App → List App → App
with_all whole apps = fold (λ a s. with_subcommand a s.top) whole apps

-- the subcommands, in the order of their names' bytes
abbrev pub first_apps : List App
first_apps = rooted_app (codes "audit") ∷ compare_versions_app ∷ configure_app ∷ []

abbrev pub second_apps : List App
second_apps = rooted_app (codes "diversions") ∷ divert_app ∷ help_app ∷ install_app ∷ []

abbrev pub third_apps : List App
third_apps = list_app ∷ asking_app (codes "listfiles") (codes "PKG") ∷ removing_app (codes "purge") ∷ []

abbrev pub fourth_apps : List App
fourth_apps = removing_app (codes "remove") ∷ remove_selected_app ∷ asking_app (codes "search") (codes "PATH") ∷ []

abbrev pub fifth_apps : List App
fifth_apps = select_app ∷ matching_app (codes "selections") ∷ asking_app (codes "status") (codes "PKG") ∷ []

abbrev pub last_apps : List App
last_apps = truename_app ∷ undivert_app ∷ unpack_app ∷ verify_app ∷ []

abbrev pub whole_app : App
whole_app = with_all (with_all (with_all (with_all (with_all (with_all (without_help (new_app (codes "coizkerra"))) first_apps) second_apps) third_apps) fourth_apps) fifth_apps) last_apps

-- the names that clap knows the subcommands by
abbrev pub subcommand_names : List Text
subcommand_names = map (λ (s : Shape). s.name) whole_app.subs

-- a line for each text
abbrev pub lines : List Text → List ℕ
lines texts = flat_map (λ text. text ++ codes "\n") texts

-- whether a text comes before the first of others in the order of bytes
abbrev pub is_before : Text → List Text → Bool
is_before x [] = true
is_before x (y ∷ ys) = is_lt (slice_cmp nat_cmp x y)

-- whether each text comes before the next
abbrev pub are_ascending : List Text → Bool
are_ascending [] = true
are_ascending (x ∷ xs) = is_before x xs && are_ascending xs
