-- What help is asked on, and its screen.
use Rattle.std.specs.Prelude.{◌≡◌, ◌||◌, Bool, true, false, ℕ, List, [], ◌∷◌, ◌++◌, Option, Some, None, codes, if◌then◌else◌, string_bytes}
use Rattle.std.specs.Str.{bytes_eq}
use Rattle.clap.specs.Words.{Text}
use Rattle.command_words.specs.declared.help.Topic.{Topic}
use Rattle.command_words.specs.declared.help.Topic.TheVariants as topic
use Rattle.command_words.specs.declared.words.WordsFault.{WordsFault}
use Rattle.command_words.specs.declared.words.WordsFault.TheVariants.{Usage, NoMemory}

-- the subcommand of a name
abbrev pub topic_of : List ℕ → Option Topic
topic_of name =
    if bytes_eq name (codes "audit") then Some topic.Audit
    else if bytes_eq name (codes "compare-versions") then Some topic.CompareVersions
    else if bytes_eq name (codes "configure") then Some topic.Configure
    else if bytes_eq name (codes "diversions") then Some topic.Diversions
    else if bytes_eq name (codes "divert") then Some topic.Divert
    else if bytes_eq name (codes "help") then Some topic.Help
    else if bytes_eq name (codes "install") then Some topic.Install
    else if bytes_eq name (codes "list") then Some topic.List
    else if bytes_eq name (codes "listfiles") then Some topic.ListFiles
    else if bytes_eq name (codes "purge") then Some topic.Purge
    else if bytes_eq name (codes "remove") then Some topic.Remove
    else if bytes_eq name (codes "remove-selected") then Some topic.RemoveSelected
    else if bytes_eq name (codes "search") then Some topic.Search
    else if bytes_eq name (codes "select") then Some topic.Select
    else if bytes_eq name (codes "selections") then Some topic.Selections
    else if bytes_eq name (codes "status") then Some topic.Status
    else if bytes_eq name (codes "truename") then Some topic.Truename
    else if bytes_eq name (codes "undivert") then Some topic.Undivert
    else if bytes_eq name (codes "unpack") then Some topic.Unpack
    else if bytes_eq name (codes "verify") then Some topic.Verify
    else None

-- the program where no subcommand is named
abbrev pub topic_in : Option Text → Option Topic
topic_in None = Some topic.Program
topic_in (Some name) = topic_of name

-- the program where the words name none
abbrev pub topic_named : Option Topic → Topic
topic_named None = topic.Program
topic_named (Some named) = named

-- the subcommand that stands behind the program's name
abbrev pub named_in : List Text → Topic
named_in [] = topic.Program
named_in (program ∷ []) = topic.Program
named_in (program ∷ name ∷ rest) = topic_named (topic_of name)

-- the program's name and version
abbrev pub version_line : List ℕ
version_line = codes "coizkerra 0.2.0\n"

abbrev pub is_help_flag : Text → Bool
is_help_flag word = bytes_eq word (codes "-h") || bytes_eq word (codes "--help")

-- a flag for help among words; behind `--` no word is a flag
abbrev pub has_help_flag : List Text → Bool
has_help_flag [] = false
has_help_flag (word ∷ words) =
    if bytes_eq word (codes "--") then false
    else if is_help_flag word then true
    else has_help_flag words

-- how the words of a topic are put
abbrev pub usage_words : Topic → List ℕ
usage_words topic.Program = codes "COMMAND .."
usage_words topic.Audit = codes "audit [--root DIR] [--json]"
usage_words topic.CompareVersions = codes "compare-versions A OP B"
usage_words topic.Configure = codes "configure [--root DIR] [--json] [--wait SECONDS] [--status-fd N].. [--log FILE] [--dry-run [--changes] [--assume-failure PKG:SCRIPT:WORD]..] [--scripts-stderr] [--abort-after N] [--force-confold | --force-confnew] [--force-confmiss] [--force-depends] ([--no-triggers] [PKG..] | --triggers-only)"
usage_words topic.Diversions = codes "diversions [--root DIR] [--json]"
usage_words topic.Divert = codes "divert [--root DIR] [--json] [--wait SECONDS] [--status-fd N].. [--log FILE] [--dry-run [--changes] [--assume-failure PKG:SCRIPT:WORD]..] (--package P | --local) [--divert TARGET] [--rename] PATH"
usage_words topic.Help = codes "help [COMMAND]"
usage_words topic.Install = codes "install [--root DIR] [--json] [--wait SECONDS] [--status-fd N].. [--log FILE] [--dry-run [--changes] [--assume-failure PKG:SCRIPT:WORD]..] [--scripts-stderr] [--no-triggers] [--abort-after N] [--owner-root] [--auto-deconfigure] [--path-exclude PATTERN | --path-include PATTERN].. [--force-confold | --force-confnew] [--force-confmiss] [--force-depends] [--as-given] TREE.."
usage_words topic.List = codes "list [--root DIR] [--json | --table | --format FORMAT] [PATTERN..]"
usage_words topic.ListFiles = codes "listfiles [--root DIR] [--json] PKG"
usage_words topic.Purge = codes "purge [--root DIR] [--json] [--wait SECONDS] [--status-fd N].. [--log FILE] [--dry-run [--changes] [--assume-failure PKG:SCRIPT:WORD]..] [--scripts-stderr] [--no-triggers] [--abort-after N] [--force-depends] PKG.."
usage_words topic.Remove = codes "remove [--root DIR] [--json] [--wait SECONDS] [--status-fd N].. [--log FILE] [--dry-run [--changes] [--assume-failure PKG:SCRIPT:WORD]..] [--scripts-stderr] [--no-triggers] [--abort-after N] [--force-depends] PKG.."
usage_words topic.RemoveSelected = codes "remove-selected [--root DIR] [--json] [--wait SECONDS] [--status-fd N].. [--log FILE] [--dry-run [--changes] [--assume-failure PKG:SCRIPT:WORD]..] [--scripts-stderr] [--no-triggers] [--abort-after N] [--force-depends]"
usage_words topic.Search = codes "search [--root DIR] [--json] PATH | PATTERN"
usage_words topic.Select = codes "select [--root DIR] [--json] [--wait SECONDS] [--status-fd N].. [--log FILE] [--dry-run [--changes] [--assume-failure PKG:SCRIPT:WORD]..] PKG=WANT.."
usage_words topic.Selections = codes "selections [--root DIR] [--json] [PATTERN..]"
usage_words topic.Status = codes "status [--root DIR] [--json] PKG"
usage_words topic.Truename = codes "truename [--root DIR] [--json] [--package P] PATH"
usage_words topic.Undivert = codes "undivert [--root DIR] [--json] [--wait SECONDS] [--status-fd N].. [--log FILE] [--dry-run [--changes] [--assume-failure PKG:SCRIPT:WORD]..] (--package P | --local) [--rename] PATH"
usage_words topic.Unpack = codes "unpack [--root DIR] [--json] [--wait SECONDS] [--status-fd N].. [--log FILE] [--dry-run [--changes] [--assume-failure PKG:SCRIPT:WORD]..] [--scripts-stderr] [--no-triggers] [--abort-after N] [--owner-root] [--auto-deconfigure] [--path-exclude PATTERN | --path-include PATTERN].. [--force-confold | --force-confnew] [--force-confmiss] [--force-depends] TREE.."
usage_words topic.Verify = codes "verify [--root DIR] [--json] [PKG.. | --tree TREE [--owner-root]]"

-- a screen: how the words of the topic are put, and what is told of it
abbrev pub IsScreen : Topic → List ℕ → Type 0
IsScreen asked text = (about : List ℕ) × (text ≡ codes "Usage: coizkerra " ++ (usage_words asked ++ (codes "\n\n" ++ about)))

-- the screen stands behind why words ask for nothing
abbrev pub HasScreen : Topic → List ℕ → Type 0
HasScreen asked text = (why screen : List ℕ) × IsScreen asked screen × (text ≡ why ++ (codes "\n\n" ++ screen))

-- a usage fault is told with the screen of a topic
abbrev pub IsToldOf : Topic → WordsFault → Type 0
IsToldOf asked (Usage text) = HasScreen asked (string_bytes text)
IsToldOf asked NoMemory = Unit {0}
