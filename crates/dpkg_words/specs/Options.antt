-- dpkg's options: what each means here.
use Rattle.std.specs.Prelude.{ℕ, true, false, List, Option, Some, None, codes, if◌then◌else◌, nat_eq, option_and_then, option_map}
use Rattle.std.specs.Option.{option_or}
use Rattle.std.specs.Str.{bytes_eq}
use Rattle.dpkg_words.specs.declared.options.Action.{Action}
use Rattle.dpkg_words.specs.declared.options.Action.TheVariants as action
use Rattle.dpkg_words.specs.declared.options.Flag.{Flag}
use Rattle.dpkg_words.specs.declared.options.Flag.TheVariants as flag
use Rattle.dpkg_words.specs.declared.options.Valued.{Valued}
use Rattle.dpkg_words.specs.declared.options.Valued.TheVariants as valued
use Rattle.dpkg_words.specs.declared.options.Sense.{Sense}
use Rattle.dpkg_words.specs.declared.options.Sense.TheVariants.{Does, Sets, Takes, Help, Version}

abbrev pub Text : Type 0
Text = List ℕ

-- actions that change a root
abbrev pub action_of : Text → Option Action
action_of name =
    if bytes_eq name (codes "install") then Some action.Install
    else if bytes_eq name (codes "unpack") then Some action.Unpack
    else if bytes_eq name (codes "configure") then Some action.Configure
    else if bytes_eq name (codes "triggers-only") then Some action.TriggersOnly
    else if bytes_eq name (codes "remove") then Some action.Remove
    else if bytes_eq name (codes "purge") then Some action.Purge
    else if bytes_eq name (codes "set-selections") then Some action.SetSelections
    else if bytes_eq name (codes "clear-selections") then Some action.ClearSelections
    else None

-- actions that ask for something
abbrev pub question_of : Text → Option Action
question_of name =
    if bytes_eq name (codes "status") then Some action.Status
    else if bytes_eq name (codes "list") then Some action.List
    else if bytes_eq name (codes "listfiles") then Some action.ListFiles
    else if bytes_eq name (codes "search") then Some action.Search
    else if bytes_eq name (codes "audit") then Some action.Audit
    else if bytes_eq name (codes "get-selections") then Some action.GetSelections
    else if bytes_eq name (codes "verify") then Some action.Verify
    else if bytes_eq name (codes "compare-versions") then Some action.CompareVersions
    else if bytes_eq name (codes "validate-version") then Some action.ValidateVersion
    else if bytes_eq name (codes "print-architecture") then Some action.PrintArchitecture
    else if bytes_eq name (codes "print-foreign-architectures") then Some action.PrintForeignArchitectures
    else None

-- actions that ask whether dpkg has a feature: this program has no multi-arch, and doesn't read the field Protected
abbrev pub assertion_of : Text → Option Action
assertion_of name =
    if bytes_eq name (codes "assert-support-predepends") then Some (action.Assert true)
    else if bytes_eq name (codes "assert-working-epoch") then Some (action.Assert true)
    else if bytes_eq name (codes "assert-long-filenames") then Some (action.Assert true)
    else if bytes_eq name (codes "assert-multi-conrep") then Some (action.Assert true)
    else if bytes_eq name (codes "assert-versioned-provides") then Some (action.Assert true)
    else if bytes_eq name (codes "assert-multi-arch") then Some (action.Assert false)
    else if bytes_eq name (codes "assert-protected-field") then Some (action.Assert false)
    else None

-- options without a value; there are no pager and no signatures here
abbrev pub flag_of : Text → Option Flag
flag_of name =
    if bytes_eq name (codes "no-act") then Some flag.NoAct
    else if bytes_eq name (codes "dry-run") then Some flag.NoAct
    else if bytes_eq name (codes "simulate") then Some flag.NoAct
    else if bytes_eq name (codes "auto-deconfigure") then Some flag.AutoDeconfigure
    else if bytes_eq name (codes "pending") then Some flag.Pending
    else if bytes_eq name (codes "robot") then Some flag.Robot
    else if bytes_eq name (codes "recursive") then Some flag.Recursive
    else if bytes_eq name (codes "triggers") then Some flag.Triggers
    else if bytes_eq name (codes "no-triggers") then Some flag.NoTriggers
    else if bytes_eq name (codes "skip-same-version") then Some flag.SkipSame
    else if bytes_eq name (codes "refuse-downgrade") then Some flag.RefuseDowngrade
    else if bytes_eq name (codes "selected-only") then Some flag.SelectedOnly
    else if bytes_eq name (codes "no-pager") then Some flag.Idle
    else if bytes_eq name (codes "no-debsig") then Some flag.Idle
    else None

-- options with a value; each unit is tried
abbrev pub valued_of : Text → Option Valued
valued_of name =
    if bytes_eq name (codes "root") then Some valued.Root
    else if bytes_eq name (codes "instdir") then Some valued.Instdir
    else if bytes_eq name (codes "admindir") then Some valued.Admindir
    else if bytes_eq name (codes "status-fd") then Some valued.StatusFd
    else if bytes_eq name (codes "status-logger") then Some valued.Idle
    else if bytes_eq name (codes "log") then Some valued.Log
    else if bytes_eq name (codes "path-exclude") then Some valued.PathExclude
    else if bytes_eq name (codes "path-include") then Some valued.PathInclude
    else if bytes_eq name (codes "abort-after") then Some valued.AbortAfter
    else if bytes_eq name (codes "debug") then Some valued.Idle
    else None

-- what is told at once
abbrev pub told_of : Text → Option Sense
told_of name =
    if bytes_eq name (codes "help") then Some Help
    else if bytes_eq name (codes "version") then Some Version
    else None

abbrev pub any_action_of : Text → Option Action
any_action_of name = option_or (option_or (action_of name) (question_of name)) (assertion_of name)

-- the option of a long name, but for those that force something
abbrev pub long_sense : Text → Option Sense
long_sense name =
    option_or (option_or (option_or (option_map Does (any_action_of name)) (option_map Sets (flag_of name))) (option_map Takes (valued_of name))) (told_of name)

-- the long name of a letter: `-i` is `--install`
abbrev pub long_name : ℕ → Option Text
long_name letter =
    if nat_eq letter 105 then Some (codes "install")
    else if nat_eq letter 114 then Some (codes "remove")
    else if nat_eq letter 80 then Some (codes "purge")
    else if nat_eq letter 115 then Some (codes "status")
    else if nat_eq letter 108 then Some (codes "list")
    else if nat_eq letter 76 then Some (codes "listfiles")
    else if nat_eq letter 83 then Some (codes "search")
    else if nat_eq letter 67 then Some (codes "audit")
    else if nat_eq letter 86 then Some (codes "verify")
    else if nat_eq letter 66 then Some (codes "auto-deconfigure")
    else if nat_eq letter 69 then Some (codes "skip-same-version")
    else if nat_eq letter 71 then Some (codes "refuse-downgrade")
    else if nat_eq letter 79 then Some (codes "selected-only")
    else if nat_eq letter 97 then Some (codes "pending")
    else if nat_eq letter 82 then Some (codes "recursive")
    else if nat_eq letter 104 then Some (codes "help")
    else if nat_eq letter 63 then Some (codes "help")
    else None

abbrev pub letter_sense : ℕ → Option Sense
letter_sense letter = option_and_then long_sense (long_name letter)

-- the option by which an action is given
abbrev pub name_of : Action → Text
name_of action.Install = codes "--install"
name_of action.Unpack = codes "--unpack"
name_of action.Configure = codes "--configure"
name_of action.TriggersOnly = codes "--triggers-only"
name_of action.Remove = codes "--remove"
name_of action.Purge = codes "--purge"
name_of action.SetSelections = codes "--set-selections"
name_of action.ClearSelections = codes "--clear-selections"
name_of action.GetSelections = codes "--get-selections"
name_of action.Status = codes "--status"
name_of action.List = codes "--list"
name_of action.ListFiles = codes "--listfiles"
name_of action.Search = codes "--search"
name_of action.Audit = codes "--audit"
name_of action.Verify = codes "--verify"
name_of action.CompareVersions = codes "--compare-versions"
name_of action.ValidateVersion = codes "--validate-version"
name_of action.PrintArchitecture = codes "--print-architecture"
name_of action.PrintForeignArchitectures = codes "--print-foreign-architectures"
name_of (action.Assert holds) = codes "--assert"
