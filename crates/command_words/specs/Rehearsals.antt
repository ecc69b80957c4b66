-- Which commands are only rehearsed, which calls of scripts are assumed to fail then, and whether changed paths are told.
use Rattle.std.specs.Prelude.{◌&&◌, ◌||◌, ◌==◌, Bool, true, not, List, [], ◌∷◌, Option, Some, None, codes, if◌then◌else◌, flat_map, is_some, length, nat_eq, option_and_then, option_map, option_to_list}
use Rattle.std.specs.List.{list_all}
use Rattle.std.specs.Str.{bytes_eq}
use Rattle.texts.specs.PackageNames.{is_package_name}
use Rattle.clap.specs.Words.{Row, Text, all_of, first_of}
use Rattle.host_core.specs.declared.call.Script.{Script}
use Rattle.host_core.specs.declared.call.Script.TheVariants.{Preinst, Postinst, Prerm, Postrm}
use Rattle.host_overlay.specs.declared.failing.AssumedFailure.{AssumedFailure}
use Rattle.command_words.specs.Given.{is_set}
use Rattle.command_words.specs.declared.rehearsal.Named.{Named}
use Rattle.command_words.specs.declared.rehearsal.Rehearsal.{Rehearsal}

-- what stands before the first colon, and what behind it
abbrev pub cut_at_colon : Text → Option (Text × Text)
cut_at_colon [] = None
cut_at_colon (c ∷ cs) = if nat_eq c 58 then Some ([], cs) else option_map (λ parts. (c ∷ parts.0, parts.1)) (cut_at_colon cs)

-- the script of a name (Policy 6.1)
abbrev pub script_of : Text → Option Script
script_of name =
    if bytes_eq name (codes "postinst") then Some Postinst
    else if bytes_eq name (codes "postrm") then Some Postrm
    else if bytes_eq name (codes "preinst") then Some Preinst
    else if bytes_eq name (codes "prerm") then Some Prerm
    else None

-- a call is named by its package, its script and its first argument
abbrev pub failure_from : Text → Option Script → Text → Option AssumedFailure
failure_from name None word = None
failure_from name (Some script) word =
    if is_package_name name && not (length word == 0)
    then Some (record { «package» = name; script = script; word = word })
    else None

-- the call that parts of a text name
abbrev pub failure_named : Named → AssumedFailure
failure_named n = record { «package» = n.«package».now; script = n.script; word = n.word.now }

-- `SCRIPT:WORD`, of a package
abbrev pub failure_of : Text → Option (Text × Text) → Option AssumedFailure
failure_of name None = None
failure_of name (Some parts) = failure_from name (script_of parts.0) parts.1

-- `PKG:SCRIPT:WORD`
abbrev pub failure_in : Text → Option AssumedFailure
failure_in text = option_and_then (λ parts. failure_of parts.0 (cut_at_colon parts.1)) (cut_at_colon text)

-- the calls that texts name
abbrev pub failures_in : List Text → List AssumedFailure
failures_in texts = flat_map (λ text. option_to_list (failure_in text)) texts

-- each names one, and none is given but for a rehearsal
abbrev pub is_rehearsable_by : Bool → Option (List Text) → Bool
is_rehearsable_by dry None = true
is_rehearsable_by dry (Some texts) = dry && list_all (λ text. is_some (failure_in text)) texts

abbrev pub is_dry : List Row → Bool
is_dry rows = is_set (first_of (codes "dry-run") rows)

abbrev pub tells_changes : List Row → Bool
tells_changes rows = is_set (first_of (codes "changes") rows)

-- changed paths are told of a rehearsal alone
abbrev pub is_tellable_by : Bool → Bool → Bool
is_tellable_by dry changes = dry || not changes

-- whether a subcommand can be rehearsed, or carried out, with these texts
abbrev pub is_rehearsable : List Row → Bool
is_rehearsable rows = is_tellable_by (is_dry rows) (tells_changes rows) && is_rehearsable_by (is_dry rows) (all_of (codes "assume-failure") rows)

abbrev pub failing_from : Option (List Text) → List AssumedFailure
failing_from None = []
failing_from (Some texts) = failures_in texts

-- a rehearsal: the calls that are assumed to fail, and whether changed paths are told
abbrev pub Rehearsed : Type 0
Rehearsed = List AssumedFailure × Bool

abbrev pub rehearsed : Rehearsal → Rehearsed
rehearsed r = (r.failing.items, r.changes)

-- that of a subcommand, where it is only rehearsed
abbrev pub rehearsal_in : List Row → Option Rehearsed
rehearsal_in rows = if is_dry rows then Some (failing_from (all_of (codes "assume-failure") rows), tells_changes rows) else None
