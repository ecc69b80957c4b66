-- The refusals of an unpack, in the order in which they are looked for.
use Rattle.std.specs.Prelude.{◌≡◌, not, ℕ, Bool, List, Option, Some, None, cond}
use Rattle.std.specs.List.{find}
use Rattle.std.specs.Cmp.Lexicographic.{slice_cmp}
use Rattle.std.specs.Ordering.{nat_cmp, is_lt}
use Rattle.std.specs.Str.{bytes_eq}
use Rattle.aliases.specs.Aliases.{resolved}
use Rattle.host_core.specs.Paths.{Path}
use Rattle.diversions.specs.Ways.{place, Ways}
use Rattle.package_tree.specs.declared.package.Package.{Package}
use Rattle.status_records.specs.declared.record.Record.{Record}
use Rattle.unit_reports.specs.Held.{Held}
use Rattle.unit_reports.specs.declared.refusal.Rule.TheVariants.{ConffileDiverted}
use Rattle.unpack_relations.specs.Checks.{IsChecked}
use Rattle.unpack_relations.specs.declared.checking.Checked.{Checked}
use Rattle.unpack_relations.specs.declared.checking.Checked.TheVariants.{Refused}
use Rattle.unpack_relations.specs.declared.options.UnpackOptions.{UnpackOptions}

-- the file of a path is diverted for the package: it isn't where the aliases above the path lead
abbrev pub is_away : Ways → List ℕ → Path → Bool
is_away ways name path = not (bytes_eq (place ways name path) (resolved ways.aliases path))

-- the first of these paths of which that holds
abbrev pub first_away : Ways → List ℕ → List Path → Option Path
first_away ways name paths = find (is_away ways name) paths

-- the one that is before the other in path order
abbrev pub first_of : Option Path → Option Path → Option Path
first_of None b = b
first_of (Some a) None = Some a
first_of (Some a) (Some b) = Some (cond (is_lt (slice_cmp nat_cmp b a)) b a)

-- among the conffiles of a package, the flagged ones too, each of them in path order
abbrev pub conffile_away : Ways → Package → Option Path
conffile_away ways p = first_of (first_away ways p.name p.conffiles) (first_away ways p.name p.flagged)

-- a conffile is diverted, or else relations to the recorded packages say it (Policy 7.2 to 7.6)
abbrev pub IsDecisionBy : Option Path → Package → UnpackOptions → List Record → Checked → Type 0
IsDecisionBy (Some path) p allowed records decision = decision ≡ Refused (ConffileDiverted path)
IsDecisionBy None p allowed records decision = IsChecked records p allowed decision

-- the first rule that refuses a package, or what its unpack does to other packages, which are deconfigured only by leave
abbrev pub IsDecisionOf : Package → UnpackOptions → List Record → Ways → Checked → Type 0
IsDecisionOf p allowed records ways decision = IsDecisionBy (conffile_away ways p) p allowed records decision

-- the same by what is held
abbrev pub IsDecisionFor : Package → UnpackOptions → Held → Checked → Type 0
IsDecisionFor p allowed h decision = IsDecisionOf p allowed h.records.records h.ways decision
