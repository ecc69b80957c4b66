-- What other packages are to a package that is unpacked or configured (Policy 7.2 to 7.6).
use Rattle.std.specs.Prelude.{Bool, List, ◌&&◌, ◌||◌, not}
use Rattle.std.specs.List.{list_any}
use Rattle.std.specs.Str.{bytes_eq}
use Rattle.dependency_check.specs.declared.roles.Role.{Role}
use Rattle.dependency_check.specs.declared.roles.Role.TheVariants.{Conflicting, Unyielding, EssentialConflict, Broken, Going, Remaining, Dependable, Breaking}
use Rattle.relation_fields.specs.declared.alternative.Alternative.{Alternative}
use Rattle.relation_index.specs.Packages.{meets, is_installed, is_present}
use Rattle.relation_index.specs.declared.package.Package.{Package}

-- one of the field's clauses admits the package
abbrev pub admits_in : List (List Alternative) → Package → Bool
admits_in field p = list_any (λ clause. meets clause p) field

-- no package is other than itself, whatever its version
abbrev pub is_other : Package → Package → Bool
is_other incoming p = not (bytes_eq p.name incoming.name)

-- Policy 7.4: another package that is at least half-installed, where one of the two admits the other in Conflicts
abbrev pub is_conflicting : Package → Package → Bool
is_conflicting incoming p = is_other incoming p && (is_present p && (admits_in incoming.conflicts p || admits_in p.conflicts incoming))

-- Policy 7.6.2: a conflicting package that the incoming one doesn't admit in Replaces, or that requires reinstallation
abbrev pub is_unyielding : Package → Package → Bool
is_unyielding incoming p = is_conflicting incoming p && (p.reinstreq || not (admits_in incoming.replaces p))

-- Policy 7.3: another installed package, not conflicting, that the incoming one admits in Breaks
abbrev pub is_broken : Package → Package → Bool
is_broken incoming p = is_other incoming p && (is_installed p && (not (is_conflicting incoming p) && admits_in incoming.breaks p))

-- an installed package that the unpack removes
abbrev pub is_going : Package → Package → Bool
is_going incoming p = is_installed p && is_conflicting incoming p

-- what is installed without the conflicting and the old incoming package
abbrev pub is_remaining : Package → Package → Bool
is_remaining incoming p = is_installed p && (is_other incoming p && not (is_conflicting incoming p))

-- an installed package, neither incoming, conflicting nor broken
abbrev pub is_dependable : Package → Package → Bool
is_dependable incoming p = is_remaining incoming p && not (is_broken incoming p)

-- Policy 7.3: another package that is at least half-installed and admits this one in Breaks
abbrev pub is_breaking : Package → Package → Bool
is_breaking incoming p = is_other incoming p && (is_present p && admits_in p.breaks incoming)

abbrev pub plays : Role → Package → Package → Bool
plays Conflicting incoming p = is_conflicting incoming p
plays Unyielding incoming p = is_unyielding incoming p
plays EssentialConflict incoming p = is_conflicting incoming p && p.essential
plays Broken incoming p = is_broken incoming p
plays Going incoming p = is_going incoming p
plays Remaining incoming p = is_remaining incoming p
plays Dependable incoming p = is_dependable incoming p
plays Breaking incoming p = is_breaking incoming p
