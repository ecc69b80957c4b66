-- The two kinds of lines of `conffiles` that name paths (Policy 10.7.1).
use Rattle.std.specs.Prelude.{◌≡◌, ◌⊎◌, ◌++◌, ◌∷◌, [], true, false, ℕ, Bool, List}
use Rattle.std.specs.Str.{bytes_eq}
use Rattle.host_core.specs.Paths.{Path, is_ship_text}
use Rattle.package_tree.specs.declared.conffile_lines.Entry.{Entry}
use Rattle.package_tree.specs.declared.conffile_lines.Entry.TheVariants as entry
use Rattle.package_tree.specs.declared.line_names.LineKind.{LineKind}
use Rattle.package_tree.specs.declared.line_names.LineKind.TheVariants.{Plain, Flagged}

-- a line of this kind names this
abbrev pub is_named : LineKind → List ℕ → Entry → Bool
is_named Plain q entry.Blank = false
is_named Plain q (entry.Plain path) = bytes_eq path q
is_named Plain q (entry.Flagged path) = false
is_named Plain q entry.Odd = false
is_named Flagged q entry.Blank = false
is_named Flagged q (entry.Plain path) = false
is_named Flagged q (entry.Flagged path) = bytes_eq path q
is_named Flagged q entry.Odd = false

-- a text that is a path which a package may ship joins those before it; another is passed over
abbrev pub HasTakenPath : List ℕ → List Path → List Path → Type 0
HasTakenPath text old new = ((is_ship_text text ≡ true) × (new ≡ old ++ text ∷ [])) ⊎ ((is_ship_text text ≡ false) × (new ≡ old))
