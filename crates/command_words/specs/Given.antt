-- What is given on the command line: the root, a package, a flag.
use Rattle.std.specs.Prelude.{Bool, true, false, List, [], ◌∷◌, Option, Some, None, codes, nat_eq}
use Rattle.std.specs.Str.{bytes_eq}
use Rattle.texts.specs.PackageNames.{is_package_name}
use Rattle.clap.specs.Words.{Text}

-- an absolute path begins with a slash
abbrev pub is_absolute : Text → Bool
is_absolute [] = false
is_absolute (c ∷ cs) = nat_eq c 47

-- what is given for a package, if anything is, has the form of a package's name
abbrev pub is_package : Option Text → Bool
is_package None = true
is_package (Some name) = is_package_name name

-- the texts that are given at a place, which may be none
abbrev pub all_given : Option (List Text) → List Text
all_given None = []
all_given (Some texts) = texts

-- a flag that is given has the value `true`
abbrev pub is_set : Option Text → Bool
is_set None = false
is_set (Some text) = bytes_eq text (codes "true")
