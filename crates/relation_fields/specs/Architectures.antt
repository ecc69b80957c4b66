-- Architectures that relations name (Policy 5.6.8, 7.1, and dpkg's suffixes of names). A root has packages of one architecture, and
-- those that fit each (`all`) count as of it.
use Rattle.std.specs.Prelude.{ℕ, Bool, true, false, List, [], ◌∷◌, Option, Some, None, ◌&&◌, ◌||◌, ◌==◌, codes}
use Rattle.std.specs.Char.{is_ascii_digit, is_ascii_lowercase, is_ascii_uppercase}
use Rattle.std.specs.List.{list_all}
use Rattle.std.specs.Str.{bytes_eq}

-- a letter or a digit
abbrev pub is_letter_or_digit : ℕ → Bool
is_letter_or_digit byte = is_ascii_lowercase byte || (is_ascii_uppercase byte || is_ascii_digit byte)

-- besides these `-`
abbrev pub is_architecture_sign : ℕ → Bool
is_architecture_sign byte = is_letter_or_digit byte || byte == 45

-- a word that is an architecture: the first sign is a letter or a digit
abbrev pub is_architecture : List ℕ → Bool
is_architecture [] = false
is_architecture (byte ∷ bytes) = is_letter_or_digit byte && list_all is_architecture_sign bytes

-- the word is this architecture
abbrev pub is_same : List ℕ → Option (List ℕ) → Bool
is_same word None = false
is_same word (Some architecture) = bytes_eq word architecture

-- the word is the architecture as which a package counts; `all` is each. In a root that has none yet a package counts as of each
abbrev pub is_as : List ℕ → Option (List ℕ) → Bool
is_as word None = true
is_as word (Some architecture) = bytes_eq word (codes "all") || bytes_eq word architecture

-- a relation without a suffix, with `:any` or `:native` is to packages of the root, whose architecture is one; with another suffix it
-- is to packages of that architecture
abbrev pub is_to : Option (List ℕ) → Option (List ℕ) → Bool
is_to None architecture = true
is_to (Some word) architecture = (bytes_eq word (codes "any") || bytes_eq word (codes "native")) || is_as word architecture

-- an entry of Provides is of its package's architecture; with a suffix it is of that one, so that only a relation with the same
-- suffix is to it where its package is of another
abbrev pub is_to_entry : Option (List ℕ) → Option (List ℕ) → Option (List ℕ) → Bool
is_to_entry wanted None architecture = is_to wanted architecture
is_to_entry wanted (Some word) architecture = (is_as word architecture && is_to wanted architecture) || is_same word wanted
