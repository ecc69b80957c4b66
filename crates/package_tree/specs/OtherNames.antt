-- The names of the files of `DEBIAN` that are stored as they are, as `templates` or `md5sums`.
use Rattle.std.specs.Prelude.{◌&&◌, ◌||◌, ◌∷◌, not, ℕ, Bool, List, [], codes, length, nat_eq, nat_le}
use Rattle.std.specs.List.{list_all, list_any}
use Rattle.std.specs.Str.{bytes_eq}
use Rattle.host_core.specs.Paths.{reserved_suffixes}

-- a small letter, a digit, or one of `+ - _`
abbrev pub is_name_byte : ℕ → Bool
is_name_byte b = (nat_le 97 b && nat_le b 122) || ((nat_le 48 b && nat_le b 57) || (nat_eq b 43 || (nat_eq b 45 || nat_eq b 95)))

-- what a tree's reading looks at by its name (Policy 6.1), and the name of the file list
abbrev pub is_taken : List ℕ → Bool
is_taken name = list_any (bytes_eq name) (codes "control" ∷ codes "conffiles" ∷ codes "list" ∷ codes "preinst" ∷ codes "postinst" ∷ codes "prerm" ∷ codes "postrm" ∷ [])

-- put after a package's name and a dot it would be a name that only the installer writes
abbrev pub is_suffix_name : List ℕ → Bool
is_suffix_name name = list_any (bytes_eq (46 ∷ name)) reserved_suffixes

-- a file by this name is stored: 1 to 44 such bytes, and none of the other names
abbrev pub is_other_name : List ℕ → Bool
is_other_name name = nat_le 1 (length name) && (nat_le (length name) 44 && (list_all is_name_byte name && (not (is_taken name) && not (is_suffix_name name))))
