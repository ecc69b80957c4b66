-- The names of the control files that are kept with a package (Policy 6.1).
use Rattle.std.specs.Prelude.{◌||◌, ◌&&◌, not, ℕ, Bool, List, [], ◌∷◌, length, codes, nat_le, ◌==◌}
use Rattle.std.specs.List.{list_any, list_all}
use Rattle.std.specs.Str.{bytes_eq}
use Rattle.texts.specs.PackageNames.{is_lower_or_digit}
use Rattle.host_core.specs.Paths.{Path}
use Rattle.host_core.specs.Outcome.{script_name}
use Rattle.host_core.specs.declared.call.Script.TheVariants.{Preinst, Postinst, Prerm, Postrm}

-- a letter a to z, a digit, `+`, `-` or `_`; there is no dot, so that the last dot of a stored file's name ends its package's
abbrev pub is_member_sign : ℕ → Bool
is_member_sign byte = is_lower_or_digit byte || (byte == 43 || (byte == 45 || byte == 95))

-- what the record, the list and the ends of the installer's own names stand for
abbrev pub other_uses : List Path
other_uses = codes "control" ∷ codes "conffiles" ∷ codes "list"
    ∷ codes "dpkg-new" ∷ codes "dpkg-old" ∷ codes "dpkg-dist" ∷ codes "dpkg-tmp" ∷ codes "dpkg-inst" ∷ []

-- the name of a control file that is kept: one to 44 of these signs, and none of these
abbrev pub is_member_name : Path → Bool
is_member_name name = nat_le 1 (length name) && (nat_le (length name) 44 && (list_all is_member_sign name && not (list_any (bytes_eq name) other_uses)))

-- the names of the four scripts
abbrev pub script_names : List Path
script_names = script_name Preinst ∷ script_name Postinst ∷ script_name Prerm ∷ script_name Postrm ∷ []

abbrev pub is_script_name : Path → Bool
is_script_name name = list_any (bytes_eq name) script_names
