-- What a line of `statoverride` says: `USER GROUP MODE PATH`.
use Rattle.std.specs.Prelude.{◌&&◌, not, ℕ, Bool, nat_eq, if◌then◌else◌, List, [], ◌∷◌, Option, Some, None, option_map, option_and_then, codes}
use Rattle.std.specs.List.{starts_with}
use Rattle.std.specs.Str.{is_utf8}
use Rattle.host_core.specs.Paths.{Path}
use Rattle.stat_overrides.specs.Words.{cut_at, id_in, mode_in}
use Rattle.stat_overrides.specs.declared.lines.Override.{Override}
use Rattle.stat_overrides.specs.declared.lines.Owner.{Owner}
use Rattle.stat_overrides.specs.declared.lines.Owner.TheVariants.{Number, Name}
use Rattle.stat_overrides.specs.declared.lines.Words.{Words}

-- its four parts; blanks stand between them, and may stand in the last
pub record LineWords : Type 0 where
  pub user : List ℕ
  pub group : List ℕ
  pub mode : List ℕ
  pub path : List ℕ

abbrev pub words_of : Words → LineWords
words_of w = record { user = w.user.now; group = w.group.now; mode = w.mode.now; path = w.path.now }

abbrev pub words_behind : List ℕ → List ℕ → List ℕ → Option LineWords
words_behind user group rest = option_map (λ m. record { user = user; group = group; mode = m.0; path = m.1 }) (cut_at 32 rest)

abbrev pub words_in : List ℕ → Option LineWords
words_in line = option_and_then (λ u. option_and_then (λ g. words_behind u.0 g.0 g.1) (cut_at 32 u.1)) (cut_at 32 line)

-- `#` and a number, or else a name
abbrev pub owner_of : List ℕ → Option Owner
owner_of [] = Some (Name [])
owner_of (c ∷ cs) = if nat_eq c 35 then option_map Number (id_in cs) else Some (Name (c ∷ cs))

-- a path as it is listed: it begins with one slash, and doesn't step on the spot there
abbrev pub is_listed : List ℕ → Bool
is_listed path = starts_with nat_eq path (codes "/") && (not (starts_with nat_eq path (codes "//")) && not (starts_with nat_eq path (codes "/./")))

-- a listed path that is text, as each shipped one is
abbrev pub path_in : List ℕ → Option Path
path_in path = if is_listed path then if is_utf8 path then Some path else None else None

-- what four parts say
abbrev pub override_by : LineWords → Option Override
override_by w = option_and_then (λ mode. option_and_then (λ user. option_and_then (λ group. option_map (λ path.
    record { path = path; user = user; group = group; mode = mode }) (path_in w.path)) (owner_of w.group)) (owner_of w.user)) (mode_in w.mode)

-- what a line says; nothing where it is faulty
abbrev pub override_of : List ℕ → Option Override
override_of line = option_and_then override_by (words_in line)
