-- What is forced, or refused: `--force-X`, `--no-force-X` and `--refuse-X`, with commas between several.
use Rattle.std.specs.Prelude.{◌==◌, ◌||◌, ◌∷◌, ◌++◌, [], Bool, true, false, List, Option, Some, None, codes, if◌then◌else◌}
use Rattle.std.specs.List.{list_any, slice_split}
use Rattle.std.specs.Str.{bytes_eq}
use Rattle.dpkg_words.specs.Options.{Text}
use Rattle.dpkg_words.specs.declared.forces.Forced.{Forced}
use Rattle.dpkg_words.specs.declared.forces.Thing.{Thing}
use Rattle.dpkg_words.specs.declared.forces.Thing.TheVariants.{Confdef, Confold, Confnew, Confmiss, Depends, Downgrade, Idle}

abbrev pub nothing : Forced
nothing = record { confdef = false; confold = false; confnew = false; confmiss = false; depends = false }

-- what is forced of conffiles; that an older version takes the place of a newer one is read by itself
abbrev pub conf_thing : Text → Option Thing
conf_thing name =
    if bytes_eq name (codes "confdef") then Some Confdef
    else if bytes_eq name (codes "confold") then Some Confold
    else if bytes_eq name (codes "confnew") then Some Confnew
    else if bytes_eq name (codes "confmiss") then Some Confmiss
    else if bytes_eq name (codes "downgrade") then Some Downgrade
    else None

-- what goes round dpkg's other checks, of which none is gone round here
abbrev pub is_check : Text → Bool
is_check name =
    if bytes_eq name (codes "architecture") then true
    else if bytes_eq name (codes "bad-path") then true
    else if bytes_eq name (codes "bad-verify") then true
    else if bytes_eq name (codes "bad-version") then true
    else if bytes_eq name (codes "breaks") then true
    else if bytes_eq name (codes "conflicts") then true
    else if bytes_eq name (codes "depends-version") then true
    else if bytes_eq name (codes "hold") then true
    else if bytes_eq name (codes "not-root") then true
    else if bytes_eq name (codes "remove-essential") then true
    else if bytes_eq name (codes "remove-protected") then true
    else if bytes_eq name (codes "remove-reinstreq") then true
    else false

-- the other things that dpkg knows
abbrev pub is_manner : Text → Bool
is_manner name =
    if bytes_eq name (codes "all") then true
    else if bytes_eq name (codes "confask") then true
    else if bytes_eq name (codes "configure-any") then true
    else if bytes_eq name (codes "overwrite") then true
    else if bytes_eq name (codes "overwrite-dir") then true
    else if bytes_eq name (codes "overwrite-diverted") then true
    else if bytes_eq name (codes "script-chrootless") then true
    else if bytes_eq name (codes "security-mac") then true
    else if bytes_eq name (codes "statoverride-add") then true
    else if bytes_eq name (codes "statoverride-remove") then true
    else if bytes_eq name (codes "unsafe-io") then true
    else false

abbrev pub thing_of : Text → Option Thing
thing_of name =
    if bytes_eq name (codes "depends") then Some Depends
    else if is_check name || is_manner name then Some Idle
    else conf_thing name

-- the things that a text names, with commas (44) between them
abbrev pub things_in : Text → List Text
things_in text = slice_split (λ byte. byte == 44) text

-- with a thing forced, or no longer
abbrev pub with_forced : Thing → Bool → Forced → Forced
with_forced Confdef on f = record f { confdef = on }
with_forced Confold on f = record f { confold = on }
with_forced Confnew on f = record f { confnew = on }
with_forced Confmiss on f = record f { confmiss = on }
with_forced Depends on f = record f { depends = on }
with_forced Downgrade on f = f
with_forced Idle on f = f

-- the names of things that were forced and change nothing, with one more unless it's among them
abbrev pub with_idle : Text → List Text → List Text
with_idle name names = if list_any (bytes_eq name) names then names else names ++ name ∷ []
