-- Marks over a text: one for each place in it, and one for its end.
use Rattle.std.specs.Prelude.{ℕ, ◌==◌, ◌&&◌, ◌||◌, Bool, true, false, List, [], ◌∷◌, Option, Some, None, map, if◌then◌else◌}
use Rattle.name_patterns.specs.Patterns.{fits}

-- before anything is matched, the start alone is marked
abbrev pub begun : List ℕ → List Bool
begun text = true ∷ map (λ b. false) text

-- each place behind a mark, and the marks themselves
abbrev pub spread : Bool → List Bool → List Bool
spread seen [] = []
spread seen (m ∷ ms) = (seen || m) ∷ spread (seen || m) ms

-- the places behind a mark and a byte that fits
abbrev pub moved_each : Option ℕ → List Bool → List ℕ → List Bool
moved_each wanted [] text = []
moved_each wanted (m ∷ ms) [] = []
moved_each wanted (m ∷ ms) (b ∷ bs) = (m && fits wanted b) ∷ moved_each wanted ms bs

abbrev pub moved : Option ℕ → List Bool → List ℕ → List Bool
moved wanted marks text = false ∷ moved_each wanted marks text

-- the marks behind a byte of a pattern, which may be quoted
abbrev pub marked_behind : Bool → ℕ → List Bool → List ℕ → List Bool
marked_behind true sign marks text = moved (Some sign) marks text
marked_behind false sign marks text =
    if sign == 42 then spread false marks
    else if sign == 63 then moved None marks text
    else if sign == 92 then marks
    else moved (Some sign) marks text
