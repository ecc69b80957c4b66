-- What a loss of power leaves of a diversion that is being added or taken away.
use Rattle.std.proofs.Common.{◌≡◌, ◌||◌, inl, inr, Bool, true, false, List, ◌∷◌, ◌++◌, [], Option, refl, sym, ap, subst, ◌∙◌, IsTrue}
use Rattle.std.specs.Str.{bytes_eq}
use Rattle.std.proofs.lemmas.Bool.{or_right}
use Rattle.std.proofs.lemmas.Slice.Eq.{bytes_eq-Decides}
use Rattle.host_core.specs.Paths.{Path, is_ship_text}
use Rattle.host_core.specs.World.{World}
use Rattle.host_core.specs.Events.{follow_all}
use Rattle.host_core.specs.Host.{AtEachMoment, State}
use Rattle.host_core.specs.Loss.{IsLikeAStop, ScriptsAvoid}
use Rattle.host_core.specs.Unsynced.{IsSettled, is_temporary}
use Rattle.host_core.specs.declared.node.Node.{Node}
use Rattle.host_core.proofs.Losses.{since_stop}
use Rattle.host_core.proofs.ShipNames.{ships, plain_proper}
use Rattle.host_core.proofs.WorldLaws.{put_same, put_other}
use Rattle.administration.specs.Places.{diversions_path, temporary}
use Rattle.scattered_losses.specs.Scattered.{LosesScattered}
use Rattle.scattered_losses.specs.Turns.{TakeTurns}
use Rattle.scattered_losses.proofs.TakingTurns.{turns_like_a_stop}
use Rattle.aliases.specs.Aliases.{resolved}
use Rattle.diversions.specs.Changes.{IsAdding, IsRemoving, IsUnderWay, diverted, diverted_twice, doubled_if, moved_if, undiverted, undiverted_twice}
use Rattle.diversions.specs.Entries.{IsTable, without}
use Rattle.diversions.specs.Lines.{HasEntries}
use Rattle.diversions.specs.Sights.{moves_back, moves_node, sight_of}
use Rattle.diversions.specs.Turns.{IsLeftWhole, is_change_name}
use Rattle.diversions.specs.Ways.{Ways, truename}
use Rattle.diversions.specs.declared.entry.Diversion.{Diversion}
use Rattle.diversions.specs.declared.refusal.Seen.{Seen}
use Rattle.diversions.proofs.Aliased.{resolved_ships, true_ships}
use Rattle.diversions.proofs.Moving.{own_other}
use Rattle.diversions.proofs.Turning.{either_path}

is_itself : (p : Path) → bytes_eq p p ≡ true
is_itself p = (bytes_eq-Decides p p).1 refl

module _ (from to : Path) where
  from_there : is_change_name from to from ≡ true
  from_there = ap (λ b. b || (bytes_eq from to || (bytes_eq from diversions_path || bytes_eq from (temporary diversions_path)))) (is_itself from)

  to_there : is_change_name from to to ≡ true
  to_there = or_right (bytes_eq to from) (bytes_eq to to || (bytes_eq to diversions_path || bytes_eq to (temporary diversions_path))) (ap (λ b. b || (bytes_eq to diversions_path || bytes_eq to (temporary diversions_path))) (is_itself to))

  table_there : is_change_name from to diversions_path ≡ true
  table_there = or_right (bytes_eq diversions_path from) (bytes_eq diversions_path to || true) (or_right (bytes_eq diversions_path to) true refl)

proper : (p : Path) → is_ship_text p ≡ true → is_temporary p ≡ false
proper p ship = plain_proper p (ships p ship).plain

doubled_from : (moves : Bool) (from to : Path) (w : World) → doubled_if moves from to w from ≡ w from
doubled_from true from to w = elim (either_path from to) [ inl e ↦ put_same w to from (w from) e | inr other ↦ put_other w to from (w from) other ]
doubled_from false from to w = refl

doubled_home : (moves : Bool) (from to : Path) (w : World) → is_ship_text to ≡ true → doubled_if moves from to w diversions_path ≡ w diversions_path
doubled_home true from to w ship = put_other w to diversions_path (w from) (own_other diversions_path to ship refl)
doubled_home false from to w ship = refl

module _ (moves : Bool) (from to : Path) (entries : List Diversion) (old there left : World) (ship_from : is_ship_text from ≡ true) (ship_to : is_ship_text to ≡ true) (at_from : left from ≡ there from) (at_to : left to ≡ there to)
    (at_home : left diversions_path ≡ there diversions_path) (doubles goes : World → World) (twice : doubles old ≡ doubled_if moves from to old) (once : goes old ≡ moved_if moves from to old) where
  left_whole : IsUnderWay doubles goes entries old there → IsLeftWhole moves from to entries old left
  left_whole (inl same) = inl (at_from ∙ ap (λ w. w from) same, inl (at_to ∙ ap (λ w. w to) same), at_home ∙ ap (λ w. w diversions_path) same)
  left_whole (inr (inl amid)) = let both : there ≡ doubled_if moves from to old = amid.0 ∙ twice in inl (
    at_from ∙ ap (λ w. w from) both ∙ doubled_from moves from to old,
    inr (at_to ∙ ap (λ w. w to) both),
    at_home ∙ ap (λ w. w diversions_path) both ∙ doubled_home moves from to old ship_to,
  )
  left_whole (inr (inr recording)) = inr (
    at_from ∙ recording.rest from (λ e. own_other diversions_path from ship_from refl (sym e)) (λ e. own_other (temporary diversions_path) from ship_from refl (sym e)) ∙ ap (λ w. w from) once,
    at_to ∙ recording.rest to (λ e. own_other diversions_path to ship_to refl (sym e)) (λ e. own_other (temporary diversions_path) to ship_to refl (sym e)) ∙ ap (λ w. w to) once,
    elim recording.table [
      | inl before ↦ inl (at_home ∙ before)
      | inr has ↦ inr (subst (λ (n : Option Node). HasEntries n entries) (sym at_home) has)
    ],
  )

module _ (begun old new : State) (left : World) (h : IsTrue new.honest) (settled : IsSettled new.events) where
  left_by : (moves : Bool) (from to : Path) (entries : List Diversion) → is_ship_text from ≡ true → is_ship_text to ≡ true → ScriptsAvoid (is_change_name from to) begun new → TakeTurns (is_change_name from to) old new → LosesScattered begun old new left
      → (doubles goes : World → World) → doubles old.world ≡ doubled_if moves from to old.world → goes old.world ≡ moved_if moves from to old.world → AtEachMoment (IsUnderWay doubles goes entries) old new → IsLeftWhole moves from to entries old.world left
  left_by moves from to entries ship_from ship_to scripts turns loses doubles goes twice once since =
      let stop : IsLikeAStop (is_change_name from to) old new left = turns_like_a_stop (is_change_name from to) begun old new left settled scripts turns loses in
      let like = stop.like in
      left_whole moves from to entries old.world (follow_all stop.stop old.world) left ship_from ship_to (like.whole from (from_there from to) (proper from ship_from)) (like.whole to (to_there from to) (proper to ship_to)) (like.whole diversions_path (table_there from to) refl) doubles goes twice once
      (since_stop (λ so_far. IsUnderWay doubles goes entries old.world) old new stop.added stop.stop h since stop.events stop.is)

pub adding_left : (begun old new : State) (left : World) (ways : Ways) (d : Diversion) (rename : Bool) (seen : Seen)
    → (let from = resolved ways.aliases d.path in let to = resolved ways.aliases d.target in
    IsTrue new.honest → IsSettled new.events → is_ship_text d.path ≡ true → is_ship_text d.target ≡ true → ScriptsAvoid (is_change_name from to) begun new → TakeTurns (is_change_name from to) old new → LosesScattered begun old new left
    → AtEachMoment (IsAdding ways d rename seen) old new → IsLeftWhole (moves_node rename seen.listed (sight_of rename old.world from to)) from to (ways.entries ++ d ∷ []) old.world left)
adding_left begun old new left ways d rename seen h settled ship_path ship_target scripts turns loses since =
    let from = resolved ways.aliases d.path in
    let to = resolved ways.aliases d.target in
    left_by begun old new left h settled (moves_node rename seen.listed (sight_of rename old.world from to)) from to (ways.entries ++ d ∷ []) (resolved_ships ways.aliases d.path ship_path) (resolved_ships ways.aliases d.target ship_target) scripts turns loses
    (diverted_twice ways d rename seen) (diverted ways d rename seen) refl refl since

pub removing_left : (begun old new : State) (left : World) (ways : Ways) (path : Path) (rename : Bool)
    → (let from = truename ways path in let to = resolved ways.aliases path in
    IsTrue new.honest → IsSettled new.events → IsTable ways.entries → is_ship_text path ≡ true → ScriptsAvoid (is_change_name from to) begun new → TakeTurns (is_change_name from to) old new → LosesScattered begun old new left
    → AtEachMoment (IsRemoving ways path rename) old new → IsLeftWhole (moves_back rename old.world from to) from to (without path ways.entries) old.world left)
removing_left begun old new left ways path rename h settled table ship scripts turns loses since =
    let from = truename ways path in
    let to = resolved ways.aliases path in
    left_by begun old new left h settled (moves_back rename old.world from to) from to (without path ways.entries) (true_ships ways path table ship) (resolved_ships ways.aliases path ship) scripts turns loses
    (undiverted_twice ways path rename) (undiverted ways path rename) refl refl since
