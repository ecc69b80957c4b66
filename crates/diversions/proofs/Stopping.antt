-- A change that was stopped on its way, asked for again.
use Rattle.std.proofs.Common.{◌≡◌, ◌≢◌, ◌⊎◌, inl, inr, ◌||◌, ◌&&◌, Bool, true, false, not, cond, is_some, subst, List, [], ◌∷◌, ◌++◌, Option, Some, None, refl, sym, ap, ◌∙◌}
use Rattle.std.specs.List.{list_any}
use Rattle.std.specs.Str.{bytes_eq}
use Rattle.std.proofs.lemmas.Bool.{and_right, and_from, and_parts, or_from, or_parts, true≢false}
use Rattle.std.proofs.lemmas.Slice.Eq.{bytes_eq-Decides}
use Rattle.host_core.specs.Nodes.{same_access}
use Rattle.host_core.specs.Paths.{Path, is_ship_text}
use Rattle.host_core.specs.World.{World, IsDirectory, moved, put, kind_of}
use Rattle.host_core.specs.declared.node.Node.{Node}
use Rattle.host_core.specs.declared.node.Node.TheVariants.{File, Dir, Link}
use Rattle.host_core.proofs.Nodes.{same_access_itself}
use Rattle.host_core.proofs.WorldLaws.{put_same, put_other}
use Rattle.administration.specs.Files.{KeepsBesideFile}
use Rattle.administration.specs.Places.{diversions_path, temporary}
use Rattle.diversions.specs.Again.{IsFinishedAgain}
use Rattle.aliases.specs.Aliases.{resolved}
use Rattle.diversions.specs.Changes.{IsAdding, IsRemoving, IsRecording, IsSame, IsTableReady, IsUnderWay, diverted, doubled_if, moved_if, undiverted}
use Rattle.diversions.specs.Entries.{entry_of, is_diverted, without, IsTable, IsWellFormed}
use Rattle.diversions.specs.Lines.{HasDiversions}
use Rattle.diversions.specs.Refusals.{first_holding, add_refusal, back_conditions, has_same, is_one_place, is_path_taken, is_rival, is_same, is_target_taken, move_conditions, owner_conditions, remove_refusal, same_owner}
use Rattle.diversions.specs.Ways.{Ways, truename}
use Rattle.diversions.specs.Names.{front_of}
use Rattle.diversions.specs.Sights.{brings_first, sight_of, is_directory_kind, is_loose_kind, moves_node, same_node}
use Rattle.diversions.specs.declared.entry.Diversion.{Diversion}
use Rattle.diversions.specs.declared.entry.Owner.{Owner}
use Rattle.diversions.specs.declared.refusal.Refusal.{Refusal}
use Rattle.diversions.specs.declared.refusal.Refusal.TheVariants.{SamePath, Directory, AlreadyDiverted, TargetDiverted, Conffile, NoParent, TargetExists}
use Rattle.diversions.specs.declared.refusal.Seen.{Seen}
use Rattle.diversions.specs.declared.sight.Sight.{Sight}
use Rattle.diversions.proofs.Aliased.{resolved_ships, true_ships}
use Rattle.diversions.proofs.Moving.{no_directory_to, own_other}
use Rattle.diversions.proofs.Owners.{same_owner_from}
use Rattle.diversions.proofs.Passing.{can_move, first_after, kind_directory, none_holds, way_free}
use Rattle.diversions.proofs.Tables.{apart}
use Rattle.diversions.proofs.Turning.{either_path, moved_from, moved_rest, moved_to}

-- once the node is moved, or was none that is moved, none is moved again

way_none : (moves : Bool) (sight : Sight) → moves ≡ false → first_holding (move_conditions moves sight) ≡ None
way_none true sight is = absurd (true≢false is)
way_none false sight is = refl

-- what is asked of a world so that no move is refused there
record IsPassing (rename listed : Bool) (from to : Path) (old now : World) : Type 0 where
  pub way : first_holding (move_conditions (moves_node rename listed (sight_of rename now from to)) (sight_of rename now from to)) ≡ None
  pub no_directory : is_directory_kind (kind_of (old from)) || is_directory_kind (kind_of (old to)) ≡ false → is_directory_kind (kind_of (now from)) || is_directory_kind (kind_of (now to)) ≡ false

record IsSettled (rename listed : Bool) (from to : Path) (old now : World) : Type 0 where
  pub still : moves_node rename listed (sight_of rename now from to) ≡ false
  pub no_directory : is_directory_kind (kind_of (old from)) || is_directory_kind (kind_of (old to)) ≡ false → is_directory_kind (kind_of (now from)) || is_directory_kind (kind_of (now to)) ≡ false

none_moved : (rename listed : Bool) (from to : Path) (w : World) → w from ≡ None → moves_node rename listed (sight_of rename w from to) ≡ false
none_moved rename listed from to w none =
    and_right rename (not listed && is_loose_kind (kind_of (w from))) (and_right (not listed) (is_loose_kind (kind_of (w from))) (ap (λ n. is_loose_kind (kind_of n)) none))

settled : (rename listed : Bool) (from to : Path) (old now : World) (moves : Bool) → from ≢ to → moves_node rename listed (sight_of rename old from to) ≡ moves → now from ≡ moved_if moves from to old from → now to ≡ moved_if moves from to old to → IsSettled rename listed from to old now
settled rename listed from to old now true other is at_from at_to =
    let gone : now from ≡ None = at_from ∙ put_other (put old from None) to from (old from) other ∙ put_same old from from None refl in
    let there : now to ≡ old from = at_to ∙ put_same (put old from None) to to (old from) refl in
    record {
      still = none_moved rename listed from to now gone;
      no_directory = λ none. or_from (is_directory_kind (kind_of (now from))) (is_directory_kind (kind_of (now to)))
          (ap (λ n. is_directory_kind (kind_of n)) gone)
          (ap (λ n. is_directory_kind (kind_of n)) there ∙ (or_parts (is_directory_kind (kind_of (old from))) (is_directory_kind (kind_of (old to))) none).0);
    }
settled rename listed from to old now false other is at_from at_to = record {
  still = ap (λ n. rename && (not listed && is_loose_kind (kind_of n))) at_from ∙ is;
  no_directory = λ none. ap (λ n. is_directory_kind (kind_of n) || is_directory_kind (kind_of (now to))) at_from ∙ ap (λ n. is_directory_kind (kind_of (old from)) || is_directory_kind (kind_of n)) at_to ∙ none;
}

not_moved : (moves : Bool) (from to : Path) (w : World) → moves ≡ false → moved_if moves from to w ≡ w
not_moved true from to w is = absurd (true≢false is)
not_moved false from to w is = refl

passing : (rename listed : Bool) (from to : Path) (old now : World) → IsSettled rename listed from to old now → IsPassing rename listed from to old now
passing rename listed from to old now all = record { way = way_none (moves_node rename listed (sight_of rename now from to)) (sight_of rename now from to) all.still; no_directory = all.no_directory }

-- where the node has both names

passed_over : {T : Type 0} (x : T) (b : Bool) (cs : List (T × Bool)) → b ≡ false → first_holding cs ≡ None → first_holding ((x, b) ∷ cs) ≡ None
passed_over x true cs is none = absurd (true≢false is)
passed_over x false cs is none = none

same_itself : (n : Option Node) → is_loose_kind (kind_of n) ≡ true → same_node n n ≡ true
same_itself None is = absurd (true≢false (sym is))
same_itself (Some (File bytes access)) is = and_from (bytes_eq bytes bytes) (same_access access access) ((bytes_eq-Decides bytes bytes).1 refl) (same_access_itself access)
same_itself (Some (Dir access)) is = absurd (true≢false (sym is))
same_itself (Some (Link target)) is = (bytes_eq-Decides target target).1 refl

loose_undirected : (n : Option Node) → is_loose_kind (kind_of n) ≡ true → is_directory_kind (kind_of n) ≡ false
loose_undirected None is = absurd (true≢false (sym is))
loose_undirected (Some (File bytes access)) is = refl
loose_undirected (Some (Dir access)) is = absurd (true≢false (sym is))
loose_undirected (Some (Link target)) is = refl

record IsAgain (rename listed : Bool) (from to : Path) (old now : World) : Type 0 where
  pub moves : moves_node rename listed (sight_of rename now from to) ≡ true
  pub passing : IsPassing rename listed from to old now
  pub same : IsSame (moved old from to) (moved now from to)

-- the directory above isn't the target itself
front_other : (rename listed : Bool) (from to : Path) (old : World) → from ≢ to → is_ship_text to ≡ true → moves_node rename listed (sight_of rename old from to) ≡ true → first_holding (move_conditions true (sight_of rename old from to)) ≡ None → front_of to ≢ to
front_other rename listed from to old other ship is none e =
    let sight = sight_of rename old from to in
    let can = can_move true (brings_first rename listed sight) rename listed sight old from to (sym is) refl refl other ship none refl in
    let there = kind_directory (old (front_of to)) (way_free sight none).0 in
    no_directory_to old (brings_first rename listed sight) from to can (subst (λ p. IsDirectory (old p)) e there)

again_moved : (from to : Path) (old now : World) → from ≢ to → now ≡ put old to (old from) → IsSame (moved old from to) (moved now from to)
again_moved from to old now other goes q = elim (either_path q to) [
  | inl e ↦ moved_to now from to other q e ∙ ap (λ w. w from) goes ∙ put_other old to from (old from) other ∙ sym (moved_to old from to other q e)
  | inr far ↦ elim (either_path q from) [
    | inl e ↦ moved_from now from to other q e ∙ sym (moved_from old from to other q e)
    | inr away ↦ moved_rest now from to other q away far ∙ ap (λ w. w q) goes ∙ put_other old to q (old from) far ∙ sym (moved_rest old from to other q away far)
  ]
]

both_again : (rename listed : Bool) (from to : Path) (old now : World) → from ≢ to → is_ship_text to ≡ true → moves_node rename listed (sight_of rename old from to) ≡ true → first_holding (move_conditions true (sight_of rename old from to)) ≡ None → now ≡ put old to (old from)
    → IsAgain rename listed from to old now
both_again rename listed from to old now other ship is none goes =
    let asked = and_parts rename (not listed && is_loose_kind (kind_of (old from))) is in
    let loose : is_loose_kind (kind_of (old from)) ≡ true = (and_parts (not listed) (is_loose_kind (kind_of (old from))) asked.1).1 in
    let at_from : now from ≡ old from = ap (λ w. w from) goes ∙ put_other old to from (old from) other in
    let at_to : now to ≡ old from = ap (λ w. w to) goes ∙ put_same old to to (old from) refl in
    let moves : moves_node rename listed (sight_of rename now from to) ≡ true = ap (λ n. rename && (not listed && is_loose_kind (kind_of n))) at_from ∙ is in
    let above : is_directory_kind (kind_of (now (front_of to))) ≡ true =
    ap (λ n. is_directory_kind (kind_of n)) (ap (λ w. w (front_of to)) goes ∙ put_other old to (front_of to) (old from) (front_other rename listed from to old other ship is none)) ∙ (way_free (sight_of rename old from to) none).0 in
    let same : rename && same_node (now from) (now to) ≡ true =
    and_from rename (same_node (now from) (now to)) asked.0 (ap (λ n. same_node n (now to)) at_from ∙ ap (same_node (old from)) at_to ∙ same_itself (old from) loose) in
    let free : is_some (kind_of (now to)) && not (rename && same_node (now from) (now to)) ≡ false = and_right (is_some (kind_of (now to))) (not (rename && same_node (now from) (now to))) (ap not same) in
    record {
      moves = moves;
      passing = record {
        way = ap (λ b. first_holding (move_conditions b (sight_of rename now from to))) moves
            ∙ passed_over NoParent (not (is_directory_kind (kind_of (now (front_of to))))) ((TargetExists, is_some (kind_of (now to)) && not (rename && same_node (now from) (now to))) ∷ []) (ap not above)
            (passed_over TargetExists (is_some (kind_of (now to)) && not (rename && same_node (now from) (now to))) [] free refl);
        no_directory = λ any. or_from (is_directory_kind (kind_of (now from))) (is_directory_kind (kind_of (now to)))
            (ap (λ n. is_directory_kind (kind_of n)) at_from ∙ loose_undirected (old from) loose) (ap (λ n. is_directory_kind (kind_of n)) at_to ∙ loose_undirected (old from) loose);
      };
      same = again_moved from to old now other goes;
    }

-- what is left of either change

module _ (rename listed : Bool) (from to : Path) (old now : World) (ship_from : is_ship_text from ≡ true) (ship_to : is_ship_text to ≡ true) (other : from ≢ to) where
  at_shipped : KeepsBesideFile diversions_path (moved_if (moves_node rename listed (sight_of rename old from to)) from to old) now → IsSettled rename listed from to old now
  at_shipped rest =
      settled rename listed from to old now (moves_node rename listed (sight_of rename old from to)) other refl
      (rest from (λ e. own_other diversions_path from ship_from refl (sym e)) (λ e. own_other (temporary diversions_path) from ship_from refl (sym e)))
      (rest to (λ e. own_other diversions_path to ship_to refl (sym e)) (λ e. own_other (temporary diversions_path) to ship_to refl (sym e)))

  abbrev Change : World → World
  Change w = moved_if (moves_node rename listed (sight_of rename w from to)) from to w

  finished : (entries : List Diversion) (refusal : World → Option Refusal) → refusal old ≡ None → first_holding (move_conditions (moves_node rename listed (sight_of rename old from to)) (sight_of rename old from to)) ≡ None
      → (IsPassing rename listed from to old now → refusal now ≡ None)
      → (now ≡ old) ⊎ (((now ≡ doubled_if (moves_node rename listed (sight_of rename old from to)) from to old) × IsTableReady now) ⊎ IsRecording entries Change old now)
      → IsFinishedAgain entries refusal Change old now
  finished entries refusal free way again (inl same) = unchanged same
    where
      unchanged : now ≡ old → IsFinishedAgain entries refusal Change old now
      unchanged same = inr (ap (λ w. w diversions_path) same, ap refusal same ∙ free, λ q no_file no_spare. ap (λ w. Change w q) same)
  finished entries refusal free way again (inr (inl both)) = at (moves_node rename listed (sight_of rename old from to)) refl both.0
    where
      at : (moves : Bool) → moves_node rename listed (sight_of rename old from to) ≡ moves → now ≡ doubled_if moves from to old → IsFinishedAgain entries refusal Change old now
      at false is same = inr (ap (λ w. w diversions_path) same, ap refusal same ∙ free, λ q no_file no_spare. ap (λ w. Change w q) same)
      at true is goes =
          let all = both_again rename listed from to old now other ship_to is (subst (λ b. first_holding (move_conditions b (sight_of rename old from to)) ≡ None) is way) goes in
          inr (
            ap (λ w. w diversions_path) goes ∙ put_other old to diversions_path (old from) (own_other diversions_path to ship_to refl),
            again all.passing,
            λ q no_file no_spare. ap (λ b. moved_if b from to now q) all.moves ∙ all.same q ∙ ap (λ b. moved_if b from to old q) (sym is),
          )
  finished entries refusal free way again (inr (inr recording)) = at recording.table
    where
      at : (now diversions_path ≡ old diversions_path) ⊎ HasDiversions now entries → IsFinishedAgain entries refusal Change old now
      at (inl before) =
          let all = at_shipped recording.rest in
          inr (before, again (passing rename listed from to old now all), λ q no_file no_spare. ap (λ w. w q) (not_moved (moves_node rename listed (sight_of rename now from to)) from to now all.still) ∙ recording.rest q no_file no_spare)
      at (inr after) = inl (after, recording.rest)

-- adding

record AddsTo (w : World) (ways : Ways) (d : Diversion) (rename : Bool) (seen : Seen) : Type 0 where
  pub other : is_one_place ways.aliases d.target d.path ≡ false
  pub no_directory : is_directory_kind (kind_of (w (resolved ways.aliases d.path))) || is_directory_kind (kind_of (w (resolved ways.aliases d.target))) ≡ false
  pub path : is_path_taken ways d ≡ false
  pub taken : is_target_taken ways d ≡ false
  pub conffile : seen.conffile ≡ false
  pub way : first_holding (move_conditions (moves_node rename seen.listed (sight_of rename w (resolved ways.aliases d.path) (resolved ways.aliases d.target))) (sight_of rename w (resolved ways.aliases d.path) (resolved ways.aliases d.target))) ≡ None

adds : (w : World) (ways : Ways) (d : Diversion) (rename : Bool) (seen : Seen) → add_refusal w ways d rename seen ≡ None → AddsTo w ways d rename seen
adds w ways d rename seen none =
    let sight = sight_of rename w (resolved ways.aliases d.path) (resolved ways.aliases d.target) in
    let way = move_conditions (moves_node rename seen.listed sight) sight in
    let late = (Conffile, seen.conffile) ∷ way in
    let middle = (TargetDiverted, is_target_taken ways d) ∷ late in
    let early = (AlreadyDiverted, is_path_taken ways d) ∷ middle in
    let directory = is_directory_kind sight.from || is_directory_kind sight.to in
    let same = none_holds SamePath (is_one_place ways.aliases d.target d.path) ((Directory, directory) ∷ early) none in
    let first = none_holds Directory directory early same.1 in
    let second = none_holds AlreadyDiverted (is_path_taken ways d) middle first.1 in
    let third = none_holds TargetDiverted (is_target_taken ways d) late second.1 in
    record { other = same.0; no_directory = first.0; path = second.0; taken = third.0; conffile = (none_holds Conffile seen.conffile way third.1).0; way = (none_holds Conffile seen.conffile way third.1).1 }

added_again : (ways : Ways) (d : Diversion) (rename : Bool) (seen : Seen) (old now : World) → AddsTo old ways d rename seen → IsPassing rename seen.listed (resolved ways.aliases d.path) (resolved ways.aliases d.target) old now → add_refusal now ways d rename seen ≡ None
added_again ways d rename seen old now before all =
    let sight = sight_of rename now (resolved ways.aliases d.path) (resolved ways.aliases d.target) in
    let way = move_conditions (moves_node rename seen.listed sight) sight in
    let late = (Conffile, seen.conffile) ∷ way in
    let middle = (TargetDiverted, is_target_taken ways d) ∷ late in
    let early = (AlreadyDiverted, is_path_taken ways d) ∷ middle in
    let directory = is_directory_kind sight.from || is_directory_kind sight.to in
    passed_over SamePath (is_one_place ways.aliases d.target d.path) ((Directory, directory) ∷ early) before.other
    (passed_over Directory directory early (all.no_directory before.no_directory)
    (passed_over AlreadyDiverted (is_path_taken ways d) middle before.path
    (passed_over TargetDiverted (is_target_taken ways d) late before.taken
    (passed_over Conffile seen.conffile way before.conffile
    all.way))))

pub adding_again : (ways : Ways) (d : Diversion) (rename : Bool) (seen : Seen) (old now : World) → IsWellFormed d → add_refusal old ways d rename seen ≡ None → IsAdding ways d rename seen old now
    → IsFinishedAgain (ways.entries ++ d ∷ []) (λ w. add_refusal w ways d rename seen) (diverted ways d rename seen) old now
adding_again ways d rename seen old now formed none moment =
    let before = adds old ways d rename seen none in
    let from = resolved ways.aliases d.path in
    let to = resolved ways.aliases d.target in
    finished rename seen.listed from to old now (resolved_ships ways.aliases d.path formed.path.path) (resolved_ships ways.aliases d.target formed.target.path) (λ e. apart to from before.other (sym e)) (ways.entries ++ d ∷ []) (λ w. add_refusal w ways d rename seen) none before.way
    (added_again ways d rename seen old now before) moment

entry_last : (entries : List Diversion) (d : Diversion) → is_diverted entries d.path ≡ false → entry_of (entries ++ d ∷ []) d.path ≡ Some d
entry_last [] d free = ap (λ b. cond b (Some d) None) ((bytes_eq-Decides d.path d.path).1 refl)
entry_last (e ∷ entries) d free =
    let parts = or_parts (bytes_eq d.path e.path) (is_diverted entries d.path) free in
    ap (λ b. cond b (Some e) (entry_of (entries ++ d ∷ []) d.path)) parts.0 ∙ entry_last entries d parts.1

pub added_is_there : (ways : Ways) (d : Diversion) (rename : Bool) (seen : Seen) (old : World) → add_refusal old ways d rename seen ≡ None → has_same (ways.entries ++ d ∷ []) d ≡ true
added_is_there ways d rename seen old none =
    ap (λ o. is_same o d.target d.owner)
    (entry_last ways.entries d (or_parts (is_diverted ways.entries d.path) (list_any (is_rival ways.aliases d) ways.entries) (adds old ways d rename seen none).path).0)
    ∙ and_from (bytes_eq d.target d.target) (same_owner d.owner d.owner) ((bytes_eq-Decides d.target d.target).1 refl) (same_owner_from d.owner d.owner refl)

-- taking away

first_part : (a b : List (Refusal × Bool)) → first_holding (a ++ b) ≡ None → first_holding a ≡ None
first_part [] b none = refl
first_part ((x, true) ∷ a) b none = absurd (let e : Some x ≡ None = none in cc)
first_part ((x, false) ∷ a) b none = first_part a b none

both_none : (a b : List (Refusal × Bool)) → first_holding a ≡ None → first_holding b ≡ None → first_holding (a ++ b) ≡ None
both_none [] b first second = second
both_none ((x, true) ∷ a) b first second = absurd (let e : Some x ≡ None = first in cc)
both_none ((x, false) ∷ a) b first second = both_none a b first second

second_part : (a b : List (Refusal × Bool)) → first_holding a ≡ None → first_holding (a ++ b) ≡ None → first_holding b ≡ None
second_part a b first none = sym (first_after a b first) ∙ none

module _ (rename : Bool) (from to : Path) (old now : World) (ship_from : is_ship_text from ≡ true) (ship_to : is_ship_text to ≡ true) (entries : List Diversion) (refusal : World → Option Refusal) (free : refusal old ≡ None) where
  abbrev Moves : Bool → World → Bool
  Moves one w = not one && moves_node rename false (sight_of rename w from to)

  -- where both places are one nothing is moved
  finished_back : (one : Bool) → bytes_eq from to ≡ one → first_holding (move_conditions (Moves one old) (sight_of rename old from to)) ≡ None → (first_holding (move_conditions (Moves one now) (sight_of rename now from to)) ≡ None → refusal now ≡ None)
      → IsUnderWay (λ w. doubled_if (Moves one w) from to w) (λ w. moved_if (Moves one w) from to w) entries old now → IsFinishedAgain entries refusal (λ w. moved_if (Moves one w) from to w) old now
  finished_back false apart_there way again moment = finished rename false from to old now ship_from ship_to (apart from to apart_there) entries refusal free way (λ all. again all.way) moment
  finished_back true here way again (inl same) = inr (ap (λ w. w diversions_path) same, ap refusal same ∙ free, λ q no_file no_spare. ap (λ w. w q) same)
  finished_back true here way again (inr (inl both)) = inr (ap (λ w. w diversions_path) both.0, ap refusal both.0 ∙ free, λ q no_file no_spare. ap (λ w. w q) both.0)
  finished_back true here way again (inr (inr recording)) = at recording.table
    where
      at : (now diversions_path ≡ old diversions_path) ⊎ HasDiversions now entries → IsFinishedAgain entries refusal (λ w. w) old now
      at (inl before) = inr (before, again refl, recording.rest)
      at (inr after) = inl (after, recording.rest)

pub removing_again : (ways : Ways) (path : Path) (owner : Owner) (rename : Bool) (old now : World) → IsTable ways.entries → is_ship_text path ≡ true → remove_refusal old ways path owner rename ≡ None → IsRemoving ways path rename old now
    → IsFinishedAgain (without path ways.entries) (λ w. remove_refusal w ways path owner rename) (undiverted ways path rename) old now
removing_again ways path owner rename old now table ship none moment =
    let from = truename ways path in
    let to = resolved ways.aliases path in
    let asked = owner_conditions ways.entries path owner in
    let owned : first_holding asked ≡ None = first_part asked (back_conditions old from to rename) none in
    finished_back rename from to old now (true_ships ways path table ship) (resolved_ships ways.aliases path ship) (without path ways.entries) (λ w. remove_refusal w ways path owner rename) none (bytes_eq from to) refl
    (second_part asked (back_conditions old from to rename) owned none) (λ way. both_none asked (back_conditions now from to rename) owned way) moment
