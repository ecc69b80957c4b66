-- What is left under the name goes while the rows are at a place.
use Rattle.std.proofs.Common.{◌≡◌, ◌≢◌, ◌⊎◌, inl, inr, ℕ, ◌+◌, ◌<◌, Bool, true, false, cond, List, [], ◌∷◌, ◌++◌, Option, None, IsTrue, Result, Ok, Err, OnOk, length, get_or, refl, sym, ap, subst, ◌∙◌, append_assoc, arith, ◌||◌}
use Rattle.std.specs.List.{list_any}
use Rattle.std.proofs.lemmas.Bool.{true≢false, cond-true, cond-false}
use Rattle.std.proofs.lemmas.List.{append-nil}
use Rattle.host_core.specs.Paths.{Path, is_named_by, is_own}
use Rattle.host_core.specs.World.{World, Change, IsDirectory, changed, is_kept}
use Rattle.host_core.specs.Events.{Event, changes_of, scripts_of}
use Rattle.host_core.specs.Host.{State, AtEachMoment, Leaves, Silent, Since}
use Rattle.host_core.specs.declared.fault.HostFault.{HostFault}
use Rattle.host_core.specs.declared.node.Node.{Node}
use Rattle.host_core.proofs.Moments.{scripts_of-append}
use Rattle.host_core.proofs.Scripts.{changed_at, changed_kept, changes_of-append, no_change, silent_added}
use Rattle.administration.specs.Files.{NoDirectory}
use Rattle.administration.specs.Places.{home_path, info_path, list_path, temporary, updates_path, is_within}
use Rattle.administration.proofs.WholeFiles.{no_directory_at, no_directory_none}
use Rattle.administration.proofs.Within.{within_is}
use Rattle.undo_rows.specs.Place.{Forward, Ready}
use Rattle.undo_rows.specs.Stops.{AtEachStop}
use Rattle.undo_rows.proofs.Stops.{stops_quiet}
use Rattle.control_members.specs.Names.{is_member_name}
use Rattle.control_members.specs.Stored.{IsMembersReady, stored_member_path}
use Rattle.control_members.proofs.Apart.{info_other, no_list_temporary, no_temporary}
use Rattle.file_lists.specs.Writing.{IsListReady}
use Rattle.status_db.specs.Held.{HasRecords, is_record_place}
use Rattle.status_records.specs.declared.record.Record.{Record}
use Rattle.status_db.proofs.NotedWorlds.{kept_on, place_differs}
use Rattle.unpack_rows.specs.Stages.{Unwritten, stage_of}
use Rattle.unpack_rows.specs.declared.kinds.RowKind.{RowKind}
use Rattle.unpack_steps.specs.At.{At, Holding, IsAt, IsThere, Stops}
use Rattle.unpack_steps.specs.Clearing.{HasCleared, IsBesideOwn, IsCleared, IsClearing, MayClear, clears_before}
use Rattle.unpack_steps.specs.Stays.{clear_here, stop_at}
use Rattle.unpack_steps.specs.Task.{Task, based_on, has_gone, kinds, name}
use Rattle.unpack_steps.specs.Trail.{Follows, HasCome}
use Rattle.unpack_steps.proofs.Going.{goes_there, stays_there}
use Rattle.unpack_steps.proofs.Standing.{Stands}

-- paths in `info` and beside it

list_is_other : (owner : Path) → info_path ≢ list_path owner
list_is_other owner e = absurd (omega (arith, ap (λ (p : Path). get_or p 18 0) e))

outside_beside : (owner q : Path) → is_within info_path q ≡ false → IsBesideOwn owner q
outside_beside owner q out = record {
  list = λ e. true≢false (ap (is_within info_path) (sym e) ∙ out);
  members = λ member is e. true≢false (ap (is_within info_path) (sym e) ∙ out);
}

info_beside : (owner : Path) → IsBesideOwn owner info_path
info_beside owner = record { list = list_is_other owner; members = λ member is. info_other owner member }

spare_beside : (owner : Path) → IsBesideOwn owner (temporary (list_path owner))
spare_beside owner = record {
  list = λ e. no_list_temporary owner (list_path owner) (sym e);
  members = λ member is e. no_temporary owner member (list_path owner) is (sym e);
}

pub record_beside : (owner q : Path) → is_record_place q ≡ true → IsBesideOwn owner q
record_beside owner q is = record {
  list = λ e. place_differs q (list_path owner) is refl (sym e);
  members = λ member m e. place_differs q (stored_member_path owner member) is refl (sym e);
}

info_unnoted : (q : Path) → is_within info_path q ≡ true → is_record_place q ≡ false
info_unnoted q within = elim (within_is info_path q within) [
  | inl is ↦ ap is_record_place is
  | inr more ↦ ap is_record_place more.1
]

info_own : (q : Path) → is_within info_path q ≡ true → is_own q ≡ true
info_own q within = elim (within_is info_path q within) [
  | inl is ↦ ap is_own is
  | inr more ↦ ap is_own more.1
]

info_kept : (places : List Path) (q : Path) → is_within info_path q ≡ true → is_kept places q ≡ true
info_kept places q within = ap (λ b. b || list_any (is_named_by q) places) (info_own q within)

-- what calls and notes leave in `info`
pub same_in_info : (places : List Path) (c : Change) (v w : World) → Follows places c v w → (q : Path) → is_within info_path q ≡ true → w q ≡ v q
same_in_info places c v w follows q within = follows.rest q (info_unnoted q within) ∙ changed_kept (is_kept places) c v follows.avoids q (info_kept places q within)

pub members_same : (owner : Path) (v w : World) → ((q : Path) → is_within info_path q ≡ true → w q ≡ v q) → IsMembersReady owner v → IsMembersReady owner w
members_same owner v w same ready = record {
  info = subst IsDirectory (sym (same info_path refl)) ready.info;
  own = λ member is. no_directory_at _ _ (same (stored_member_path owner member) refl) (ready.own member is);
  spares = λ member is. no_directory_at _ _ (same (temporary (stored_member_path owner member)) refl) (ready.spares member is);
}

-- one world, with what stands in `info` in another
abbrev pub info_of : World → World → World
info_of now base q = cond (is_within info_path q) (now q) (base q)

module _ (owner : Path) (base old now : World) (same : (q : Path) → is_within info_path q ≡ true → old q ≡ base q) where
  rest_by : (b : Bool) (q : Path) → is_within info_path q ≡ b → now q ≡ old q → info_of now base q ≡ base q
  rest_by true q within kept = cond-true (is_within info_path q) (now q) (base q) within ∙ kept ∙ same q within
  rest_by false q out kept = cond-false (is_within info_path q) (now q) (base q) out

  stood_or_gone : (q : Path) → is_within info_path q ≡ true → (now q ≡ old q) ⊎ (now q ≡ None) → (now q ≡ base q) ⊎ (now q ≡ None)
  stood_or_gone q within (inl kept) = inl (kept ∙ same q within)
  stood_or_gone q within (inr none) = inr none

  pub cleared_info : IsCleared owner old now → IsCleared owner base (info_of now base)
  cleared_info has = record { list = has.list; members = has.members; rest = λ q beside. rest_by (is_within info_path q) q refl (has.rest q beside) }

  pub clearing_info : IsClearing owner old now → IsClearing owner base (info_of now base)
  clearing_info may = record {
    list = stood_or_gone (list_path owner) refl may.list;
    members = λ member is. stood_or_gone (stored_member_path owner member) refl (may.members member is);
    rest = λ q beside. rest_by (is_within info_path q) q refl (may.rest q beside);
  }

-- the same calls and notes lead there from such a world
pub follows_info : (places : List Path) (c : Change) (base old now : World) → Follows places c base old → ((q : Path) → is_within info_path q ≡ false → now q ≡ old q) → Follows places c (info_of now base) now
follows_info places c base old now follows beside = record { avoids = follows.avoids; rest = λ q out. by (is_within info_path q) q refl out }
  where
    by : (b : Bool) (q : Path) → is_within info_path q ≡ b → is_record_place q ≡ false → now q ≡ changed c (info_of now base) q
    by true q within out =
        sym (changed_kept (is_kept places) c (info_of now base) follows.avoids q (info_kept places q within) ∙ cond-true (is_within info_path q) (now q) (base q) within)
    by false q outside out = beside q outside ∙ follows.rest q out ∙ changed_at c base (info_of now base) q (sym (cond-false (is_within info_path q) (now q) (base q) outside))

-- the records and the list's places stand

module _ (owner : Path) (v now : World) (may : IsClearing owner v now) where
  gone_or_not : (now (list_path owner) ≡ v (list_path owner)) ⊎ (now (list_path owner) ≡ None) → NoDirectory (v (list_path owner)) → NoDirectory (now (list_path owner))
  gone_or_not (inl same) none = no_directory_at _ _ same none
  gone_or_not (inr gone) none = no_directory_at _ _ gone no_directory_none

  pub clearing_stands : (rs : List Record) (notes : ℕ) → Stands rs notes owner v → Stands rs notes owner now
  clearing_stands rs notes stands = record {
    kept = kept_on v now rs notes (λ q is. may.rest q (record_beside owner q is))
        (subst IsDirectory (sym (may.rest home_path (outside_beside owner home_path refl))) stands.kept.unblocked.home)
        (subst IsDirectory (sym (may.rest updates_path (outside_beside owner updates_path refl))) stands.kept.unblocked.updates) stands.kept;
    ready = record {
      info = subst IsDirectory (sym (may.rest info_path (info_beside owner))) stands.ready.info;
      target = gone_or_not may.list stands.ready.target;
      spare = no_directory_at _ _ (may.rest (temporary (list_path owner)) (spare_beside owner)) stands.ready.spare;
    };
  }

cleared_clearing : (owner : Path) (v w : World) → IsCleared owner v w → IsClearing owner v w
cleared_clearing owner v w has = record { list = inr has.list; members = λ member is. inr (has.members member is); rest = has.rest }

-- before the call of a row
module _ (t : Task) (g : Holding) (s u : State) (i : ℕ) (k : RowKind) (within : i < length (kinds t)) (is : k ≡ get_or (kinds t) i k) (at : At t g s (Forward i)) where
  stands_there : IsTrue s.honest → Stands g.database.records g.database.notes (name t) s.world
  stands_there h = record { kept = (at.world h).kept; ready = (at.world h).ready }

  -- where it goes: nothing has gone before
  module _ (goes : clears_before t.found k ≡ true) where
    facts : (has_gone t (Forward i) ≡ false) × (has_gone t (Ready i) ≡ true) × (stage_of (kinds t) (Forward i) ≡ Unwritten)
    facts = goes_there t i k within is goes

    as_begun : IsTrue s.honest → at.base ≡ t.start.world
    as_begun h = subst (λ b. HasCleared b (name t) t.start.world at.base) facts.0 (at.cleared h)

    came_there : IsTrue s.honest → Follows t.places (changes_of at.since) at.base s.world
    came_there h = subst (λ st. HasCome (based_on t at.base) st g.works (changes_of at.since) s.world) facts.2 (at.world h).came

    in_info : IsTrue s.honest → (q : Path) → is_within info_path q ≡ true → s.world q ≡ at.base q
    in_info h = same_in_info t.places (changes_of at.since) at.base s.world (came_there h)

    pub members_there : IsTrue s.honest → IsMembersReady (name t) s.world
    members_there h = members_same (name t) at.base s.world (in_info h) (subst (IsMembersReady (name t)) (sym (as_begun h)) (at.members h))

    come_on : IsTrue s.honest → (now : World) → IsClearing (name t) s.world now → HasCome (based_on t (info_of now at.base)) (stage_of (kinds t) (Forward i)) g.works (changes_of at.since) now
    come_on h now may =
        subst (λ st. HasCome (based_on t (info_of now at.base)) st g.works (changes_of at.since) now) (sym facts.2)
        (follows_info t.places (changes_of at.since) at.base s.world now (came_there h) (λ q out. may.rest q (outside_beside (name t) q out)))

  pub members_needed : clears_before t.found k ≡ true → IsTrue s.honest → IsMembersReady (name t) s.world
  members_needed goes h = members_there goes h

  module _ (silent : Silent s u) where
    same_change : (more : List Event) → scripts_of more ≡ [] → changes_of (at.since ++ more) ≡ changes_of at.since
    same_change more none = changes_of-append at.since more ∙ ap (λ l. changes_of at.since ++ l) (no_change more none) ∙ append-nil (changes_of at.since)

    -- what stands at such a place
    module _ (b : Bool) (P : List Event → World → Type 0) (moments : Since P s u) (base : World) (cleared : IsTrue u.honest → HasCleared b (name t) t.start.world base)
        (stands : IsTrue u.honest → Stands g.database.records g.database.notes (name t) u.world)
        (came : IsTrue u.honest → HasCome (based_on t base) (stage_of (kinds t) (Forward i)) g.works (changes_of at.since) u.world) where
      at_cleared : IsAt t b g u (Forward i)
      at_cleared =
          let none = silent_added s u moments.added silent moments.events in
          record {
            sound = at.sound;
            falls = λ h. at.falls (silent.honest h);
            within = at.within;
            records = at.records;
            opened = at.opened;
            lists = at.lists;
            lists_open = at.lists_open;
            places = at.places;
            works = at.works;
            since = at.since ++ moments.added;
            events = moments.events ∙ ap (λ (l : List Event). l ++ moments.added) at.events ∙ append_assoc t.start.events at.since moments.added;
            ran = at.ran;
            ended = scripts_of-append at.since moments.added ∙ ap (λ (l : List Event). scripts_of at.since ++ l) none ∙ append-nil (scripts_of at.since) ∙ at.ended;
            base = base;
            cleared = cleared;
            members = λ h. at.members (silent.honest h);
            world = λ h. record {
              kept = (stands h).kept;
              ready = (stands h).ready;
              came = subst (λ c. HasCome (based_on t base) (stage_of (kinds t) (Forward i)) g.works c u.world) (sym (same_change moments.added none)) (came h);
            };
          }

    stop_clearing : (so_far : List Event) (w : World) → scripts_of so_far ≡ [] → Stands g.database.records g.database.notes (name t) w
        → (base : World) → MayClear (has_gone t (Forward i)) (has_gone t (Ready i)) (name t) t.start.world base
        → HasCome (based_on t base) (stage_of (kinds t) (Forward i)) g.works (changes_of at.since) w → Stops t (s.events ++ so_far) w
    stop_clearing so_far w none stands base may came =
        stop_at t (Forward i) g.works (at.since ++ so_far) (s.events ++ so_far) w at.within (ap (λ (l : List Event). l ++ so_far) at.events ∙ append_assoc t.start.events at.since so_far)
        (subst (HasRecords w) at.records stands.kept.holds) (record { unblocked = stands.kept.unblocked; table = g.database.records; records = stands.kept.holds })
        stands.ready at.works base may (subst (λ c. HasCome (based_on t base) (stage_of (kinds t) (Forward i)) g.works c w) (sym (same_change so_far none)) came)

    clear_place_by : (goes : Bool) → clears_before t.found k ≡ goes → AtEachMoment (MayClear false goes (name t)) s u → (IsTrue u.honest → HasCleared goes (name t) s.world u.world) → IsAt t (has_gone t (Ready i)) g u (Forward i)
    clear_place_by true is_so moments has =
        let f = facts is_so in
        subst (λ b. IsAt t b g u (Forward i)) (sym f.1)
        (at_cleared true (λ so_far. IsClearing (name t) s.world) moments (info_of u.world at.base)
        (λ h. subst (λ w. IsCleared (name t) w (info_of u.world at.base)) (as_begun is_so (silent.honest h)) (cleared_info (name t) at.base s.world u.world (in_info is_so (silent.honest h)) (has h)))
        (λ h. clearing_stands (name t) s.world u.world (cleared_clearing (name t) s.world u.world (has h)) _ _ (stands_there (silent.honest h)))
        (λ h. come_on is_so (silent.honest h) u.world (cleared_clearing (name t) s.world u.world (has h))))
    clear_place_by false is_so moments has =
        subst (λ b. IsAt t b g u (Forward i)) (sym (stays_there t i k within is is_so))
        (at_cleared (has_gone t (Forward i)) (λ so_far w. w ≡ s.world) moments at.base (λ h. at.cleared (silent.honest h))
        (λ h. subst (Stands _ _ (name t)) (sym (has h)) (stands_there (silent.honest h)))
        (λ h. subst (HasCome (based_on t at.base) (stage_of (kinds t) (Forward i)) g.works (changes_of at.since)) (sym (has h)) (at.world (silent.honest h)).came))

    pub clear_place : AtEachMoment (MayClear false (clears_before t.found k) (name t)) s u → (IsTrue u.honest → HasCleared (clears_before t.found k) (name t) s.world u.world) → IsAt t (has_gone t (Ready i)) g u (Forward i)
    clear_place moments has = clear_place_by (clears_before t.found k) refl moments has

    clear_stop_by : (goes : Bool) → clears_before t.found k ≡ goes → IsTrue s.honest → (so_far : List Event) (w : World) → scripts_of so_far ≡ [] → MayClear false goes (name t) s.world w → Stops t (s.events ++ so_far) w
    clear_stop_by true is_so h so_far w none may =
        let f = facts is_so in
        let base = info_of w at.base in
        stop_clearing so_far w none (clearing_stands (name t) s.world w may _ _ (stands_there h)) base
        (subst (λ b. MayClear b (has_gone t (Ready i)) (name t) t.start.world base) (sym f.0) (subst (λ b. MayClear false b (name t) t.start.world base) (sym f.1)
        (subst (λ v. IsClearing (name t) v base) (as_begun is_so h) (clearing_info (name t) at.base s.world w (in_info is_so h) may))))
        (come_on is_so h w may)
    clear_stop_by false is_so h so_far w none same =
        stop_clearing so_far w none (subst (Stands _ _ (name t)) (sym same) (stands_there h)) at.base (clear_here (has_gone t (Forward i)) (has_gone t (Ready i)) (name t) t.start.world at.base (at.cleared h))
        (subst (HasCome (based_on t at.base) (stage_of (kinds t) (Forward i)) g.works (changes_of at.since)) (sym same) (at.world h).came)

    pub clear_stops : AtEachMoment (MayClear false (clears_before t.found k) (name t)) s u → AtEachStop (Stops t) s u
    clear_stops since = stops_quiet (Stops t) (λ so_far. MayClear false (clears_before t.found k) (name t) s.world) s u silent since
        (λ h so_far w none may. clear_stop_by (clears_before t.found k) refl (silent.honest h) so_far w none may)
