-- What holds at each moment of removals, and the calls that they make.
use Rattle.std.proofs.Common.{◌≡◌, inl, inr, ℕ, List, [], ◌∷◌, ◌++◌, None, Option, refl, sym, subst}
use Rattle.std.proofs.lemmas.List.{append-nil}
use Rattle.host_core.specs.World.{World}
use Rattle.host_core.specs.Events.{Event}
use Rattle.host_core.specs.Host.{Needs, Since, State}
use Rattle.host_core.proofs.Moments.{since_then, since_weaker_if}
use Rattle.host_core.specs.declared.call.Call.{Call}
use Rattle.diversions.specs.Ways.{Ways}
use Rattle.file_lists.specs.Filed.{Filed}
use Rattle.removal_engine.specs.Units.{HasCalled, IsAmidUnit, given}
use Rattle.removal_engine.specs.declared.extent.Extent.TheVariants.{InFavour}
use Rattle.status_db.specs.Recorded.{Recorded}
use Rattle.held_administration.specs.Order.{IsInOrder}
use Rattle.unit_stages.specs.Holding.{Holding, holding}
use Rattle.undo_rows.specs.declared.rows.Called.{Called}
use Rattle.conflict_removal.specs.Removals.{CanBeOpened, HaveBeenRemoved, HaveCalled, IsAmidNext, IsAmidRemovals}

-- the next opening finds the records of an administration that is in order
order_found : (d : Recorded) (f : Filed) (w : World) → IsInOrder d f.lists w → CanBeOpened w
order_found d f w order = (
  d.records,
  record {
    records = order.kept.holds;
    opens = record { unblocked = order.kept.unblocked; table = d.records; records = order.kept.holds };
    loose = order.loose;
  },
)

module _ (ways : Ways) where
  next_start : (names : List (List ℕ)) (h : Holding) (w : World) → IsAmidNext ways names h w [] w
  next_start [] h w = (refl, refl)
  next_start (name ∷ names) h w = inl (refl, refl)

  unit_found : (name : List ℕ) (h : Holding) (old now : World) (so_far : List Event) → CanBeOpened old → IsAmidUnit (given InFavour name ways h) old so_far now → CanBeOpened now
  unit_found name h old now so_far found (inl only) = subst CanBeOpened (sym only.0) found
  unit_found name h old now so_far found (inr amid) = (amid.running.table, amid.running.opens)

  module _ (names : List (List ℕ)) where
    -- nothing is done yet
    pub since_removals_start : (d : Recorded) (f : Filed) (s : State) → Needs s (IsInOrder d f.lists) → Since (IsAmidRemovals ways names (holding d f) s) s s
    since_removals_start d f s order = record {
      added = [];
      events = sym (append-nil s.events);
      honest = λ h. h;
      world = refl;
      each = λ h. record {
        done = [];
        left = names;
        are = refl;
        failed = None;
        mid = holding d f;
        m = s;
        told = [];
        between = [];
        honest = h;
        removed = (refl, refl, refl, refl);
        front = [];
        rest = [];
        split = refl;
        events = sym (append-nil s.events);
        next = next_start names (holding d f) s.world;
        opens = order_found d f s.world (order h);
      };
    }

    -- the next one behind those that are done
    module _ (done left : List (List ℕ)) (name : List ℕ) (are : names ≡ done ++ name ∷ left) (failed : Option Call) (before : Holding) (d : Recorded) (f : Filed) (s m t : State) (told between : List Called)
        (removed : HaveBeenRemoved ways done failed before (holding d f) s m told between) where
      pub since_removal : Needs m (IsInOrder d f.lists) → Since (IsAmidRemovals ways names before s) s m → Since (IsAmidUnit (given InFavour name ways (holding d f)) m.world) m t → Since (IsAmidRemovals ways names before s) s t
      since_removal order first second =
          since_then (IsAmidRemovals ways names before s) s m t first
          (since_weaker_if (IsAmidUnit (given InFavour name ways (holding d f)) m.world) (λ so_far. IsAmidRemovals ways names before s (first.added ++ so_far)) m t
          (λ h so_far w amid. record {
            done = done;
            left = name ∷ left;
            are = are;
            failed = failed;
            mid = holding d f;
            m = m;
            told = told;
            between = between;
            honest = second.honest h;
            removed = removed;
            front = first.added;
            rest = so_far;
            split = refl;
            events = first.events;
            next = amid;
            opens = unit_found name (holding d f) m.world w so_far (order_found d f m.world (order (second.honest h))) amid;
          }) second)

      -- it is broken off
      pub called_next : (now : List Called) → HasCalled (given InFavour name ways (holding d f)) m t between now → HaveCalled ways names before s t told now
      called_next now called = record { done = done; left = name ∷ left; are = are; failed = failed; mid = holding d f; m = m; between = between; removed = removed; called = called }

    -- the calls of all of them
    pub called_all : (failed : Option Call) (before after : Holding) (s t : State) (told now : List Called) → HaveBeenRemoved ways names failed before after s t told now → HaveCalled ways names before s t told now
    called_all failed before after s t told now removed = record {
      done = names;
      left = [];
      are = sym (append-nil names);
      failed = failed;
      mid = after;
      m = t;
      between = now;
      removed = removed;
      called = (record { honest = λ h. h; scripts = refl }, refl);
    }
