-- What is left by a loss is what the definition allows.
use Rattle.std.proofs.Common.{◌≡◌, ℕ, ◌+◌, Bool, true, false, cond, List, [], ◌∷◌, ◌++◌, take, drop, map, length, replicate, Option, Some, None, refl, sym, ap, subst, ◌∙◌, inl, arith}
use Rattle.std.specs.Prelude.{count_by}
use Rattle.std.proofs.lemmas.List.{append-nil, take-append-drop, take-map}
use Rattle.std.proofs.lemmas.List.Sums.{sum_by-append}
use Rattle.std.proofs.Math.Seq.{take-add}
use Rattle.host_core.specs.World.{World}
use Rattle.host_core.specs.Events.{Event, follow_all}
use Rattle.host_core.specs.Host.{State}
use Rattle.host_core.specs.Loss.{is_barrier, HasNoBarrier, IsBlurred, LosesSince}
use Rattle.host_core.specs.declared.node.Node.{Node}
use Rattle.host_core.specs.declared.node.Node.TheVariants.{File, Dir, Link}
use Rattle.host_memory.specs.declared.history.History.{History}
use Rattle.host_memory.specs.Doings.{event_of}
use Rattle.host_memory.specs.Histories.{history_state, disk_state, since_disk, IsLeft}
use Rattle.host_memory.specs.Losing.{IsUnflushed, filled, left_of}

no_barrier : (es : List Event) → IsUnflushed es → HasNoBarrier es
no_barrier [] none = tt
no_barrier (e ∷ es) none =
    let parts = sum_by-append (λ (x : Event). cond (is_barrier x) 1 0) (e ∷ []) es in
    let both : cond (is_barrier e) 1 0 + count_by is_barrier es ≡ 0 = omega (arith, parts, none) in
    (first (is_barrier e) both, no_barrier es (rest (is_barrier e) both))
  where
    first : (b : Bool) → cond b 1 0 + count_by is_barrier es ≡ 0 → b ≡ false
    first true is = absurd (omega (arith, is))
    first false is = refl

    rest : (b : Bool) → cond b 1 0 + count_by is_barrier es ≡ 0 → count_by is_barrier es ≡ 0
    rest b is = omega (arith, is)

blurred_filled : (fill : ℕ) (o : Option Node) → IsBlurred o (filled fill o)
blurred_filled fill None = refl
blurred_filled fill (Some (File b a)) = (replicate (length b) fill, refl)
blurred_filled fill (Some (Dir a)) = refl
blurred_filled fill (Some (Link t)) = refl

-- the events so far are those until all was on the disk, and those since
pub all_events : (h : History) → (history_state h).events ≡ (disk_state h).events ++ since_disk h
all_events h = sym (take-append-drop h.flushed (map event_of h.events.items))

pub loses_so : (keep fill : ℕ) (h : History) (world : World) → IsLeft keep fill h world → (begun : State) (earlier : List Event) → (disk_state h).events ≡ begun.events ++ earlier → LosesSince begun (disk_state h) (history_state h) world
loses_so keep fill h world is begun earlier session =
    let since = since_disk h in
    let front : List Event = take is.count since in
    let disk = (disk_state h).world in
    let split : since ≡ front ++ drop is.count since = sym (take-append-drop is.count since) in
    record {
      earlier = earlier;
      session = session;
      added = since;
      events = all_events h;
      moment = since;
      is = inl ([], sym (append-nil since));
      loss = record {
        durable = [];
        front = front;
        rest = drop is.count since;
        split = split;
        late = subst HasNoBarrier split (no_barrier since h.late);
        whole = λ q free clean. is.left q ∙ ap (λ (b : Bool). left_of fill b (follow_all front disk q)) clean;
        bytes = λ q free lost. subst (λ (o : Option Node). IsBlurred (follow_all front disk q) o) (sym (is.left q ∙ ap (λ (b : Bool). left_of fill b (follow_all front disk q)) lost)) (blurred_filled fill (follow_all front disk q));
      };
    }

-- the first events of all
pub first_events : (h : History) (count : ℕ) → map event_of (take (h.flushed + count) h.events.items) ≡ (disk_state h).events ++ take count (since_disk h)
first_events h count = sym (take-map event_of (h.flushed + count) h.events.items) ∙ take-add h.flushed count (map event_of h.events.items)
