-- What holds of the events since all was on the disk goes on to hold.
use Rattle.std.proofs.Common.{◌≡◌, ℕ, ◌+◌, ◌≤◌, ◌⊎◌, Bool, true, false, cond, List, [], ◌∷◌, ◌++◌, map, length, take, drop, Some, refl, sym, ap, subst, ◌∙◌, inl, inr, zero, suc, arith, length-append}
use Rattle.std.specs.Prelude.{count_by, slice_get}
use Rattle.std.specs.BTreeMap.{get_by_text}
use Rattle.std.proofs.lemmas.List.{take-append-le, drop-append-le, length-map}
use Rattle.std.proofs.lemmas.List.Sums.{sum_by-append}
use Rattle.std.proofs.Math.Seq.{take-append_seam, take-append-add}
use Rattle.host_core.specs.World.{World}
use Rattle.host_core.specs.Events.{Event, follow, follow_all}
use Rattle.host_core.specs.Loss.{is_barrier}
use Rattle.host_core.proofs.Moments.{follow_all-append}
use Rattle.host_memory.specs.declared.past.Past.{Past}
use Rattle.std.proofs.lemmas.List.{length-drop}
use Rattle.std.proofs.Math.Seq.{drop-length, take-length}
use Rattle.host_core.proofs.Losses.{EventKeepsSettled, settled_still}
use Rattle.host_core.specs.Unsynced.{IsSettled}
use Rattle.host_memory.specs.declared.done.Done.{Done}
use Rattle.host_memory.specs.declared.history.History.{History}
use Rattle.host_core.specs.Host.{State, Happens}
use Rattle.host_memory.specs.Histories.{history_state, disk_state, Goes, IsAsBefore}
use Rattle.host_memory.specs.Doings.{event_of}
use Rattle.host_memory.specs.Losing.{is_naming, naming_steps, IsUnflushed, IsBefore, ArePasts}

-- what a history keeps
pub record Holds (disk : World) (since : List Event) (world : World) (pasts : List Past) : Type 0 where
  pub late : IsUnflushed since
  pub now : world ≡ follow_all since disk
  pub total : naming_steps since ≡ length pasts
  pub before : ArePasts disk since pasts

pub holds_fresh : (w : World) → Holds w [] w []
holds_fresh w = record { late = refl; now = refl; total = refl; before = λ k past is. absurd (cc) }

count_more : (p : Event → Bool) (es : List Event) (e : Event) → count_by p (es ++ e ∷ []) ≡ count_by p es + cond (p e) 1 0
count_more p es e = omega (arith, sum_by-append (λ (x : Event). cond (p x) 1 0) es (e ∷ []))

got_more : (ps : List Past) (p : Past) (k : ℕ) (q : Past) → slice_get (ps ++ p ∷ []) k ≡ Some q → (slice_get ps k ≡ Some q) ⊎ ((k ≡ length ps) × (p ≡ q))
got_more [] p zero q is = inr (refl, cc is)
got_more [] p (suc k) q is = absurd (cc is)
got_more (x ∷ ps) p zero q is = inl is
got_more (x ∷ ps) p (suc k) q is = elim (got_more ps p k q is) [
  | inl old ↦ inl old
  | inr new ↦ inr (ap suc new.0, new.1)
]

module _ (disk now new : World) (since : List Event) (pasts : List Past) (e : Event) (h : Holds disk since now pasts) (same : is_barrier e ≡ false) (goes : new ≡ follow e now) where
  still_late : IsUnflushed (since ++ e ∷ [])
  still_late = count_more is_barrier since e ∙ ap (λ (b : Bool). count_by is_barrier since + cond b 1 0) same ∙ omega (arith, h.late)

  still_now : new ≡ follow_all (since ++ e ∷ []) disk
  still_now = goes ∙ ap (follow e) h.now ∙ sym (follow_all-append since (e ∷ []) disk)

  still_before : (k : ℕ) (past : Past) → IsBefore disk since k past → IsBefore disk (since ++ e ∷ []) k past
  still_before k past is =
      let front : take past.count (since ++ e ∷ []) ≡ take past.count since = take-append-le past.count since (e ∷ []) (omega (arith, is.0)) in
      let more : take (past.count + 1) (since ++ e ∷ []) ≡ take (past.count + 1) since = take-append-le (past.count + 1) since (e ∷ []) (omega (arith, is.0)) in
      (omega (arith, is.0, length-append since (e ∷ [])), is.1 ∙ ap (λ (l : List Event). follow_all l disk) (sym front), ap naming_steps front ∙ is.2, ap naming_steps more ∙ is.3)

  pub holds_on : is_naming e ≡ false → Holds disk (since ++ e ∷ []) new pasts
  holds_on plain = record {
    late = still_late;
    now = still_now;
    total = count_more is_naming since e ∙ ap (λ (b : Bool). count_by is_naming since + cond b 1 0) plain ∙ omega (arith, h.total);
    before = λ k past is. still_before k past (h.before k past is);
  }

  named : is_naming e ≡ true → naming_steps (since ++ e ∷ []) ≡ length pasts + 1
  named naming = count_more is_naming since e ∙ ap (λ (b : Bool). count_by is_naming since + cond b 1 0) naming ∙ omega (arith, h.total)

  pub holds_named : is_naming e ≡ true → (p : Past) → p.count ≡ length since → get_by_text p.files.nodes ≡ now → Holds disk (since ++ e ∷ []) new (pasts ++ p ∷ [])
  holds_named naming p count files = record {
    late = still_late;
    now = still_now;
    total = named naming ∙ omega (arith, length-append pasts (p ∷ []));
    before = λ k past is. elim (got_more pasts p k past is) [
      | inl old ↦ still_before k past (h.before k past old)
      | inr here ↦ subst (λ (q : Past). IsBefore disk (since ++ e ∷ []) k q) here.1 (subst (λ (n : ℕ). IsBefore disk (since ++ e ∷ []) n p) (sym here.0) this)
    ];
  }
    where
      front : take p.count (since ++ e ∷ []) ≡ since
      front = ap (λ (n : ℕ). take n (since ++ e ∷ [])) count ∙ take-append_seam since (e ∷ [])

      all : take (p.count + 1) (since ++ e ∷ []) ≡ since ++ e ∷ []
      all = ap (λ (n : ℕ). take (n + 1) (since ++ e ∷ [])) count ∙ take-append-add since (e ∷ []) 1

      this : IsBefore disk (since ++ e ∷ []) (length pasts) p
      this = (omega (arith, count, length-append since (e ∷ [])), files ∙ h.now ∙ ap (λ (l : List Event). follow_all l disk) (sym front), ap naming_steps front ∙ h.total, ap naming_steps all ∙ named naming)

-- one event more, seen from where all was on the disk
pub since_more : (flushed : ℕ) (old new : List Event) (e : Event) → flushed ≤ length old → new ≡ old ++ e ∷ [] → drop flushed new ≡ drop flushed old ++ e ∷ []
since_more flushed old new e bound is = ap (drop flushed) is ∙ drop-append-le flushed old (e ∷ []) bound

pub until_more : (flushed : ℕ) (old new : List Event) (e : Event) → flushed ≤ length old → new ≡ old ++ e ∷ [] → take flushed new ≡ take flushed old
until_more flushed old new e bound is = ap (take flushed) is ∙ take-append-le flushed old (e ∷ []) bound

-- what a history keeps
pub record Keeps (flushed : ℕ) (events : List Done) (world disk : World) (pasts : List Past) : Type 0 where
  pub settled : IsSettled (map event_of events)
  pub bound : flushed ≤ length events
  pub late : IsUnflushed (drop flushed (map event_of events))
  pub now : world ≡ follow_all (drop flushed (map event_of events)) disk
  pub total : naming_steps (drop flushed (map event_of events)) ≡ length pasts
  pub before : ArePasts disk (drop flushed (map event_of events)) pasts

pub kept_by : (h : History) → Keeps h.flushed h.events.items (get_by_text h.files.nodes) (get_by_text h.disk.nodes) h.pasts.items
kept_by h = record { settled = h.settled; bound = h.bound; late = h.late; now = h.reached; total = h.total; before = h.before }

-- all is on the disk
pub keeps_fresh : (events : List Done) (w : World) → IsSettled (map event_of events) → Keeps (length events) events w w []
keeps_fresh events w settled =
    let none : drop (length events) (map event_of events) ≡ [] = ap (λ (n : ℕ). drop n (map event_of events)) (sym (length-map events event_of)) ∙ drop-length (map event_of events) in
    let h : Holds w (drop (length events) (map event_of events)) w [] = subst (λ (l : List Event). Holds w l w []) (sym none) (holds_fresh w) in
    record { settled = settled; bound = omega arith; late = h.late; now = h.now; total = h.total; before = h.before }

module _ (flushed : ℕ) (old new : List Done) (world left disk : World) (pasts : List Past) (e : Event) (k : Keeps flushed old world disk pasts)
    (told : map event_of new ≡ map event_of old ++ e ∷ []) (owed : EventKeepsSettled (map event_of old) e) (same : is_barrier e ≡ false) (goes : left ≡ follow e world) where
  short : flushed ≤ length (map event_of old)
  short = omega (arith, k.bound, length-map old event_of)

  longer : flushed ≤ length new
  longer = omega (arith, k.bound, length-map old event_of, length-map new event_of, ap length told, length-append (map event_of old) (e ∷ []))

  since : drop flushed (map event_of new) ≡ drop flushed (map event_of old) ++ e ∷ []
  since = since_more flushed (map event_of old) (map event_of new) e short told

  held : Holds disk (drop flushed (map event_of old)) world pasts
  held = record { late = k.late; now = k.now; total = k.total; before = k.before }

  from_held : (ps : List Past) → Holds disk (drop flushed (map event_of old) ++ e ∷ []) left ps → Keeps flushed new left disk ps
  from_held ps more =
      let h : Holds disk (drop flushed (map event_of new)) left ps = subst (λ (l : List Event). Holds disk l left ps) (sym since) more in
      record { settled = settled_still (map event_of old) (map event_of new) e owed k.settled told; bound = longer; late = h.late; now = h.now; total = h.total; before = h.before }

  pub keeps_on : is_naming e ≡ false → Keeps flushed new left disk pasts
  keeps_on plain = from_held pasts (holds_on disk world left (drop flushed (map event_of old)) pasts e held same goes plain)

  pub keeps_named : is_naming e ≡ true → (p : Past) → p.count + flushed ≡ length old → get_by_text p.files.nodes ≡ world → Keeps flushed new left disk (pasts ++ p ∷ [])
  keeps_named naming p count files = from_held (pasts ++ p ∷ []) (holds_named disk world left (drop flushed (map event_of old)) pasts e held same goes naming p
      (omega (arith, count, length-drop flushed (map event_of old), length-map old event_of)) files)

-- nothing more was told
pub keeps_same : (flushed : ℕ) (old new : List Done) (world disk : World) (before after : List Past) → new ≡ old → after ≡ before → Keeps flushed old world disk before → Keeps flushed new world disk after
keeps_same flushed old new world disk before after is past k = subst (λ (l : List Done). Keeps flushed l world disk after) (sym is) (subst (λ (l : List Past). Keeps flushed old world disk l) (sym past) k)

abbrev state : World → List Event → State
state w es = record { honest = true; world = w; events = es }

module _ (h : History) (new : List Done) (e : Event) (told : map event_of new ≡ map event_of h.events.items ++ e ∷ []) where
  pub happens_so : (world : World) → world ≡ follow e (get_by_text h.files.nodes) → Happens (e ∷ []) (history_state h) (record { honest = true; world = world; events = map event_of new })
  happens_so world goes = record { honest = λ honest. refl; world = goes; events = told }

  -- what is on the disk stays that
  pub disk_stays : state (get_by_text h.disk.nodes) (take h.flushed (map event_of new)) ≡ disk_state h
  disk_stays = ap (λ (l : List Event). state (get_by_text h.disk.nodes) l)
      (until_more h.flushed (map event_of h.events.items) (map event_of new) e (omega (arith, h.bound, length-map h.events.items event_of)) told)

-- all is on the disk
pub disk_fresh : (events : List Done) (w : World) → state w (take (length events) (map event_of events)) ≡ state w (map event_of events)
disk_fresh events w = ap (λ (l : List Event). state w l) (ap (λ (n : ℕ). take n (map event_of events)) (sym (length-map events event_of)) ∙ take-length (map event_of events))

pub keeps_flushed : (flushed : ℕ) (events : List Done) (world disk : World) (pasts : List Past) → flushed ≡ length events → pasts ≡ [] → disk ≡ world → IsSettled (map event_of events) → Keeps flushed events world disk pasts
keeps_flushed flushed events world disk pasts all none same settled =
    subst (λ (n : ℕ). Keeps n events world disk pasts) (sym all) (subst (λ (l : List Past). Keeps (length events) events world disk l) (sym none)
    (subst (λ (w : World). Keeps (length events) events world w []) (sym same) (keeps_fresh events world settled)))

pub disk_flushed : (flushed : ℕ) (events : List Done) (world disk : World) → flushed ≡ length events → disk ≡ world
    → state disk (take flushed (map event_of events)) ≡ state world (map event_of events)
disk_flushed flushed events world disk all same =
    ap (λ (n : ℕ). state disk (take n (map event_of events))) all ∙ ap (λ (w : World). state w (take (length events) (map event_of events))) same ∙ disk_fresh events world

-- what was done behind more room was done before it too
pub goes_from : (e : Event) (old roomy new : History) → IsAsBefore old roomy → Goes e roomy new → Goes e old new
goes_from e old roomy new same goes = record { happened = subst (λ (t : State). Happens (e ∷ []) t (history_state new)) same.state goes.happened; disk = goes.disk ∙ same.disk }
