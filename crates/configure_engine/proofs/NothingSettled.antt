-- Where nothing is to be settled the record is as before.
use Rattle.std.proofs.Common.{◌≡◌, Bool, true, false, not, cond, ◌&&◌, List, [], ◌∷◌, ◌++◌, map, filter, refl, sym, ap, ◌∙◌}
use Rattle.std.specs.List.{fold}
use Rattle.diversions.specs.Ways.{Ways}
use Rattle.host_core.specs.Paths.{Path}
use Rattle.status_records.specs.declared.entries.ConffileEntry.{ConffileEntry}
use Rattle.status_records.specs.declared.entries.PendingDigest.{PendingDigest}
use Rattle.status_records.specs.declared.record.Record.{Record}
use Rattle.status_records.specs.ConffilePaths.{is_before, placed_by, all_placed_by}
use Rattle.status_records.specs.Standings.{with_conffiles}
use Rattle.configure_engine.specs.Settled.{settled, settled_entries, settled_entry, stays}
use Rattle.configure_engine.specs.Waiting.{goes, going_paths, has_place, pending_paths, place_of, places_once, settling_paths, settling_places, with_place}

abbrev itself : Path → Path
itself q = q

not_none : (x : Path) (ys : List Path) → placed_by itself x ys ≡ [] → ⊥
not_none x [] e = cc
not_none x (y ∷ ys) e = by (is_before y x) e
  where
    by : (b : Bool) → cond b (y ∷ placed_by itself x ys) (x ∷ y ∷ ys) ≡ [] → ⊥
    by true is = cc
    by false is = cc

none_placed : (xs ys : List Path) → all_placed_by itself ys xs ≡ [] → (xs ≡ []) × (ys ≡ [])
none_placed [] ys e = (refl, e)
none_placed (x ∷ xs) ys e = absurd (not_none x ys (none_placed xs (placed_by itself x ys) e).1)

no_digests : (ps : List PendingDigest) → map (λ (p : PendingDigest). p.path) ps ≡ [] → ps ≡ []
no_digests [] e = refl
no_digests (p ∷ ps) e = cc

all_stay : (es : List ConffileEntry) → map (λ (e : ConffileEntry). e.path) (filter (goes []) es) ≡ [] → filter (stays []) es ≡ es
all_stay [] none = refl
all_stay (e ∷ es) none = by e.remove_on_upgrade (all_stay es) none
  where
    by : (b : Bool) → (map (λ (x : ConffileEntry). x.path) (filter (goes []) es) ≡ [] → filter (stays []) es ≡ es) → map (λ (x : ConffileEntry). x.path) (cond (b && true) (e ∷ filter (goes []) es) (filter (goes []) es)) ≡ []
        → cond (not b) (e ∷ filter (stays []) es) (filter (stays []) es) ≡ e ∷ es
    by true rest is = cc
    by false rest is = ap (λ (l : List ConffileEntry). e ∷ l) (rest is)

-- nor is any of them left out

kept_some : (ways : Ways) (k : Path) (ks xs : List Path) → fold (with_place ways) (k ∷ ks) xs ≡ [] → ⊥
kept_some ways k ks [] e = cc
kept_some ways k ks (x ∷ xs) e = by (has_place ways (k ∷ ks) x) (kept_some ways k ks xs) (kept_some ways k (ks ++ x ∷ []) xs) e
  where
    by : (b : Bool) → (fold (with_place ways) (k ∷ ks) xs ≡ [] → ⊥) → (fold (with_place ways) (k ∷ ks ++ x ∷ []) xs ≡ [] → ⊥) → fold (with_place ways) (cond b (k ∷ ks) (k ∷ ks ++ x ∷ [])) xs ≡ [] → ⊥
    by true same more is = same is
    by false same more is = more is

none_once : (ways : Ways) (xs : List Path) → places_once ways xs ≡ [] → xs ≡ []
none_once ways [] e = refl
none_once ways (x ∷ xs) e = absurd (kept_some ways x [] xs e)

none_both : (xs ys : List Path) → xs ++ ys ≡ [] → (xs ≡ []) × (ys ≡ [])
none_both [] ys e = (refl, e)
none_both (x ∷ xs) ys e = cc

none_mapped : (f : Path → Path) (xs : List Path) → map f xs ≡ [] → xs ≡ []
none_mapped f [] e = refl
none_mapped f (x ∷ xs) e = cc

pub no_paths : (ways : Ways) (r : Record) → settling_places ways r ≡ [] → settling_paths ways r ≡ []
no_paths ways r none = none_mapped (place_of ways) (settling_paths ways r) none

pub settled_same : (ways : Ways) (r : Record) → settling_places ways r ≡ [] → settled r ≡ r
settled_same ways r none =
    let both = pending_paths r ++ going_paths r in
    let parts = none_both (pending_paths r) (going_paths r) (none_once ways both (none_placed (places_once ways both) [] (no_paths ways r none)).0) in
    let digests = no_digests r.pending parts.0 in
    let going : map (λ (e : ConffileEntry). e.path) (filter (goes []) r.conffiles) ≡ [] = sym (ap (λ (ps : List PendingDigest). map (λ (e : ConffileEntry). e.path) (filter (goes ps) r.conffiles)) digests) ∙ parts.1 in
    let entries : settled_entries r ≡ r.conffiles =
    ap (λ (ps : List PendingDigest). all_placed_by (λ (e : ConffileEntry). e.path) (filter (stays ps) r.conffiles) (map settled_entry ps)) digests ∙ all_stay r.conffiles going in
    ap (λ (es : List ConffileEntry). with_conffiles es [] r) entries ∙ ap (λ (ps : List PendingDigest). with_conffiles r.conffiles ps r) (sym digests)
