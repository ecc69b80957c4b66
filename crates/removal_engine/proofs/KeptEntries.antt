-- The entries that a removal keeps are in path order, as those before.
use Rattle.std.proofs.Common.{◌≡◌, ℕ, ◌<◌, Bool, true, false, cond, List, [], ◌∷◌, length, map, take, get_or, sym, ap, subst, ◌∙◌}
use Rattle.std.specs.Prelude.{filter, is_some}
use Rattle.std.specs.List.{AllByRecursion}
use Rattle.host_core.specs.Paths.{Path}
use Rattle.status_records.specs.ConffilePaths.{is_before, AreInOrder}
use Rattle.status_records.specs.declared.entries.ConffileEntry.{ConffileEntry}
use Rattle.status_records.proofs.Placing.{behind_all}
use Rattle.removal_engine.specs.Records.{kept_entries, kept_entry}

all_kept : (P : Path → Type 0) (es : List ConffileEntry) → AllByRecursion (λ (e : ConffileEntry). P e.path) es → AllByRecursion (λ (e : ConffileEntry). P e.path) (kept_entries es)
all_kept P [] all = tt
all_kept P (e ∷ es) all = by (all_kept P es all.1) (is_some e.digest)
  where
    by : AllByRecursion (λ (x : ConffileEntry). P x.path) (kept_entries es) → (b : Bool) → AllByRecursion (λ (x : ConffileEntry). P x.path) (map kept_entry (cond b (e ∷ filter (λ (x : ConffileEntry). is_some x.digest) es) (filter (λ (x : ConffileEntry). is_some x.digest) es)))
    by rest true = (all.0, rest)
    by rest false = rest

-- the next entry is behind those that are kept of the ones before it
pub kept_behind : (es : List ConffileEntry) (i : ℕ) (e m : ConffileEntry) (so_far : List ConffileEntry) → i < length es → e ≡ get_or es i e → AreInOrder (map (λ (x : ConffileEntry). x.path) es)
    → m ≡ kept_entry e → so_far ≡ kept_entries (take i es) → AllByRecursion (λ (x : ConffileEntry). is_before x.path m.path ≡ true) so_far
kept_behind es i e m so_far lt at order is before =
    let path : m.path ≡ (get_or es i e).path = ap (λ (x : ConffileEntry). x.path) is ∙ ap (λ (x : ConffileEntry). x.path) at in
    subst (AllByRecursion (λ (x : ConffileEntry). is_before x.path m.path ≡ true)) (sym before)
    (subst (λ (p : Path). AllByRecursion (λ (x : ConffileEntry). is_before x.path p ≡ true) (kept_entries (take i es))) (sym path)
    (all_kept (λ p. is_before p (get_or es i e).path ≡ true) (take i es) (behind_all es i e lt order)))
