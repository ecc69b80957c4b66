-- Digests behind one another, each of what stands beside a conffile's place.
use Rattle.std.proofs.Common.{◌≡◌, ◌+◌, ◌<◌, ◌&&◌, ◌||◌, ℕ, zero, suc, arith, Bool, true, false, cond, List, [], ◌∷◌, ◌++◌, Option, Some, None, length, take, get_or, map, refl, sym, ap, subst, ◌∙◌, append-nil}
use Rattle.std.specs.List.{AllByRecursion, flat_map}
use Rattle.std.specs.Str.{bytes_eq}
use Rattle.std.specs.Ordering.{is_lt}
use Rattle.std.proofs.lemmas.Bool.{true≢false}
use Rattle.std.proofs.lemmas.Cmp.{tied_itself, nat_list_cmp_total}
use Rattle.std.proofs.lemmas.List.{take_more}
use Rattle.std.proofs.lemmas.List.Concat.{flat_map-append}
use Rattle.std.proofs.lemmas.Slice.Eq.{bytes_eq-Decides}
use Rattle.conffiles.specs.Settling.{digest_at}
use Rattle.diversions.specs.Ways.{Ways}
use Rattle.host_core.specs.Paths.{Path}
use Rattle.host_core.specs.World.{World}
use Rattle.host_core.specs.declared.node.Node.{Node}
use Rattle.host_core.specs.declared.node.Node.TheVariants.{File, Dir, Link}
use Rattle.status_records.specs.Conffiles.{has_pending}
use Rattle.status_records.specs.ConffilePaths.{AreInOrder, is_before, is_conffile_path, is_trimmed, placed_by}
use Rattle.status_records.specs.declared.entries.ConffileEntry.{ConffileEntry}
use Rattle.status_records.specs.declared.entries.PendingDigest.{PendingDigest}
use Rattle.status_records.proofs.PathOrder.{placed_last}
use Rattle.status_records.proofs.SameRecords.{same_pending}
use Rattle.adopted_conffiles.specs.Adopted.{AreBefore, pending_at, pending_of}

second : (a b : Bool) → (a && b) ≡ true → b ≡ true
second true b e = e
second false b e = absurd (true≢false (sym e))

pub trimmed : (path : Path) → is_conffile_path path ≡ true → is_trimmed path ≡ true
trimmed path is = second _ (is_trimmed path) is

not_before : (q p : Path) → q ≡ p → is_before p q ≡ true → ⊥
not_before q p same before = true≢false (sym (subst (λ (x : Path). is_before p x ≡ true) same before) ∙ ap is_lt (tied_itself nat_list_cmp_total p))

-- no digest has a path that is behind them all
pub none_pending : (path : Path) (pending : List PendingDigest) → AreBefore path pending → has_pending pending path ≡ false
none_pending path [] all = refl
none_pending path (p ∷ pending) all = at (none_pending path pending all.1) (bytes_eq path p.path) refl
  where
    at : has_pending pending path ≡ false → (b : Bool) → bytes_eq path p.path ≡ b → has_pending (p ∷ pending) path ≡ false
    at rest true e = absurd (not_before path p.path ((bytes_eq-Decides path p.path).0 e) all.0)
    at rest false e = ap (λ b. b || has_pending pending path) e ∙ rest

-- the digest of what stands there

some_digest : (a b : List ℕ) → Some a ≡ Some b → a ≡ b
some_digest a b e = cc e

told : (e : ConffileEntry) (d : List ℕ) (p : PendingDigest) (node : Option Node) → Some d ≡ digest_at node → p.path ≡ e.path → p.digest ≡ d → pending_at e node ≡ p ∷ []
told e d p None is path digest = absurd (cc is)
told e d p (Some (File bytes access)) is path digest = ap (λ (x : PendingDigest). x ∷ []) (same_pending _ p (sym path) (sym (digest ∙ some_digest d _ is)))
told e d p (Some (Dir access)) is path digest = absurd (cc is)
told e d p (Some (Link target)) is path digest = absurd (cc is)

pub untold : (e : ConffileEntry) (node : Option Node) → None ≡ digest_at node → pending_at e node ≡ []
untold e None is = refl
untold e (Some (File bytes access)) is = absurd (cc is)
untold e (Some (Dir access)) is = refl
untold e (Some (Link target)) is = refl

pub put_last : (p : PendingDigest) (path : Path) (old new : List PendingDigest) → AreBefore path old → p.path ≡ path → new ≡ placed_by (λ (x : PendingDigest). x.path) p old → new ≡ old ++ p ∷ []
put_last p path old new before is put = put ∙ placed_last (λ (x : PendingDigest). x.path) p old (subst (λ (q : Path). AreBefore q old) (sym is) before)

pub digest_put : (e : ConffileEntry) (d : List ℕ) (p : PendingDigest) (node : Option Node) (old new : List PendingDigest) → Some d ≡ digest_at node → p.path ≡ e.path → p.digest ≡ d → new ≡ old ++ p ∷ [] → new ≡ old ++ pending_at e node
digest_put e d p node old new is path digest put = put ∙ ap (λ (l : List PendingDigest). old ++ l) (sym (told e d p node is path digest))

pub digest_not_put : (e : ConffileEntry) (node : Option Node) (old : List PendingDigest) → None ≡ digest_at node → old ≡ old ++ pending_at e node
digest_not_put e node old is = sym (append-nil old) ∙ ap (λ (l : List PendingDigest). old ++ l) (sym (untold e node is))

pub before_last : (q : Path) (pending : List PendingDigest) (p : PendingDigest) → AreBefore q pending → is_before p.path q ≡ true → AreBefore q (pending ++ p ∷ [])
before_last q [] p all last = (last, tt)
before_last q (x ∷ pending) p all last = (all.0, before_last q pending p all.1 last)

-- an entry, behind those before it

path_at : (P : Path → Type 0) (es : List ConffileEntry) (i : ℕ) (d : ConffileEntry) → AllByRecursion P (map (λ (e : ConffileEntry). e.path) es) → i < length es → P (get_or es i d).path
path_at P [] i d all lt = absurd (omega (arith, lt))
path_at P (e ∷ es) zero d all lt = all.0
path_at P (e ∷ es) (suc i) d all lt = path_at P es i d all.1 (omega (arith, lt))

abbrev pub EntriesBefore : Path → List ConffileEntry → Type 0
EntriesBefore q es = AllByRecursion (λ (e : ConffileEntry). is_before e.path q ≡ true) es

front_before : (es : List ConffileEntry) (i : ℕ) (d : ConffileEntry) → AreInOrder (map (λ (e : ConffileEntry). e.path) es) → i < length es → EntriesBefore (get_or es i d).path (take i es)
front_before [] i d order lt = absurd (omega (arith, lt))
front_before (e ∷ es) zero d order lt = tt
front_before (e ∷ es) (suc i) d order lt = (path_at (λ q. is_before e.path q ≡ true) es i d order.0 (omega (arith, lt)), front_before es i d order.1 (omega (arith, lt)))

pub entries_before : (es : List ConffileEntry) (i : ℕ) (e : ConffileEntry) → AreInOrder (map (λ (x : ConffileEntry). x.path) es) → i < length es → e ≡ get_or es i e → EntriesBefore e.path (take i es)
entries_before es i e order lt is = subst (λ (x : ConffileEntry). EntriesBefore x.path (take i es)) (sym is) (front_before es i e order lt)

split_last : (q : Path) (es : List ConffileEntry) (e : ConffileEntry) → EntriesBefore q (es ++ e ∷ []) → EntriesBefore q es × (is_before e.path q ≡ true)
split_last q [] e all = (tt, all.0)
split_last q (x ∷ es) e all = let rest = split_last q es e all.1 in ((all.0, rest.0), rest.1)

-- with one entry more those so far and its digest are before what both are before
pub before_more : (es : List ConffileEntry) (i : ℕ) (e : ConffileEntry) (old new : List PendingDigest) → i < length es → e ≡ get_or es i e → ((q : Path) → EntriesBefore q (take i es) → AreBefore q old)
    → ((q : Path) → is_before e.path q ≡ true → AreBefore q old → AreBefore q new) → (q : Path) → EntriesBefore q (take (i + 1) es) → AreBefore q new
before_more es i e old new lt is so_far more q all =
    let parts = split_last q (take i es) e (subst (EntriesBefore q) (take_more es i e lt ∙ ap (λ (x : ConffileEntry). take i es ++ x ∷ []) (sym is)) all) in
    more q parts.1 (so_far q parts.0)

pub pending_more : (w : World) (ways : Ways) (es : List ConffileEntry) (i : ℕ) (e : ConffileEntry) (old new : List PendingDigest) → i < length es → e ≡ get_or es i e → old ≡ flat_map (pending_of w ways) (take i es) → new ≡ old ++ pending_of w ways e
    → new ≡ flat_map (pending_of w ways) (take (i + 1) es)
pending_more w ways es i e old new lt is so_far more =
    more ∙ ap (λ (l : List PendingDigest). l ++ pending_of w ways e) so_far ∙ ap (λ (l : List PendingDigest). flat_map (pending_of w ways) (take i es) ++ l) (sym (append-nil (pending_of w ways e)))
    ∙ sym (flat_map-append (pending_of w ways) (take i es) (e ∷ [])) ∙ ap (flat_map (pending_of w ways)) (ap (λ (x : ConffileEntry). take i es ++ x ∷ []) is ∙ sym (take_more es i e lt))
