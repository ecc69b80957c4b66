-- Digests behind one another.
use Rattle.std.proofs.Common.{◌≡◌, ◌+◌, ◌<◌, ℕ, Bool, true, false, cond, List, [], ◌∷◌, ◌++◌, length, take, get_or, map, refl, sym, ap, subst, ◌∙◌, append-nil}
use Rattle.std.specs.Prelude.{◌||◌}
use Rattle.std.specs.List.{AllByRecursion}
use Rattle.std.specs.Str.{bytes_eq}
use Rattle.std.specs.Ordering.{is_lt}
use Rattle.std.proofs.lemmas.Bool.{true≢false}
use Rattle.std.proofs.lemmas.Cmp.{tied_itself, nat_list_cmp_total}
use Rattle.std.proofs.lemmas.List.{map-append}
use Rattle.std.proofs.lemmas.List.Concat.{flat_map-append}
use Rattle.std.proofs.lemmas.Slice.Eq.{bytes_eq-Decides}
use Rattle.administration.proofs.Within.{taken_more}
use Rattle.host_core.specs.Paths.{Path}
use Rattle.host_core.specs.declared.node.Node.{Node}
use Rattle.host_core.specs.declared.node.Node.TheVariants.{File, Dir, Link}
use Rattle.file_check.specs.Ships.{is_conffile}
use Rattle.package_tree.specs.ShipMap.{paths_of}
use Rattle.package_tree.specs.Shipped.{AreInOrder}
use Rattle.package_tree.specs.declared.shipped.Shipped.{Shipped}
use Rattle.status_records.specs.Conffiles.{has_pending}
use Rattle.status_records.specs.ConffilePaths.{is_before, placed_by}
use Rattle.status_records.specs.declared.entries.PendingDigest.{PendingDigest}
use Rattle.status_records.proofs.PathOrder.{placed_last}
use Rattle.unpack_plan.specs.Digests.{PathDigest, conffile_digest, digest_at, shipped_digests, told_digest}
use Rattle.unpack_plan.proofs.Ordered.{before_file}

all_both : (P : PathDigest → Type 0) (a b : List PathDigest) → AllByRecursion P a → AllByRecursion P b → AllByRecursion P (a ++ b)
all_both P [] b first second = second
all_both P (x ∷ a) b first second = (first.0, all_both P a b first.1 second)

module _ (path : Path) where
  abbrev pub IsEarlier : PathDigest → Type 0
  IsEarlier d = is_before d.0 path ≡ true

  at_node : (q : Path) (node : Node) → is_before q path ≡ true → AllByRecursion IsEarlier (digest_at q node)
  at_node q (File bytes access) before = (before, tt)
  at_node q (Dir access) before = tt
  at_node q (Link target) before = tt

  of_one : (b : Bool) (f : Shipped) → is_before f.path path ≡ true → AllByRecursion IsEarlier (cond b (digest_at f.path f.node) [])
  of_one true f before = at_node f.path f.node before
  of_one false f before = tt

  of_front : (conffiles : List Path) (files : List Shipped) → AllByRecursion (λ q. is_before q path ≡ true) (paths_of files) → AllByRecursion IsEarlier (shipped_digests conffiles files)
  of_front conffiles [] all = tt
  of_front conffiles (f ∷ files) all = all_both IsEarlier (conffile_digest conffiles f) (shipped_digests conffiles files) (of_one (is_conffile conffiles f.path) f all.0) (of_front conffiles files all.1)

  told_before : (pending : List PendingDigest) → AllByRecursion IsEarlier (map told_digest pending) → AllByRecursion (λ p. is_before p.path path ≡ true) pending
  told_before [] all = tt
  told_before (p ∷ pending) all = (all.0, told_before pending all.1)

-- those of the files in front are before the file's
pub pending_before : (conffiles : List Path) (files : List Shipped) (i : ℕ) (file : Shipped) (pending : List PendingDigest) → AreInOrder (paths_of files) → i < length files → file ≡ get_or files i file → map told_digest pending ≡ shipped_digests conffiles (take i files)
    → AllByRecursion (λ p. is_before p.path file.path ≡ true) pending
pending_before conffiles files i file pending order lt is so_far =
    told_before file.path pending (subst (λ (l : List PathDigest). AllByRecursion (IsEarlier file.path) l) (sym so_far) (of_front file.path conffiles (take i files) (before_file files i file order lt is)))

not_before : (q p : Path) → q ≡ p → is_before p q ≡ true → ⊥
not_before q p same before = true≢false (sym (subst (λ (x : Path). is_before p x ≡ true) same before) ∙ ap is_lt (tied_itself nat_list_cmp_total p))

-- no digest has a path that is behind them all
pub none_pending : (path : Path) (pending : List PendingDigest) → AllByRecursion (λ p. is_before p.path path ≡ true) pending → has_pending pending path ≡ false
none_pending path [] all = refl
none_pending path (p ∷ pending) all = at (none_pending path pending all.1) (bytes_eq path p.path) refl
  where
    at : has_pending pending path ≡ false → (b : Bool) → bytes_eq path p.path ≡ b → has_pending (p ∷ pending) path ≡ false
    at rest true e = absurd (not_before path p.path ((bytes_eq-Decides path p.path).0 e) all.0)
    at rest false e = ap (λ b. b || has_pending pending path) e ∙ rest

-- one more
pub digest_put : (path bytes : Path) (d : PendingDigest) (old new : List PendingDigest) → AllByRecursion (λ p. is_before p.path path ≡ true) old → d.path ≡ path → new ≡ placed_by (λ (p : PendingDigest). p.path) d old → map told_digest new ≡ map told_digest old ++ (path, d.digest) ∷ []
digest_put path bytes d old new before at put =
    ap (map told_digest) (put ∙ placed_last (λ (p : PendingDigest). p.path) d old (subst (λ (q : Path). AllByRecursion (λ (p : PendingDigest). is_before p.path q ≡ true) old) (sym at) before))
    ∙ map-append told_digest old (d ∷ []) ∙ ap (λ (q : Path). map told_digest old ++ (q, d.digest) ∷ []) at

pub is_picked : (conffiles : List Path) (file : Shipped) (old new : List PathDigest) → is_conffile conffiles file.path ≡ true → new ≡ old ++ digest_at file.path file.node → new ≡ old ++ conffile_digest conffiles file
is_picked conffiles file old new is more = more ∙ ap (λ b. old ++ cond b (digest_at file.path file.node) []) (sym is)

pub is_left : (conffiles : List Path) (file : Shipped) (old : List PathDigest) → is_conffile conffiles file.path ≡ false → old ≡ old ++ conffile_digest conffiles file
is_left conffiles file old is = sym (append-nil old) ∙ ap (λ b. old ++ cond b (digest_at file.path file.node) []) (sym is)

pub digests_more : (conffiles : List Path) (files : List Shipped) (i : ℕ) (file : Shipped) (old new : List PathDigest) → i < length files → file ≡ get_or files i file → old ≡ shipped_digests conffiles (take i files) → new ≡ old ++ conffile_digest conffiles file → new ≡ shipped_digests conffiles (take (i + 1) files)
digests_more conffiles files i file old new lt is so_far more =
    more ∙ ap (λ (l : List PathDigest). l ++ conffile_digest conffiles file) so_far ∙ ap (λ (l : List PathDigest). shipped_digests conffiles (take i files) ++ l) (sym (append-nil (conffile_digest conffiles file)))
    ∙ sym (flat_map-append (conffile_digest conffiles) (take i files) (file ∷ [])) ∙ ap (shipped_digests conffiles) (sym (taken_more files i file lt is))
