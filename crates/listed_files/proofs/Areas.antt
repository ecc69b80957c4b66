-- What moves leave outside the places that they may change.
use Rattle.std.proofs.Common.{◌≡◌, ◌≢◌, ◌⊎◌, ◌||◌, ◌&&◌, inl, inr, Bool, true, false, cond, List, [], ◌∷◌, IsTrue, refl, sym, ap, ◌∙◌}
use Rattle.std.specs.Str.{bytes_eq}
use Rattle.std.proofs.lemmas.Bool.{true≢false}
use Rattle.std.proofs.lemmas.Slice.Eq.{bytes_eq-Decides}
use Rattle.host_core.specs.Paths.{Path}
use Rattle.host_core.specs.World.{World, KeepsBut, lowered}
use Rattle.host_core.specs.declared.node.Node.{Node}
use Rattle.administration.specs.Places.{temporary}
use Rattle.diversions.specs.Ways.{Ways}
use Rattle.file_lists.specs.declared.paths.PackageList.{PackageList}
use Rattle.file_lists.specs.Taking.{IsNoList}
use Rattle.package_files.specs.declared.work.Work.{Work}
use Rattle.package_files.specs.Files.{Each, Misses}
use Rattle.package_files.specs.Back.{CanGoBack}
use Rattle.file_removal.specs.declared.leaving.Leaving.{Leaving}
use Rattle.file_removal.specs.Removal.{Staying, any_path, none_stays, GoesBy, Removed, IsRemoving}
use Rattle.file_removal.specs.Clearing.{cleared, is_among}
use Rattle.listed_files.specs.Areas.{is_leaving_place, is_list_place, is_listing_place, is_renewed_place, is_work_name}
use Rattle.listed_files.specs.Closing.{HasReleased, HasRenewed, MayRelease, MayRenew}
use Rattle.listed_files.specs.Listing.{HasListed, HasTurnedBack, HasUnlisted, MayList, MayTurnBack, MayUnlist}

neither : (a b : Bool) → a || b ≡ false → (a ≡ false) × (b ≡ false)
neither true b is = absurd (true≢false is)
neither false b is = (refl, is)

differs : (q p : Path) → bytes_eq q p ≡ false → q ≢ p
differs q p is e = true≢false (sym ((bytes_eq-Decides q p).1 e) ∙ is)

no_list : (list q : Path) → is_list_place list q ≡ false → (q ≢ list) × (q ≢ temporary list)
no_list list q out = let n = neither (bytes_eq q list) (bytes_eq q (temporary list)) out in (differs q list n.0, differs q (temporary list) n.1)

misses : (x : Work) (q : Path) → (bytes_eq q x.target || (bytes_eq q x.backup || bytes_eq q x.fresh)) ≡ false → Misses x q
misses x q out =
    let t = neither (bytes_eq q x.target) (bytes_eq q x.backup || bytes_eq q x.fresh) out in
    let b = neither (bytes_eq q x.backup) (bytes_eq q x.fresh) t.1 in
    record { target = differs q x.target t.0; backup = differs q x.backup b.0; fresh = differs q x.fresh b.1 }

all_miss : (works : List Work) (q : Path) → is_work_name works q ≡ false → Each (λ x. Misses x q) works
all_miss [] q out = tt
all_miss (x ∷ works) q out =
    let n = neither (bytes_eq q x.target || (bytes_eq q x.backup || bytes_eq q x.fresh)) (is_work_name works q) out in
    (misses x q n.0, all_miss works q n.1)

module _ (list : Path) (node : Node) (works : List Work) (old : World) where
  outside : (q : Path) → is_listing_place list works q ≡ false → (q ≢ list) × (q ≢ temporary list) × Each (λ x. Misses x q) works
  outside q out =
      let n = neither (is_list_place list q) (is_work_name works q) out in
      let l = no_list list q n.0 in
      (l.0, l.1, all_miss works q n.1)

  pub listed_keeps : (new : World) → HasListed list node works old new → KeepsBut (is_listing_place list works) old new
  listed_keeps new has q out = let o = outside q out in has.written.rest q o.2 ∙ has.replaced.rest q o.0 o.1

  pub listing_keeps : (now : World) → MayList list node works old now → KeepsBut (is_listing_place list works) old now
  listing_keeps now (inl is) q out = let o = outside q out in is.rest q o.0 o.1
  listing_keeps now (inr m) q out = let o = outside q out in m.2.rest q o.2 ∙ m.1.rest q o.0 o.1

  pub unlisted_keeps : (new : World) → CanGoBack works old → HasUnlisted list node works old new → KeepsBut (is_listing_place list works) old new
  unlisted_keeps new can has q out = let o = outside q out in has.replaced.rest q o.0 o.1 ∙ (has.back can.0 can.1).rest q o.2

  pub unlisting_keeps : (now : World) → CanGoBack works old → MayUnlist list node works old now → KeepsBut (is_listing_place list works) old now
  unlisting_keeps now can (inl is) q out = let o = outside q out in (is can.0 can.1).rest q o.2
  unlisting_keeps now can (inr m) q out = let o = outside q out in m.2.rest q o.0 o.1 ∙ (m.1 can.0 can.1).rest q o.2

module _ (list : Path) (union listed : Node) (works : List Work) (old : World) where
  pub turned_back_keeps : (new : World) → HasTurnedBack list union listed works old new → KeepsBut (is_listing_place list works) old new
  turned_back_keeps new has q out = let o = outside list union works old q out in has.unlisted.rest q o.0 o.1 ∙ has.undone.rest q o.2 ∙ has.replaced.rest q o.0 o.1

  pub turning_back_keeps : (now : World) → MayTurnBack list union listed works old now → KeepsBut (is_listing_place list works) old now
  turning_back_keeps now (inl is) q out = listing_keeps list union works old now is q out
  turning_back_keeps now (inr m) q out = let o = outside list union works old q out in m.4.rest q o.0 o.1 ∙ m.3.rest q o.2 ∙ m.2.rest q o.0 o.1

no_leaving : (s : Staying) (xs : List Leaving) (old : World) (q : Path) → is_leaving_place xs q ≡ false → GoesBy s false old xs q → ⊥
no_leaving s [] old q out goes = goes
no_leaving s (x ∷ xs) old q out (inl later) = no_leaving s xs old q (neither (x.goes && bytes_eq q x.place) (is_leaving_place xs q) out).1 later
no_leaving s (x ∷ xs) old q out (inr here) =
    let at : bytes_eq q x.place ≡ true = (bytes_eq-Decides q x.place).1 (sym here.0) in
    true≢false (sym (ap (λ b. b && bytes_eq q x.place) here.1 ∙ at) ∙ (neither (x.goes && bytes_eq q x.place) (is_leaving_place xs q) out).0)

removing_keeps : (xs : List Leaving) (old now : World) (q : Path) → IsRemoving xs old now → is_leaving_place xs q ≡ false → now q ≡ old q
removing_keeps xs old now q amid out = elim (amid.each q) [ inl same ↦ same | inr gone ↦ absurd (no_leaving none_stays xs old q out gone.0) ]

module _ (xs : List Leaving) where
  removed_keeps : (old new : World) (q : Path) → Removed any_path xs old new → is_leaving_place xs q ≡ false → new q ≡ old q
  removed_keeps old new q removed out = elim (removed.2.each q) [ inl gone ↦ absurd (no_leaving removed.0 xs old q out gone.0) | inr kept ↦ kept.1 ]

  pub renewed_keeps : (list : Path) (node : Node) (old new : World) → HasRenewed xs list node old new → KeepsBut (is_renewed_place xs list) old new
  renewed_keeps list node old new has q out =
      let n = neither (is_leaving_place xs q) (is_list_place list q) out in
      let l = no_list list q n.1 in
      has.replaced.rest q l.0 l.1 ∙ removed_keeps old has.mid q has.removed n.0

  pub renewing_keeps : (list : Path) (node : Node) (old now : World) → MayRenew xs list node old now → KeepsBut (is_renewed_place xs list) old now
  renewing_keeps list node old now (inl is) q out = removing_keeps xs old now q is (neither (is_leaving_place xs q) (is_list_place list q) out).0
  renewing_keeps list node old now (inr m) q out =
      let n = neither (is_leaving_place xs q) (is_list_place list q) out in
      let l = no_list list q n.1 in
      m.2.rest q l.0 l.1 ∙ removed_keeps old m.0 q m.1 n.0

module _ (ways : Ways) (places from : List Path) (had : List PackageList) (names : List Path) (old : World) where
  pub released_keeps : (new : World) (q : Path) → HasReleased ways places from had names old new → IsNoList from q → is_among names q ≡ false → new q ≡ old q
  released_keeps new q has none out = has.cleared.each q ∙ ap (λ b. cond b (cleared (has.mid q)) (has.mid q)) out ∙ has.taken.rest q none

  retiring_keeps : (mid now : World) (q : Path) → (now q ≡ mid q) ⊎ (IsTrue (is_among names q) × ((now q ≡ lowered (mid q)) ⊎ (now q ≡ cleared (mid q)))) → is_among names q ≡ false → now q ≡ mid q
  retiring_keeps mid now q (inl same) out = same
  retiring_keeps mid now q (inr gone) out = absurd (true≢false (sym gone.0 ∙ out))

  pub releasing_keeps : (now : World) (q : Path) → MayRelease ways places from had names old now → IsNoList from q → is_among names q ≡ false → now q ≡ old q
  releasing_keeps now q (inl is) none out = is.rest q none
  releasing_keeps now q (inr m) none out = retiring_keeps m.0 now q (m.3.each q) out ∙ m.1.rest q none
