-- The parts of a commit, one after another.
use Rattle.std.proofs.Common.{◌≡◌, ◌⊎◌, inl, inr, true, false, IsTrue, List, [], ◌++◌, Result, Ok, Err, OnOk, refl, ap, subst, ◌∙◌}
use Rattle.std.specs.Prelude.{OnErr}
use Rattle.host_core.specs.World.{World}
use Rattle.host_core.specs.Paths.{Path}
use Rattle.host_core.specs.Events.{Event, IsDeniedIn}
use Rattle.host_core.specs.Host.{State, AtEachMoment, AtEachMomentOf, Since, WasDenied}
use Rattle.host_core.proofs.Denials.{denied_first_since}
use Rattle.file_removal.specs.Removal.{any_path}
use Rattle.file_removal.proofs.Leavings.{unless_wider}
use Rattle.listed_files.proofs.Denying.{denied_here, renewed_wider, renewing_wider}
use Rattle.host_core.proofs.Moments.{since_then, since_weaker_if}
use Rattle.administration.specs.Places.{list_path}
use Rattle.diversions.specs.Ways.{Ways}
use Rattle.file_lists.specs.declared.paths.PackageList.{PackageList}
use Rattle.file_lists.specs.Filed.{Filed}
use Rattle.file_lists.specs.Taking.{without_all}
use Rattle.file_lists.specs.Writing.{list_file}
use Rattle.status_db.specs.Held.{CanOpenRecords, HasRecords, IsKept}
use Rattle.status_db.specs.Recorded.{Recorded}
use Rattle.status_records.specs.declared.record.Record.{Record}
use Rattle.listed_files.specs.Closing.{HasReleased, HasRenewed, HasRenewedUnless, MayRelease, MayRenew, MayRenewUnless, SparesAdministration}
use Rattle.listed_files.specs.Concluding.{AreElsewhere}
use Rattle.unpack_commit.specs.Commit.{AreListsAmid, AreNoting, Changes, HasCommitted, HasCommittedUnless, HasSomeNoted, HasStored, HaveNoted, IsStoring, MayCommit, MayCommitUnless, committed_lists, renewed_lists}
use Rattle.unpack_commit.proofs.Stays.{kept_opens, kept_stays, released_stays, releasing_stays, renewed_stays, renewing_stays, written_stays}

-- what holds at each moment of a part, behind what was done before it

since_more : (Q : World → World → Type 0) (R : World → List Event → World → Type 0) (a b c : State) → (first : Since (R a.world) a b)
    → (IsTrue c.honest → (later : List Event) (now : World) → Q b.world now → R a.world (first.added ++ later) now) → AtEachMoment Q b c → Since (R a.world) a c
since_more Q R a b c first so second = since_then (R a.world) a b c first (since_weaker_if (λ so_far. Q b.world) (λ so_far. R a.world (first.added ++ so_far)) b c (λ h later now is. so h later now is) second)

module _ (c : Changes) (ways : Ways) (lists : List PackageList) where
  abbrev Renewing : World → List Event → World → Type 0
  Renewing old so_far now = MayRenewUnless (IsDeniedIn so_far) c.leaving (list_path c.name) (list_file c.listed) old now

  abbrev Renewed : World → World → Type 0
  Renewed = HasRenewed c.leaving (list_path c.name) (list_file c.listed)

  abbrev RenewedUnless : (declined : Path → Type 0) → World → World → Type 0
  RenewedUnless declined = HasRenewedUnless declined c.leaving (list_path c.name) (list_file c.listed)

  abbrev renewed_any : (declined : Path → Type 0) (old new : World) → RenewedUnless declined old new → Renewed old new
  renewed_any declined old new has = record { mid = has.mid; removed = unless_wider declined any_path false c.leaving old has.mid (λ p is. tt) has.removed; replaced = has.replaced }

  -- at each moment, whatever was declined
  pub renewing_any : (a b : State) → AtEachMomentOf Renewing a b → AtEachMoment (MayRenew c.leaving (list_path c.name) (list_file c.listed)) a b
  renewing_any a b since = since_weaker_if (Renewing a.world) (λ so_far. MayRenew c.leaving (list_path c.name) (list_file c.listed) a.world) a b
      (λ h so_far now may. renewing_wider (IsDeniedIn so_far) any_path (λ p is. tt) c.leaving (list_path c.name) (list_file c.listed) a.world now may) since

  abbrev Releasing : World → World → Type 0
  Releasing = MayRelease ways c.places c.losers (renewed_lists c ways lists) c.names

  abbrev Released : World → World → Type 0
  Released = HasReleased ways c.places c.losers (renewed_lists c ways lists) c.names

  -- the lists that stood then are those with the new one
  pub releasing_as : (had : List PackageList) → had ≡ renewed_lists c ways lists → (a b : State) → AtEachMoment (MayRelease ways c.places c.losers had c.names) a b → AtEachMoment Releasing a b
  releasing_as had same a b = subst (λ had. AtEachMoment (MayRelease ways c.places c.losers had c.names) a b) same

  pub released_as : (had : List PackageList) → had ≡ renewed_lists c ways lists → (old new : World) → HasReleased ways c.places c.losers had c.names old new → Released old new
  released_as had same old new = subst (λ had. HasReleased ways c.places c.losers had c.names old new) same

  pub has_committed : (declined : Path → Type 0) (after : List Record) (old renewed stored released new : World) → RenewedUnless declined old renewed → HasStored c.name c.members renewed stored → Released stored released → HaveNoted after released new
      → HasCommittedUnless c ways lists declined after old new
  has_committed declined after old renewed stored released new first second third last = record {
    renewed = renewed;
    stored = stored;
    released = released;
    stale = second.stale;
    renewal = first;
    replaced = second.replaced;
    whole = second.whole;
    release = third;
    noted = last;
  }

  module _ (spares : SparesAdministration c.leaving) (elsewhere : AreElsewhere c.names) (d : Recorded) where
    pub kept_renewed : (declined : Path → Type 0) (old renewed : World) → RenewedUnless declined old renewed → IsKept d old → IsKept d renewed
    kept_renewed declined old renewed has kept = kept_stays d old renewed (renewed_stays c.leaving c.name (list_file c.listed) old spares renewed (renewed_any declined old renewed has)) kept

    pub kept_stored : (old stored : World) → HasStored c.name c.members old stored → IsKept d old → IsKept d stored
    kept_stored old stored has kept = kept_stays d old stored (written_stays c.name old stored has.replaced.rest) kept

    pub kept_released : (old released : World) → Released old released → IsKept d old → IsKept d released
    kept_released old released has kept = kept_stays d old released (released_stays ways c.places c.losers (renewed_lists c ways lists) c.names old elsewhere released has) kept

    module _ (records : List Record) where
      abbrev Committing : World → List Event → World → Type 0
      Committing old so_far now = MayCommitUnless c ways lists (IsDeniedIn so_far) records d.records old now

      stayed_renewing : (declined : Path → Type 0) (old now : World) (may : MayRenewUnless declined c.leaving (list_path c.name) (list_file c.listed) old now) (has : HasRecords now d.records) (opens : CanOpenRecords now)
          → MayCommitUnless c ways lists declined records d.records old now
      stayed_renewing declined old now (inl removing) has opens = (MayCommit.renewing (inl removing) has opens, tt)
      stayed_renewing declined old now (inr m) has opens = (MayCommit.renewing (inr (m.0, unless_wider declined any_path false c.leaving old m.0 (λ p is. tt) m.1, m.2)) has opens, m.1)

      may_renew : (old : World) (so_far : List Event) (now : World) → IsKept d old → Renewing old so_far now → Committing old so_far now
      may_renew old so_far now kept may =
          let any = renewing_wider (IsDeniedIn so_far) any_path (λ p is. tt) c.leaving (list_path c.name) (list_file c.listed) old now may in
          let still = kept_stays d old now (renewing_stays c.leaving c.name (list_file c.listed) old spares now any) kept in
          stayed_renewing (IsDeniedIn so_far) old now may still.holds (kept_opens d now still)

      module _ (declined : Path → Type 0) (old renewed : World) (first : RenewedUnless declined old renewed) where
        may_store : (now : World) → IsKept d renewed → IsStoring c.name c.members renewed now → MayCommitUnless c ways lists declined records d.records old now
        may_store now kept is =
            let still = kept_stays d renewed now (written_stays c.name renewed now is.replacing.rest) kept in
            (MayCommit.replacing renewed is.stale (renewed_any declined old renewed first) is.replacing still.holds (kept_opens d now still), first.removed)

        may_release : (stored now : World) → IsKept d stored → HasStored c.name c.members renewed stored → Releasing stored now → MayCommitUnless c ways lists declined records d.records old now
        may_release stored now kept second may =
            let still = kept_stays d stored now (releasing_stays ways c.places c.losers (renewed_lists c ways lists) c.names stored elsewhere now may) kept in
            (MayCommit.releasing renewed stored second.stale (renewed_any declined old renewed first) second.replaced second.whole may still.holds (kept_opens d now still), first.removed)

        may_note : (stored released now : World) → HasStored c.name c.members renewed stored → Released stored released → AreNoting records d.records released now → MayCommitUnless c ways lists declined records d.records old now
        may_note stored released now second third is = (MayCommit.noting renewed stored released second.stale (renewed_any declined old renewed first) second.replaced second.whole third is, first.removed)

      -- moment by moment
      module _ (s0 s1 : State) (kept : IsTrue s0.honest → IsKept d s0.world) (renewing : AtEachMomentOf Renewing s0 s1) where
        pub while_renewing : AtEachMomentOf Committing s0 s1
        while_renewing = since_weaker_if (Renewing s0.world) (Committing s0.world) s0 s1 (λ h so_far now may. may_renew s0.world so_far now (kept (renewing.honest h)) may) renewing

        -- what was declined in the first part stays known
        unless_then : (s : State) (added more : List Event) → s.events ≡ s0.events ++ added → RenewedUnless (WasDenied s0 s) s0.world s1.world → RenewedUnless (IsDeniedIn (added ++ more)) s0.world s1.world
        unless_then s added more events has = renewed_wider (WasDenied s0 s) (IsDeniedIn (added ++ more)) (λ p denied. denied_here s0 s added more p events denied) c.leaving (list_path c.name) (list_file c.listed) s0.world s1.world has

        unless_later : (Q : World → Type 0) (s t : State) → Since (λ so_far. Q) s t → RenewedUnless (WasDenied s0 s) s0.world s1.world → RenewedUnless (WasDenied s0 t) s0.world s1.world
        unless_later Q s t since has = renewed_wider (WasDenied s0 s) (WasDenied s0 t) (λ p denied. denied_first_since (λ so_far. Q) s0 s t p denied since) c.leaving (list_path c.name) (list_file c.listed) s0.world s1.world has

        module _ (s2 : State) (renewed : IsTrue s1.honest → RenewedUnless (WasDenied s0 s1) s0.world s1.world) (storing : AtEachMoment (IsStoring c.name c.members) s1 s2) where
          pub while_storing : AtEachMomentOf Committing s0 s2
          while_storing =
              since_more (IsStoring c.name c.members) Committing s0 s1 s2 while_renewing (λ h later now is. (let h1 = storing.honest h in
              may_store (IsDeniedIn (while_renewing.added ++ later)) s0.world s1.world (unless_then s1 while_renewing.added later while_renewing.events (renewed h1)) now (kept_renewed (WasDenied s0 s1) s0.world s1.world (renewed h1) (kept (renewing.honest h1))) is)) storing

          module _ (s3 : State) (stored : IsTrue s2.honest → HasStored c.name c.members s1.world s2.world) (releasing : AtEachMoment Releasing s2 s3) where
            pub while_releasing : AtEachMomentOf Committing s0 s3
            while_releasing =
                since_more Releasing Committing s0 s2 s3 while_storing (λ h later now may. (let h2 = releasing.honest h in
                let h1 = storing.honest h2 in
                may_release (IsDeniedIn (while_storing.added ++ later)) s0.world s1.world
                (unless_then s2 while_storing.added later while_storing.events (unless_later (IsStoring c.name c.members s1.world) s1 s2 storing (renewed h1))) s2.world now
                (kept_stored s1.world s2.world (stored h2) (kept_renewed (WasDenied s0 s1) s0.world s1.world (renewed h1) (kept (renewing.honest h1)))) (stored h2) may)) releasing

            unless_released : RenewedUnless (WasDenied s0 s1) s0.world s1.world → RenewedUnless (WasDenied s0 s3) s0.world s1.world
            unless_released has = unless_later (Releasing s2.world) s2 s3 releasing (unless_later (IsStoring c.name c.members s1.world) s1 s2 storing has)

            pub while_noting : (s4 : State) → (IsTrue s3.honest → Released s2.world s3.world) → AtEachMoment (AreNoting records d.records) s3 s4 → AtEachMomentOf Committing s0 s4
            while_noting s4 released noting =
                since_more (AreNoting records d.records) Committing s0 s3 s4 while_releasing (λ h later now is. (let h3 = noting.honest h in
                let h2 = releasing.honest h3 in
                let h1 = storing.honest h2 in
                may_note (IsDeniedIn (while_releasing.added ++ later)) s0.world s1.world (unless_then s3 while_releasing.added later while_releasing.events (unless_released (renewed h1))) s2.world s3.world now (stored h2) (released h3) is)) noting

            -- and in the end
            pub renewed_end : (s4 : State) → AtEachMoment (AreNoting records d.records) s3 s4 → RenewedUnless (WasDenied s0 s1) s0.world s1.world → RenewedUnless (WasDenied s0 s4) s0.world s1.world
            renewed_end s4 noting has = unless_later (AreNoting records d.records s3.world) s3 s4 noting (unless_released has)

-- whatever was declined
pub committed_wider : (declined more : Path → Type 0) → ((p : Path) → declined p → more p) → (c : Changes) (ways : Ways) (lists : List PackageList) (after : List Record) (old new : World) → HasCommittedUnless c ways lists declined after old new → HasCommittedUnless c ways lists more after old new
committed_wider declined more wide c ways lists after old new has = record {
  renewed = has.renewed;
  stored = has.stored;
  released = has.released;
  stale = has.stale;
  renewal = renewed_wider declined more wide c.leaving (list_path c.name) (list_file c.listed) old has.renewed has.renewal;
  replaced = has.replaced;
  whole = has.whole;
  release = has.release;
  noted = has.noted;
}

pub committed_any : (declined : Path → Type 0) (c : Changes) (ways : Ways) (lists : List PackageList) (after : List Record) (old new : World) → HasCommittedUnless c ways lists declined after old new → HasCommitted c ways lists after old new
committed_any declined c ways lists after old new has = committed_wider declined any_path (λ p is. tt) c ways lists after old new has

-- what holds whatever the answer

pub on_ok_as : {T E : Type 0} (result : Result T E) (P : Type 0) → P → OnOk result P
on_ok_as (Ok x) P is = is
on_ok_as (Err e) P is = tt

pub on_err_as : {T E : Type 0} (result : Result T E) (P : Type 0) → P → OnErr result P
on_err_as (Ok x) P is = tt
on_err_as (Err e) P is = is

-- the lists

module _ (c : Changes) (ways : Ways) (old : Filed) where
  pub lists_both : (renewed released : Filed) → renewed ≡ record old { lists = renewed_lists c ways old.lists } → released ≡ record renewed { lists = without_all ways c.places c.losers renewed.lists } → released ≡ record old { lists = committed_lists c ways old.lists }
  lists_both renewed released first second = second ∙ ap (λ (f : Filed). record f { lists = without_all ways c.places c.losers f.lists }) first

  pub lists_first : (now : Filed) → (now ≡ record old { closed = true }) ⊎ (now ≡ old) → (now.closed ≡ true) ⊎ AreListsAmid c ways old.lists now.lists
  lists_first now (inl shut) = inl (ap (λ (f : Filed). f.closed) shut)
  lists_first now (inr same) = inr (inl (ap (λ (f : Filed). f.lists) same))

  pub lists_amid : (renewed : Filed) → renewed ≡ record old { lists = renewed_lists c ways old.lists } → (renewed.closed ≡ true) ⊎ AreListsAmid c ways old.lists renewed.lists
  lists_amid renewed first = inr (inr (inl (ap (λ (f : Filed). f.lists) first)))

  pub lists_last : (renewed now : Filed) → renewed ≡ record old { lists = renewed_lists c ways old.lists } → (now.closed ≡ true) ⊎ (now ≡ record renewed { lists = without_all ways c.places c.losers renewed.lists })
      → (now.closed ≡ true) ⊎ AreListsAmid c ways old.lists now.lists
  lists_last renewed now first (inl shut) = inl shut
  lists_last renewed now first (inr second) = inr (inr (inr (ap (λ (f : Filed). f.lists) (lists_both renewed now first second))))

pub none_noted : (records table : List Record) → HasSomeNoted records table table
none_noted records table = record { front = []; back = records; are = refl; is = refl }
