-- An unpack with all that it displaces.
use Rattle.std.proofs.Common.{◌≡◌, inr, true, false, ℕ, List, [], Option, Some, None, refl, sym, subst, ◌∙◌}
use Rattle.std.specs.Prelude.{is_some}
use Rattle.std.proofs.lemmas.Bool.{false≢true, true≢false}
use Rattle.displaced_packages.specs.Displacing.{HasCalled as HasCalledDisplacing, HaveBeenDisplaced, IsAmidDisplacing}
use Rattle.displaced_packages.specs.Losing.{losing_beside}
use Rattle.disappearance.specs.declared.losing.Losing.{Losing}
use Rattle.diversions.specs.Ways.{Ways}
use Rattle.file_lists.specs.declared.paths.PackageList.{PackageList}
use Rattle.host_core.specs.Host.{Needs, Since, State}
use Rattle.host_core.specs.Paths.{Path}
use Rattle.host_core.specs.declared.call.Call.{Call}
use Rattle.package_tree.specs.declared.package.Package.{Package}
use Rattle.removal_run.specs.Units.{holding_of}
use Rattle.undo_rows.specs.declared.unwinding.Unwinding.{Unwinding}
use Rattle.status_db.specs.Recorded.{Recorded}
use Rattle.unit_reports.specs.Held.{Held, places_of}
use Rattle.held_administration.specs.Order.{IsInOrder}
use Rattle.unpack_relations.specs.declared.beside.Beside.{Beside}
use Rattle.undo_rows.specs.declared.rows.Called.{Called}
use Rattle.dpkg_session.specs.Run.{IsAmidBeside, IsAmidUnpack}
use Rattle.dpkg_session.specs.Units.{HasCalledWhole, HasUnpackedBeside, HasUnpackedWhole, IsBehind, held_with}
use Rattle.dpkg_session.specs.declared.displacing.Behind.{Behind}
use Rattle.dpkg_session.proofs.Amid.{since_behind}

no_unwinding : (unwinding : Option Unwinding) → is_some unwinding ≡ false → unwinding ≡ None
no_unwinding None none = refl
no_unwinding (Some u) none = absurd (true≢false none)

module _ (p : Package) (beside : Beside) (before : Held) (late : Ways) (places : List Path) (records : Recorded) (lists : List PackageList) (same_places : places ≡ places_of before) where
  abbrev mid : Held
  mid = held_with late records lists

  by_places : (unwinding : Option Unwinding) (s m : State) (told between : List Called) → HasUnpackedBeside p beside before late places unwinding records lists s m told between → HasUnpackedBeside p beside before late (places_of before) unwinding records lists s m told between
  by_places unwinding s m told between unpacked = subst (λ ps. HasUnpackedBeside p beside before late ps unwinding records lists s m told between) same_places unpacked

  -- the rows were unwound

  unwound_whole : (unwinding : Option Unwinding) (displaced : List (List ℕ)) (failed : Option Call) (s t : State) (told now : List Called) → HasUnpackedBeside p beside before late places unwinding records lists s t told now → Needs t (IsInOrder records lists)
      → is_some unwinding ≡ true → displaced ≡ [] → failed ≡ None → HasUnpackedWhole p beside before unwinding displaced failed mid s t told now
  unwound_whole None displaced failed s t told now unpacked order some none no_failure = absurd (false≢true some)
  unwound_whole (Some u) displaced failed s t told now unpacked order some none no_failure = record {
    records = records;
    lists = lists;
    m = t;
    between = now;
    unpacked = by_places (Some u) s t told now unpacked;
    ready = order;
    behind = record { none = none; no_failure = no_failure; held = refl; here = refl; calls = refl };
  }

  pub unwound_end : (unwinding ended : Option Unwinding) (displaced : List (List ℕ)) (failed : Option Call) (s t : State) (told now : List Called) → HasUnpackedBeside p beside before late places unwinding records lists s t told now → Needs t (IsInOrder records lists)
      → is_some unwinding ≡ true → ended ≡ unwinding → displaced ≡ [] → failed ≡ None → HasUnpackedWhole p beside before ended displaced failed mid s t told now
  unwound_end unwinding ended displaced failed s t told now unpacked order some is none no_failure =
      subst (λ u. HasUnpackedWhole p beside before u displaced failed mid s t told now) (sym is) (unwound_whole unwinding displaced failed s t told now unpacked order some none no_failure)

  -- the rows succeeded, and packages are displaced

  module _ (b : Behind) (is : IsBehind p beside before.lists b) (losing : List Losing) (conflicting : List (List ℕ)) (losing_is : losing ≡ b.losing.items) (conflicting_is : conflicting ≡ beside.conflicting) (unwinding : Option Unwinding) (none : is_some unwinding ≡ false) (s m t : State) (told between : List Called) (unpacked : HasUnpackedBeside p beside before late places unwinding records lists s m told between) where
    committed : unwinding ≡ None
    committed = no_unwinding unwinding none

    unpacked_so : HasUnpackedBeside p beside before late places None records lists s m told between
    unpacked_so = subst (λ u. HasUnpackedBeside p beside before late places u records lists s m told between) committed unpacked

    -- what is said by what was known before is said of the package
    of_package : (P : List ℕ → List ℕ → List Losing → List (List ℕ) → Type 0) → P b.«package» b.version losing conflicting → P p.name p.version (losing_beside before.lists beside) beside.conflicting
    of_package P here =
        subst (λ n. P n p.version (losing_beside before.lists beside) beside.conflicting) is.name
        (subst (λ v. P b.«package» v (losing_beside before.lists beside) beside.conflicting) is.version
        (subst (λ l. P b.«package» b.version l beside.conflicting) (losing_is ∙ is.losing)
        (subst (λ c. P b.«package» b.version losing c) conflicting_is here)))

    pub displaced_whole : (displaced : List (List ℕ)) (failed : Option Call) (left : Recorded) (left_lists : List PackageList) (now : List Called) → Needs m (IsInOrder records lists)
        → HaveBeenDisplaced b.«package» b.version late losing conflicting displaced failed (holding_of mid) (holding_of (held_with late left left_lists)) m t between now → HasUnpackedWhole p beside before unwinding displaced failed (held_with late left left_lists) s t told now
    displaced_whole displaced failed left left_lists now order done = subst (λ u. HasUnpackedWhole p beside before u displaced failed (held_with late left left_lists) s t told now) (sym committed) (record {
      records = records;
      lists = lists;
      m = m;
      between = between;
      unpacked = by_places None s m told between unpacked_so;
      ready = order;
      behind = of_package (λ n v l c. HaveBeenDisplaced n v late l c displaced failed (holding_of mid) (holding_of (held_with late left left_lists)) m t between now) done;
    })

    pub called_whole : (now : List Called) → HasCalledDisplacing b.«package» b.version late losing conflicting (holding_of mid) m t between now → HasCalledWhole p beside before s t told now
    called_whole now called = inr (record {
      late = late;
      records = records;
      lists = lists;
      m = m;
      between = between;
      unpacked = by_places None s m told between unpacked_so;
      called = of_package (λ n v l c. HasCalledDisplacing n v late l c (holding_of mid) m t between now) called;
    })

    pub since_whole : told ≡ [] → Since (IsAmidBeside p beside before places s.world) s m → Since (IsAmidDisplacing b.«package» b.version late losing conflicting (holding_of mid) m) m t → Since (IsAmidUnpack p beside before s.world) s t
    since_whole untold first second =
        since_behind p beside before late records lists places told between s m t same_places untold unpacked_so first
        (of_package (λ n v l c. Since (IsAmidDisplacing n v late l c (holding_of mid) m) m t) second)
