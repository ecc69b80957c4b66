-- The parts of configuring fit: what is noted is of the package, each conffile is settled once, and what is left of the list is a list.
use Rattle.std.proofs.Common.{◌≡◌, ◌≢◌, ◌<◌, ℕ, zero, suc, true, false, not, List, [], ◌∷◌, ◌++◌, length, get_or, Some, is_some, refl, sym, ap, subst, ◌∙◌, arith}
use Rattle.std.specs.List.{All, AllPairs, list_any}
use Rattle.std.specs.Str.{bytes_eq}
use Rattle.std.proofs.lemmas.Bool.{true≢false, or_parts}
use Rattle.std.proofs.lemmas.Slice.Eq.{bytes_eq-Decides}
use Rattle.std.proofs.lemmas.List.Elements.{All-cons, All-head, All-nil, All-tail}
use Rattle.diversions.specs.Ways.{Ways}
use Rattle.host_core.specs.Paths.{Path}
use Rattle.host_core.specs.World.{World}
use Rattle.conffiles.specs.Settling.{CanSettle}
use Rattle.conffiles.specs.declared.entries.Settled.{Settled}
use Rattle.file_lists.specs.Owners.{AreLists, AreListPaths, paths_of}
use Rattle.file_lists.specs.declared.paths.PackageList.{PackageList}
use Rattle.file_lists.proofs.LeftPaths.{left_list_paths}
use Rattle.status_records.specs.Records.{put_record, record_in}
use Rattle.status_records.specs.declared.record.Record.{Record}
use Rattle.unit_stages.specs.PartFitting.{AreFit, AreSettleable, HaveNoSettle, IsFit, IsNotable}
use Rattle.unit_stages.specs.Parts.{parts_records}
use Rattle.unit_stages.specs.declared.part.Part.{Part}
use Rattle.unit_stages.specs.declared.part.Part.TheVariants.{Note, Forget, Settle, Remove, RemoveDirectories, Clear, List as Listing, DropList, DropMembers}
use Rattle.configure_engine.specs.Decided.{decided_paths}
use Rattle.configure_engine.specs.Settled.{settled}
use Rattle.configure_engine.specs.Stages.{AreFirstParts, SettlesThese, half, list_parts, listed_without}
use Rattle.configure_engine.specs.Waiting.{going_paths, settling_places}
use Rattle.configure_engine.proofs.NothingSettled.{settled_same}
use Rattle.configure_engine.proofs.PlacesOnce.{AreOnce}
use Rattle.configure_engine.proofs.Tables.{put_other, put_own}

-- conffiles of which each has a place of its own

other_at : (p : Path) (es : List Settled) (k : ℕ) (d : Settled) → k < length es → list_any (bytes_eq p) (decided_paths es) ≡ false → p ≢ (get_or es k d).path
other_at p [] k d lt none = absurd (omega (arith, lt))
other_at p (e ∷ es) zero d lt none = λ same. true≢false (sym ((bytes_eq-Decides p e.path).1 same) ∙ (or_parts (bytes_eq p e.path) (list_any (bytes_eq p) (decided_paths es)) none).0)
other_at p (e ∷ es) (suc k) d lt none = other_at p es k d (omega (arith, lt)) (or_parts (bytes_eq p e.path) (list_any (bytes_eq p) (decided_paths es)) none).1

once : (list : List Settled) → AreOnce (decided_paths list) → AllPairs (λ e f. e.path ≢ f.path) list
once [] are i j d less within = absurd (omega (arith, within))
once (e ∷ es) are zero zero d less within = absurd (omega (arith, less))
once (e ∷ es) are zero (suc j) d less within = other_at e.path es j d (omega (arith, within)) are.0
once (e ∷ es) are (suc i) zero d less within = absurd (omega (arith, less))
once (e ∷ es) are (suc i) (suc j) d less within = once es are.1 i j d (omega (arith, less)) (omega (arith, within))

each_can : (w : World) (list : List Settled) → All (λ x. CanSettle x w) (decided_paths list) → All (λ e. CanSettle e.path w) list
each_can w [] all = All-nil (λ (e : Settled). CanSettle e.path w)
each_can w (e ∷ es) all =
    All-cons (λ (x : Settled). CanSettle x.path w) e es (All-head (λ (x : Path). CanSettle x w) e.path (decided_paths es) all) (each_can w es (All-tail (λ (x : Path). CanSettle x w) e.path (decided_paths es) all))

-- the parts before the call

module _ (r : Record) (name : List ℕ) (own : r.name ≡ name) where
  notable : (rs : List Record) → is_some (record_in rs name) ≡ true → IsNotable name (half r) rs
  notable rs known = record { own = own; stands = refl; known = known }

  notable_settled : (rs : List Record) → is_some (record_in rs name) ≡ true → IsNotable name (half (settled r)) rs
  notable_settled rs known = record { own = own; stands = refl; known = known }

  still_known : (rs : List Record) → is_some (record_in (put_record (half r) rs) name) ≡ true
  still_known rs = ap is_some (put_own (half r) rs name own)

  rest_fit : (going : List Path) (listed : List Path) (rs : List Record) (ls : List PackageList) → is_some (record_in rs name) ≡ true → AreListPaths (listed_without going listed) → AreFit name (list_parts going listed ++ Note (half (settled r)) ∷ []) rs ls
  rest_fit [] listed rs ls known paths = (notable_settled rs known, tt)
  rest_fit (q ∷ going) listed rs ls known paths = (record { listable = paths; known = known }, (notable_settled rs known, tt))

  rest_records : (going : List Path) (listed : List Path) (rs : List Record) → parts_records name (list_parts going listed ++ Note (half (settled r)) ∷ []) rs ≡ put_record (half (settled r)) rs
  rest_records [] listed rs = refl
  rest_records (q ∷ going) listed rs = refl

  no_more : (going : List Path) (listed : List Path) → HaveNoSettle (list_parts going listed ++ Note (half (settled r)) ∷ [])
  no_more [] listed = (refl, tt)
  no_more (q ∷ going) listed = (refl, (refl, tt))

  module _ (rs : List Record) (ls : List PackageList) (found : record_in rs name ≡ Some r) (are : AreLists ls) where
    settle_fits : (list : List Settled) (part : Part) → AreOnce (decided_paths list) → SettlesThese list part → IsFit name part (put_record (half r) rs) ls
    settle_fits list (Note x) order is = absurd is
    settle_fits list Forget order is = absurd is
    settle_fits list (Settle settled) order is = subst (AllPairs (λ (e f : Settled). e.path ≢ f.path)) (sym is) (once list order)
    settle_fits list (Remove leaving) order is = absurd is
    settle_fits list (RemoveDirectories leaving) order is = absurd is
    settle_fits list (Clear names) order is = absurd is
    settle_fits list (Listing paths) order is = absurd is
    settle_fits list DropList order is = absurd is
    settle_fits list (DropMembers keep_postrm) order is = absurd is

    behind_settle : (list : List Settled) (part : Part) (parts : List Part) → SettlesThese list part → AreFit name parts (put_record (half r) rs) ls → AreOnce (decided_paths list) → AreFit name (part ∷ parts) (put_record (half r) rs) ls
    behind_settle list (Note x) parts is fit order = absurd is
    behind_settle list Forget parts is fit order = absurd is
    behind_settle list (Settle settled) parts is fit order = (settle_fits list (Settle settled) order is, fit)
    behind_settle list (Remove leaving) parts is fit order = absurd is
    behind_settle list (RemoveDirectories leaving) parts is fit order = absurd is
    behind_settle list (Clear names) parts is fit order = absurd is
    behind_settle list (Listing paths) parts is fit order = absurd is
    behind_settle list DropList parts is fit order = absurd is
    behind_settle list (DropMembers keep_postrm) parts is fit order = absurd is

    pub first_fit : (list : List Settled) (parts : List Part) → AreOnce (decided_paths list) → AreFirstParts r (paths_of ls name) list parts → AreFit name parts rs ls
    first_fit [] parts order is = subst (λ (ps : List Part). AreFit name ps rs ls) (sym is) (notable rs (ap is_some found), tt)
    first_fit (e ∷ es) parts order is =
        let going = going_paths r in
        subst (λ (ps : List Part). AreFit name ps rs ls) (sym is.2) (
          notable rs (ap is_some found),
          behind_settle (e ∷ es) is.0 (list_parts going (paths_of ls name) ++ Note (half (settled r)) ∷ []) is.1
              (rest_fit going (paths_of ls name) (put_record (half r) rs) ls (still_known rs) (left_list_paths ls name (λ (q : Path). not (list_any (bytes_eq q) going)) are)) order,
        )

  settle_records : (list : List Settled) (part : Part) (parts : List Part) (rs : List Record) → SettlesThese list part → parts_records name (part ∷ parts) rs ≡ parts_records name parts rs
  settle_records list (Note x) parts rs is = absurd is
  settle_records list Forget parts rs is = absurd is
  settle_records list (Settle settled) parts rs is = refl
  settle_records list (Remove leaving) parts rs is = absurd is
  settle_records list (RemoveDirectories leaving) parts rs is = absurd is
  settle_records list (Clear names) parts rs is = absurd is
  settle_records list (Listing paths) parts rs is = absurd is
  settle_records list DropList parts rs is = absurd is
  settle_records list (DropMembers keep_postrm) parts rs is = absurd is

  -- the records behind them have the settled one, and all others as before
  pub record IsHalf (rs now : List Record) : Type 0 where
    pub is : record_in now name ≡ Some (half (settled r))
    pub others : (q : List ℕ) → q ≢ name → record_in now q ≡ record_in rs q

  pub first_records : (ways : Ways) (listed : List Path) (list : List Settled) (parts : List Part) (rs : List Record) → decided_paths list ≡ settling_places ways r → AreFirstParts r listed list parts → IsHalf rs (parts_records name parts rs)
  first_records ways listed [] parts rs paths is = subst (λ (ps : List Part). IsHalf rs (parts_records name ps rs)) (sym is) record {
    is = put_own (half r) rs name own ∙ ap (λ (s : Record). Some (half s)) (sym (settled_same ways r (sym paths)));
    others = λ q other. put_other (half r) rs name q own other;
  }
  first_records ways listed (e ∷ es) parts rs paths is =
      let going = going_paths r in
      let mid = put_record (half r) rs in
      let now = parts_records name parts rs in
      let same : now ≡ put_record (half (settled r)) mid =
      ap (λ (ps : List Part). parts_records name ps rs) is.2 ∙ settle_records (e ∷ es) is.0 (list_parts going listed ++ Note (half (settled r)) ∷ []) mid is.1 ∙ rest_records going listed mid in
      subst (IsHalf rs) (sym same) record {
        is = put_own (half (settled r)) mid name own;
        others = λ q other. put_other (half (settled r)) mid name q own other ∙ put_other (half r) rs name q own other;
      }

  behind_can : (w : World) (list : List Settled) (part : Part) (parts : List Part) → SettlesThese list part → All (λ e. CanSettle e.path w) list → HaveNoSettle parts → AreSettleable (part ∷ parts) w
  behind_can w list (Note x) parts is can none = absurd is
  behind_can w list Forget parts is can none = absurd is
  behind_can w list (Settle settled) parts is can none = (subst (All (λ (e : Settled). CanSettle e.path w)) (sym is) can, none)
  behind_can w list (Remove leaving) parts is can none = absurd is
  behind_can w list (RemoveDirectories leaving) parts is can none = absurd is
  behind_can w list (Clear names) parts is can none = absurd is
  behind_can w list (Listing paths) parts is can none = absurd is
  behind_can w list DropList parts is can none = absurd is
  behind_can w list (DropMembers keep_postrm) parts is can none = absurd is

  -- they can be settled
  pub first_settleable : (w : World) (listed : List Path) (list : List Settled) (parts : List Part) → AreFirstParts r listed list parts → All (λ x. CanSettle x w) (decided_paths list) → AreSettleable parts w
  first_settleable w listed [] parts is can = subst (λ (ps : List Part). AreSettleable ps w) (sym is) tt
  first_settleable w listed (e ∷ es) parts is can =
      subst (λ (ps : List Part). AreSettleable ps w) (sym is.2)
      (behind_can w (e ∷ es) is.0 (list_parts (going_paths r) listed ++ Note (half (settled r)) ∷ []) is.1 (each_can w (e ∷ es) can) (no_more (going_paths r) listed))
