-- Parts that are done one after another.
use Rattle.std.proofs.Common.{◌≡◌, ◌<◌, ◌+◌, ℕ, suc, List, [], ◌∷◌, ◌++◌, IsTrue, true, add-one, drop, get_or, length, take, refl, sym, ap, subst, ◌∙◌}
use Rattle.std.proofs.Math.Seq.{drop-cons}
use Rattle.std.proofs.lemmas.List.{append-nil, take-append-drop}
use Rattle.host_core.specs.Paths.{Path}
use Rattle.host_core.specs.Events.{IsDeniedIn}
use Rattle.host_core.specs.Host.{State, AtEachMoment, AtEachMomentOf, Needs, WasDenied}
use Rattle.host_core.specs.Loss.{IsLater}
use Rattle.host_core.proofs.Denials.{denied_first, denied_front, denied_later}
use Rattle.host_core.proofs.Moments.{since_then, since_weaker_if}
use Rattle.host_core.specs.World.{World}
use Rattle.administration.proofs.Within.{taken_more}
use Rattle.file_lists.specs.declared.paths.PackageList.{PackageList}
use Rattle.status_db.specs.Recorded.{Recorded}
use Rattle.status_records.specs.declared.record.Record.{Record}
use Rattle.texts.specs.PackageNames.{is_package_name}
use Rattle.unit_stages.specs.Doing.{AreAmid, AreDoing, IsDoing, IsFirstDoing}
use Rattle.unit_stages.specs.PartFitting.{AreFit, AreSettleable, IsFit}
use Rattle.held_administration.specs.Order.{IsInOrder}
use Rattle.unit_stages.specs.Parts.{HasDone, HaveDone, part_lists, part_records, parts_lists, parts_records}
use Rattle.unit_stages.specs.declared.part.Part.{Part}
use Rattle.unit_stages.proofs.Denied.{denied_in, part_wider, parts_wider}
use Rattle.unit_stages.proofs.PartMoments.{first_doing}

module _ (name : List ℕ) where
  done_last : (declined : Path → Type 0) (front : List Part) (part : Part) (rs : List Record) (old mid new : World) → HaveDone name declined front rs old mid → HasDone name declined part (parts_records name front rs) mid new → HaveDone name declined (front ++ part ∷ []) rs old new
  done_last declined [] part rs old mid new same done = (new, subst (λ w. HasDone name declined part rs w new) same done, refl)
  done_last declined (p ∷ front) part rs old mid new before done = (before.0, before.1, done_last declined front part (part_records name p rs) before.0 mid new before.2 done)

  records_last : (front : List Part) (part : Part) (rs : List Record) → parts_records name (front ++ part ∷ []) rs ≡ part_records name part (parts_records name front rs)
  records_last [] part rs = refl
  records_last (p ∷ front) part rs = records_last front part (part_records name p rs)

  lists_last : (front : List Part) (part : Part) (ls : List PackageList) → parts_lists name (front ++ part ∷ []) ls ≡ part_lists name part (parts_lists name front ls)
  lists_last [] part ls = refl
  lists_last (p ∷ front) part ls = lists_last front part (part_lists name p ls)

  -- before the first
  pub doing_start : (parts : List Part) (d : Recorded) (ls : List PackageList) (s : State) → is_package_name name ≡ true → Needs s (IsInOrder d ls) → Needs s (AreSettleable parts) → AtEachMomentOf (AreAmid name parts d.records) s s
  doing_start parts d ls s named order can = record {
    added = [];
    events = sym (append-nil s.events);
    honest = λ h. h;
    world = refl;
    each = λ h. record {
      front = [];
      back = parts;
      are = refl;
      mid = s.world;
      done = refl;
      next = first_doing name d ls s.world (order h) named parts (can h);
    };
  }

  -- one more of them
  module _ (parts : List Part) (i : ℕ) (part : Part) (lt : i < length parts) (at : part ≡ get_or parts i part) where
    from_here : drop i parts ≡ part ∷ drop (i + 1) parts
    from_here = drop-cons parts i part lt ∙ ap (λ p. p ∷ drop (suc i) parts) (sym at) ∙ ap (λ n. part ∷ drop n parts) (sym (add-one i))

    pub fit_here : (rs : List Record) (ls : List PackageList) → AreFit name (drop i parts) rs ls → IsFit name part rs ls × AreFit name (drop (i + 1) parts) (part_records name part rs) (part_lists name part ls)
    fit_here rs ls fit = subst (λ ps. AreFit name ps rs ls) from_here fit

    pub fit_after : (rs : List Record) (ls : List PackageList) (table : List Record) (lists : List PackageList) → table ≡ part_records name part rs → lists ≡ part_lists name part ls
        → AreFit name (drop i parts) rs ls → AreFit name (drop (i + 1) parts) table lists
    fit_after rs ls table lists records_are lists_are fit =
        subst (λ t. AreFit name (drop (i + 1) parts) t lists) (sym records_are)
        (subst (AreFit name (drop (i + 1) parts) (part_records name part rs)) (sym lists_are) (fit_here rs ls fit).1)

    pub settle_here : (w : World) → AreSettleable (drop i parts) w → AreSettleable (part ∷ drop (i + 1) parts) w
    settle_here w can = subst (λ ps. AreSettleable ps w) from_here can

    pub records_more : (rs : List Record) → parts_records name (take (i + 1) parts) rs ≡ part_records name part (parts_records name (take i parts) rs)
    records_more rs = ap (λ ps. parts_records name ps rs) (taken_more parts i part lt at) ∙ records_last (take i parts) part rs

    pub lists_more : (ls : List PackageList) → parts_lists name (take (i + 1) parts) ls ≡ part_lists name part (parts_lists name (take i parts) ls)
    lists_more ls = ap (λ ps. parts_lists name ps ls) (taken_more parts i part lt at) ∙ lists_last (take i parts) part ls

    module _ (rs table : List Record) (is : table ≡ parts_records name (take i parts) rs) where
      pub done_more : (declined : Path → Type 0) (old mid new : World) → HaveDone name declined (take i parts) rs old mid → HasDone name declined part table mid new → HaveDone name declined (take (i + 1) parts) rs old new
      done_more declined old mid new before done =
          subst (λ ps. HaveDone name declined ps rs old new) (sym (taken_more parts i part lt at)) (done_last declined (take i parts) part rs old mid new before (subst (λ t. HasDone name declined part t mid new) is done))

      doing_more : (declined : Path → Type 0) (old mid now : World) → HaveDone name declined (take i parts) rs old mid → IsDoing name part table mid now → AreDoing name declined parts rs old now
      doing_more declined old mid now before doing = record {
        front = take i parts;
        back = drop i parts;
        are = sym (take-append-drop i parts);
        mid = mid;
        done = before;
        next = subst (λ ps. IsFirstDoing name ps (parts_records name (take i parts) rs) mid now) (sym from_here) (subst (λ t. IsDoing name part t mid now) is doing);
      }

      -- what is done of the parts between three states
      pub done_then : (a b c : State) → IsLater a b → IsLater b c → HaveDone name (WasDenied a b) (take i parts) rs a.world b.world → HasDone name (WasDenied b c) part table b.world c.world
          → HaveDone name (WasDenied a c) (take (i + 1) parts) rs a.world c.world
      done_then a b c first second before done =
          done_more (WasDenied a c) a.world b.world c.world
          (parts_wider name (WasDenied a b) (WasDenied a c) (λ p is. denied_first a b c p is second) (take i parts) rs a.world b.world before)
          (part_wider name (WasDenied b c) (WasDenied a c) (λ p is. denied_later a b c p first is) part table b.world c.world done)

      pub since_more : (a b c : State) → (IsTrue b.honest → HaveDone name (WasDenied a b) (take i parts) rs a.world b.world) → AtEachMomentOf (AreAmid name parts rs) a b → AtEachMoment (IsDoing name part table) b c → AtEachMomentOf (AreAmid name parts rs) a c
      since_more a b c before first second =
          since_then (AreAmid name parts rs a.world) a b c first
          (since_weaker_if (λ so_far. IsDoing name part table b.world) (λ so_far. AreAmid name parts rs a.world (first.added ++ so_far)) b c
          (λ h so_far now doing. doing_more (IsDeniedIn (first.added ++ so_far)) a.world b.world now
          (parts_wider name (WasDenied a b) (IsDeniedIn (first.added ++ so_far)) (λ p is. denied_front first.added so_far p (denied_in a b first.added p first.events is)) (take i parts) rs a.world b.world (before (second.honest h))) doing) second)
