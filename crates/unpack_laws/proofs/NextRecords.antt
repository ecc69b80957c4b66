-- The records that the next opening finds, by the unit's notes.
use Rattle.std.proofs.Common.{◌≡◌, ◌≢◌, inl, inr, ℕ, zero, true, false, List, [], ◌∷◌, Option, Some, None, Contains, refl, sym, ap, subst, ◌∙◌, arith}
use Rattle.std.specs.List.{AllByRecursion}
use Rattle.std.specs.Str.{bytes_eq}
use Rattle.std.proofs.Props.{props}
use Rattle.std.proofs.Math.Logic.{∥∥₁_elim}
use Rattle.std.proofs.lemmas.Bool.{true≢false}
use Rattle.std.proofs.lemmas.List.Elements.{Contains-append_right}
use Rattle.std.proofs.lemmas.Slice.Eq.{bytes_eq-Decides}
use Rattle.host_core.specs.Events.{Event}
use Rattle.host_core.specs.Paths.{Path}
use Rattle.host_core.specs.World.{World}
use Rattle.undo_rows.specs.Transcripts.{Committed}
use Rattle.file_lists.specs.declared.paths.PackageList.{PackageList}
use Rattle.package_files.specs.declared.work.Work.{Work}
use Rattle.status_db.specs.Held.{HasRecords}
use Rattle.status_db.specs.Recorded.{Recorded}
use Rattle.status_records.specs.Records.{AreApart, IsWithout, record_in}
use Rattle.status_records.specs.declared.record.Record.{Record}
use Rattle.status_db.proofs.Ordered.{order_apart}
use Rattle.unpack_commit.specs.Takeover.{taken_places}
use Rattle.unpack_plan.specs.Records.{IsFresh}
use Rattle.unpack_rows.specs.EndStates.{AreRecorded}
use Rattle.unpack_rows.specs.ForwardRows.{records_of}
use Rattle.unpack_rows.specs.Kinds.{kinds_of, own_of}
use Rattle.unpack_rows.specs.Notes.{as_before, half_configured, half_installed, unpacked}
use Rattle.unpack_rows.specs.Stages.{stage_of}
use Rattle.unpack_rows.specs.declared.notes.Note.TheVariants.{Put}
use Rattle.unpack_rows.proofs.LastNotes.{note_name}
use Rattle.held_administration.specs.Order.{IsInOrder}
use Rattle.unpack_engine.specs.Others.{AreOthers}
use Rattle.unpack_engine.specs.Units.{Given, Ground, IsAmid, IsAmidUnit, ground_of, last_place, lists_after, package_name, stage_records, unit_losers}
use Rattle.unpack_engine.proofs.Losing.{loser_other}
use Rattle.unpack_engine.proofs.Ready.{kept_opens}
use Rattle.unpack_laws.specs.InHand.{KeepsPlaces, unit_found, unit_name, unit_yielding}
use Rattle.unpack_laws.specs.NextOpening.{HasRecordsAmid, IsBesideRows, IsOtherRecord, IsOwnRecord, MayLoseConffiles}
use Rattle.unpack_laws.proofs.NotedRecords.{AreGoodRows, IsGoodNote, record_amid}
use Rattle.unpack_laws.proofs.Passing.{keeps_or_loses, loses_places}

-- names differ in records that stand

apart_once : (rs : List Record) → IsProp (AreApart rs)
apart_once [] first second = refl
apart_once (r ∷ rs) first second = λ i. (without_once r.name rs first.0 second.0 i, apart_once rs first.1 second.1 i)
  where
    without_once : (name : List ℕ) (xs : List Record) → IsProp (IsWithout name xs)
    without_once name [] one two = refl
    without_once name (x ∷ xs) one two =
        let differ : IsProp (bytes_eq x.name name ≡ false) = hlevel props in
        λ i. (differ one.0 two.0 i, without_once name xs one.1 two.1 i)

held_apart : (w : World) (rs : List Record) → HasRecords w rs → AreApart rs
held_apart w rs held = ∥∥₁_elim held (apart_once rs) (λ h. order_apart rs h.order)

module _ (g : Given) (others : AreOthers (unit_name g) g.records g.others) (places : List Path) (old now : World) (so_far : List Event) where
  module _ (apart : AreApart g.records) (amid : IsAmid g places old so_far now) where
    abbrev here : Ground
    here = ground_of g places

    own_is : package_name here amid.plan ≡ unit_name g
    own_is = amid.plan_for.planned.records_are.own

    found_is : amid.plan.found ≡ unit_found g
    found_is = amid.plan_for.planned.records_are.found_is

    -- the package's own record

    abbrev Own : Option Record → Type 0
    Own = IsOwnRecord g

    no_own_loser : (works : List Work) (lists : List PackageList) → Contains (unit_losers here amid.plan works lists) (unit_name g) → ⊥
    no_own_loser works lists has = loser_other g.ways (taken_places works) lists (package_name here amid.plan) here.yields (unit_name g) has (sym own_is)

    -- the records at its stage
    abbrev table : List Record
    table = stage_records here amid.plan old so_far now amid.under_way.stage

    own_before : (o : Option Record) → amid.plan.found ≡ o → IsGoodNote Own (unit_name g) (as_before amid.plan.found amid.plan.incoming o)
    own_before None is = λ same. IsOwnRecord.stayed (sym is ∙ found_is)
    own_before (Some r) is = λ same. IsOwnRecord.stayed (sym is ∙ found_is)

    none_own : (rs : List Record) → IsWithout (unit_name g) rs → AllByRecursion (λ r. IsGoodNote Own (unit_name g) (Put (half_configured r)) × IsGoodNote Own (unit_name g) (Put r)) rs
    none_own [] none = tt
    none_own (r ∷ rs) none = (((λ same. absurd (true≢false (sym same ∙ none.0))), (λ same. absurd (true≢false (sym same ∙ none.0)))), none_own rs none.1)

    own_rows : AreGoodRows Own (unit_name g) amid.plan.found amid.plan.incoming amid.plan.others
    own_rows = record {
      deconfigured = λ same. IsOwnRecord.deconfigured amid.plan.incoming amid.plan_for.planned.records_are.incoming_is (ap (λ f. Some (half_configured (own_of f amid.plan.incoming))) found_is);
      begun = λ same. IsOwnRecord.begun amid.plan.incoming amid.plan_for.planned.records_are.incoming_is (ap (λ f. Some (half_installed (own_of f amid.plan.incoming))) found_is);
      put_back = λ same. IsOwnRecord.put_back amid.plan.incoming amid.plan_for.planned.records_are.incoming_is (ap (λ f. Some (unpacked (own_of f amid.plan.incoming))) found_is);
      before = own_before amid.plan.found refl;
      others_are = none_own amid.plan.others (subst (IsWithout (unit_name g)) (sym amid.plan_for.planned.rows_are.others_are) others.unnamed);
    }

    own_amid : IsOwnRecord g (record_in table (unit_name g))
    own_amid = record_amid Own Own (unit_name g) here amid.plan apart (λ o is. is)
        (λ works begun moved has. absurd (no_own_loser works (lists_after here amid.plan Committed begun) has))
        (λ same. IsOwnRecord.committed amid.plan.fresh (subst (λ f. IsFresh (unit_yielding g) g.«package» f amid.plan.fresh) found_is amid.plan_for.planned.records_are.fresh_is) refl)
        own_rows (IsOwnRecord.stayed refl) old so_far now amid.under_way.stage

    -- another package's

    module _ (q : List ℕ) (other : q ≢ unit_name g) where
      abbrev Theirs : Option Record → Type 0
      Theirs = IsOtherRecord g q

      not_theirs : {X : Type 0} (name : List ℕ) → name ≡ unit_name g → bytes_eq name q ≡ true → X
      not_theirs name is same = absurd (other (sym ((bytes_eq-Decides name q).0 same) ∙ is))

      before_name : (o : Option Record) → amid.plan.found ≡ o → note_name (as_before amid.plan.found amid.plan.incoming o) ≡ unit_name g
      before_name None is = ap (λ f. (own_of f amid.plan.incoming).name) (sym is) ∙ own_is
      before_name (Some r) is = ap (λ f. (own_of f amid.plan.incoming).name) (sym is) ∙ own_is

      all_theirs : (rs : List Record) → AreRecorded g.records rs → ((r : Record) → Contains rs r → Contains (records_of g.others) r)
          → AllByRecursion (λ r. IsGoodNote Theirs q (Put (half_configured r)) × IsGoodNote Theirs q (Put r)) rs
      all_theirs [] recorded among = tt
      all_theirs (r ∷ rs) recorded among = (
        (
          (λ same. IsOtherRecord.deconfigured r (among r (zero, omega arith, refl)) ((bytes_eq-Decides r.name q).0 same) refl),
          (λ same. IsOtherRecord.stayed (sym (subst (λ n. record_in g.records n ≡ Some r) ((bytes_eq-Decides r.name q).0 same) recorded.0))),
        ),
        all_theirs rs recorded.1 (λ x has. among x (Contains-append_right (r ∷ []) rs x has)),
      )

      their_rows : AreGoodRows Theirs q amid.plan.found amid.plan.incoming amid.plan.others
      their_rows = record {
        deconfigured = not_theirs (package_name here amid.plan) own_is;
        begun = not_theirs (package_name here amid.plan) own_is;
        put_back = not_theirs (package_name here amid.plan) own_is;
        before = not_theirs (note_name (as_before amid.plan.found amid.plan.incoming amid.plan.found)) (before_name amid.plan.found refl);
        others_are = subst (AllByRecursion (λ r. IsGoodNote Theirs q (Put (half_configured r)) × IsGoodNote Theirs q (Put r))) (sym amid.plan_for.planned.rows_are.others_are)
            (all_theirs (records_of g.others) others.recorded (λ r has. has));
      }

      all_amid : MayLoseConffiles g q (record_in table q)
      all_amid = record_amid Theirs (MayLoseConffiles g q) q here amid.plan apart (λ o is. MayLoseConffiles.kept is)
          (λ works begun moved has r is. MayLoseConffiles.lost r (taken_places works) is
          (loses_places g amid.plan_for.stored amid.plan amid.plan_for.planned places q other works begun (stage_of (kinds_of amid.plan.found amid.plan.others) (last_place here amid.plan Committed)) moved has) refl)
          (not_theirs amid.plan.fresh.name amid.plan_for.planned.records_are.fresh_is.is.name_is)
          their_rows (IsOtherRecord.stayed refl) old so_far now amid.under_way.stage

      kept_places : KeepsPlaces g q → (found : Option Record) → MayLoseConffiles g q found → IsOtherRecord g q found
      kept_places keeps found (MayLoseConffiles.kept is) = is
      kept_places keeps found (MayLoseConffiles.lost r taken was loses is) = absurd (keeps_or_loses g q taken keeps loses)

      their_amid : KeepsPlaces g q → IsOtherRecord g q (record_in table q)
      their_amid keeps = kept_places keeps (record_in table q) all_amid

    rowless_amid : (q : List ℕ) → IsBesideRows g q → (found : Option Record) → IsOtherRecord g q found → found ≡ record_in g.records q
    rowless_amid q beside found (IsOtherRecord.stayed is) = is
    rowless_amid q beside found (IsOtherRecord.deconfigured r has named is) = absurd (beside.rowless r has named)

    planned_records : HasRecordsAmid g now
    planned_records = record {
      table = table;
      records = amid.under_way.records;
      opens = amid.under_way.opens;
      own = own_amid;
      all = all_amid;
      others = their_amid;
      beside = λ q is. rowless_amid q is _ (their_amid q is.other is.keeps);
    }

  module _ (d : Recorded) (order : IsInOrder d g.lists old) (same : d.records ≡ g.records) where
    old_held : HasRecords old g.records
    old_held = subst (HasRecords old) same order.kept.holds

    old_records : HasRecordsAmid g old
    old_records = record {
      table = g.records;
      records = old_held;
      opens = kept_opens d old order.kept;
      own = IsOwnRecord.stayed refl;
      all = λ q other. MayLoseConffiles.kept (IsOtherRecord.stayed refl);
      others = λ q other keeps. IsOtherRecord.stayed refl;
      beside = λ q is. refl;
    }

    pub records_next : IsAmidUnit g places old so_far now → HasRecordsAmid g now
    records_next (inl looks) = subst (HasRecordsAmid g) (sym looks.0) old_records
    records_next (inr amid) = planned_records (held_apart old g.records old_held) amid
