-- The records of other packages where the rows end: as before, or half-configured.
use Rattle.std.proofs.Common.{◌≡◌, ◌≢◌, ◌+◌, ◌&&◌, ℕ, zero, Bool, true, false, cond, nat_le, List, [], ◌∷◌, Option, Some, is_some, Contains, refl, sym, ap, subst, ◌∙◌, arith}
use Rattle.std.specs.Str.{bytes_eq}
use Rattle.std.proofs.lemmas.Bool.{false_from_ne_true, false≢true}
use Rattle.std.proofs.lemmas.List.Elements.{Contains-append_right}
use Rattle.std.proofs.lemmas.Slice.Eq.{bytes_eq-Decides}
use Rattle.undo_rows.specs.declared.fall.Fall.{Fall}
use Rattle.undo_rows.specs.declared.rows.Owner.TheVariants.{Package as OfPackage}
use Rattle.undo_rows.specs.declared.failed.Failed.{Failed}
use Rattle.undo_rows.specs.Transcripts.{Ended, Committed, Unwound}
use Rattle.status_records.specs.Records.{record_in}
use Rattle.status_records.specs.Triggers.{triggers_beside}
use Rattle.status_records.specs.Words.{is_installed}
use Rattle.status_records.specs.declared.record.Record.{Record}
use Rattle.status_records.specs.declared.words.State.{State}
use Rattle.status_records.specs.declared.words.State.TheVariants as state
use Rattle.status_records.proofs.SameRecords.{same_record, stays_beside}
use Rattle.unpack_rows.specs.EndStates.{AreRecorded, end_record, others_end, others_forward, others_row, own_end, own_name}
use Rattle.unpack_rows.specs.Failures.{has_failed}
use Rattle.unpack_rows.specs.Kinds.{own_of}
use Rattle.unpack_rows.specs.Notes.{half_configured, half_installed}
use Rattle.unpack_engine.specs.Touched.{is_half_configured}

-- the record found under a name is that of before, or that of one of these packages, which is half-configured
pub data EndsFor (others before : List Record) (q : List ℕ) (found : Option Record) : Type 0 where
  stayed : found ≡ record_in before q → EndsFor others before q found
  deconfigured : (r : Record) → Contains others r → r.name ≡ q → record_in before q ≡ Some r → found ≡ Some (half_configured r) → EndsFor others before q found

module _ (before : List Record) (q : List ℕ) where
  more : (x : Record) (others : List Record) (found : Option Record) → EndsFor others before q found → EndsFor (x ∷ others) before q found
  more x others found (EndsFor.stayed is) = EndsFor.stayed is
  more x others found (EndsFor.deconfigured r has named recorded is) = EndsFor.deconfigured r (Contains-append_right (x ∷ []) others r has) named recorded is

  -- the first of them has this name
  first : (r : Record) (rs : List Record) → record_in before r.name ≡ Some r → bytes_eq r.name q ≡ true → (c : Bool) → EndsFor (r ∷ rs) before q (Some (cond c (half_configured r) r))
  first r rs recorded e true =
      let named : r.name ≡ q = (bytes_eq-Decides r.name q).0 e in
      EndsFor.deconfigured r (zero, omega arith, refl) named (subst (λ n. record_in before n ≡ Some r) named recorded) refl
  first r rs recorded e false = EndsFor.stayed (sym (subst (λ n. record_in before n ≡ Some r) ((bytes_eq-Decides r.name q).0 e) recorded))

  forward : (others : List Record) → AreRecorded before others → EndsFor others before q (others_forward others (record_in before) q)
  forward [] all = EndsFor.stayed refl
  forward (r ∷ rs) all = by (bytes_eq r.name q) refl (forward rs all.1)
    where
      by : (b : Bool) → bytes_eq r.name q ≡ b → EndsFor rs before q (others_forward rs (record_in before) q)
          → EndsFor (r ∷ rs) before q (cond b (Some (half_configured r)) (others_forward rs (record_in before) q))
      by true e later = first r rs all.0 e true
      by false e later = more r rs (others_forward rs (record_in before) q) later

  backward : (row : ℕ) (others : List Record) (fall : Fall) (failed : List Failed) → AreRecorded before others → EndsFor others before q (others_end row others fall failed (record_in before) q)
  backward row [] fall failed all = EndsFor.stayed refl
  backward row (r ∷ rs) fall failed all = by (bytes_eq r.name q) refl (backward (row + 1) rs fall failed all.1)
    where
      by : (b : Bool) → bytes_eq r.name q ≡ b → EndsFor rs before q (others_end (row + 1) rs fall failed (record_in before) q)
          → EndsFor (r ∷ rs) before q (cond b (Some (cond (nat_le row fall.row && has_failed row (OfPackage r.name) failed) (half_configured r) r)) (others_end (row + 1) rs fall failed (record_in before) q))
      by true e later = first r rs all.0 e (nat_le row fall.row && has_failed row (OfPackage r.name) failed)
      by false e later = more r rs (others_end (row + 1) rs fall failed (record_in before) q) later

  -- whether it is recorded stays
  pub recorded_still : (others : List Record) (found : Option Record) → EndsFor others before q found → is_some found ≡ is_some (record_in before q)
  recorded_still others found (EndsFor.stayed is) = ap is_some is
  recorded_still others found (EndsFor.deconfigured r has named recorded is) = ap is_some is ∙ sym (ap is_some recorded)

-- where the rows end, for each name but the package's own
pub end_for : (start : Option Record) (incoming : Record) (others before : List Record) → AreRecorded before others → (ended : Ended) (q : List ℕ) → q ≢ own_name start incoming
    → EndsFor others before q (end_record start incoming others before ended q)
end_for start incoming others before recorded ended q other = by ended
  where
    unnamed : bytes_eq (own_name start incoming) q ≡ false
    unnamed = false_from_ne_true (bytes_eq (own_name start incoming) q) (λ t. other (sym ((bytes_eq-Decides (own_name start incoming) q).0 t)))

    by : (e : Ended) → EndsFor others before q (end_record start incoming others before e q)
    by Committed =
        subst (λ b. EndsFor others before q (cond b (Some (half_installed (own_of start incoming))) (others_forward others (record_in before) q))) (sym unnamed) (forward before q others recorded)
    by (Unwound fall failed) =
        subst (λ b. EndsFor others before q (cond b (own_end start incoming others fall failed) (others_end (others_row start incoming) others fall failed (record_in before) q))) (sym unnamed)
        (backward before q (others_row start incoming) others fall failed recorded)

half_is : (s : State) → is_half_configured s ≡ true → state.HalfConfigured ≡ s
half_is state.HalfConfigured e = refl
half_is state.NotInstalled e = absurd (false≢true e)
half_is state.ConfigFiles e = absurd (false≢true e)
half_is state.HalfInstalled e = absurd (false≢true e)
half_is state.Unpacked e = absurd (false≢true e)
half_is state.Installed e = absurd (false≢true e)

-- a package that is half-configured already stays as it is
pub half_already : (r : Record) → is_half_configured r.state ≡ true → half_configured r ≡ r
half_already r e =
    let same : state.HalfConfigured ≡ r.state = half_is r.state e in
    same_record (half_configured r) r record {
      name = refl;
      wanted = refl;
      flagged = refl;
      standing = same;
      version = refl;
      config_version = ap (λ (s : State). cond (is_installed s) (Some r.version) r.config_version) (sym same);
      removed_since = refl;
      conffiles = refl;
      pending = refl;
      triggers = ap (λ (s : State). triggers_beside s r.triggers) same ∙ stays_beside r.state r.triggers r.beside;
      fields = refl;
    }
