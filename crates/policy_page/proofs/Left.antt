-- What rows leave of the files and of the package's record.
use Rattle.std.proofs.Common.{◌≡◌, ℕ, ◌+◌, Bool, true, false, cond, ◌&&◌, ◌||◌, nat_le, List, [], ◌++◌, Option, Some, length, refl, ◌∙◌}
use Rattle.std.proofs.lemmas.Slice.Eq.{bytes_eq-Decides}
use Rattle.std.specs.Str.{bytes_eq}
use Rattle.undo_rows.specs.declared.fall.StepFault.{StepFault}
use Rattle.undo_rows.specs.Place.{Place}
use Rattle.undo_rows.specs.Transcripts.{Ended, Committed, Unwound}
use Rattle.status_records.specs.declared.record.Record.{Record}
use Rattle.status_records.specs.Records.{record_in}
use Rattle.unpack_rows.specs.declared.kinds.RowKind.{RowKind}
use Rattle.unpack_rows.specs.EndStates.{OfPreinstOrPostrm, OfPrerm, NoneFailed, end_of, own_end_by, own_name}
use Rattle.unpack_rows.specs.Kinds.{first_kinds, has_prerm, is_upgrade, kinds_of, last_kinds, own_of, state_of}
use Rattle.unpack_rows.specs.Notes.{half_installed, noted, notes_at}
use Rattle.unpack_rows.specs.Stages.{stage_of}
use Rattle.unpack_rows.proofs.Ends.{end_table}
use Rattle.policy_page.proofs.Undoing.{own_failed}

abbrev pub kinds_by : Bool → Bool → List RowKind
kinds_by prerm upgrade = first_kinds prerm ++ last_kinds upgrade

-- where the rows of an unpack of one package end
abbrev pub place_of : Option Record → Ended → Place
place_of start ended = end_of (length (kinds_of start [])) ended

module _ (start : Option Record) (incoming : Record) (prerm upgrade : Bool) (p : has_prerm (state_of start) ≡ prerm) (u : is_upgrade (state_of start) ≡ upgrade) where
  abbrev own : Record
  own = own_of start incoming

  abbrev name : List ℕ
  name = own_name start incoming

  -- the files
  pub stage_is : (ended : Ended) → stage_of (kinds_of start []) (place_of start ended) ≡ stage_of (kinds_by prerm upgrade) (end_of (length (kinds_by prerm upgrade)) ended)
  stage_is ended = λ i. stage_of (kinds_by (p i) (u i)) (end_of (length (kinds_by (p i) (u i))) ended)

  abbrev first : Bool → ℕ
  first h = cond h 1 0 + 0

  -- the row that failed alone
  abbrev pub undone_by : Bool → ℕ → Option Record
  undone_by h n = own_end_by start incoming (cond (nat_le (first h) n && false) OfPreinstOrPostrm (cond (h && false) OfPrerm NoneFailed)) (nat_le (first h) n)

  -- and the undo of another one
  abbrev pub stuck_by : Bool → Bool → ℕ → ℕ → Option Record
  stuck_by h same n at =
      own_end_by start incoming
      (cond (nat_le (first h) n && ((nat_le (first h) at && same) || false)) OfPreinstOrPostrm (cond (h && ((nat_le 0 at && same) || false)) OfPrerm NoneFailed))
      (nat_le (first h) n)

  is_same : bytes_eq name name ≡ true
  is_same = (bytes_eq-Decides name name).1 refl

  taken : {A : Type 0} (b : Bool) (x y : A) → b ≡ true → cond b x y ≡ x
  taken true x y e = refl
  taken false x y e = cc

  module _ (table : List Record) (found : record_in table name ≡ start) where
    abbrev left_by : Ended → Option Record
    left_by ended = record_in (noted table (notes_at start incoming (kinds_of start []) (place_of start ended))) name

    pub left_committed : left_by Committed ≡ Some (half_installed own)
    left_committed = end_table start incoming [] table (record { own = found; recorded = tt; apart = (tt, tt) }) Committed name ∙ taken _ _ _ is_same

    pub left_undone : (n : ℕ) (fault : Option StepFault) → left_by (Unwound (record { row = n; fault = fault }) []) ≡ undone_by prerm n
    left_undone n fault =
        end_table start incoming [] table (record { own = found; recorded = tt; apart = (tt, tt) }) (Unwound (record { row = n; fault = fault }) []) name
        ∙ taken _ _ _ is_same ∙ (λ i. undone_by (p i) n)

    pub left_stuck : (n at : ℕ) (fault : Option StepFault) → left_by (Unwound (record { row = n; fault = fault }) (own_failed name at)) ≡ stuck_by prerm true n at
    left_stuck n at fault =
        end_table start incoming [] table (record { own = found; recorded = tt; apart = (tt, tt) }) (Unwound (record { row = n; fault = fault }) (own_failed name at)) name
        ∙ taken _ _ _ is_same ∙ (λ i. stuck_by (p i) (is_same i) n at)
