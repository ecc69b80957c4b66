-- Each note beside the rows can be written.
use Rattle.std.proofs.Common.{◌≡◌, ℕ, ◌<◌, zero, suc, Bool, true, false, cond, List, [], ◌∷◌, ◌++◌, Option, Some, None, length, get_or, map, refl, sym, subst, ◌∙◌, arith}
use Rattle.std.specs.Str.{bytes_eq}
use Rattle.status_records.specs.Records.{AreStanding, record_in}
use Rattle.status_records.specs.Words.{is_not_installed}
use Rattle.status_records.specs.declared.record.Record.{Record}
use Rattle.unpack_rows.specs.EndStates.{AreConcerned, AreRecorded}
use Rattle.unpack_rows.specs.Kinds.{first_kinds, has_prerm, is_upgrade, kinds_of, last_kinds, own_of, state_of}
use Rattle.unpack_rows.specs.Notes.{as_before, note_before, note_undone, unpacked}
use Rattle.unpack_rows.specs.declared.kinds.RowKind.{RowKind}
use Rattle.unpack_rows.specs.declared.kinds.RowKind.TheVariants.{Prerm, Other, Preinst, Files, Postrm}
use Rattle.unpack_rows.specs.declared.notes.Note.TheVariants.{Put}
use Rattle.unpack_steps.specs.Notable.{IsNotable}

some_is : (a b : Record) → Some a ≡ Some b → a ≡ b
some_is a b e = cc

standing_at : (b : Bool) (x r : Record) (rest : Option Record) → is_not_installed x.state ≡ false → (rest ≡ Some r → is_not_installed r.state ≡ false) → cond b (Some x) rest ≡ Some r → is_not_installed r.state ≡ false
standing_at true x r rest first later is = subst (λ (y : Record). is_not_installed y.state ≡ false) (some_is x r is) first
standing_at false x r rest first later is = later is

-- a record that is found stands
pub found_standing : (rs : List Record) (q : List ℕ) (r : Record) → AreStanding rs → record_in rs q ≡ Some r → is_not_installed r.state ≡ false
found_standing [] q r are is = absurd cc
found_standing (x ∷ rs) q r are is = standing_at (bytes_eq x.name q) x r (record_in rs q) are.0 (found_standing rs q r are.1) is

abbrev each_kind : (RowKind → Type 0) → List RowKind → Type 0
each_kind P [] = Unit {0}
each_kind P (k ∷ ks) = P k × each_kind P ks

each_then : (P : RowKind → Type 0) (a b : List RowKind) → each_kind P a → each_kind P b → each_kind P (a ++ b)
each_then P [] b first second = second
each_then P (k ∷ a) b first second = (first.0, each_then P a b first.1 second)

each_at : (P : RowKind → Type 0) (ks : List RowKind) (i : ℕ) (k : RowKind) → each_kind P ks → i < length ks → k ≡ get_or ks i k → P k
each_at P [] i k all within at = absurd (omega (arith, within))
each_at P (x ∷ ks) zero k all within at = subst P (sym at) all.0
each_at P (x ∷ ks) (suc i) k all within at = each_at P ks i k all.1 (omega (arith, within)) at

module _ (start : Option Record) (incoming : Record) where
  abbrev IsNoted : RowKind → Type 0
  IsNoted k = IsNotable (note_undone start incoming k)

  before_is : (o : Option Record) → ((r : Record) → o ≡ Some r → is_not_installed r.state ≡ false) → IsNotable (Some (as_before start incoming o))
  before_is None so = tt
  before_is (Some r) so = so r refl

  unpacked_is : (b : Bool) → IsNotable (Some (as_before start incoming start)) → IsNotable (Some (cond b (Put (unpacked (own_of start incoming))) (as_before start incoming start)))
  unpacked_is true own = refl
  unpacked_is false own = own

  first_is : (b : Bool) → IsNotable (Some (as_before start incoming start)) → each_kind IsNoted (first_kinds b)
  first_is true own = (own, tt)
  first_is false own = tt

  last_is : (b : Bool) → IsNotable (Some (as_before start incoming start)) → each_kind IsNoted (last_kinds b)
  last_is true own = (unpacked_is (has_prerm (state_of start)) own, (tt, (tt, tt)))
  last_is false own = (unpacked_is (has_prerm (state_of start)) own, (tt, tt))

  others_are : (table others : List Record) → AreStanding table → AreRecorded table others → each_kind IsNoted (map (λ r. Other r) others)
  others_are table [] standing are = tt
  others_are table (r ∷ rs) standing are = (found_standing table r.name r standing are.0, others_are table rs standing are.1)

  -- those before a call are of states that stand
  pub before_notable : (k : RowKind) → IsNotable (note_before start incoming k)
  before_notable Prerm = refl
  before_notable (Other r) = refl
  before_notable Preinst = refl
  before_notable Files = tt
  before_notable Postrm = tt

  -- those after an undo are of records that are found
  pub undone_notable : (others table : List Record) → AreConcerned start incoming others table → AreStanding table → (i : ℕ) (k : RowKind) → i < length (kinds_of start others) → k ≡ get_or (kinds_of start others) i k
      → IsNotable (note_undone start incoming k)
  undone_notable others table are standing i k within at =
      let own = before_is start (λ r is. found_standing table (own_of start incoming).name r standing (are.own ∙ is)) in
      each_at IsNoted (kinds_of start others) i k
      (each_then IsNoted (first_kinds (has_prerm (state_of start))) _ (first_is (has_prerm (state_of start)) own)
      (each_then IsNoted (map (λ r. Other r) others) _ (others_are table others standing are.recorded) (last_is (is_upgrade (state_of start)) own))) within at
