-- What dpkg reads as control files stays amid an opening, and after a loss of power.
use Rattle.std.proofs.Common.{◌≡◌, ◌||◌, nat_eq, inl, inr, not, ℕ, IsTrue, Bool, true, false, cond, List, [], ◌∷◌, ◌++◌, Option, codes, refl, sym, ap, subst, ◌∙◌}
use Rattle.std.specs.Prelude.{IsSome}
use Rattle.std.specs.List.{list_any}
use Rattle.std.specs.Str.{bytes_eq}
use Rattle.std.proofs.Math.Logic.{∥∥₁_elim, ∥∥₁_prop}
use Rattle.std.proofs.lemmas.Bool.{and_parts, eq-eqb, eqb-true, false_from_ne_true, false≢true, true≢false}
use Rattle.std.proofs.lemmas.Slice.Eq.{bytes_eq-Decides}
use Rattle.host_core.specs.Events.{Event, changes_of}
use Rattle.host_core.specs.Host.{AtEachMoment, Needs, State}
use Rattle.host_core.specs.Loss.{IsLike, LosesSince}
use Rattle.host_core.proofs.Losses.{avoid_added, since_loss_one}
use Rattle.host_core.proofs.Moments.{since_weaker_if}
use Rattle.host_core.specs.Paths.{Path}
use Rattle.host_core.specs.Unsynced.{IsSettled, is_temporary}
use Rattle.host_core.specs.World.{Avoids, SameOn, World}
use Rattle.host_core.specs.declared.node.Node.{Node}
use Rattle.administration.specs.Places.{info_path}
use Rattle.file_lists.specs.Info.{entry_path}
use Rattle.info_format.specs.Converting.{IsConverting}
use Rattle.info_format.specs.Format.{AreAlike as HoldSame, IsConvertible, IsFit, format_path, is_one, reads, says_one}
use Rattle.info_format.specs.Names.{AreTwo, Architectures, architectures, are_ending_signs, is_ending, long_front}
use Rattle.info_format.specs.Stage.{IsNaming}
use Rattle.info_format.proofs.Two.{last_dot, long_plain, short_plain, two_proper}
use Rattle.opening.proofs.OneTable.{one_holding}
use Rattle.opening.specs.Leaving.{IsOpening, IsOpeningOrMerging, IsReading}
use Rattle.opening.specs.TakenUp.{IsOpeningOrAdopting}
use Rattle.scattered_losses.proofs.ByDirectory.{in_parent, parent_beside}
use Rattle.scattered_losses.specs.Scattered.{IsLeftInOrder, LosesScattered, is_in}
use Rattle.status_db.specs.Held.{HasRecords}
use Rattle.status_records.specs.declared.record.Record.{Record}
use Rattle.reopening.proofs.Losses.{is_suffixed}
use Rattle.reopening.specs.ControlFiles.{KeepsControlFiles, KeepsReadings}

-- no temporary name is that of a control file without its architecture
short_proper : (arches : Architectures) (long short : Path) → AreTwo arches long short → is_temporary short ≡ false
short_proper arches long short two = false_from_ne_true (is_temporary short) (λ is.
    let cut = is_suffixed short is in
    let parts = and_parts (are_ending_signs two.ending) (not (bytes_eq two.ending (codes "dpkg-inst"))) two.plain in
    let same = last_dot (entry_path two.name) cut.0 two.ending (codes "dpkg-inst") parts.0 refl (sym two.short_is ∙ cut.1) in
    false≢true (sym (ap not ((bytes_eq-Decides two.ending (codes "dpkg-inst")).1 same.1)) ∙ parts.1))

-- alike at the names of control files, and at what tells the format
pub record AreAlike (arches : Architectures) (u v : World) : Type 0 where
  pub format : v format_path ≡ u format_path
  pub long : (l s : Path) → AreTwo arches l s → v l ≡ u l
  pub short : (l s : Path) → AreTwo arches l s → v s ≡ u s

reads_alike : (arches : Architectures) (u v : World) (l s : Path) → AreAlike arches u v → AreTwo arches l s → reads v l s ≡ reads u l s
reads_alike arches u v l s alike two = λ i. cond (says_one (alike.format i)) (alike.long l s two i) (alike.short l s two i)

convertible_alike : (arches : Architectures) (u v : World) → AreAlike arches u v → IsConvertible arches u → IsConvertible arches v
convertible_alike arches u v alike can = record {
  known = λ stands some. ap says_one alike.format ∙ can.known (stands.0, stands.1, stands.2, subst IsSome (alike.long stands.0 stands.1 stands.2) stands.3) (subst IsSome alike.format some);
  fit = λ one l s two.
      subst (λ (n : Option Node). IsFit n (v s)) (sym (alike.long l s two)) (subst (IsFit (u l)) (sym (alike.short l s two)) (can.fit (sym (ap says_one alike.format) ∙ one) l s two));
  alike = λ none l s two some there.
      subst (λ (n : Option Node). HoldSame n (v s)) (sym (alike.long l s two)) (subst (HoldSame (u l)) (sym (alike.short l s two))
      (can.alike (sym alike.format ∙ none) l s two (subst IsSome (alike.long l s two) some) (subst IsSome (alike.short l s two) there)));
}

-- entries of the directory stay behind the names

entry_opened : (u v : World) → IsOpening u v → (entry : Path) → v (entry_path entry) ≡ u (entry_path entry)
entry_opened u v is entry = elim (is.rest (entry_path entry) refl) [ inl same ↦ same | inr new ↦ absurd (false≢true new.way) ]

entry_read : (u v : World) → IsReading u v → (entry : Path) → v (entry_path entry) ≡ u (entry_path entry)
entry_read u v (IsReading.opening is) entry = entry_opened u v is entry
entry_read u v (IsReading.merging read table is has merging) entry = merging.rest (entry_path entry) refl ∙ entry_opened u read is entry

entries_alike : (arches : Architectures) (u v : World) → ((entry : Path) → v (entry_path entry) ≡ u (entry_path entry)) → AreAlike arches u v
entries_alike arches u v same = record {
  format = same (codes "format");
  long = λ l s two. ap v two.long_is ∙ same (long_front two.name two.architecture ++ 46 ∷ two.ending) ∙ sym (ap u two.long_is);
  short = λ l s two. ap v two.short_is ∙ same (two.name ++ 46 ∷ two.ending) ∙ sym (ap u two.short_is);
}

-- one behind another

kept_alike : (table : List Record) (old u v : World) → KeepsControlFiles table old u → AreAlike (architectures table) u v → KeepsControlFiles table old v
kept_alike table old u v keeps alike = record {
  readings = λ l s two some. ∥∥₁_elim (keeps.readings l s two some) ∥∥₁_prop (λ same. ∣ reads_alike (architectures table) u v l s alike two ∙ same ∣₁);
  ready = λ can. ∥∥₁_elim (keeps.ready can) ∥∥₁_prop (λ now. ∣ convertible_alike (architectures table) u v alike now ∣₁);
}

named_keeps : (table : List Record) (old begun : World) → HasRecords old table → IsNaming old begun → KeepsControlFiles table old begun
named_keeps table old begun has (inl same) = record {
  readings = λ l s two some. ∣ ap (λ (w : World). reads w l s) same ∣₁;
  ready = λ can. ∣ subst (IsConvertible (architectures table)) (sym same) can ∣₁;
}
named_keeps table old begun has (inr (held, there, is)) =
    record {
      readings = λ l s two some. ∥∥₁_elim has ∥∥₁_prop (λ first. ∥∥₁_elim there ∥∥₁_prop (λ second.
          ∣ (subst (λ (t : List Record). IsConverting (architectures t) old begun) (one_holding old held table second first) is).same l s two some ∣₁));
      ready = λ can. ∥∥₁_elim has ∥∥₁_prop (λ first. ∥∥₁_elim there ∥∥₁_prop (λ second.
          ∣ (subst (λ (t : List Record). IsConverting (architectures t) old begun) (one_holding old held table second first) is).ready can ∣₁));
    }

opened_keeps : (table : List Record) (old now : World) → HasRecords old table → IsOpeningOrMerging old now → KeepsControlFiles table old now
opened_keeps table old now has is = kept_alike table old is.begun now (named_keeps table old is.begun has is.names) (entries_alike (architectures table) is.begun now (entry_read is.begun now is.reading))

pub adopted_keeps : (table : List Record) (old now : World) → HasRecords old table → IsOpeningOrAdopting old now → KeepsControlFiles table old now
adopted_keeps table old now has (IsOpeningOrAdopting.opening is) = opened_keeps table old now has is
adopted_keeps table old now has (IsOpeningOrAdopting.adopting read ways held lists is opened adopting) =
    kept_alike table old read now (opened_keeps table old read has is) (entries_alike (architectures table) read now (λ entry. adopting.rest (entry_path entry) refl))

-- a loss of power

abbrev every : Path → Bool
every q = true

like_alike : (arches : Architectures) (w left : World) → IsLike every w left → AreAlike arches w left
like_alike arches w left like = record {
  format = like.whole format_path refl refl;
  long = λ l s two. like.whole l refl (two_proper arches l s two);
  short = λ l s two. like.whole s refl (short_proper arches l s two);
}

pub lost_keeps : (table : List Record) (begun s t : State) (session : List Event) (left : World) → IsTrue t.honest → IsSettled t.events → t.events ≡ begun.events ++ session → changes_of session ≡ [] → Needs s (λ w. HasRecords w table) → AtEachMoment IsOpeningOrAdopting s t
    → LosesSince begun s t left → KeepsControlFiles table s.world left
lost_keeps table begun s t session left h settled events silent has since loses =
    let amid = since_weaker_if _ (λ so_far. KeepsControlFiles table s.world) s t (λ honest so_far now is. adopted_keeps table s.world now (has (since.honest honest)) is) since in
    let one = since_loss_one every (λ so_far. KeepsControlFiles table s.world) begun s t left h settled (avoid_added every session begun t events (subst (Avoids every) (sym silent) tt)) amid loses in
    kept_alike table s.world one.1 left one.2 (like_alike (architectures table) one.1 left one.4)

-- on a disk that keeps an order in each directory by itself: all these names are in one

flip_at : (b s : ℕ) (x y : Bool) → nat_eq s b ≡ x → nat_eq b s ≡ y → x ≡ y
flip_at b s true true e f = refl
flip_at b s false false e f = refl
flip_at b s true false e f = absurd (true≢false (sym (eq-eqb b s (sym (eqb-true s b e))) ∙ f))
flip_at b s false true e f = absurd (false≢true (sym e ∙ eq-eqb s b (sym (eqb-true b s f))))

any_flip : (s : ℕ) (l : Path) → list_any (nat_eq s) l ≡ list_any (λ b. nat_eq b s) l
any_flip s [] = refl
any_flip s (b ∷ bs) = ap (λ t. t || list_any (nat_eq s) bs) (flip_at b s (nat_eq s b) (nat_eq b s) refl refl) ∙ ap (λ t. nat_eq b s || t) (any_flip s bs)

in_info : (entry : Path) → list_any (λ b. nat_eq b 47) entry ≡ false → is_in info_path (entry_path entry) ≡ true
in_info entry plain = in_parent info_path (entry_path entry) (parent_beside (codes "/var/lib/dpkg/info/") entry (any_flip 47 entry ∙ plain))

directory_alike : (arches : Architectures) (ordered left : World) → SameOn (is_in info_path) ordered left → AreAlike arches ordered left
directory_alike arches ordered left same = record {
  format = same format_path refl;
  long = λ l s two. same l (ap (is_in info_path) two.long_is ∙ in_info (long_front two.name two.architecture ++ 46 ∷ two.ending) (long_plain arches l s two));
  short = λ l s two. same s (ap (is_in info_path) two.short_is ∙ in_info (two.name ++ 46 ∷ two.ending) (short_plain arches l s two));
}

abbrev LeavesInOrder : Type 0
LeavesInOrder = (begun old new : State) (left : World) (directory : Path) → LosesScattered begun old new left → IsLeftInOrder begun old new directory left

pub scattered_keeps : LeavesInOrder → (table : List Record) (begun s t : State) (session : List Event) (left : World) → IsTrue t.honest → IsSettled t.events → t.events ≡ begun.events ++ session → changes_of session ≡ [] → Needs s (λ w. HasRecords w table) → AtEachMoment IsOpeningOrAdopting s t
    → LosesScattered begun s t left → KeepsControlFiles table s.world left
scattered_keeps in_order table begun s t session left h settled events silent has since loses =
    let one = in_order begun s t left info_path loses in
    kept_alike table s.world one.ordered left (lost_keeps table begun s t session one.ordered h settled events silent has since one.loses) (directory_alike (architectures table) one.ordered left one.same)
