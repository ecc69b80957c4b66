-- A listed path is looked at, and what stands there is taken.
use Rattle.std.proofs.Common.{◌≡◌, ◌⊎◌, ◌+◌, ◌<◌, inl, inr, Bool, cond, List, [], ◌∷◌, Option, None, refl, sym, ap, subst, ◌∙◌, IsTrue, Result, Ok, Err, arith}
use Rattle.std.specs.Prelude.{OnOk}
use Rattle.host_core.specs.Paths.{Path}
use Rattle.host_core.specs.World.{World, put, IsDirectory, IsLoose}
use Rattle.host_core.specs.Host.{State, Since, AllFailed, Reads, Counts, HasDeclined, denials}
use Rattle.host_core.specs.Events.{Event, Did, Finished, Cut, Failed, Denied, denials_of}
use Rattle.host_core.specs.declared.fault.HostFault.{HostFault}
use Rattle.host_core.specs.declared.fault.HostFault.TheVariants.{Declined}
use Rattle.host_core.proofs.Counted.{denials_of-append}
use Rattle.host_core.proofs.WorldLaws.{put_same, put_other}
use Rattle.host_core.proofs.Moments.{since_weaker_if}
use Rattle.host_core.specs.declared.node.Node.{Node}
use Rattle.administration.specs.Directories.{IsStanding}
use Rattle.administration.specs.declared.directories.Standing.{Standing}
use Rattle.file_removal.specs.declared.leaving.Leaving.{Leaving}
use Rattle.file_removal.specs.Clearing.{cleared, Cleared, IsRetiring}
use Rattle.file_removal.specs.Visits.{IsTakable, IsVisited, IsVisiting}
use Rattle.file_removal.proofs.Clears.{among_it, among_other, among_is, cleared_loose}

-- what was found there, of one kind
pub standing_is : (s t : Standing) (n : Option Node) → s ≡ t → IsStanding s n → IsStanding t n
standing_is s t n is found = subst (λ r. IsStanding r n) is found

module _ (d : Bool) (x : Leaving) where
  pub visiting_start : (w : World) → IsVisiting d x w w
  visiting_start w = record { target = inl refl; rest = λ q ne. refl }

  -- a file or link is taken
  retired_visiting : (old now : World) → IsTakable d old x → IsLoose (old x.place) → IsRetiring (x.place ∷ []) old now → IsVisiting d x old now
  retired_visiting old now can loose amid = record {
    target = elim (amid.each x.place) [
      | inl same ↦ inl same
      | inr going ↦ inr (can, elim going.1 [ inl low ↦ inr low | inr gone ↦ inl (gone ∙ cleared_loose (old x.place) loose) ])
    ];
    rest = λ q ne. elim (amid.each q) [ inl same ↦ same | inr going ↦ absurd (ne (among_is x.place q going.0)) ];
  }

  pub retiring_moments : (old : World) (a b : State) → a.world ≡ old → (IsTrue b.honest → IsTakable d old x × IsLoose (old x.place)) → Since (λ so_far. IsRetiring (x.place ∷ []) a.world) a b → Since (λ so_far. IsVisiting d x old) a b
  retiring_moments old a b same can since = since_weaker_if _ _ a b (λ h so_far now amid. retired_visiting old now (can h).0 (can h).1 (subst (λ w. IsRetiring (x.place ∷ []) w now) same amid)) since

  pub retired_visited : (declined : Path → Type 0) (old new : World) → IsTakable d old x → IsLoose (old x.place) → Cleared (x.place ∷ []) old new → IsVisited declined d x old new
  retired_visited declined old new can loose is = record {
    target = inl (can, is.each x.place ∙ ap (λ t. cond t (cleared (old x.place)) (old x.place)) (among_it x.place x.place refl) ∙ cleared_loose (old x.place) loose);
    rest = λ q ne. is.each q ∙ ap (λ t. cond t (cleared (old q)) (old q)) (among_other x.place q ne);
  }

  -- a directory is taken, or that is declined
  taken_visiting : (old now : World) → IsTakable d old x → (now ≡ old) ⊎ (now ≡ put old x.place None) → IsVisiting d x old now
  taken_visiting old now can (inl same) = subst (IsVisiting d x old) (sym same) (visiting_start old)
  taken_visiting old now can (inr gone) = record {
    target = inr (can, inl (ap (λ w. w x.place) gone ∙ put_same old x.place x.place None refl));
    rest = λ q ne. ap (λ w. w q) gone ∙ put_other old x.place q None ne;
  }

  pub taking_moments : (old : World) (a b : State) → a.world ≡ old → (IsTrue b.honest → IsTakable d old x) → Since (λ so_far now. (now ≡ a.world) ⊎ (now ≡ put a.world x.place None)) a b → Since (λ so_far. IsVisiting d x old) a b
  taking_moments old a b same can since = since_weaker_if _ _ a b (λ h so_far now is. taken_visiting old now (can h) (subst (λ w. (now ≡ w) ⊎ (now ≡ put w x.place None)) same is)) since

  pub taken_visited : (declined : Path → Type 0) (old new : World) → IsTakable d old x → IsDirectory (old x.place) → (new ≡ put old x.place None) ⊎ ((new ≡ old) × declined x.place) → IsVisited declined d x old new
  taken_visited declined old new can is (inl gone) = record {
    target = inl (can, ap (λ w. w x.place) gone ∙ put_same old x.place x.place None refl);
    rest = λ q ne. ap (λ w. w q) gone ∙ put_other old x.place q None ne;
  }
  taken_visited declined old new can is (inr stays) = record {
    target = inr (ap (λ w. w x.place) stays.0, inr (is, stays.1));
    rest = λ q ne. ap (λ w. w q) stays.0;
  }

  -- nothing was to be taken
  pub left_visited : (declined : Path → Type 0) (old new : World) → (IsTakable d old x → ⊥) → new ≡ old → IsVisited declined d x old new
  left_visited declined old new left same = record {
    target = inr (ap (λ w. w x.place) same, inl left);
    rest = λ q ne. ap (λ w. w q) same;
  }

pub on_ok : {T E : Type 0} (result : Result T E) (P Q : Type 0) → (P → Q) → OnOk result P → OnOk result Q
on_ok (Ok x) P Q so is = so is
on_ok (Err e) P Q so is = tt

-- what only looks is never declined
none_denied : (es : List Event) → AllFailed es → denials_of es ≡ 0
none_denied [] all = refl
none_denied (Did s ∷ es) all = absurd all
none_denied (Finished ran ∷ es) all = absurd all
none_denied (Cut call change ∷ es) all = absurd all
none_denied (Failed ∷ es) all = none_denied es all
none_denied (Denied path ∷ es) all = absurd all

pub reads_undeclined : {T : Type 0} (result : Result T HostFault) (a b : State) → Reads a b → Counts a b result → result ≡ Err Declined → ⊥
reads_undeclined result a b reads counts is =
    let declined : HasDeclined a b = subst (Counts a b) is counts in
    let same : denials b ≡ denials a + denials_of reads.added = ap denials_of reads.events ∙ denials_of-append a.events reads.added in
    let none = none_denied reads.added reads.failed in
    let more : denials a < denials b = declined.denials in
    absurd (omega (arith, same, none, more))
