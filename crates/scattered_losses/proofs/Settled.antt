-- At a moment that may lie inside a step: which files are unsynced, and what scripts wrote.
use Rattle.std.specs.Prelude.{◌≡◌, Bool, true, false, List, [], ◌∷◌, ◌++◌, ◌||◌}
use Rattle.std.proofs.Common.{refl, sym, ◌∙◌, ap, subst, inl, inr, append_assoc}
use Rattle.std.proofs.lemmas.Bool.{true≢false}
use Rattle.std.proofs.lemmas.Slice.Eq.{bytes_eq-Decides}
use Rattle.std.specs.Str.{bytes_eq}
use Rattle.host_core.specs.Paths.{Path}
use Rattle.host_core.specs.World.{Avoids, Change, Step, Write, MakeDir, IsPart}
use Rattle.host_core.specs.Events.{Event, Did, Finished, Cut, Failed, Denied, IsCutOf, changes_of}
use Rattle.host_core.specs.Unsynced.{unsynced, unsynced_after, unsynced_step, is_temporary, IsSettled}
use Rattle.host_core.specs.Host.{State}
use Rattle.host_core.specs.Loss.{writes, IsMoment, ScriptsAvoid}
use Rattle.host_core.specs.declared.node.Node.TheVariants.{File}
use Rattle.host_core.proofs.Losses.{avoids_moment, unsynced_more}
use Rattle.host_core.proofs.Scripts.{Avoids-append, Avoids-front, changes_of-append}
use Rattle.scattered_losses.proofs.Answered.{cancel}

-- of a file that is written in part the same is said
part_unsynced : (s t : Step) (u : Path → Bool) → IsPart s t → unsynced_step t u ≡ unsynced_step s u
part_unsynced (Write p (File b m)) t u part = ap (λ x. unsynced_step x u) part.3.1
part_unsynced (MakeDir p m) t u part = ap (λ x. unsynced_step x u) part.1
part_unsynced s t u part = absurd part

cut_unsynced : (e d : Event) (u : Path → Bool) → IsCutOf e d → unsynced_after d u ≡ unsynced_after e u
cut_unsynced (Did s) d u cut = ap (λ x. unsynced_after x u) cut.2 ∙ part_unsynced s cut.0 u cut.1
cut_unsynced (Finished ran) d u cut = ap (λ x. unsynced_after x u) cut.3
cut_unsynced (Cut call change) d u cut = ap (λ x. unsynced_after x u) cut.3
cut_unsynced Failed d u cut = absurd cut
cut_unsynced (Denied path) d u cut = absurd cut

-- what is settled at the end was at each moment
pub settled_moment : (old added moment : List Event) → IsSettled (old ++ added) → IsMoment added moment → (q : Path) → unsynced (old ++ moment) q ≡ true → is_temporary q ≡ true
settled_moment old added moment settled (inl later) q u = settled (old ++ moment) later.0 (ap (λ l. old ++ l) later.1 ∙ sym (append_assoc old moment later.0)) q u
settled_moment old added moment settled (inr (done, later, event, part, split, cut, here)) q u =
    let same : unsynced (old ++ moment) ≡ unsynced (old ++ (done ++ event ∷ [])) =
    ap (λ l. unsynced (old ++ l)) here ∙ ap unsynced (sym (append_assoc old done (part ∷ []))) ∙ unsynced_more (old ++ done) part
    ∙ cut_unsynced event part (unsynced (old ++ done)) cut ∙ sym (unsynced_more (old ++ done) event) ∙ ap unsynced (append_assoc old done (event ∷ [])) in
    settled (old ++ (done ++ event ∷ [])) later
    (ap (λ l. old ++ l) (split ∙ sym (append_assoc done (event ∷ []) later)) ∙ sym (append_assoc old (done ++ event ∷ []) later)) q (subst (λ f. f q ≡ true) same u)

avoided : (kept : Path → Bool) (c : Change) (q : Path) → Avoids kept c → kept q ≡ true → writes c q ≡ false
avoided kept [] q all is = refl
avoided kept (e ∷ c) q all is = ap (λ b. b || writes c q) (other (bytes_eq e.0 q) refl) ∙ avoided kept c q all.1 is
  where
    other : (t : Bool) → bytes_eq e.0 q ≡ t → bytes_eq e.0 q ≡ false
    other true same = absurd (true≢false (sym is ∙ ap kept (sym ((bytes_eq-Decides e.0 q).0 same)) ∙ all.0))
    other false same = same

later_avoids : (kept : Path → Bool) (a b : Change) → Avoids kept (a ++ b) → Avoids kept b
later_avoids kept [] b all = all
later_avoids kept (e ∷ a) b all = later_avoids kept a b all.1

-- what the scripts of a session avoid they avoided until any moment of it
pub session_avoids : (kept : Path → Bool) (begun old new : State) (earlier added : List Event) → old.events ≡ begun.events ++ earlier → new.events ≡ old.events ++ added → ScriptsAvoid kept begun new
    → Avoids kept (changes_of earlier) × Avoids kept (changes_of added)
session_avoids kept begun old new earlier added session events scripts = (Avoids-front kept (changes_of earlier) (changes_of added) both, later_avoids kept (changes_of earlier) (changes_of added) both)
  where
    whole : new.events ≡ begun.events ++ (earlier ++ added)
    whole = events ∙ ap (λ l. l ++ added) session ∙ append_assoc begun.events earlier added

    wrote : changes_of (earlier ++ added) ≡ scripts.wrote
    wrote = cancel (changes_of begun.events) (changes_of (earlier ++ added)) scripts.wrote (sym (changes_of-append begun.events (earlier ++ added)) ∙ ap changes_of (sym whole) ∙ scripts.changes)

    both : Avoids kept (changes_of earlier ++ changes_of added)
    both = subst (Avoids kept) (sym wrote ∙ changes_of-append earlier added) scripts.avoids

pub unwritten_until : (kept : Path → Bool) (begun old new : State) (earlier added moment : List Event) → old.events ≡ begun.events ++ earlier → new.events ≡ old.events ++ added → IsMoment added moment
    → ScriptsAvoid kept begun new → (q : Path) → kept q ≡ true → writes (changes_of (earlier ++ moment)) q ≡ false
unwritten_until kept begun old new earlier added moment session events is scripts q here =
    let avoids = session_avoids kept begun old new earlier added session events scripts in
    avoided kept (changes_of (earlier ++ moment)) q
    (subst (Avoids kept) (sym (changes_of-append earlier moment)) (Avoids-append kept (changes_of earlier) (changes_of moment) avoids.0 (avoids_moment kept added moment is avoids.1))) here
