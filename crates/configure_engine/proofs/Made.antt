-- The parts before the call, as they are put together.
use Rattle.std.proofs.Common.{◌≡◌, ◌==◌, ℕ, Bool, false, List, [], ◌∷◌, ◌++◌, length, refl, sym, ap, ◌∙◌, eq-eqb}
use Rattle.std.proofs.lemmas.Bool.{true≢false}
use Rattle.host_core.specs.Paths.{Path}
use Rattle.conffiles.specs.declared.entries.Settled.{Settled}
use Rattle.status_records.specs.declared.record.Record.{Record}
use Rattle.unit_stages.specs.declared.part.Part.{Part}
use Rattle.unit_stages.specs.declared.part.Part.TheVariants.{Note}
use Rattle.configure_engine.specs.Settled.{settled}
use Rattle.configure_engine.specs.Stages.{AreFirstParts, SettlesThese, half, list_parts}
use Rattle.configure_engine.specs.Waiting.{going_paths}

pub not_empty : (len : ℕ) (list : List Settled) (b : Bool) → b ≡ (len == 0) → b ≡ false → len ≡ length list → list ≡ [] → ⊥
not_empty len list b is none long e = true≢false (sym (eq-eqb len 0 (long ∙ ap length e)) ∙ sym is ∙ none)

pub all_made : (r : Record) (listed : List Path) (part : Part) (first second now : Record) (going : List Path) (a b c d e : List Part) → a ≡ [] → b ≡ a ++ Note first ∷ [] → c ≡ b ++ part ∷ [] → d ≡ c ++ list_parts going listed → e ≡ d ++ Note second ∷ []
    → first ≡ half r → going ≡ going_paths r → now ≡ settled r → second ≡ half now → e ≡ Note (half r) ∷ part ∷ (list_parts (going_paths r) listed ++ Note (half (settled r)) ∷ [])
all_made r listed part first second now going a b c d e none noted settles lists notes is_first is_going is_now is_second =
    notes ∙ ap (λ (l : List Part). l ++ Note second ∷ []) (lists ∙ ap (λ (l : List Part). l ++ list_parts going listed) (settles ∙ ap (λ (l : List Part). l ++ part ∷ []) (noted ∙ ap (λ (l : List Part). l ++ Note first ∷ []) none)))
    ∙ ap (λ (x : Record). Note x ∷ part ∷ (list_parts going listed ++ Note second ∷ [])) is_first
    ∙ ap (λ (ps : List Path). Note (half r) ∷ part ∷ (list_parts ps listed ++ Note second ∷ [])) is_going
    ∙ ap (λ (x : Record). Note (half r) ∷ part ∷ (list_parts (going_paths r) listed ++ Note x ∷ [])) (is_second ∙ ap half is_now)

pub first_are : (r : Record) (listed : List Path) (list : List Settled) (part : Part) (parts : List Part) → (list ≡ [] → ⊥) → SettlesThese list part → parts ≡ Note (half r) ∷ part ∷ (list_parts (going_paths r) listed ++ Note (half (settled r)) ∷ [])
    → AreFirstParts r listed list parts
first_are r listed [] part parts some is are = absurd (some refl)
first_are r listed (s ∷ list) part parts some is are = (part, is, are)
