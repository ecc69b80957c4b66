-- Stages that are added, one after another.
use Rattle.std.proofs.Common.{◌≡◌, ◌⊎◌, inl, inr, Bool, true, false, cond, List, [], ◌∷◌, ◌++◌, map, sym, ap, ◌∙◌, append_assoc}
use Rattle.std.proofs.lemmas.List.{map-append}
use Rattle.host_core.specs.Paths.{Path}
use Rattle.diversions.specs.Ways.{Ways}
use Rattle.file_lists.specs.declared.paths.PackageList.{PackageList}
use Rattle.status_records.specs.declared.record.Record.{Record}
use Rattle.status_records.specs.declared.words.State.{State}
use Rattle.status_records.specs.declared.words.State.TheVariants as state
use Rattle.unit_stages.specs.declared.stage.Stage.{Stage}
use Rattle.removal_engine.specs.Stages.{Planned, files_stages, planned, prerm_stage, stages_from}
use Rattle.removal_engine.specs.declared.scripts.Stored.{Stored}

pub pushed : (base mid : List Stage) (s : Stage) (p : Planned) → mid ≡ base ++ s ∷ [] → planned s ≡ p → map planned mid ≡ map planned base ++ p ∷ []
pushed base mid s p more is = ap (map planned) more ∙ map-append planned base (s ∷ []) ∙ ap (λ (x : Planned). map planned base ++ x ∷ []) is

-- more behind one that was added
pub behind : (base mid : List Stage) (s : Stage) (p : Planned) (new further : List Planned) → mid ≡ base ++ s ∷ [] → planned s ≡ p → new ≡ map planned mid ++ further → new ≡ map planned base ++ p ∷ further
behind base mid s p new further more is rest = rest ∙ ap (λ (l : List Planned). l ++ further) (pushed base mid s p more is) ∙ append_assoc (map planned base) (p ∷ []) further

-- of those behind the files, where a purge goes on
pub goes_on : (base new mid : List Planned) (at_once purge : Bool) (gone left : Planned) (further : List Planned) → at_once ≡ false → purge ≡ true → mid ≡ base ++ left ∷ [] → new ≡ mid ++ further
    → new ≡ base ++ cond at_once (gone ∷ []) (left ∷ cond purge further [])
goes_on base new mid at_once purge gone left further stays purges first rest =
    rest ∙ ap (λ (l : List Planned). l ++ further) first ∙ append_assoc base (left ∷ []) further
    ∙ ap (λ b. base ++ left ∷ cond b further []) (sym purges)
    ∙ sym (ap (λ b. base ++ cond b (gone ∷ []) (left ∷ cond purge further [])) stays)

module _ (ways : Ways) (lists : List PackageList) (r : Record) (stored : Stored) (purge : Bool) (to_come : List Path) where
  -- where a prerm is called it comes first
  prerm_first : (s : State) → (s ≡ state.HalfConfigured) ⊎ (s ≡ state.Installed) → stages_from ways lists s r stored purge to_come ≡ prerm_stage r stored ∷ files_stages ways lists r stored purge to_come
  prerm_first s (inl is) = ap (λ (t : State). stages_from ways lists t r stored purge to_come) is
  prerm_first s (inr is) = ap (λ (t : State). stages_from ways lists t r stored purge to_come) is

  pub prerm_pushed : (s : State) → (s ≡ state.HalfConfigured) ⊎ (s ≡ state.Installed) → (base mid : List Stage) (x : Stage) (new : List Planned) → mid ≡ base ++ x ∷ [] → planned x ≡ prerm_stage r stored
      → new ≡ map planned mid ++ files_stages ways lists r stored purge to_come → new ≡ map planned base ++ stages_from ways lists s r stored purge to_come
  prerm_pushed s is base mid x new more first rest =
      behind base mid x (prerm_stage r stored) new (files_stages ways lists r stored purge to_come) more first rest ∙ ap (λ (l : List Planned). map planned base ++ l) (sym (prerm_first s is))
