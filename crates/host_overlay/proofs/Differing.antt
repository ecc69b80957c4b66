-- Which paths an overlay tells as changed.
use Rattle.std.proofs.Common.{◌≡◌, ◌∙◌, List, false, Option, Some, None, Result, Ok, Err, refl, sym, ap, inl, inr}
use Rattle.std.specs.Prelude.{IfOk, is_some}
use Rattle.std.proofs.lemmas.Bool.{true≢false}
use Rattle.host_core.specs.Paths.{Path}
use Rattle.host_core.specs.World.{World}
use Rattle.host_core.specs.declared.host.Host.{Ghosts}
use Rattle.host_overlay.specs.Layers.{changed_in}
use Rattle.host_overlay.specs.Overlays.{begun_state, TellsChanges}
use Rattle.host_overlay.specs.Standings.{shown, AreTold}
use Rattle.host_overlay.specs.declared.changed_path.ChangedPath.{ChangedPath}
use Rattle.host_overlay.specs.declared.overlay.Overlay.{Overlay}
use Rattle.host_overlay.specs.declared.standing.Standing.{Standing}
use Rattle.host_overlay.proofs.Listings.{stands_shown, is_changed_or_not}

as_below : (o : Option Standing) (w : World) (q : Path) → is_some o ≡ false → shown o w q ≡ w q
as_below None w q none = refl
as_below (Some s) w q none = absurd (true≢false none)

module _ {H : Type 0} {host : Ghosts H} (o : Overlay H host) where
  pub tells_changes : (told : List ChangedPath) → AreTold (changed_in o.layer) told → TellsChanges o told
  tells_changes told all = record {
    once = all.once;
    stands = λ h x c. (let t = all.there x c in
        t.1 ∙ stands_shown (changed_in o.layer x.path) (begun_state o).world x.path t.0 (o.there h x.path) ∙ ap (λ (w : World). is_some (w x.path)) (o.layer.makes (begun_state o).world));
    whole = λ q none. sym (ap (λ (w : World). w q) (o.layer.makes (begun_state o).world)) ∙ elim (is_changed_or_not (changed_in o.layer q)) [
      | inl unchanged ↦ as_below (changed_in o.layer q) (begun_state o).world q unchanged
      | inr some ↦ (let x = all.whole q some in absurd (none x.0 x.1 x.2))
    ];
  }

pub if_ok_so : {A B : Type 0} (r : Result A B) (P Q : A → Type 0) → ((x : A) → P x → Q x) → IfOk r P → IfOk r Q
if_ok_so (Ok x) P Q so p = so x p
if_ok_so (Err e) P Q so p = tt
