-- An overlay that is only looked at, and lists that grow by one look.
use Rattle.std.proofs.Common.{◌≡◌, ◌∙◌, ◌++◌, ◌∷◌, ℕ, zero, suc, List, [], ap, append-nil, arith, map, refl, sym}
use Rattle.std.specs.Prelude.{Contains, IfOk, IsTrue, Option, Result, Ok, Err}
use Rattle.std.specs.List.{AllByRecursion}
use Rattle.host_core.specs.Host.{Reads, Silent, State}
use Rattle.host_core.specs.Paths.{Path}
use Rattle.host_core.specs.declared.fault.HostFault.{HostFault}
use Rattle.host_core.specs.declared.host.Host.{Ghosts}
use Rattle.host_core.specs.declared.node.Node.{Node}
use Rattle.host_core.proofs.Moments.{reads_then, silent_then}
use Rattle.host_overlay.specs.Overlays.{LooksOver, LooksThrough, begun_state, below_state, overlay_state}
use Rattle.host_overlay.specs.declared.changed_path.ChangedPath.{ChangedPath}
use Rattle.host_overlay.specs.declared.overlay.Overlay.{Overlay}
use Rattle.foretold_changes.specs.Changes.{change_of}
use Rattle.foretold_changes.specs.declared.change.Change.{Change}

pub reads_none : (s : State) → Reads s s
reads_none s = record { honest = λ h. h; world = refl; added = []; failed = tt; events = sym (append-nil s.events) }

pub silent_none : (s : State) → Silent s s
silent_none s = record { honest = λ h. h; scripts = refl }

pub all_more : {X : Type 0} (P : X → Type 0) (xs : List X) (x : X) → AllByRecursion P xs → P x → AllByRecursion P (xs ++ x ∷ [])
all_more P [] x none it = (it, tt)
all_more P (y ∷ xs) x all it = (all.0, all_more P xs x all.1 it)

module _ {H : Type 0} {host : Ghosts H} where
  pub through_none : (o : Overlay H host) → LooksThrough o o
  through_none o = record { reads = reads_none (below_state o); silent = silent_none (below_state o); begun = refl; assumed = refl }

  pub through_then : (o p q : Overlay H host) → LooksThrough o p → LooksThrough p q → LooksThrough o q
  through_then o p q first second = record {
    reads = reads_then (below_state o) (below_state p) (below_state q) first.reads second.reads;
    silent = silent_then (below_state o) (below_state p) (below_state q) first.silent second.silent;
    begun = second.begun ∙ first.begun;
    assumed = second.assumed ∙ first.assumed;
  }

  -- how what stands at a path differs from what stood there
  pub found_behind : (path : Path) (before now : Option Node) (result : Result (Option Change) HostFault) (o p q r : Overlay H host)
      → LooksOver {T = Option Node} (Ok before) (λ node w. node ≡ (begun_state o).world path) o p → LooksOver {T = Option Node} (Ok now) (λ node w. node ≡ w path) p q
      → LooksOver result (λ change w. change ≡ change_of before now) q r
      → IfOk result (λ found. IsTrue (overlay_state r).honest → found ≡ change_of ((begun_state o).world path) ((overlay_state o).world path))
  found_behind path before now (Ok found) o p q r first second third = λ h.
      let hq = third.looks.reads.honest h in
      let hp = second.looks.reads.honest hq in
      third.looks.found h ∙ ap (λ n. change_of n now) (first.looks.found hp) ∙ ap (change_of ((begun_state o).world path)) (second.looks.found hq ∙ ap (λ w. w path) first.looks.reads.world)
  found_behind path before now (Err fault) o p q r first second third = tt

abbrev pub paths_of : List ChangedPath → List Path
paths_of changed = map (λ (x : ChangedPath). x.path) changed

pub contains_path : (changed : List ChangedPath) (x : ChangedPath) → Contains changed x → Contains (paths_of changed) x.path
contains_path [] x c = absurd (omega (arith, c.1))
contains_path (y ∷ changed) x (zero, lt, is) = (zero, omega arith, ap (λ (z : ChangedPath). z.path) is)
contains_path (y ∷ changed) x (suc i, lt, is) = (let rest = contains_path changed x (i, omega (arith, lt), is) in (suc rest.0, omega (arith, rest.1), rest.2))
