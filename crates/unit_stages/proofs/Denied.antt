-- Parts that are done leave directories whose removal was declined: more of them as more is done.
use Rattle.std.proofs.Common.{◌≡◌, ℕ, List, [], ◌∷◌, ◌++◌, sym, subst, ◌∙◌}
use Rattle.std.proofs.lemmas.List.{append_cancel_left}
use Rattle.host_core.specs.Paths.{Path}
use Rattle.host_core.specs.World.{World}
use Rattle.host_core.specs.Events.{Event, IsDeniedIn}
use Rattle.host_core.specs.Host.{State, WasDenied}
use Rattle.status_records.specs.declared.record.Record.{Record}
use Rattle.unit_stages.specs.Doing.{AreDoing}
use Rattle.unit_stages.specs.Parts.{HasDone, HaveDone, part_records}
use Rattle.unit_stages.specs.declared.part.Part.{Part}
use Rattle.unit_stages.specs.declared.part.Part.TheVariants.{Note, Forget, Settle, Remove, RemoveDirectories, Clear, List as Listing, DropList, DropMembers}

-- what was declined between two states is among the events between them
pub denied_in : (a b : State) (added : List Event) (p : Path) → b.events ≡ a.events ++ added → WasDenied a b p → IsDeniedIn added p
denied_in a b added p events is = subst (λ es. IsDeniedIn es p) (append_cancel_left a.events is.0 added (sym is.1 ∙ events)) is.2

module _ (name : List ℕ) (declined more : Path → Type 0) (so : (p : Path) → declined p → more p) where
  pub part_wider : (part : Part) (rs : List Record) (old new : World) → HasDone name declined part rs old new → HasDone name more part rs old new
  part_wider (Note r) rs old new done = done
  part_wider Forget rs old new done = done
  part_wider (Settle settled) rs old new done = done
  part_wider (Remove leaving) rs old new done = (done.0, λ later p is. so p (done.1 later p is), done.2)
  part_wider (RemoveDirectories leaving) rs old new done = (done.0, λ later p is. so p (done.1 later p is), done.2)
  part_wider (Clear names) rs old new done = done
  part_wider (Listing paths) rs old new done = done
  part_wider DropList rs old new done = done
  part_wider (DropMembers keep) rs old new done = done

  pub parts_wider : (parts : List Part) (rs : List Record) (old new : World) → HaveDone name declined parts rs old new → HaveDone name more parts rs old new
  parts_wider [] rs old new done = done
  parts_wider (part ∷ parts) rs old new done = (done.0, part_wider part rs old done.0 done.1, parts_wider parts (part_records name part rs) done.0 new done.2)

  pub doing_wider : (parts : List Part) (rs : List Record) (old now : World) → AreDoing name declined parts rs old now → AreDoing name more parts rs old now
  doing_wider parts rs old now doing = record {
    front = doing.front;
    back = doing.back;
    are = doing.are;
    mid = doing.mid;
    done = parts_wider doing.front rs old doing.mid doing.done;
    next = doing.next;
  }
