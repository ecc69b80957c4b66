use Rattle.std.proofs.Common.{◌≡◌, ℕ, List, take}
use Rattle.std.specs.Prelude.{Contains}
use Rattle.host_core.specs.Host.{Needs, Since, NoFault}
use Rattle.held_administration.specs.Open.{IsOpen}
use Rattle.status_records.specs.Records.{record_in}
use Rattle.held_administration.specs.Order.{IsInOrder}
use Rattle.unit_stages.specs.Holding.{holding_of}
use Rattle.conflict_removal.specs.Removals.{HaveBeenRemoved, IsAmidRemovals}
use Rattle.conflict_removal.proofs.removing.remove_in_favour.Given as goal

abbrev pub invariant-loop-name : goal.invariant-loop-name
invariant-loop-name g l =
    let old = g.H.Host.state l.fn.host in
    let now = g.H.Host.state l.host in
    let before = holding_of l.fn.administration in
    let mid = holding_of l.administration in
    let ways = l.diversions.ways in
    record {
      removed : HaveBeenRemoved ways (take l.name-index l.names) l.failed before mid old now l.fn.told.items l.told.items;
      others : (q : List ℕ) → (Contains (take l.name-index l.names) q → ⊥) → record_in l.administration.database.records q ≡ record_in l.fn.administration.database.records q;
      order : Needs now (IsInOrder l.administration.database l.administration.lists.lists);
      is_open : IsOpen ways l.administration;
      moments : Since (IsAmidRemovals ways l.names before old) old now;
      counts : NoFault old now;
    }
