-- What a unit does beside its rows and its commit leaves the places of records alone.
use Rattle.std.proofs.Common.{◌≡◌, Bool, true, false, List, Option, Some, None, ℕ, sym, ap, ◌∙◌}
use Rattle.std.proofs.lemmas.Bool.{true≢false}
use Rattle.host_core.specs.World.{World, SameOn}
use Rattle.host_core.specs.Host.{AtEachMoment, State}
use Rattle.control_members.specs.LaidOut.{IsLaying}
use Rattle.scattered_losses.proofs.GoingApart.{HasGone, beside_goes, gone_by}
use Rattle.status_db.specs.Held.{is_record_place}
use Rattle.status_records.specs.declared.record.Record.{Record}
use Rattle.unpack_engine.specs.Units.{MayDrop}
use Rattle.unpack_engine.proofs.Dropping.{outside}

pub laying_gone : (a b : State) → AtEachMoment IsLaying a b → HasGone is_record_place a b
laying_gone a b since =
    gone_by is_record_place (λ so_far. IsLaying a.world) a b since (beside_goes is_record_place IsLaying a b (λ h now is q there. is.rest q (outside a.world now is.rest q there)) since)

drop_same : (reached : Bool) (found : Option Record) (name : List ℕ) (v w : World) → MayDrop reached found name v w → SameOn is_record_place v w
drop_same true None name v w drop q there = drop.rest q (λ e. true≢false (sym there ∙ ap is_record_place e))
drop_same true (Some r) name v w same q there = ap (λ x. x q) same
drop_same false found name v w same q there = ap (λ x. x q) same

pub drop_gone : (reached : Bool) (found : Option Record) (name : List ℕ) (a b : State) → AtEachMoment (MayDrop reached found name) a b → HasGone is_record_place a b
drop_gone reached found name a b since =
    gone_by is_record_place (λ so_far. MayDrop reached found name a.world) a b since
    (beside_goes is_record_place (MayDrop reached found name) a b (λ h now may. drop_same reached found name a.world now may) since)
