-- The parts of a commit before its notes leave the places of records alone.
use Rattle.host_core.specs.World.{World, SameOn}
use Rattle.host_core.specs.Host.{AtEachMoment, State}
use Rattle.scattered_losses.proofs.GoingApart.{HasGone, beside_goes, gone_by}
use Rattle.status_db.specs.Held.{is_record_place}
use Rattle.unpack_commit.proofs.Stays.{Stays, record_within}

pub stays_same : (v w : World) → Stays v w → SameOn is_record_place v w
stays_same v w stays q there = let r = record_within q there in stays.same q r.0 r.1

pub stays_gone : (P : World → World → Type 0) (a b : State) → ((now : World) → P a.world now → Stays a.world now) → AtEachMoment P a b → HasGone is_record_place a b
stays_gone P a b so since = gone_by is_record_place (λ so_far. P a.world) a b since (beside_goes is_record_place P a b (λ h now is. stays_same a.world now (so now is)) since)
