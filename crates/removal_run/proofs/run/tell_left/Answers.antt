use Rattle.removal_run.proofs.Overleft.{depended_calls, depended_refused}
use Rattle.removal_run.proofs.run.tell_left.Goals as goal

pub append-requires : goal.append-requires
append-requires g c =
    let told = c.in_ok-left.ensures in
    record {
      quiet = depended_calls _ _ _ told.numbers c.in_ok-left.left.items told.each;
      refused = depended_refused _ _ _ told.numbers c.in_ok-left.left.items told.each;
    }
