-- What was answered by a verification on a host that was only looked at.
use Rattle.std.proofs.Common.{◌≡◌, ◌+◌, ◌<◌, ◌≤◌, ℕ, zero, suc, List, [], true, append-nil, Result, Ok, Err, IfOk, IfErr, IsTrue, inl, inr, refl, sym, ap, subst, ◌∙◌, arith}
use Rattle.std.proofs.lemmas.Bool.{false≢true}
use Rattle.host_core.specs.Events.{denials_of, faults_of}
use Rattle.host_core.specs.Host.{Counts, NoFault, Reads, Silent, State, denials, faults}
use Rattle.host_core.specs.World.{World}
use Rattle.host_core.specs.declared.fault.HostFault.{HostFault}
use Rattle.host_core.specs.declared.fault.HostFault.TheVariants as host
use Rattle.host_core.proofs.Counted.{denials_of-append, faults_of-append, no_fault_same, no_fault_then}
use Rattle.host_core.proofs.Moments.{reads_then, silent_then}
use Rattle.administration.specs.Fault.{fault_of}
use Rattle.administration.specs.declared.fault.AdministrationFault.{AdministrationFault}
use Rattle.administration.specs.declared.fault.AdministrationFault.TheVariants.{Damaged, Device, NoMemory, Declined}
use Rattle.inquiries.specs.Glances.{IsGlance, IsSame}
use Rattle.inquiries.specs.Read.{IsAllDamage}
use Rattle.inquiries.specs.declared.glance.Glance.{Glance}
use Rattle.inquiries.proofs.Glances.{one_world}
use Rattle.verification.specs.Counting.{CountsVerified}
use Rattle.command_line.specs.Queries.{HasMissed, HasShown}
use Rattle.command_line.specs.Roots.{Around, Given}
use Rattle.command_line.specs.Steady.{ArePassed, IsEnded, IsPassed, IsSettled, IsTried, at_once, blind, ended, is_final, missed, steady, told_of, unsteady, wanting}
use Rattle.command_line.specs.Verifying.{HasVerified, HasVerifiedUnder, IsBegun, IsLeftUnverifiedOn, IsUnverified, IsVerifiedBetween, IsVerifiedOn}
use Rattle.command_line.specs.declared.answer.Answer.{Answer}
use Rattle.command_line.specs.declared.shown.Shown.{Ghosts}
use Rattle.command_line.specs.declared.steady.Unanswered.{Unanswered}
use Rattle.command_line.specs.declared.verifying.Checking.{Checking}
use Rattle.command_line.specs.declared.steady.Unanswered.TheVariants.{Unsteady, Fault}

reads_same : (s : State) → Reads s s
reads_same s = record { honest = λ h. h; world = refl; added = []; failed = tt; events = sym (append-nil s.events) }

-- a look forgets no fault
more_faults : (s t : State) → Reads s t → faults s ≤ faults t
more_faults s t reads = omega (arith, ap faults_of reads.events, faults_of-append s.events reads.added)

more_denials : (s t : State) → Reads s t → denials s ≤ denials t
more_denials s t reads = omega (arith, ap denials_of reads.events, denials_of-append s.events reads.added)

-- a fault of the host says nothing of what can't be read
no_damage : (w : World) (fault : HostFault) → IsAllDamage w (fault_of fault)
no_damage w host.Device = inl tt
no_damage w host.NoMemory = inl tt
no_damage w host.Declined = inl tt

-- it is counted behind other looks
host_counts : (fault : HostFault) (a b c : State) → Reads a b → Counts {T = Unit {0}} b c (Err fault) → CountsVerified {T = Unit {0}} a c (Err (fault_of fault))
host_counts host.Device a b c reads counts = (let less = more_faults a b reads in omega (arith, less, counts.once))
host_counts host.NoMemory a b c reads counts = tt
host_counts host.Declined a b c reads counts = (let less = more_denials a b reads in omega (arith, less, counts.denials))

-- the fault of a verification behind which it was looked at once more
fault_then : (fault : AdministrationFault) (a b c : State) → NoFault b c → CountsVerified {T = Answer} a b (Err fault) → CountsVerified {T = Unit {0}} a c (Err fault)
fault_then (Damaged file line) a b c sound counts = no_fault_then a b c counts sound
fault_then Device a b c sound counts = omega (arith, counts, sound.faults)
fault_then NoMemory a b c sound counts = tt
fault_then Declined a b c sound counts = omega (arith, counts, sound.denials)

same_fault : (fault : AdministrationFault) (a b : State) → CountsVerified {T = Answer} a b (Err fault) → CountsVerified {T = Unit {0}} a b (Err fault)
same_fault (Damaged file line) a b counts = counts
same_fault Device a b counts = counts
same_fault NoMemory a b counts = counts
same_fault Declined a b counts = counts

-- A verification on a host of which is known what it showed and answered.
module _ {W : Type 0} (of : Ghosts W Checking) (state : W → State) (names : Checking)
    (shows : (s t : W) (glance : Glance) → of.glanced names s t glance → HasShown true (state s) (state t) glance)
    (misses : (s t : W) (fault : HostFault) → of.missed names s t fault → HasMissed (state s) (state t) fault)
    (answers : (s t : W) (result : Result Answer AdministrationFault) → of.answered names s t result → HasVerified names (state s) (state t) result) where
  -- what was last shown is what is shown of the world in the beginning
  record IsSoFar (begun s : W) (before : Glance) : Type 0 where
    reads : Reads (state begun) (state s)
    silent : Silent (state begun) (state s)
    shown : IsTrue (state s).honest → IsGlance true (state begun).world before

  first_shown : (begun s : W) (before : Glance) → of.glanced names begun s before → IsSoFar begun s before
  first_shown begun s before glanced =
      let has = shows begun s before glanced in
      record { reads = has.reads; silent = has.silent; shown = has.shown }

  tried : (begun s t : W) (before after : Glance) (answer : Result Answer AdministrationFault) → IsSoFar begun s before → IsTried of names s answer after t → IsSoFar begun t after
  tried begun s t before after answer so_far one =
      let has = answers s one.behind answer one.answered in
      let then = shows one.behind t after one.glanced in
      let reads = reads_then (state begun) (state s) (state one.behind) so_far.reads has.reads in
      record {
        reads = reads_then (state begun) (state one.behind) (state t) reads then.reads;
        silent = silent_then (state begun) (state one.behind) (state t) (silent_then (state begun) (state s) (state one.behind) so_far.silent has.silent) then.silent;
        shown = λ h. subst (λ w. IsGlance true w after) reads.world (then.shown h);
      }

  -- where the host is honest the same is shown before an answer and behind it
  same_shown : (begun s t : W) (before after : Glance) (answer : Result Answer AdministrationFault) → IsSoFar begun s before → IsTried of names s answer after t → IsTrue (state t).honest → IsSame after before
  same_shown begun s t before after answer so_far one h =
      let behind = tried begun s t before after answer so_far one in
      let has = answers s one.behind answer one.answered in
      let then = shows one.behind t after one.glanced in
      one_world true (state begun).world after before (behind.shown h) (so_far.shown (has.reads.honest (then.reads.honest h)))

  passed : (n : ℕ) (begun s t : W) (before after : Glance) → IsSoFar begun s before → ArePassed of names n s before t after → IsSoFar begun t after
  passed zero begun s t before after so_far all = subst (λ u. IsSoFar begun u after) (sym all.0) (subst (IsSoFar begun s) (sym all.1) so_far)
  passed (suc n) begun s t before after so_far all =
      let one = all.3 in
      tried begun all.0 t all.1 after one.0 (passed n begun s all.0 before all.1 so_far all.2) one.1

  none_passed : (n : ℕ) (begun s t : W) (before after : Glance) → IsSoFar begun s before → ArePassed of names (suc n) s before t after → IsTrue (state t).honest → ⊥
  none_passed n begun s t before after so_far all h =
      let one = all.3 in
      one.2 (same_shown begun all.0 t all.1 after one.0 (passed n begun s all.0 before all.1 so_far all.2) one.1 h)

  -- so before the last answer there was no fault, where the host is honest
  alone : (n : ℕ) (begun s t : W) (before after : Glance) → IsSoFar begun s before → NoFault (state begun) (state s) → ArePassed of names n s before t after → IsTrue (state t).honest → NoFault (state begun) (state t)
  alone zero begun s t before after so_far sound all h = subst (λ u. NoFault (state begun) (state u)) (sym all.0) sound
  alone (suc n) begun s t before after so_far sound all h = absurd (none_passed n begun s t before after so_far all h)

  module _ (left : Given) (begun end : W) (given : left (state end)) where
    -- what came of it: an answer, or why there is none
    pub record HasCome (result : Result Answer Unanswered) : Type 0 where
      pub answer : IfOk result (IsVerifiedOn left (state begun) names)
      pub bound : IfOk result (λ answer. answer.status ≤ 2)
      pub refused : IfErr result (IsLeftUnverifiedOn left (state begun))

    none_from : (m : W) (fault : AdministrationFault) → IsBegun (state begun) (state m) → Reads (state begun) (state end) → Silent (state begun) (state end)
        → CountsVerified {T = Unit {0}} (state m) (state end) (Err fault) → (IsTrue (state end).honest → IsAllDamage (state begun).world fault) → HasCome (Err (Fault fault))
    none_from m fault before reads silent counts damage = record {
      answer = tt;
      bound = tt;
      refused = record {
        from = state m;
        end = state end;
        looked = record { given = given; reads = reads; silent = silent };
        before = before;
        counts = counts;
        damage = damage;
      };
    }

    -- the same was shown behind an answer
    told : (m to : W) (answer : Result Answer AdministrationFault) → IsBegun (state begun) (state m) → Silent (state begun) (state end) → HasVerified names (state m) (state to) answer
        → Reads (state to) (state end) → NoFault (state to) (state end) → HasCome (told_of answer)
    told m to (Ok answer) before silent has reads sound = record {
      answer = record {
        from = state m;
        to = state to;
        end = state end;
        looked = record {
          given = given;
          reads = reads_then (state begun) (state to) (state end) (reads_then (state begun) (state m) (state to) before.reads has.reads) reads;
          silent = silent;
        };
        before = before;
        between = has.reads;
        behind = reads;
        sound = sound;
        answered = has.answer;
      };
      bound = has.bound;
      refused = tt;
    }
    told m to (Err fault) before silent has reads sound =
        none_from m fault before (reads_then (state begun) (state to) (state end) (reads_then (state begun) (state m) (state to) before.reads has.reads) reads) silent
        (fault_then fault (state m) (state to) (state end) sound has.counts)
        (λ h. subst (λ w. IsAllDamage w fault) before.reads.world (has.damage (reads.honest h)))

    -- an answer that is told at once is a fault
    told_at_once : (m : W) (answer : Result Answer AdministrationFault) → is_final answer ≡ true → IsBegun (state begun) (state m) → Silent (state begun) (state end)
        → HasVerified names (state m) (state end) answer → HasCome (told_of answer)
    told_at_once m (Ok answer) final before silent has = absurd (false≢true final)
    told_at_once m (Err fault) final before silent has =
        none_from m fault before (reads_then (state begun) (state m) (state end) before.reads has.reads) silent
        (same_fault fault (state m) (state end) has.counts)
        (λ h. subst (λ w. IsAllDamage w fault) before.reads.world (has.damage h))

    has_ended : (m : W) (before : Glance) (result : Result Answer Unanswered) → IsSoFar begun m before → (IsTrue (state m).honest → NoFault (state begun) (state m))
        → IsEnded of names m before end result → HasCome result
    has_ended m before result so_far sound (at_once answer answered final is) =
        let has = answers m end answer answered in
        subst HasCome (sym is) (told_at_once m answer final (record { reads = so_far.reads; alone = sound })
        (silent_then (state begun) (state m) (state end) so_far.silent has.silent) has)
    has_ended m before result so_far sound (missed answer behind fault answered unsure miss is) =
        let has = answers m behind answer answered in
        let no = misses behind end fault miss in
        subst HasCome (sym is) (none_from m (fault_of fault) (record { reads = so_far.reads; alone = sound })
        (reads_then (state begun) (state behind) (state end) (reads_then (state begun) (state m) (state behind) so_far.reads has.reads) no.reads)
        (silent_then (state begun) (state behind) (state end) (silent_then (state begun) (state m) (state behind) so_far.silent has.silent) no.silent)
        (host_counts fault (state m) (state behind) (state end) has.reads no.counts)
        (λ h. no_damage (state begun).world fault))
    has_ended m before result so_far sound (steady answer after one same is) =
        let has = answers m one.behind answer one.answered in
        let then = shows one.behind end after one.glanced in
        let all = tried begun m end before after answer so_far one in
        subst HasCome (sym is) (told m one.behind answer (record { reads = so_far.reads; alone = sound }) all.silent has then.reads then.sound)
    has_ended m before result so_far sound (wanting answer after one is) =
        let all = tried begun m end before after answer so_far one in
        subst HasCome (sym is) (none_from m NoMemory (record { reads = so_far.reads; alone = sound }) all.reads all.silent tt (λ h. inl tt))

    pub has_come : (result : Result Answer Unanswered) → IsSettled of names begun end result → HasCome result
    has_come result (blind fault miss is) =
        let no = misses begun end fault miss in
        subst HasCome (sym is) (none_from begun (fault_of fault) (record { reads = reads_same (state begun); alone = λ h. no_fault_same (state begun) (state begun) refl })
        no.reads no.silent (host_counts fault (state begun) (state begun) (state end) (reads_same (state begun)) no.counts) (λ h. no_damage (state begun).world fault))
    has_come result (ended n first m shown before few glanced all last) =
        let start = first_shown begun first shown glanced in
        has_ended m before result (passed n begun first m shown before start all) (alone n begun first m shown before start (shows begun first shown glanced).sound all) last
    has_come result (unsteady first shown after glanced all is) =
        let start = first_shown begun first shown glanced in
        let so_far = passed 10 begun first end shown after start all in
        subst HasCome (sym is) record {
          answer = tt;
          bound = tt;
          refused = record {
            end = state end;
            looked = record { given = given; reads = so_far.reads; silent = so_far.silent };
            dishonest = none_passed 9 begun first end shown after start all;
          };
        }

-- that host was the one behind the root's word
pub has_verified : (a : Around) (word : List ℕ) (begun : State) (names : Checking) (result : Result Answer Unanswered) → a.root word begun → IfOk result (IsVerifiedOn a.left begun names) → IfOk result (HasVerifiedUnder a word names)
has_verified a word begun names (Ok answer) behind on = (begun, behind, on)
has_verified a word begun names (Err why) behind on = tt

pub is_unverified : (a : Around) (word : List ℕ) (begun : State) (result : Result Answer Unanswered) → a.root word begun → IfErr result (IsLeftUnverifiedOn a.left begun) → IfErr result (IsUnverified a word)
is_unverified a word begun (Ok answer) behind on = tt
is_unverified a word begun (Err Unsteady) behind on = (begun, behind, on)
is_unverified a word begun (Err (Fault fault)) behind on = inl (begun, behind, on)
