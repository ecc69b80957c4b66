-- What was answered from a host that was only looked at.
use Rattle.std.proofs.Common.{◌≡◌, ◌+◌, ◌<◌, ℕ, zero, suc, List, Bool, true, false, Option, Result, Ok, Err, IfOk, IfErr, inl, inr, refl, sym, ap, subst, ◌∙◌, arith}
use Rattle.std.specs.Prelude.{◌≤◌, IsTrue}
use Rattle.std.proofs.lemmas.Bool.{true≢false}
use Rattle.host_core.specs.Host.{Counts, Needs, NoFault, Reads, Silent, State}
use Rattle.host_core.specs.World.{World}
use Rattle.host_core.specs.declared.fault.HostFault.{HostFault}
use Rattle.host_core.specs.declared.fault.HostFault.TheVariants as host
use Rattle.host_core.proofs.Counted.{declined_then, no_fault_then}
use Rattle.host_core.proofs.Moments.{reads_then, silent_then}
use Rattle.aliases.specs.Reading.{IsWhole}
use Rattle.administration.specs.Fault.{CountsAdministration, fault_of}
use Rattle.administration.specs.declared.fault.AdministrationFault.{AdministrationFault}
use Rattle.administration.specs.declared.fault.AdministrationFault.TheVariants.{Damaged, Device, NoMemory, Declined}
use Rattle.diversions.specs.Lines.{HasDiversions}
use Rattle.dpkg_session.specs.Standing.{CountsRefusal}
use Rattle.inquiries.specs.Glances.{IsGlance, IsSame}
use Rattle.inquiries.specs.Read.{HasAll, HasFollowed, HasOneList, HasWays}
use Rattle.inquiries.specs.declared.glance.Glance.{Glance}
use Rattle.inquiries.proofs.Glances.{one_world}
use Rattle.status_db.specs.Held.{HasRecords}
use Rattle.command_line.specs.Queries.{HasAnswered, HasInquired, HasMissed, HasShown, IsAnsweredFrom, IsInquiredOn, IsLeftOpenOn, IsUnanswered, IsUnread, reads_info}
use Rattle.command_line.specs.Roots.{Around, Given}
use Rattle.command_line.specs.Steady.{ArePassed, IsEnded, IsPassed, IsSettled, IsTried, at_once, blind, ended, is_final, missed, steady, told_of, unsteady, wanting}
use Rattle.command_line.specs.declared.answer.Answer.{Answer}
use Rattle.command_line.specs.declared.questions.Inquiry.{Inquiry}
use Rattle.command_line.specs.declared.questions.Inquiry.TheVariants as inquiry
use Rattle.command_line.specs.declared.shown.Shown.{Ghosts}
use Rattle.command_line.specs.declared.steady.Unanswered.{Unanswered}
use Rattle.command_line.specs.declared.steady.Unanswered.TheVariants.{Unsteady, Fault}

-- what stands on a host stands there behind more looks
kept : (s t : State) (P : World → Type 0) → Reads s t → Needs s P → Needs t P
kept s t P reads needs = λ h. subst P (sym reads.world) (needs (reads.honest h))

answered_behind : (asked : Inquiry) (answer : Answer) (s t : State) → Reads s t → IsAnsweredFrom s asked answer → IsAnsweredFrom t asked answer
answered_behind inquiry.Audit answer s t reads from = (from.0, (from.1.0, from.1.1, from.1.2, from.1.3, kept s t (HasAll from.1.0 from.1.1 from.1.2 from.1.3) reads from.1.4, from.1.5), from.2)
answered_behind inquiry.Diversions answer s t reads from = (from.0, (from.1.0, kept s t (λ w. HasDiversions w from.1.0) reads from.1.1, from.1.2), from.2)
answered_behind (inquiry.List layout patterns) answer s t reads from = (from.0, (from.1.0, kept s t (λ w. HasRecords w from.1.0) reads from.1.1, from.1.2), from.2)
answered_behind (inquiry.ListFiles name) answer s t reads from = (from.0, (from.1.0, from.1.1, from.1.2, kept s t (λ w. HasOneList w from.1.0 name from.1.2 from.1.1) reads from.1.3, from.1.4), from.2)
answered_behind (inquiry.Search path) answer s t reads from =
    (from.0, (from.1.0, from.1.1, from.1.2, from.1.3, kept s t (λ w. HasFollowed from.1.0 from.1.1 from.1.2 from.1.3 w × IsWhole w path from.1.2.aliases) reads from.1.4, from.1.5), from.2)
answered_behind (inquiry.SearchMatching pattern) answer s t reads from =
    (from.0, (from.1.0, from.1.1, from.1.2, from.1.3, kept s t (HasAll from.1.0 from.1.1 from.1.2 from.1.3) reads from.1.4, from.1.5), from.2)
answered_behind (inquiry.Selections patterns) answer s t reads from = (from.0, (from.1.0, kept s t (λ w. HasRecords w from.1.0) reads from.1.1, from.1.2), from.2)
answered_behind (inquiry.Status name) answer s t reads from = (from.0, (from.1.0, kept s t (λ w. HasRecords w from.1.0) reads from.1.1, from.1.2), from.2)
answered_behind (inquiry.Truename user path) answer s t reads from = (from.0, (from.1.0, kept s t (HasWays path from.1.0) reads from.1.1, from.1.2), from.2)

-- a fault of the host says nothing of what can't be read
unread_fault : (asked : Inquiry) (w : World) (fault : HostFault) → IsUnread asked w (fault_of fault)
unread_fault inquiry.Audit w host.Device = inl tt
unread_fault inquiry.Audit w host.NoMemory = inl tt
unread_fault inquiry.Audit w host.Declined = inl tt
unread_fault inquiry.Diversions w host.Device = tt
unread_fault inquiry.Diversions w host.NoMemory = tt
unread_fault inquiry.Diversions w host.Declined = tt
unread_fault (inquiry.List layout patterns) w host.Device = tt
unread_fault (inquiry.List layout patterns) w host.NoMemory = tt
unread_fault (inquiry.List layout patterns) w host.Declined = tt
unread_fault (inquiry.ListFiles name) w host.Device = inl tt
unread_fault (inquiry.ListFiles name) w host.NoMemory = inl tt
unread_fault (inquiry.ListFiles name) w host.Declined = inl tt
unread_fault (inquiry.Search place) w host.Device = inl tt
unread_fault (inquiry.Search place) w host.NoMemory = inl tt
unread_fault (inquiry.Search place) w host.Declined = inl tt
unread_fault (inquiry.SearchMatching pattern) w host.Device = inl tt
unread_fault (inquiry.SearchMatching pattern) w host.NoMemory = inl tt
unread_fault (inquiry.SearchMatching pattern) w host.Declined = inl tt
unread_fault (inquiry.Selections patterns) w host.Device = tt
unread_fault (inquiry.Selections patterns) w host.NoMemory = tt
unread_fault (inquiry.Selections patterns) w host.Declined = tt
unread_fault (inquiry.Status name) w host.Device = tt
unread_fault (inquiry.Status name) w host.NoMemory = tt
unread_fault (inquiry.Status name) w host.Declined = tt
unread_fault (inquiry.Truename user path) w host.Device = tt
unread_fault (inquiry.Truename user path) w host.NoMemory = tt
unread_fault (inquiry.Truename user path) w host.Declined = tt

host_counts : (fault : HostFault) (old new : State) → Counts {T = Unit {0}} old new (Err fault) → CountsRefusal (fault_of fault) old new
host_counts host.Device old new counts = counts
host_counts host.NoMemory old new counts = counts
host_counts host.Declined old new counts = counts

refusal_of : (fault : AdministrationFault) (old new : State) → CountsAdministration {T = Answer} old new (Err fault) → CountsRefusal fault old new
refusal_of (Damaged file line) old new counts = counts
refusal_of Device old new counts = counts
refusal_of NoMemory old new counts = counts
refusal_of Declined old new counts = counts

-- a fault behind looks without one
refusal_then : (fault : AdministrationFault) (a b c : State) → NoFault a b → CountsRefusal fault b c → CountsRefusal fault a c
refusal_then (Damaged file line) a b c sound counts = no_fault_then a b c sound counts
refusal_then Device a b c sound counts = record { once = counts.once ∙ ap (λ n. n + 1) sound.faults; last = counts.last }
refusal_then NoMemory a b c sound counts = no_fault_then a b c sound counts
refusal_then Declined a b c sound counts = declined_then a b c sound counts

-- an answer that isn't told at once is one of a device that worked
sound_answer : (result : Result Answer AdministrationFault) (old new : State) → is_final result ≡ false → CountsAdministration old new result → NoFault old new
sound_answer (Ok answer) old new unsure counts = counts
sound_answer (Err (Damaged file line)) old new unsure counts = counts
sound_answer (Err Device) old new unsure counts = absurd (true≢false unsure)
sound_answer (Err NoMemory) old new unsure counts = counts
sound_answer (Err Declined) old new unsure counts = absurd (true≢false unsure)

open_counts : (result : Result Answer AdministrationFault) (old new : State) → is_final result ≡ false → NoFault old new → CountsAdministration old new result
open_counts (Ok answer) old new unsure sound = sound
open_counts (Err (Damaged file line)) old new unsure sound = sound
open_counts (Err Device) old new unsure sound = absurd (true≢false unsure)
open_counts (Err NoMemory) old new unsure sound = sound
open_counts (Err Declined) old new unsure sound = absurd (true≢false unsure)

counts_then : (result : Result Answer AdministrationFault) (a b c : State) → NoFault a b → CountsAdministration b c result → CountsAdministration a c result
counts_then (Ok answer) a b c sound counts = no_fault_then a b c sound counts
counts_then (Err (Damaged file line)) a b c sound counts = no_fault_then a b c sound counts
counts_then (Err Device) a b c sound counts = record { once = counts.once ∙ ap (λ n. n + 1) sound.faults; last = counts.last }
counts_then (Err NoMemory) a b c sound counts = no_fault_then a b c sound counts
counts_then (Err Declined) a b c sound counts = declined_then a b c sound counts

-- A question on a host of which is known what it showed and answered.
module _ {W : Type 0} (of : Ghosts W Inquiry) (state : W → State) (asked : Inquiry)
    (shows : (s t : W) (glance : Glance) → of.glanced asked s t glance → HasShown (reads_info asked) (state s) (state t) glance)
    (misses : (s t : W) (fault : HostFault) → of.missed asked s t fault → HasMissed (state s) (state t) fault)
    (answers : (s t : W) (result : Result Answer AdministrationFault) → of.answered asked s t result → HasAnswered asked (state s) (state t) result) where
  -- what was last shown is what is shown of the world in the beginning
  record IsSoFar (begun s : W) (before : Glance) : Type 0 where
    reads : Reads (state begun) (state s)
    silent : Silent (state begun) (state s)
    sound : NoFault (state begun) (state s)
    shown : IsTrue (state s).honest → IsGlance (reads_info asked) (state begun).world before

  first_shown : (begun s : W) (before : Glance) → of.glanced asked begun s before → IsSoFar begun s before
  first_shown begun s before glanced =
      let has = shows begun s before glanced in
      record { reads = has.reads; silent = has.silent; sound = has.sound; shown = has.shown }

  tried : (begun s t : W) (before after : Glance) (answer : Result Answer AdministrationFault) → IsSoFar begun s before → IsTried of asked s answer after t → IsSoFar begun t after
  tried begun s t before after answer so_far one =
      let has = answers s one.behind answer one.answered in
      let then = shows one.behind t after one.glanced in
      let reads = reads_then (state begun) (state s) (state one.behind) so_far.reads has.reads in
      record {
        reads = reads_then (state begun) (state one.behind) (state t) reads then.reads;
        silent = silent_then (state begun) (state one.behind) (state t) (silent_then (state begun) (state s) (state one.behind) so_far.silent has.silent) then.silent;
        sound = no_fault_then (state begun) (state one.behind) (state t)
            (no_fault_then (state begun) (state s) (state one.behind) so_far.sound (sound_answer answer (state s) (state one.behind) one.unsure has.counts)) then.sound;
        shown = λ h. subst (λ w. IsGlance (reads_info asked) w after) reads.world (then.shown h);
      }

  -- where the host is honest the same is shown before an answer and behind it
  same_shown : (begun s t : W) (before after : Glance) (answer : Result Answer AdministrationFault) → IsSoFar begun s before → IsTried of asked s answer after t → IsTrue (state t).honest → IsSame after before
  same_shown begun s t before after answer so_far one h =
      let behind = tried begun s t before after answer so_far one in
      let has = answers s one.behind answer one.answered in
      let then = shows one.behind t after one.glanced in
      one_world (reads_info asked) (state begun).world after before (behind.shown h) (so_far.shown (has.reads.honest (then.reads.honest h)))

  passed : (n : ℕ) (begun s t : W) (before after : Glance) → IsSoFar begun s before → ArePassed of asked n s before t after → IsSoFar begun t after
  passed zero begun s t before after so_far all = subst (λ u. IsSoFar begun u after) (sym all.0) (subst (IsSoFar begun s) (sym all.1) so_far)
  passed (suc n) begun s t before after so_far all =
      let one = all.3 in
      tried begun all.0 t all.1 after one.0 (passed n begun s all.0 before all.1 so_far all.2) one.1

  none_passed : (n : ℕ) (begun s t : W) (before after : Glance) → IsSoFar begun s before → ArePassed of asked (suc n) s before t after → IsTrue (state t).honest → ⊥
  none_passed n begun s t before after so_far all h =
      let one = all.3 in
      one.2 (same_shown begun all.0 t all.1 after one.0 (passed n begun s all.0 before all.1 so_far all.2) one.1 h)

  module _ (left : Given) (begun end : W) (given : left (state end)) where
    -- what came of it: an answer, or why there is none
    pub record HasCome (result : Result Answer Unanswered) : Type 0 where
      pub answer : IfOk result (IsInquiredOn left (state begun) asked)
      pub bound : IfOk result (λ answer. answer.status ≤ 2)
      pub refused : IfErr result (IsLeftOpenOn left (state begun) asked)

    stopped : (fault : HostFault) → Reads (state begun) (state end) → Silent (state begun) (state end) → CountsRefusal (fault_of fault) (state begun) (state end) → HasCome (Err (Fault (fault_of fault)))
    stopped fault reads silent counts = record {
      answer = tt;
      bound = tt;
      refused = record {
        end = state end;
        looked = record { given = given; reads = reads; silent = silent };
        counts = counts;
        damage = λ h. unread_fault asked (state begun).world fault;
      };
    }

    told : (answer : Result Answer AdministrationFault) → Reads (state begun) (state end) → Silent (state begun) (state end) → CountsAdministration (state begun) (state end) answer
        → IfOk answer (IsAnsweredFrom (state end) asked) → IfOk answer (λ a. a.status ≤ 2) → (IsTrue (state end).honest → IfErr answer (IsUnread asked (state begun).world)) → HasCome (told_of answer)
    told (Ok answer) reads silent counts from bound damage = record {
      answer = record { end = state end; looked = record { given = given; reads = reads; silent = silent }; sound = counts; answered = from };
      bound = bound;
      refused = tt;
    }
    told (Err fault) reads silent counts from bound damage = record {
      answer = tt;
      bound = tt;
      refused = record {
        end = state end;
        looked = record { given = given; reads = reads; silent = silent };
        counts = refusal_of fault (state begun) (state end) counts;
        damage = damage;
      };
    }

    from_behind : (answer : Result Answer AdministrationFault) (s t : State) → Reads s t → IfOk answer (IsAnsweredFrom s asked) → IfOk answer (IsAnsweredFrom t asked)
    from_behind (Ok answer) s t reads from = answered_behind asked answer s t reads from
    from_behind (Err fault) s t reads from = tt

    has_ended : (m : W) (before : Glance) (result : Result Answer Unanswered) → IsSoFar begun m before → IsEnded of asked m before end result → HasCome result
    has_ended m before result so_far (at_once answer answered final is) =
        let has = answers m end answer answered in
        subst HasCome (sym is) (told answer
        (reads_then (state begun) (state m) (state end) so_far.reads has.reads)
        (silent_then (state begun) (state m) (state end) so_far.silent has.silent)
        (counts_then answer (state begun) (state m) (state end) so_far.sound has.counts)
        has.answer has.bound
        (λ h. subst (λ w. IfErr answer (IsUnread asked w)) so_far.reads.world (has.damage h)))
    has_ended m before result so_far (missed answer behind fault answered unsure miss is) =
        let has = answers m behind answer answered in
        let no = misses behind end fault miss in
        subst HasCome (sym is) (stopped fault
        (reads_then (state begun) (state behind) (state end) (reads_then (state begun) (state m) (state behind) so_far.reads has.reads) no.reads)
        (silent_then (state begun) (state behind) (state end) (silent_then (state begun) (state m) (state behind) so_far.silent has.silent) no.silent)
        (refusal_then (fault_of fault) (state begun) (state behind) (state end)
        (no_fault_then (state begun) (state m) (state behind) so_far.sound (sound_answer answer (state m) (state behind) unsure has.counts)) (host_counts fault (state behind) (state end) no.counts)))
    has_ended m before result so_far (steady answer after one same is) =
        let has = answers m one.behind answer one.answered in
        let then = shows one.behind end after one.glanced in
        let all = tried begun m end before after answer so_far one in
        subst HasCome (sym is) (told answer all.reads all.silent
        (open_counts answer (state begun) (state end) one.unsure all.sound)
        (from_behind answer (state one.behind) (state end) then.reads has.answer) has.bound
        (λ h. subst (λ w. IfErr answer (IsUnread asked w)) so_far.reads.world (has.damage (then.reads.honest h))))
    has_ended m before result so_far (wanting answer after one is) =
        let all = tried begun m end before after answer so_far one in
        subst HasCome (sym is) (stopped host.NoMemory all.reads all.silent all.sound)

    pub has_come : (result : Result Answer Unanswered) → IsSettled of asked begun end result → HasCome result
    has_come result (blind fault miss is) =
        let no = misses begun end fault miss in
        subst HasCome (sym is) (stopped fault no.reads no.silent (host_counts fault (state begun) (state end) no.counts))
    has_come result (ended n first m shown before few glanced all last) =
        has_ended m before result (passed n begun first m shown before (first_shown begun first shown glanced) all) last
    has_come result (unsteady first shown after glanced all is) =
        let start = first_shown begun first shown glanced in
        let so_far = passed 10 begun first end shown after start all in
        subst HasCome (sym is) record {
          answer = tt;
          bound = tt;
          refused = record {
            end = state end;
            looked = record { given = given; reads = so_far.reads; silent = so_far.silent };
            sound = so_far.sound;
            dishonest = none_passed 9 begun first end shown after start all;
          };
        }

-- that host was the one behind the root's word
pub has_inquired : (a : Around) (word : List ℕ) (begun : State) (asked : Inquiry) (result : Result Answer Unanswered) → a.root word begun → IfOk result (IsInquiredOn a.left begun asked) → IfOk result (HasInquired a word asked)
has_inquired a word begun asked (Ok answer) behind on = (begun, behind, on)
has_inquired a word begun asked (Err why) behind on = tt

pub is_unanswered : (a : Around) (word : List ℕ) (begun : State) (asked : Inquiry) (result : Result Answer Unanswered) → a.root word begun → IfErr result (IsLeftOpenOn a.left begun asked) → IfErr result (IsUnanswered a word asked)
is_unanswered a word begun asked (Ok answer) behind on = tt
is_unanswered a word begun asked (Err Unsteady) behind on = (begun, behind, on)
is_unanswered a word begun asked (Err (Fault fault)) behind on = inl (begun, behind, on)
