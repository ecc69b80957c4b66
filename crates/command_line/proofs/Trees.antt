-- What was read for words, and the run of it, between a moment before and one after.
use Rattle.std.proofs.Common.{◌≡◌, ◌<◌, ◌-◌, ◌++◌, ◌∷◌, ◌∙◌, [], ℕ, Bool, true, false, length, map, append_assoc, List, Option, Some, None, Result, Err, ap, arith, inl, inr, refl, subst, sym}
use Rattle.std.specs.Prelude.{MatchBool, MatchOption}
use Rattle.std.proofs.lemmas.List.{length-append}
use Rattle.std.proofs.Math.Seq.{take-append_seam}
use Rattle.host_core.specs.Host.{State}
use Rattle.host_core.specs.Paths.{Path}
use Rattle.diversions.specs.Diverted.{Diverted}
use Rattle.file_lists.specs.Filed.{Filed}
use Rattle.configure_run.specs.declared.options.ConfigureOptions.{ConfigureOptions}
use Rattle.status_db.specs.Recorded.{Recorded}
use Rattle.package_tree.specs.declared.control_file.ControlFile.{ControlFile}
use Rattle.package_tree.specs.declared.fault.TreeFault.{TreeFault}
use Rattle.package_tree.specs.declared.fault.TreeFault.TheVariants.{Twice}
use Rattle.package_tree.specs.declared.package.Package.{Package}
use Rattle.status_records.specs.declared.record.Record.{Record}
use Rattle.unit_reports.specs.Held.{Held, held}
use Rattle.dpkg_session.specs.Trees.{AreRead}
use Rattle.dpkg_session.specs.declared.installing.Installed.{Installed}
use Rattle.dpkg_session.specs.declared.report.Candidate.{Candidate}
use Rattle.command_line.specs.declared.ending.Ended.{Ended}
use Rattle.command_line.specs.declared.unpacking.Done.{Done}
use Rattle.command_line.specs.declared.unpacking.Done.TheVariants as done
use Rattle.command_line.specs.declared.fault.NotOpened.{NotOpened}
use Rattle.command_words.specs.declared.owners.TreeOwners.{TreeOwners}
use Rattle.command_words.specs.declared.unpacking.Unpacking.{Unpacking}
use Rattle.command_line.specs.Reports.{HasEndedAs}
use Rattle.command_line.specs.Reading.{AreReadFor, AreReadOnce, HaveGoneOn, IsReadFor, IsReadOnce, IsWithoutRoom, is_among, words_before}
use Rattle.command_line.specs.Roots.{Around, around, held_anew}
use Rattle.command_line.specs.declared.hosts.Hosts.{Ghosts}
use Rattle.command_line.specs.Order.{AreLookedAt, AreRoundsOf, HasLooked, IsLookedAt, IsOrderOf, is_one_round}
use Rattle.command_line.specs.Printing.{last_in, last_of_round, units_of}
use Rattle.command_line.specs.Unpacks.{HasInstalledRound, HasInstalledRounds, HasRunToEnd, HasRunTrees, IsUnpackedOn, triggering_for}
use Rattle.command_line.proofs.Behind.{around_as}

-- what is known of trees between two moments is known between an earlier one and a later one
pub record Within (outer inner : Around) : Type 0 where
  pub tree : (word : List ℕ) (s : State) → inner.tree word s → outer.tree word s
  pub seen : (s : State) → inner.seen s → outer.seen s
  pub full : (word : List ℕ) (path : Path) → inner.full word path → outer.full word path
  pub failed : inner.failed → outer.failed

-- so is want of room
full_within : {T : Type 0} (outer inner : Around) → Within outer inner → (word : List ℕ) (read : Result T TreeFault) → IsWithoutRoom inner word read → IsWithoutRoom outer word read
full_within outer inner within word read full = (full.0, full.1, within.full word full.0 full.2)

pub read_within : (outer inner : Around) → Within outer inner → (owners : TreeOwners) (word : List ℕ) (read : Result Package TreeFault) → IsReadFor inner owners word read → IsReadFor outer owners word read
read_within outer inner within owners word read (inl r) = inl (record {
  state = r.state;
  behind = within.tree word r.state r.behind;
  end = r.end;
  read_as = r.read_as;
  silent = r.silent;
  reads = r.reads;
  given = within.seen r.end r.given;
  counts = r.counts;
})
read_within outer inner within owners word read (inr (inl failed)) = inr (inl (failed.0, within.failed failed.1))
read_within outer inner within owners word read (inr (inr (inl memory))) = inr (inr (inl memory))
read_within outer inner within owners word read (inr (inr (inr full))) = inr (inr (inr (full_within outer inner within word read full)))

case_within : (b : Bool) (P : Type 0) {Q R : Type 0} → (Q → R) → MatchBool b P Q → MatchBool b P R
case_within true P so h = h
case_within false P so h = so h

once_within : (outer inner : Around) → Within outer inner → (owners : TreeOwners) (earlier : List (List ℕ)) (word : List ℕ) (read : Result Package TreeFault) → IsReadOnce inner owners earlier word read → IsReadOnce outer owners earlier word read
once_within outer inner within owners earlier word read = case_within (is_among earlier word) (read ≡ Err Twice) (read_within outer inner within owners word read)

pub all_within : (outer inner : Around) → Within outer inner → (owners : TreeOwners) (earlier : List (List ℕ)) (cs : List Candidate) → AreReadOnce inner owners earlier cs → AreReadOnce outer owners earlier cs
all_within outer inner within owners earlier [] h = h
all_within outer inner within owners earlier (c ∷ cs) h =
    (once_within outer inner within owners earlier c.label c.tree h.0, all_within outer inner within owners (earlier ++ c.label ∷ []) cs h.1)

-- what was found by a look
found_within : (outer inner : Around) → Within outer inner → (word : List ℕ) (read : Result ControlFile TreeFault) → IsLookedAt inner word read → IsLookedAt outer word read
found_within outer inner within word read (some, inl r) = (
  some,
  inl (record {
    state = r.state;
    behind = within.tree word r.state r.behind;
    end = r.end;
    read_as = r.read_as;
    silent = r.silent;
    reads = r.reads;
    given = within.seen r.end r.given;
    counts = r.counts;
  }),
)
found_within outer inner within word read (some, inr (inl failed)) = (some, inr (inl (failed.0, within.failed failed.1)))
found_within outer inner within word read (some, inr (inr full)) = (some, inr (inr (full_within outer inner within word read full)))

pub looked_within : (outer inner : Around) → Within outer inner → (word : List ℕ) (found : Option ControlFile) → HasLooked inner word found → HasLooked outer word found
looked_within outer inner within word found h = (h.0, found_within outer inner within word h.0 h.1, h.2)

pub looks_within : (outer inner : Around) → Within outer inner → (words : List (List ℕ)) (found : List (Option ControlFile)) → AreLookedAt inner words found → AreLookedAt outer words found
looks_within outer inner within [] [] h = h
looks_within outer inner within [] (l ∷ ls) h = absurd h
looks_within outer inner within (word ∷ words) [] h = absurd h
looks_within outer inner within (word ∷ words) (l ∷ ls) h = (looked_within outer inner within word l h.0, looks_within outer inner within words ls h.1)

pub order_within : (outer inner : Around) → Within outer inner → (u : Unpacking) (records : List Record) (rounds : List (List (List ℕ))) → AreRoundsOf inner u records rounds → AreRoundsOf outer u records rounds
order_within outer inner within u records rounds =
    case_within (is_one_round u) (rounds ≡ u.trees ∷ []) (λ (o : IsOrderOf inner u.trees records rounds). (o.0, looks_within outer inner within u.trees o.0 o.1, o.2))

-- rounds
pub round_within : (outer inner : Around) → Within outer inner → (u : Unpacking) (options : ConfigureOptions) (earlier words : List (List ℕ)) (came : Installed) (before after : Held) (s end : State)
    → HasInstalledRound inner u options earlier words came before after s end → HasInstalledRound outer u options earlier words came before after s end
round_within outer inner within u options earlier words came before after s end r = record {
  candidates = r.candidates;
  left = r.left;
  read = record { labels = r.read.labels; read = all_within outer inner within u.owners earlier r.candidates r.read.read };
  all = r.all;
}

case_option : {A : Type 0} (o : Option A) {P Q : Type 0} (R : A → Type 0) → (P → Q) → MatchOption o P R → MatchOption o Q R
case_option None R so h = so h
case_option (Some x) R so h = h

pub rounds_within : (outer inner : Around) → Within outer inner → (u : Unpacking) (options : ConfigureOptions) (earlier : List (List ℕ)) (rounds : List (List (List ℕ))) (came : List Installed) (before after : Held) (s end : State)
    → HasInstalledRounds inner u options earlier rounds came before after s end → HasInstalledRounds outer u options earlier rounds came before after s end
rounds_within outer inner within u options earlier [] [] before after s end h = h
rounds_within outer inner within u options earlier [] (c ∷ cs) before after s end h = absurd h
rounds_within outer inner within u options earlier (words ∷ rounds) [] before after s end h = absurd h
rounds_within outer inner within u options earlier (words ∷ rounds) (c ∷ cs) before after s end h = (
  h.0,
  h.1,
  round_within outer inner within u options earlier words c before h.0 s h.1 h.2,
  case_option (last_of_round c) (λ broken. (cs ≡ []) × (end ≡ h.1) × (after ≡ h.0)) (rounds_within outer inner within u options (earlier ++ words) rounds cs h.0 after h.1 end) h.3,
)

run_within : (outer inner : Around) → Within outer inner → (options : Option ConfigureOptions) (u : Unpacking) (came : Done) (before after : Held) (s end : State)
    → HasRunTrees inner options u came before after s end → HasRunTrees outer options u came before after s end
run_within outer inner within None u (done.Unpacked report) before after s end ran = record {
  candidates = ran.candidates;
  left = ran.left;
  read = record { labels = ran.read.labels; read = all_within outer inner within u.owners [] ran.candidates ran.read.read };
  all = ran.all;
}
run_within outer inner within None u (done.Installed rounds) before after s end ran = absurd ran
run_within outer inner within (Some options) u (done.Unpacked report) before after s end ran = absurd ran
run_within outer inner within (Some options) u (done.Installed rounds) before after s end ran = record {
  rounds = ran.rounds;
  order = order_within outer inner within u before.records.records ran.rounds ran.order;
  runs = rounds_within outer inner within u options [] ran.rounds rounds.items before after s end ran.runs;
}

-- and so to the end of the command
pub ended_within : (outer inner : Around) → Within outer inner → (options : Option ConfigureOptions) (u : Unpacking) (ended : Ended Done) (before : Held) (s end : State)
    → HasRunToEnd inner options u ended before s end → HasRunToEnd outer options u ended before s end
ended_within outer inner within options u ended before s end has = record {
  after = has.after;
  mid = has.mid;
  ran = around_as (triggering_for u) (units_of ended.done) (last_in ended.done) (HasRunTrees inner options u ended.done before) (HasRunTrees outer options u ended.done before) ended.triggered before has.after s has.mid
      (λ mid begun done ran. run_within outer inner within options u ended.done before mid begun done ran) has.ran;
  ending = has.ending;
}

-- the words before those that are left are the earlier ones
pub before_left : (earlier left : List (List ℕ)) → words_before (earlier ++ left) (length left) ≡ earlier
before_left earlier left =
    let count : length (earlier ++ left) - length left ≡ length earlier = omega (arith, length-append earlier left) in
    rw count (take-append_seam earlier left)

-- hosts that have gone on twice
module _ {Hosts Opened : Type 0} (of : Ghosts Hosts Opened) (a b c : Hosts) where
  pub gone_then : HaveGoneOn of a b → HaveGoneOn of b c → HaveGoneOn of a c
  gone_then first rest = record {
    trees = λ word s h. first.trees word s (rest.trees word s h);
    seen = λ s h. rest.seen s (first.seen s h);
    full = λ word path h. rest.full word path (first.full word path h);
    faults = omega (arith, first.faults, rest.faults);
    below = rest.below ∙ first.below;
  }

  pub within_first : HaveGoneOn of b c → Within (around of a c) (around of a b)
  within_first rest = record { tree = λ word s h. h; seen = rest.seen; full = rest.full; failed = λ h. omega (arith, h, rest.faults) }

  pub within_rest : HaveGoneOn of a b → Within (around of a c) (around of b c)
  within_rest first = record { tree = first.trees; seen = λ s h. h; full = λ word path h. h; failed = λ h. omega (arith, h, first.faults) }

-- trees that are read one after another
module _ {T Hosts Opened : Type 0} (reads : T → Candidate → T → Type 0) (of : Ghosts Hosts Opened) (hosts : T → Hosts) (words : T → List (List ℕ)) (asked : T → Unpacking) (all : T → List (List ℕ)) where
  abbrev between : T → T → Around
  between old new = around of (hosts old) (hosts new)

  abbrev Goes : T → T → Type 0
  Goes old new = HaveGoneOn of (hosts old) (hosts new)

  abbrev Step : T → Candidate → T → Type 0
  Step old c new = (asked new ≡ asked old) × (all new ≡ all old) × IsReadOnce (between old new) (asked old).owners (words_before (all old) (length (words old))) c.label c.tree
      × Goes old new × (words old ≡ c.label ∷ words new)

  module _ (one : (old : T) (c : Candidate) (new : T) → reads old c new → Step old c new) where
    pub gone_on : (cs : List Candidate) (old new : T) → AreRead reads old cs new → Goes old new
    gone_on [] old new same = subst (Goes old) (sym same) (record { trees = λ word s h. h; seen = λ s h. h; full = λ word path h. h; faults = omega arith; below = refl })
    gone_on (c ∷ cs) old new read =
        let first = (one old c read.0 read.1).3 in
        let rest = gone_on cs read.0 new read.2 in
        record {
          trees = λ word s h. first.trees word s (rest.trees word s h);
          seen = λ s h. rest.seen s (first.seen s h);
          full = λ word path h. rest.full word path (first.full word path h);
          faults = omega (arith, first.faults, rest.faults);
          below = rest.below ∙ first.below;
        }

    read_behind : (u : Unpacking) (whole earlier : List (List ℕ)) (cs : List Candidate) (old new : T) → asked old ≡ u → all old ≡ whole → whole ≡ earlier ++ words old → AreRead reads old cs new
        → (words old ≡ map (λ (c : Candidate). c.label) cs ++ words new) × AreReadOnce (between old new) u.owners earlier cs
    read_behind u whole earlier [] old new same kept is read = (ap words (sym read), tt)
    read_behind u whole earlier (c ∷ cs) old new same kept is read =
        let mid = read.0 in
        let step = one old c mid read.1 in
        let further = ap (λ (l : List (List ℕ)). earlier ++ l) step.4 ∙ sym (append_assoc earlier (c.label ∷ []) (words mid)) in
        let rest = read_behind u whole (earlier ++ c.label ∷ []) cs mid new (step.0 ∙ same) (step.1 ∙ kept) (is ∙ further) read.2 in
        let gone = gone_on cs mid new read.2 in
        let before : words_before (all old) (length (words old)) ≡ earlier =
        ap (λ (l : List (List ℕ)). words_before l (length (words old))) (kept ∙ is) ∙ before_left earlier (words old) in
        let first = subst (λ (l : List (List ℕ)). IsReadOnce (between old mid) u.owners l c.label c.tree) before
        (subst (λ (x : Unpacking). IsReadOnce (between old mid) x.owners (words_before (all old) (length (words old))) c.label c.tree) same step.2) in (
          step.4 ∙ ap (λ (l : List (List ℕ)). c.label ∷ l) rest.0,
          (
            once_within (between old new) (between old mid) (record { tree = λ word s h. h; seen = gone.seen; full = gone.full; failed = λ h. omega (arith, h, gone.faults) }) u.owners earlier c.label c.tree first,
            all_within (between old new) (between mid new) (record { tree = step.3.trees; seen = λ s h. h; full = λ word path h. h; failed = λ h. omega (arith, h, step.3.faults) }) u.owners (earlier ++ c.label ∷ []) cs rest.1,
          ),
        )

    pub read_for : (u : Unpacking) (earlier : List (List ℕ)) (cs : List Candidate) (old new : T) → asked old ≡ u → all old ≡ earlier ++ words old → AreRead reads old cs new → AreReadFor (between old new) u.owners earlier (words old) cs (words new)
    read_for u earlier cs old new same is read =
        let found = read_behind u (all old) earlier cs old new same refl is read in
        record { labels = found.0; read = found.1 }

pub unpacked_within : (outer inner : Around) → Within outer inner → ((s : State) → inner.left s → outer.left s)
    → (begun : State) (options : Option ConfigureOptions) (asked : Unpacking) (ended : Ended Done) → IsUnpackedOn inner begun options asked ended → IsUnpackedOn outer begun options asked ended
unpacked_within outer inner within left begun options asked ended u = record {
  table = u.table;
  lists = u.lists;
  ways = u.ways;
  state = u.state;
  opened = u.opened;
  end = u.end;
  given = left u.end u.given;
  ran = ended_within outer inner within options asked ended (held_anew u.table u.lists u.ways) u.state u.end u.ran;
}

-- what is held after an opening that merged the notes
pub opened_anew : (database : Recorded) (lists : Filed) (diversions : Diverted) → database.notes ≡ 0 → database.closed ≡ false → held database lists diversions ≡ held_anew database.records lists.lists diversions.ways
opened_anew database lists diversions number noting =
    ap (λ (n : ℕ). record { records = record { records = database.records; notes = n; closed = database.closed }; lists = lists.lists; ways = diversions.ways }) number
    ∙ ap (λ (b : Bool). record { records = record { records = database.records; notes = 0; closed = b }; lists = lists.lists; ways = diversions.ways }) noting

-- the same options by another word
pub with_options : (a : Around) (p q : ConfigureOptions) (u : Unpacking) (ended : Result (Ended Done) NotOpened) → p ≡ q → HasEndedAs a (Some p) u ended → HasEndedAs a (Some q) u ended
with_options a p q u ended e h = subst (λ (x : ConfigureOptions). HasEndedAs a (Some x) u ended) e h
