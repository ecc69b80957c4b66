-- The answer to a verification against a tree, between an earlier moment and a later one.
use Rattle.std.proofs.Common.{◌≡◌, List, [], ℕ, Result, Ok, Err, IfOk, append-nil, refl, sym, inl}
use Rattle.host_core.specs.Host.{Reads, State}
use Rattle.host_core.proofs.Counted.{no_fault_same}
use Rattle.administration.specs.declared.fault.AdministrationFault.TheVariants.{NoMemory}
use Rattle.package_tree.specs.declared.fault.TreeFault.{TreeFault}
use Rattle.package_tree.specs.declared.package.Package.{Package}
use Rattle.command_words.specs.declared.owners.TreeOwners.{TreeOwners}
use Rattle.command_line.specs.Reading.{IsReadFor}
use Rattle.command_line.specs.Roots.{Around, Given, around}
use Rattle.command_line.specs.Verifying.{HasComparedUnder, IsComparedOn, IsComparedWith, IsUnverifiedOn, tree_answer}
use Rattle.command_line.specs.declared.answer.Answer.{Answer}
use Rattle.command_line.specs.declared.hosts.Hosts.{Ghosts}
use Rattle.command_line.specs.declared.steady.Unanswered.{Unanswered}
use Rattle.command_line.proofs.Trees.{Within, read_within}

-- by what its word was read as
pub compared_on : (outer inner : Around) → Within outer inner → (begun : State) (word : List ℕ) (owners : TreeOwners) (read : Result Package TreeFault) (result : Result Answer Unanswered)
    → IsReadFor inner owners word read → IfOk result (IsComparedWith outer.left begun word read) → IfOk result (IsComparedOn outer begun word owners)
compared_on outer inner within begun word owners read (Ok answer) is with = (read, read_within outer inner within owners word read is, with)
compared_on outer inner within begun word owners read (Err why) is with = tt

-- on a host behind the root's word
pub has_compared : {Hosts Opened : Type 0} (of : Ghosts Hosts Opened) (old mid new : Hosts) → Within (around of old new) (around of mid new) → (root word : List ℕ) (begun : State) (owners : TreeOwners) (result : Result Answer Unanswered)
    → of.root old root begun → IfOk result (IsComparedOn (around of mid new) begun word owners) → IfOk result (HasComparedUnder (around of old new) root word owners)
has_compared of old mid new within root word begun owners (Ok answer) behind on = (begun, behind, (on.0, read_within (around of old new) (around of mid new) within owners word on.0 on.1, on.2))
has_compared of old mid new within root word begun owners (Err why) behind on = tt

-- a tree that couldn't be read
pub refused_with : (left : Given) (begun : State) (word : List ℕ) (fault : TreeFault) (result : Result Answer Unanswered) → left begun → IfOk result (λ answer. answer ≡ tree_answer word fault) → IfOk result (IsComparedWith left begun word (Err fault))
refused_with left begun word fault (Ok answer) given is = (given, is)
refused_with left begun word fault (Err why) given is = tt

-- memory was wanting before the host was looked at
pub never_looked : (left : Given) (begun : State) → left begun → IsUnverifiedOn left begun NoMemory
never_looked left begun given =
    let same : Reads begun begun = record { honest = λ h. h; world = refl; added = []; failed = tt; events = sym (append-nil begun.events) } in
    record {
      from = begun;
      end = begun;
      looked = record { given = given; reads = same; silent = record { honest = λ h. h; scripts = refl } };
      before = record { reads = same; alone = λ h. no_fault_same begun begun refl };
      counts = tt;
      damage = λ h. inl tt;
    }
