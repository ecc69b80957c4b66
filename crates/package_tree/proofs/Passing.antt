-- What is told of a fault that a `?` passes on.
use Rattle.std.proofs.Common.{◌≡◌, ◌∙◌, ◌+◌, ℕ, List, Result, Ok, Err, sym, ap, subst}
use Rattle.std.specs.Prelude.{IfErr, IsErrAnd}
use Rattle.control_fields.specs.Grammar.{ReadsOne, lines_of}
use Rattle.control_fields.specs.declared.field.Field.{Field}
use Rattle.host_core.specs.Host.{State, NoFault}
use Rattle.host_core.proofs.Counted.{declined_then, no_fault_then}
use Rattle.host_core.specs.declared.fault.HostFault.{HostFault}
use Rattle.host_core.specs.declared.fault.HostFault.TheVariants as host
use Rattle.package_tree.specs.Fault.{fault_of, CountsTree, IsHostFault}
use Rattle.package_tree.specs.ControlFile.{IsFieldFault, IsTextFault}
use Rattle.package_tree.specs.declared.fault.TreeFault.{TreeFault}
use Rattle.package_tree.specs.declared.fault.TreeFault.TheVariants.{Twice, NoRoom, NoControl, Control, FieldMissing, FieldBad, PathBad, Reserved, ConffileNotShipped, ConffileShipped, ConffileFlag, TooLarge, TooMany, Device, NoMemory, Declined}

-- it is that of the call
pub passed_fault : {T : Type 0} (P : TreeFault → Type 0) (r : Result T TreeFault) (fault : TreeFault) → IsErrAnd r (λ e. e ≡ fault) → P fault → IfErr r P
passed_fault P (Ok x) fault passed told = absurd passed
passed_fault P (Err e) fault passed told = subst P (sym passed) told

-- a fault of the host is none of the tree
pub host_fault : (fault : HostFault) → IsHostFault (fault_of fault)
host_fault host.Device = tt
host_fault host.NoMemory = tt
host_fault host.Declined = tt

-- a fault of the fields is one of the text that has them
pub told_fields : (text : List ℕ) (paragraph : List Field) (fault : TreeFault) → ReadsOne (lines_of text) paragraph → IsFieldFault paragraph fault → IsTextFault text fault
told_fields text paragraph Twice reads is = absurd is
told_fields text paragraph (NoRoom path) reads is = absurd is
told_fields text paragraph NoControl reads is = absurd is
told_fields text paragraph (Control fault) reads is = absurd is
told_fields text paragraph (FieldMissing name) reads is = (paragraph, reads, is)
told_fields text paragraph (FieldBad name) reads is = (paragraph, reads, is)
told_fields text paragraph (PathBad path) reads is = absurd is
told_fields text paragraph (Reserved path) reads is = absurd is
told_fields text paragraph (ConffileNotShipped name) reads is = absurd is
told_fields text paragraph (ConffileShipped path) reads is = absurd is
told_fields text paragraph (ConffileFlag line) reads is = absurd is
told_fields text paragraph (TooLarge path) reads is = absurd is
told_fields text paragraph TooMany reads is = absurd is
told_fields text paragraph Device reads is = absurd is
told_fields text paragraph NoMemory reads is = tt
told_fields text paragraph Declined reads is = absurd is

-- The counts of a fault are those since an earlier state from which none was counted.
counts_since : (T U : Type 0) (a b c : State) (fault : TreeFault) → NoFault a b → CountsTree {T = T} b c (Err fault) → CountsTree {T = U} a c (Err fault)
counts_since T U a b c Twice same told = no_fault_then a b c same told
counts_since T U a b c (NoRoom path) same told = no_fault_then a b c same told
counts_since T U a b c NoControl same told = no_fault_then a b c same told
counts_since T U a b c (Control fault) same told = no_fault_then a b c same told
counts_since T U a b c (FieldMissing name) same told = no_fault_then a b c same told
counts_since T U a b c (FieldBad name) same told = no_fault_then a b c same told
counts_since T U a b c (PathBad path) same told = no_fault_then a b c same told
counts_since T U a b c (Reserved path) same told = no_fault_then a b c same told
counts_since T U a b c (ConffileNotShipped name) same told = no_fault_then a b c same told
counts_since T U a b c (ConffileShipped path) same told = no_fault_then a b c same told
counts_since T U a b c (ConffileFlag line) same told = no_fault_then a b c same told
counts_since T U a b c (TooLarge path) same told = no_fault_then a b c same told
counts_since T U a b c TooMany same told = no_fault_then a b c same told
counts_since T U a b c Device same told = record { once = told.once ∙ ap (λ n. n + 1) same.faults; last = told.last }
counts_since T U a b c NoMemory same told = no_fault_then a b c same told
counts_since T U a b c Declined same told = declined_then a b c same told

pub passed_counts : (T U : Type 0) (a b c : State) (fault : TreeFault) (r : Result U TreeFault) → IsErrAnd r (λ e. e ≡ fault) → NoFault a b → CountsTree {T = T} b c (Err fault) → CountsTree {T = U} a c r
passed_counts T U a b c fault (Ok x) passed same told = absurd passed
passed_counts T U a b c fault (Err e) passed same told = subst (λ (f : TreeFault). CountsTree {T = U} a c (Err f)) (sym passed) (counts_since T U a b c fault same told)
