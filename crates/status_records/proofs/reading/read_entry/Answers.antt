use Rattle.std.proofs.Common.{◌∙◌, sym, ap}
use Rattle.status_records.specs.Words.{is_not_installed, agrees}
use Rattle.status_records.proofs.SameRecords.{agree_by, both_off}
use Rattle.status_records.proofs.Missing.{missing_name, missing_status, missing_version, said_gone, said_record}
use Rattle.status_records.proofs.reading.read_entry.Goals as goal

pub returns-in_default-clause-none : goal.returns-in_default-clause-none
returns-in_default-clause-none c = missing_name c.args.fields.now c.in_default.ensures.none c.requires.readable

pub returns-in_default-status_in-clause-none : goal.returns-in_default-status_in-clause-none
returns-in_default-status_in-clause-none c = missing_status c.args.fields.now c.in_default-status_in.ensures.none c.requires.readable

pub returns-then-is_not_installed-clause-some : goal.returns-then-is_not_installed-clause-some
returns-then-is_not_installed-clause-some c =
    let s = c.in-Some-status_in.status in
    said_gone c.args.fields.now c.in_ok-package.package c.in-Some.name.now s.want s.flag s.word c.in-Some.ensures.some c.in-Some-status_in.ensures.some (sym (c.is_not_installed.ensures ∙ ap is_not_installed c.state.ensures) ∙ c.if-is_not_installed.true) c.in_ok-package.ensures

pub record_of-requires-clause-agree : goal.record_of-requires-clause-agree
record_of-requires-clause-agree c =
    let s = c.in-Some-status_in.status in
    agree_by (agrees s.word _ _) (λ off. c.requires.agree (s.want, s.flag, s.word, c.in-Some-status_in.ensures.some, both_off (is_not_installed _) (agrees s.word _ _) (sym (c.is_not_installed.ensures ∙ ap is_not_installed c.state.ensures) ∙ c.if-is_not_installed.false) off))

pub returns-in_default-2-clause-none : goal.returns-in_default-2-clause-none
returns-in_default-2-clause-none c =
    let fs = c.args.fields.now in
    let s = c.in-Some-status_in.status in
    missing_version fs s.want s.flag s.word c.in-Some-status_in.ensures.some (sym (c.is_not_installed.ensures ∙ ap is_not_installed c.state.ensures) ∙ c.if-is_not_installed.false) (rw c.in_default-2.is at c.in_ok-version.ensures.none) c.requires.readable

pub returns-clause-some : goal.returns-clause-some
returns-clause-some c =
    let fs = c.args.fields.now in
    let s = c.in-Some-status_in.status in
    let r = c.in_ok-kept in
    let version = rw c.in-Some-2.is at c.in_ok-version.ensures.some in
    said_record fs r.kept c.in_ok-package.package c.in-Some.name.now c.in-Some-2.version s.want s.flag s.word c.in-Some.ensures.some c.in-Some-status_in.ensures.some version.0 (sym (c.is_not_installed.ensures ∙ ap is_not_installed c.state.ensures) ∙ c.if-is_not_installed.false)
    c.in_ok-package.ensures (agree_by (agrees s.word _ _) (λ off. c.requires.agree (s.want, s.flag, s.word, c.in-Some-status_in.ensures.some, both_off (is_not_installed _) (agrees s.word _ _) (sym (c.is_not_installed.ensures ∙ ap is_not_installed c.state.ensures) ∙ c.if-is_not_installed.false) off))) record {
      name_is = r.ensures.name;
      want_is = r.ensures.want;
      flag_is = r.ensures.flag;
      state_is = r.ensures.state;
      version_is = r.ensures.version;
      config_is = r.ensures.config;
      removed_is = r.ensures.removed;
      conffiles_are = r.ensures.conffiles;
      pending_are = r.ensures.pending;
      triggers_pending = r.ensures.triggers_pending;
      triggers_awaited = r.ensures.triggers_awaited;
      fields_are = r.ensures.fields;
    }
