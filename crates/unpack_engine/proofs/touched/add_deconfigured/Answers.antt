use Rattle.std.proofs.Common.{◌≡◌, ◌≤◌, ◌||◌, ◌∙◌, Bool, List, true, length, sym, ap, arith}
use Rattle.std.specs.BTreeSet.{contains_text}
use Rattle.std.specs.List.{list_any}
use Rattle.std.specs.String.{string_bytes}
use Rattle.std.proofs.lemmas.List.{take_all}
use Rattle.std.proofs.lemmas.Map.Text.{btree_set_updates_text}
use Rattle.status_records.specs.Records.{record_in}
use Rattle.status_records.specs.declared.record.Record.{Record}
use Rattle.unpack_engine.specs.Touched.{is_deconfigured}
use Rattle.unpack_engine.proofs.Names.{is_kept_so, kept_entered, named_kept, passed_by}
use Rattle.unpack_engine.proofs.touched.add_deconfigured.Goals as goal
use Rattle.unpack_engine.proofs.touched.add_deconfigured.Goals.{then-is_deconfigured+in_ok-from_str+in_ok-insert, else-is_deconfigured}

pub loop-other-preserved : goal.loop-other-preserved
loop-other-preserved c = λ q.
    let keep : Record → Bool = λ r. is_deconfigured (record_in c.args.database.now.records r.name) r in
    let before : Bool = contains_text c.args.set.now q in
    let mid : Bool = contains_text c.loop-other.set q in
    let one : Record = c.other-item.result in
    let is : keep one ≡ c.is_deconfigured.result = sym (ap (λ o. is_deconfigured o one) c.get.ensures) ∙ sym c.is_deconfigured.ensures in
    elim c.if-is_deconfigured.branch [
      | then-is_deconfigured+in_ok-from_str+in_ok-insert w ↦ (let key = string_bytes w.in_ok-from_str.field-0 in
          ap (λ s. contains_text s q) w.set-is
          ∙ kept_entered keep q c.args.others.now c.loop-other.other-index one c.loop-other-test.true c.other-item.is before mid (c.loop-other.invariant q) key (contains_text w.insert.new.self q)
          (is ∙ w.if-is_deconfigured.true) (w.in_ok-from_str.ensures.ok ∙ w.as_str.ensures) (btree_set_updates_text key c.loop-other.set w.insert.new.self true w.in_ok-insert.ensures.updates q))
      | else-is_deconfigured w ↦ ap (λ s. contains_text s q) w.set-is
          ∙ passed_by keep q c.args.others.now c.loop-other.other-index one c.loop-other-test.true c.other-item.is before mid (c.loop-other.invariant q) (is ∙ w.if-is_deconfigured.false)
    ]

pub returns : goal.returns
returns c = λ q.
    let keep : Record → Bool = λ r. is_deconfigured (record_in c.args.database.now.records r.name) r in
    let end : length c.args.others.now ≤ c.loop-other.other-index = omega (arith, c.loop-other-test.false) in
    c.loop-other.invariant q
    ∙ ap (λ (rs : List Record). contains_text c.args.set.now q || list_any (is_kept_so keep q) rs) (take_all c.loop-other.other-index c.args.others.now end)
    ∙ ap (λ b. contains_text c.args.set.now q || b) (sym (named_kept keep q c.args.others.now))
