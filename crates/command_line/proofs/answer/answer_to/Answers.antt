use Rattle.std.proofs.Common.{rules, ◌≡◌, ◌∙◌, [], ap, map, string_bytes, true, None, Some, refl, inl, inr, subst, sym}
use Rattle.command_words.specs.Commands.{asked_of}
use Rattle.command_words.specs.Topics.{HasScreen, named_in}
use Rattle.command_words.specs.declared.words.Asked.TheVariants.{CompareVersions, Configure, Divert, Help, Install, Names, ProcessTriggers, Purge, Query, Remove, RemoveSelected, Select, Undivert, Unpack, Verify, Version}
use Rattle.command_line.specs.Reports.{comparison_answer, memory_answer, names_answer, prints, trees_answer, usage_answer, version_answer, work_answer}
use Rattle.command_line.specs.declared.answer.Answer.{Answer}
use Rattle.command_line.proofs.Held.{appends_nothing}
use Rattle.command_line.specs.Packages.{options_of}
use Rattle.command_line.specs.Roots.{Around, around}
use Rattle.command_line.proofs.Helped.{help_told}
use Rattle.command_line.proofs.Named.{divert_owner}
use Rattle.command_line.proofs.Printed.{left_none, or_else, quiet_comparison, quiet_left}
use Rattle.command_line.proofs.Trees.{with_options}
use Rattle.command_line.proofs.answer.answer_to.Goals as goal

pub returns-in-Ok-Names-clause-answered : goal.returns-in-Ok-Names-clause-answered
returns-in-Ok-Names-clause-answered g c =
    let asked : asked_of (map string_bytes c.args.words.now) ≡ Some Names = search rules in
    (names_answer, rw asked (inl refl), c.whole.ensures.left names_answer (g.O.Write.contents c.args.out.now) c.names.ensures)

pub returns-in-Ok-Version-clause-answered : goal.returns-in-Ok-Version-clause-answered
returns-in-Ok-Version-clause-answered g c =
    let asked : asked_of (map string_bytes c.args.words.now) ≡ Some Version = search rules in
    (version_answer, rw asked (inl refl), c.whole-in-Ok-Version.ensures.left version_answer (g.O.Write.contents c.args.out.now) c.versioned.ensures)

pub returns-in-Ok-Help-clause-answered : goal.returns-in-Ok-Help-clause-answered
returns-in-Ok-Help-clause-answered g c =
    let asked : asked_of (map string_bytes c.args.words.now) ≡ Some (Help c.in-Ok-Help.topic) = search rules in
    let told = help_told c.in-Ok-Help.topic c.args.hosts.now c.helped.result c.helped.ensures in
    (told.0, rw asked told.1, c.whole-in-Ok-Help.ensures.left told.0 (g.O.Write.contents c.args.out.now) told.2)

pub returns-in-Ok-CompareVersions-clause-answered : goal.returns-in-Ok-CompareVersions-clause-answered
returns-in-Ok-CompareVersions-clause-answered g c =
    let asked : asked_of (map string_bytes c.args.words.now) ≡ Some (CompareVersions c.in-Ok-CompareVersions.comparison) = search rules in
    (comparison_answer c.in-Ok-CompareVersions.comparison, rw asked (inl refl), c.whole-in-Ok-CompareVersions.ensures.left (comparison_answer c.in-Ok-CompareVersions.comparison) (g.O.Write.contents c.args.out.now) c.compared.ensures.answer)

pub returns-in-Ok-Query-clause-answered : goal.returns-in-Ok-Query-clause-answered
returns-in-Ok-Query-clause-answered g c =
    let asked : asked_of (map string_bytes c.args.words.now) ≡ Some (Query c.in-Ok-Query.query) = search rules in
    let told = c.queried.ensures.answered in
    (told.0, rw asked told.1, c.whole-in-Ok-Query.ensures.left told.0 (g.O.Write.contents c.args.out.now) told.2)

pub returns-in-Ok-Verify-clause-answered : goal.returns-in-Ok-Verify-clause-answered
returns-in-Ok-Verify-clause-answered g c =
    let asked : asked_of (map string_bytes c.args.words.now) ≡ Some (Verify c.in-Ok-Verify.asked) = search rules in
    let told = c.verified.ensures.answered in
    (told.0, rw asked (inl told.1), c.whole-in-Ok-Verify.ensures.left told.0 (g.O.Write.contents c.args.out.now) told.2)

pub diverted-requires : goal.diverted-requires
diverted-requires g c =
    let asked : asked_of (map string_bytes c.args.words.now) ≡ Some (Divert c.in-Ok-Divert.asked) = search rules in
    divert_owner (map string_bytes c.args.words.now) c.in-Ok-Divert.asked asked

pub returns-in-Ok-Divert-clause-answered : goal.returns-in-Ok-Divert-clause-answered
returns-in-Ok-Divert-clause-answered g c =
    let asked : asked_of (map string_bytes c.args.words.now) ≡ Some (Divert c.in-Ok-Divert.asked) = search rules in
    let told = c.diverted.ensures.answered in
    (told.0, rw asked told.1, c.whole-in-Ok-Divert.ensures.left told.0 (g.O.Write.contents c.args.out.now) told.2)

pub returns-in-Ok-Undivert-clause-answered : goal.returns-in-Ok-Undivert-clause-answered
returns-in-Ok-Undivert-clause-answered g c =
    let asked : asked_of (map string_bytes c.args.words.now) ≡ Some (Undivert c.in-Ok-Undivert.asked) = search rules in
    let told = c.undiverted.ensures.answered in
    (told.0, rw asked told.1, c.whole-in-Ok-Undivert.ensures.left told.0 (g.O.Write.contents c.args.out.now) told.2)

pub returns-in-Ok-Unpack-clause-answered : goal.returns-in-Ok-Unpack-clause-answered
returns-in-Ok-Unpack-clause-answered g c =
    let asked : asked_of (map string_bytes c.args.words.now) ≡ Some (Unpack c.in-Ok-Unpack.unpacking) = search rules in
    let ended = c.unpacked.ensures.ended in
    (trees_answer ended.0, rw asked (inl (ended.0, ended.1, refl)), ended.2)

pub returns-in-Ok-Install-clause-answered : goal.returns-in-Ok-Install-clause-answered
returns-in-Ok-Install-clause-answered g c =
    let unpacking = c.in-Ok-Install.unpacking in
    let asked : asked_of (map string_bytes c.args.words.now) ≡ Some (Install unpacking) = search rules in
    let old = c.args.hosts.now in
    let new = c.unpacked-in-Ok-Install.new.hosts in
    let a : Around = around g.S.Hosts old new in
    let ended = c.unpacked-in-Ok-Install.ensures.ended in
    let as_forced = with_options a c.options_of-options.result (options_of unpacking.forced) unpacking ended.0 c.options_of-options.ensures ended.1 in
    (trees_answer ended.0, rw asked (inl (ended.0, as_forced, refl)), ended.2)

pub returns-in-Ok-Configure-clause-answered : goal.returns-in-Ok-Configure-clause-answered
returns-in-Ok-Configure-clause-answered g c =
    let asked : asked_of (map string_bytes c.args.words.now) ≡ Some (Configure c.in-Ok-Configure.asked) = search rules in
    let ended = c.configured.ensures.ended in
    (work_answer ended.0, rw asked (inl (ended.0, ended.1, refl)), ended.2)

pub returns-in-Ok-ProcessTriggers-clause-answered : goal.returns-in-Ok-ProcessTriggers-clause-answered
returns-in-Ok-ProcessTriggers-clause-answered g c =
    let asked : asked_of (map string_bytes c.args.words.now) ≡ Some (ProcessTriggers c.in-Ok-ProcessTriggers.asked) = search rules in
    let ended = c.processed.ensures.ended in
    (work_answer ended.0, rw asked (inl (ended.0, ended.1, refl)), ended.2)

pub returns-in-Ok-Remove-clause-answered : goal.returns-in-Ok-Remove-clause-answered
returns-in-Ok-Remove-clause-answered g c =
    let asked : asked_of (map string_bytes c.args.words.now) ≡ Some (Remove c.in-Ok-Remove.asked) = search rules in
    let ended = c.removed.ensures.ended in
    (work_answer ended.0, rw asked (inl (ended.0, ended.1, refl)), ended.2)

pub returns-in-Ok-Purge-clause-answered : goal.returns-in-Ok-Purge-clause-answered
returns-in-Ok-Purge-clause-answered g c =
    let asked : asked_of (map string_bytes c.args.words.now) ≡ Some (Purge c.in-Ok-Purge.asked) = search rules in
    let ended = c.purged.ensures.ended in
    (work_answer ended.0, rw asked (inl (ended.0, ended.1, refl)), ended.2)

pub returns-in-Ok-Select-clause-answered : goal.returns-in-Ok-Select-clause-answered
returns-in-Ok-Select-clause-answered g c =
    let asked : asked_of (map string_bytes c.args.words.now) ≡ Some (Select c.in-Ok-Select.asked) = search rules in
    let ended = c.selected.ensures.ended in
    (work_answer ended.0, rw asked (inl (ended.0, ended.1, refl)), ended.2)

pub returns-in-Ok-RemoveSelected-clause-answered : goal.returns-in-Ok-RemoveSelected-clause-answered
returns-in-Ok-RemoveSelected-clause-answered g c =
    let asked : asked_of (map string_bytes c.args.words.now) ≡ Some (RemoveSelected c.in-Ok-RemoveSelected.asked) = search rules in
    let ended = c.removed_selected.ensures.ended in
    (work_answer ended.0, rw asked (inl (ended.0, ended.1, refl)), ended.2)

pub returns-in-Err-Usage-clause-answered : goal.returns-in-Err-Usage-clause-answered
returns-in-Err-Usage-clause-answered g c =
    let none : asked_of (map string_bytes c.args.words.now) ≡ None = search rules in
    let screen : HasScreen (named_in (map string_bytes c.args.words.now)) (string_bytes c.in-Err-Usage.text) = search rules in
    (usage_answer (string_bytes c.in-Err-Usage.text), rw none (inl (string_bytes c.in-Err-Usage.text, screen, refl)), left_none (usage_answer (string_bytes c.in-Err-Usage.text)) c.complained.result (g.O.Write.contents c.args.out.now) c.complained.ensures)

pub returns-in-Err-NoMemory-clause-answered : goal.returns-in-Err-NoMemory-clause-answered
returns-in-Err-NoMemory-clause-answered g c = (memory_answer, inr (refl, refl), ([], [], refl, appends_nothing (g.O.Write.contents c.args.out.now)))

pub returns-in-Ok-CompareVersions-clause-quiet : goal.returns-in-Ok-CompareVersions-clause-quiet
returns-in-Ok-CompareVersions-clause-quiet g c =
    let comparison = c.in-Ok-CompareVersions.comparison in
    quiet_left c.compared.result c.whole-in-Ok-CompareVersions.result (λ a. a ≡ comparison_answer comparison) _ c.whole-in-Ok-CompareVersions.ensures.output c.compared.ensures.answer
    (λ a is. inl (ap (λ (x : Answer). x.output) is ∙ quiet_comparison comparison))

pub returns-in-Ok-Query-clause-quiet : goal.returns-in-Ok-Query-clause-quiet
returns-in-Ok-Query-clause-quiet g c =
    let asked : asked_of (map string_bytes c.args.words.now) ≡ Some (Query c.in-Ok-Query.query) = search rules in
    quiet_left c.queried.result c.whole-in-Ok-Query.result _ _ c.whole-in-Ok-Query.ensures.output c.queried.ensures.quiet (λ a is. or_else is (λ good. subst (λ o. prints o ≡ true) (sym asked) good))

pub returns-in-Ok-Divert-clause-quiet : goal.returns-in-Ok-Divert-clause-quiet
returns-in-Ok-Divert-clause-quiet g c =
    let asked : asked_of (map string_bytes c.args.words.now) ≡ Some (Divert c.in-Ok-Divert.asked) = search rules in
    quiet_left c.diverted.result c.whole-in-Ok-Divert.result _ _ c.whole-in-Ok-Divert.ensures.output c.diverted.ensures.quiet (λ a is. or_else is (λ good. subst (λ o. prints o ≡ true) (sym asked) good))

pub returns-in-Ok-Undivert-clause-quiet : goal.returns-in-Ok-Undivert-clause-quiet
returns-in-Ok-Undivert-clause-quiet g c =
    let asked : asked_of (map string_bytes c.args.words.now) ≡ Some (Undivert c.in-Ok-Undivert.asked) = search rules in
    quiet_left c.undiverted.result c.whole-in-Ok-Undivert.result _ _ c.whole-in-Ok-Undivert.ensures.output c.undiverted.ensures.quiet (λ a is. or_else is (λ good. subst (λ o. prints o ≡ true) (sym asked) good))
