use Rattle.std.proofs.Common.{◌≡◌, ◌∙◌, Some, None, inl, inr, map, refl, string_bytes}
use Rattle.command_line.specs.Rehearsed.{Rehearsal, reply_of}
use Rattle.command_line.specs.Reports.{memory_answer}
use Rattle.command_line.proofs.Told.{behind_status}
use Rattle.command_words.specs.Commands.{rehearsal_of}
use Rattle.dpkg_cli.proofs.run_telling.Goals as goal

want_status : (rehearsal : Rehearsal) → (reply_of rehearsal memory_answer).status ≡ 2
want_status None = refl
want_status (Some rehearsed) = refl

-- an answer that was given ends with its status, or with 2; want of memory ends with 2
pub returns-clause-answered : goal.returns-clause-answered
returns-clause-answered g c =
    let told = c.run_words-status.ensures.answered in (
      c.new-hosts.result.faults,
      c.run_words-status.new.hosts.faults,
      c.new-hosts.result.beside,
      (
        told.0,
        told.1,
        told.5,
        elim told.6 [
          | inl answers ↦ inl answers
          | inr wants ↦ inr wants.0
        ],
        behind_status told.1 _ _ _ _ told.4 c.run_words-status.result told.0.status (elim told.7 [
          | inl given ↦ elim given [
            | inl written ↦ inl written.status
            | inr cut ↦ inr cut.0
          ]
          | inr worse ↦ elim worse [
            | inl given ↦ elim given [
              | inl written ↦ inr (written.status ∙ want_status (rehearsal_of (map string_bytes c.args.words.now)))
              | inr cut ↦ inr cut.0
            ]
            | inr part ↦ elim part.1.3 [
              | inl written ↦ inr written.status
              | inr cut ↦ inr cut.0
            ]
          ]
        ]) told.8,
      ),
    )
