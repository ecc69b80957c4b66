use Rattle.std.proofs.Common.{ℕ, map, string_bytes, subst, sym}
use Rattle.dpkg_words.specs.declared.translation.Translated.TheVariants.{Ours}
use Rattle.dpkg_cli.specs.Runs.{IsAnswered}
use Rattle.dpkg_cli.proofs.Named.{want_answer}
use Rattle.dpkg_cli.proofs.run_filtering.Goals as goal

pub returns-in-Err-clause-answered : goal.returns-in-Err-clause-answered
returns-in-Err-clause-answered g c =
    let words = map string_bytes c.args.words.now in
    subst (λ (n : ℕ). IsAnswered g.D.Disk.model words n) (sym c.refuse.ensures) (want_answer g.D.Disk.model (Ours words))
