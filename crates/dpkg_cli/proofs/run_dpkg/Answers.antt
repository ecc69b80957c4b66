use Rattle.std.proofs.Common.{ℕ, map, string_bytes, subst, sym}
use Rattle.dpkg_words.specs.Translated.{translated}
use Rattle.dpkg_cli.specs.Runs.{IsDpkgAnswer}
use Rattle.dpkg_cli.proofs.Named.{want_answer}
use Rattle.dpkg_cli.proofs.run_dpkg.Goals as goal

pub returns-in-Err : goal.returns-in-Err
returns-in-Err g c =
    let come = translated (map string_bytes c.args.words.now) in
    subst (λ (n : ℕ). IsDpkgAnswer g.D.Disk.model come n) (sym c.refuse.ensures) (want_answer g.D.Disk.model come)
