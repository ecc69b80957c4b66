-- What an install leaves of the administration.
use Rattle.std.proofs.Common.{Bool, IsTrue, List, subst, sym}
use Rattle.configure_run.specs.declared.options.ConfigureOptions.{ConfigureOptions}
use Rattle.host_core.specs.Host.{State}
use Rattle.unit_reports.specs.Held.{Held}
use Rattle.unit_reports.specs.declared.report.Unit.{Unit as AUnit}
use Rattle.unpack_relations.specs.declared.options.UnpackOptions.{UnpackOptions}
use Rattle.dpkg_session.specs.History.{Stands}
use Rattle.dpkg_session.specs.Installs.{IsInstall}
use Rattle.dpkg_session.specs.Standing.{IsStanding}
use Rattle.dpkg_session.specs.declared.report.Candidate.{Candidate}
use Rattle.dpkg_session.proofs.Carries.{Carries, carries_found, carries_standing}
use Rattle.dpkg_session.specs.Rereading.{HasReread, with_ways}
use Rattle.dpkg_session.proofs.Again.{standing_reread}
use Rattle.dpkg_session.proofs.Reread.{found_reread}
use Rattle.dpkg_session.proofs.Configures.{configure_carries}
use Rattle.dpkg_session.proofs.Found.{found_run}
use Rattle.dpkg_session.proofs.Runs.{falls_run, ready_run}
use Rattle.dpkg_session.proofs.Standings.{order_standing, standing_found, standing_run}

module _ (auto : UnpackOptions) (cs : List Candidate) (policy : ConfigureOptions) (unpacked configured : List AUnit) (before after : Held) (s t : State) (is : IsInstall auto cs policy unpacked configured before after s t) where
  mid : Held
  mid = with_ways is.mid is.configures.0

  n : State
  n = is.configures.1

  read : HasReread is.mid is.configures.0 is.m n
  unfolding n
  read = is.configures.2

  second : Carries mid after n t
  unfolding mid n
  second = configure_carries _ policy configured mid after n t is.configures.3

  pub install_falls : IsTrue t.honest → IsTrue s.honest
  install_falls h = falls_run auto cs unpacked before is.mid s is.m is.unpacks (read.reads.honest (second.falls h))

  pub install_standing : IsTrue t.honest → IsStanding before s.world → IsStanding after t.world
  unfolding mid
  install_standing h standing =
      let there = second.falls h in
      let honest = read.reads.honest there in
      carries_standing mid after n t second h
      (subst (IsStanding mid) (sym read.reads.world)
      (standing_reread is.mid is.configures.0 is.m.world (read.found there)
      (standing_run auto cs unpacked before is.mid s is.m is.unpacks honest (ready_run auto cs unpacked before is.mid s is.m is.unpacks (λ at_start. order_standing before s.world standing) honest) standing)))

  pub install_found : IsTrue t.honest → Stands before s.world → Stands after t.world
  unfolding mid
  install_found h found =
      let there = second.falls h in
      let honest = read.reads.honest there in
      carries_found mid after n t second h
      (subst (Stands mid) (sym read.reads.world)
      (found_reread is.mid is.configures.0 is.m.world (read.found there)
      (found_run auto cs unpacked before is.mid s is.m is.unpacks honest (ready_run auto cs unpacked before is.mid s is.m is.unpacks (λ at_start. order_standing before s.world (standing_found before s.world found)) honest) found)))
