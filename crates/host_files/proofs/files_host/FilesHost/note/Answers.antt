use Rattle.std.proofs.Common.{◌<◌, string_bytes, subst}
use Rattle.host_files.specs.Notes.{noted}
use Rattle.host_files.proofs.RememberedLaws.{still_known, still_new, still_vacant}
use Rattle.host_files.proofs.Replayed.{settled_note}
use Rattle.host_files.proofs.files_host.FilesHost.note.Goals as goal

pub invariant_of-self : goal.invariant_of-self
invariant_of-self g c = record {
  explained = λ some. c.args.self.now.explained (subst (λ n. 0 < n) c.note.ensures.faults some);
  settled = settled_note g.D.Disk.model g.D.Disk.sound (noted c.args.note.now) c.args.self.now.told.log.notes c.note.new.self.log.notes c.note.ensures.notes c.requires.owed c.args.self.now.settled;
  known = λ s is. still_known (string_bytes s) (noted c.args.note.now) _ c.args.self.now.told.log.notes c.note.new.self.log.notes c.note.ensures.notes (c.args.self.now.known s) (c.take_note.ensures.directory s is);
  last = λ f is. still_new f (noted c.args.note.now) _ c.args.self.now.told.log.notes c.note.new.self.log.notes c.note.ensures.notes (c.args.self.now.last f) (c.take_note.ensures.file f is);
  vacant = λ v is. still_vacant v (noted c.args.note.now) _ c.args.self.now.told.log.notes c.note.new.self.log.notes c.note.ensures.notes (c.args.self.now.vacant v) (c.take_note.ensures.vacant v is);
}
