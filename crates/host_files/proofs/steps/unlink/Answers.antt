use Rattle.std.proofs.Common.{◌≡◌, [], ap, ◌∙◌, refl, string_bytes}
use Rattle.host_files.specs.SystemCalls.{changes_in}
use Rattle.host_files.specs.Places.{place_of}
use Rattle.host_files.specs.Shown.{IsDoneBy, IsTakenFrom}
use Rattle.host_files.proofs.Answered.{not_taken, taken_from}
use Rattle.host_files.specs.declared.record.Asked.TheVariants.{Take}
use Rattle.host_files.specs.declared.trace.SystemCall.TheVariants.{UnlinkAt}
use Rattle.host_files.specs.declared.trace.Trace.{Trace}
use Rattle.host_files.proofs.steps.unlink.Goals as goal

pub returns-in_err-place : goal.returns-in_err-place
returns-in_err-place c = not_taken (IsDoneBy (string_bytes c.args.root.now.front) c.args.root.now.owners (Take c.args.path.now)) (λ m. IsTakenFrom UnlinkAt (place_of (string_bytes c.args.root.now.front) c.args.path.now) (changes_in m)) c.args.system.now.trace.calls c.from_residual.result c.from_residual.ensures.0 (ap changes_in c.requires.begun)

pub returns : goal.returns
returns c =
    let same : c.as_str.result.now ≡ place_of (string_bytes c.args.root.now.front) c.args.path.now = c.as_str.ensures.value ∙ c.in_ok-place.ensures.place in
    let begun : c.entry_of.new.system.trace.calls ≡ [] = ap (λ (t : Trace). t.calls) c.in_ok-opened.ensures.same ∙ c.requires.begun in
    taken_from UnlinkAt (λ directory name calls. refl) (place_of (string_bytes c.args.root.now.front) c.args.path.now) c.as_str.result.now (string_bytes c.in_ok-opened.opened.place) c.in_ok-opened.name.now c.entry_of.new.system.trace.calls c.unlink_at.new.self.trace.calls c.unlink_at.result c.unlink_at.ensures.err same c.in_ok-opened.ensures.entry begun c.unlink_at.ensures.made
