use Rattle.std.proofs.Common.{rules, ◌≡◌, sym, ap, ◌∙◌}
use Rattle.std.proofs.lemmas.Bool.{true≢false}
use Rattle.std.specs.Prelude.{◌==◌, List, length}
use Rattle.host_core.specs.Paths.{Path}
use Rattle.administration.proofs.Bareness.{bare_is, no_items, no_length}
use Rattle.administration.proofs.bare.is_bare.Goals as goal

pub returns-then-listing : goal.returns-then-listing
returns-then-listing g c = record {
  looks = record {
    found = λ h.
        let is = bare_is _ c.args.path.now _ c.in_ok-listing.listing.bad (g.H.Host.tree c.args.host.now (c.list.ensures.silent.honest h)) (c.in_ok-listing.ensures.listed h) in
        (λ e. absurd (true≢false (sym e)), λ bare. absurd (true≢false (sym c.if-listing.true ∙ (is.1 bare).0)));
    reads = search rules;
    silent = search rules;
    counts = search rules;
  };
}

pub returns : goal.returns
returns g c = record {
  looks = record {
    found = λ h.
        let is = bare_is _ c.args.path.now _ c.in_ok-listing.listing.bad (g.H.Host.tree c.args.host.now (c.list.ensures.silent.honest h)) (c.in_ok-listing.ensures.listed h) in
        let names = c.in_ok-listing.listing.names in
        let empty : c.is_empty.result ≡ (length names == 0) = c.is_empty.ensures ∙ ap (λ (l : List Path). length l == 0) c.as_slice.ensures in
        (λ e. is.0 (c.if-listing.false, no_items names (sym empty ∙ e)), λ bare. empty ∙ no_length names (is.1 bare).1);
    reads = search rules;
    silent = search rules;
    counts = search rules;
  };
}
