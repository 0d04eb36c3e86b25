use Rattle.std.proofs.Common.{◌∙◌, ap, sym, subst}
use Rattle.std.proofs.lemmas.Result.{on_ok_weaker}
use Rattle.fd_language.specs.declared.TheConstants.{INFINITY}
use Rattle.domain_ranges.specs.Spans.{IsSpans, members}
use Rattle.domain_ranges.proofs.Spans.{within_high}
use Rattle.domain_ranges.proofs.Outcomes.{on_err_both}
use Rattle.domain_ranges.proofs.Members.{members_is, three_spans}
use Rattle.domain_ranges.proofs.Removal.{but}
use Rattle.domain_ranges.proofs.SplitIntervals.{place_of, parted_spans, parted_within}
use Rattle.domain_ranges.proofs.intervals.leave_out.Goals as goal

pub part-requires-clause-place : goal.part-requires-clause-place
part-requires-clause-place c =
    let ss = c.args.list.now.items in
    let at = place_of INFINITY c.place_from-place.result c.args.n ss c.as_slice.result.now c.as_slice.ensures c.requires.spans c.place_from-place.ensures.before
    c.place_from-place.ensures.after c.place_from-place.ensures.place c.requires.member in
    at.0

pub part-requires-clause-low : goal.part-requires-clause-low
part-requires-clause-low c =
    let ss = c.args.list.now.items in
    let at = place_of INFINITY c.place_from-place.result c.args.n ss c.as_slice.result.now c.as_slice.ensures c.requires.spans c.place_from-place.ensures.before
    c.place_from-place.ensures.after c.place_from-place.ensures.place c.requires.member in
    at.1

pub part-requires-clause-high : goal.part-requires-clause-high
part-requires-clause-high c =
    let ss = c.args.list.now.items in
    let at = place_of INFINITY c.place_from-place.result c.args.n ss c.as_slice.result.now c.as_slice.ensures c.requires.spans c.place_from-place.ensures.before
    c.place_from-place.ensures.after c.place_from-place.ensures.place c.requires.member in
    at.2

pub part-requires-clause-fits : goal.part-requires-clause-fits
part-requires-clause-fits c = within_high 0 INFINITY c.args.list.now.items c.args.n c.requires.spans c.requires.member

pub returns-clause-spans : goal.returns-clause-spans
returns-clause-spans c =
    let ss = c.args.list.now.items in
    let at = place_of INFINITY c.place_from-place.result c.args.n ss c.as_slice.result.now c.as_slice.ensures c.requires.spans c.place_from-place.ensures.before
    c.place_from-place.ensures.after c.place_from-place.ensures.place c.requires.member in
    let spans = parted_spans 0 INFINITY c.place_from-place.result c.args.n ss c.requires.spans at.0 at.1 at.2 in
    on_ok_weaker c.part.result (λ e. subst (IsSpans 0 INFINITY) (sym e) spans) c.part.ensures.parted

pub returns-clause-set : goal.returns-clause-set
returns-clause-set c =
    let ss = c.args.list.now.items in
    let at = place_of INFINITY c.place_from-place.result c.args.n ss c.as_slice.result.now c.as_slice.ensures c.requires.spans c.place_from-place.ensures.before
    c.place_from-place.ensures.after c.place_from-place.ensures.place c.requires.member in
    let spans = parted_spans 0 INFINITY c.place_from-place.result c.args.n ss c.requires.spans at.0 at.1 at.2 in
    let set = members_is INFINITY _ (but ss c.args.n) spans (λ j l. parted_within 0 INFINITY c.place_from-place.result c.args.n ss c.requires.spans at.0 at.1 at.2 j) in
    on_ok_weaker c.part.result (λ e. ap members e ∙ set) c.part.ensures.parted

pub returns-clause-no_memory : goal.returns-clause-no_memory
returns-clause-no_memory c =
    let ss = c.args.list.now.items in
    let at = place_of INFINITY c.place_from-place.result c.args.n ss c.as_slice.result.now c.as_slice.ensures c.requires.spans c.place_from-place.ensures.before
    c.place_from-place.ensures.after c.place_from-place.ensures.place c.requires.member in
    let spans = parted_spans 0 INFINITY c.place_from-place.result c.args.n ss c.requires.spans at.0 at.1 at.2 in
    let set = members_is INFINITY _ (but ss c.args.n) spans (λ j l. parted_within 0 INFINITY c.place_from-place.result c.args.n ss c.requires.spans at.0 at.1 at.2 j) in
    on_err_both _ _ _ c.part.result c.part.ensures.no_memory c.part.ensures.no_memory (λ more _. three_spans INFINITY _ _ spans set more)
