use Rattle.std.proofs.Common.{◌≡◌, ◌<◌, ◌^◌, pos, to_z, w64, sym, ap, ◌∙◌, arith, rules}
use Rattle.std.specs.Prelude.{Some, None}
use Rattle.std.proofs.lemmas.Int.{ints}
use Rattle.fd_language.specs.Term.{Int}
use Rattle.fd_language.specs.SingleValues.{only}
use Rattle.domain_ranges.specs.Views.{family_of}
use Rattle.heap_cells.specs.SeenTerms.{link_of}
use Rattle.builtin_calls.proofs.CellTops.{number_same, shown_value, shown_else, held_seen}
use Rattle.builtin_calls.proofs.cell_views.look.Goals as goal

pub domain-requires : goal.domain-requires
domain-requires g c = let s = c.in-Constrained.ensures.seen in c.requires.links c.in-Constrained.field-0 c.in-Constrained.k (ap link_of s.1)

pub returns-in-Some-clause-term : goal.returns-in-Some-clause-term
returns-in-Some-clause-term g c name =
    let low : c.in-Some.value < 2 ^ 32 = search rules in
    let e : only (family_of (g.V.View.sets c.args.view.now) c.in-Constrained.k) ≡ Some c.in-Some.value = ap only (sym c.domain.ensures) ∙ sym c.only_value.ensures ∙ c.in-Some.is in
    shown_value name c.args.heap.now.now (family_of (g.V.View.sets c.args.view.now)) c.deref-seen.ensures.valid c.args.c c.in-Constrained.field-0
    c.in-Constrained.k c.in-Some.value c.in-Constrained.ensures.seen e
    ∙ ap Int (let f : pos c.in-Some.value ≡ to_z w64 c.in-Some.value = omega (arith, ints) in f)

pub returns-in_default-only_value-clause-term : goal.returns-in_default-only_value-clause-term
returns-in_default-only_value-clause-term g c name =
    let none : only (family_of (g.V.View.sets c.args.view.now) c.in-Constrained.k) ≡ None = ap only (sym c.domain.ensures) ∙ sym c.only_value.ensures ∙ c.in_default-only_value.is in
    shown_else name c.args.heap.now.now (family_of (g.V.View.sets c.args.view.now)) c.deref-seen.ensures.valid c.args.c c.deref-seen.result c.deref-seen.ensures.seen
    (λ i k e. (let same : k ≡ c.in-Constrained.k = number_same c.in-Constrained.field-0 c.in-Constrained.k i k (sym c.in-Constrained.is ∙ e) in
    ap (λ j. only (family_of (g.V.View.sets c.args.view.now) j)) same ∙ none))

pub returns-in_default : goal.returns-in_default
returns-in_default g c = record {
  term = λ name. shown_else name c.args.heap.now.now (family_of (g.V.View.sets c.args.view.now)) c.deref-seen.ensures.valid c.args.c c.deref-seen.result
      c.deref-seen.ensures.seen (λ i k e. absurd (c.in_default.not-Constrained i k e));
  held = held_seen c.args.heap.now.now c.args.c c.deref-seen.result c.deref-seen.ensures.seen;
  valid = c.deref-seen.ensures.valid;
}
