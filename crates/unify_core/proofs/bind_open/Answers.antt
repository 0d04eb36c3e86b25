use Rattle.std.proofs.Common.{◌≡◌, ◌∙◌, false, ap, sym, subst}
use Rattle.heap_cells.specs.Cells.{Heaps, bound, with_slot}
use Rattle.heap_cells.specs.Terms.{Naming, term_of, occurs}
use Rattle.unify_core.specs.Outcome.{IsInfinite}
use Rattle.unify_core.proofs.OccursCheck.{root_absent, compound_infinite}
use Rattle.unify_core.proofs.bind_open.Goals as goal
use Rattle.unify_core.proofs.bind_open.Goals.{in-Struct+in_ok-is_inside+else-branch, in_default}

pub returns-then-branch-clause-infinite : goal.returns-then-branch-clause-infinite
returns-then-branch-clause-infinite c =
    subst (IsInfinite c.args.heap.now.now c.args.var) (sym c.in-Struct.is)
    (compound_infinite c.args.heap.now.now c.requires.valid c.args.var c.in-Struct.j (λ name. sym c.if-branch.true ∙ c.in_ok-is_inside.ensures name))

pub bind-requires-clause-absent : goal.bind-requires-clause-absent
bind-requires-clause-absent c = elim c.match-to.branch [
  | in-Struct+in_ok-is_inside+else-branch w ↦ λ name. ap (λ t. occurs c.args.var (term_of name c.args.heap.now.now t)) w.to-is ∙ sym (w.in_ok-is_inside.ensures name) ∙ w.if-branch.false
  | in_default w ↦ λ name. ap (λ t. occurs c.args.var (term_of name c.args.heap.now.now t)) w.to-is
      ∙ root_absent c.args.heap.now.now c.requires.valid c.args.var c.args.to c.requires.root c.requires.other (λ j. w.in_default.not-Struct j) name
]

absent : (c : goal.In_ok-bind) → (name : Naming) → occurs c.args.var (term_of name c.args.heap.now.now c.args.to) ≡ false
absent c = elim c.match-to.branch [
  | in-Struct+in_ok-is_inside+else-branch w ↦ λ name. ap (λ t. occurs c.args.var (term_of name c.args.heap.now.now t)) w.in-Struct.is ∙ sym (w.in_ok-is_inside.ensures name) ∙ w.if-branch.false
  | in_default w ↦ root_absent c.args.heap.now.now c.requires.valid c.args.var c.args.to c.requires.root c.requires.other (λ j. w.in_default.not-Struct j)
]

pub returns-clause-bound : goal.returns-clause-bound
returns-clause-bound c =
    let e : c.match-to.to ≡ c.args.to = elim c.match-to.branch [
      | in-Struct+in_ok-is_inside+else-branch w ↦ w.to-is ∙ sym w.in-Struct.is
      | in_default w ↦ w.to-is
    ] in
    record {
      bound = ap (λ (h : Heaps). h.now) c.in_ok-bind.ensures.bound ∙ ap (λ t. with_slot c.args.heap.now.now c.args.var (bound t)) e;
      absent = absent c;
    }
