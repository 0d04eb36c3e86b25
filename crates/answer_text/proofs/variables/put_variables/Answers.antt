use Rattle.std.proofs.Common.{◌≡◌, ◌<◌, ◌++◌, ◌∙◌, [], ◌∷◌, List, Some, length, arith, refl, sym, ap, subst}
use Rattle.std.specs.Prelude.{All, reverse}
use Rattle.std.proofs.lemmas.List.Elements.{All-append, All-pop, All-push, All-weaker}
use Rattle.fd_language.specs.Term.{Var, Int, Atom}
use Rattle.fd_language.specs.Variables.{variables_of}
use Rattle.term_pool.specs.declared.TermId.{TermId}
use Rattle.term_pool.specs.Contents.{comp, atom_name}
use Rattle.term_pool.specs.Terms.{term_of, total_size}
use Rattle.term_pool.proofs.Lemmas.{rest_is_smaller}
use Rattle.answer_text.specs.Pieces.{inserted}
use Rattle.answer_text.proofs.PendingVariables.{variables_ahead, walk_takes, walk_opens, walk_falls, each_reversed}
use Rattle.answer_text.proofs.variables.put_variables.Goals as goal

pub loop-next-init : goal.loop-next-init
loop-next-init c =
    let pool = c.args.pool.now in
    let P : TermId → Type 0 = λ t. t.number < length pool.entries in
    let one : c.push.new.self.items ≡ c.args.t ∷ [] = c.in_ok-push.ensures.items ∙ ap (λ (l : List TermId). l ++ c.args.t ∷ []) c.new-ahead.ensures.items in
    record {
      within = subst (All P) (sym one) (All-push P [] c.args.t (λ k d h. absurd (omega arith)) c.requires);
      own = ap (λ (ts : List TermId). inserted c.args.own.now.keys (variables_ahead pool ts)) one;
    }

-- a variable is taken
pub loop-next-smaller-in_ok-insert_full-in-Var : goal.loop-next-smaller-in_ok-insert_full-in-Var
loop-next-smaller-in_ok-insert_full-in-Var c =
    let pool = c.args.pool.now in
    let rest = c.pop.new.self.items in
    subst (λ (ts : List TermId). total_size pool rest < total_size pool ts) (sym c.in-Some.ensures.items) (rest_is_smaller pool rest c.in-Some.next)

pub loop-next-preserved-in_ok-insert_full-in-Var : goal.loop-next-preserved-in_ok-insert_full-in-Var
loop-next-preserved-in_ok-insert_full-in-Var c =
    let pool = c.args.pool.now in
    let rest = c.pop.new.self.items in
    let P : TermId → Type 0 = λ t. t.number < length pool.entries in
    record {
      within = (All-pop P c.loop-next.ahead.items rest (Some c.in-Some.next) c.in-Some.ensures.items c.loop-next.invariant.within).0;
      own = walk_takes pool c.loop-next.own.keys c.insert_full.new.self.keys c.loop-next.ahead.items rest c.in-Some.next (Var c.in-Var.variable)
          (inserted c.args.own.now.keys (variables_of (term_of pool c.args.t)))
          c.in-Some.ensures.items c.in-Var.ensures.term c.in_ok-insert_full-in-Var.ensures.keys c.loop-next.invariant.own;
    }

-- an integer
pub loop-next-smaller-in-Int : goal.loop-next-smaller-in-Int
loop-next-smaller-in-Int c =
    let pool = c.args.pool.now in
    let rest = c.pop.new.self.items in
    subst (λ (ts : List TermId). total_size pool rest < total_size pool ts) (sym c.in-Some.ensures.items) (rest_is_smaller pool rest c.in-Some.next)

pub loop-next-preserved-in-Int : goal.loop-next-preserved-in-Int
loop-next-preserved-in-Int c =
    let pool = c.args.pool.now in
    let rest = c.pop.new.self.items in
    let P : TermId → Type 0 = λ t. t.number < length pool.entries in
    record {
      within = (All-pop P c.loop-next.ahead.items rest (Some c.in-Some.next) c.in-Some.ensures.items c.loop-next.invariant.within).0;
      own = walk_takes pool c.loop-next.own.keys c.loop-next.own.keys c.loop-next.ahead.items rest c.in-Some.next (Int c.in-Int.field-0)
          (inserted c.args.own.now.keys (variables_of (term_of pool c.args.t)))
          c.in-Some.ensures.items c.in-Int.ensures.term refl c.loop-next.invariant.own;
    }

-- an atom
pub loop-next-smaller-in-Atom : goal.loop-next-smaller-in-Atom
loop-next-smaller-in-Atom c =
    let pool = c.args.pool.now in
    let rest = c.pop.new.self.items in
    subst (λ (ts : List TermId). total_size pool rest < total_size pool ts) (sym c.in-Some.ensures.items) (rest_is_smaller pool rest c.in-Some.next)

pub loop-next-preserved-in-Atom : goal.loop-next-preserved-in-Atom
loop-next-preserved-in-Atom c =
    let pool = c.args.pool.now in
    let rest = c.pop.new.self.items in
    let P : TermId → Type 0 = λ t. t.number < length pool.entries in
    record {
      within = (All-pop P c.loop-next.ahead.items rest (Some c.in-Some.next) c.in-Some.ensures.items c.loop-next.invariant.within).0;
      own = walk_takes pool c.loop-next.own.keys c.loop-next.own.keys c.loop-next.ahead.items rest c.in-Some.next (Atom (atom_name pool c.in-Atom.field-0))
          (inserted c.args.own.now.keys (variables_of (term_of pool c.args.t)))
          c.in-Some.ensures.items c.in-Atom.ensures.term refl c.loop-next.invariant.own;
    }

-- a compound term's parts in its place
pub loop-next-smaller : goal.loop-next-smaller
loop-next-smaller c =
    let pool = c.args.pool.now in
    let rest = c.pop.new.self.items in
    let new = c.put_ahead.new.ahead.items in
    subst (λ (ts : List TermId). total_size pool new < total_size pool ts) (sym c.in-Some.ensures.items)
    (subst (λ (ts : List TermId). total_size pool ts < total_size pool (rest ++ c.in-Some.next ∷ [])) (sym c.in_ok-put_ahead-in-Comp.ensures)
    (walk_falls pool rest c.in-Some.next (comp c.in-Comp.field-0 c.in-Comp.parts.now) c.in-Comp.ensures.term))

pub loop-next-preserved : goal.loop-next-preserved
loop-next-preserved c =
    let pool = c.args.pool.now in
    let rest = c.pop.new.self.items in
    let ids = c.in-Comp.parts.now in
    let P : TermId → Type 0 = λ t. t.number < length pool.entries in
    let popped = All-pop P c.loop-next.ahead.items rest (Some c.in-Some.next) c.in-Some.ensures.items c.loop-next.invariant.within in
    let parts = All-weaker (λ t. t.number < c.in-Some.next.number) P (λ t h. omega (arith, popped.1)) ids c.in-Comp.ensures.within.1 in
    record {
      within = subst (All P) (sym c.in_ok-put_ahead-in-Comp.ensures) (All-append P rest (reverse ids) popped.0 (each_reversed P ids parts));
      own = walk_opens pool c.loop-next.own.keys c.loop-next.ahead.items rest c.put_ahead.new.ahead.items c.in-Some.next (atom_name pool c.in-Comp.field-0) ids
          (inserted c.args.own.now.keys (variables_of (term_of pool c.args.t)))
          c.in-Some.ensures.items c.in-Comp.ensures.term c.in_ok-put_ahead-in-Comp.ensures c.loop-next.invariant.own;
    }
