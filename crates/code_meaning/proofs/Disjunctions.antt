-- A disjunction, and the end of a query.
use Rattle.std.proofs.Common.{◌≡◌, ℕ, suc, List, [], ◌∷◌, ◌++◌, subst}
use Rattle.fd_language.specs.Unifier.{Equation}
use Rattle.fd_language.specs.Range.{Indexical}
use Rattle.fd_model.specs.Children.{with_goals}
use Rattle.fd_model.specs.Goal.{Goal, Goals, listed, Branch}
use Rattle.fd_model.specs.Goal as goal
use Rattle.fd_model.specs.RunnablePrograms.{EachBelow}
use Rattle.fd_model.proofs.Lemmas.{each_both_below, listed_below}
use Rattle.heap_cells.specs.Cells.{Cells}
use Rattle.heap_cells.specs.Terms.{Naming}
use Rattle.wam_code.specs.declared.instruction.Code.TheVariants as code
use Rattle.wam_code.specs.Area.{Area, Holds}
use Rattle.wam_code.specs.Places.{Places}
use Rattle.wam_code.specs.CodeMeaning.{Means, Return}
use Rattle.code_meaning.specs.Registers.{Registers, Saved}
use Rattle.code_meaning.specs.StateMeaning.{IsMade, Stands}
use Rattle.code_meaning.proofs.RestatedEquations.{made_settled}
use Rattle.code_meaning.proofs.InstructionSteps.{here}

-- other goals of the branch
pub made_goals : (M N : ℕ) (marks : List ℕ) (name : Naming) (h : Cells) (qs : List Indexical) (c : Registers) (returns : List Return) (stack : List Saved)
    (b : Branch) (p : Places) (todo : List Equation) (gs : List Goal) → IsMade M N marks name h qs c returns stack b p todo
    → IsMade M N marks name h qs c returns stack (with_goals b gs) p todo
made_goals M N marks name h qs c returns stack b p todo gs m = record {
  done = m.done;
  look = m.look;
  kept = m.kept;
  same = m.same;
  xs = m.xs;
  ys = m.ys;
  saved = m.saved;
  leveled = m.leveled;
  own = m.own;
  covered = m.covered;
  used = m.used;
  scoped = m.scoped;
}

module _ (M N : ℕ) (marks : List ℕ) (area : Area) (shown : List ℕ) (name : Naming) (h : Cells) (qs : List Indexical) (at : ℕ) (c : Registers)
    (stack : List Saved) (b : Branch) (m : Stands M N marks area shown name h qs at c stack b) where
  -- both ways of a disjunction go on with the goals behind it
  pub step_either : (to : ℕ) → Holds area at (code.Either to) → (x : Goals) × (y : Goals) × (later : List Goal) × (b.goals ≡ goal.Either x y ∷ later)
      × Stands M N marks area shown name h qs (suc at) c stack (with_goals b (listed x ++ later)) × Stands M N marks area shown name h qs to c stack (with_goals b (listed y ++ later))
  step_either to f =
      let k = here M N marks area shown name h qs at c stack b m (code.Either to) f in
      let r = k.3 in
      let g = made_settled M N marks name h qs m.returns stack b c k.0 k.1 k.2 r.3 r.4 r.5 in
      let low : EachBelow b.fresh (goal.Either r.0 r.1 ∷ r.2) = subst (EachBelow b.fresh) r.6 m.below in
      let way : (next : ℕ) (gs : Goals) → EachBelow b.fresh (listed gs) → Means area (record { goals = m.after; shown = shown }) next r.3 [] (listed gs ++ r.2)
      → Stands M N marks area shown name h qs next c stack (with_goals b (listed gs ++ r.2)) = λ next gs o i.
      record {
        p = r.3;
        todo = [];
        returns = m.returns;
        after = m.after;
        made = made_goals M N marks name h qs c m.returns stack b r.3 [] (listed gs ++ r.2) g;
        continues = m.continues;
        means = i;
        below = each_both_below b.fresh (listed gs) r.2 o low.1;
        asked = m.asked;
      } in
      (r.0, r.1, r.2, r.6, way (suc at) r.0 (listed_below b.fresh r.0 low.0.0) r.7, way to r.1 (listed_below b.fresh r.1 low.0.1) r.8)
