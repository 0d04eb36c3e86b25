-- What a machine stands for on a heap that has grown.
use Rattle.std.proofs.Common.{◌≡◌, ℕ, ◌+◌, ◌<◌, List, [], ◌∷◌, ◌++◌, map, Option, ap, sym, ◌∙◌, subst, inl, inr, arith}
use Rattle.fd_language.specs.Term.{Term, apply}
use Rattle.fd_language.specs.Unifier.{Equation}
use Rattle.fd_language.specs.Family.{Family}
use Rattle.fd_language.specs.Range.{Indexical}
use Rattle.fd_model.specs.Children.{argument_equations, by_clause}
use Rattle.fd_model.specs.Goal.{Goal, Clause, Branch, Program, Query, Event}
use Rattle.fd_model.specs.Models.{IsModel}
use Rattle.fd_model.specs.Renaming.{rename_term}
use Rattle.fd_model.proofs.Lemmas.{split_both, weaker}
use Rattle.heap_cells.specs.declared.Cell.{Cell}
use Rattle.heap_cells.specs.Cells.{Cells, IsOf}
use Rattle.heap_cells.specs.Terms.{Naming, term_of}
use Rattle.branch_meaning.specs.RemainingEvents.{Ahead}
use Rattle.branch_meaning.proofs.Lemmas.{ahead_drop, gone_by}
use Rattle.branch_lemmas.specs.Frames.{IsGrown}
use Rattle.branch_lemmas.proofs.Lemmas.{of_grown, kept_grown, kept_no_model}
use Rattle.wam_code.specs.declared.parts.Entry.{Entry}
use Rattle.wam_code.specs.declared.instruction.Code.{Code}
use Rattle.wam_code.specs.Area.{Area, Holds, name_of}
use Rattle.wam_code.specs.Places.{Places, made}
use Rattle.wam_code.specs.CodeMeaning.{Return}
use Rattle.code_meaning.specs.Registers.{Registers, Saved}
use Rattle.code_meaning.specs.StateMeaning.{Made, IsOld, IsMade}
use Rattle.code_meaning.specs.ClauseChoices.{IsTrying, IsFirst}
use Rattle.code_meaning.specs.MachineStates.{Choice, Runs, Returns}
use Rattle.code_meaning.proofs.Lemmas.{stands_no_model, runs_on, shown_moved, all_moved}

-- ---- the heap grows

module _ (M N : ℕ) (marks : List ℕ) (name : Naming) (h now : Cells) (g : IsGrown h now) (qs : List Indexical) (c : Registers) (returns : List Return)
    (stack : List Saved) (b : Branch) (p : Places) (todo : List Equation) (m : IsMade M N marks name h qs c returns stack b p todo) where
  moves : (P : ℕ → Type 0) (t : Term) (e : Cell) → IsOf h e → apply m.look t ≡ term_of name h e → IsOf now e × (apply m.look t ≡ term_of name now e)
  moves P t e o k = (of_grown h now g e o, k ∙ sym (g.terms name e o))

  made_grown : IsMade M N marks name now qs c returns stack b p todo
  made_grown = record {
    done = m.done;
    look = m.look;
    kept = kept_grown M N h qs m.done b.posted (Made p b.fresh) m.look m.kept now g;
    same = m.same;
    xs = shown_moved name h now m.look m.look (Made p b.fresh) (Made p b.fresh) (λ x k. k) (λ t e o. moves (Made p b.fresh) t e) p.x c.x m.xs;
    ys = shown_moved name h now m.look m.look (Made p b.fresh) (Made p b.fresh) (λ x k. k) (λ t e o. moves (Made p b.fresh) t e) p.y c.y m.ys;
    saved = all_moved name h now m.look m.look (IsOld p b.fresh) (IsOld p b.fresh) (λ x k. k) (λ t e o. moves (IsOld p b.fresh) t e) b.fresh b.fresh (omega arith) returns stack m.saved;
    leveled = m.leveled;
    own = m.own;
    covered = m.covered;
    used = m.used;
    scoped = m.scoped;
  }

-- at an instruction of a clause
pub runs_grown : (M N : ℕ) (area : Area) (prog : Program) (q : Query) (name : Naming) (n : ℕ) (k : Option ℕ) (es : List Event) (r : ℕ) (h now : Cells)
    → IsGrown h now → (qs : List Indexical) (at : ℕ) (c : Registers) (stack : List Saved) (cs : List Choice)
    → (i : Code) → IsFirst i → Holds area at i → Runs M N area prog q name h qs at c stack cs n k es r → Runs M N area prog q name now qs at c stack cs n k es r
runs_grown M N area prog q name n k es r h now g qs at c stack cs i first f m =
    runs_on M N area prog q name n k es r h qs at c stack cs m i first f now qs at c stack (λ marks b s. record {
      p = s.p;
      todo = s.todo;
      returns = s.returns;
      after = s.after;
      made = made_grown M N marks name h now g qs c s.returns stack b s.p s.todo s.made;
      continues = s.continues;
      means = s.means;
      below = s.below;
      asked = s.asked;
    })
