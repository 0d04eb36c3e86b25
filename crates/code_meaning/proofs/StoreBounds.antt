-- Bounds that a store gets beside its other ranges: the machine stands for the same.
use Rattle.std.proofs.Common.{ℕ, ◌<◌, ◌≤◌, List, Option, inl, inr}
use Rattle.fd_language.specs.Range.{Indexical}
use Rattle.fd_model.specs.Goal.{Branch, Program, Query, Event}
use Rattle.heap_cells.specs.Cells.{Cells}
use Rattle.heap_cells.specs.Terms.{Naming}
use Rattle.branch_lemmas.specs.VariableBounds.{IsBoundedMore}
use Rattle.branch_lemmas.proofs.Lemmas.{kept_bounded}
use Rattle.wam_code.specs.declared.parts.Entry.{Entry}
use Rattle.wam_code.specs.Area.{Area}
use Rattle.code_meaning.specs.Registers.{Registers, Saved}
use Rattle.code_meaning.specs.StateMeaning.{Made, Stands}
use Rattle.code_meaning.specs.ClauseChoices.{IsTrying}
use Rattle.code_meaning.specs.MachineStates.{Choice, Goes, Runs}

module _ (M N : ℕ) (within : N ≤ M) (area : Area) (name : Naming) (h : Cells) (qs now : List Indexical) (more : IsBoundedMore N qs now) (at : ℕ) (c : Registers) (stack : List Saved) where
  stands_bounded : (marks : List ℕ) (shown : List ℕ) (b : Branch) → Stands M N marks area shown name h qs at c stack b → Stands M N marks area shown name h now at c stack b
  stands_bounded marks shown b m = record {
    p = m.p;
    todo = m.todo;
    returns = m.returns;
    after = m.after;
    made = record {
      done = m.made.done;
      look = m.made.look;
      kept = kept_bounded M N h qs now m.made.done b.posted (Made m.p b.fresh) m.made.look within more m.made.kept;
      same = m.made.same;
      xs = m.made.xs;
      ys = m.made.ys;
      saved = m.made.saved;
      leveled = m.made.leveled;
      own = m.made.own;
      covered = m.made.covered;
      used = m.made.used;
      scoped = m.made.scoped;
    };
    continues = m.continues;
    means = m.means;
    below = m.below;
    asked = m.asked;
  }

  trying_bounded : (marks : List ℕ) (shown : List ℕ) (e : Entry) (b : Branch) (kids : List Branch) → IsTrying M N marks area shown name h qs at e c stack b kids
      → IsTrying M N marks area shown name h now at e c stack b kids
  trying_bounded marks shown e b kids m = record {
    noted = m.noted;
    calling = record {
      look = m.calling.look;
      ts = m.calling.ts;
      rest = m.calling.rest;
      returns = m.calling.returns;
      counted = m.calling.counted;
      goals = m.calling.goals;
      below = m.calling.below;
      asked = m.calling.asked;
      kept = kept_bounded M N h qs now b.equations b.posted (λ v. v < b.fresh) m.calling.look within more m.calling.kept;
      held = m.calling.held;
      saved = m.calling.saved;
      leveled = m.calling.leveled;
      continues = m.calling.continues;
    };
    shape = m.shape;
    shows = m.shows;
    clauses = m.clauses;
    tries = m.tries;
    fit = m.fit;
    scoped = m.scoped;
    kids_are = m.kids_are;
  }

  goes_bounded : (marks : List ℕ) (shown : List ℕ) (raw : List Branch) → Goes M N marks area shown name h qs at c stack raw → Goes M N marks area shown name h now at c stack raw
  goes_bounded marks shown raw (inl s) = inl (s.0, stands_bounded marks shown s.0 s.1, s.2)
  goes_bounded marks shown raw (inr s) = inr (s.0, s.1, trying_bounded marks shown s.0 s.1 raw s.2)

  -- The whole machine stands for the same events.
  pub runs_bounded : (prog : Program) (q : Query) (cs : List Choice) (n : ℕ) (k : Option ℕ) (es : List Event) (r : ℕ)
      → Runs M N area prog q name h qs at c stack cs n k es r → Runs M N area prog q name h now at c stack cs n k es r
  runs_bounded prog q cs n k es r m = record { first = m.first; others = m.others; marks = m.marks; here = goes_bounded m.marks q.shown m.first m.here; wait = m.wait; ahead = m.ahead }
