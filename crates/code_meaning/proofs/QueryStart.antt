-- A new machine at a query's code, and a store without a model.
use Rattle.std.proofs.Common.{◌≡◌, ℕ, ◌+◌, ◌<◌, false, List, [], ◌∷◌, ◌++◌, length, map, Option, Some, None, refl, ap, sym, subst, inl, inr, arith}
use Rattle.std.proofs.lemmas.Bool.{true≢false}
use Rattle.std.proofs.lemmas.Option.{none-some}
use Rattle.fd_language.specs.Term.{Term, Var}
use Rattle.fd_language.specs.Family.{Family}
use Rattle.fd_language.specs.Range.{Indexical}
use Rattle.fd_model.specs.Children.{by_clause, argument_equations}
use Rattle.fd_model.specs.Goal.{Goal, Clause, Branch, Program, Query, Event, start_of}
use Rattle.fd_model.specs.Models.{IsModel}
use Rattle.fd_model.specs.Renaming.{rename_term}
use Rattle.fd_model.specs.Run.{Run}
use Rattle.fd_model.specs.RunnablePrograms.{EachBelow, NumbersBelow, AreRunnable}
use Rattle.fd_model.proofs.Lemmas.{consistent_from, split_both, weaker, each_marked, all_marked}
use Rattle.heap_cells.specs.Cells.{Cells}
use Rattle.heap_cells.specs.Terms.{Naming}
use Rattle.branch_meaning.specs.RemainingEvents.{Ahead}
use Rattle.branch_meaning.specs.Store.{IsStored}
use Rattle.branch_meaning.proofs.Lemmas.{ahead_drop, functions, nothing_stored, first_model, gone_by}
use Rattle.branch_lemmas.specs.Frames.{link_of, link_in, IsKept}
use Rattle.branch_lemmas.proofs.Lemmas.{kept_known, kept_no_model, slot_behind}
use Rattle.wam_code.specs.Area.{Area, Span, name_of}
use Rattle.wam_code.specs.Places.{no_depth, Places, made}
use Rattle.wam_code.specs.Tries.{IsQueryCode}
use Rattle.code_meaning.specs.Registers.{Registers, Saved}
use Rattle.code_meaning.specs.StateMeaning.{Made, Stands}
use Rattle.code_meaning.specs.MachineStates.{Goes, Choice, Runs, Returns}
use Rattle.code_meaning.proofs.Levels.{leveled_start}
use Rattle.code_meaning.proofs.MachineStates.{stands_no_model}

-- Whatever the registers hold, a machine with an empty heap and an empty store stands for the run of the query.
pub run_starts : (M N : ℕ) (area : Area) (prog : Program) (q : Query) (name : Naming) (h : Cells) → length h.slots ≡ 0 → (s : Span) → IsQueryCode area q s
    → EachBelow q.variables q.goals → NumbersBelow q.variables q.shown → AreRunnable M q.goals
    → (c : Registers) → c.noted ≡ 0 → (n : ℕ) (k : Option ℕ) (es : List Event) (r : ℕ) → Run M N prog q n k (start_of q ∷ []) es r → Runs M N area prog q name h [] s.at c [] [] n k es r
run_starts M N area prog q name h size s code below asked fit c none_noted n k es r run =
    let p : Places = record { x = λ i. None; y = λ i. None; levels = λ i. None; noted = Some no_depth; known = λ v. false; own = q.variables; top = q.variables } in
    let links : (λ i. None) ≡ link_in h = functions (λ i. ap link_of (sym (slot_behind h i (omega (arith, size))))) in
    let stored = subst (λ m. IsStored M N [] [] (λ v. v < 0) m Var (link_in h) (λ v. v) []) (sym size)
    (subst (λ l. IsStored M N [] [] (λ v. v < 0) 0 Var l (λ v. v) []) links (nothing_stored M N 0)) in
    let kept : IsKept M N h [] [] [] (λ v. v < 0) Var = record { slot = λ v. v; stored = stored } in
    let consistent = consistent_from M N [] [] (first_model M N).0 (first_model M N).1 in
    let here : Stands M N [] area q.shown name h [] s.at c [] (start_of q) = record {
      p = p;
      todo = [];
      returns = [];
      after = [];
      made = record {
        done = [];
        look = Var;
        kept = kept_known M N h [] [] [] (λ v. v < 0) Var kept (Made p q.variables) (λ v l. absurd (omega (arith, l))) (λ v m. absurd (true≢false (sym m.0)));
        same = record { there = λ u i. i; back = λ u i. (u, i, λ x l. refl) };
        xs = λ i t e. absurd (none-some t e);
        ys = λ i t e. absurd (none-some t e);
        saved = tt;
        leveled = leveled_start c none_noted;
        own = omega arith;
        covered = λ v l i. absurd (omega (arith, l, i));
        used = λ v i. absurd (true≢false (sym i));
        scoped = tt;
      };
      continues = refl;
      means = code.means p refl (record { known = λ i l. absurd (omega (arith, l)); fresh = λ i l. refl; own = omega arith; top = omega arith });
      below = each_marked q.variables 0 q.goals below;
      asked = asked;
    } in
    record {
      first = start_of q ∷ [];
      others = [];
      marks = [];
      here = inl (start_of q, here, refl);
      wait = (refl, refl);
      ahead = record { fit = ((all_marked M 0 q.goals fit, tt), tt); branches = start_of q ∷ []; kept = inl (consistent, ([], refl, refl)); run = run };
    }

-- ---- the store has no model

abbrev AllGone : ℕ → ℕ → List Branch → Type 0
AllGone M N [] = Unit {0}
AllGone M N (b ∷ bs) = ((S : Family) → IsModel M N b.equations b.posted S → ⊥) × AllGone M N bs

drop_all : (M N : ℕ) (prog : Program) (q : Query) (n : ℕ) (k : Option ℕ) (xs ys : List Branch) (es : List Event) (r : ℕ) → AllGone M N xs
    → Ahead M N prog q n k (xs ++ ys) es r → Ahead M N prog q n k ys es r
drop_all M N prog q n k [] ys es r g a = a
drop_all M N prog q n k (x ∷ xs) ys es r g a = drop_all M N prog q n k xs ys es r g.1 (ahead_drop M N prog q n k x (xs ++ ys) es r (gone_by M N x g.0 a.fit.0) a)

children_gone : (M N m : ℕ) (b : Branch) (t : Term) (rest : List Goal) → ((S : Family) → IsModel M N b.equations b.posted S → ⊥) → (cs : List Clause) → AllGone M N (map (by_clause m b t rest) cs)
children_gone M N m b t rest none [] = tt
children_gone M N m b t rest none (c ∷ cs) = (
  (λ S g. (let es = argument_equations t (rename_term (λ x. b.fresh + x) c.head) in none S (weaker M N (es ++ b.equations) b.equations b.posted S (λ u i. (split_both u es b.equations i).1) g))),
  children_gone M N m b t rest none cs,
)

goes_gone : (M N : ℕ) (marks : List ℕ) (area : Area) (shown : List ℕ) (name : Naming) (h : Cells) (qs : List Indexical) (at : ℕ) (c : Registers)
    (stack : List Saved) (raw : List Branch) → Goes M N marks area shown name h qs at c stack raw → ((T : Family) → IsModel M N [] qs T → ⊥) → AllGone M N raw
goes_gone M N marks area shown name h qs at c stack raw (inl s) none = subst (AllGone M N) (sym s.2) (stands_no_model M N marks area shown name h qs at c stack s.0 s.1 none, tt)
goes_gone M N marks area shown name h qs at c stack raw (inr s) none =
    let b = s.1 in
    let m = s.2.calling in
    subst (AllGone M N) (sym s.2.kids_are) (children_gone M N s.2.noted.branches b (made (name_of area s.0.name) m.ts) m.rest
    (kept_no_model M N h qs b.equations b.posted (λ v. v < b.fresh) m.look m.kept none) s.2.clauses)

-- The machine goes back.
pub run_fails : (M N : ℕ) (area : Area) (prog : Program) (q : Query) (name : Naming) (h : Cells) (qs : List Indexical) (at : ℕ) (c : Registers)
    (stack : List Saved) (cs : List Choice) (n : ℕ) (k : Option ℕ) (es : List Event) (r : ℕ)
    → Runs M N area prog q name h qs at c stack cs n k es r → ((T : Family) → IsModel M N [] qs T → ⊥) → Returns M N area prog q name cs n k es r
run_fails M N area prog q name h qs at c stack cs n k es r m none =
    record {
      others = m.others;
      marks = m.marks;
      wait = m.wait;
      ahead = drop_all M N prog q n k m.first m.others es r (goes_gone M N m.marks area q.shown name h qs at c stack m.first m.here none) m.ahead;
    }
