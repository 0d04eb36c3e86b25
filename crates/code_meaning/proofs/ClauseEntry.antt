-- A clause is entered, whose head's equations are still to be made.
use Rattle.std.proofs.Common.{◌≡◌, ℕ, suc, ◌+◌, ◌<◌, ◌≤◌, true, List, [], ◌∷◌, ◌++◌, map, Option, Some, None, refl, ap, sym, ◌∙◌, subst, inl, inr, arith}
use Rattle.std.proofs.Common.{nat_lt}
use Rattle.std.proofs.lemmas.Bool.{cases_eq, true≢false, and_parts}
use Rattle.std.proofs.lemmas.Bool.Decides.{nat_tests}
use Rattle.std.specs.Str.{bytes_eq}
use Rattle.std.proofs.lemmas.Option.{none-some, same_Some}
use Rattle.fd_language.specs.Term.{Name, Term, Terms, Var, Int, Atom, Comp, no_terms, term, Substitution, apply_all, term_count}
use Rattle.fd_language.specs.Unifier.{Equation}
use Rattle.fd_language.specs.Range.{Indexical}
use Rattle.fd_language.specs.Variables.{TermBelow, TermsBelow}
use Rattle.fd_model.specs.Children.{by_clause, fits_head, same_count, paired, argument_equations}
use Rattle.fd_model.specs.ConstraintExpansion.{arguments}
use Rattle.fd_model.specs.Goal.{Clause, Branch, marked_all}
use Rattle.fd_model.specs.Renaming.{rename_term, rename_goal}
use Rattle.fd_model.specs.RunnablePrograms.{EachBelow, NumbersBelow}
use Rattle.fd_model.proofs.Lemmas.{join_both, split_both, each_wider, each_both_below, each_marked, body_renamed}
use Rattle.heap_cells.specs.declared.Cell.{Cell}
use Rattle.heap_cells.specs.Cells.{Cells}
use Rattle.heap_cells.specs.Terms.{Naming}
use Rattle.branch_meaning.specs.Heap.{AllOf, EquationsOf}
use Rattle.branch_meaning.specs.EquivalentEquations.{SaysSame}
use Rattle.branch_meaning.proofs.Lemmas.{more_all, more_each, below_both}
use Rattle.branch_lemmas.proofs.Lemmas.{renamed_all, kept_known}
use Rattle.wam_code.specs.declared.parts.Entry.{Entry}
use Rattle.wam_code.specs.Area.{Area, name_of}
use Rattle.wam_code.specs.Places.{Depth, Places, put_at, Hold, made}
use Rattle.wam_code.specs.Tries.{IsClause}
use Rattle.code_meaning.specs.Registers.{Registers, Saved, AreSame, IsShown, AreShown, AreHeld}
use Rattle.code_meaning.specs.StateMeaning.{Made, IsOld, Stands, IsCalling}
use Rattle.wam_code.proofs.Lemmas.{put_here, put_else}
use Rattle.code_meaning.proofs.Levels.{leveled_no_slots}
use Rattle.code_meaning.proofs.RegisterTerms.{all_moved, shown_same, shown_moved}

-- the terms in registers from i on
abbrev pub args_at : ℕ → Terms → ℕ → Option Term
args_at i no_terms = λ n. None
args_at i (term t ts) = put_at i t (args_at (suc i) ts)

hold_args : (p : Places) (i : ℕ) (ts : Terms) → ((n : ℕ) → i ≤ n → p.x n ≡ args_at i ts n) → Hold p i ts
hold_args p i no_terms h = tt
hold_args p i (term t ts) h = (
  h i (omega arith) ∙ put_here i t (args_at (suc i) ts),
  hold_args p (suc i) ts (λ n l. h n (omega (arith, l)) ∙ put_else i t (args_at (suc i) ts) n (λ e. omega (arith, e, l))),
)

shown_args : (name : Naming) (h : Cells) (look : Substitution) (P : ℕ → Type 0) (i : ℕ) (cells : ℕ → Option Cell) (ts : Terms)
    → AreHeld name h look P i cells ts → AreShown name h look P (args_at i ts) cells
shown_args name h look P i cells no_terms a n t e = absurd (none-some t e)
shown_args name h look P i cells (term s ts) a n t e = elim (cases_eq n i) [
  | inl k ↦
      let same : s ≡ t = same_Some s t (sym (put_here i s (args_at (suc i) ts)) ∙ ap (put_at i s (args_at (suc i) ts)) (sym k) ∙ e) in
      (a.0.0, ap cells k ∙ a.0.1, subst (λ u. IsShown name h look P u a.0.0) same a.0.2)
  | inr k ↦ shown_args name h look P (suc i) cells ts a.1 n t (sym (put_else i s (args_at (suc i) ts) n k) ∙ e)
]

same_counts : (ts us : Terms) → same_count ts us ≡ true → term_count ts ≡ term_count us
same_counts no_terms no_terms e = refl
same_counts no_terms (term u us) e = absurd (true≢false (sym e))
same_counts (term t ts) no_terms e = absurd (true≢false (sym e))
same_counts (term t ts) (term u us) e = ap suc (same_counts ts us e)

pub fits_count : (f : Name) (ts : Terms) (h : Term) → fits_head (made f ts) h ≡ true → term_count ts ≡ term_count (arguments h)
fits_count f no_terms (Var x) e = absurd (true≢false (sym e))
fits_count f no_terms (Int x) e = absurd (true≢false (sym e))
fits_count f no_terms (Atom b) e = refl
fits_count f no_terms (Comp g us) e = absurd (true≢false (sym e))
fits_count f (term t ts) (Var x) e = absurd (true≢false (sym e))
fits_count f (term t ts) (Int x) e = absurd (true≢false (sym e))
fits_count f (term t ts) (Atom b) e = absurd (true≢false (sym e))
fits_count f (term t ts) (Comp g us) e = same_counts (term t ts) us (and_parts (bytes_eq f g) (same_count (term t ts) us) e).1

pub fits_equations : (g : ℕ → ℕ) (f : Name) (ts : Terms) (h : Term) → fits_head (made f ts) h ≡ true
    → argument_equations (made f ts) (rename_term g h) ≡ paired ts (apply_all (λ x. Var (g x)) (arguments h))
fits_equations g f no_terms (Var x) e = absurd (true≢false (sym e))
fits_equations g f no_terms (Int x) e = absurd (true≢false (sym e))
fits_equations g f no_terms (Atom b) e = refl
fits_equations g f no_terms (Comp i us) e = absurd (true≢false (sym e))
fits_equations g f (term t ts) (Var x) e = absurd (true≢false (sym e))
fits_equations g f (term t ts) (Int x) e = absurd (true≢false (sym e))
fits_equations g f (term t ts) (Atom b) e = absurd (true≢false (sym e))
fits_equations g f (term t ts) (Comp i us) e = refl

arguments_low : (v : ℕ) (h : Term) → TermBelow v h → TermsBelow v (arguments h)
arguments_low v (Var x) b = tt
arguments_low v (Int z) b = tt
arguments_low v (Atom a) b = tt
arguments_low v (Comp g ts) b = b

pairs_of : (P : ℕ → Type 0) (ts us : Terms) → AllOf P ts → AllOf P us → EquationsOf P (paired ts us)
pairs_of P no_terms us a b = tt
pairs_of P (term t ts) no_terms a b = tt
pairs_of P (term t ts) (term u us) a b = ((a.0, b.0), pairs_of P ts us a.1 b.1)

pub held_low : (name : Naming) (h : Cells) (look : Substitution) (P : ℕ → Type 0) (i : ℕ) (cells : ℕ → Option Cell) (ts : Terms) → AreHeld name h look P i cells ts → AllOf P ts
held_low name h look P i cells no_terms a = tt
held_low name h look P i cells (term t ts) a = (a.0.2.known, held_low name h look P (suc i) cells ts a.1)

pub numbers_wider : (n k : ℕ) → n ≤ k → (vs : List ℕ) → NumbersBelow n vs → NumbersBelow k vs
numbers_wider n k l [] b = tt
numbers_wider n k l (v ∷ vs) b = ((let i = b.0 in omega (arith, i, l)), numbers_wider n k l vs b.1)

module _ (M N : ℕ) (marks : List ℕ) (noted : Depth) (area : Area) (shown : List ℕ) (name : Naming) (h : Cells) (qs : List Indexical) (at : ℕ) (e : Entry)
    (c : Registers) (stack : List Saved) (b : Branch) (m : IsCalling M N marks noted area shown name h qs e c stack b) where
  -- Where the clause's code stands, the machine stands for the clause's branch. The slots hold whatever they do.
  pub enter_clause : (k : Clause) → IsClause area at k → fits_head (made (name_of area e.name) m.ts) k.head ≡ true → TermBelow k.variables k.head × EachBelow k.variables k.body
      → (c' : Registers) → AreSame c.x c'.x → c'.noted ≡ c.noted → Stands M N marks area shown name h qs at c' stack (by_clause noted.branches b (made (name_of area e.name) m.ts) m.rest k)
  enter_clause k code fits low c' same number =
      let f : Name = name_of area e.name in
      let n : ℕ = b.fresh in
      let fresh : ℕ = n + k.variables in
      let P : ℕ → Type 0 = λ v. v < n in
      let F : ℕ → Type 0 = λ v. v < fresh in
      let wide : (v : ℕ) → v < n → v < fresh = λ v l. omega (arith, l) in
      let p : Places = record { x = args_at 1 m.ts; y = λ i. None; levels = λ i. None; noted = Some noted; known = λ v. nat_lt v n; own = fresh; top = fresh } in
      let us : Terms = apply_all (λ x. Var (n + x)) (arguments k.head) in
      let todo : List Equation = paired m.ts us in
      let kid : Branch = by_clause noted.branches b (made f m.ts) m.rest k in
      let is : argument_equations (made f m.ts) (rename_term (λ x. n + x) k.head) ≡ todo = fits_equations (λ x. n + x) f m.ts k.head fits in
      let old : AllOf P m.ts = held_low name h m.look P 1 c.x m.ts m.held in
      let there : (v : ℕ) → v < n → Made p fresh v = λ v l. (grind (arith, nat_tests), inl (wide v l)) in
      let back : (v : ℕ) → Made p fresh v → v < n = λ v i. (let j = i.0 in grind (arith, nat_tests)) in
      let says : SaysSame F (b.equations ++ todo) (todo ++ b.equations) = record {
        there = λ u g. (let d = split_both u b.equations todo g in join_both u todo b.equations d.1 d.0);
        back = λ u g. (let d = split_both u todo b.equations g in (u, join_both u b.equations todo d.1 d.0, λ x l. refl));
      } in
      let scoped : EquationsOf F (todo ++ b.equations) =
      below_both F todo b.equations (pairs_of F m.ts us (more_all P F wide m.ts old)
      (renamed_all n k.variables (arguments k.head) (arguments_low k.variables k.head low.0))) (more_each P F wide b.equations m.kept.stored.heap.scoped) in
      record {
        p = p;
        todo = todo;
        returns = m.returns;
        after = m.rest;
        made = record {
          done = b.equations;
          look = m.look;
          kept = kept_known M N h qs b.equations b.posted P m.look m.kept (Made p fresh) there back;
          same = subst (λ l. SaysSame F (b.equations ++ todo) (l ++ b.equations)) (sym is) says;
          xs = shown_same name h m.look (Made p fresh) p.x c.x c'.x same
              (shown_moved name h h m.look m.look P (Made p fresh) there (λ t d o i j. (i, j)) p.x c.x (shown_args name h m.look P 1 c.x m.ts m.held));
          ys = λ i t j. absurd (none-some t j);
          saved = all_moved name h h m.look m.look P (IsOld p fresh) (λ v l. ((there v l).0, wide v l)) (λ t d o i j. (i, j)) n fresh (omega arith) m.returns stack m.saved;
          leveled = leveled_no_slots marks (λ i. None) (Some noted) c m.returns stack m.leveled c' number;
          own = omega arith;
          covered = λ v l t. absurd (omega (arith, l, t));
          used = λ v i. wide v (m.kept.stored.used v i);
          scoped = subst (λ l. EquationsOf F (l ++ b.equations)) (sym is) scoped;
        };
        continues = m.continues;
        means = code n m.ts noted m.rest shown p (fits_count f m.ts k.head fits) old (hold_args p 1 m.ts (λ i l. refl)) refl
            (record { known = λ i l. (there i l).0; fresh = λ i l. grind (arith, nat_tests); own = refl; top = refl });
        below = each_both_below fresh (marked_all noted.branches (map (rename_goal (λ x. n + x)) k.body)) m.rest
            (each_marked fresh noted.branches (map (rename_goal (λ x. n + x)) k.body)
            (body_renamed k.variables fresh (λ x. n + x) (λ x l. omega (arith, l)) k.body low.1))
            (each_wider n fresh (omega arith) m.rest (subst (EachBelow n) m.goals m.below).1);
        asked = numbers_wider n fresh (omega arith) shown m.asked;
      }
