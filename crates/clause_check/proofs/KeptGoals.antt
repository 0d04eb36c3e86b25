-- What is kept of a goal.
use Rattle.std.proofs.Common.{◌≡◌, ℕ, Bool, ◌+◌, ◌<◌, List, [], ◌∷◌, ◌++◌, Option, Some, None, length, sym, ap, ◌∙◌, subst, arith, length-append, append-nil}
use Rattle.std.proofs.Common.{IsTrue}
use Rattle.std.proofs.lemmas.List.Elements.{All-push}
use Rattle.std.proofs.Math.Seq.{get_or-append_seam}
use Rattle.fd_model.proofs.Lemmas.{later_none, unoffended}
use Rattle.fd_language.specs.Term.{Term}
use Rattle.fd_language.specs.PlacedTerm.{PlacedTerm, plain}
use Rattle.fd_language.specs.Range.{Range}
use Rattle.fd_language.specs.RangeVerdict.{verdict, is_accepted}
use Rattle.fd_language.specs.Spelling.{read_range, not_a_range, empty_range}
use Rattle.fd_language.specs.declared.TheConstants.{INFINITY}
use Rattle.fd_language.proofs.Lemmas.{verdict_agrees}
use Rattle.fd_model.specs.declared.kinds.Order.{Order}
use Rattle.fd_model.specs.Forms.{GoalForm, truth, failure, cutting, unification, posting, constraint, labelling, optimum, builtin, form_named}
use Rattle.fd_model.specs.Goal as model
use Rattle.fd_model.specs.Queries.{first_part, best_of, goal_by_form, goal_named, form_of_functor, goal_of}
use Rattle.fd_model.specs.Refusals as refusals
use Rattle.fd_model.specs.Refusals.{unspelled, offence_refusal, range_refusal, second_part, functor_of}
use Rattle.term_pool.specs.declared.TermId.{TermId}
use Rattle.term_pool.specs.Contents.{Contents}
use Rattle.term_pool.specs.Terms.{term_of}
use Rattle.term_pool.specs.PlacedTerms.{placed_of}
use Rattle.term_reader.proofs.Lemmas.{plain_placed}
use Rattle.clause_check.specs.declared.program.FlatGoal.{FlatGoal}
use Rattle.clause_check.specs.declared.program.FlatGoal.TheVariants.{Unify, Post, Label, Call, Best}
use Rattle.clause_check.specs.Forms.{order_in}
use Rattle.clause_check.specs.GoalRecords.{AreAccepted, KeepsGoal}
use Rattle.clause_check.specs.Programs.{tree_of, range_in, HasArguments, IsGoal}
use Rattle.clause_check.specs.Terms.{IsPartOf}
use Rattle.clause_check.proofs.FormNames.{functor_arguments}

-- a range that isn't refused is accepted
range_accepted : (M N : ℕ) (r : PlacedTerm) (range : Range) → range_refusal M N r ≡ None → range ≡ (read_range N r).tree → IsTrue (is_accepted M range)
range_accepted M N r range h e =
    let places = (read_range N r).places in
    let none = unoffended (verdict M places (read_range N r).tree) (later_none (unspelled (not_a_range N r)) (offence_refusal (verdict M places (read_range N r).tree)) h) in
    subst (λ (q : Range). IsTrue (is_accepted M q)) (sym e) ((verdict_agrees M places (read_range N r).tree).0 none)

-- the form that has an order is that of a labelling
pub ordered : (f : Option GoalForm) (o : Order) → Some o ≡ order_in f → f ≡ Some (labelling o)
ordered (Some (labelling p)) o e = let same : o ≡ p = cc in ap (λ (q : Order). Some (labelling q)) (sym same)
ordered (Some truth) o e = absurd cc
ordered (Some failure) o e = absurd cc
ordered (Some cutting) o e = absurd cc
ordered (Some unification) o e = absurd cc
ordered (Some posting) o e = absurd cc
ordered (Some (constraint k)) o e = absurd cc
ordered (Some (optimum b)) o e = absurd cc
ordered (Some (builtin k)) o e = absurd cc
ordered None o e = absurd cc

module _ (N : ℕ) (c : Contents) (ranges : List Range) where
  -- the goal names no range
  pub keeps_same : (x : model.Goal) (g : FlatGoal) → ((n : ℕ) → IsGoal c (length ranges) n g) → ((goals : List model.Goal) → tree_of c ranges goals g ≡ x) → KeepsGoal c ranges ranges x g
  keeps_same x g own is = record { grows = ([], sym (append-nil ranges)); accepted = λ h. h; own = own; is = is }

  part_term : (x : PlacedTerm) (t : TermId) → IsPartOf c x t → term_of c t ≡ plain x
  part_term x t h = sym (plain_placed c t) ∙ ap plain h.1

  pub keeps_unify : (x : PlacedTerm) (s t : TermId) → IsPartOf c (first_part x) s → IsPartOf c (second_part x) t → KeepsGoal c ranges ranges (goal_by_form N unification x) (Unify s t)
  keeps_unify x s t h k =
      keeps_same (goal_by_form N unification x) (Unify s t) (λ n. (h.0, k.0))
      (λ goals. ap (λ (u : Term). model.Unify u (term_of c t)) (part_term (first_part x) s h) ∙ ap (model.Unify (plain (first_part x))) (part_term (second_part x) t k))

  pub keeps_label : (x : PlacedTerm) (o : Order) (t : TermId) → IsPartOf c (first_part x) t → KeepsGoal c ranges ranges (goal_by_form N (labelling o) x) (Label o t)
  keeps_label x o t h = keeps_same (goal_by_form N (labelling o) x) (Label o t) (λ n. h.0) (λ goals. ap (model.Label o) (part_term (first_part x) t h))

  pub keeps_best : (x : PlacedTerm) (o : Order) (least : Bool) (g t u : TermId) → IsPartOf c (first_part x) g → IsPartOf c (first_part (placed_of c g)) t → IsPartOf c (second_part x) u
      → form_of_functor (functor_of (placed_of c g)) ≡ Some (labelling o) → KeepsGoal c ranges ranges (goal_by_form N (optimum least) x) (Best o least t u)
  keeps_best x o least g t u h k l e =
      let cost = second_part x in
      let named : best_of least (form_of_functor (functor_of (placed_of c g))) (placed_of c g) cost ≡ goal_by_form N (optimum least) x =
      ap (λ (y : PlacedTerm). best_of least (form_of_functor (functor_of y)) y cost) h.1 in
      let found : best_of least (form_of_functor (functor_of (placed_of c g))) (placed_of c g) cost ≡ model.Best o least (plain (first_part (placed_of c g))) (plain cost) =
      ap (λ (f : Option GoalForm). best_of least f (placed_of c g) cost) e in
      keeps_same (goal_by_form N (optimum least) x) (Best o least t u) (λ n. (k.0, l.0))
      (λ goals. ap (λ (v : Term). model.Best o least v (term_of c u)) (part_term (first_part (placed_of c g)) t k)
      ∙ ap (model.Best o least (plain (first_part (placed_of c g)))) (part_term cost u l) ∙ sym found ∙ named)

  -- the goal names the last range
  pub keeps_post : (new : List Range) (x : PlacedTerm) (t r : TermId) (n : ℕ) (range : Range) → IsPartOf c (first_part x) t → IsPartOf c (second_part x) r
      → (range_refusal INFINITY N (placed_of c r) ≡ None) × (range ≡ (read_range N (placed_of c r)).tree) → n ≡ length ranges → new ≡ ranges ++ range ∷ []
      → KeepsGoal c ranges new (goal_by_form N posting x) (Post t n)
  keeps_post new x t r n range h k e count is =
      let size : length new ≡ length ranges + 1 = ap length is ∙ length-append ranges (range ∷ []) in
      let here : range_in new n ≡ range = ap (range_in new) count ∙ ap (λ (rs : List Range). range_in rs (length ranges)) is ∙ get_or-append_seam ranges range [] empty_range in
      let spelled : range ≡ (read_range N (second_part x)).tree = e.1 ∙ ap (λ (y : PlacedTerm). (read_range N y).tree) k.1 in
      record {
        grows = (range ∷ [], is);
        accepted = λ a. subst AreAccepted (sym is) (All-push (λ r. IsTrue (is_accepted INFINITY r)) ranges range a (range_accepted INFINITY N (placed_of c r) range e.0 e.1));
        own = λ m. (h.0, omega (arith, size, count));
        is = λ goals. ap (λ (u : Term). model.Post u (range_in new n)) (part_term (first_part x) t h) ∙ ap (model.Post (plain (first_part x))) (here ∙ spelled);
      }

  -- a user goal
  pub keeps_call : (t : TermId) (f : refusals.Functor) → t.number < length c.entries → functor_of (placed_of c t) ≡ Some f → form_named f.name f.arity ≡ None
      → KeepsGoal c ranges ranges (goal_of N (placed_of c t)) (Call t)
  keeps_call t f l e n =
      let x = placed_of c t in
      let called : goal_of N x ≡ model.Call (plain x) = ap (λ (o : Option refusals.Functor). goal_named N (form_of_functor o) x) e ∙ ap (λ (o : Option GoalForm). goal_named N o x) n in
      keeps_same (goal_of N x) (Call t) (λ m. (l, (f.arity, subst (λ (u : Term). HasArguments f.arity u) (plain_placed c t) (functor_arguments x f e))))
      (λ goals. ap model.Call (sym (plain_placed c t)) ∙ sym called)
