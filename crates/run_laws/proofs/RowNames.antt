-- The row of a constraint under other names of its variables, by a heap that has nothing but these names.
use Rattle.std.proofs.Common.{◌≡◌, ℕ, ◌<◌, ◌≤◌, true, [], None, refl, ap, sym, ◌∙◌, subst, arith}
use Rattle.std.proofs.lemmas.Bool.{true≢false}
use Rattle.fd_model.specs.declared.kinds.ConstraintKind.{ConstraintKind}
use Rattle.fd_language.specs.Term.{Term, Terms, Var, Int, Atom, Comp, no_terms, term, Substitution, apply}
use Rattle.fd_language.specs.Family.{Family, has, universe}
use Rattle.fd_language.specs.Variables.{variables_of, variables_of_all}
use Rattle.fd_language.proofs.Lemmas.{universe_rising, rising_inside, in_left, in_right, first_member, apply_vars, identity}
use Rattle.fd_model.specs.ClosedFamilies.{IsClosed}
use Rattle.fd_model.specs.BranchViews.{IsConsistent, IsView, seen}
use Rattle.fd_model.specs.Models.{IsModel}
use Rattle.fd_model.specs.ConstraintExpansion.{arguments, expand}
use Rattle.fd_model.proofs.Lemmas.{number}
use Rattle.branch_meaning.specs.Heap.{Of, AllOf}
use Rattle.branch_meaning.specs.HeldBranches.{HeldState, IsHeld, IsAtRest}
use Rattle.branch_meaning.specs.Rows.{rename_row}
use Rattle.branch_meaning.proofs.Lemmas.{cell_from, row_same, row_cell, of_arguments, place_above}

-- a property of the variables of a term
module _ (P : ℕ → Type 0) where
  mutual
    of_each : (t : Term) → ((y : ℕ) → has (variables_of t) y ≡ true → P y) → Of P t
    of_each (Var x) h = h x (first_member x [])
    of_each (Int z) h = tt
    of_each (Atom a) h = tt
    of_each (Comp f ts) h = of_all ts h

    of_all : (ts : Terms) → ((y : ℕ) → has (variables_of_all ts) y ≡ true → P y) → AllOf P ts
    of_all no_terms h = tt
    of_all (term t ts) h = (
      of_each t (λ y c. h y (in_left (variables_of t) (variables_of_all ts) y c)),
      of_all ts (λ y c. h y (in_right (variables_of t) (variables_of_all ts) y c)),
    )

-- The variables that are as they are have names by u, which s takes back; n is above all of them.
module _ (M N n : ℕ) (s u : Substitution) (after : ℕ → ℕ) (after_is : (y : ℕ) → s y ≡ Var y → u y ≡ Var (after y)) (after_back : (y : ℕ) → s y ≡ Var y → s (after y) ≡ Var y)
    (after_low : (y : ℕ) → s y ≡ Var y → y < n → after y < n) where
  abbrev Own : ℕ → Type 0
  Own y = (s y ≡ Var y) × (y < n)

  abbrev state : HeldState
  state = record { heap = λ x. Var x; cells = n; link = λ c. None; store = [] }

  none_named : (v : ℕ) → has [] v ≡ true → ⊥
  none_named v h = true≢false (sym h)

  through : (w : Substitution) → (back : Substitution) × ((x : ℕ) → Own x → apply back (u x) ≡ w x)
  through w = (λ d. w (number (s d)), λ x o. ap (apply (λ d. w (number (s d)))) (after_is x o.0) ∙ ap (λ t. w (number t)) (after_back x o.0))

  whole : Family
  whole x = universe M

  whole_closed : IsClosed M N (λ x. Var x) [] whole
  unfolding whole
  whole_closed = record {
    family = record { rising = λ x. universe_rising M };
    posted = tt;
    values = λ v z k c e i. absurd (none_named v c);
    same = λ v w x c d e f. refl;
    atoms = λ v a c e. absurd (none_named v c);
    compounds = λ v f ts c e. absurd (none_named v c);
    within = λ v k c i. absurd (none_named v c);
  }

  whole_model : IsModel M N [] [] whole
  whole_model = record { unifier = λ x. Var x; general = identity; closed = whole_closed; full = λ x c. absurd (none_named x c) }

  held : IsHeld M N state [] [] Own u
  held = record {
    slot = λ x. x;
    fixed = [];
    unused = λ c l. refl;
    stored = record {
      heap = record {
        scoped = tt;
        unifies = tt;
        through = λ w i. through w;
        cells = λ x o. subst (Of (λ c. c < n)) (sym (after_is x o.0)) (after_low x o.0 o.1);
      };
      used = λ v c. absurd (none_named v c);
      down = λ T m. m;
      up = λ S m. (S, m, λ v c. refl);
      agrees = λ T m v c. absurd (none_named v c);
      slots = λ v c. absurd (none_named v c);
      linked = λ v c i e. absurd (none_named v i);
      from = λ c k e. absurd (cc);
    };
    sure = tt;
  }

  at_rest : IsAtRest M N state whole
  unfolding whole
  at_rest = record {
    model = whole_model;
    most = λ R m. record { at = λ x. rising_inside M (R x) (m.closed.family.rising x) };
    several = λ c k i e f. absurd (cc);
  }

  view : IsView M N [] [] (λ x. Var x) whole
  unfolding whole
  view = record {
    general = identity;
    least = λ x y e. (let k : x ≡ y = cc in omega (arith, k));
    closed = whole_closed;
    contains = λ S c. record { at = λ x. rising_inside M (S x) (c.family.rising x) };
  }

  consistent : IsConsistent M N [] []
  consistent = record { unifier = λ x. Var x; general = identity; some = λ x c. absurd (none_named x c) }

  seen_as_is : (t : Term) → seen (λ x. Var x) whole [] t ≡ t
  seen_as_is t = apply_vars (apply (λ x. Var x) t) ∙ apply_vars t

  module _ (t : Term) (own : (y : ℕ) → has (variables_of t) y ≡ true → Own y) where
    of_own : Of Own t
    of_own = of_each Own t own

    seen_low : (y : ℕ) → has (variables_of (seen (λ x. Var x) whole [] t)) y ≡ true → y < n
    seen_low y c = (own y (subst (λ w. has (variables_of w) y ≡ true) (seen_as_is t) c)).1

    -- the names of all variables: the fresh ones keep theirs
    pub row_name : ℕ → ℕ
    row_name = cell_from M N state [] [] Own u held whole at_rest (λ x. Var x) whole view consistent n

    pub row_named : (kind : ConstraintKind) → expand M kind (arguments (apply u t)) n ≡ rename_row row_name (expand M kind (arguments t) n)
    unfolding row_name
    row_named kind =
        row_same M N state [] [] Own u held whole at_rest (λ x. Var x) whole view consistent n t of_own seen_low kind
        ∙ ap (λ w. rename_row row_name (expand M kind (arguments w) n)) (seen_as_is t)

    pub old_name : (y : ℕ) → has (variables_of_all (arguments t)) y ≡ true → row_name y ≡ after y
    unfolding row_name
    old_name y c =
        let here : has (variables_of_all (arguments (seen (λ x. Var x) whole [] t))) y ≡ true = subst (λ w. has (variables_of_all (arguments w)) y ≡ true) (sym (seen_as_is t)) c in
        let k = row_cell M N state [] [] Own u held whole at_rest (λ x. Var x) whole view consistent n t of_own seen_low y here in
        let same : Var (after y) ≡ Var (row_name y) = sym (after_is y (own y (of_arguments t y c)).0) ∙ k.1 in
        cc

    pub fresh_name : (y : ℕ) → n ≤ y → row_name y ≡ y
    unfolding row_name
    fresh_name y l = let k = place_above n n (λ x. number (u x)) y l in omega (arith, k, l)
