-- The goals that terms stand for, by their names and parts.
use Rattle.std.proofs.Common.{◌≡◌, ℕ, zero, suc, Bool, true, false, cond, ◌&&◌, ◌||◌, List, [], ◌∷◌, length, Option, Some, None, refl, sym, ap, ◌∙◌, subst}
use Rattle.std.proofs.Common.{true≢false}
use Rattle.std.specs.Prelude.{Err, MatchOption}
use Rattle.std.specs.List.{list_any}
use Rattle.std.proofs.lemmas.Option.{same_Some}
use Rattle.std.specs.Str.{bytes_eq}
use Rattle.fd_language.specs.declared.TheConstants.{INFINITY}
use Rattle.fd_language.specs.PlacedTerm.{PlacedTerm, atom, comp, plain, all_plain, place}
use Rattle.fd_language.specs.Term.{Name, Term, Comp, term}
use Rattle.fd_model.specs.declared.kinds.ConstraintKind.{ConstraintKind}
use Rattle.fd_model.specs.declared.kinds.ConstraintKind.TheVariants as kind
use Rattle.fd_model.specs.declared.kinds.Order.{Order}
use Rattle.fd_model.specs.ConstraintExpansion.{arguments}
use Rattle.fd_language.specs.Spelling.{read_range}
use Rattle.fd_model.specs.FlatConstraints.{is_place}
use Rattle.fd_model.specs.FlatQueries.{IsSatisfied}
use Rattle.fd_model.specs.Forms.{GoalForm, truth, failure, unification, posting, cutting, constraint, labelling, optimum, builtin, forms, form_in, form_named}
use Rattle.fd_model.specs.Labelling.{read_list}
use Rattle.fd_model.specs.Queries.{best_of, goal_of, goal_named}
use Rattle.fd_model.specs.Satisfaction.{Satisfies, InRange}
use Rattle.term_pool.specs.declared.TermId.{TermId}
use Rattle.term_pool.specs.declared.Node.{Node}
use Rattle.term_pool.specs.declared.Node.TheVariants as node
use Rattle.term_pool.specs.Contents.{Contents, atom_name}
use Rattle.term_pool.specs.PoolInvariant.{shape_of}
use Rattle.term_pool.specs.PlacedTerms.{placed_of, parts_by}
use Rattle.term_pool.specs.Terms.{term_of, terms_by}
use Rattle.term_reader.proofs.Lemmas.{plain_placed}
use Rattle.answer_check.specs.declared.forms.GoalKind.{GoalKind}
use Rattle.answer_check.specs.declared.forms.GoalKind.TheVariants as form
use Rattle.answer_check.specs.declared.goals.Constraint.{Constraint}
use Rattle.answer_check.specs.FlatForm.{is_flat_goal, is_linear_constraint, is_flat_range, labelled_by, labelling_of}
use Rattle.answer_check.specs.Forms.{kind_form, flat_form}
use Rattle.answer_check.specs.declared.goals.Labelling.{Labelling}
use Rattle.answer_check.specs.Goals.{Keeps, KeepsKind, FindsLabels, FindsLabelling, IsLabelling}
use Rattle.answer_check.proofs.Labels.{labelling_found, labelling_missing}
use Rattle.answer_check.specs.TermShapes.{IsSeen}
use Rattle.answer_check.proofs.Shapes.{count_parts}

all_plain_placed : (c : Contents) (ids : List TermId) → all_plain (parts_by (placed_of c) ids) ≡ terms_by (term_of c) ids
all_plain_placed c [] = refl
all_plain_placed c (t ∷ ids) = ap (λ x. term x (all_plain (parts_by (placed_of c) ids))) (plain_placed c t) ∙ ap (λ xs. term (term_of c t) xs) (all_plain_placed c ids)

module _ (c : Contents) (x : PlacedTerm) (f : Name) (p : ℕ) (ids : List TermId) (e : x ≡ comp f p (parts_by (placed_of c) ids)) where
  goal_form : goal_of INFINITY x ≡ goal_named INFINITY (form_named f (length ids)) x
  goal_form = ap (goal_of INFINITY) e ∙ ap (λ n. goal_named INFINITY (form_named f n) (comp f p (parts_by (placed_of c) ids))) (count_parts (placed_of c) ids)
      ∙ ap (goal_named INFINITY (form_named f (length ids))) (sym e)

  plain_is : plain x ≡ Comp f (terms_by (term_of c) ids)
  plain_is = ap plain e ∙ ap (Comp f) (all_plain_placed c ids)

-- an optimum is no goal of the form
best_goal : (x g t : PlacedTerm) (least : Bool) (o : Option GoalForm) → is_flat_goal INFINITY x (best_of least o g t) ≡ false
best_goal x g t least None = refl
best_goal x g t least (Some truth) = refl
best_goal x g t least (Some failure) = refl
best_goal x g t least (Some unification) = refl
best_goal x g t least (Some posting) = refl
best_goal x g t least (Some cutting) = refl
best_goal x g t least (Some (constraint k)) = refl
best_goal x g t least (Some (labelling o)) = refl
best_goal x g t least (Some (optimum b)) = refl
best_goal x g t least (Some (builtin k)) = refl

other_kind : (x : PlacedTerm) (k : ConstraintKind) → ((j : ConstraintKind) → kind_form k ≡ Some (form.Constraint j) → ⊥) → is_flat_goal INFINITY x (goal_named INFINITY (Some (constraint k)) x) ≡ false
other_kind x (kind.Compare r) h = absurd (h (kind.Compare r) refl)
other_kind x kind.AllDifferent h = absurd (h kind.AllDifferent refl)
other_kind x kind.Element h = absurd (h kind.Element refl)
other_kind x kind.Atmost h = absurd (h kind.Atmost refl)
other_kind x kind.And h = refl
other_kind x kind.Or h = refl
other_kind x kind.Not h = refl
other_kind x kind.Reified h = refl

-- a goal that is none of the form's constraints
other_goal : (x : PlacedTerm) (o : Option GoalForm) → ((k : ConstraintKind) → flat_form o ≡ Some (form.Constraint k) → ⊥)
    → (flat_form o ≡ Some form.Posting → ⊥) → is_flat_goal INFINITY x (goal_named INFINITY o x) ≡ false
other_goal x None h g = refl
other_goal x (Some truth) h g = refl
other_goal x (Some failure) h g = refl
other_goal x (Some unification) h g = refl
other_goal x (Some posting) h g = absurd (g refl)
other_goal x (Some cutting) h g = refl
other_goal x (Some (constraint k)) h g = other_kind x k h
other_goal x (Some (labelling o)) h g = refl
other_goal x (Some (optimum least)) h g = best_goal x _ _ least _
other_goal x (Some (builtin k)) h g = refl

pub other_is : (c : Contents) (x : PlacedTerm) (f : Name) (p : ℕ) (ids : List TermId) → x ≡ comp f p (parts_by (placed_of c) ids)
    → ((k : ConstraintKind) → flat_form (form_named f (length ids)) ≡ Some (form.Constraint k) → ⊥)
    → (flat_form (form_named f (length ids)) ≡ Some form.Posting → ⊥)
    → is_flat_goal INFINITY x (goal_of INFINITY x) ≡ false
other_is c x f p ids e h g = ap (is_flat_goal INFINITY x) (goal_form c x f p ids e) ∙ other_goal x (form_named f (length ids)) h g

kind_is : (j k : ConstraintKind) → kind_form j ≡ Some (form.Constraint k) → j ≡ k
kind_is (kind.Compare r) k e = cc
kind_is kind.AllDifferent k e = cc
kind_is kind.Element k e = cc
kind_is kind.Atmost k e = cc
kind_is kind.And k e = absurd (cc (e))
kind_is kind.Or k e = absurd (cc (e))
kind_is kind.Not k e = absurd (cc (e))
kind_is kind.Reified k e = absurd (cc (e))

kind_not : (j : ConstraintKind) (f : GoalKind) → ((k : ConstraintKind) → f ≡ form.Constraint k → ⊥) → kind_form j ≡ Some f → ⊥
kind_not (kind.Compare r) f h e = h (kind.Compare r) cc
kind_not kind.AllDifferent f h e = h kind.AllDifferent cc
kind_not kind.Element f h e = h kind.Element cc
kind_not kind.Atmost f h e = h kind.Atmost cc
kind_not kind.And f h e = cc (e)
kind_not kind.Or f h e = cc (e)
kind_not kind.Not f h e = cc (e)
kind_not kind.Reified f h e = cc (e)

-- a constraint of a kind
constraint_form : (o : Option GoalForm) (k : ConstraintKind) → flat_form o ≡ Some (form.Constraint k) → o ≡ Some (constraint k)
constraint_form None k e = absurd (cc (e))
constraint_form (Some truth) k e = absurd (cc (e))
constraint_form (Some failure) k e = absurd (cc (e))
constraint_form (Some unification) k e = absurd (cc (e))
constraint_form (Some posting) k e = absurd (cc (e))
constraint_form (Some cutting) k e = absurd (cc (e))
constraint_form (Some (constraint j)) k e = ap (λ i. Some (constraint i)) (kind_is j k e)
constraint_form (Some (labelling o)) k e = absurd (cc (e))
constraint_form (Some (optimum least)) k e = absurd (cc (e))
constraint_form (Some (builtin j)) k e = absurd (cc (e))

pub kind_says : (c : Contents) (x : PlacedTerm) (f : Name) (p : ℕ) (ids : List TermId) → x ≡ comp f p (parts_by (placed_of c) ids) → (k : ConstraintKind)
    → flat_form (form_named f (length ids)) ≡ Some (form.Constraint k) → (o : Option Constraint)
    → KeepsKind k (terms_by (term_of c) ids) o → Keeps (is_flat_goal INFINITY x (goal_of INFINITY x)) (λ a. IsSatisfied INFINITY INFINITY a (goal_of INFINITY x)) o
kind_says c x f p ids e k h o keeps =
    let is = goal_form c x f p ids e ∙ ap (λ q. goal_named INFINITY q x) (constraint_form (form_named f (length ids)) k h) in
    subst (λ g. Keeps (is_flat_goal INFINITY x g) (λ a. IsSatisfied INFINITY INFINITY a g) o) (sym is)
    (subst (λ t. Keeps (is_linear_constraint INFINITY k (arguments t)) (λ a. Satisfies INFINITY k (arguments t) a) o) (sym (plain_is c x f p ids e)) keeps)

-- ---- forms that no name has with so many parts

none_in : (test : GoalForm → Bool) (rows : List (Name × GoalForm)) (a : Name) (g : GoalForm) → list_any (λ (r : Name × GoalForm). test r.1) rows ≡ false → form_in rows a ≡ Some g → test g ≡ false
none_in test [] a g h e = absurd (cc (e))
none_in test (row ∷ rows) a g h e = by (bytes_eq a row.0) e (both (test row.1) (list_any (λ (r : Name × GoalForm). test r.1) rows) h) (none_in test rows a g) where
  both : (x y : Bool) → (x || y) ≡ false → (x ≡ false) × (y ≡ false)
  both false y h = (refl, h)
  both true y h = absurd (true≢false h)

  by : (b : Bool) → cond b (Some row.1) (form_in rows a) ≡ Some g → (test row.1 ≡ false) × (list_any (λ (r : Name × GoalForm). test r.1) rows ≡ false)
      → (list_any (λ (r : Name × GoalForm). test r.1) rows ≡ false → form_in rows a ≡ Some g → test g ≡ false) → test g ≡ false
  by true e p i = ap test (sym (same_Some row.1 g e)) ∙ p.0
  by false e p i = i p.1 e

abbrev is_posting : GoalForm → Bool
is_posting posting = true
is_posting g = false

abbrev is_labelling : GoalForm → Bool
is_labelling (labelling o) = true
is_labelling g = false

posting_form : (o : Option GoalForm) → flat_form o ≡ Some form.Posting → o ≡ Some posting
posting_form None e = absurd (cc (e))
posting_form (Some truth) e = absurd (cc (e))
posting_form (Some failure) e = absurd (cc (e))
posting_form (Some unification) e = absurd (cc (e))
posting_form (Some posting) e = refl
posting_form (Some cutting) e = absurd (cc (e))
posting_form (Some (constraint j)) e = absurd (kind_not j form.Posting (λ k f. cc (f)) e)
posting_form (Some (labelling o)) e = absurd (cc (e))
posting_form (Some (optimum least)) e = absurd (cc (e))
posting_form (Some (builtin j)) e = absurd (cc (e))

labelling_form : (o : Option GoalForm) (k : Order) → flat_form o ≡ Some (form.Labelling k) → o ≡ Some (labelling k)
labelling_form None k e = absurd (cc (e))
labelling_form (Some truth) k e = absurd (cc (e))
labelling_form (Some failure) k e = absurd (cc (e))
labelling_form (Some unification) k e = absurd (cc (e))
labelling_form (Some posting) k e = absurd (cc (e))
labelling_form (Some cutting) k e = absurd (cc (e))
labelling_form (Some (constraint j)) k e = absurd (kind_not j (form.Labelling k) (λ i f. cc (f)) e)
labelling_form (Some (labelling o)) k e = let same : o ≡ k = cc in ap (λ i. Some (labelling i)) same
labelling_form (Some (optimum least)) k e = absurd (cc (e))
labelling_form (Some (builtin j)) k e = absurd (cc (e))

-- a range is posted on the first of two parts
pub posting_two : (f : Name) (n : ℕ) → (n ≡ 2 → ⊥) → flat_form (form_named f n) ≡ Some form.Posting → ⊥
posting_two f n h e = go n h (posting_form (form_named f n) e) where
  go : (n : ℕ) → (n ≡ 2 → ⊥) → form_named f n ≡ Some posting → ⊥
  go zero h e = true≢false (none_in is_posting (forms 0) f posting refl e)
  go (suc zero) h e = true≢false (none_in is_posting (forms 1) f posting refl e)
  go (suc (suc zero)) h e = h refl
  go (suc (suc (suc zero))) h e = true≢false (none_in is_posting (forms 3) f posting refl e)
  go (suc (suc (suc (suc n)))) h e = cc (e)

pub posting_says : (c : Contents) (x : PlacedTerm) (f : Name) (p : ℕ) (a b : TermId) → x ≡ comp f p (parts_by (placed_of c) (a ∷ b ∷ []))
    → flat_form (form_named f 2) ≡ Some form.Posting → (o : Option Constraint)
    → Keeps (is_place (term_of c a) && is_flat_range INFINITY (placed_of c b) (read_range INFINITY (placed_of c b)).tree)
    (λ s. InRange INFINITY INFINITY s (term_of c a) (read_range INFINITY (placed_of c b)).tree) o
    → Keeps (is_flat_goal INFINITY x (goal_of INFINITY x)) (λ s. IsSatisfied INFINITY INFINITY s (goal_of INFINITY x)) o
posting_says c x f p a b e h o keeps =
    let is = goal_form c x f p (a ∷ b ∷ []) e ∙ ap (λ q. goal_named INFINITY q x) (posting_form (form_named f 2) h) in
    subst (λ g. Keeps (is_flat_goal INFINITY x g) (λ s. IsSatisfied INFINITY INFINITY s g) o) (sym is)
    (subst (λ y. Keeps (is_flat_goal INFINITY y (goal_named INFINITY (Some posting) y)) (λ s. IsSatisfied INFINITY INFINITY s (goal_named INFINITY (Some posting) y)) o) (sym e)
    (subst (λ t. Keeps (is_place t && is_flat_range INFINITY (placed_of c b) (read_range INFINITY (placed_of c b)).tree)
    (λ s. InRange INFINITY INFINITY s t (read_range INFINITY (placed_of c b)).tree) o) (sym (plain_placed c a)) keeps))

-- ---- the labelling

best_labels : (n p : ℕ) (g t : PlacedTerm) (least : Bool) (o : Option GoalForm) → labelling_of n p (best_of least o g t) ≡ Err p
best_labels n p g t least None = refl
best_labels n p g t least (Some truth) = refl
best_labels n p g t least (Some failure) = refl
best_labels n p g t least (Some unification) = refl
best_labels n p g t least (Some posting) = refl
best_labels n p g t least (Some cutting) = refl
best_labels n p g t least (Some (constraint k)) = refl
best_labels n p g t least (Some (labelling o)) = refl
best_labels n p g t least (Some (optimum b)) = refl
best_labels n p g t least (Some (builtin k)) = refl

-- a goal that labels nothing
no_labelling : (n p : ℕ) (x : PlacedTerm) (o : Option GoalForm) → ((k : Order) → o ≡ Some (labelling k) → ⊥) → labelling_of n p (goal_named INFINITY o x) ≡ Err p
no_labelling n p x None h = refl
no_labelling n p x (Some truth) h = refl
no_labelling n p x (Some failure) h = refl
no_labelling n p x (Some unification) h = refl
no_labelling n p x (Some posting) h = refl
no_labelling n p x (Some cutting) h = refl
no_labelling n p x (Some (constraint k)) h = refl
no_labelling n p x (Some (labelling k)) h = absurd (h k refl)
no_labelling n p x (Some (optimum least)) h = best_labels n p _ _ least _
no_labelling n p x (Some (builtin k)) h = refl

labelling_one : (f : Name) (n : ℕ) → (n ≡ 1 → ⊥) → (k : Order) → form_named f n ≡ Some (labelling k) → ⊥
labelling_one f zero h k e = true≢false (none_in is_labelling (forms 0) f (labelling k) refl e)
labelling_one f (suc zero) h k e = h refl
labelling_one f (suc (suc zero)) h k e = true≢false (none_in is_labelling (forms 2) f (labelling k) refl e)
labelling_one f (suc (suc (suc zero))) h k e = true≢false (none_in is_labelling (forms 3) f (labelling k) refl e)
labelling_one f (suc (suc (suc (suc n)))) h k e = cc (e)

pub unlabelled : (c : Contents) (t : TermId) (n p : ℕ) (v : Node) → IsSeen c t (shape_of v) → ((f : _) (ids : _) → v ≡ node.Comp f ids → length ids.now ≡ 1 → ⊥)
    → labelling_of n p (goal_of INFINITY (placed_of c t)) ≡ Err p
unlabelled c t n p (node.Var x) e h = ap (λ y. labelling_of n p (goal_of INFINITY y)) e
unlabelled c t n p (node.Int z) e h = ap (λ y. labelling_of n p (goal_of INFINITY y)) e
unlabelled c t n p (node.Atom a) e h = ap (λ y. labelling_of n p (goal_of INFINITY y)) e
    ∙ no_labelling n p (atom (atom_name c a) (place (placed_of c t))) (form_named (atom_name c a) 0) (λ k. labelling_one (atom_name c a) 0 (λ z. cc (z)) k)
unlabelled c t n p (node.Comp f ids) e h =
    ap (labelling_of n p) (goal_form c (placed_of c t) (atom_name c f) (place (placed_of c t)) ids.now e)
    ∙ no_labelling n p (placed_of c t) (form_named (atom_name c f) (length ids.now)) (λ k. labelling_one (atom_name c f) (length ids.now) (λ l. h f ids refl l) k)

pub no_labels : (c : Contents) (x : PlacedTerm) (f : Name) (p : ℕ) (ids : List TermId) → x ≡ comp f p (parts_by (placed_of c) ids) → (n q : ℕ)
    → ((k : Order) → flat_form (form_named f (length ids)) ≡ Some (form.Labelling k) → ⊥) → labelling_of n q (goal_of INFINITY x) ≡ Err q
no_labels c x f p ids e n q h = ap (labelling_of n q) (goal_form c x f p ids e) ∙ no_labelling n q x (form_named f (length ids)) (λ k g. h k (ap flat_form g))

labels_found : (n p : ℕ) (o : Order) (list : Term) (r : Option Labelling) → FindsLabels n o list r
    → MatchOption r (labelled_by n p o (read_list list) ≡ Err p) (IsLabelling (labelled_by n p o (read_list list)))
labels_found n p o list None h = labelling_missing n p o list None h refl
labels_found n p o list (Some l) h = labelling_found n p o list (Some l) h l refl

pub labels_say : (c : Contents) (x : PlacedTerm) (f : Name) (p : ℕ) (a : TermId) → x ≡ comp f p (parts_by (placed_of c) (a ∷ [])) → (n q : ℕ) (k : Order)
    → flat_form (form_named f 1) ≡ Some (form.Labelling k)
    → (r : Option Labelling) → FindsLabels n k (term_of c a) r → FindsLabelling n q (goal_of INFINITY x) r
labels_say c x f p a e n q k h r found =
    let is = ap (labelling_of n q) (goal_form c x f p (a ∷ []) e ∙ ap (λ o. goal_named INFINITY o x) (labelling_form (form_named f 1) k h) ∙ ap (goal_named INFINITY (Some (labelling k))) e)
    ∙ ap (λ t. labelled_by n q k (read_list t)) (plain_placed c a) in
    subst (λ s. MatchOption r (s ≡ Err q) (IsLabelling s)) (sym is) (labels_found n q k (term_of c a) r found)

-- ---- the parts of constraints

abbrev pub arity : ConstraintKind → ℕ
arity (kind.Compare r) = 2
arity kind.AllDifferent = 1
arity kind.Element = 3
arity kind.Atmost = 3
arity kind.And = 3
arity kind.Or = 3
arity kind.Not = 2
arity kind.Reified = 2

-- a constraint has as many parts as its kind
pub other_parts : (k : ConstraintKind) (by : TermId → Term) (ids : List TermId) → (length ids ≡ arity k → ⊥) → is_linear_constraint INFINITY k (terms_by by ids) ≡ false
other_parts (kind.Compare r) by [] h = refl
other_parts (kind.Compare r) by (a ∷ []) h = refl
other_parts (kind.Compare r) by (a ∷ b ∷ []) h = absurd (h refl)
other_parts (kind.Compare r) by (a ∷ b ∷ d ∷ ids) h = refl
other_parts kind.AllDifferent by [] h = refl
other_parts kind.AllDifferent by (a ∷ []) h = absurd (h refl)
other_parts kind.AllDifferent by (a ∷ b ∷ ids) h = refl
other_parts kind.Element by [] h = refl
other_parts kind.Element by (a ∷ []) h = refl
other_parts kind.Element by (a ∷ b ∷ []) h = refl
other_parts kind.Element by (a ∷ b ∷ d ∷ []) h = absurd (h refl)
other_parts kind.Element by (a ∷ b ∷ d ∷ e ∷ ids) h = refl
other_parts kind.Atmost by [] h = refl
other_parts kind.Atmost by (a ∷ []) h = refl
other_parts kind.Atmost by (a ∷ b ∷ []) h = refl
other_parts kind.Atmost by (a ∷ b ∷ d ∷ []) h = absurd (h refl)
other_parts kind.Atmost by (a ∷ b ∷ d ∷ e ∷ ids) h = refl
other_parts kind.And by ids h = refl
other_parts kind.Or by ids h = refl
other_parts kind.Not by ids h = refl
other_parts kind.Reified by ids h = refl
