-- Solutions, seen terms, and substitutions that heed what the models of a branch leave no choice in.
use Rattle.std.proofs.Common.{◌≡◌, ℕ, ◌≤◌, Bool, true, false, ◌==◌, ℤ, pos, IsTrue, List, [], ◌∷◌, Option, Some, ◌⊎◌, refl, ap, sym, ◌∙◌, subst, inl, inr}
use Rattle.std.proofs.Common.{arith, eqb-true, eq-eqb}
use Rattle.std.proofs.lemmas.Bool.{or_cases, or_right, true≢false}
use Rattle.fd_model.proofs.CanonicalUnifiers.{is_variable_true}
use Rattle.fd_language.specs.Term.{Term, Var, Int, Atom, Comp, Substitution, apply}
use Rattle.fd_language.specs.Unifier.{Equation, IsMostGeneral, Unifies}
use Rattle.fd_language.specs.Family.{Family, has, IsSubset}
use Rattle.fd_language.specs.Range.{Indexical, set_of}
use Rattle.fd_model.specs.ClosedFamilies.{IsClosed, AllPosted, constrained}
use Rattle.fd_model.specs.Goal.{Branch}
use Rattle.fd_model.specs.BranchViews.{IsConsistent, IsView, is_variable, set_at, by_set}
use Rattle.fd_model.specs.Children.{look_in}
pub use Rattle.fd_language.proofs.Lemmas.{first_member, only_member}
use Rattle.fd_language.proofs.Lemmas.{in_left, in_right, has_high, rising_same, solved, still_unifies, through_term}
use Rattle.fd_model.specs.Satisfaction.{Assignment, singles}
use Rattle.fd_model.specs.Answers.{IsSolution}
use Rattle.fd_model.specs.Models.{IsModel}
use Rattle.fd_model.proofs.Models.{consistent_from, view_model, in_view, not_empty, has_general, weaker}

pub pos_same : (n k : ℕ) → pos n ≡ pos k → n ≡ k
pos_same n k e = cc

-- the set of a seen variable
pub record SetFrom (s : Substitution) (D : Family) (ws : List ℕ) (y : ℕ) (xs : List ℕ) : Type 0 where
  pub variable : ℕ
  pub listed : has ws variable ≡ true
  pub term : s variable ≡ Var y
  pub set : D variable ≡ xs

module _ (s : Substitution) (D : Family) (y : ℕ) where
  set_step : (w : ℕ) (ws : List ℕ) (xs : List ℕ) (b : Bool) → is_variable (s w) y ≡ b → set_at s D (w ∷ ws) y ≡ Some xs → ((b ≡ true) × (D w ≡ xs)) ⊎ (set_at s D ws y ≡ Some xs)
  set_step w ws xs true e h = inl (refl, let g : Some (D w) ≡ Some xs = (rw e at h) in let k : D w ≡ xs = cc in k)
  set_step w ws xs false e h = inr (rw e at h)

  pub set_found : (ws xs : List ℕ) → set_at s D ws y ≡ Some xs → SetFrom s D ws y xs
  set_found [] xs h = absurd (cc)
  set_found (w ∷ ws) xs h = elim (set_step w ws xs (is_variable (s w) y) refl h) [
    | inl g ↦ record { variable = w; listed = first_member w ws; term = is_variable_true (s w) y g.0; set = g.1 }
    | inr g ↦ let f = set_found ws xs g in record { variable = f.variable; listed = or_right (w == f.variable) (has ws f.variable) f.listed; term = f.term; set = f.set }
  ]

  there_step : (v w : ℕ) (ws : List ℕ) (b : Bool) → is_variable (s v) y ≡ b → ((is_variable (s v) y ≡ false) → (xs : List ℕ) × (set_at s D ws y ≡ Some xs))
      → (xs : List ℕ) × (set_at s D (v ∷ ws) y ≡ Some xs)
  there_step v w ws true e later = (D v, rw e refl)
  there_step v w ws false e later = let l = later e in (l.0, rw e l.1)

  pub set_there : (ws : List ℕ) (w : ℕ) → has ws w ≡ true → s w ≡ Var y → (xs : List ℕ) × (set_at s D ws y ≡ Some xs)
  set_there [] w h e = absurd (true≢false (sym h))
  set_there (v ∷ ws) w h e = there_step v w ws (is_variable (s v) y) refl (λ no. elim (or_cases (v == w) (has ws w) h) [
    | inl g ↦ absurd (true≢false (sym (subst (λ t. is_variable t y ≡ true) (sym (ap s (eqb-true v w g) ∙ e)) (eq-eqb y y refl)) ∙ no))
    | inr g ↦ set_there ws w g e
  ])

-- a seen variable that is an integer
pub by_set_int : (o : Option (List ℕ)) (y : ℕ) (z : ℤ) → by_set o y ≡ Int z → (n : ℕ) × (o ≡ Some (n ∷ [])) × (z ≡ pos n)
by_set_int (Some (n ∷ [])) y z e = (n, refl, let h : z ≡ pos n = cc in h)
by_set_int _ y z e = absurd (cc)

-- or not
pub by_set_var : (o : Option (List ℕ)) (y x : ℕ) → by_set o y ≡ Var x → y ≡ x
by_set_var (Some (n ∷ [])) y x e = absurd (cc)
by_set_var _ y x e = cc

-- u unifies, and gives n to each constrained variable that is n in each model
pub record Heeds (M N : ℕ) (es : List Equation) (ps : List Indexical) (u : Substitution) : Type 0 where
  pub unifies : Unifies u es
  pub sure : (w n : ℕ) → has (constrained ps) w ≡ true → ((S : Family) → IsModel M N es ps S → (k : ℕ) → has (S w) k ≡ true → k ≡ n) → u w ≡ Int (pos n)

pub heeds_weaker : (M N : ℕ) (es ds : List Equation) (ps : List Indexical) (u : Substitution) → ((r : Substitution) → Unifies r es → Unifies r ds) → Heeds M N es ps u → Heeds M N ds ps u
heeds_weaker M N es ds ps u weak h = record {
  unifies = weak u h.unifies;
  sure = λ w n c only. h.sure w n c (λ S m. only S (weaker M N es ds ps S weak m));
}

module _ (M N : ℕ) (low : N ≤ M) (es : List Equation) (ps : List Indexical) (vs : List ℕ) (a : Assignment) (l : IsSolution M N es ps vs a) where
  pub given_constrained : (x : ℕ) → has (constrained ps) x ≡ true → l.unifier x ≡ Int (pos (a x))
  given_constrained x c = l.given x (in_right vs (constrained ps) x c)

  pub given_listed : (x : ℕ) → has vs x ≡ true → l.unifier x ≡ Int (pos (a x))
  given_listed x c = l.given x (in_left vs (constrained ps) x c)

  posted_inside : (qs : List Indexical) → AllPosted (λ p. IsTrue (has (set_of M (singles a) p.range) (a p.target))) qs
      → AllPosted (λ p. IsSubset (singles a p.target) (set_of M (singles a) p.range)) qs
  posted_inside [] h = tt
  posted_inside (q ∷ qs) h = (record { each = λ n i. subst (λ k. has (set_of M (singles a) q.range) k ≡ true) (only_member (a q.target) n i) h.0 }, posted_inside qs h.1)

  int_of : (v : ℕ) (s : Substitution) (z : ℤ) → IsMostGeneral es s → has (constrained ps) v ≡ true → s v ≡ Int z → pos (a v) ≡ z
  int_of v s z g c e = let h = sym (given_constrained v c) ∙ sym (g.general l.unifier v l.unifies) ∙ ap (apply l.unifier) e in let k : pos (a v) ≡ z = cc in k

  no_int : (v : ℕ) (s : Substitution) (t : Term) → IsMostGeneral es s → has (constrained ps) v ≡ true → s v ≡ t → Int (pos (a v)) ≡ apply l.unifier t
  no_int v s t g c e = sym (given_constrained v c) ∙ sym (g.general l.unifier v l.unifies) ∙ ap (apply l.unifier) e

  -- a solution is a closed family of single values
  pub solution_closed : (s : Substitution) → IsMostGeneral es s → IsClosed M N s ps (singles a)
  solution_closed s g = record {
    family = record { rising = λ x. (omega arith, (let here = l.bounded x in omega arith), tt) };
    posted = posted_inside ps l.posted;
    values = λ v z n c e h. subst (λ k. pos k ≡ z) (only_member (a v) n h) (int_of v s z g c e);
    same = λ v w x c d e f. ap (λ n. n ∷ []) (pos_same (a v) (a w) (let k = no_int v s (Var x) g c e ∙ sym (no_int w s (Var x) g d f) in let j : pos (a v) ≡ pos (a w) = cc in j));
    atoms = λ v b c e. absurd (let k = no_int v s (Atom b) g c e in cc);
    compounds = λ v f ts c e. absurd (let k = no_int v s (Comp f ts) g c e in cc);
    within = λ v n c h. subst (λ k. k ≤ N) (only_member (a v) n h) (l.bounded v);
  }

  pub solution_model : IsModel M N es ps (singles a)
  solution_model = let g = has_general es l.unifier l.unifies (solved es) in record { unifier = g.0; general = g.1; closed = solution_closed g.0 g.1; full = λ x c. (a x, first_member (a x) []) }

  pub solution_consistent : IsConsistent M N es ps
  solution_consistent = consistent_from M N es ps (singles a) solution_model

  pub solution_inside : (s : Substitution) (D : Family) → IsView M N es ps s D → (x : ℕ) → has (D x) (a x) ≡ true
  solution_inside s D v x = in_view M N es ps s D (singles a) v solution_model x (a x) (first_member (a x) [])

  pub solution_heeds : Heeds M N es ps l.unifier
  solution_heeds = record {
    unifies = l.unifies;
    sure = λ w n c only. given_constrained w c ∙ ap (λ k. Int (pos k)) (only (singles a) solution_model (a w) (first_member (a w) []));
  }

-- what is seen in a branch
module _ (M N : ℕ) (b : Branch) (s : Substitution) (D : Family) (v : IsView M N b.equations b.posted s D) (ok : IsConsistent M N b.equations b.posted) where
  abbrev ws : List ℕ
  ws = constrained b.posted

  abbrev single : Substitution
  single y = by_set (set_at s D ws y) y

  model : IsModel M N b.equations b.posted D
  model = view_model M N b.equations b.posted s D v ok

  pub look_unifies : Unifies (look_in b s D) b.equations
  look_unifies = still_unifies single s b.equations v.general.unifies

  pub single_set : (w n : ℕ) → has ws w ≡ true → ((k : ℕ) → has (D w) k ≡ true → k ≡ n) → D w ≡ n ∷ []
  single_set w n c only =
      let f = model.full w c in
      let here : has (D w) n ≡ true = subst (λ k. has (D w) k ≡ true) (only f.0 f.1) f.1 in
      let high : n ≤ M = has_high 0 M (D w) n (v.closed.family.rising w) here in
      rising_same 0 M (D w) (n ∷ []) (v.closed.family.rising w) (omega arith, high, tt)
      (record { each = λ k h. subst (λ j. has (n ∷ []) j ≡ true) (sym (only k h)) (first_member n []) })
      (record { each = λ k h. subst (λ j. has (D w) j ≡ true) (only_member n k h) here })

  -- the set that a seen variable has
  found_set : (w y : ℕ) (xs : List ℕ) → has ws w ≡ true → s w ≡ Var y → set_at s D ws y ≡ Some xs → D w ≡ xs
  found_set w y xs c e h = let f = set_found s D y ws xs h in v.closed.same w f.variable y c f.listed e f.term ∙ f.set

  single_by : (w n : ℕ) (t : Term) → has ws w ≡ true → D w ≡ n ∷ [] → s w ≡ t → apply single t ≡ Int (pos n)
  single_by w n (Var y) c d e =
      let h = set_there s D y ws w c e in
      let same : h.0 ≡ n ∷ [] = sym (found_set w y h.0 c e h.1) ∙ d in
      ap (λ o. by_set o y) (h.1 ∙ ap Some same)
  single_by w n (Int z) c d e = ap Int (sym (v.closed.values w z n c e (subst (λ l. has l n ≡ true) (sym d) (first_member n []))))
  single_by w n (Atom a) c d e = absurd (not_empty M N b.equations b.posted D model (n ∷ []) n (sym d ∙ v.closed.atoms w a c e) (first_member n []))
  single_by w n (Comp f ts) c d e = absurd (not_empty M N b.equations b.posted D model (n ∷ []) n (sym d ∙ v.closed.compounds w f ts c e) (first_member n []))

  -- a constrained variable with one value is seen as that integer
  pub look_single : (w n : ℕ) → has ws w ≡ true → D w ≡ n ∷ [] → look_in b s D w ≡ Int (pos n)
  look_single w n c d = single_by w n (s w) c d refl

  only_by : (w : ℕ) (t : Term) (z : ℤ) (k : ℕ) → has ws w ≡ true → s w ≡ t → apply single t ≡ Int z → has (D w) k ≡ true → pos k ≡ z
  only_by w (Var y) z k c e h i =
      let g = by_set_int (set_at s D ws y) y z h in
      ap pos (sym (only_member g.0 k (subst (λ l. has l k ≡ true) (found_set w y (g.0 ∷ []) c e g.1) i))) ∙ sym g.2
  only_by w (Int j) z k c e h i = v.closed.values w j k c e i ∙ (let g : j ≡ z = cc in g)
  only_by w (Atom a) z k c e h i = absurd (cc)
  only_by w (Comp f ts) z k c e h i = absurd (cc)

  -- and one that is seen as an integer has that value
  pub look_only : (w : ℕ) (z : ℤ) (k : ℕ) → has ws w ≡ true → look_in b s D w ≡ Int z → has (D w) k ≡ true → pos k ≡ z
  look_only w z k c h i = only_by w (s w) z k c refl h i

  pub look_heeds : Heeds M N b.equations b.posted (look_in b s D)
  look_heeds = record { unifies = look_unifies; sure = λ w n c only. look_single w n c (single_set w n c (only D model)) }

  module _ (u : Substitution) (h : Heeds M N b.equations b.posted u) where
    by_option : (x : ℕ) (o : Option (List ℕ)) → set_at s D ws x ≡ o → apply u (by_set o x) ≡ u x
    by_option x (Some (n ∷ [])) e =
        let f = set_found s D x ws (n ∷ []) e in
        let k : u f.variable ≡ Int (pos n) = h.sure f.variable n f.listed
        (λ S m j i. sym (only_member n j (subst (λ l. has l j ≡ true) f.set (in_view M N b.equations b.posted s D S v m f.variable j i)))) in
        sym k ∙ sym (v.general.general u f.variable h.unifies) ∙ ap (apply u) f.term
    by_option x _ e = refl

    -- such a substitution goes through what is seen
    pub through_look : (y : ℕ) → apply u (look_in b s D y) ≡ u y
    through_look y = through_term single u (λ x. by_option x (set_at s D ws x) refl) (s y) ∙ v.general.general u y h.unifies

  -- an open variable is left as it is by the unifier
  open_by : (y x : ℕ) (t : Term) → s y ≡ t → apply single t ≡ Var x → s y ≡ Var x
  open_by y x (Var w) e h = e ∙ ap Var (by_set_var (set_at s D ws w) w x h)
  open_by y x _ e h = absurd (cc)

  pub look_open : (y x : ℕ) → look_in b s D y ≡ Var x → s y ≡ Var x
  look_open y x h = open_by y x (s y) refl h

  pub open_fixed : (y x : ℕ) → s y ≡ Var x → s x ≡ Var x
  open_fixed y x e = sym (ap (apply s) e) ∙ v.general.general s y v.general.unifies ∙ e
