-- The sums that are made: one more, and the last ones taken.
use Rattle.std.proofs.Common.{◌≡◌, ℕ, ◌≤◌, List, [], ◌∷◌, ◌++◌, Result, Ok, refl, sym, ap, subst, ◌∙◌, arith}
use Rattle.fd_model.specs.declared.kinds.QueryFault.{QueryFault}
use Rattle.fd_model.specs.Linear as linear
use Rattle.linear_forms.specs.declared.LinearFault.{LinearFault}
use Rattle.linear_forms.specs.declared.LinearFault.TheVariants as fault
use Rattle.linear_forms.specs.declared.sums.Sum.{Sum}
use Rattle.linear_forms.specs.declared.walk.Made.{Made}
use Rattle.linear_forms.specs.LinearForm.{IsFaultOf}
use Rattle.linear_forms.specs.Sums.{IsSum, Gives}
use Rattle.linear_forms.specs.Tasks.{before, on_two, AreSums, Makes, TakesTwo}
use Rattle.linear_forms.proofs.SumArithmetic.{sum_wider}

stack_push : (lo m hi : ℕ) (ts : List Sum) (acc ss : List linear.Sum) (t : Sum) (s : linear.Sum) → AreSums lo ts acc ss m → IsSum t s m hi → AreSums lo (ts ++ t ∷ []) acc (s ∷ ss) hi
stack_push lo m hi [] acc ss t s a i =
    let level : hi ≤ hi = omega arith in
    (s, hi, sum_wider t s lo m hi hi i a.1 level, (ap (λ (rs : List linear.Sum). s ∷ rs) a.0, level))
stack_push lo m hi (u ∷ us) acc ss t s a i = (a.0, a.1, a.2, stack_push a.1 m hi us (a.0 ∷ acc) ss t s a.3 i)

pub record Popped (lo hi : ℕ) (ts : List Sum) (acc ss : List linear.Sum) (t : Sum) : Type 0 where
  pub last : linear.Sum
  pub rest : List linear.Sum
  pub middle : ℕ
  pub is : ss ≡ last ∷ rest
  pub sum : IsSum t last middle hi
  pub others : AreSums lo ts acc rest middle

pub stack_pop : (lo hi : ℕ) (ts : List Sum) (acc ss : List linear.Sum) (t : Sum) → AreSums lo (ts ++ t ∷ []) acc ss hi → Popped lo hi ts acc ss t
stack_pop lo hi [] acc ss t a =
    let level : lo ≤ lo = omega arith in
    let ends : a.1 ≤ hi = a.3.1 in
    record { last = a.0; rest = acc; middle = lo; is = sym a.3.0; sum = sum_wider t a.0 lo lo a.1 hi a.2 level ends; others = (refl, level) }
stack_pop lo hi (u ∷ us) acc ss t a =
    let p = stack_pop a.1 hi us (a.0 ∷ acc) ss t a.3 in
    record { last = p.last; rest = p.rest; middle = p.middle; is = p.is; sum = p.sum; others = (a.0, a.1, a.2, p.others) }

-- a sum is pushed, of which d is given
pub pushed : (d : Result linear.Sum QueryFault) (old new : Made) (t : Sum) (hi : ℕ) → Gives d old.met hi (Ok t) → new.sums.items ≡ old.sums.items ++ t ∷ [] → new.met ≡ hi
    → (ss : List linear.Sum) → Makes old ss → (ts : List linear.Sum) × (before ss d ≡ Ok ts) × Makes new ts
pushed d old new t hi g e m ss a = (
  g.0 ∷ ss,
  ap (before ss) g.1,
  subst (λ (n : ℕ). AreSums 0 new.sums.items [] (g.0 ∷ ss) n) (sym m)
      (subst (λ (ts : List Sum). AreSums 0 ts [] (g.0 ∷ ss) hi) (sym e) (stack_push 0 old.met hi old.sums.items [] ss t g.0 a g.2)),
)

pub not_pushed : (d : Result linear.Sum QueryFault) (f : LinearFault) → IsFaultOf d f → (ss : List linear.Sum) → IsFaultOf (before ss d) f
not_pushed d fault.Nonlinear h ss = ap (before ss) h
not_pushed d fault.NotANumber h ss = ap (before ss) h
not_pushed d fault.Overflow h ss = ap (before ss) h
not_pushed d fault.NoMemory h ss = tt

none_made : (ss : List linear.Sum) (hi : ℕ) → AreSums 0 [] [] ss hi → ss ≡ []
none_made ss hi a = sym a.0

pub two_taken : (old new : Made) (middle : List Sum) (left right : Sum) → old.sums.items ≡ middle ++ right ∷ [] → middle ≡ new.sums.items ++ left ∷ []
    → new.met ≡ old.met → (ss : List linear.Sum) → Makes old ss → TakesTwo old left right new ss
two_taken old new middle left right e f m ss a =
    let p = stack_pop 0 old.met middle [] ss right (subst (λ (ts : List Sum). AreSums 0 ts [] ss old.met) e a) in
    let q = stack_pop 0 p.middle new.sums.items [] p.rest left (subst (λ (ts : List Sum). AreSums 0 ts [] p.rest p.middle) f p.others) in
    record {
      first = q.last;
      second = p.last;
      rest = q.rest;
      lo = q.middle;
      middle = p.middle;
      is = p.is ∙ ap (λ (rs : List linear.Sum). p.last ∷ rs) q.is;
      left_sum = q.sum;
      right_sum = p.sum;
      others = q.others;
      met = m;
    }

-- the last two sums are replaced by what the operation gives of them
pub applied : (op : linear.Sum → linear.Sum → Result linear.Sum QueryFault) (old middle new : Made) (left right whole : Sum)
    → ((ss : List linear.Sum) → Makes old ss → TakesTwo old left right middle ss)
    → ((s t : linear.Sum) (lo m hi : ℕ) → IsSum left s lo m → IsSum right t m hi → Gives (op s t) lo hi (Ok whole)) → new.sums.items ≡ middle.sums.items ++ whole ∷ [] → new.met ≡ middle.met
    → (ss : List linear.Sum) → Makes old ss → (ts : List linear.Sum) × (on_two op ss ≡ Ok ts) × Makes new ts
applied op old middle new left right whole two g e m ss a =
    let t = two ss a in
    let r = g t.first t.second t.lo t.middle old.met t.left_sum t.right_sum in (
      r.0 ∷ t.rest,
      ap (on_two op) t.is ∙ ap (before t.rest) r.1,
      subst (λ (n : ℕ). AreSums 0 new.sums.items [] (r.0 ∷ t.rest) n) (sym (m ∙ t.met))
          (subst (λ (ts : List Sum). AreSums 0 ts [] (r.0 ∷ t.rest) old.met) (sym e)
          (stack_push 0 t.lo old.met middle.sums.items [] t.rest whole r.0 t.others r.2)),
    )

pub not_applied : (op : linear.Sum → linear.Sum → Result linear.Sum QueryFault) (old middle : Made) (left right : Sum) (f : LinearFault)
    → ((ss : List linear.Sum) → Makes old ss → TakesTwo old left right middle ss)
    → ((s t : linear.Sum) (lo m hi : ℕ) → IsSum left s lo m → IsSum right t m hi → IsFaultOf (op s t) f) → (ss : List linear.Sum) → Makes old ss → IsFaultOf (on_two op ss) f
not_applied op old middle left right f two g ss a =
    let t = two ss a in
    subst (λ (rs : List linear.Sum). IsFaultOf (on_two op rs) f) (sym t.is) (not_pushed (op t.first t.second) f (g t.first t.second t.lo t.middle old.met t.left_sum t.right_sum) t.rest)

-- one sum alone
pub only_sum : (made : Made) (s : linear.Sum) (rest : List Sum) (t : Sum) → Makes made (s ∷ []) → made.sums.items ≡ rest ++ t ∷ [] → (lo : ℕ) × (hi : ℕ) × IsSum t s lo hi
only_sum made s rest t a e =
    let p = stack_pop 0 made.met rest [] (s ∷ []) t (subst (λ (ts : List Sum). AreSums 0 ts [] (s ∷ []) made.met) e a) in
    let same : p.last ≡ s = same_head s p.last p.rest p.is in
    (p.middle, made.met, subst (λ (u : linear.Sum). IsSum t u p.middle made.met) same p.sum)
  where
    same_head : (s u : linear.Sum) (us : List linear.Sum) → s ∷ [] ≡ u ∷ us → u ≡ s
    same_head s u us h = cc

pub no_sum : (made : Made) (s : linear.Sum) → Makes made (s ∷ []) → made.sums.items ≡ [] → ⊥
no_sum made s a e = let none : s ∷ [] ≡ [] = none_made (s ∷ []) made.met (subst (λ (ts : List Sum). AreSums 0 ts [] (s ∷ []) made.met) e a) in absurd (cc)
