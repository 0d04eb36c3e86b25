-- What the steps of a clause's terms do, and how the states go through them.
use Rattle.std.proofs.Common.{◌≡◌, ◌⊎◌, ℕ, suc, ◌+◌, ◌<◌, ◌≤◌, Bool, true, ◌&&◌, List, [], ◌∷◌, ◌++◌, Some, length, refl, ap, sym, ◌∙◌, subst, arith, inl, inr}
use Rattle.std.proofs.Common.{append_assoc}
use Rattle.fd_language.specs.Family.{has}
use Rattle.fd_language.specs.Term.{Term, Terms, Var, no_terms, term, apply, apply_all, term_count}
use Rattle.fd_language.specs.Unifier.{Equation}
use Rattle.fd_model.specs.Goal.{Goal}
use Rattle.wam_code.specs.declared.instruction.Register.{Register}
use Rattle.wam_code.specs.declared.instruction.Register.TheVariants.{X, Y}
use Rattle.wam_code.specs.declared.instruction.Code.{Code}
use Rattle.wam_code.specs.Area.{State}
use Rattle.wam_code.specs.Effect.{has_frame, with_set, when, plain_effect, unify_effect, effect_by, effect}
use Rattle.wam_code.specs.Places.{Places, write}
use Rattle.clause_code.specs.Pieces.{Base, past, Does, Parts}
use Rattle.clause_code.specs.SafeCode.{unplaced}
use Rattle.clause_code.specs.StateFlow.{Runs}
use Rattle.clause_code.specs.Steps.{Step, is_made, marked_by, marked_by_all, instructions, code_of}
use Rattle.wam_code.proofs.Lemmas.{put_else}
use Rattle.clause_code.proofs.Pieces.{does_nothing, does_both}
use Rattle.clause_code.proofs.FreshVariables.{Spared, Grows, KeepsDepths, depths_same, depths_both, Grown, grown_same, grown_both, KeepsSlots, Fits, Tracks}

-- ---- single instructions

pub when_true : (c : Bool) (s : State) → c ≡ true → when c s ≡ Some s
when_true c s e = ap (λ b. when b s) e

pub both : (a c : Bool) → a ≡ true → c ≡ true → a && c ≡ true
both a c e f = ap (λ x. x && c) e ∙ f

pub plain_of : (b : Base) (i : Code) (s : State) → s.owed ≡ 0 → effect (unplaced b) i s ≡ plain_effect (unplaced b) i s
plain_of b i s e = ap (λ n. effect_by n (unplaced b) i s) e

pub owing_of : (b : Base) (i : Code) (s : State) (n : ℕ) → s.owed ≡ suc n → effect (unplaced b) i s ≡ unify_effect i s
owing_of b i s n e = ap (λ k. effect_by k (unplaced b) i s) e

pub owed_of_set : (s : State) (r : Register) → (with_set s r).owed ≡ s.owed
owed_of_set s (X i) = refl
owed_of_set s (Y i) = refl

pub x_of_written : (p : Places) (r : Register) (t : Term) (i : ℕ) → (r ≡ X i → ⊥) → (write p r t).x i ≡ p.x i
x_of_written p (X j) t i d = put_else j t p.x i (λ e. d (ap X (sym e)))
x_of_written p (Y j) t i d = refl

-- ---- steps, one behind the other

pub runs_both : (b : Base) (s t u : State) (is js : List Code) → Runs b s is t → Runs b t js u → Runs b s (is ++ js) u
runs_both b s t u [] js f g = subst (λ x. Runs b x js u) (sym f) g
runs_both b s t u (i ∷ is) js f g = (f.0, f.1, f.2, f.3, runs_both b f.0 t u is js f.4 g)

pub code_both : (homes : List Register) (made : List Bool) (ss ts : List Step) → code_of homes made (ss ++ ts) ≡ code_of homes made ss ++ code_of homes (marked_by_all made ss) ts
code_both homes made [] ts = refl
code_both homes made (s ∷ ss) ts =
    let rest : List Code = code_of homes (marked_by_all (marked_by made s) ss) ts in
    ap (λ r. instructions homes made s ++ r) (code_both homes (marked_by made s) ss ts) ∙ sym (append_assoc (instructions homes made s) (code_of homes (marked_by made s) ss) rest)

pub marked_both : (made : List Bool) (ss ts : List Step) → marked_by_all made (ss ++ ts) ≡ marked_by_all (marked_by_all made ss) ts
marked_both made [] ts = refl
marked_both made (s ∷ ss) ts = marked_both (marked_by made s) ss ts

abbrev pub moved : ℕ → Term → Term
moved n t = apply (λ x. Var (n + x)) t

abbrev pub moved_all : ℕ → Terms → Terms
moved_all n ts = apply_all (λ x. Var (n + x)) ts

pub count_moved : (n : ℕ) (ts : Terms) → term_count (moved_all n ts) ≡ term_count ts
count_moved n no_terms = refl
count_moved n (term t ts) = ap suc (count_moved n ts)

abbrev pub AllMade : List Register → List Bool → Type 0
AllMade homes made = (x : ℕ) → x < length homes → is_made made x ≡ true

-- the places and the state of one place, with these variables made
pub record At (n : ℕ) (homes : List Register) (made : List Bool) (p : Places) (s : State) : Type 0 where
  pub fits : Fits n homes made p
  pub tracks : Tracks homes made s
  pub long : length made ≡ length homes

-- What is kept from one place to another: the registers below `free` but r where no variable is made, and the frame where nothing was to be made.
pub record Keeps (homes : List Register) (r free : ℕ) (made later : List Bool) (p q : Places) (s t : State) : Type 0 where
  pub xs : (i : ℕ) → Spared homes made later i → i < free → (i ≡ r → ⊥) → q.x i ≡ p.x i
  pub regs : (i : ℕ) → has s.regs i ≡ true → has t.regs i ≡ true
  pub frame : AllMade homes made → t.frame ≡ s.frame
  pub shape : has_frame t.frame ≡ has_frame s.frame
  pub more : Grows homes made later
  pub depths : KeepsDepths homes p q
  pub slots : KeepsSlots homes s t
  pub grown : Grown p q

-- A piece leads from places, a state and equations to others, with more variables made.
pub record Went (b : Base) (n : ℕ) (homes : List Register) (r free : ℕ) (made : List Bool) (at : ℕ) (is : List Code) (p : Places) (s : State)
    (es : List Equation) (later : List Bool) (ds : List Equation) : Type 0 where
  pub q : Places
  pub t : State
  pub does : (gs : List Goal) → Does b at is p es gs q ds gs
  pub runs : Runs b s is t
  pub there : At n homes later q t
  pub owed : t.owed ≡ 0
  pub keeps : Keeps homes r free made later p q s t

-- Its instructions give these terms.
pub record Gave (b : Base) (n : ℕ) (homes : List Register) (made : List Bool) (at : ℕ) (is : List Code) (p : Places) (s : State) (ts : Terms) (later : List Bool) : Type 0 where
  pub q : Places
  pub t : State
  pub parts : Parts b at is p ts q
  pub runs : Runs b s is t
  pub there : At n homes later q t
  pub owed : t.owed ≡ 0
  pub xs : (i : ℕ) → Spared homes made later i → q.x i ≡ p.x i
  pub regs : (i : ℕ) → has s.regs i ≡ true → has t.regs i ≡ true
  pub frame : AllMade homes made → t.frame ≡ s.frame
  pub shape : has_frame t.frame ≡ has_frame s.frame
  pub more : Grows homes made later
  pub depths : KeepsDepths homes p q
  pub slots : KeepsSlots homes s t
  pub grown : Grown p q

keeps_less : (homes : List Register) (r free r' free' : ℕ) (made later : List Bool) (p q : Places) (s t : State) → free ≤ free' → (r' ≡ r) ⊎ (free ≤ r')
    → Keeps homes r' free' made later p q s t → Keeps homes r free made later p q s t
keeps_less homes r free r' free' made later p q s t l o f = record {
  xs = λ i c m d. f.xs i c (omega (arith, l, m)) (λ e. other o i m d e);
  regs = f.regs;
  frame = f.frame;
  shape = f.shape;
  more = f.more;
  depths = f.depths;
  slots = f.slots;
  grown = f.grown;
}
  where
    other : (r' ≡ r) ⊎ (free ≤ r') → (i : ℕ) → i < free → (i ≡ r → ⊥) → i ≡ r' → ⊥
    other (inl e) i m d h = d (h ∙ e)
    other (inr k) i m d h = omega (arith, k, m, h)

keeps_both : (homes : List Register) (r free : ℕ) (made mid later : List Bool) (p q w : Places) (s t u : State) → Keeps homes r free made mid p q s t
    → Keeps homes r free mid later q w t u → Keeps homes r free made later p w s u
keeps_both homes r free made mid later p q w s t u f g = record {
  xs = λ i c m d. g.xs i (λ x l h e. f.more x l (c x l h e)) m d ∙ f.xs i (λ x l h e. c x l h (g.more x l e)) m d;
  regs = λ i e. g.regs i (f.regs i e);
  frame = λ a. g.frame (λ x l. f.more x l (a x l)) ∙ f.frame a;
  shape = g.shape ∙ f.shape;
  more = λ x l e. g.more x l (f.more x l e);
  depths = depths_both homes p q w f.depths g.depths;
  slots = λ k c. g.slots k c ∙ f.slots k c;
  grown = grown_both p q w f.grown g.grown;
}

module _ (b : Base) (n : ℕ) (homes : List Register) where
  pub went_nothing : (r free : ℕ) (made : List Bool) (at : ℕ) (p : Places) (s : State) (es : List Equation) → At n homes made p s → s.owed ≡ 0 → Went b n homes r free made at [] p s es made es
  went_nothing r free made at p s es a o = record {
    q = p;
    t = s;
    does = λ gs. does_nothing b at p es gs;
    runs = refl;
    there = a;
    owed = o;
    keeps = record {
      xs = λ i c l d. refl;
      regs = λ i e. e;
      frame = λ a. refl;
      shape = refl;
      more = λ x l e. e;
      depths = depths_same homes p;
      slots = λ k c. refl;
      grown = grown_same p;
    };
  }

  -- One behind the other, where fewer registers are said to be kept.
  pub went_both : (r free r1 free1 r2 free2 : ℕ) (made mid later : List Bool) (at : ℕ) (is js : List Code) (p : Places) (s : State) (es ds cs : List Equation)
      → free ≤ free1 → (r1 ≡ r) ⊎ (free ≤ r1) → free ≤ free2 → (r2 ≡ r) ⊎ (free ≤ r2)
      → (w : Went b n homes r1 free1 made at is p s es mid ds) → Went b n homes r2 free2 mid (past at is) js w.q w.t ds later cs → Went b n homes r free made at (is ++ js) p s es later cs
  went_both r free r1 free1 r2 free2 made mid later at is js p s es ds cs l1 o1 l2 o2 w v = record {
    q = v.q;
    t = v.t;
    does = λ gs. does_both b at is js p w.q v.q es ds cs gs gs gs (w.does gs) (v.does gs);
    runs = runs_both b s w.t v.t is js w.runs v.runs;
    there = v.there;
    owed = v.owed;
    keeps = keeps_both homes r free made mid later p w.q v.q s w.t v.t (keeps_less homes r free r1 free1 made mid p w.q s w.t l1 o1 w.keeps)
        (keeps_less homes r free r2 free2 mid later w.q v.q w.t v.t l2 o2 v.keeps);
  }

-- steps in place of instructions
abbrev pub WentBy : Base → ℕ → List Register → ℕ → ℕ → List Bool → ℕ → Places → State → List Equation → List Step → List Equation → Type 0
WentBy b n homes r free made at p s es ss ds = Went b n homes r free made at (code_of homes made ss) p s es (marked_by_all made ss) ds

module _ (b : Base) (n : ℕ) (homes : List Register) where
  pub went_steps : (r free r1 free1 r2 free2 : ℕ) (made : List Bool) (at : ℕ) (ss ts : List Step) (p : Places) (s : State) (es ds cs : List Equation)
      → free ≤ free1 → (r1 ≡ r) ⊎ (free ≤ r1) → free ≤ free2 → (r2 ≡ r) ⊎ (free ≤ r2)
      → (w : WentBy b n homes r1 free1 made at p s es ss ds) → (v : WentBy b n homes r2 free2 (marked_by_all made ss) (past at (code_of homes made ss)) w.q w.t ds ts cs)
      → (u : WentBy b n homes r free made at p s es (ss ++ ts) cs) × (u.q ≡ v.q) × (u.t ≡ v.t)
  unfolding went_both
  went_steps r free r1 free1 r2 free2 made at ss ts p s es ds cs l1 o1 l2 o2 w v = by (code_of homes made (ss ++ ts)) (code_both homes made ss ts)
      (marked_by_all made (ss ++ ts)) (marked_both made ss ts)
    where
      by : (is : List Code) → is ≡ code_of homes made ss ++ code_of homes (marked_by_all made ss) ts → (later : List Bool) → later ≡ marked_by_all (marked_by_all made ss) ts
          → (u : Went b n homes r free made at is p s es later cs) × (u.q ≡ v.q) × (u.t ≡ v.t)
      by is e later f =
          subst (λ k. (u : Went b n homes r free made at k p s es later cs) × (u.q ≡ v.q) × (u.t ≡ v.t)) (sym e)
          (subst (λ k. (u : Went b n homes r free made at (code_of homes made ss ++ code_of homes (marked_by_all made ss) ts) p s es k cs) × (u.q ≡ v.q) × (u.t ≡ v.t)) (sym f) (
            went_both b n homes r free r1 free1 r2 free2 made (marked_by_all made ss) (marked_by_all (marked_by_all made ss) ts) at (code_of homes made ss)
                (code_of homes (marked_by_all made ss) ts) p s es ds cs l1 o1 l2 o2 w v,
            refl,
            refl,
          ))
