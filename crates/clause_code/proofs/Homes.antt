-- The registers of a clause's variables, one instruction after the other.
use Rattle.std.proofs.Common.{◌≡◌, ℕ, ◌<◌, Bool, true, false, ◌&&◌, if◌then◌else◌, Some, refl, ap, sym, eq-eqb, ne_eqb}
use Rattle.std.proofs.lemmas.Bool.{true≢false}
use Rattle.fd_model.proofs.Lemmas.{below_test}
use Rattle.fd_language.specs.Term.{Term, Terms, Var, Int, Atom, Comp, no_terms, term}
use Rattle.branch_meaning.specs.Heap.{Of, AllOf}
use Rattle.wam_code.specs.declared.instruction.Register.{Register}
use Rattle.wam_code.specs.declared.instruction.Register.TheVariants.{X, Y}
use Rattle.wam_code.specs.Places.{Places, read, write, learnt}
use Rattle.wam_code.proofs.Lemmas.{put_here, put_else}
use Rattle.clause_code.specs.Homes.{is_below, are_below}

-- ---- one register

-- What is written is read.
pub read_written : (p : Places) (r : Register) (t : Term) → read (write p r t) r ≡ Some t
read_written p (X i) t = put_here i t p.x
read_written p (Y i) t = put_here i t p.y

-- And other registers are as before.
pub read_else : (p : Places) (r s : Register) (t : Term) → (s ≡ r → ⊥) → read (write p r t) s ≡ read p s
read_else p (X i) (X j) t h = put_else i t p.x j (λ e. h (ap X e))
read_else p (X i) (Y j) t h = refl
read_else p (Y i) (X j) t h = refl
read_else p (Y i) (Y j) t h = put_else i t p.y j (λ e. h (ap Y e))

pub learnt_here : (v : ℕ) (known : ℕ → Bool) → learnt v known v ≡ true
learnt_here v known = ap (λ c. if c then true else known v) (eq-eqb v v refl)

pub learnt_else : (u v : ℕ) (known : ℕ → Bool) → (v ≡ u → ⊥) → learnt u known v ≡ known v
learnt_else u v known h = ap (λ c. if c then true else known v) (ne_eqb v u h)

pub write_known : (p : Places) (r : Register) (t : Term) → (write p r t).known ≡ p.known
write_known p (X i) t = refl
write_known p (Y i) t = refl

pub write_own : (p : Places) (r : Register) (t : Term) → (write p r t).own ≡ p.own
write_own p (X i) t = refl
write_own p (Y i) t = refl

pub write_top : (p : Places) (r : Register) (t : Term) → (write p r t).top ≡ p.top
write_top p (X i) t = refl
write_top p (Y i) t = refl

-- ---- from a goal on

both_true : (a b : Bool) → a && b ≡ true → (a ≡ true) × (b ≡ true)
both_true true b e = (refl, e)
both_true false b e = absurd (true≢false (sym e))

mutual
  below_holds : (n : ℕ) (t : Term) → is_below n t ≡ true → Of (λ x. x < n) t
  below_holds n (Var x) e = below_test x n e
  below_holds n (Int z) e = tt
  below_holds n (Atom a) e = tt
  below_holds n (Comp f ts) e = all_below n ts e

  all_below : (n : ℕ) (ts : Terms) → are_below n ts ≡ true → AllOf (λ x. x < n) ts
  all_below n no_terms e = tt
  all_below n (term t ts) e = let w = both_true (is_below n t) (are_below n ts) e in (below_holds n t w.0, all_below n ts w.1)
