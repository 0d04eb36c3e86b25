-- What is told of comparisons.
use Rattle.std.specs.Prelude.{◌≡◌, ℕ, suc, ◌<◌, true, ℤ, pos, ◌<ℤ◌, length, nat_abs, List, map, MatchResult, Result, Ok, Err}
use Rattle.fd_language.specs.Term.{Term}
use Rattle.fd_model.specs.declared.kinds.QueryFault.{QueryFault}
use Rattle.fd_model.specs.declared.kinds.ListCause.{ListCause}
use Rattle.fd_model.specs.declared.kinds.Relation.{Relation}
use Rattle.fd_model.specs.Linear as linear
use Rattle.fd_model.specs.Linear.{Comparison, IsEqual, IsOther, IsAtMost, turned, in_integers, of_one, of_both, collect, normal_form}
use Rattle.fd_model.specs.ReifiedRows.{formed, read_comparison, magnitudes, told_by, both_sums, reified_ranges, reified_end}
use Rattle.fd_model.specs.Splitting as splitting
use Rattle.linear_forms.specs.declared.Linear.{Linear}
use Rattle.linear_forms.specs.LinearForm.{form_of}
use Rattle.term_pool.specs.declared.TermId.{TermId}
use Rattle.term_pool.specs.Contents.{Contents}
use Rattle.term_pool.specs.Terms.{term_of}
use Rattle.product_bool.specs.declared.members.Placed.{Placed}
use Rattle.product_bool.specs.declared.faults.SplitFault.{SplitFault}
use Rattle.product_bool.specs.Faults.{cause_of, IsFaultOf}

-- the sides of a comparison are terms of the pool
pub record AreSides (c : Contents) (t : Term) (r : Relation) (left right : TermId) : Type 0 where
  pub left_within : left.number < length c.entries
  pub right_within : right.number < length c.entries
  pub is : read_comparison t ≡ of_one (formed r) (of_one (normal_form r) (collect (term_of c left) (term_of c right)))

abbrev pub FindsSides : Contents → Term → Result (Relation × TermId × TermId) ListCause → Type 0
FindsSides c t r = MatchResult r (λ p. AreSides c t p.0 p.1 p.2) (λ w. read_comparison t ≡ Err (cause_of w))

-- more than all coefficients
pub record IsFar (w : ℤ) (l : linear.Linear) : Type 0 where
  pub positive : pos 0 <ℤ w
  pub inside : in_integers w ≡ true
  pub more : magnitudes l.products < nat_abs w

-- both parts of an equality
abbrev pub TellsBoth : {B : Type 0} → ℕ → ℕ → ℤ → linear.Linear → (B → List Linear) → Result B SplitFault → Type 0
TellsBoth f g w l view r =
    let d = of_both both_sums (told_by f w l) (told_by g w (turned l)) in
    MatchResult r (λ ls. d ≡ Ok (map form_of (view ls))) (IsFaultOf d)

-- the sums, where w is W
abbrev pub told_sums : Comparison → ℕ → ℕ → ℤ → linear.Linear → Result (List linear.Linear) QueryFault
told_sums IsAtMost b n w l = told_by b w l
told_sums IsEqual b n w l = of_both both_sums (told_by n w l) (told_by (suc n) w (turned l))
told_sums IsOther b n w l = of_both both_sums (told_by (suc n) w l) (told_by (suc (suc n)) w (turned l))

-- all parts
abbrev pub told_parts : Comparison → ℕ → Placed → ℤ → linear.Linear → Result splitting.Split QueryFault
told_parts c b p w l =
    of_one (λ ls. Ok (record { equated = p.equated.items; ranges = reified_ranges c b p.fresh; sums = ls; fresh = reified_end c p.fresh })) (told_sums c b p.fresh w l)
