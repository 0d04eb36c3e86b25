-- The ranges of variables that differ.
use Rattle.std.proofs.Common.{◌≡◌, ℕ, ◌<◌, ◌^◌, ℤ, List, [], ◌∷◌, ◌++◌, Ok, sym, ap, subst, ◌∙◌, append_assoc}
use Rattle.std.specs.Prelude.{IfOk}
use Rattle.fd_language.specs.Term.{Term}
use Rattle.fd_model.specs.Linear.{of_one}
use Rattle.fd_model.specs.LinearRows.{Expansion}
use Rattle.fd_model.specs.Members.{Member, as_member, walk, placed, equated_from, fresh_after}
use Rattle.fd_model.specs.ConstraintExpansion.{all_different}
use Rattle.constraint_expand.specs.declared.members.Placed.{Placed}
use Rattle.constraint_expand.specs.Lists.{AllPlaced}
use Rattle.fd_language.specs.Range.{Range, Indexical}
use Rattle.fd_model.specs.ListRows.{different_ranges, different_rows}
use Rattle.constraint_expand.specs.Posts.{pairs_of, Posts}
use Rattle.product_bool.proofs.Lemmas.{pairs_append}

-- what is posted, and what is left of all rows
pub record Posting (all : List Indexical) (start now : List (ℕ × Range)) (ahead : List Indexical) : Type 0 where
  pub is : now ++ pairs_of ahead ≡ start ++ pairs_of all

pub posting_turns : (all : List Indexical) (start now new : List (ℕ × Range)) (ps ahead : List Indexical) → Posting all start now (ps ++ ahead) → Posts ps now new → Posting all start new ahead
posting_turns all start now new ps ahead i p = record {
  is = ap (λ rs. rs ++ pairs_of ahead) p ∙ append_assoc now (pairs_of ps) (pairs_of ahead)
      ∙ ap (λ rs. now ++ rs) (sym (pairs_append ps ahead)) ∙ i.is;
}

-- an expansion by its parts
pub made : (x : Expansion) (es : List (ℕ × ℤ)) (ps : List Indexical) (n : ℕ) → x.equated ≡ es → x.ranges ≡ ps → x.fresh ≡ n → record { equated = es; ranges = ps; fresh = n } ≡ x
made x es ps n e r f = λ i. record { equated = sym e i; ranges = sym r i; fresh = sym f i }

pub different_expands : (l : Term) (n : ℕ) (ms : List Member) (p : Placed) (x : Expansion) → walk as_member l ≡ Ok ms → AllPlaced n ms p
    → x.equated ≡ p.equated.items → x.ranges ≡ different_ranges p.variables.items → x.fresh ≡ p.fresh
    → all_different l n ≡ Ok x
different_expands l n ms p x w a e r f =
    ap (of_one (λ ms. Ok (different_rows ms n))) w
    ∙ ap Ok (made x (equated_from n ms) (different_ranges (placed n ms)) (fresh_after n ms) (e ∙ a.equated) (r ∙ ap different_ranges a.variables) (f ∙ a.fresh))

pub different_ends : (l : Term) (n : ℕ) (ms : List Member) → walk as_member l ≡ Ok ms → IfOk (all_different l n) (λ x. x.fresh < 2 ^ 64) → fresh_after n ms < 2 ^ 64
different_ends l n ms w h = subst (λ r. IfOk r (λ x. x.fresh < 2 ^ 64)) (ap (of_one (λ ms. Ok (different_rows ms n))) w) h
