-- A run needs of a program its clauses alone.
use Rattle.std.proofs.Common.{◌≡◌, ℕ, Option, List, refl, subst}
use Rattle.fd_language.specs.Term.{Term, Substitution}
use Rattle.fd_language.specs.Family.{Family}
use Rattle.fd_model.specs.Goal.{Goal, True, Fail, Unify, Post, Constrain, Label, Call, Either, Builtin, Cut, If, IfElse, Not, Best, Program, Query, Branch, Event}
use Rattle.fd_model.specs.Children.{Offer, offer, Children, KeptOffer, look_in, sets_in}
use Rattle.fd_model.specs.Run.{Run, over, last, fewer, any, spent, faulty, taken}
use Rattle.reason_meaning.specs.FewerGoals.{with_queries}
use Rattle.reason_meaning.specs.Laws.{SameClauses}

module _ (M N : ℕ) (prog : Program) (qs : List Query) where
  same_offer : (m : ℕ) (look : ℕ → Term) (sets : ℕ → Option (List ℕ)) (b : Branch) (g : Goal) (rest : List Goal)
      → offer M N m prog look sets b g rest ≡ offer M N m (with_queries prog qs) look sets b g rest
  same_offer m look sets b True rest = refl
  same_offer m look sets b Fail rest = refl
  same_offer m look sets b (Unify s t) rest = refl
  same_offer m look sets b (Post t r) rest = refl
  same_offer m look sets b (Constrain c t) rest = refl
  same_offer m look sets b (Label o t) rest = refl
  same_offer m look sets b (Call t) rest = refl
  same_offer m look sets b (Either g h) rest = refl
  same_offer m look sets b (Builtin k t) rest = refl
  same_offer m look sets b (Cut c) rest = refl
  same_offer m look sets b (If test holds) rest = refl
  same_offer m look sets b (IfElse test holds other) rest = refl
  same_offer m look sets b (Not gs) rest = refl
  same_offer m look sets b (Best o least t c) rest = refl

  same_children : {m : ℕ} {b : Branch} {g : Goal} {rest : List Goal} {s : Substitution} {D : Family} {o : Offer}
      → Children M N prog m b g rest s D o → Children M N (with_queries prog qs) m b g rest s D o
  same_children {m} {b} {g} {rest} {s} {D} {o} c = record {
    view = c.view;
    kept = subst (λ x. KeptOffer M N x o) (same_offer m (look_in b s D) (sets_in b s D) b g rest) c.kept;
  }

  same_run : {q : Query} {n : ℕ} {k : Option ℕ} {bs : List Branch} {es : List Event} {r : ℕ} → Run M N prog q n k bs es r → Run M N (with_queries prog qs) q n k bs es r
  same_run over = over
  same_run (last s D e v) = last s D e v
  same_run (fewer s D e v more) = fewer s D e v (same_run more)
  same_run (any s D e v more) = any s D e v (same_run more)
  same_run (spent g rest e) = spent g rest e
  same_run (faulty g rest s D e c) = faulty g rest s D e (same_children c)
  same_run (taken g rest s D cs e c more) = taken g rest s D cs e (same_children c) (same_run more)

pub same_clauses : SameClauses
same_clauses M N n prog qs q gs o (es, r, run, e) = (es, r, same_run M N prog qs run, e)
