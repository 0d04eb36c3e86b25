-- What holds of a branch and of the children of its labelling holds of its leaves.
use Rattle.std.proofs.Common.{◌≡◌, ℕ, Bool, true, List, [], ◌∷◌, Some, Ok, sym, subst}
use Rattle.fd_language.specs.Term.{Term, Substitution, apply}
use Rattle.fd_language.specs.Family.{Family, has}
use Rattle.fd_language.specs.Lists.{Each}
use Rattle.fd_model.specs.declared.kinds.Order.{Order}
use Rattle.fd_model.specs.Goal.{Goal, Label, Branch}
use Rattle.fd_model.specs.BranchViews.{IsConsistent, IsView}
use Rattle.fd_model.specs.Members.{Member}
use Rattle.fd_model.specs.Labelling.{read_list, pick, values_by}
use Rattle.fd_model.specs.Branches.{with_goals, by_value, look_in, sets_in}
use Rattle.fd_model.specs.Leaves.{Leaves, no_leaves, leaf, grows, BestLeaf, SoughtLeaf}
use Rattle.fd_model.proofs.Lists.{each_both, each_after}
use Rattle.fd_model.proofs.ValueBranches.{kept_each}

-- what a consistent child of the labelling has, where its branch has it
abbrev pub Passes : ℕ → ℕ → Order → Term → (Branch → Type 0) → Type 0
Passes M N o t P =
    (b : Branch) (s : Substitution) (D : Family) (ms : List Member) (x n : ℕ) → P b → IsView M N b.equations b.posted s D → read_list (apply (look_in b s D) t) ≡ Ok ms
    → pick o (λ y. values_by N (sets_in b s D y)) ms ≡ Some x → has (values_by N (sets_in b s D x)) n ≡ true
    → IsConsistent M N (by_value b b.goals x n).equations (by_value b b.goals x n).posted → P (by_value b b.goals x n)

pub leaves_each : (M N : ℕ) (o : Order) (t : Term) (P : Branch → Type 0) → Passes M N o t P → {bs ls : List Branch} → Leaves M N o t bs ls → Each P bs → Each P ls
leaves_each M N o t P pass no_leaves h = tt
leaves_each M N o t P pass (leaf s D ms v e p more) h = (h.0, leaves_each M N o t P pass more h.1)
leaves_each M N o t P pass (grows {b = b} {bs = bs} s D ms x cs v e p k more) h =
    leaves_each M N o t P pass more (each_both P cs bs (kept_each M N (by_value b b.goals x) P (values_by N (sets_in b s D x)) cs (λ n i c. pass b s D ms x n h.0 v e p i c) k) h.1)

-- the best one of them has it too
pub sought_each : (M N : ℕ) (b : Branch) (rest : List Goal) (o : Order) (least : Bool) (t c : Term) (cs : List Branch) (P Q : Branch → Type 0) → Passes M N o t P → P (with_goals b (Label o t ∷ []))
    → ((d : Branch) → P d → Q (with_goals d rest)) → SoughtLeaf M N b rest o least t c cs → Each Q cs
sought_each M N b rest o least t c cs P Q pass start done h = of_best h.0 (leaves_each M N o t P pass h.1 (start, tt)) h.2
  where
    of_best : (ls : List Branch) → Each P ls → BestLeaf M N least c rest ls cs → Each Q cs
    of_best [] each e = subst (Each Q) (sym e) tt
    of_best (l ∷ ls) each k =
        let best = k.1 in
        let own = each_after P best.before (k.0 ∷ best.behind) (subst (Each P) best.among each) in
        subst (Each Q) (sym k.2) (done k.0 own.0, tt)
