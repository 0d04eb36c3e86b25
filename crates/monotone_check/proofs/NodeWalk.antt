-- The walk over a range's nodes.
use Rattle.std.proofs.Common.{◌≡◌, ℕ, suc, ◌+◌, ◌-◌, ◌<◌, ◌≤◌, List, [], ◌∷◌, ◌++◌, length, drop, get_or, Option, Some, sym, ◌∙◌, ap, subst, arith}
use Rattle.std.specs.Option.{option_to_list}
use Rattle.std.proofs.lemmas.List.{at_drop_more, drop_all}
use Rattle.std.proofs.lemmas.Option.{same_Some}
use Rattle.std.proofs.Math.Numerals.{suc-eq-add-one}
use Rattle.fd_language.specs.declared.range_node.RangeNode.{RangeNode}
use Rattle.fd_language.specs.declared.TheConstants.{INFINITY}
use Rattle.fd_language.specs.Range.{Range, Expr}
use Rattle.fd_language.specs.PostfixRanges.{built, spelled_range, IsSpelled, builds_range, spelled_range-nodes}
use Rattle.fd_language.specs.RangeVerdict.{range_size}
use Rattle.fd_language.proofs.Lemmas.{spells_back, count_nodes}
use Rattle.monotone_check.specs.declared.pending_checks.Pending.{Pending}
use Rattle.monotone_check.specs.declared.summary.RangeCheck.{RangeCheck}
use Rattle.monotone_check.specs.Summary.{IsRange}
use Rattle.monotone_check.specs.PendingChecks.{IsPending, Follows}
use Rattle.monotone_check.specs.NodeWalk.{IsWalked}

pub builds_all : (nodes : List RangeNode) → IsSpelled nodes → Some (spelled_range nodes) ≡ built nodes [] []
builds_all nodes (r, e) = subst (λ ns. Some (spelled_range ns) ≡ built ns [] []) e (ap Some (spelled_range-nodes r) ∙ sym (builds_range r [] []))

pub walk_start : (at : ℕ → ℕ) (nodes : List RangeNode) (p : Pending) → IsSpelled nodes → p.ranges.items ≡ [] → p.terms.items ≡ [] → IsWalked at 0 nodes p
walk_start at nodes p s r t = ([], [], builds_all nodes s, record { terms = t; ranges = r })

from_follows : (at : ℕ → ℕ) (n : ℕ) (ns : List RangeNode) (r : Range) (o : Option Range) (p : Pending) → Some r ≡ o → Follows INFINITY at n ns o p
    → (rs : List Range) × (ts : List Expr) × (Some r ≡ built ns rs ts) × IsPending INFINITY at (suc n) rs ts p
from_follows at n ns r o p e f = subst (λ q. Follows INFINITY at n ns q p) (sym e) f

pub walk_step : (at : ℕ → ℕ) (i : ℕ) (nodes : List RangeNode) (d : RangeNode) (old new : Pending) → i < length nodes → IsWalked at i nodes old →
    ((ns : List RangeNode) (rs : List Range) (ts : List Expr) → IsPending INFINITY at i rs ts old → Follows INFINITY at i ns (built (get_or nodes i d ∷ ns) rs ts) new) → IsWalked at (i + 1) nodes new
walk_step at i nodes d old new l (rs, ts, e, p) f =
    let g : Some (spelled_range nodes) ≡ built (get_or nodes i d ∷ drop (i + 1) nodes) rs ts = e ∙ at_drop_more (λ ns. built ns rs ts) nodes i d l in
    subst (λ k. (qs : List Range) × (us : List Expr) × (Some (spelled_range nodes) ≡ built (drop (i + 1) nodes) qs us) × IsPending INFINITY at k qs us new) (suc-eq-add-one i)
    (from_follows at i (drop (i + 1) nodes) (spelled_range nodes) _ new g (f (drop (i + 1) nodes) rs ts p))

-- at the end there is the range alone
record IsAlone (at : ℕ → ℕ) (i : ℕ) (r : Range) (p : Pending) : Type 0 where
  kept : RangeCheck
  items : p.ranges.items ≡ kept ∷ []
  whole : IsRange INFINITY at (i - 1) r kept

alone : (at : ℕ → ℕ) (i : ℕ) (r : Range) (rs : List Range) (ts : List Expr) (p : Pending) → Some r ≡ built [] rs ts → IsPending INFINITY at i rs ts p → IsAlone at i r p
alone at i r [] [] p e h = absurd cc
alone at i r [] (t ∷ ts) p e h = absurd cc
alone at i r (q ∷ []) (t ∷ ts) p e h = absurd cc
alone at i r (q ∷ x ∷ rs) [] p e h = absurd cc
alone at i r (q ∷ x ∷ rs) (t ∷ ts) p e h = absurd cc
alone at i r (q ∷ []) [] p e h =
    let (front, s, j, k, none) = h.ranges in
    record { kept = s; items = j ∙ ap (λ l. l ++ s ∷ []) none; whole = subst (λ m. IsRange INFINITY at (i - 1) m s) (sym (same_Some r q e)) k }

pub walk_end : (at : ℕ → ℕ) (i : ℕ) (nodes : List RangeNode) (p : Pending) → length nodes ≤ i → i ≤ length nodes → IsSpelled nodes → IsWalked at i nodes p →
    (s : RangeCheck) × (p.ranges.items ≡ s ∷ []) × IsRange INFINITY at (range_size (spelled_range nodes) - 1) (spelled_range nodes) s
walk_end at i nodes p h g s (rs, ts, e, q) =
    let a = alone at i (spelled_range nodes) rs ts p (e ∙ ap (λ ns. built ns rs ts) (drop_all i nodes h)) q in
    let n : i ≡ range_size (spelled_range nodes) = same i (length nodes) h g ∙ (ap length (sym (spells_back nodes s)) ∙ count_nodes (spelled_range nodes)) in
    (a.kept, a.items, subst (λ k. IsRange INFINITY at (k - 1) (spelled_range nodes) a.kept) n a.whole)
  where
    same : (m n : ℕ) → n ≤ m → m ≤ n → m ≡ n
    same m n a b = omega arith

last_one : {A : Type 0} (s x : A) (front : List A) → s ∷ [] ≡ front ++ x ∷ [] → s ≡ x
last_one s x [] e = cc
last_one s x (y ∷ []) e = absurd cc
last_one s x (y ∷ z ∷ ys) e = absurd cc

pub walk_gives : (at : ℕ → ℕ) (i : ℕ) (nodes : List RangeNode) (p : Pending) (front : List RangeCheck) (o : Option RangeCheck) (x : RangeCheck)
    → length nodes ≤ i → i ≤ length nodes → IsSpelled nodes → IsWalked at i nodes p →
    p.ranges.items ≡ front ++ option_to_list o → o ≡ Some x → IsRange INFINITY at (range_size (spelled_range nodes) - 1) (spelled_range nodes) x
walk_gives at i nodes p front o x h g s w e f =
    let (k, items, whole) = walk_end at i nodes p h g s w in
    subst (λ y. IsRange INFINITY at (range_size (spelled_range nodes) - 1) (spelled_range nodes) y) (last_one k x front (sym items ∙ (e ∙ ap (λ q. front ++ option_to_list q) f))) whole
