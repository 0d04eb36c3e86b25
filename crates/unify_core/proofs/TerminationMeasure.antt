-- Why the work ends.
use Rattle.std.proofs.Common.{◌≡◌, ℕ, zero, suc, ◌+◌, ◌*◌, ◌-◌, ◌<◌, ◌≤◌, false, refl, ap, sym, ◌∙◌, subst, arith, List, [], ◌∷◌, ◌++◌, length}
use Rattle.std.specs.Prelude.{reverse}
use Rattle.std.proofs.Math.ListN.{length-set}
use Rattle.std.proofs.lemmas.List.{reverse-append}
use Rattle.std.proofs.lemmas.List.Sums.{count_by-le-length}
use Rattle.std.proofs.Math.Nat.{mul-le-mul_left, mul-le-mul_right, mul-le-mul}
use Rattle.term_pool.proofs.Lemmas.{size_above_zero}
use Rattle.fd_language.specs.Term.{Term, Comp, apply}
use Rattle.term_pool.specs.Terms.{size, sizes}
use Rattle.heap_cells.specs.declared.Cell.{Cell}
use Rattle.heap_cells.specs.Cells.{Cells, bound, is_bound, slot_at, with_slot}
use Rattle.heap_cells.specs.Terms.{term_of, terms_by, one}
use Rattle.heap_cells.specs.HeapInvariant.{bound_in}
use Rattle.heap_cells.proofs.Lemmas.{size_one, bound_more}
use Rattle.unify_core.specs.declared.Pair.{Pair}
use Rattle.unify_core.specs.TerminationMeasure.{unnamed, weight, squared, effort}
use Rattle.unify_core.specs.Outcome.{paired}

square_less : (m n : ℕ) → m < n → m * m < n * n
square_less m n l = let a : m * m ≤ m * n = mul-le-mul_left m (let q : m ≤ n = omega arith in q) in
    let b : (m + 1) * n ≤ n * n = mul-le-mul_right n (let q : m + 1 ≤ n = omega arith in q) in omega arith

pub squared_less : (k m n : ℕ) → m < n → squared k m < squared k n
squared_less zero m n l = l
squared_less (suc k) m n l = squared_less k (m * m) (n * n) (square_less m n l)

pub weight-append : (h : Cells) (ps qs : List Pair) → weight h (ps ++ qs) ≡ weight h ps + weight h qs
weight-append h [] qs = omega arith
weight-append h (p ∷ ps) qs = let e = weight-append h ps qs in omega arith

-- the heap stays, and the work grows lighter
pub lighter : (h : Cells) (ps qs : List Pair) → weight h qs < weight h ps → effort h qs < effort h ps
unfolding effort
lighter h ps qs l = squared_less (length h.slots - bound_in h.slots) (weight h qs) (weight h ps) l

-- a binding
weight_grows : (h g : Cells) (v : ℕ) (t : Term) → ((c : Cell) → term_of unnamed g c ≡ apply (one v t) (term_of unnamed h c)) → (ps : List Pair) → weight g ps ≤ weight h ps * size t
weight_grows h g v t e [] = omega arith
weight_grows h g v t e (p ∷ ps) =
    let a = size_one v t (term_of unnamed h p.left) in
    let b = size_one v t (term_of unnamed h p.right) in
    let c = weight_grows h g v t e ps in
    let x : size (term_of unnamed g p.left) ≡ size (apply (one v t) (term_of unnamed h p.left)) = ap size (e p.left) in
    let y : size (term_of unnamed g p.right) ≡ size (apply (one v t) (term_of unnamed h p.right)) = ap size (e p.right) in
    omega arith

below_square : (a b c x n : ℕ) → x ≤ a * b → b < c → n ≡ a + c → x < n * n
below_square a b c x n l m e =
    let i : a * b ≤ a * c = mul-le-mul_left a (let q : b ≤ c = omega arith in q) in
    let j : n * n ≡ (a + c) * (a + c) = ap (λ y. y * y) e in
    let p : 1 * 1 ≤ c * c = mul-le-mul (let q : 1 ≤ c = omega arith in q) (let q : 1 ≤ c = omega arith in q) in
    omega arith

pub bind_lighter : (h : Cells) (v : ℕ) (to : Cell) (t : Term) (ps : List Pair) (p : Pair) → v < length h.slots → is_bound (slot_at h v) ≡ false
    → ((c : Cell) → term_of unnamed (with_slot h v (bound to)) c ≡ apply (one v t) (term_of unnamed h c))
    → size t < weight h (p ∷ []) → effort (with_slot h v (bound to)) ps < effort h (ps ++ p ∷ [])
unfolding effort
bind_lighter h v to t ps p there unbound e l =
    let g = with_slot h v (bound to) in
    let w = weight_grows h g v t e ps in
    let s = weight-append h ps (p ∷ []) in
    let one_more : bound_in g.slots ≡ suc (bound_in h.slots) = bound_more h.slots v (bound to) there unbound refl in
    let long : length g.slots ≡ length h.slots = length-set h.slots v (bound to) in
    let low : bound_in g.slots ≤ length g.slots = count_by-le-length is_bound g.slots in
    let left : length h.slots - bound_in h.slots ≡ suc (length g.slots - bound_in g.slots) = omega arith in
    let k = length g.slots - bound_in g.slots in
    let n = weight h (ps ++ p ∷ []) in
    let small : weight g ps < n * n = below_square (weight h ps) (size t) (weight h (p ∷ [])) (weight g ps) n w l s in
    subst (λ j. squared k (weight g ps) < squared j n) (sym left) (squared_less k (weight g ps) (n * n) small)

-- the parts of two compound terms
parts_weigh : (h : Cells) (cs ds : List Cell) → weight h (paired cs ds) ≤ sizes (terms_by (term_of unnamed h) cs) + sizes (terms_by (term_of unnamed h) ds)
parts_weigh h [] ds = omega arith
parts_weigh h (c ∷ cs) [] = omega arith
parts_weigh h (c ∷ cs) (d ∷ ds) = let e = parts_weigh h cs ds in omega arith

weight-reverse : (h : Cells) (ps : List Pair) → weight h (reverse ps) ≡ weight h ps
weight-reverse h [] = refl
weight-reverse h (p ∷ ps) = ap (weight h) (reverse-append (p ∷ []) ps) ∙ (let e = weight-append h (reverse ps) (p ∷ []) in let f = weight-reverse h ps in omega arith)

pub parts_lighter : (h : Cells) (ps : List Pair) (p : Pair) (f g : List ℕ) (cs ds : List Cell)
    → term_of unnamed h p.left ≡ Comp f (terms_by (term_of unnamed h) cs) → term_of unnamed h p.right ≡ Comp g (terms_by (term_of unnamed h) ds)
    → effort h (ps ++ reverse (paired cs ds)) < effort h (ps ++ p ∷ [])
parts_lighter h ps p f g cs ds a b = lighter h (ps ++ p ∷ []) (ps ++ reverse (paired cs ds))
    (let x = weight-append h ps (p ∷ []) in let y = weight-append h ps (reverse (paired cs ds)) in let w = weight-reverse h (paired cs ds) in let z = parts_weigh h cs ds in
    let l : size (term_of unnamed h p.left) ≡ 1 + sizes (terms_by (term_of unnamed h) cs) = ap size a in
    let r : size (term_of unnamed h p.right) ≡ 1 + sizes (terms_by (term_of unnamed h) ds) = ap size b in omega arith)

pub less_lighter : (h : Cells) (ps : List Pair) (p : Pair) → effort h ps < effort h (ps ++ p ∷ [])
less_lighter h ps p = lighter h (ps ++ p ∷ []) ps (let x = weight-append h ps (p ∷ []) in let a = size_above_zero (term_of unnamed h p.left) in omega arith)
