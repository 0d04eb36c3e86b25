-- What is done with a term of the pool.
use Rattle.std.proofs.Common.{◌≡◌, ℕ, ◌<◌, ◌+◌, ◌*◌, List, [], ◌∷◌, ◌++◌, length, Some, sym, ap, subst, ◌∙◌, arith}
use Rattle.std.specs.Prelude.{All}
use Rattle.std.proofs.lemmas.List.Elements.{All-nil, All-cons, All-head, All-tail, All-weaker}
use Rattle.std.proofs.lemmas.Option.{same_Some}
use Rattle.fd_language.specs.declared.range_node.RangeNode.{RangeNode}
use Rattle.fd_language.specs.PlacedTerm.{PlacedTerm, var}
use Rattle.term_pool.specs.declared.TermId.{TermId}
use Rattle.term_pool.specs.Contents as pool
use Rattle.term_pool.specs.Contents.{Shape, Contents, shape_at, place_at, parts_of}
use Rattle.term_pool.specs.Terms.{term_of, size, total_size}
use Rattle.term_pool.specs.PoolInvariant.{IsPool, IsWithin}
use Rattle.term_pool.proofs.Lemmas.{term_of_shape, shape_within, total_size-nil, total_size-cons, size_of_shape, placed_of_shape, entry_of}
use Rattle.range_terms.specs.declared.forms.Operand.{Operand}
use Rattle.range_terms.specs.declared.forms.RangeForm.{RangeForm}
use Rattle.range_terms.specs.declared.forms.RangeForm.TheVariants as form
use Rattle.range_terms.specs.declared.walk.Task.{Task}
use Rattle.range_terms.specs.declared.walk.Task.TheVariants as task
use Rattle.range_terms.specs.declared.walk.Found.{Found}
use Rattle.term_pool.specs.PlacedTerms.{placed_by, placed_of}
use Rattle.range_terms.specs.TermNodes.{Wanted, wanted}
use Rattle.range_terms.specs.Forms.{of_operand, IsRangeForm, IsNoVariable}
use Rattle.range_terms.specs.Walk.{IsOf, Replaces}
use Rattle.range_terms.proofs.Walks.{load_two, load_three, step_open}

-- the form of a term is that of its shape
pub at_shape : (N : ℕ) (c : Contents) → IsPool c → (o : Operand) (s u : Shape) (p : ℕ) (f : RangeForm) → shape_at c o.term ≡ Some u → shape_at c o.term ≡ Some s → place_at c o.term ≡ Some p
    → IsRangeForm N c (wanted N o.position (placed_by c.names (placed_of c) p u)) p (parts_of u) f → IsRangeForm N c (of_operand N c o) p (parts_of s) f
at_shape N c v o s u p f hu hs hp h =
    let same : u ≡ s = same_Some u s (sym hu ∙ hs) in
    let placed : placed_of c o.term ≡ placed_by c.names (placed_of c) p u = placed_of_shape c v o.term u p hu hp in
    subst (λ (x : PlacedTerm). IsRangeForm N c (wanted N o.position x) p (parts_of s) f) (sym placed)
    (subst (λ (r : Shape). IsRangeForm N c (wanted N o.position (placed_by c.names (placed_of c) p u)) p (parts_of r) f) same h)

-- whether a term is a variable
pub a_variable : (c : Contents) → IsPool c → (t : TermId) (x : ℕ) → t.number < length c.entries → shape_at c t ≡ Some (pool.var x) → (q : ℕ) × (placed_of c t ≡ var x q)
a_variable c v t x l h = let e = entry_of c t l in (e.0.place, placed_of_shape c v t (pool.var x) e.0.place h e.2)

pub no_variable : (c : Contents) → IsPool c → (t : TermId) (s : Shape) → t.number < length c.entries → shape_at c t ≡ Some s
    → ((q : ℕ) → IsNoVariable (placed_by c.names (placed_of c) q s)) → IsNoVariable (placed_of c t)
no_variable c v t s l h n = let e = entry_of c t l in subst IsNoVariable (sym (placed_of_shape c v t s e.0.place h e.2)) (n e.0.place)

-- the parts are of the pool, and smaller
parts_within : (c : Contents) → IsPool c → (t : TermId) (s : Shape) → t.number < length c.entries → shape_at c t ≡ Some s → All (λ u. u.number < length c.entries) (parts_of s)
parts_within c v t s l h = go s (shape_within c v t s h)
  where
    go : (s : Shape) → IsWithin (length c.names) t.number s → All (λ u. u.number < length c.entries) (parts_of s)
    go (pool.var x) w = All-nil (λ u. u.number < length c.entries)
    go (pool.int z) w = All-nil (λ u. u.number < length c.entries)
    go (pool.atom a) w = All-nil (λ u. u.number < length c.entries)
    go (pool.comp f ts) w = All-weaker (λ u. u.number < t.number) (λ u. u.number < length c.entries) (λ u k. omega arith) ts w.1

size_of : (c : Contents) → IsPool c → (t : TermId) (s : Shape) → shape_at c t ≡ Some s → size (term_of c t) ≡ total_size c (parts_of s) + 1
size_of c v t s h = size_of_shape c t s (term_of_shape c v t s h)

pub has_weight : (c : Contents) → IsPool c → (t : TermId) (s : Shape) → shape_at c t ≡ Some s → 0 < 2 * size (term_of c t)
has_weight c v t s h = omega (arith, size_of c v t s h)

-- a node behind its operand
pub step_unary : (N : ℕ) (c : Contents) → IsPool c → (t : TermId) (s : Shape) (p : ℕ) (w : Wanted) (n : RangeNode) (a : Operand) (found : Found)
    (ahead next : List Task) → t.number < length c.entries → shape_at c t ≡ Some s
    → IsRangeForm N c w p (parts_of s) (form.Unary n a) → next ≡ ahead ++ (task.Put n p ∷ task.Read a ∷ []) → Replaces N c w (2 * size (term_of c t)) found ahead found next
step_unary N c v t s p w n a found ahead next l h f e =
    let within : All (λ u. u.number < length c.entries) (a.term ∷ []) = subst (All (λ u. u.number < length c.entries)) f.0 (parts_within c v t s l h) in
    let first : IsOf c (task.Read a) = All-head (λ u. u.number < length c.entries) a.term [] within in
    let sizes : total_size c (parts_of s) ≡ size (term_of c a.term) + 0 = ap (total_size c) f.0 ∙ total_size-cons c a.term [] ∙ ap (λ (k : ℕ). size (term_of c a.term) + k) (total_size-nil c) in
    step_open N c w (2 * size (term_of c t)) found ahead next (task.Put n p ∷ task.Read a ∷ []) e f.1
    (omega (arith, load_two c (task.Put n p) (task.Read a), size_of c v t s h, sizes))
    (All-cons (IsOf c) (task.Put n p) (task.Read a ∷ []) tt (All-cons (IsOf c) (task.Read a) [] first (All-nil (IsOf c))))

-- a node behind its two operands
pub step_binary : (N : ℕ) (c : Contents) → IsPool c → (t : TermId) (s : Shape) (p : ℕ) (w : Wanted) (n : RangeNode) (a b : Operand) (found : Found)
    (ahead next : List Task) → t.number < length c.entries → shape_at c t ≡ Some s
    → IsRangeForm N c w p (parts_of s) (form.Binary n a b) → next ≡ ahead ++ (task.Put n p ∷ task.Read b ∷ task.Read a ∷ []) → Replaces N c w (2 * size (term_of c t)) found ahead found next
step_binary N c v t s p w n a b found ahead next l h f e =
    let inside : TermId → Type 0 = λ u. u.number < length c.entries in
    let within : All inside (a.term ∷ b.term ∷ []) = subst (All inside) f.0 (parts_within c v t s l h) in
    let first : IsOf c (task.Read a) = All-head inside a.term (b.term ∷ []) within in
    let second : IsOf c (task.Read b) = All-head inside b.term [] (All-tail inside a.term (b.term ∷ []) within) in
    let sizes : total_size c (parts_of s) ≡ size (term_of c a.term) + (size (term_of c b.term) + 0) =
    ap (total_size c) f.0 ∙ total_size-cons c a.term (b.term ∷ [])
    ∙ ap (λ (k : ℕ). size (term_of c a.term) + k) (total_size-cons c b.term [] ∙ ap (λ (k : ℕ). size (term_of c b.term) + k) (total_size-nil c)) in
    step_open N c w (2 * size (term_of c t)) found ahead next (task.Put n p ∷ task.Read b ∷ task.Read a ∷ []) e f.1
    (omega (arith, load_three c (task.Put n p) (task.Read b) (task.Read a), size_of c v t s h, sizes))
    (All-cons (IsOf c) (task.Put n p) (task.Read b ∷ task.Read a ∷ []) tt (All-cons (IsOf c) (task.Read b) (task.Read a ∷ []) second (All-cons (IsOf c) (task.Read a) [] first (All-nil (IsOf c)))))
