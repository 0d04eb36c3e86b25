-- A comparison of two terms, pair by pair.
use Rattle.std.proofs.Common.{◌≡◌, ℕ, zero, suc, ◌+◌, ◌<◌, ◌≤◌, Bool, true, false, ◌==◌, refl, ap, sym, ◌∙◌, subst, arith, List, [], ◌∷◌, ◌++◌, length}
use Rattle.std.proofs.Common.{get_or, drop, Bor, append_assoc, append-nil}
use Rattle.std.specs.Prelude.{All, reverse}
use Rattle.std.proofs.lemmas.Bool.{false≢true}
use Rattle.std.proofs.lemmas.List.{reverse-append, reverse-reverse}
use Rattle.std.proofs.lemmas.List.Elements.{All-append}
use Rattle.fd_language.specs.Family.{Family}
use Rattle.term_pool.proofs.Lemmas.{size_above_zero}
use Rattle.term_pool.specs.declared.AtomId.{AtomId}
use Rattle.term_pool.specs.Terms.{size, sizes}
use Rattle.fd_language.specs.Term.{Term, Comp}
use Rattle.heap_cells.specs.declared.Cell.{Cell}
use Rattle.heap_cells.specs.declared.Seen.{Seen}
use Rattle.heap_cells.specs.declared.Seen.TheVariants as seen
use Rattle.heap_cells.specs.Cells.{Cells, Compound, IsOf}
use Rattle.heap_cells.specs.Terms.{Naming, terms_by, Same}
use Rattle.heap_cells.specs.HeapInvariant.{IsHeap}
use Rattle.heap_cells.proofs.Lemmas.{none_at_all, both_of, all_front, last_of, all_reverse, all_push, head_of, tail_of}
use Rattle.builtin_calls.specs.declared.identity.Pair.{Pair}
use Rattle.heap_cells.specs.SeenTerms.{read_term, seen_term}
use Rattle.builtin_calls.specs.CellTops.{shown, IsHeld}
use Rattle.builtin_calls.specs.Evaluations.{unnamed}
use Rattle.builtin_calls.specs.Identity.{TellsIdentical, TellsShown, IsOwnPair, IsEqualPair, weight, paired, IsReduced, IsSettled}

-- cells with one term have one term as the sets show it
pub same_seen : (h : Cells) (G : Family) (c d : Cell) → Same h c d → (name : Naming) → seen_term name h G c ≡ seen_term name h G d
same_seen h G c d s name = ap (read_term h G) (s name)

-- lists of cells
same_count : (by : Cell → Term) (cs ds : List Cell) → terms_by by cs ≡ terms_by by ds → length cs ≡ length ds
same_count by [] [] e = refl
same_count by [] (d ∷ ds) e = cc
same_count by (c ∷ cs) [] e = cc
same_count by (c ∷ cs) (d ∷ ds) e = let h = same_count by cs ds (let q : terms_by by cs ≡ terms_by by ds = cc in q) in omega arith

all_behind : {X : Type 0} (P : X → Type 0) (xs ys : List X) → All P (xs ++ ys) → All P ys
all_behind P [] ys a = a
all_behind P (x ∷ xs) ys a = all_behind P xs ys (tail_of P x (xs ++ ys) a)

weight-append : (by : Cell → Term) (ps qs : List Pair) → weight by (ps ++ qs) ≡ weight by ps + weight by qs
weight-append by [] qs = omega arith
weight-append by (p ∷ ps) qs = let e = weight-append by ps qs in omega arith

weight-reverse : (by : Cell → Term) (ps : List Pair) → weight by (reverse ps) ≡ weight by ps
weight-reverse by [] = refl
weight-reverse by (p ∷ ps) = let e = ap (weight by) (reverse-append (p ∷ []) ps) in let f = weight-append by (reverse ps) (p ∷ []) in let g = weight-reverse by ps in omega arith

weight-paired : (by : Cell → Term) (cs ds : List Cell) → length cs ≡ length ds → weight by (paired cs ds) ≡ sizes (terms_by by cs)
weight-paired by [] ds l = refl
weight-paired by (c ∷ cs) [] l = absurd (omega arith)
weight-paired by (c ∷ cs) (d ∷ ds) l = ap (λ n. size (by c) + n) (weight-paired by cs ds (let e : length cs ≡ length ds = omega arith in e))

own_paired : (h : Cells) (cs ds : List Cell) → All (IsOf h) cs → All (IsOf h) ds → All (IsOwnPair h) (paired cs ds)
own_paired h [] ds a b = none_at_all (IsOwnPair h)
own_paired h (c ∷ cs) [] a b = none_at_all (IsOwnPair h)
own_paired h (c ∷ cs) (d ∷ ds) a b = both_of (IsOwnPair h) (record { left = c; right = d }) (paired cs ds) (head_of (IsOf h) c cs a, head_of (IsOf h) d ds b)
    (own_paired h cs ds (tail_of (IsOf h) c cs a) (tail_of (IsOf h) d ds b))

paired_none : (cs : List Cell) → paired cs [] ≡ []
paired_none [] = refl
paired_none (c ∷ cs) = refl

no_pairs : (n : ℕ) (ls rs : List Cell) → length ls ≤ n → paired (drop n ls) (drop n rs) ≡ []
no_pairs zero [] rs l = refl
no_pairs zero (c ∷ ls) rs l = absurd (omega arith)
no_pairs (suc n) [] rs l = refl
no_pairs (suc n) (c ∷ ls) [] l = paired_none (drop n ls)
no_pairs (suc n) (c ∷ ls) (d ∷ rs) l = no_pairs n ls rs (omega arith)

first_pair : (i : ℕ) (ls rs : List Cell) (d : Cell) → i < length ls → i < length rs
    → paired (drop i ls) (drop i rs) ≡ record { left = get_or ls i d; right = get_or rs i d } ∷ paired (drop (suc i) ls) (drop (suc i) rs)
first_pair zero (c ∷ ls) (e ∷ rs) d l m = refl
first_pair zero [] rs d l m = absurd (omega arith)
first_pair zero (c ∷ ls) [] d l m = absurd (omega arith)
first_pair (suc i) [] rs d l m = absurd (omega arith)
first_pair (suc i) (c ∷ ls) [] d l m = absurd (omega arith)
first_pair (suc i) (c ∷ ls) (e ∷ rs) d l m = first_pair i ls rs d (omega arith) (omega arith)

module _ (h : Cells) (G : Family) where
  paired_equal : (name : Naming) (cs ds : List Cell) → terms_by (seen_term name h G) cs ≡ terms_by (seen_term name h G) ds → All (IsEqualPair name h G) (paired cs ds)
  paired_equal name [] ds e = none_at_all (IsEqualPair name h G)
  paired_equal name (c ∷ cs) [] e = none_at_all (IsEqualPair name h G)
  paired_equal name (c ∷ cs) (d ∷ ds) e =
      both_of (IsEqualPair name h G) (record { left = c; right = d }) (paired cs ds) (let f : seen_term name h G c ≡ seen_term name h G d = cc in f)
      (paired_equal name cs ds (let f : terms_by (seen_term name h G) cs ≡ terms_by (seen_term name h G) ds = cc in f))

  equal_paired : (name : Naming) (cs ds : List Cell) → length cs ≡ length ds → All (IsEqualPair name h G) (paired cs ds) → terms_by (seen_term name h G) cs ≡ terms_by (seen_term name h G) ds
  equal_paired name [] [] l a = refl
  equal_paired name [] (d ∷ ds) l a = absurd (omega arith)
  equal_paired name (c ∷ cs) [] l a = absurd (omega arith)
  equal_paired name (c ∷ cs) (d ∷ ds) l a =
      let p : Pair = record { left = c; right = d } in
      let f : seen_term name h G c ≡ seen_term name h G d = head_of (IsEqualPair name h G) p (paired cs ds) a in
      let g = equal_paired name cs ds (let e : length cs ≡ length ds = omega arith in e) (tail_of (IsEqualPair name h G) p (paired cs ds) a) in
      cc

  -- two cells with one term
  pub reduced_same : (ps : List Pair) (p : Pair) → ((name : Naming) → IsEqualPair name h G p) → IsReduced h G (ps ++ p ∷ []) ps
  reduced_same ps p e = record {
    forth = λ name a. all_front (IsEqualPair name h G) ps (p ∷ []) a;
    back = λ name a. all_push (IsEqualPair name h G) ps p a (e name);
    own = λ a. all_front (IsOwnPair h) ps (p ∷ []) a;
    falls = let q = weight-append (seen_term unnamed h G) ps (p ∷ []) in let r = size_above_zero (seen_term unnamed h G p.left) in omega arith;
  }

  -- pairs that are settled one by one
  settled_same : (os new : List Pair) (p : Pair) → IsSettled h G os new → ((name : Naming) → IsEqualPair name h G p) → IsSettled h G (os ++ p ∷ []) new
  settled_same os new p s e = record {
    forth = λ name a. s.forth name (all_front (IsEqualPair name h G) os (p ∷ []) a);
    back = λ name a. all_push (IsEqualPair name h G) os p (s.back name a) (e name);
    own = λ a. s.own (all_front (IsOwnPair h) os (p ∷ []) a);
    lighter = let w = weight-append (seen_term unnamed h G) os (p ∷ []) in let l = s.lighter in omega arith;
  }

  settled_push : (os new : List Pair) (p q : Pair) → IsSettled h G os new → ((name : Naming) → seen_term name h G p.left ≡ seen_term name h G q.left)
      → ((name : Naming) → seen_term name h G p.right ≡ seen_term name h G q.right) → IsOwnPair h q → IsSettled h G (os ++ p ∷ []) (new ++ q ∷ [])
  settled_push os new p q s l r o = record {
    forth = λ name a. all_push (IsEqualPair name h G) new q (s.forth name (all_front (IsEqualPair name h G) os (p ∷ []) a)) (sym (l name) ∙ last_of (IsEqualPair name h G) os p a ∙ r name);
    back = λ name a. all_push (IsEqualPair name h G) os p (s.back name (all_front (IsEqualPair name h G) new (q ∷ []) a)) (l name ∙ last_of (IsEqualPair name h G) new q a ∙ sym (r name));
    own = λ a. all_push (IsOwnPair h) new q (s.own (all_front (IsOwnPair h) os (p ∷ []) a)) o;
    lighter =
        let w = weight-append (seen_term unnamed h G) os (p ∷ []) in
        let v = weight-append (seen_term unnamed h G) new (q ∷ []) in
        let e : size (seen_term unnamed h G p.left) ≡ size (seen_term unnamed h G q.left) = ap size (l unnamed) in
        let m = s.lighter in
        omega arith;
  }

  -- the pairs from one place on
  pub settled_none : (old : List Pair) (ls rs : List Cell) (n : ℕ) → length ls ≤ n → IsSettled h G (old ++ reverse (paired (drop n ls) (drop n rs))) old
  settled_none old ls rs n l = subst (λ ps. IsSettled h G ps old) (sym (ap (λ ps. old ++ reverse ps) (no_pairs n ls rs l) ∙ append-nil old)) record {
    forth = λ name a. a;
    back = λ name a. a;
    own = λ a. a;
    lighter = omega arith;
  }

  settled_at : (old new : List Pair) (ls rs : List Cell) (i j : ℕ) (d : Cell) → suc i ≡ j → i < length ls → i < length rs
      → IsSettled h G ((old ++ reverse (paired (drop j ls) (drop j rs))) ++ record { left = get_or ls i d; right = get_or rs i d } ∷ []) new
      → IsSettled h G (old ++ reverse (paired (drop i ls) (drop i rs))) new
  settled_at old new ls rs i j d n l m s =
      let p : Pair = record { left = get_or ls i d; right = get_or rs i d } in
      let qs = paired (drop j ls) (drop j rs) in
      subst (λ ps. IsSettled h G ps new)
      (append_assoc old (reverse qs) (p ∷ []) ∙ ap (λ ps. old ++ ps) (sym (reverse-append (p ∷ []) qs))
      ∙ ap (λ ps. old ++ reverse ps) (sym (first_pair i ls rs d l m ∙ ap (λ k. p ∷ paired (drop k ls) (drop k rs)) n))) s

  pub settled_skip : (old new : List Pair) (ls rs : List Cell) (i j : ℕ) (d x y : Cell) → suc i ≡ j → i < length ls → i < length rs
      → IsSettled h G (old ++ reverse (paired (drop j ls) (drop j rs))) new → Same h (get_or ls i d) x → Same h (get_or rs i d) y → x ≡ y
      → IsSettled h G (old ++ reverse (paired (drop i ls) (drop i rs))) new
  settled_skip old new ls rs i j d x y n l m s a b e =
      settled_at old new ls rs i j d n l m (settled_same (old ++ reverse (paired (drop j ls) (drop j rs))) new (record { left = get_or ls i d; right = get_or rs i d }) s
      (λ name. same_seen h G (get_or ls i d) x a name ∙ ap (seen_term name h G) e ∙ sym (same_seen h G (get_or rs i d) y b name)))

  pub settled_put : (old new : List Pair) (ls rs : List Cell) (i j : ℕ) (d x y : Cell) → suc i ≡ j → i < length ls → i < length rs
      → IsSettled h G (old ++ reverse (paired (drop j ls) (drop j rs))) new → Same h (get_or ls i d) x → Same h (get_or rs i d) y → IsOf h x → IsOf h y
      → IsSettled h G (old ++ reverse (paired (drop i ls) (drop i rs))) (new ++ record { left = x; right = y } ∷ [])
  settled_put old new ls rs i j d x y n l m s a b o k =
      settled_at old (new ++ record { left = x; right = y } ∷ []) ls rs i j d n l m
      (settled_push (old ++ reverse (paired (drop j ls) (drop j rs))) new (record { left = get_or ls i d; right = get_or rs i d }) (record { left = x; right = y }) s
      (λ name. same_seen h G (get_or ls i d) x a name) (λ name. same_seen h G (get_or rs i d) y b name) (o, k))

  reduced_settled : (old mid new : List Pair) → IsReduced h G old mid → IsSettled h G mid new → IsReduced h G old new
  reduced_settled old mid new r s = record {
    forth = λ name a. s.forth name (r.forth name a);
    back = λ name a. r.back name (s.back name a);
    own = λ a. s.own (r.own a);
    falls = let l = s.lighter in let m = r.falls in omega arith;
  }

  -- two compound terms with one name and as many arguments
  reduced_parts : (ps new : List Pair) (p : Pair) (f : AtomId) (cs ds : List Cell)
      → ((name : Naming) → seen_term name h G p.left ≡ Comp (name f) (terms_by (seen_term name h G) cs))
      → ((name : Naming) → seen_term name h G p.right ≡ Comp (name f) (terms_by (seen_term name h G) ds))
      → All (IsOf h) cs → All (IsOf h) ds → length cs ≡ length ds → new ≡ ps ++ reverse (paired cs ds) → IsReduced h G (ps ++ p ∷ []) new
  reduced_parts ps new p f cs ds a b x y l e = subst (λ qs. IsReduced h G (ps ++ p ∷ []) qs) (sym e) record {
    forth = λ name g.
        let i : seen_term name h G p.left ≡ seen_term name h G p.right = last_of (IsEqualPair name h G) ps p g in
        let j = sym (a name) ∙ i ∙ b name in
        All-append (IsEqualPair name h G) ps (reverse (paired cs ds)) (all_front (IsEqualPair name h G) ps (p ∷ []) g)
        (all_reverse (IsEqualPair name h G) (paired cs ds) (paired_equal name cs ds (let k : terms_by (seen_term name h G) cs ≡ terms_by (seen_term name h G) ds = cc in k)));
    back = λ name g.
        let k = all_reverse (IsEqualPair name h G) (reverse (paired cs ds)) (all_behind (IsEqualPair name h G) ps (reverse (paired cs ds)) g) in
        let m = subst (All (IsEqualPair name h G)) (reverse-reverse (paired cs ds)) k in
        all_push (IsEqualPair name h G) ps p (all_front (IsEqualPair name h G) ps (reverse (paired cs ds)) g) (a name ∙ ap (Comp (name f)) (equal_paired name cs ds l m) ∙ sym (b name));
    own = λ g. All-append (IsOwnPair h) ps (reverse (paired cs ds)) (all_front (IsOwnPair h) ps (p ∷ []) g) (all_reverse (IsOwnPair h) (paired cs ds) (own_paired h cs ds x y));
    falls =
        let by = seen_term unnamed h G in
        let q = weight-append by ps (p ∷ []) in
        let r = weight-append by ps (reverse (paired cs ds)) in
        let s = weight-reverse by (paired cs ds) in
        let t = weight-paired by cs ds l in
        let u : size (by p.left) ≡ 1 + sizes (terms_by by cs) = ap size (a unnamed) in
        omega arith;
  }

  -- the same, where the pairs of their arguments are settled
  pub parts_settled : (ps new : List Pair) (p : Pair) (f g : AtomId) (cs ds : List Cell) → f ≡ g
      → ((name : Naming) → seen_term name h G p.left ≡ Comp (name f) (terms_by (seen_term name h G) cs))
      → ((name : Naming) → seen_term name h G p.right ≡ Comp (name g) (terms_by (seen_term name h G) ds))
      → All (IsOf h) cs → All (IsOf h) ds → length cs ≡ length ds → IsSettled h G (ps ++ reverse (paired cs ds)) new → IsReduced h G (ps ++ p ∷ []) new
  parts_settled ps new p f g cs ds e a b x y l s =
      reduced_settled (ps ++ p ∷ []) (ps ++ reverse (paired cs ds)) new
      (reduced_parts ps (ps ++ reverse (paired cs ds)) p f cs ds a (λ name. b name ∙ ap (λ i. Comp (name i) (terms_by (seen_term name h G) ds)) (sym e)) x y l refl) s

  -- two compound terms with other names, or with other numbers of arguments
  pub parts_apart : (p : Pair) (f g : AtomId) (cs ds : List Cell)
      → ((name : Naming) → seen_term name h G p.left ≡ Comp (name f) (terms_by (seen_term name h G) cs))
      → ((name : Naming) → seen_term name h G p.right ≡ Comp (name g) (terms_by (seen_term name h G) ds))
      → (f ≡ g → length cs ≡ length ds → ⊥) → TellsIdentical h G p.left p.right false
  parts_apart p f g cs ds a b n name o e =
      let j = sym (a name) ∙ e ∙ b name in
      n (o f g (let k : name f ≡ name g = cc in k)) (same_count (seen_term name h G) cs ds (let k : terms_by (seen_term name h G) cs ≡ terms_by (seen_term name h G) ds = cc in k))

  -- a term that is no compound term, and another one
  pub flat_alike : (ps : List Pair) (p : Pair) (x y : Seen) (b : Bool) → b ≡ true
      → ((name : Naming) → seen_term name h G p.left ≡ shown name (seen_term name h G) x)
      → ((name : Naming) → seen_term name h G p.right ≡ shown name (seen_term name h G) y) → TellsShown x y b → IsReduced h G (ps ++ p ∷ []) ps
  flat_alike ps p x y true e l r t = reduced_same ps p (λ name. l name ∙ t name (seen_term name h G) ∙ sym (r name))
  flat_alike ps p x y false e l r t = absurd (false≢true e)

  -- so far
  pub record IsComparing (a b : Cell) (work : List Pair) : Type 0 where
    pub forth : (name : Naming) → seen_term name h G a ≡ seen_term name h G b → All (IsEqualPair name h G) work
    pub back : (name : Naming) → All (IsEqualPair name h G) work → seen_term name h G a ≡ seen_term name h G b
    pub own : All (IsOwnPair h) work

  comparing_first : (a b : Cell) (work : List Pair) → IsOf h a → IsOf h b → work ≡ record { left = a; right = b } ∷ [] → IsComparing a b work
  comparing_first a b work x y e = subst (IsComparing a b) (sym e) (
      let p : Pair = record { left = a; right = b } in
      record {
        forth = λ name i. both_of (IsEqualPair name h G) p [] i (none_at_all (IsEqualPair name h G));
        back = λ name i. head_of (IsEqualPair name h G) p [] i;
        own = both_of (IsOwnPair h) p [] (x, y) (none_at_all (IsOwnPair h));
      })

  pub comparing_roots : (a b x y : Cell) (work : List Pair) → Same h a x → Same h b y → IsOf h x → IsOf h y → work ≡ record { left = x; right = y } ∷ [] → IsComparing a b work
  comparing_roots a b x y work i j o k e =
      let c = comparing_first x y work o k e in
      record {
        forth = λ name q. c.forth name (sym (same_seen h G a x i name) ∙ q ∙ same_seen h G b y j name);
        back = λ name w. same_seen h G a x i name ∙ c.back name w ∙ sym (same_seen h G b y j name);
        own = c.own;
      }

-- the arguments of a compound term that is seen are of the heap
pub held_parts : (h : Cells) → IsHeap h → (f : AtomId) (args : Bor (List Cell)) → IsHeld h (seen.Struct f args) → All (IsOf h) args.now
held_parts h v f args k = subst (λ (b : Compound). All (IsOf h) b.args) k.2 (v.parts k.0)
