-- Stacks of items over a pool that grows.
use Rattle.std.proofs.Common.{◌≡◌, ℕ, zero, suc, ◌-◌, ◌<◌, List, [], ◌∷◌, ◌++◌, length, take, drop, Option, Some, None, Bool, true, false, refl, sym, ap, subst}
use Rattle.std.proofs.Common.{◌∙◌, arith}
use Rattle.std.specs.Prelude.{slice_get, reverse}
use Rattle.std.proofs.lemmas.List.{reverse-append}
use Rattle.std.proofs.lemmas.List.Elements.{All-from_recursion, All-drop, All-take}
use Rattle.std.proofs.lemmas.Option.{slice_get_within, slice_get-get_or}
use Rattle.fd_language.specs.PlacedTerm.{PlacedTerm, comp, one, two}
use Rattle.fd_language.specs.Operators.{right_limit}
use Rattle.fd_language.specs.ReadingSteps.{Stack, top, paren, curly, before, between, reduce, gives_way}
use Rattle.term_pool.specs.declared.TermId.{TermId}
use Rattle.term_pool.specs.Contents.{Contents, atom_name}
use Rattle.term_pool.specs.Terms.{Extends}
use Rattle.term_pool.specs.PoolInvariant.{IsPool}
use Rattle.term_pool.proofs.Lemmas.{name_kept, extends_trans}
use Rattle.term_pool.specs.declared.AtomId.{AtomId}
use Rattle.name_syntax.specs.declared.operators.Operator.{Operator}
use Rattle.name_syntax.specs.Operators.{operator_of, nameless}
use Rattle.term_reader.specs.declared.parser.Item.{Item}
use Rattle.term_reader.specs.declared.parser.Operation.{Operation}
use Rattle.term_reader.specs.declared.parser.Item.TheVariants.{Parenthesis, Curly, Call, List as Listed, Tail, Prefix, Infix}
use Rattle.term_pool.specs.PlacedTerms.{placed_of}
use Rattle.term_reader.specs.PlacedTerms.{parts_of, Adds}
use Rattle.term_reader.specs.View.{stack_of, HaveIds, HaveRoom, AreTerms, Steps, Stays, IsNoOperation, item_of, operands, last_item}
use Rattle.term_reader.proofs.PlacedLaws.{placed_kept, parts_kept, parts_of_one, parts_of_two, extends_length, extends_names}

-- ---- the last element

abbrev pub front : {X : Type 0} → List X → List X
front xs = take (length xs - 1) xs

last_at : {X : Type 0} (xs : List X) (k : ℕ) (x : X) → slice_get xs k ≡ Some x → suc k ≡ length xs → xs ≡ take k xs ++ x ∷ []
last_at [] k x e h = absurd (omega arith)
last_at (y ∷ []) zero x e h = let same : y ≡ x = cc in ap (λ z. z ∷ []) same
last_at (y ∷ z ∷ xs) zero x e h = absurd (omega arith)
last_at (y ∷ xs) (suc k) x e h = ap (λ zs. y ∷ zs) (last_at xs k x e (omega arith))

pub last_splits : {X : Type 0} (xs : List X) (x : X) → slice_get xs (length xs - 1) ≡ Some x → xs ≡ front xs ++ x ∷ []
last_splits xs x e = let within : length xs - 1 < length xs = slice_get_within xs (length xs - 1) x e in last_at xs (length xs - 1) x e (omega arith)

pub last_none : {X : Type 0} (xs : List X) → slice_get xs (length xs - 1) ≡ None → xs ≡ []
last_none [] e = refl
last_none (y ∷ ys) e = let some = slice_get-get_or (y ∷ ys) (length (y ∷ ys) - 1) y (omega arith) in absurd cc

-- the last item comes first
pub turned : (xs : List Item) (x : Item) → last_item xs ≡ Some x → reverse xs ≡ x ∷ reverse (front xs)
turned xs x e = ap reverse (last_splits xs x e) ∙ reverse-append (front xs) (x ∷ [])

pub turned_push : (xs : List Item) (x : Item) → reverse (xs ++ x ∷ []) ≡ x ∷ reverse xs
turned_push xs x = reverse-append xs (x ∷ [])

-- ---- growing

pub terms_more : (c d : Contents) → Extends c d → (ts : List TermId) → AreTerms c ts → AreTerms d ts
terms_more c d x ts h k e within = let old = h k e within in let more = extends_length c d x in omega (arith, old, more)

pub ids_more : (c d : Contents) → Extends c d → (xs : List Item) → HaveIds c xs → HaveIds d xs
ids_more c d x [] h = tt
ids_more c d x (Parenthesis ∷ xs) h = ids_more c d x xs h
ids_more c d x (Curly p ∷ xs) h = ids_more c d x xs h
ids_more c d x (Call p a from ∷ xs) h = (omega (arith, h.0, extends_names c d x), ids_more c d x xs h.1)
ids_more c d x (Listed p from ∷ xs) h = ids_more c d x xs h
ids_more c d x (Tail p from ∷ xs) h = ids_more c d x xs h
ids_more c d x (Prefix p a f ∷ xs) h = (omega (arith, h.0, extends_names c d x), ids_more c d x xs h.1)
ids_more c d x (Infix p a f l ∷ xs) h = (omega (arith, h.0, extends_names c d x), omega (arith, h.1, extends_length c d x), ids_more c d x xs h.2)

pub stack_kept : (c d : Contents) → IsPool c → Extends c d → (s : Stack) (ts : List TermId) → AreTerms c ts → (xs : List Item) → HaveIds c xs → stack_of d s ts xs ≡ stack_of c s ts xs
stack_kept c d v x s ts a [] h = refl
stack_kept c d v x s ts a (Parenthesis ∷ xs) h = ap paren (stack_kept c d v x s ts a xs h)
stack_kept c d v x s ts a (Curly p ∷ xs) h = ap (curly p) (stack_kept c d v x s ts a xs h)
stack_kept c d v x s ts a (Call p n from ∷ xs) h =
    rw (
      name_kept c d x n h.0,
      parts_kept c d v x (drop from ts) (All-drop (λ t. t.number < length c.entries) from ts a),
      stack_kept c d v x s (take from ts) (All-take (λ t. t.number < length c.entries) from ts a) xs h.1,
    ) refl
stack_kept c d v x s ts a (Listed p from ∷ xs) h =
    rw (
      parts_kept c d v x (drop from ts) (All-drop (λ t. t.number < length c.entries) from ts a),
      stack_kept c d v x s (take from ts) (All-take (λ t. t.number < length c.entries) from ts a) xs h,
    ) refl
stack_kept c d v x s ts a (Tail p from ∷ xs) h =
    rw (
      parts_kept c d v x (drop from ts) (All-drop (λ t. t.number < length c.entries) from ts a),
      stack_kept c d v x s (take from ts) (All-take (λ t. t.number < length c.entries) from ts a) xs h,
    ) refl
stack_kept c d v x s ts a (Prefix p n f ∷ xs) h = rw (name_kept c d x n h.0, stack_kept c d v x s ts a xs h.1) refl
stack_kept c d v x s ts a (Infix p n f l ∷ xs) h =
    rw (name_kept c d x n h.0, placed_kept c d v x l h.1, stack_kept c d v x s ts a xs h.2) refl

-- ---- nothing gives way

abbrev pub is_bracket : Item → Bool
is_bracket (Prefix p a f) = false
is_bracket (Infix p a f l) = false
is_bracket _ = true

stays_as : (below : Option ℕ) (c : Contents) (xs : List Item) (ys : List Item) → reverse xs ≡ ys
    → ((ts : List TermId) (done : List PlacedTerm) (q : ℕ) (t : PlacedTerm)
    → reduce below (stack_of c (top done) ts ys) q t ≡ record { stack = stack_of c (top done) ts ys; priority = q; term = t }) → Stays below c xs
stays_as below c xs ys e h ts done q t = subst (λ (zs : List Item). reduce below (stack_of c (top done) ts zs) q t ≡ record
    { stack = stack_of c (top done) ts zs; priority = q; term = t }) (sym e) (h ts done q t)

stays_none : (below : Option ℕ) (c : Contents) (xs : List Item) → xs ≡ [] → Stays below c xs
stays_none below c xs e = stays_as below c xs [] (ap reverse e) (λ ts done q t. refl)

bracket_stays : (below : Option ℕ) (c : Contents) (x : Item) (ys : List Item) → is_bracket x ≡ true → (ts : List TermId) (done : List PlacedTerm) (q : ℕ) (t : PlacedTerm)
    → reduce below (stack_of c (top done) ts (x ∷ ys)) q t ≡ record { stack = stack_of c (top done) ts (x ∷ ys); priority = q; term = t }
bracket_stays below c Parenthesis ys e ts done q t = refl
bracket_stays below c (Curly p) ys e ts done q t = refl
bracket_stays below c (Call p a from) ys e ts done q t = refl
bracket_stays below c (Listed p from) ys e ts done q t = refl
bracket_stays below c (Tail p from) ys e ts done q t = refl
bracket_stays below c (Prefix p a f) ys e ts done q t = absurd cc
bracket_stays below c (Infix p a f l) ys e ts done q t = absurd cc

stays_bracket : (below : Option ℕ) (c : Contents) (xs : List Item) (x : Item) → last_item xs ≡ Some x → is_bracket x ≡ true → Stays below c xs
stays_bracket below c xs x e h = stays_as below c xs (x ∷ reverse (front xs)) (turned xs x e) (bracket_stays below c x (reverse (front xs)) h)

stays_prefix : (below : Option ℕ) (c : Contents) (xs : List Item) (p : ℕ) (a : AtomId) (f : Operator) → last_item xs ≡ Some (Prefix p a f)
    → gives_way below (right_limit (nameless f)) ≡ false → Stays below c xs
stays_prefix below c xs p a f e h = stays_as below c xs (Prefix p a f ∷ reverse (front xs)) (turned xs (Prefix p a f) e) (λ ts done q t. rw h refl)

stays_infix : (below : Option ℕ) (c : Contents) (xs : List Item) (p : ℕ) (a : AtomId) (f : Operator) (l : TermId) → last_item xs ≡ Some (Infix p a f l)
    → gives_way below (right_limit (nameless f)) ≡ false → Stays below c xs
stays_infix below c xs p a f l e h = stays_as below c xs (Infix p a f l ∷ reverse (front xs)) (turned xs (Infix p a f l) e) (λ ts done q t. rw h refl)

-- nothing gives way where the last item is no operator
pub stays_no_operation : (below : Option ℕ) (c : Contents) (xs : List Item) → IsNoOperation (last_item xs) → Stays below c xs
stays_no_operation below c xs h = go (last_item xs) refl h
  where
    go : (o : Option Item) → last_item xs ≡ o → IsNoOperation o → Stays below c xs
    go None e k = stays_none below c xs (last_none xs e)
    go (Some Parenthesis) e k = stays_bracket below c xs Parenthesis e refl
    go (Some (Curly p)) e k = stays_bracket below c xs (Curly p) e refl
    go (Some (Call p a from)) e k = stays_bracket below c xs (Call p a from) e refl
    go (Some (Listed p from)) e k = stays_bracket below c xs (Listed p from) e refl
    go (Some (Tail p from)) e k = stays_bracket below c xs (Tail p from) e refl
    go (Some (Prefix p a f)) e k = absurd k
    go (Some (Infix p a f l)) e k = absurd k

-- nothing gives way where the last operator doesn't
pub stays_operation : (below : Option ℕ) (c : Contents) (xs : List Item) (o : Operation) (l : Option TermId) → last_item xs ≡ Some (item_of o l)
    → gives_way below (right_limit (nameless o.operator)) ≡ false → Stays below c xs
stays_operation below c xs o None e h = stays_prefix below c xs o.place o.name o.operator e h
stays_operation below c xs o (Some l) e h = stays_infix below c xs o.place o.name o.operator l e h

-- ---- one operator gives way

one_term : (c : Contents) (t : TermId) → t.number < length c.entries → AreTerms c (t ∷ [])
one_term c t h = All-from_recursion (λ u. u.number < length c.entries) (t ∷ []) (h, tt)

two_terms : (c : Contents) (s t : TermId) → s.number < length c.entries → t.number < length c.entries → AreTerms c (s ∷ t ∷ [])
two_terms c s t h k = All-from_recursion (λ u. u.number < length c.entries) (s ∷ t ∷ []) (h, (k, tt))

steps_prefix : (below : Option ℕ) (c d : Contents) (xs : List Item) (p : ℕ) (n : AtomId) (f : Operator) (s t : TermId) (q : ℕ)
    → last_item xs ≡ Some (Prefix p n f) → gives_way below (right_limit (nameless f)) ≡ true
    → IsPool c → HaveIds c (reverse xs) → Adds c d (comp (atom_name c n) p (parts_of c (s ∷ []))) t → Steps below c d xs (front xs) q f.priority s t
steps_prefix below c d xs p n f s t q e h v ids a =
    let ys = reverse (front xs) in
    let o = atom_name c n in
    let is = turned xs (Prefix p n f) e in
    let inner : HaveIds c (Prefix p n f ∷ ys) = subst (HaveIds c) is ids in
    record {
      same = λ ts terms done.
          let base = stack_of c (top done) ts ys in
          let whole : comp o p (one (placed_of c s)) ≡ placed_of d t = ap (comp o p) (sym (parts_of_one c s)) ∙ sym a.is in
          let stack_is : base ≡ stack_of d (top done) ts ys = sym (stack_kept c d v a.grows (top done) ts terms ys inner.1) in
          let first : reduce below (before p o (operator_of o f) base) q (placed_of c s) ≡ reduce below base f.priority (comp o p (one (placed_of c s))) = rw h refl in
          ap (λ (zs : List Item). reduce below (stack_of c (top done) ts zs) q (placed_of c s)) is
          ∙ first
          ∙ ap (λ (u : PlacedTerm). reduce below base f.priority u) whole
          ∙ ap (λ (u : Stack). reduce below u f.priority (placed_of d t)) stack_is;
      grows = a.grows;
      valid = a.valid;
      ids = ids_more c d a.grows ys inner.1;
      room = λ ts room. subst (HaveRoom ts) is room;
      operand = a.within;
    }

steps_infix : (below : Option ℕ) (c d : Contents) (xs : List Item) (p : ℕ) (n : AtomId) (f : Operator) (l s t : TermId) (q : ℕ)
    → last_item xs ≡ Some (Infix p n f l) → gives_way below (right_limit (nameless f)) ≡ true
    → IsPool c → HaveIds c (reverse xs) → Adds c d (comp (atom_name c n) p (parts_of c (l ∷ s ∷ []))) t → Steps below c d xs (front xs) q f.priority s t
steps_infix below c d xs p n f l s t q e h v ids a =
    let ys = reverse (front xs) in
    let o = atom_name c n in
    let is = turned xs (Infix p n f l) e in
    let inner : HaveIds c (Infix p n f l ∷ ys) = subst (HaveIds c) is ids in
    record {
      same = λ ts terms done.
          let base = stack_of c (top done) ts ys in
          let both = two (placed_of c l) (placed_of c s) in
          let whole : comp o p both ≡ placed_of d t = ap (comp o p) (sym (parts_of_two c l s)) ∙ sym a.is in
          let stack_is : base ≡ stack_of d (top done) ts ys = sym (stack_kept c d v a.grows (top done) ts terms ys inner.2) in
          let first : reduce below (between p (operator_of o f) (placed_of c l) base) q (placed_of c s) ≡ reduce below base f.priority (comp o p both) = rw h refl in
          ap (λ (zs : List Item). reduce below (stack_of c (top done) ts zs) q (placed_of c s)) is
          ∙ first
          ∙ ap (λ (u : PlacedTerm). reduce below base f.priority u) whole
          ∙ ap (λ (u : Stack). reduce below u f.priority (placed_of d t)) stack_is;
      grows = a.grows;
      valid = a.valid;
      ids = ids_more c d a.grows ys inner.2;
      room = λ ts room. subst (HaveRoom ts) is room;
      operand = a.within;
    }

-- the ids of the last item, where it is an operator
prefix_ids : (c : Contents) (xs : List Item) (p : ℕ) (n : AtomId) (f : Operator) → last_item xs ≡ Some (Prefix p n f) → HaveIds c (reverse xs) → n.number < length c.names
prefix_ids c xs p n f e ids = let inner : HaveIds c (Prefix p n f ∷ reverse (front xs)) = subst (HaveIds c) (turned xs (Prefix p n f) e) ids in inner.0

infix_ids : (c : Contents) (xs : List Item) (p : ℕ) (n : AtomId) (f : Operator) (l : TermId) → last_item xs ≡ Some (Infix p n f l) → HaveIds c (reverse xs)
    → (n.number < length c.names) × (l.number < length c.entries)
infix_ids c xs p n f l e ids = let inner : HaveIds c (Infix p n f l ∷ reverse (front xs)) = subst (HaveIds c) (turned xs (Infix p n f l) e) ids in (inner.0, inner.1)

-- the name and the operands of the last operator are the pool's
pub operation_ids : (c : Contents) (xs : List Item) (o : Operation) (l : Option TermId) (t : TermId) → last_item xs ≡ Some (item_of o l) → HaveIds c (reverse xs) → t.number < length c.entries
    → (o.name.number < length c.names) × AreTerms c (operands l t)
operation_ids c xs o None t e ids h = (prefix_ids c xs o.place o.name o.operator e ids, one_term c t h)
operation_ids c xs o (Some l) t e ids h = let k = infix_ids c xs o.place o.name o.operator l e ids in (k.0, two_terms c l t k.1 h)

-- the last operator takes its operand
pub steps_operation : (below : Option ℕ) (c d : Contents) (xs : List Item) (o : Operation) (l : Option TermId) (s t : TermId) (q : ℕ)
    → last_item xs ≡ Some (item_of o l) → gives_way below (right_limit (nameless o.operator)) ≡ true
    → IsPool c → HaveIds c (reverse xs) → Adds c d (comp (atom_name c o.name) o.place (parts_of c (operands l s))) t → Steps below c d xs (front xs) q o.operator.priority s t
steps_operation below c d xs o None s t q e h v ids a = steps_prefix below c d xs o.place o.name o.operator s t q e h v ids a
steps_operation below c d xs o (Some l) s t q e h v ids a = steps_infix below c d xs o.place o.name o.operator l s t q e h v ids a

pub steps_as : {below : Option ℕ} {c d : Contents} {xs ys zs : List Item} {q p : ℕ} {s t : TermId} → Steps below c d xs ys q p s t → zs ≡ ys → Steps below c d xs zs q p s t
steps_as {below = below} {c = c} {d = d} {xs = xs} {q = q} {p = p} {s = s} {t = t} h e = subst (λ (vs : List Item). Steps below c d xs vs q p s t) (sym e) h

pub steps_then : {below : Option ℕ} {c d e : Contents} {x y z : List Item} {q p r : ℕ} {s t u : TermId} → Steps below c d x y q p s t → Steps below d e y z p r t u → Steps below c e x z q r s u
steps_then {c = c} {d = d} {e = e} h k = record {
  same = λ ts terms done. h.same ts terms done ∙ k.same ts (terms_more c d h.grows ts terms) done;
  grows = extends_trans c d e h.grows k.grows;
  valid = k.valid;
  ids = k.ids;
  room = λ ts room. k.room ts (h.room ts room);
  operand = k.operand;
}
