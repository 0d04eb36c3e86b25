-- Code with the same listing stands for the same programs.
use Rattle.std.proofs.Common.{◌≡◌, ℕ, zero, suc, List, [], ◌∷◌, ◌++◌, map, refl, sym, ◌∙◌, ap, subst, inl, inr}
use Rattle.std.specs.Prelude.{◌≤◌, drop, length, codes, slice_index_or}
use Rattle.std.proofs.Common.{arith}
use Rattle.fd_language.specs.Term.{Name, Term, Terms, no_terms, term}
use Rattle.fd_language.specs.Range.{Range}
use Rattle.fd_language.specs.Spelling.{empty_range}
use Rattle.fd_language.specs.PostfixRanges.{nodes_of, spelled_range, spelled_range-nodes}
use Rattle.fd_language.specs.RangeRenaming.{rename_range}
use Rattle.fd_language.specs.Unifier.{Equation}
use Rattle.fd_language.specs.declared.range_node.RangeNode.{RangeNode}
use Rattle.fd_language.proofs.Lemmas.{renamed_twice}
use Rattle.fd_model.specs.Goal.{Goal, Clause, Query, Program, Post}
use Rattle.range_code.specs.Slots.{slots_of, in_slots}
use Rattle.term_pool.specs.Contents.{Entry as PoolEntry, name_in, first_names}
use Rattle.term_pool.specs.declared.TheConstants.{NIL, CONS, SPAN}
use Rattle.term_pool.specs.PoolInvariant.{IsPool}
use Rattle.wam_code.specs.declared.instruction.Code.{Code}
use Rattle.wam_code.specs.declared.instruction.Code.TheVariants.{GetVariable, GetValue, GetConstant, GetInteger, GetStructure, UnifyVariable, UnifyValue}
use Rattle.wam_code.specs.declared.instruction.Code.TheVariants.{UnifyConstant, UnifyInteger, UnifyVoid, PutVariable, PutValue, PutConstant, PutInteger}
use Rattle.wam_code.specs.declared.instruction.Code.TheVariants.{PutStructure, Allocate, Deallocate, Call, Execute, Proceed, Jump, FailNow, AnswerNow}
use Rattle.wam_code.specs.declared.instruction.Code.TheVariants.{TryMeElse, RetryMeElse, TrustMe, Try, Retry, Trust, SwitchOnTerm, SwitchOnConstant}
use Rattle.wam_code.specs.declared.instruction.Code.TheVariants.{SwitchOnInteger, SwitchOnStructure, Either, Builtin, Constrain, Label, Best, PostRange, Level}
use Rattle.wam_code.specs.declared.instruction.Code.TheVariants.{TestOnly, EnterTest, CutTo}
use Rattle.wam_code.specs.declared.instruction.Key.{Key}
use Rattle.wam_code.specs.declared.instruction.Key.TheVariants as key
use Rattle.wam_code.specs.declared.parts.Entry.{Entry}
use Rattle.wam_code.specs.Area.{Area, Span, Table}
use Rattle.wam_code.specs.Places.{Depth, Places}
use Rattle.wam_code.specs.CodeMeaning.{Rest, Rests, Caller, UnifyRule, Owed, HoldVars, PostRule, Takes, Equates, RuleWith, Steps, no_steps, more_steps, Within}
use Rattle.wam_code.specs.CodeMeaning.{Means}
use Rattle.wam_code.specs.Tries.{Shape, is_atom, is_integer, is_structure, IsClause, IsShape, Rows, TryRule, TriesWithin, IsPredicate, AreQueries}
use Rattle.wam_code.specs.Tries.{StandsForProgram}
use Rattle.code_listing.specs.Listing.{Sheet, IsSameCode}
use Rattle.listing_laws.proofs.SameRanges as ranges

-- ---- ranges

-- the ranges with each number are the same in slots
abbrev AreAlike : List Range → List Range → Type 0
AreAlike rs qs = (n : ℕ) → in_slots (slice_index_or rs n empty_range) ≡ in_slots (slice_index_or qs n empty_range)

of_nodes : (r q : Range) → nodes_of (in_slots r) ≡ nodes_of (in_slots q) → in_slots r ≡ in_slots q
of_nodes r q e = sym (spelled_range-nodes (in_slots r)) ∙ (ap spelled_range e ∙ spelled_range-nodes (in_slots q))

abbrev shown : Range → List RangeNode
shown r = nodes_of (in_slots r)

are_alike : (rs qs : List Range) → map shown rs ≡ map shown qs → AreAlike rs qs
are_alike [] [] e n = refl
are_alike [] (q ∷ qs) e n = absurd cc
are_alike (r ∷ rs) [] e n = absurd cc
are_alike (r ∷ rs) (q ∷ qs) e zero = let h : shown r ≡ shown q = cc in of_nodes r q h
are_alike (r ∷ rs) (q ∷ qs) e (suc n) = let h : map shown rs ≡ map shown qs = cc in are_alike rs qs h n

hold_vars : (p : Places) (f g : ℕ → ℕ) (i : ℕ) (ys : List ℕ) → HoldVars p i f (map g ys) → HoldVars p i (λ y. f (g y)) ys
hold_vars p f g i [] h = tt
hold_vars p f g i (y ∷ ys) h = (h.0, hold_vars p f g (suc i) ys h.1)

-- ---- two areas that differ in the terms of their pools and in their ranges' variables

abbrev area_by : List Name → List Code → List Table → List Entry → List Span → List PoolEntry → List Range → Area
area_by names is tables entries queries terms rs = record { pool = record { names = names; entries = terms }; code = is; tables = tables; ranges = rs; entries = entries; queries = queries }

module _ (names : List Name) (is : List Code) (tables : List Table) (entries : List Entry) (queries : List Span) (terms others : List PoolEntry) (rs qs : List Range) (alike : AreAlike rs qs) where
  abbrev pub A : Area
  A = area_by names is tables entries queries terms rs

  abbrev pub B : Area
  B = area_by names is tables entries queries others qs

  posts : (r : ℕ) (p : Places) (g : Goal) → PostRule A r p g → PostRule B r p g
  posts r p g h =
      let one = slice_index_or rs r empty_range in
      let other = slice_index_or qs r empty_range in
      let between = ranges.between one other (alike r) in
      let is_one : rename_range between other ≡ one = ranges.renamed one other (alike r) in
      let slots : slots_of one ≡ map between (slots_of other) = ap slots_of (sym is_one) ∙ ranges.slots_kept between (ranges.apart one other (alike r)) other in (
        h.0,
        λ y. h.1 (between y),
        λ x y e. ranges.apart one other (alike r) x y (h.2 _ _ e),
        h.3,
        hold_vars p h.1 between 2 (slots_of other) (subst (HoldVars p 2 h.1) slots h.4),
        h.5 ∙ ap (Post h.0) (ap (rename_range h.1) (sym is_one) ∙ renamed_twice h.1 between other),
      )

  unifies : (i : Code) (p : Places) (t : Term) (voids : ℕ) (q : Places) → UnifyRule A i p t voids q → UnifyRule B i p t voids q
  unifies (UnifyVariable r) p t voids q h = h
  unifies (UnifyValue r) p t voids q h = h
  unifies (UnifyConstant c) p t voids q h = h
  unifies (UnifyInteger z) p t voids q h = h
  unifies (UnifyVoid zero) p t voids q h = h
  unifies (UnifyVoid (suc n)) p t voids q h = h
  unifies _ p t voids q h = absurd h

  owes : (voids at : ℕ) (p : Places) (ts : Terms) (next : ℕ) (q : Places) → Owed A voids at p ts next q → Owed B voids at p ts next q
  owes voids at p no_terms next q h = h
  owes zero at p (term t ts) next q h = (h.0, h.1, h.2, h.3, unifies h.0 p t h.1 h.2 h.4, owes h.1 (suc at) h.2 ts next q h.5)
  owes (suc n) at p (term t ts) next q h = (h.0, h.1, h.2, owes n at _ ts next q h.3)

  equates : (p : Places) (a : ℕ) (s : Term) (es : List Equation) (F G : List Equation → Type 0) → ((ds : List Equation) → F ds → G ds) → Equates p a s es F → Equates p a s es G
  equates p a s es F G k h = (h.0, h.1, h.2, h.3, k _ h.4)

  abbrev Grows : Rest → Rest → Type 0
  Grows R S = (at : ℕ) (p : Places) (es : List Equation) (gs : List Goal) → R at p es gs → S at p es gs

  takes : (T U : Goal → Type 0) (R S : Rest) → ((g : Goal) → T g → U g) → Grows R S → (at : ℕ) (p : Places) (es : List Equation) (gs : List Goal) → Takes T R at p es gs → Takes U S at p es gs
  takes T U R S l k at p es gs h = (h.0, h.1, h.2, l h.0 h.3, h.4, h.5, h.6, k _ _ _ _ h.7)

  rules : (w : Caller) (R S : Rest) (T U : Rests) → Grows R S → ((d : Depth) → Grows (T d) (U d))
      → (i : Code) (at : ℕ) (p : Places) (es : List Equation) (gs : List Goal) → RuleWith A w R T i at p es gs → RuleWith B w S U i at p es gs
  rules w R S T U k l (GetVariable r a) at p es gs h = (h.0, h.1, equates p a _ es _ _ (λ ds. k _ _ ds gs) h.2)
  rules w R S T U k l (GetValue r a) at p es gs h = (h.0, h.1, equates p a _ es _ _ (λ ds. k _ _ ds gs) h.2)
  rules w R S T U k l (GetConstant c a) at p es gs h = equates p a _ es _ _ (λ ds. k _ _ ds gs) h
  rules w R S T U k l (GetInteger z a) at p es gs h = equates p a _ es _ _ (λ ds. k _ _ ds gs) h
  rules w R S T U k l (GetStructure f n a) at p es gs h = (h.0, h.1, h.2, (h.3.0, owes 0 (suc at) p h.0 h.1 h.2 h.3.1), equates p a _ es _ _ (λ ds. k _ _ ds gs) h.4)
  rules w R S T U k l (PutVariable r a) at p es gs h = (h.0, h.1, k _ _ _ _ h.2)
  rules w R S T U k l (PutValue r a) at p es gs h = (h.0, h.1, k _ _ _ _ h.2)
  rules w R S T U k l (PutConstant c a) at p es gs h = k _ _ _ _ h
  rules w R S T U k l (PutInteger z a) at p es gs h = k _ _ _ _ h
  rules w R S T U k l (PutStructure f n a) at p es gs h = (h.0, h.1, h.2, (h.3.0, owes 0 (suc at) _ h.0 h.1 h.2 h.3.1), k _ _ _ _ h.4)
  rules w R S T U k l (Allocate n) at p es gs h = k _ _ _ _ h
  rules w R S T U k l Deallocate at p es gs h = k _ _ _ _ h
  rules w R S T U k l (Call e) at p es gs h = takes _ _ R S (λ g t. t) k at _ es gs h
  rules w R S T U k l (Execute e) at p es gs h = h
  rules w R S T U k l Proceed at p es gs h = h
  rules w R S T U k l (Jump to) at p es gs h = k _ _ _ _ h
  rules w R S T U k l AnswerNow at p es gs h = h
  rules w R S T U k l (Either to) at p es gs h = (h.0, h.1, h.2, h.3, h.4, h.5, h.6, k _ _ _ _ h.7, k _ _ _ _ h.8)
  rules w R S T U k l (Builtin b) at p es gs h = takes _ _ R S (λ g t. t) k at p es gs h
  rules w R S T U k l (Constrain c) at p es gs h = takes _ _ R S (λ g t. t) k at p es gs h
  rules w R S T U k l (Label o) at p es gs h = takes _ _ R S (λ g t. t) k at p es gs h
  rules w R S T U k l (PostRange r n) at p es gs h = takes (PostRule A r p) (PostRule B r p) R S (posts r p) k at p es gs h
  rules w R S T U k l (Best o least) at p es gs h = takes _ _ R S (λ g t. t) k at p es gs h
  rules w R S T U k l (Level n) at p es gs h = (h.0, h.1, k _ _ _ _ h.2)
  rules w R S T U k l (TestOnly n) at p es gs h = (h.0, h.1, h.2, h.3, h.4, h.5, h.6, h.7, h.8, λ d. l d _ _ _ _ (h.9 d))
  rules w R S T U k l (EnterTest n m to) at p es gs h = (h.0, h.1, h.2, h.3, h.4, h.5, h.6, h.7, h.8, h.9, h.10, h.11, λ d. (let r = h.12 d in (l d _ _ _ _ r.0, l d _ _ _ _ r.1)))
  rules w R S T U k l (CutTo n) at p es gs h = (h.0, h.1, h.2, h.3, h.4, h.5, h.6, h.7, k _ _ _ _ h.8)
  rules w R S T U k l _ at p es gs h = absurd h

  within : (w : Caller) (s : Steps) → Grows (Within A w s) (Within B w s)
  within w no_steps at p es gs h = absurd h
  within w (more_steps n f) at p es gs (inl h) =
      inl (
        h.0,
        h.1,
        rules w (Within A w n) (Within B w n) (λ d. Within A w (f d)) (λ d. Within B w (f d)) (λ a q ds hs i. within w n a q ds hs i)
            (λ d a q ds hs i. within w (f d) a q ds hs i) h.0 at p es gs h.2,
      )
  within w (more_steps n f) at p es gs (inr (inl h)) = inr (inl (h.0, h.1, h.2, equates p h.0 _ es _ _ (λ ds. within w n at _ ds gs) h.3))
  within w (more_steps n f) at p es gs (inr (inr h)) = inr (inr (h.0, h.1, h.2, h.3, h.4, h.5, within w n at _ _ gs h.6))

  means : (w : Caller) → Grows (Means A w) (Means B w)
  means w at p es gs h = (h.0, within w h.0 at p es gs h.1)

  clause : (at : ℕ) (c : Clause) → IsClause A at c → IsClause B at c
  clause at c h n ts d after sh p count below hold noted before = means _ at p _ _ (h n ts d after sh p count below hold noted before)

  shape_there : (k : Key) (s : Shape) → IsShape A k s → IsShape B k s
  shape_there (key.Atom c) (is_atom a) h = h
  shape_there (key.Int z) (is_integer y) h = h
  shape_there (key.Struct c n) (is_structure f m) h = h
  shape_there _ _ h = absurd h

  shape_back : (k : Key) (s : Shape) → IsShape B k s → IsShape A k s
  shape_back (key.Atom c) (is_atom a) h = h
  shape_back (key.Int z) (is_integer y) h = h
  shape_back (key.Struct c n) (is_structure f m) h = h
  shape_back _ _ h = absurd h

  abbrev Sooner : Type 1
  Sooner = ℕ → List Clause → Type 0

  rows : (s : Shape) (R S : Sooner) → ((at : ℕ) (cs : List Clause) → R at cs → S at cs) → (table : Table) (cs : List Clause) → Rows A R s table cs → Rows B S s table cs
  rows s R S k [] cs h = h
  rows s R S k (row ∷ more) cs (inl h) = inl (shape_there row.0 s h.0, k _ _ h.1)
  rows s R S k (row ∷ more) cs (inr h) = inr (λ i. h.0 (shape_back row.0 s i), rows s R S k more cs h.1)

  tried : (s : Shape) (R S : Sooner) → ((at : ℕ) (cs : List Clause) → R at cs → S at cs) → (i : Code) (at : ℕ) (cs : List Clause) → TryRule A R s i at cs → TryRule B S s i at cs
  tried s R S k (TryMeElse to) at cs h = (h.0, h.1, h.2, k _ _ h.3, k _ _ h.4)
  tried s R S k (RetryMeElse to) at cs h = (h.0, h.1, h.2, k _ _ h.3, k _ _ h.4)
  tried s R S k TrustMe at cs h = k _ _ h
  tried s R S k (Try to) at cs h = (h.0, h.1, h.2, k _ _ h.3, k _ _ h.4)
  tried s R S k (Retry to) at cs h = (h.0, h.1, h.2, k _ _ h.3, k _ _ h.4)
  tried s R S k (Trust to) at cs h = k _ _ h
  tried s R S k (Jump to) at cs h = k _ _ h
  tried s R S k FailNow at cs h = h
  tried s R S k (SwitchOnTerm v c i t) at cs h = k _ _ h
  tried s R S k (SwitchOnConstant t) at cs h = rows s R S k (slice_index_or tables t []) cs h
  tried s R S k (SwitchOnInteger t) at cs h = rows s R S k (slice_index_or tables t []) cs h
  tried s R S k (SwitchOnStructure t) at cs h = rows s R S k (slice_index_or tables t []) cs h
  tried s R S k _ at cs h = (h.0, clause at h.0 h.1, h.2)

  tries_within : (s : Shape) (n at : ℕ) (cs : List Clause) → TriesWithin A s n at cs → TriesWithin B s n at cs
  tries_within s zero at cs h = absurd h
  tries_within s (suc n) at cs h = (h.0, h.1, tried s (TriesWithin A s n) (TriesWithin B s n) (tries_within s n) h.0 at cs h.2)

  predicate : (p : Program) (e : Entry) → IsPredicate A p e → IsPredicate B p e
  predicate p e h ts s count = let r = h ts s count in (r.0, r.1, (r.2.0, tries_within s r.2.0 e.at r.0 r.2.1))

  all_queries : (ps : List Query) (cs : List Span) → AreQueries A ps cs → AreQueries B ps cs
  all_queries [] [] h = h
  all_queries [] (c ∷ cs) h = absurd h
  all_queries (q ∷ ps) [] h = absurd h
  all_queries (q ∷ ps) (c ∷ cs) h =
      (record { names = h.0.names; shown = h.0.shown; means = λ p noted before. means _ c.at p _ _ (h.0.means p noted before) }, all_queries ps cs h.1)

  pub stands : (p : Program) → StandsForProgram A p → StandsForProgram B p
  stands p h = record { predicates = λ n e there. predicate p e (h.predicates n e there); queries = all_queries p.queries queries h.queries }

-- ---- from the listing

-- the first three names of every pool
begin_alike : (names : List Name) → 3 ≤ length names → name_in names NIL ≡ codes "[]" → name_in names CONS ≡ codes "." → name_in names SPAN ≡ codes ".." → names ≡ first_names ++ drop 3 names
begin_alike [] l e f g = absurd (omega (arith, l))
begin_alike (x ∷ []) l e f g = absurd (omega (arith, l))
begin_alike (x ∷ y ∷ []) l e f g = absurd (omega (arith, l))
begin_alike (x ∷ y ∷ z ∷ names) l e f g = ap (λ n. n ∷ y ∷ z ∷ names) e ∙ (ap (λ n. codes "[]" ∷ n ∷ z ∷ names) f ∙ ap (λ n. codes "[]" ∷ codes "." ∷ n ∷ names) g)

same_names : (a b : Area) → IsSameCode a b → IsPool a.pool → IsPool b.pool → a.pool.names ≡ b.pool.names
same_names a b e f g =
    let behind : drop 3 a.pool.names ≡ drop 3 b.pool.names = ap (λ (s : Sheet). s.atoms) e in
    begin_alike a.pool.names f.three f.nil f.cons f.span ∙ (ap (λ l. first_names ++ l) behind ∙ sym (begin_alike b.pool.names g.three g.nil g.cons g.span))

-- Code stands for the programs that code with the same listing stands for.
pub same_listing : (a b : Area) (p : Program) → IsSameCode a b → IsPool a.pool → IsPool b.pool → StandsForProgram a p → StandsForProgram b p
same_listing a b p e f g h =
    let names = same_names a b e f g in
    let is : a.code ≡ b.code = ap (λ (s : Sheet). s.code) e in
    let tables : a.tables ≡ b.tables = ap (λ (s : Sheet). s.tables) e in
    let entries : a.entries ≡ b.entries = ap (λ (s : Sheet). s.entries) e in
    let queries : a.queries ≡ b.queries = ap (λ (s : Sheet). s.queries) e in
    let shown_same : map shown a.ranges ≡ map shown b.ranges = ap (λ (s : Sheet). s.ranges) e in
    let by_parts : StandsForProgram (area_by a.pool.names a.code a.tables a.entries a.queries b.pool.entries b.ranges) p =
    stands a.pool.names a.code a.tables a.entries a.queries a.pool.entries b.pool.entries a.ranges b.ranges (are_alike a.ranges b.ranges shown_same) p h in
    subst (λ x. StandsForProgram (area_by x b.code b.tables b.entries b.queries b.pool.entries b.ranges) p) names
    (subst (λ x. StandsForProgram (area_by a.pool.names x b.tables b.entries b.queries b.pool.entries b.ranges) p) is
    (subst (λ x. StandsForProgram (area_by a.pool.names a.code x b.entries b.queries b.pool.entries b.ranges) p) tables
    (subst (λ x. StandsForProgram (area_by a.pool.names a.code a.tables x b.queries b.pool.entries b.ranges) p) entries
    (subst (λ x. StandsForProgram (area_by a.pool.names a.code a.tables a.entries x b.pool.entries b.ranges) p) queries by_parts))))
