-- What a token behind an operand, a name or an operator word makes.
use Rattle.std.proofs.Common.{◌≡◌, ℕ, ℤ, zero, suc, ◌-◌, ◌<◌, ◌≤◌, List, [], ◌∷◌, ◌++◌, length, take, drop, Option, Some, None, Bool, true, false, cond, refl}
use Rattle.std.proofs.Common.{sym, ap, subst, ◌∙◌, ◌⊎◌, inl, inr, arith, get_or, w64, SFits, ◌≢◌}
use Rattle.std.specs.Prelude.{reverse, pos, neg_ℤ, nat_le, ◌==◌, option_map, Result, Ok, Err, IfOk}
use Rattle.std.proofs.lemmas.List.{take_all, drop_all}
use Rattle.std.proofs.lemmas.Option.{slice_get-get_or}
use Rattle.std.proofs.lemmas.Bool.{le-leb, lt-leb}
use Rattle.fd_language.specs.Term.{Name}
use Rattle.fd_language.specs.PlacedTerm.{PlacedTerm, PlacedTerms, int, atom, comp, no_parts, one, two}
use Rattle.fd_language.specs.Operators.{right_limit, left_limit, infix_of, prefix_of}
use Rattle.fd_language.specs.Operators as model
use Rattle.fd_language.specs.Terminals as terminals
use Rattle.fd_language.specs.Terminals.{infix_operator, is_negated, is_tight_open, token_place}
use Rattle.fd_language.specs.Grammar.{nil_name, curly_name}
use Rattle.fd_language.specs.ReadingSteps as machine
use Rattle.fd_language.specs.ReadingSteps.{Stack, top, paren, args, items, tail, curly, before, between, State, want, at_list, at_curly_bracket, at_operator}
use Rattle.fd_language.specs.ReadingSteps.{after, Reduced, reduce, gives_way, limit, closed, lone, placed, attach, or_else, ended, behind_operand, called}
use Rattle.fd_language.specs.ReadingSteps.{wanted, begun, number_of, step}
use Rattle.term_pool.specs.declared.AtomId.{AtomId}
use Rattle.term_pool.specs.declared.TermId.{TermId}
use Rattle.term_pool.specs.declared.TheConstants.{NIL}
use Rattle.term_pool.specs.Contents.{Contents, atom_name}
use Rattle.term_pool.specs.Terms.{Extends}
use Rattle.term_pool.specs.PoolInvariant.{IsPool}
use Rattle.term_pool.proofs.Lemmas.{name_kept, extends_refl, extends_trans}
use Rattle.name_syntax.specs.declared.operators.Operator.{Operator}
use Rattle.name_syntax.specs.declared.operators.Roles.{Roles}
use Rattle.name_syntax.specs.Operators.{operator_of, nameless}
use Rattle.term_reader.specs.declared.parser.Terminal.{Terminal}
use Rattle.term_reader.specs.declared.parser.Terminal.TheVariants as tokens
use Rattle.term_reader.specs.declared.parser.Item.{Item}
use Rattle.term_reader.specs.declared.parser.Item.TheVariants.{Parenthesis, Curly, Call, List as Listed, Tail, Prefix, Infix}
use Rattle.term_reader.specs.declared.parser.Expecting.{Expecting}
use Rattle.term_reader.specs.declared.parser.Expecting.TheVariants as expect
use Rattle.term_reader.specs.declared.parser.Parser.{Parser}
use Rattle.term_pool.specs.PlacedTerms.{placed_of}
use Rattle.term_reader.specs.PlacedTerms.{parts_of, Adds}
use Rattle.term_reader.specs.View.{terminal_at, IsTerminal, IsOperatorWord, IsNamed, infix_name, stack_of, stack_over, stack, state, state_by, HaveRoom}
use Rattle.term_reader.specs.View.{IsWhole, IsExpecting, Moves, Steps, Stays, last_item, item_limit, closing_of, allows_lone, HasOperand, IsNegative}
use Rattle.term_reader.proofs.PlacedLaws.{placed_kept, extends_length, extends_names, parts_of_none}
use Rattle.term_reader.proofs.Stacks.{front, last_none, turned, turned_push, terms_more, ids_more, stack_kept}
use Rattle.term_reader.proofs.Moves.{whole_is, moves_not, moves_term, moves_same}

-- ---- outcomes

pub moves_from : (c d : Contents) (o u : List PlacedTerm → Option State) (r : Parser) (b : Bool) → Extends c d → ((done : List PlacedTerm) → u done ≡ o done) → Moves d o r b → Moves c u r b
moves_from c d o u r b x e m = record { is = λ done. e done ∙ m.is done; whole = m.whole; grows = λ t. extends_trans c d r.pool x (m.grows t) }

pub if_moves_from : {E : Type 0} (s : Result Bool E) (c d : Contents) (o u : List PlacedTerm → Option State) (r : Parser) → Extends c d
    → ((done : List PlacedTerm) → u done ≡ o done) → IfOk s (Moves d o r) → IfOk s (Moves c u r)
if_moves_from (Ok b) c d o u r x e m = moves_from c d o u r b x e m
if_moves_from (Err f) c d o u r x e m = tt

pub if_moves : {E : Type 0} (s : Result Bool E) (c : Contents) (o u : List PlacedTerm → Option State) (r : Parser)
    → ((done : List PlacedTerm) → u done ≡ o done) → IfOk s (Moves c o r) → IfOk s (Moves c u r)
if_moves s c o u r e m = if_moves_from s c c o u r (extends_refl c) e m

-- the same, where the outcome is stated for every place
pub if_places_from : {E : Type 0} (s : Result Bool E) (c d : Contents) (o u : ℕ → List PlacedTerm → Option State) (r : Parser) → Extends c d → ((p : ℕ) (done : List PlacedTerm) → u p done ≡ o p done)
    → IfOk s (λ b. (p : ℕ) → Moves d (o p) r b) → IfOk s (λ b. (p : ℕ) → Moves c (u p) r b)
if_places_from (Ok b) c d o u r x e m = λ p. moves_from c d (o p) (u p) r b x (e p) (m p)
if_places_from (Err f) c d o u r x e m = tt

pub if_place : {E : Type 0} (s : Result Bool E) (c : Contents) (o : ℕ → List PlacedTerm → Option State) (r : Parser) (p : ℕ) → IfOk s (λ b. (q : ℕ) → Moves c (o q) r b) → IfOk s (Moves c (o p) r)
if_place (Ok b) c o r p m = m p
if_place (Err f) c o r p m = tt

-- ---- a parser over a pool that has grown

pub terminal_kept : (c d : Contents) → Extends c d → (x : Terminal) → IsTerminal c x → (p : ℕ) → terminal_at d p x ≡ terminal_at c p x
terminal_kept c d e (tokens.Name a) h p = ap (λ (n : Name). terminals.name p n) (name_kept c d e a h)
terminal_kept c d e (tokens.OperatorWord a r) h p = ap (λ (n : Name). terminals.operator_word p n) (name_kept c d e a h.own)
terminal_kept c d e _ h p = refl

pub word_more : (c d : Contents) → Extends c d → (a : AtomId) (r : Roles) → IsOperatorWord c a r → IsOperatorWord d a r
word_more c d e a r h =
    let same : atom_name c a ≡ atom_name d a = sym (name_kept c d e a h.own) in
    record {
      own = omega (arith, h.own, extends_names c d e);
      between = subst (λ (n : Name). option_map (operator_of n) r.infix ≡ infix_of n) same h.between;
      before = subst (λ (n : Name). option_map (operator_of n) r.prefix ≡ prefix_of n) same h.before;
    }

pub is_terminal_more : (c d : Contents) → Extends c d → (x : Terminal) → IsTerminal c x → IsTerminal d x
is_terminal_more c d e (tokens.Name a) h = omega (arith, h, extends_names c d e)
is_terminal_more c d e (tokens.OperatorWord a r) h = word_more c d e a r h
is_terminal_more c d e (tokens.Integer tight z) h = h
is_terminal_more c d e _ h = tt

expecting_more : (c d : Contents) → Extends c d → (e : Expecting) → IsExpecting c e → IsExpecting d e
expecting_more c d x expect.Operand h = tt
expecting_more c d x (expect.BehindOpenList p) h = tt
expecting_more c d x (expect.BehindOpenCurly p) h = tt
expecting_more c d x (expect.BehindOperator p a r) h = word_more c d x a r h
expecting_more c d x (expect.BehindName p a) h = omega (arith, h, extends_names c d x)
expecting_more c d x (expect.BehindOperand t) h = omega (arith, h, extends_length c d x)

pub whole_grown : (r r1 : Parser) → IsWhole r → Extends r.pool r1.pool → IsPool r1.pool → r1.arguments ≡ r.arguments → r1.items ≡ r.items → r1.expecting ≡ r.expecting → IsWhole r1
whole_grown r r1 w x v e1 e2 e3 =
    whole_is {c = r.pool} {r = r1} {ts = r.arguments.items} {ys = reverse r.items.items} {e = r.expecting}
    (record {
      arguments = rw e1 refl;
      items = rw e2 refl;
      expecting = e3;
      grows = x;
      valid = v;
      terms = terms_more r.pool r1.pool x r.arguments.items w.arguments;
      ids = ids_more r.pool r1.pool x (reverse r.items.items) w.ids;
      room = w.room;
      stands = expecting_more r.pool r1.pool x r.expecting w.expecting;
    })

pub stack_grown : (r r1 : Parser) → IsWhole r → Extends r.pool r1.pool → r1.arguments ≡ r.arguments → r1.items ≡ r.items → (done : List PlacedTerm) → stack r1 done ≡ stack r done
stack_grown r r1 w x e1 e2 done =
    rw (e1, e2) (stack_kept r.pool r1.pool w.pool x (top done) r.arguments.items w.arguments (reverse r.items.items) w.ids)

-- ---- a parser whose operators have taken their operands

pub whole_reduced : {below : Option ℕ} {q p : ℕ} {s t : TermId} (r r1 : Parser) → IsWhole r → Steps below r.pool r1.pool r.items.items r1.items.items q p s t
    → r1.arguments ≡ r.arguments → r1.expecting ≡ r.expecting → IsWhole r1
whole_reduced r r1 w k e1 e3 =
    whole_is {c = r.pool} {r = r1} {ts = r.arguments.items} {ys = reverse r1.items.items} {e = r.expecting}
    (record {
      arguments = rw e1 refl;
      items = refl;
      expecting = e3;
      grows = k.grows;
      valid = k.valid;
      terms = terms_more r.pool r1.pool k.grows r.arguments.items w.arguments;
      ids = k.ids;
      room = k.room r.arguments.items w.room;
      stands = expecting_more r.pool r1.pool k.grows r.expecting w.expecting;
    })

-- what reducing comes to
pub reduced_is : (below : Option ℕ) (q p : ℕ) (s t : TermId) (r r1 : Parser) → IsWhole r → Steps below r.pool r1.pool r.items.items r1.items.items q p s t
    → Stays below r1.pool r1.items.items → r1.arguments ≡ r.arguments
    → (done : List PlacedTerm) → reduce below (stack r done) q (placed_of r.pool s) ≡ record { stack = stack r1 done; priority = p; term = placed_of r1.pool t }
reduced_is below q p s t r r1 w k n e done =
    k.same r.arguments.items w.arguments done
    ∙ n r.arguments.items done p (placed_of r1.pool t)
    ∙ ap (λ (ts : List TermId). record { stack = stack_over r1.pool r1.items.items ts done; priority = p; term = placed_of r1.pool t }) (rw e refl)

pub moves_end_operand : {E : Type 0} (res : Result Bool E) (q p : ℕ) (s t : TermId) (x : Terminal) (r r1 r2 : Parser) → IsWhole r → IsTerminal r.pool x
    → Steps None r.pool r1.pool r.items.items r1.items.items q p s t → Stays None r1.pool r1.items.items → r1.arguments ≡ r.arguments
    → IfOk res (λ b. (at : ℕ) → Moves r1.pool (λ done. closed (stack r1 done) (placed_of r1.pool t) (terminal_at r1.pool at x)) r2 b)
    → IfOk res (λ b. (at : ℕ) → Moves r.pool (λ done. ended (reduce None (stack r done) q (placed_of r.pool s)) (terminal_at r.pool at x)) r2 b)
moves_end_operand res q p s t x r r1 r2 w h k n e m =
    if_places_from res r.pool r1.pool (λ at done. closed (stack r1 done) (placed_of r1.pool t) (terminal_at r1.pool at x))
    (λ at done. ended (reduce None (stack r done) q (placed_of r.pool s)) (terminal_at r.pool at x)) r2 k.grows
    (λ at done. ap (λ (d : Reduced). ended d (terminal_at r.pool at x)) (reduced_is None q p s t r r1 w k n e done)
    ∙ ap (λ (y : terminals.Terminal). closed (stack r1 done) (placed_of r1.pool t) y) (sym (terminal_kept r.pool r1.pool k.grows x h at)))
    m

-- ---- an operator between two operands

-- reducing further goes on from where it stopped
pub reduce_further : (n : Option ℕ) (s : Stack) (q : ℕ) (t : PlacedTerm) → reduce None s q t ≡ reduce None (reduce n s q t).stack (reduce n s q t).priority (reduce n s q t).term
reduce_further n (top ts) q t = refl
reduce_further n (paren s) q t = refl
reduce_further n (args p a xs s) q t = refl
reduce_further n (items p xs s) q t = refl
reduce_further n (tail p xs s) q t = refl
reduce_further n (curly p s) q t = refl
reduce_further n (before p o f s) q t = go (gives_way n (right_limit f)) (reduce_further n s f.priority taken)
  where
    taken : PlacedTerm
    taken = comp o p (one t)

    go : (b : Bool) → reduce None s f.priority taken ≡ reduce None (reduce n s f.priority taken).stack (reduce n s f.priority taken).priority
        (reduce n s f.priority taken).term → reduce None s f.priority taken
        ≡ reduce None (cond b (reduce n s f.priority taken) (record { stack = before p o f s; priority = q; term = t })).stack
        (cond b (reduce n s f.priority taken) (record { stack = before p o f s; priority = q; term = t })).priority
        (cond b (reduce n s f.priority taken) (record { stack = before p o f s; priority = q; term = t })).term
    go true e = e
    go false e = refl
reduce_further n (between p f a s) q t = go (gives_way n (right_limit f)) (reduce_further n s f.priority taken)
  where
    taken : PlacedTerm
    taken = comp f.name p (two a t)

    go : (b : Bool) → reduce None s f.priority taken ≡ reduce None (reduce n s f.priority taken).stack (reduce n s f.priority taken).priority
        (reduce n s f.priority taken).term → reduce None s f.priority taken
        ≡ reduce None (cond b (reduce n s f.priority taken) (record { stack = between p f a s; priority = q; term = t })).stack
        (cond b (reduce n s f.priority taken) (record { stack = between p f a s; priority = q; term = t })).priority
        (cond b (reduce n s f.priority taken) (record { stack = between p f a s; priority = q; term = t })).term
    go true e = e
    go false e = refl

head_limit : (c : Contents) (done : List PlacedTerm) (ts : List TermId) (y : Item) (ys : List Item) → limit (stack_of c (top done) ts (y ∷ ys)) ≡ item_limit (Some y)
head_limit c done ts Parenthesis ys = refl
head_limit c done ts (Curly p) ys = refl
head_limit c done ts (Call p a n) ys = refl
head_limit c done ts (Listed p n) ys = refl
head_limit c done ts (Tail p n) ys = refl
head_limit c done ts (Prefix p a f) ys = refl
head_limit c done ts (Infix p a f l) ys = refl

pub limit_is : (r : Parser) (o : Option Item) → last_item r.items.items ≡ o → (done : List PlacedTerm) → limit (stack r done) ≡ item_limit o
limit_is r None e done = ap (λ (zs : List Item). limit (stack_of r.pool (top done) r.arguments.items (reverse zs))) (last_none r.items.items e)
limit_is r (Some y) e done =
    ap (λ (zs : List Item). limit (stack_of r.pool (top done) r.arguments.items zs)) (turned r.items.items y e)
    ∙ head_limit r.pool done r.arguments.items y (reverse (front r.items.items))

infix_place : (c : Contents) (p : ℕ) (x : Terminal) (f : model.Operator) → infix_operator (terminal_at c p x) ≡ Some f → token_place (terminal_at c p x) ≡ p
infix_place c p (tokens.OperatorWord a r) f e = refl
infix_place c p tokens.Comma f e = refl
infix_place c p _ f e = absurd cc

placed_yes : (p : ℕ) (f : model.Operator) (d : Reduced) (n : ℕ) → limit d.stack ≡ n → f.priority ≤ n → d.priority ≤ left_limit f → placed p f d ≡ Some (want (between p f d.term d.stack))
placed_yes p f d n e h k = rw (le-leb f.priority (limit d.stack) (omega (arith, h, e)), le-leb d.priority (left_limit f) k) refl

placed_no : (p : ℕ) (f : model.Operator) (d : Reduced) (n : ℕ) → limit d.stack ≡ n → (n < f.priority) ⊎ (left_limit f < d.priority) → placed p f d ≡ None
placed_no p f d n e (inl h) = rw (lt-leb f.priority (limit d.stack) (omega (arith, h, e))) refl
placed_no p f d n e (inr h) = both (nat_le f.priority (limit d.stack)) (cond (nat_le d.priority (left_limit f)) (Some (want (between p f d.term d.stack))) None)
    (rw (lt-leb d.priority (left_limit f) h) refl)
  where
    both : (b : Bool) (x : Option State) → x ≡ None → cond b x None ≡ None
    both true x z = z
    both false x z = refl

-- the name of an operator stays
infix_kept : (c d : Contents) → Extends c d → (x : Terminal) → IsTerminal c x → infix_name d x ≡ infix_name c x
infix_kept c d e (tokens.OperatorWord a r) h = name_kept c d e a h.own
infix_kept c d e _ h = refl

pub named_from : (b c d : Contents) (x : Terminal) (a : AtomId) → Extends b c → IsTerminal b x → IsNamed c d (infix_name c x) a → IsNamed c d (infix_name b x) a
named_from b c d x a e h g = subst (λ (n : Name). IsNamed c d n a) (infix_kept b c e x h) g

-- the parser r3 has the operator's atom besides what r1 has, and r2 the operator on top of it
pub moves_attach : (p place : ℕ) (f : Operator) (a : AtomId) (s t : TermId) (x : Terminal) (r r1 r3 r2 : Parser) → IsWhole r
    → Steps (Some f.priority) r.pool r1.pool r.items.items r1.items.items 0 p s t → Stays (Some f.priority) r1.pool r1.items.items → r1.arguments ≡ r.arguments
    → r1.expecting ≡ r.expecting
    → infix_operator (terminal_at r.pool place x) ≡ Some (operator_of (infix_name r.pool x) f) → f.priority ≤ item_limit (last_item r1.items.items) → p ≤ left_limit (nameless f)
    → IsNamed r1.pool r3.pool (infix_name r.pool x) a → r3.arguments ≡ r1.arguments → r3.items ≡ r1.items → r3.expecting ≡ r1.expecting
    → r2.pool ≡ r3.pool → r2.arguments ≡ r3.arguments → r2.items.items ≡ r3.items.items ++ Infix place a f t ∷ [] → r2.expecting ≡ expect.Operand
    → Moves r.pool (λ done. behind_operand (stack r done) (placed_of r.pool s) (terminal_at r.pool place x)) r2 true
moves_attach p place f a s t x r r1 r3 r2 w k n e e' is h l g g1 g2 g3 e0 e1 e2 e3 =
    let w1 = whole_reduced r r1 w k e e' in
    let w3 = whole_grown r1 r3 w1 g.grows g.valid g1 g2 g3 in
    let tok = terminal_at r.pool place x in
    let o : model.Operator = operator_of (infix_name r.pool x) f in
    moves_from r.pool r3.pool (λ done. Some (want (between place (operator_of (atom_name r3.pool a) f) (placed_of r3.pool t) (stack r3 done))))
    (λ done. behind_operand (stack r done) (placed_of r.pool s) tok) r2 true
    (extends_trans r.pool r1.pool r3.pool k.grows g.grows)
    (λ done.
    let d : Reduced = record { stack = stack r1 done; priority = p; term = placed_of r1.pool t } in
    ap (λ (u : Option model.Operator). or_else (attach (token_place tok) u (stack r done) (placed_of r.pool s)) (ended (reduce None (stack r done) 0 (placed_of r.pool s)) tok)) is
    ∙ ap (λ (u : Reduced). or_else (placed (token_place tok) o u) (ended (reduce None (stack r done) 0 (placed_of r.pool s)) tok)) (reduced_is (Some f.priority) 0 p s t r r1 w k n e done)
    ∙ ap (λ (q : ℕ). or_else (placed q o d) (ended (reduce None (stack r done) 0 (placed_of r.pool s)) tok)) (infix_place r.pool place x o is)
    ∙ ap (λ (u : Option State). or_else u (ended (reduce None (stack r done) 0 (placed_of r.pool s)) tok))
    (placed_yes place o d (item_limit (last_item r1.items.items)) (limit_is r1 (last_item r1.items.items) refl done) h l)
    ∙ ap (λ (m : Name). Some (want (between place (operator_of m f) (placed_of r1.pool t) (stack r1 done)))) (sym g.is)
    ∙ ap (λ (u : PlacedTerm). Some (want (between place (operator_of (atom_name r3.pool a) f) u (stack r1 done)))) (sym (placed_kept r1.pool r3.pool k.valid g.grows t k.operand))
    ∙ ap (λ (u : Stack). Some (want (between place (operator_of (atom_name r3.pool a) f) (placed_of r3.pool t) u))) (sym (stack_grown r1 r3 w1 g.grows g1 g2 done)))
    (moves_same r3.pool r2 r3.arguments.items (Infix place a f t ∷ reverse r3.items.items) expect.Operand
    (λ done. Some (want (between place (operator_of (atom_name r3.pool a) f) (placed_of r3.pool t) (stack r3 done)))) e0 w3.pool w3.arguments
    (g.own, omega (arith, k.operand, extends_length r1.pool r3.pool g.grows), w3.ids) w3.room tt
    (rw e1 refl) (ap reverse e2 ∙ turned_push r3.items.items (Infix place a f t)) e3 (λ done. refl))

pub moves_attach_not : {E : Type 0} (res : Result Bool E) (p place : ℕ) (f : Operator) (s t : TermId) (x : Terminal) (r r1 r2 : Parser) → IsWhole r
    → IsTerminal r.pool x → Steps (Some f.priority) r.pool r1.pool r.items.items r1.items.items 0 p s t → Stays (Some f.priority) r1.pool r1.items.items
    → r1.arguments ≡ r.arguments
    → infix_operator (terminal_at r.pool place x) ≡ Some (operator_of (infix_name r.pool x) f) → (item_limit (last_item r1.items.items) < f.priority) ⊎ (left_limit (nameless f) < p)
    → IfOk res (λ b. (at : ℕ) → Moves r1.pool (λ done. ended (reduce None (stack r1 done) p (placed_of r1.pool t)) (terminal_at r1.pool at x)) r2 b)
    → IfOk res (Moves r.pool (λ done. behind_operand (stack r done) (placed_of r.pool s) (terminal_at r.pool place x)) r2)
moves_attach_not res p place f s t x r r1 r2 w h k n e is lacks m =
    let tok = terminal_at r.pool place x in
    let o : model.Operator = operator_of (infix_name r.pool x) f in
    if_moves_from res r.pool r1.pool (λ done. ended (reduce None (stack r1 done) p (placed_of r1.pool t)) (terminal_at r1.pool place x))
    (λ done. behind_operand (stack r done) (placed_of r.pool s) tok) r2 k.grows
    (λ done.
    let d : Reduced = record { stack = stack r1 done; priority = p; term = placed_of r1.pool t } in
    let comes = reduced_is (Some f.priority) 0 p s t r r1 w k n e done in
    ap (λ (u : Option model.Operator). or_else (attach (token_place tok) u (stack r done) (placed_of r.pool s)) (ended (reduce None (stack r done) 0 (placed_of r.pool s)) tok)) is
    ∙ ap (λ (u : Reduced). or_else (placed (token_place tok) o u) (ended (reduce None (stack r done) 0 (placed_of r.pool s)) tok)) comes
    ∙ ap (λ (u : Option State). or_else u (ended (reduce None (stack r done) 0 (placed_of r.pool s)) tok))
    (placed_no (token_place tok) o d (item_limit (last_item r1.items.items)) (limit_is r1 (last_item r1.items.items) refl done) lacks)
    ∙ ap (λ (u : Reduced). ended u tok) (reduce_further (Some f.priority) (stack r done) 0 (placed_of r.pool s) ∙ ap (λ (u : Reduced). reduce None u.stack u.priority u.term) comes)
    ∙ ap (λ (y : terminals.Terminal). ended (reduce None (stack r1 done) p (placed_of r1.pool t)) y) (sym (terminal_kept r.pool r1.pool k.grows x h place)))
    (if_place res r1.pool (λ at done. ended (reduce None (stack r1 done) p (placed_of r1.pool t)) (terminal_at r1.pool at x)) r2 place m)

pub moves_no_infix : {E : Type 0} (res : Result Bool E) (place : ℕ) (s : TermId) (x : Terminal) (r r2 : Parser) → infix_operator (terminal_at r.pool place x) ≡ None
    → IfOk res (λ b. (at : ℕ) → Moves r.pool (λ done. ended (reduce None (stack r done) 0 (placed_of r.pool s)) (terminal_at r.pool at x)) r2 b)
    → IfOk res (Moves r.pool (λ done. behind_operand (stack r done) (placed_of r.pool s) (terminal_at r.pool place x)) r2)
moves_no_infix res place s x r r2 is m =
    let tok = terminal_at r.pool place x in
    if_moves res r.pool (λ done. ended (reduce None (stack r done) 0 (placed_of r.pool s)) tok) (λ done. behind_operand (stack r done) (placed_of r.pool s) tok) r2
    (λ done. ap (λ (o : Option model.Operator). or_else (attach (token_place tok) o (stack r done) (placed_of r.pool s)) (ended (reduce None (stack r done) 0 (placed_of r.pool s)) tok)) is)
    (if_place res r.pool (λ at done. ended (reduce None (stack r done) 0 (placed_of r.pool s)) (terminal_at r.pool at x)) r2 place m)

pub not_infix : (n : Name) (o : Option Operator) (u : Option model.Operator) → option_map (operator_of n) o ≡ u → o ≡ None → u ≡ None
not_infix n o u e h = sym e ∙ ap (option_map (operator_of n)) h

-- ---- calls and prefix operators

pub moves_begin_call : (r r2 : Parser) (p from : ℕ) (a : AtomId) → IsWhole r → a.number < length r.pool.names → from ≡ length r.arguments.items
    → r2.pool ≡ r.pool → r2.arguments.items ≡ r.arguments.items → r2.items.items ≡ r.items.items ++ Call p a from ∷ [] → r2.expecting ≡ expect.Operand
    → Moves r.pool (λ done. Some (want (args p (atom_name r.pool a) no_parts (stack r done)))) r2 true
moves_begin_call r r2 p from a w h e e0 e1 e2 e3 =
    let ts = r.arguments.items in
    let ys = reverse r.items.items in
    let all : take from ts ≡ ts = take_all from ts (omega (arith, e)) in
    moves_same r.pool r2 ts (Call p a from ∷ ys) expect.Operand (λ done. Some (want (args p (atom_name r.pool a) no_parts (stack r done)))) e0
    w.pool w.arguments (h, w.ids) (omega (arith, e), subst (λ (us : List TermId). HaveRoom us ys) (sym all) w.room) tt
    e1 (ap reverse e2 ∙ turned_push r.items.items (Call p a from)) e3
    (λ done. ap (λ (xs : PlacedTerms). Some (want (args p (atom_name r.pool a) xs (stack r done)))) (sym (ap (parts_of r.pool) (drop_all from ts (omega (arith, e))) ∙ parts_of_none r.pool))
    ∙ ap (λ (us : List TermId). Some (want (args p (atom_name r.pool a) (parts_of r.pool (drop from ts)) (stack_of r.pool (top done) us ys)))) (sym all))

pub stack_begins_list : (r r1 : Parser) (p from : ℕ) → from ≡ length r.arguments.items → r1.pool ≡ r.pool → r1.arguments.items ≡ r.arguments.items
    → r1.items.items ≡ r.items.items ++ Listed p from ∷ [] → (done : List PlacedTerm) → stack r1 done ≡ items p no_parts (stack r done)
stack_begins_list r r1 p from e e0 e1 e2 done =
    let ts = r.arguments.items in
    let ys = reverse r.items.items in
    ap (λ (us : List TermId). stack_of r1.pool (top done) us (reverse r1.items.items)) e1
    ∙ ap (λ (zs : List Item). stack_of r1.pool (top done) ts zs) (ap reverse e2 ∙ turned_push r.items.items (Listed p from))
    ∙ ap (λ (c : Contents). stack_of c (top done) ts (Listed p from ∷ ys)) e0
    ∙ ap (λ (xs : PlacedTerms). items p xs (stack_of r.pool (top done) (take from ts) ys)) (ap (parts_of r.pool) (drop_all from ts (omega (arith, e))) ∙ parts_of_none r.pool)
    ∙ ap (λ (us : List TermId). items p no_parts (stack_of r.pool (top done) us ys)) (take_all from ts (omega (arith, e)))

pub stack_begins_curly : (r r1 : Parser) (p : ℕ) → r1.pool ≡ r.pool → r1.arguments.items ≡ r.arguments.items → r1.items.items ≡ r.items.items ++ Curly p ∷ []
    → (done : List PlacedTerm) → stack r1 done ≡ curly p (stack r done)
stack_begins_curly r r1 p e0 e1 e2 done =
    ap (λ (us : List TermId). stack_of r1.pool (top done) us (reverse r1.items.items)) e1
    ∙ ap (λ (zs : List Item). stack_of r1.pool (top done) r.arguments.items zs) (ap reverse e2 ∙ turned_push r.items.items (Curly p))
    ∙ ap (λ (c : Contents). stack_of c (top done) r.arguments.items (Curly p ∷ reverse r.items.items)) e0

pub stack_prefixed : (r r1 : Parser) (p : ℕ) (a : AtomId) (f : Operator) → r1.pool ≡ r.pool → r1.arguments.items ≡ r.arguments.items
    → r1.items.items ≡ r.items.items ++ Prefix p a f ∷ [] → (done : List PlacedTerm)
    → stack r1 done ≡ before p (atom_name r.pool a) (operator_of (atom_name r.pool a) f) (stack r done)
stack_prefixed r r1 p a f e0 e1 e2 done =
    ap (λ (us : List TermId). stack_of r1.pool (top done) us (reverse r1.items.items)) e1
    ∙ ap (λ (zs : List Item). stack_of r1.pool (top done) r.arguments.items zs) (ap reverse e2 ∙ turned_push r.items.items (Prefix p a f))
    ∙ ap (λ (c : Contents). stack_of c (top done) r.arguments.items (Prefix p a f ∷ reverse r.items.items)) e0

pub moves_prefix : {E : Type 0} (res : Result Bool E) (r r1 r2 : Parser) (at place : ℕ) (a : AtomId) (f : Operator) (x : Terminal)
    → prefix_of (atom_name r.pool a) ≡ Some (operator_of (atom_name r.pool a) f) → f.priority ≤ item_limit (last_item r.items.items)
    → r1.pool ≡ r.pool → r1.arguments.items ≡ r.arguments.items → r1.items.items ≡ r.items.items ++ Prefix at a f ∷ []
    → IfOk res (Moves r.pool (λ done. wanted (stack r1 done) (terminal_at r.pool place x)) r2)
    → IfOk res (Moves r.pool (λ done. begun at (atom_name r.pool a) (prefix_of (atom_name r.pool a)) (stack r done) (terminal_at r.pool place x)) r2)
moves_prefix res r r1 r2 at place a f x is h e0 e1 e2 m =
    let n = atom_name r.pool a in
    let tok = terminal_at r.pool place x in
    if_moves res r.pool (λ done. wanted (stack r1 done) tok) (λ done. begun at n (prefix_of n) (stack r done) tok) r2
    (λ done. ap (λ (o : Option model.Operator). begun at n o (stack r done) tok) is
    ∙ ap (λ (b : Bool). cond b (wanted (before at n (operator_of n f) (stack r done)) tok) None)
    (le-leb f.priority (limit (stack r done)) (omega (arith, h, limit_is r (last_item r.items.items) refl done)))
    ∙ ap (λ (s : Stack). wanted s tok) (sym (stack_prefixed r r1 at a f e0 e1 e2 done)))
    m

pub moves_prefix_not : (r r2 : Parser) (at place : ℕ) (a : AtomId) (f : Operator) (x : Terminal)
    → prefix_of (atom_name r.pool a) ≡ Some (operator_of (atom_name r.pool a) f) → item_limit (last_item r.items.items) < f.priority
    → Moves r.pool (λ done. begun at (atom_name r.pool a) (prefix_of (atom_name r.pool a)) (stack r done) (terminal_at r.pool place x)) r2 false
moves_prefix_not r r2 at place a f x is h =
    let n = atom_name r.pool a in
    let tok = terminal_at r.pool place x in
    moves_not r.pool (λ done. begun at n (prefix_of n) (stack r done) tok) r2
    (λ done. ap (λ (o : Option model.Operator). begun at n o (stack r done) tok) is
    ∙ ap (λ (b : Bool). cond b (wanted (before at n (operator_of n f) (stack r done)) tok) None)
    (lt-leb f.priority (limit (stack r done)) (omega (arith, h, limit_is r (last_item r.items.items) refl done))))

-- ---- an operator word where an operand was wanted

lone_head : (c : Contents) (done : List PlacedTerm) (ts : List TermId) (y : Item) (ys : List Item) (p : ℕ) (x : Terminal)
    → lone (stack_of c (top done) ts (y ∷ ys)) (terminal_at c p x) ≡ allows_lone (closing_of (Some y) x)
lone_head c done ts Parenthesis ys p tokens.Close = refl
lone_head c done ts (Curly q) ys p tokens.CloseCurly = refl
lone_head c done ts (Call q a n) ys p tokens.Close = refl
lone_head c done ts (Call q a n) ys p tokens.Comma = refl
lone_head c done ts (Listed q n) ys p tokens.Comma = refl
lone_head c done ts (Listed q n) ys p tokens.CloseList = refl
lone_head c done ts (Listed q n) ys p tokens.Bar = refl
lone_head c done ts (Tail q n) ys p tokens.CloseList = refl
lone_head c done ts _ ys p _ = refl

pub lone_is : (r : Parser) (p : ℕ) (x : Terminal) (o : Option Item) → last_item r.items.items ≡ o → (done : List PlacedTerm)
    → lone (stack r done) (terminal_at r.pool p x) ≡ allows_lone (closing_of o x)
lone_is r p x None e done = ap (λ (zs : List Item). lone (stack_of r.pool (top done) r.arguments.items (reverse zs)) (terminal_at r.pool p x)) (last_none r.items.items e)
lone_is r p x (Some y) e done =
    ap (λ (zs : List Item). lone (stack_of r.pool (top done) r.arguments.items zs) (terminal_at r.pool p x)) (turned r.items.items y e)
    ∙ lone_head r.pool done r.arguments.items y (reverse (front r.items.items)) p x

-- the machine's step, by its three tests
operator_step : (at : ℕ) (n : Name) (s : Stack) (x : terminals.Terminal) (b1 b2 b3 : Bool) → is_tight_open x ≡ b1 → is_negated n x ≡ b2 → lone s x ≡ b3
    → step (at_operator at n s) x ≡ cond b1 (Some (want (args at n no_parts s)))
    (cond b2 (Some (after None s (int (neg_ℤ (number_of x)) at))) (cond b3 (closed s (atom n at) x) (begun at n (prefix_of n) s x)))
operator_step at n s x b1 b2 b3 e1 e2 e3 = rw (e1, e2, e3) refl

pub moves_negative : (r r2 : Parser) (at place : ℕ) (a : AtomId) (x : Terminal) (v : ℤ) (t : TermId) → IsWhole r
    → is_tight_open (terminal_at r.pool place x) ≡ false
    → IsNegative (is_negated (atom_name r.pool a) (terminal_at r.pool place x)) (number_of (terminal_at r.pool place x)) (Some v)
    → Adds r.pool r2.pool (int v at) t → r2.arguments ≡ r.arguments → r2.items ≡ r.items → r2.expecting ≡ expect.BehindOperand t
    → Moves r.pool (λ done. step (at_operator at (atom_name r.pool a) (stack r done)) (terminal_at r.pool place x)) r2 true
moves_negative r r2 at place a x v t w e n k e1 e2 e3 =
    moves_term r.pool r2 r.arguments.items (reverse r.items.items) t (int v at)
    (λ done. step (at_operator at (atom_name r.pool a) (stack r done)) (terminal_at r.pool place x)) w.pool k w.arguments w.ids w.room
    (rw e1 refl) (rw e2 refl) e3
    (λ done. operator_step at (atom_name r.pool a) (stack r done) (terminal_at r.pool place x) false true _ e n.0 refl ∙ ap (λ (z : ℤ). Some (after None (stack r done) (int z at))) (sym n.1))

pub moves_lone : {E : Type 0} (res : Result Bool E) (r r1 r2 : Parser) (at place : ℕ) (a : AtomId) (x : Terminal) (t : TermId) → IsWhole r → IsTerminal r.pool x
    → is_tight_open (terminal_at r.pool place x) ≡ false → is_negated (atom_name r.pool a) (terminal_at r.pool place x) ≡ false
    → allows_lone (closing_of (last_item r.items.items) x) ≡ true → Adds r.pool r1.pool (atom (atom_name r.pool a) at) t → r1.arguments ≡ r.arguments → r1.items ≡ r.items
    → IfOk res (λ b. (p : ℕ) → Moves r1.pool (λ done. closed (stack r1 done) (placed_of r1.pool t) (terminal_at r1.pool p x)) r2 b)
    → IfOk res (Moves r.pool (λ done. step (at_operator at (atom_name r.pool a) (stack r done)) (terminal_at r.pool place x)) r2)
moves_lone res r r1 r2 at place a x t w h e n l k e1 e2 m =
    let name = atom_name r.pool a in
    let tok = terminal_at r.pool place x in
    if_moves_from res r.pool r1.pool (λ done. closed (stack r1 done) (placed_of r1.pool t) (terminal_at r1.pool place x)) (λ done. step (at_operator at name (stack r done)) tok) r2 k.grows
    (λ done. operator_step at name (stack r done) tok false false true e n (lone_is r place x (last_item r.items.items) refl done ∙ l)
    ∙ ap (λ (u : PlacedTerm). closed (stack r done) u tok) (sym k.is)
    ∙ ap (λ (s : Stack). closed s (placed_of r1.pool t) tok) (sym (stack_grown r r1 w k.grows e1 e2 done))
    ∙ ap (λ (y : terminals.Terminal). closed (stack r1 done) (placed_of r1.pool t) y) (sym (terminal_kept r.pool r1.pool k.grows x h place)))
    (if_place res r1.pool (λ p done. closed (stack r1 done) (placed_of r1.pool t) (terminal_at r1.pool p x)) r2 place m)

pub moves_not_lone : {E : Type 0} (res : Result Bool E) (r r2 : Parser) (at place : ℕ) (a : AtomId) (x : Terminal)
    → is_tight_open (terminal_at r.pool place x) ≡ false → is_negated (atom_name r.pool a) (terminal_at r.pool place x) ≡ false
    → allows_lone (closing_of (last_item r.items.items) x) ≡ false
    → IfOk res (Moves r.pool (λ done. begun at (atom_name r.pool a) (prefix_of (atom_name r.pool a)) (stack r done) (terminal_at r.pool place x)) r2)
    → IfOk res (Moves r.pool (λ done. step (at_operator at (atom_name r.pool a) (stack r done)) (terminal_at r.pool place x)) r2)
moves_not_lone res r r2 at place a x e n l m =
    let name = atom_name r.pool a in
    let tok = terminal_at r.pool place x in
    if_moves res r.pool (λ done. begun at name (prefix_of name) (stack r done) tok) (λ done. step (at_operator at name (stack r done)) tok) r2
    (λ done. operator_step at name (stack r done) tok false false false e n (lone_is r place x (last_item r.items.items) refl done ∙ l)) m

-- ---- a name, and empty brackets

pub moves_name : {E : Type 0} (res : Result Bool E) (r r1 r2 : Parser) (at place : ℕ) (a : AtomId) (x : Terminal) (t : TermId) → IsWhole r → IsTerminal r.pool x
    → is_tight_open (terminal_at r.pool place x) ≡ false
    → Adds r.pool r1.pool (atom (atom_name r.pool a) at) t → r1.arguments ≡ r.arguments → r1.items ≡ r.items
    → IfOk res (Moves r1.pool (λ done. behind_operand (stack r1 done) (placed_of r1.pool t) (terminal_at r1.pool place x)) r2)
    → IfOk res (Moves r.pool (λ done. step (after (Some (at, atom_name r.pool a)) (stack r done) (atom (atom_name r.pool a) at)) (terminal_at r.pool place x)) r2)
moves_name res r r1 r2 at place a x t w h e k e1 e2 m =
    let name = atom_name r.pool a in
    let tok = terminal_at r.pool place x in
    if_moves_from res r.pool r1.pool (λ done. behind_operand (stack r1 done) (placed_of r1.pool t) (terminal_at r1.pool place x))
    (λ done. step (after (Some (at, name)) (stack r done) (atom name at)) tok) r2 k.grows
    (λ done. ap (λ (b : Bool). cond b (called (Some (at, name)) (stack r done)) (behind_operand (stack r done) (atom name at) tok)) e
    ∙ ap (λ (u : PlacedTerm). behind_operand (stack r done) u tok) (sym k.is)
    ∙ ap (λ (s : Stack). behind_operand s (placed_of r1.pool t) tok) (sym (stack_grown r r1 w k.grows e1 e2 done))
    ∙ ap (λ (y : terminals.Terminal). behind_operand (stack r1 done) (placed_of r1.pool t) y) (sym (terminal_kept r.pool r1.pool k.grows x h place)))
    m

pub moves_empty_list : (r r2 : Parser) (at place : ℕ) (x : Terminal) (t : TermId) → IsWhole r → machine.is_close_list (terminal_at r.pool place x) ≡ true
    → Adds r.pool r2.pool (atom (atom_name r.pool NIL) at) t → r2.arguments ≡ r.arguments → r2.items ≡ r.items → r2.expecting ≡ expect.BehindOperand t
    → Moves r.pool (λ done. step (at_list at (stack r done)) (terminal_at r.pool place x)) r2 true
moves_empty_list r r2 at place x t w e k e1 e2 e3 =
    let tok = terminal_at r.pool place x in
    moves_term r.pool r2 r.arguments.items (reverse r.items.items) t (atom nil_name at) (λ done. step (at_list at (stack r done)) tok) w.pool
    (subst (λ (n : Name). Adds r.pool r2.pool (atom n at) t) w.pool.nil k) w.arguments w.ids w.room
    (rw e1 refl) (rw e2 refl) e3
    (λ done. ap (λ (b : Bool). cond b (Some (after None (stack r done) (atom nil_name at))) (wanted (items at no_parts (stack r done)) tok)) e)

pub moves_begin_list : {E : Type 0} (res : Result Bool E) (r r1 r2 : Parser) (at place from : ℕ) (x : Terminal)
    → machine.is_close_list (terminal_at r.pool place x) ≡ false → from ≡ length r.arguments.items → r1.pool ≡ r.pool → r1.arguments.items ≡ r.arguments.items
    → r1.items.items ≡ r.items.items ++ Listed at from ∷ []
    → IfOk res (Moves r.pool (λ done. wanted (stack r1 done) (terminal_at r.pool place x)) r2)
    → IfOk res (Moves r.pool (λ done. step (at_list at (stack r done)) (terminal_at r.pool place x)) r2)
moves_begin_list res r r1 r2 at place from x e n e0 e1 e2 m =
    let tok = terminal_at r.pool place x in
    if_moves res r.pool (λ done. wanted (stack r1 done) tok) (λ done. step (at_list at (stack r done)) tok) r2
    (λ done. ap (λ (b : Bool). cond b (Some (after None (stack r done) (atom nil_name at))) (wanted (items at no_parts (stack r done)) tok)) e
    ∙ ap (λ (s : Stack). wanted s tok) (sym (stack_begins_list r r1 at from n e0 e1 e2 done)))
    m

pub moves_empty_curly : (r r2 : Parser) (at place : ℕ) (x : Terminal) (t : TermId) → IsWhole r → machine.is_close_curly (terminal_at r.pool place x) ≡ true
    → Adds r.pool r2.pool (atom curly_name at) t → r2.arguments ≡ r.arguments → r2.items ≡ r.items → r2.expecting ≡ expect.BehindOperand t
    → Moves r.pool (λ done. step (at_curly_bracket at (stack r done)) (terminal_at r.pool place x)) r2 true
moves_empty_curly r r2 at place x t w e k e1 e2 e3 =
    let tok = terminal_at r.pool place x in
    moves_term r.pool r2 r.arguments.items (reverse r.items.items) t (atom curly_name at) (λ done. step (at_curly_bracket at (stack r done)) tok) w.pool k w.arguments w.ids w.room
    (rw e1 refl) (rw e2 refl) e3
    (λ done. ap (λ (b : Bool). cond b (Some (after None (stack r done) (atom curly_name at))) (wanted (curly at (stack r done)) tok)) e)

pub moves_begin_curly : {E : Type 0} (res : Result Bool E) (r r1 r2 : Parser) (at place : ℕ) (x : Terminal)
    → machine.is_close_curly (terminal_at r.pool place x) ≡ false → r1.pool ≡ r.pool → r1.arguments.items ≡ r.arguments.items
    → r1.items.items ≡ r.items.items ++ Curly at ∷ []
    → IfOk res (Moves r.pool (λ done. wanted (stack r1 done) (terminal_at r.pool place x)) r2)
    → IfOk res (Moves r.pool (λ done. step (at_curly_bracket at (stack r done)) (terminal_at r.pool place x)) r2)
moves_begin_curly res r r1 r2 at place x e e0 e1 e2 m =
    let tok = terminal_at r.pool place x in
    if_moves res r.pool (λ done. wanted (stack r1 done) tok) (λ done. step (at_curly_bracket at (stack r done)) tok) r2
    (λ done. ap (λ (b : Bool). cond b (Some (after None (stack r done) (atom curly_name at))) (wanted (curly at (stack r done)) tok)) e
    ∙ ap (λ (s : Stack). wanted s tok) (sym (stack_begins_curly r r1 at e0 e1 e2 done)))
    m

pub named_atom : {E : Type 0} (res : Result TermId E) (c m d : Contents) (a : AtomId) (n : Name) (at : ℕ) → Extends c m → atom_name m a ≡ n
    → IfOk res (Adds m d (atom (atom_name m a) at)) → IfOk res (Adds c d (atom n at))
named_atom (Ok t) c m d a n at x e k = record { grows = extends_trans c m d x k.grows; valid = k.valid; within = k.within; is = k.is ∙ ap (λ (y : Name). atom y at) e }
named_atom (Err f) c m d a n at x e k = tt

-- ---- the end of a sentence

pub stands_name : (r r1 : Parser) (p : ℕ) (a : AtomId) (t : TermId) → IsWhole r → r.expecting ≡ expect.BehindName p a
    → Adds r.pool r1.pool (atom (atom_name r.pool a) p) t → r1.arguments ≡ r.arguments → r1.items ≡ r.items → r1.expecting ≡ r.expecting → HasOperand r r1 t
stands_name r r1 p a t w e k e1 e2 e3 =
    let n = atom_name r.pool a in
    record {
      is = λ done. ap (λ (y : Expecting). step (state_by r.pool (stack r done) y) terminals.stop) e
          ∙ ap (λ (u : PlacedTerm). ended (reduce None (stack r done) 0 u) terminals.stop) (sym k.is)
          ∙ ap (λ (s : Stack). ended (reduce None s 0 (placed_of r1.pool t)) terminals.stop) (sym (stack_grown r r1 w k.grows e1 e2 done));
      whole = whole_grown r r1 w k.grows k.valid e1 e2 e3;
      grows = k.grows;
      within = k.within;
    }

stop_head : (c : Contents) (done : List PlacedTerm) (ts : List TermId) (y : Item) (ys : List Item) (t : PlacedTerm) → closed (stack_of c (top done) ts (y ∷ ys)) t terminals.stop ≡ None
stop_head c done ts Parenthesis ys t = refl
stop_head c done ts (Curly p) ys t = refl
stop_head c done ts (Call p a n) ys t = refl
stop_head c done ts (Listed p n) ys t = refl
stop_head c done ts (Tail p n) ys t = refl
stop_head c done ts (Prefix p a f) ys t = refl
stop_head c done ts (Infix p a f l) ys t = refl

pub some_last : (xs : List Item) → length xs ≢ 0 → (x : Item) × (last_item xs ≡ Some x)
some_last [] h = absurd (h refl)
some_last (y ∷ ys) h = (get_or (y ∷ ys) (length (y ∷ ys) - 1) y, slice_get-get_or (y ∷ ys) (length (y ∷ ys) - 1) y (omega arith))

pub stop_not : (q p : ℕ) (s t : TermId) (r r1 r2 : Parser) → HasOperand r r1 s → Steps None r1.pool r2.pool r1.items.items r2.items.items 0 p s t
    → Stays None r2.pool r2.items.items → r2.arguments ≡ r1.arguments → length r2.items.items ≢ 0
    → (done : List PlacedTerm) → step (state r done) terminals.stop ≡ None
stop_not q p s t r r1 r2 o k n e h done =
    let y = some_last r2.items.items h in
    o.is done
    ∙ ap (λ (d : Reduced). ended d terminals.stop) (reduced_is None 0 p s t r1 r2 o.whole k n e done)
    ∙ ap (λ (zs : List Item). closed (stack_of r2.pool (top done) r2.arguments.items zs) (placed_of r2.pool t) terminals.stop) (turned r2.items.items y.0 y.1)
    ∙ stop_head r2.pool done r2.arguments.items y.0 (reverse (front r2.items.items)) (placed_of r2.pool t)

not_top : (c : Contents) (done terms : List PlacedTerm) (ts : List TermId) (y : Item) (ys : List Item) → stack_of c (top done) ts (y ∷ ys) ≡ top terms → ⊥
not_top c done terms ts Parenthesis ys e = cc
not_top c done terms ts (Curly p) ys e = cc
not_top c done terms ts (Call p a n) ys e = cc
not_top c done terms ts (Listed p n) ys e = cc
not_top c done terms ts (Tail p n) ys e = cc
not_top c done terms ts (Prefix p a f) ys e = cc
not_top c done terms ts (Infix p a f l) ys e = cc

want_same : (s u : Stack) → want s ≡ want u → s ≡ u
want_same s u e = cc

pub still_begun : (r : Parser) → r.expecting ≡ expect.Operand → length r.items.items ≢ 0 → (done terms : List PlacedTerm) → state r done ≡ want (top terms) → ⊥
still_begun r e h done terms is =
    let y = some_last r.items.items h in
    let same : stack r done ≡ top terms = want_same (stack r done) (top terms) (ap (λ (x : Expecting). state_by r.pool (stack r done) x) (sym e) ∙ is) in
    not_top r.pool done terms r.arguments.items y.0 (reverse (front r.items.items))
    (ap (λ (zs : List Item). stack_of r.pool (top done) r.arguments.items zs) (sym (turned r.items.items y.0 y.1)) ∙ same)

fits_turned : (n : ℕ) → n ≤ 9223372036854775807 → SFits w64 (neg_ℤ (pos n))
fits_turned zero h = record { sfits = omega arith }
fits_turned (suc m) h = record { sfits = omega (arith, h) }

pub fits_negative : (c : Contents) (n : Name) (p : ℕ) (x : Terminal) (v : ℤ) → IsTerminal c x → is_negated n (terminal_at c p x) ≡ true → v ≡ neg_ℤ (number_of (terminal_at c p x)) → SFits w64 v
fits_negative c n p (tokens.Integer b z) v h e is = subst (SFits w64) (sym (is ∙ ap neg_ℤ h.is)) (fits_turned h.value h.within)
fits_negative c n p _ v h e is = absurd cc

pub not_empty : (b : Bool) (n m : ℕ) → b ≡ (n == 0) → b ≡ false → n ≡ m → m ≢ 0
not_empty b n m e f g z = let yes' : (n == 0) ≡ true = ap (λ (k : ℕ). k == 0) (g ∙ z) in cc

state_by_kept : (c d : Contents) → IsPool c → Extends c d → (s : Stack) (e : Expecting) → IsExpecting c e → state_by d s e ≡ state_by c s e
state_by_kept c d v x s expect.Operand h = refl
state_by_kept c d v x s (expect.BehindOpenList p) h = refl
state_by_kept c d v x s (expect.BehindOpenCurly p) h = refl
state_by_kept c d v x s (expect.BehindOperator p a r) h = ap (λ (n : Name). at_operator p n s) (name_kept c d x a h.own)
state_by_kept c d v x s (expect.BehindName p a) h = ap (λ (n : Name). after (Some (p, n)) s (atom n p)) (name_kept c d x a h)
state_by_kept c d v x s (expect.BehindOperand t) h = ap (λ (u : PlacedTerm). after None s u) (placed_kept c d v x t h)

pub state_grown : (r r1 : Parser) → IsWhole r → Extends r.pool r1.pool → r1.arguments ≡ r.arguments → r1.items ≡ r.items → r1.expecting ≡ r.expecting
    → (done : List PlacedTerm) → state r1 done ≡ state r done
state_grown r r1 w x e1 e2 e3 done =
    ap (λ (s : Stack). state_by r1.pool s r1.expecting) (stack_grown r r1 w x e1 e2 done)
    ∙ ap (λ (e : Expecting). state_by r1.pool (stack r done) e) e3
    ∙ state_by_kept r.pool r1.pool w.pool x (stack r done) r.expecting w.expecting
