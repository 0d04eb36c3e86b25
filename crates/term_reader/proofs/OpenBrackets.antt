-- What the end of an operand makes of a bracket on top.
use Rattle.std.proofs.Common.{◌≡◌, ℕ, ◌<◌, ◌≤◌, List, [], ◌∷◌, ◌++◌, length, take, drop, Option, Some, None, true, sym, ap, subst, ◌∙◌, arith, length-append}
use Rattle.std.specs.Prelude.{reverse}
use Rattle.std.proofs.lemmas.List.{drop-append-le, take-append-le}
use Rattle.std.proofs.lemmas.List.Elements.{All-drop, All-take, All-push}
use Rattle.fd_language.specs.Term.{Name}
use Rattle.fd_language.specs.PlacedTerm.{PlacedTerm, PlacedTerms, atom, comp, one, with_last}
use Rattle.fd_language.specs.Terminals as terminals
use Rattle.fd_language.specs.Grammar.{list_of, nil_name, curly_name}
use Rattle.fd_language.specs.ReadingSteps.{Stack, top, args, items, tail, want, closed}
use Rattle.term_pool.specs.declared.AtomId.{AtomId}
use Rattle.term_pool.specs.declared.TermId.{TermId}
use Rattle.term_pool.specs.declared.TheConstants.{NIL}
use Rattle.term_pool.specs.Contents.{Contents, atom_name}
use Rattle.term_pool.specs.PoolInvariant.{IsPool}
use Rattle.term_pool.proofs.Lemmas.{extends_trans}
use Rattle.term_reader.specs.declared.parser.Item.{Item}
use Rattle.term_reader.specs.declared.parser.Item.TheVariants.{Parenthesis, Curly, Call, List as Listed, Tail, Prefix, Infix}
use Rattle.term_reader.specs.declared.parser.Expecting.TheVariants as expect
use Rattle.term_reader.specs.declared.parser.Parser.{Parser}
use Rattle.term_pool.specs.PlacedTerms.{placed_of}
use Rattle.term_reader.specs.PlacedTerms.{parts_of, Adds}
use Rattle.term_reader.specs.View.{stack_of, stack, HaveIds, HaveRoom, AreTerms, IsWhole, Moves, last_item, TakesArguments}
use Rattle.term_reader.proofs.PlacedLaws.{parts_kept, parts_of-last, parts_of_one}
use Rattle.term_reader.proofs.Stacks.{front, turned, turned_push}
use Rattle.term_reader.proofs.Moves.{moves_term, moves_same}

-- ---- a bracket on top

pub terms_push : (c : Contents) (ts : List TermId) (t : TermId) → AreTerms c ts → t.number < length c.entries → AreTerms c (ts ++ t ∷ [])
terms_push c ts t h k = All-push (λ u. u.number < length c.entries) ts t h k

-- what is on top, and what lies below it
pub record OnTop (r : Parser) (x : Item) : Type 0 where
  pub is : reverse r.items.items ≡ x ∷ reverse (front r.items.items)
  pub ids : HaveIds r.pool (x ∷ reverse (front r.items.items))
  pub room : HaveRoom r.arguments.items (x ∷ reverse (front r.items.items))

pub on_top : (r : Parser) (x : Item) → IsWhole r → last_item r.items.items ≡ Some x → OnTop r x
on_top r x w e = let is = turned r.items.items x e in record { is = is; ids = subst (HaveIds r.pool) is w.ids; room = subst (HaveRoom r.arguments.items) is w.room }

pub stack_on_top : (r : Parser) (x : Item) → OnTop r x → (done : List PlacedTerm) → stack r done ≡ stack_of r.pool (top done) r.arguments.items (x ∷ reverse (front r.items.items))
stack_on_top r x o done = ap (λ (zs : List Item). stack_of r.pool (top done) r.arguments.items zs) o.is

drop_push : (from : ℕ) (ts : List TermId) (t : TermId) → from ≤ length ts → drop from (ts ++ t ∷ []) ≡ drop from ts ++ t ∷ []
drop_push from ts t h = drop-append-le from ts (t ∷ []) h

take_push : (from : ℕ) (ts : List TermId) (t : TermId) → from ≤ length ts → take from (ts ++ t ∷ []) ≡ take from ts
take_push from ts t h = take-append-le from ts (t ∷ []) h

-- the arguments of the bracket on top, with one more
parts_push : (c : Contents) (from : ℕ) (ts : List TermId) (t : TermId) → from ≤ length ts → parts_of c (drop from (ts ++ t ∷ [])) ≡ with_last (parts_of c (drop from ts)) (placed_of c t)
parts_push c from ts t h = ap (parts_of c) (drop_push from ts t h) ∙ parts_of-last c (drop from ts) t

pub moves_call : (r r2 : Parser) (last t : TermId) (p from : ℕ) (a : AtomId) → IsWhole r → last.number < length r.pool.entries → OnTop r (Call p a from)
    → Adds r.pool r2.pool (comp (atom_name r.pool a) p (parts_of r.pool (drop from (r.arguments.items ++ last ∷ [])))) t
    → r2.arguments.items ≡ take from (r.arguments.items ++ last ∷ []) → r2.items.items ≡ front r.items.items → r2.expecting ≡ expect.BehindOperand t
    → Moves r.pool (λ done. closed (stack r done) (placed_of r.pool last) terminals.closes) r2 true
moves_call r r2 last t p from a w h o k e1 e2 e3 =
    let ts = r.arguments.items in
    let ys = reverse (front r.items.items) in
    moves_term r.pool r2 (take from ts) ys t (comp (atom_name r.pool a) p (with_last (parts_of r.pool (drop from ts)) (placed_of r.pool last)))
    (λ done. closed (stack r done) (placed_of r.pool last) terminals.closes)
    w.pool (subst (λ (xs : PlacedTerms). Adds r.pool r2.pool (comp (atom_name r.pool a) p xs) t) (parts_push r.pool from ts last o.room.0) k)
    (All-take (λ u. u.number < length r.pool.entries) from ts w.arguments) o.ids.1 o.room.1
    (e1 ∙ take_push from ts last o.room.0) (ap reverse e2) e3
    (λ done. ap (λ (s : Stack). closed s (placed_of r.pool last) terminals.closes) (stack_on_top r (Call p a from) o done))

pub more_room : (from : ℕ) (ts : List TermId) (t : TermId) → from ≤ length ts → from ≤ length (ts ++ t ∷ [])
more_room from ts t h = omega (arith, length-append ts (t ∷ []))

pub moves_argument : (r r2 : Parser) (t : TermId) (p from : ℕ) (a : AtomId) → IsWhole r → t.number < length r.pool.entries → OnTop r (Call p a from)
    → r2.pool ≡ r.pool → r2.arguments.items ≡ r.arguments.items ++ t ∷ [] → r2.items.items ≡ r.items.items → r2.expecting ≡ expect.Operand
    → (at : ℕ) → Moves r.pool (λ done. closed (stack r done) (placed_of r.pool t) (terminals.comma at)) r2 true
moves_argument r r2 t p from a w h o e0 e1 e2 e3 at =
    let ts = r.arguments.items in
    let ys = reverse (front r.items.items) in
    moves_same r.pool r2 (ts ++ t ∷ []) (Call p a from ∷ ys) expect.Operand (λ done. closed (stack r done) (placed_of r.pool t) (terminals.comma at)) e0
    w.pool (terms_push r.pool ts t w.arguments h) o.ids (more_room from ts t o.room.0, subst (λ (us : List TermId). HaveRoom us ys) (sym (take_push from ts t o.room.0)) o.room.1) tt
    e1 (ap reverse e2 ∙ o.is) e3
    (λ done. ap (λ (s : Stack). closed s (placed_of r.pool t) (terminals.comma at)) (stack_on_top r (Call p a from) o done)
    ∙ ap (λ (xs : PlacedTerms). Some (want (args p (atom_name r.pool a) xs (stack_of r.pool (top done) (take from ts) ys)))) (sym (parts_push r.pool from ts t o.room.0))
    ∙ ap (λ (us : List TermId). Some (want (args p (atom_name r.pool a) (parts_of r.pool (drop from (ts ++ t ∷ []))) (stack_of r.pool (top done) us ys)))) (sym (take_push from ts t o.room.0)))

pub moves_element : (r r2 : Parser) (t : TermId) (p from : ℕ) → IsWhole r → t.number < length r.pool.entries → OnTop r (Listed p from) → r2.pool ≡ r.pool
    → r2.arguments.items ≡ r.arguments.items ++ t ∷ [] → r2.items.items ≡ r.items.items → r2.expecting ≡ expect.Operand
    → (at : ℕ) → Moves r.pool (λ done. closed (stack r done) (placed_of r.pool t) (terminals.comma at)) r2 true
moves_element r r2 t p from w h o e0 e1 e2 e3 at =
    let ts = r.arguments.items in
    let ys = reverse (front r.items.items) in
    moves_same r.pool r2 (ts ++ t ∷ []) (Listed p from ∷ ys) expect.Operand (λ done. closed (stack r done) (placed_of r.pool t) (terminals.comma at)) e0
    w.pool (terms_push r.pool ts t w.arguments h) o.ids (more_room from ts t o.room.0, subst (λ (us : List TermId). HaveRoom us ys) (sym (take_push from ts t o.room.0)) o.room.1) tt
    e1 (ap reverse e2 ∙ o.is) e3
    (λ done. ap (λ (s : Stack). closed s (placed_of r.pool t) (terminals.comma at)) (stack_on_top r (Listed p from) o done)
    ∙ ap (λ (xs : PlacedTerms). Some (want (items p xs (stack_of r.pool (top done) (take from ts) ys)))) (sym (parts_push r.pool from ts t o.room.0))
    ∙ ap (λ (us : List TermId). Some (want (items p (parts_of r.pool (drop from (ts ++ t ∷ []))) (stack_of r.pool (top done) us ys)))) (sym (take_push from ts t o.room.0)))

-- one of the two
pub moves_next : (r r2 : Parser) (t : TermId) → IsWhole r → t.number < length r.pool.entries → (o : Option Item) → last_item r.items.items ≡ o
    → TakesArguments o → r2.pool ≡ r.pool → r2.arguments.items ≡ r.arguments.items ++ t ∷ [] → r2.items.items ≡ r.items.items → r2.expecting ≡ expect.Operand
    → (at : ℕ) → Moves r.pool (λ done. closed (stack r done) (placed_of r.pool t) (terminals.comma at)) r2 true
moves_next r r2 t w h None e k e0 e1 e2 e3 at = absurd k
moves_next r r2 t w h (Some Parenthesis) e k e0 e1 e2 e3 at = absurd k
moves_next r r2 t w h (Some (Curly p)) e k e0 e1 e2 e3 at = absurd k
moves_next r r2 t w h (Some (Call p a from)) e k e0 e1 e2 e3 at = moves_argument r r2 t p from a w h (on_top r (Call p a from) w e) e0 e1 e2 e3 at
moves_next r r2 t w h (Some (Listed p from)) e k e0 e1 e2 e3 at = moves_element r r2 t p from w h (on_top r (Listed p from) w e) e0 e1 e2 e3 at
moves_next r r2 t w h (Some (Tail p from)) e k e0 e1 e2 e3 at = absurd k
moves_next r r2 t w h (Some (Prefix p a f)) e k e0 e1 e2 e3 at = absurd k
moves_next r r2 t w h (Some (Infix p a f l)) e k e0 e1 e2 e3 at = absurd k

-- ---- lists, curly terms and parentheses on top

-- a term made of one made before
adds_then : {c d e : Contents} {x y z : PlacedTerm} {s t : TermId} → Adds c d x s → Adds d e y t → y ≡ z → Adds c e z t
adds_then {c = c} {d = d} {e = e} h k is = record { grows = extends_trans c d e h.grows k.grows; valid = k.valid; within = k.within; is = k.is ∙ is }

list_made : (c d e : Contents) (ts : List TermId) (last nil t : TermId) (p from : ℕ) → IsPool c → from ≤ length ts → AreTerms c ts → last.number < length c.entries
    → Adds c d (atom (atom_name c NIL) p) nil → Adds d e (list_of p (parts_of d (drop from (ts ++ last ∷ []))) (placed_of d nil)) t
    → Adds c e (list_of p (with_last (parts_of c (drop from ts)) (placed_of c last)) (atom nil_name p)) t
list_made c d e ts last nil t p from v room terms h a k =
    adds_then a k
    (ap (λ (xs : PlacedTerms). list_of p xs (placed_of d nil))
    (parts_kept c d v a.grows (drop from (ts ++ last ∷ [])) (All-drop (λ u. u.number < length c.entries) from (ts ++ last ∷ []) (terms_push c ts last terms h)) ∙ parts_push c from ts last room)
    ∙ ap (λ (x : PlacedTerm). list_of p (with_last (parts_of c (drop from ts)) (placed_of c last)) x) (a.is ∙ ap (λ (n : Name). atom n p) v.nil))

pub moves_list : (r r2 : Parser) (d : Contents) (last nil t : TermId) (p from : ℕ) → IsWhole r → last.number < length r.pool.entries → OnTop r (Listed p from)
    → Adds r.pool d (atom (atom_name r.pool NIL) p) nil → Adds d r2.pool (list_of p (parts_of d (drop from (r.arguments.items ++ last ∷ []))) (placed_of d nil)) t
    → r2.arguments.items ≡ take from (r.arguments.items ++ last ∷ []) → r2.items.items ≡ front r.items.items → r2.expecting ≡ expect.BehindOperand t
    → Moves r.pool (λ done. closed (stack r done) (placed_of r.pool last) terminals.close_list) r2 true
moves_list r r2 d last nil t p from w h o a k e1 e2 e3 =
    let ts = r.arguments.items in
    let ys = reverse (front r.items.items) in
    moves_term r.pool r2 (take from ts) ys t (list_of p (with_last (parts_of r.pool (drop from ts)) (placed_of r.pool last)) (atom nil_name p))
    (λ done. closed (stack r done) (placed_of r.pool last) terminals.close_list)
    w.pool (list_made r.pool d r2.pool ts last nil t p from w.pool o.room.0 w.arguments h a k)
    (All-take (λ u. u.number < length r.pool.entries) from ts w.arguments) o.ids o.room.1
    (e1 ∙ take_push from ts last o.room.0) (ap reverse e2) e3
    (λ done. ap (λ (s : Stack). closed s (placed_of r.pool last) terminals.close_list) (stack_on_top r (Listed p from) o done))

pub moves_tail : (r r2 : Parser) (last t : TermId) (p from : ℕ) → IsWhole r → OnTop r (Tail p from)
    → Adds r.pool r2.pool (list_of p (parts_of r.pool (drop from r.arguments.items)) (placed_of r.pool last)) t
    → r2.arguments.items ≡ take from r.arguments.items → r2.items.items ≡ front r.items.items → r2.expecting ≡ expect.BehindOperand t
    → Moves r.pool (λ done. closed (stack r done) (placed_of r.pool last) terminals.close_list) r2 true
moves_tail r r2 last t p from w o k e1 e2 e3 =
    let ts = r.arguments.items in
    let ys = reverse (front r.items.items) in
    moves_term r.pool r2 (take from ts) ys t (list_of p (parts_of r.pool (drop from ts)) (placed_of r.pool last)) (λ done. closed (stack r done) (placed_of r.pool last) terminals.close_list)
    w.pool k (All-take (λ u. u.number < length r.pool.entries) from ts w.arguments) o.ids o.room.1 e1 (ap reverse e2) e3
    (λ done. ap (λ (s : Stack). closed s (placed_of r.pool last) terminals.close_list) (stack_on_top r (Tail p from) o done))

pub moves_bar : (r r2 : Parser) (last : TermId) (p from : ℕ) → IsWhole r → last.number < length r.pool.entries → OnTop r (Listed p from) → r2.pool ≡ r.pool
    → r2.arguments.items ≡ r.arguments.items ++ last ∷ [] → r2.items.items ≡ front r.items.items ++ Tail p from ∷ [] → r2.expecting ≡ expect.Operand
    → Moves r.pool (λ done. closed (stack r done) (placed_of r.pool last) terminals.bar) r2 true
moves_bar r r2 t p from w h o e0 e1 e2 e3 =
    let ts = r.arguments.items in
    let ys = reverse (front r.items.items) in
    moves_same r.pool r2 (ts ++ t ∷ []) (Tail p from ∷ ys) expect.Operand (λ done. closed (stack r done) (placed_of r.pool t) terminals.bar) e0
    w.pool (terms_push r.pool ts t w.arguments h) o.ids (more_room from ts t o.room.0, subst (λ (us : List TermId). HaveRoom us ys) (sym (take_push from ts t o.room.0)) o.room.1) tt
    e1 (ap reverse e2 ∙ turned_push (front r.items.items) (Tail p from)) e3
    (λ done. ap (λ (s : Stack). closed s (placed_of r.pool t) terminals.bar) (stack_on_top r (Listed p from) o done)
    ∙ ap (λ (xs : PlacedTerms). Some (want (tail p xs (stack_of r.pool (top done) (take from ts) ys)))) (sym (parts_push r.pool from ts t o.room.0))
    ∙ ap (λ (us : List TermId). Some (want (tail p (parts_of r.pool (drop from (ts ++ t ∷ []))) (stack_of r.pool (top done) us ys)))) (sym (take_push from ts t o.room.0)))

pub moves_curly : (r r2 : Parser) (inner t : TermId) (p : ℕ) → IsWhole r → OnTop r (Curly p) → Adds r.pool r2.pool (comp curly_name p (parts_of r.pool (inner ∷ []))) t
    → r2.arguments.items ≡ r.arguments.items → r2.items.items ≡ front r.items.items → r2.expecting ≡ expect.BehindOperand t
    → Moves r.pool (λ done. closed (stack r done) (placed_of r.pool inner) terminals.close_curly) r2 true
moves_curly r r2 inner t p w o k e1 e2 e3 =
    moves_term r.pool r2 r.arguments.items (reverse (front r.items.items)) t (comp curly_name p (one (placed_of r.pool inner)))
    (λ done. closed (stack r done) (placed_of r.pool inner) terminals.close_curly)
    w.pool (subst (λ (xs : PlacedTerms). Adds r.pool r2.pool (comp curly_name p xs) t) (parts_of_one r.pool inner) k) w.arguments o.ids o.room e1 (ap reverse e2) e3
    (λ done. ap (λ (s : Stack). closed s (placed_of r.pool inner) terminals.close_curly) (stack_on_top r (Curly p) o done))

pub moves_parenthesis : (r r2 : Parser) (t : TermId) → IsWhole r → t.number < length r.pool.entries → OnTop r Parenthesis → r2.pool ≡ r.pool
    → r2.arguments.items ≡ r.arguments.items → r2.items.items ≡ front r.items.items → r2.expecting ≡ expect.BehindOperand t
    → Moves r.pool (λ done. closed (stack r done) (placed_of r.pool t) terminals.closes) r2 true
moves_parenthesis r r2 t w h o e0 e1 e2 e3 =
    moves_same r.pool r2 r.arguments.items (reverse (front r.items.items)) (expect.BehindOperand t) (λ done. closed (stack r done) (placed_of r.pool t) terminals.closes) e0
    w.pool w.arguments o.ids o.room h e1 (ap reverse e2) e3
    (λ done. ap (λ (s : Stack). closed s (placed_of r.pool t) terminals.closes) (stack_on_top r Parenthesis o done))
