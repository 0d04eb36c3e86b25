-- Which bracket a token ends.
use Rattle.std.proofs.Common.{◌≡◌, ℕ, List, ◌∷◌, Option, Some, None, Bool, true, false, cond, refl, sym, ap, subst, ◌∙◌}
use Rattle.std.specs.Prelude.{reverse, Result, Ok, Err, IfOk}
use Rattle.fd_language.specs.PlacedTerm.{PlacedTerm}
use Rattle.fd_language.specs.Terminals as terminals
use Rattle.fd_language.specs.ReadingSteps as machine
use Rattle.fd_language.specs.ReadingSteps.{top, items, want, closed}
use Rattle.term_pool.specs.declared.TermId.{TermId}
use Rattle.term_pool.specs.Contents.{Contents}
use Rattle.term_reader.specs.declared.parser.Terminal.{Terminal}
use Rattle.term_reader.specs.declared.parser.Terminal.TheVariants as tokens
use Rattle.term_reader.specs.declared.parser.Item.{Item}
use Rattle.term_reader.specs.declared.parser.Item.TheVariants.{Parenthesis, Curly, Call, List as Listed, Tail}
use Rattle.term_reader.specs.declared.parser.Closing.{Closing}
use Rattle.term_reader.specs.declared.parser.Closing.TheVariants as closings
use Rattle.term_reader.specs.declared.parser.Parser.{Parser}
use Rattle.term_pool.specs.PlacedTerms.{placed_of}
use Rattle.term_reader.specs.View.{terminal_at, stack_of, stack, Moves, last_item, closing_of, TakesArguments}
use Rattle.term_reader.proofs.Stacks.{front, last_none, turned}
use Rattle.term_reader.proofs.Moves.{moves_not}

-- ---- which closing it is

abbrev pub Ends : Closing → Option Item → Terminal → Type 0
Ends closings.Nothing o x = Unit {0}
Ends closings.Parenthesis o x = (o ≡ Some Parenthesis) × (x ≡ tokens.Close)
Ends (closings.Curly p) o x = (o ≡ Some (Curly p)) × (x ≡ tokens.CloseCurly)
Ends (closings.Call p a n) o x = (o ≡ Some (Call p a n)) × (x ≡ tokens.Close)
Ends closings.Argument o x = TakesArguments o × (x ≡ tokens.Comma)
Ends (closings.List p n) o x = (o ≡ Some (Listed p n)) × (x ≡ tokens.CloseList)
Ends (closings.Bar p n) o x = (o ≡ Some (Listed p n)) × (x ≡ tokens.Bar)
Ends (closings.Tail p n) o x = (o ≡ Some (Tail p n)) × (x ≡ tokens.CloseList)

ends_as : (o : Option Item) (x : Terminal) → Ends (closing_of o x) o x
ends_as (Some Parenthesis) tokens.Close = (refl, refl)
ends_as (Some (Curly p)) tokens.CloseCurly = (refl, refl)
ends_as (Some (Call p a n)) tokens.Close = (refl, refl)
ends_as (Some (Call p a n)) tokens.Comma = (tt, refl)
ends_as (Some (Listed p n)) tokens.Comma = (tt, refl)
ends_as (Some (Listed p n)) tokens.CloseList = (refl, refl)
ends_as (Some (Listed p n)) tokens.Bar = (refl, refl)
ends_as (Some (Tail p n)) tokens.CloseList = (refl, refl)
ends_as _ _ = tt

pub ends : {o o1 : Option Item} {k k1 : Closing} (x : Terminal) → o1 ≡ o → k1 ≡ closing_of o1 x → k1 ≡ k → Ends k o x
ends {o} {o1} {k} {k1} x e f g = subst (λ (z : Closing). Ends z o x) (ap (λ (u : Option Item). closing_of u x) (sym e) ∙ sym f ∙ g) (ends_as o x)

pub no_stop : (c : Contents) (p : ℕ) (x : Terminal) → machine.is_stop (terminal_at c p x) ≡ false
no_stop c p (tokens.Name a) = refl
no_stop c p _ = refl

closes_nothing : (c : Contents) (done : List PlacedTerm) (ts : List TermId) (y : Item) (ys : List Item) (t : PlacedTerm) (p : ℕ) (x : Terminal)
    → closing_of (Some y) x ≡ closings.Nothing → closed (stack_of c (top done) ts (y ∷ ys)) t (terminal_at c p x) ≡ None
closes_nothing c done ts Parenthesis ys t p tokens.Close e = absurd cc
closes_nothing c done ts (Curly q) ys t p tokens.CloseCurly e = absurd cc
closes_nothing c done ts (Call q a n) ys t p tokens.Close e = absurd cc
closes_nothing c done ts (Call q a n) ys t p tokens.Comma e = absurd cc
closes_nothing c done ts (Listed q n) ys t p tokens.Comma e = absurd cc
closes_nothing c done ts (Listed q n) ys t p tokens.CloseList e = absurd cc
closes_nothing c done ts (Listed q n) ys t p tokens.Bar e = absurd cc
closes_nothing c done ts (Tail q n) ys t p tokens.CloseList e = absurd cc
closes_nothing c done ts _ ys t p _ e = refl

nothing_closed : (r : Parser) (t : PlacedTerm) (p : ℕ) (x : Terminal) (o : Option Item) → last_item r.items.items ≡ o → closing_of o x ≡ closings.Nothing
    → (done : List PlacedTerm) → closed (stack r done) t (terminal_at r.pool p x) ≡ None
nothing_closed r t p x None e h done =
    ap (λ (zs : List Item). closed (stack_of r.pool (top done) r.arguments.items (reverse zs)) t (terminal_at r.pool p x)) (last_none r.items.items e)
    ∙ ap (λ (b : Bool). cond b (Some (want (top (t ∷ done)))) None) (no_stop r.pool p x)
nothing_closed r t p x (Some y) e h done =
    ap (λ (zs : List Item). closed (stack_of r.pool (top done) r.arguments.items zs) t (terminal_at r.pool p x)) (turned r.items.items y e)
    ∙ closes_nothing r.pool done r.arguments.items y (reverse (front r.items.items)) t p x h

pub moves_nothing : (r r2 : Parser) (t : TermId) (x : Terminal) → closing_of (last_item r.items.items) x ≡ closings.Nothing → (p : ℕ)
    → Moves r.pool (λ done. closed (stack r done) (placed_of r.pool t) (terminal_at r.pool p x)) r2 false
moves_nothing r r2 t x h p = moves_not r.pool (λ done. closed (stack r done) (placed_of r.pool t) (terminal_at r.pool p x)) r2
    (nothing_closed r (placed_of r.pool t) p x (last_item r.items.items) refl h)

-- the token is this one
pub moves_token : (r r2 : Parser) (t : TermId) (x y : Terminal) (p : ℕ) → x ≡ y
    → Moves r.pool (λ done. closed (stack r done) (placed_of r.pool t) (terminal_at r.pool p y)) r2 true
    → Moves r.pool (λ done. closed (stack r done) (placed_of r.pool t) (terminal_at r.pool p x)) r2 true
moves_token r r2 t x y p e m = subst (λ (z : Terminal). Moves r.pool (λ done. closed (stack r done) (placed_of r.pool t) (terminal_at r.pool p z)) r2 true) (sym e) m

pub if_token : {E : Type 0} (res : Result Bool E) (r r2 : Parser) (t : TermId) (x y : Terminal) → x ≡ y
    → IfOk res (λ b. (p : ℕ) → Moves r.pool (λ done. closed (stack r done) (placed_of r.pool t) (terminal_at r.pool p y)) r2 b)
    → IfOk res (λ b. (p : ℕ) → Moves r.pool (λ done. closed (stack r done) (placed_of r.pool t) (terminal_at r.pool p x)) r2 b)
if_token res r r2 t x y e m = subst (λ (z : Terminal). IfOk res (λ b. (p : ℕ) → Moves r.pool (λ done. closed (stack r done) (placed_of r.pool t) (terminal_at r.pool p z)) r2 b)) (sym e) m

pub if_closed : {E : Type 0} (res : Result Bool E) (r r2 : Parser) (t : TermId) (x y : Terminal) → x ≡ y
    → IfOk res (Moves r.pool (λ done. closed (stack r done) (placed_of r.pool t) (terminal_at r.pool 0 y)) r2)
    → ((p : ℕ) → terminal_at r.pool p y ≡ terminal_at r.pool 0 y)
    → IfOk res (λ b. (p : ℕ) → Moves r.pool (λ done. closed (stack r done) (placed_of r.pool t) (terminal_at r.pool p x)) r2 b)
if_closed (Ok b) r r2 t x y e m same = λ p. subst (λ (z : terminals.Terminal). Moves r.pool (λ done. closed (stack r done) (placed_of r.pool t) z) r2 b) (sym (ap (terminal_at r.pool p) e ∙ same p)) m
if_closed (Err f) r r2 t x y e m same = tt
