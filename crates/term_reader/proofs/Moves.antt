-- The parser's steps are the machine's.
use Rattle.std.proofs.Common.{◌≡◌, ℕ, ℤ, List, Option, Some, None, Bool, true, false, refl, sym, ap, subst, ◌∙◌, arith, w64, SFits}
use Rattle.std.specs.Prelude.{reverse}
use Rattle.fd_language.specs.PlacedTerm.{PlacedTerm}
use Rattle.fd_language.specs.ReadingSteps.{Stack, top, State, after, wanted}
use Rattle.term_pool.specs.declared.TermId.{TermId}
use Rattle.term_pool.specs.Contents.{Contents}
use Rattle.term_pool.specs.Terms.{Extends}
use Rattle.term_pool.specs.PoolInvariant.{IsPool}
use Rattle.term_pool.proofs.Lemmas.{extends_refl}
use Rattle.term_reader.specs.declared.parser.Terminal.{Terminal}
use Rattle.term_reader.specs.declared.parser.Terminal.TheVariants as tokens
use Rattle.term_reader.specs.declared.parser.Item.{Item}
use Rattle.term_reader.specs.declared.parser.Expecting.{Expecting}
use Rattle.term_reader.specs.declared.parser.Expecting.TheVariants as expect
use Rattle.term_reader.specs.declared.parser.Parser.{Parser}
use Rattle.term_reader.specs.PlacedTerms.{Adds}
use Rattle.term_reader.specs.View.{terminal_at, IsTerminal, stack_of, stack, state, state_by, HaveIds, HaveRoom, AreTerms, IsWhole, IsExpecting, Moves}
use Rattle.term_reader.specs.View.{IsNatural}
use Rattle.term_reader.proofs.Stacks.{terms_more, ids_more, stack_kept}

-- ---- the state that is reached

pub state_is : (r : Parser) (ts : List TermId) (ys : List Item) (e : Expecting) → r.arguments.items ≡ ts → reverse r.items.items ≡ ys → r.expecting ≡ e
    → (done : List PlacedTerm) → state r done ≡ state_by r.pool (stack_of r.pool (top done) ts ys) e
state_is r ts ys e e1 e2 e3 done =
    ap (λ (us : List TermId). state_by r.pool (stack_of r.pool (top done) us (reverse r.items.items)) r.expecting) e1
    ∙ ap (λ (zs : List Item). state_by r.pool (stack_of r.pool (top done) ts zs) r.expecting) e2
    ∙ ap (λ (x : Expecting). state_by r.pool (stack_of r.pool (top done) ts ys) x) e3

-- what the parser r comes to from the pool c, in the parts that count
pub record Comes (c : Contents) (r : Parser) (ts : List TermId) (ys : List Item) (e : Expecting) : Type 0 where
  pub arguments : r.arguments.items ≡ ts
  pub items : reverse r.items.items ≡ ys
  pub expecting : r.expecting ≡ e
  pub grows : Extends c r.pool
  pub valid : IsPool r.pool
  pub terms : AreTerms r.pool ts
  pub ids : HaveIds r.pool ys
  pub room : HaveRoom ts ys
  pub stands : IsExpecting r.pool e

pub whole_is : {c : Contents} {r : Parser} {ts : List TermId} {ys : List Item} {e : Expecting} → Comes c r ts ys e → IsWhole r
whole_is {r = r} {ts = ts} {ys = ys} k = record {
  pool = k.valid;
  arguments = subst (λ (us : List TermId). AreTerms r.pool us) (sym k.arguments) k.terms;
  ids = subst (λ (zs : List Item). HaveIds r.pool zs) (sym k.items) k.ids;
  room = subst (λ (zs : List Item). HaveRoom r.arguments.items zs) (sym k.items) (subst (λ (us : List TermId). HaveRoom us ys) (sym k.arguments) k.room);
  expecting = subst (λ (x : Expecting). IsExpecting r.pool x) (sym k.expecting) k.stands;
}

pub moves_to : {c : Contents} {r : Parser} {ts : List TermId} {ys : List Item} {e : Expecting} (outcome : List PlacedTerm → Option State) → Comes c r ts ys e
    → ((done : List PlacedTerm) → outcome done ≡ Some (state_by r.pool (stack_of r.pool (top done) ts ys) e)) → Moves c outcome r true
moves_to {r = r} {ts = ts} {ys = ys} {e = e} outcome k is = record {
  is = λ done. is done ∙ ap (λ (st : State). Some st) (sym (state_is r ts ys e k.arguments k.items k.expecting done));
  whole = λ _. whole_is k;
  grows = λ _. k.grows;
}

pub moves_not : (c : Contents) (outcome : List PlacedTerm → Option State) (r : Parser) → ((done : List PlacedTerm) → outcome done ≡ None) → Moves c outcome r false
moves_not c outcome r is = record { is = is; whole = λ h. absurd cc; grows = λ h. absurd cc }

-- a new term stands over the items ys
pub moves_term : (c : Contents) (r : Parser) (ts : List TermId) (ys : List Item) (t : TermId) (x : PlacedTerm) (outcome : List PlacedTerm → Option State)
    → IsPool c → Adds c r.pool x t → AreTerms c ts → HaveIds c ys → HaveRoom ts ys
    → r.arguments.items ≡ ts → reverse r.items.items ≡ ys → r.expecting ≡ expect.BehindOperand t
    → ((done : List PlacedTerm) → outcome done ≡ Some (after None (stack_of c (top done) ts ys) x)) → Moves c outcome r true
moves_term c r ts ys t x outcome v a terms ids room e1 e2 e3 is =
    moves_to outcome
    (record {
      arguments = e1;
      items = e2;
      expecting = e3;
      grows = a.grows;
      valid = a.valid;
      terms = terms_more c r.pool a.grows ts terms;
      ids = ids_more c r.pool a.grows ys ids;
      room = room;
      stands = a.within;
    })
    (λ done. is done
    ∙ ap (λ (s : Stack). Some (after None s x)) (sym (stack_kept c r.pool v a.grows (top done) ts terms ys ids))
    ∙ ap (λ (u : PlacedTerm). Some (after None (stack_of r.pool (top done) ts ys) u)) (sym a.is))

-- the pool is as it was
pub moves_same : (c : Contents) (r : Parser) (ts : List TermId) (ys : List Item) (e : Expecting) (outcome : List PlacedTerm → Option State) → r.pool ≡ c
    → IsPool c → AreTerms c ts → HaveIds c ys → HaveRoom ts ys → IsExpecting c e
    → r.arguments.items ≡ ts → reverse r.items.items ≡ ys → r.expecting ≡ e
    → ((done : List PlacedTerm) → outcome done ≡ Some (state_by c (stack_of c (top done) ts ys) e)) → Moves c outcome r true
moves_same c r ts ys e outcome same v terms ids room stands e1 e2 e3 is =
    moves_to outcome
    (record {
      arguments = e1;
      items = e2;
      expecting = e3;
      grows = subst (Extends c) (sym same) (extends_refl c);
      valid = subst IsPool (sym same) v;
      terms = subst (λ (d : Contents). AreTerms d ts) (sym same) terms;
      ids = subst (λ (d : Contents). HaveIds d ys) (sym same) ids;
      room = room;
      stands = subst (λ (d : Contents). IsExpecting d e) (sym same) stands;
    })
    (λ done. is done ∙ ap (λ (d : Contents). Some (state_by d (stack_of d (top done) ts ys) e)) (sym same))

-- ---- an operand

pub operand_term : (r r2 : Parser) (t : TermId) (x : PlacedTerm) (token : Terminal) (place : ℕ) → IsWhole r → Adds r.pool r2.pool x t
    → r2.arguments ≡ r.arguments → r2.items ≡ r.items → r2.expecting ≡ expect.BehindOperand t
    → ((s : Stack) → wanted s (terminal_at r.pool place token) ≡ Some (after None s x)) → Moves r.pool (λ done. wanted (stack r done) (terminal_at r.pool place token)) r2 true
operand_term r r2 t x token place w a e1 e2 e3 is =
    moves_term r.pool r2 r.arguments.items (reverse r.items.items) t x (λ done. wanted (stack r done) (terminal_at r.pool place token)) w.pool a w.arguments w.ids w.room
    (rw e1 refl) (rw e2 refl) e3 (λ done. is (stack r done))

-- ---- integers

pub fits_natural : (z : ℤ) → IsNatural z → SFits w64 z
fits_natural z h = subst (SFits w64) (sym h.is) (record { sfits = omega (arith, h.within) })

pub token_natural : (c : Contents) (token : Terminal) (tight : Bool) (z : ℤ) → token ≡ tokens.Integer tight z → IsTerminal c token → IsNatural z
token_natural c token tight z e h = subst (IsTerminal c) e h
