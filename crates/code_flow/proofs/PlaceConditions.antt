-- Verified code is code of which each place meets the conditions that belong to it.
use Rattle.std.proofs.Common.{◌≡◌, ℕ, suc, ◌<◌, IsTrue, List, [], length, get_or, slice_get, Some, min, refl, sym, ◌∙◌, subst, inl, inr, arith, All}
use Rattle.std.proofs.lemmas.Option.{slice_get_within, get_or_from_slice_get, slice_get-get_or}
use Rattle.wam_code.specs.declared.instruction.Code.{Code}
use Rattle.wam_code.specs.declared.instruction.Code.TheVariants.{AnswerNow, TryMeElse, RetryMeElse, SwitchOnConstant, SwitchOnInteger, SwitchOnStructure}
use Rattle.wam_code.specs.Area.{State, Span, Area, Holds}
use Rattle.wam_code.specs.VerifiedCode.{named, goes_on, Covers, HandedTo, Leads, NamesOther, IsAtom, IsKey, IsThere, IsQuery, IsVerifiedBy}
use Rattle.code_listing.specs.Listing.{table_of}
use Rattle.fd_language.specs.Family.{has}
use Rattle.code_flow.specs.Successors.{CoversAt, LeadsOn}
use Rattle.code_flow.specs.PlaceConditions.{FitsAt, IsSpan, IsLastOf, IsLast, ShowsAt}

module _ {A : Type 0} (P : A → Type 0) (xs : List A) where
  pub all_get : (n : ℕ) (x : A) → All P xs → slice_get xs n ≡ Some x → P x
  all_get n x f e = subst P (get_or_from_slice_get xs n x x e) (f n x (slice_get_within xs n x e))

  pub all_from : ((n : ℕ) (x : A) → slice_get xs n ≡ Some x → P x) → All P xs
  all_from f k d h = f k (get_or xs k d) (slice_get-get_or xs k d h)

-- the keys of an instruction's table, where those of all tables are there
keys_of : (a : Area) (i : Code) → All (λ table. All (λ row. IsKey a row.0) table) a.tables → IsThere a i → All (λ row. IsKey a row.0) (table_of a.tables i)
keys_of a (SwitchOnConstant t) f h = f t [] h.0
keys_of a (SwitchOnInteger t) f h = f t [] h.0
keys_of a (SwitchOnStructure t) f h = f t [] h.0
keys_of a i f h = λ k d l. absurd (omega (arith, l))

-- what names another part is there
other_names : (a : Area) (at to : ℕ) → NamesOther a at to → (i : Code) × Holds a at i
other_names a at to (inl h) = (TryMeElse to, h)
other_names a at to (inr h) = (RetryMeElse to, h)

-- a query's code, with what its answer shows and without
span_of_query : (a : Area) (ss : List State) (q : Span) → IsQuery a ss q → IsSpan a q
span_of_query a ss q w = record {
  some = w.some;
  within = w.within;
  last = w.last;
  no_proceed = w.no_proceed;
  no_execute = w.no_execute;
  no_entry = w.no_entry;
  stays = w.stays;
  not_named = w.not_named;
  not_fallen = w.not_fallen;
}

query_of_span : (a : Area) (ss : List State) (q : Span) → IsSpan a q → ((at : ℕ) → Holds a at AnswerNow → IsLastOf q at → ShowsAt ss at (length q.names)) → IsQuery a ss q
query_of_span a ss q w f = record {
  some = w.some;
  within = w.within;
  last = w.last;
  shown = λ at s e g. f at (w.last at e) ((omega (arith, w.some, e), omega (arith, e)), e) s g;
  no_proceed = w.no_proceed;
  no_execute = w.no_execute;
  no_entry = w.no_entry;
  stays = w.stays;
  not_named = w.not_named;
  not_fallen = w.not_fallen;
}

-- what covers the states of the places that it leads to, where each place has a state and where it may have none
leads_weaker : (a : Area) (ss : List State) (at : ℕ) (i : Code) (s : State) → Leads a ss at i s → LeadsOn a ss at i s
leads_weaker a ss at i s l = (l.0, l.1, (λ to n. covers to (l.2 to n)), λ g. covers (suc at) (l.3 g))
  where
    covers : (to : ℕ) → HandedTo ss l.0 to → CoversAt ss l.0 to
    covers to h x k = let e : Some h.0 ≡ Some x = sym h.1 ∙ k in let is : h.0 ≡ x = cc (e) in subst (Covers l.0) is h.2

leads_stronger : (a : Area) (ss : List State) (at : ℕ) (i : Code) (s : State) → ((to : ℕ) → IsTrue (has (named a i) to) → to < length ss)
    → (IsTrue (goes_on i) → suc at < length ss) → LeadsOn a ss at i s → Leads a ss at i s
leads_stronger a ss at i s low next l = (l.0, l.1, (λ to n. handed to (low to n) (l.2 to n)), λ g. handed (suc at) (next g) (l.3 g))
  where
    handed : (to : ℕ) → to < length ss → CoversAt ss l.0 to → HandedTo ss l.0 to
    handed to h f = let k = slice_get-get_or ss to s h in (get_or ss to s, k, f (get_or ss to s) k)

pub verified_fits : (a : Area) (ss : List State) → IsVerifiedBy a ss → (at : ℕ) → FitsAt a ss at
verified_fits a ss v at = record {
  states = λ e. v.states;
  instruction = λ i h. record {
    leads = λ s g. leads_weaker a ss at i s (v.leads at i s h g);
    ahead = v.ahead at;
    next = v.next at;
    there = v.there at i h;
    keys = keys_of a i v.keys (v.there at i h);
    others = v.choices.others at;
    behind = λ t. v.choices.behind at (i, h, t);
  };
  before = record {
    named_once = v.choices.named_once at;
    named_alone = λ from. v.choices.named_alone from at;
    not_fallen = λ from. v.choices.not_fallen from at;
    no_start = v.choices.no_start at;
    before = v.choices.before at;
    not_named = λ from. v.choices.not_named from at;
    no_start_behind = v.choices.no_start_behind at;
  };
  entries = λ n e h g. record { begins = v.entries n e h; name = all_get (λ x. IsAtom a x.name) a.entries n e v.predicate_names h };
  queries = λ n q h g. record {
    begins = v.firsts n q h;
    span = span_of_query a ss q (v.queries n q h);
    apart = λ m p r k x y. v.apart n m p q r h k x y;
    names = all_get (λ x. All (λ c. IsAtom a c) x.names) a.queries n q v.query_names h;
  };
  answers = answers;
  shown = λ n q h hq l s g. (v.queries n q hq).shown at s l.1 g;
  tables = λ e. v.keys;
}
  where
    answers : Holds a at AnswerNow → IsLast a at
    answers h = let g = v.answers at h in (g.0, g.1, g.2, ((omega (arith, (v.queries g.0 g.1 g.2).some, g.3), omega (arith, g.3)), g.3))

pub fits_verified : (a : Area) (ss : List State) → ((at : ℕ) → FitsAt a ss at) → IsVerifiedBy a ss
fits_verified a ss f = record {
  states = (f (min (length ss) (length a.code))).states refl;
  leads = λ at i s h g.
      let own = (f at).instruction i h in
      let size : length ss ≡ length a.code = (f (min (length ss) (length a.code))).states refl in
      leads_stronger a ss at i s (λ to n. (let k = own.ahead to (i, h, n) in let l : to < length ss = omega (arith, k.1, size) in
      l)) (λ n. (let k = own.next (suc at) (i, h, n, refl) in let l : suc at < length ss = omega (arith, k, size) in l)) (own.leads s g);
  ahead = λ at to n. ((f at).instruction n.0 n.1).ahead to n;
  next = λ at to n. ((f at).instruction n.0 n.1).next to n;
  entries = λ n e h. ((f e.at).entries n e h refl).begins;
  firsts = λ n q h. ((f q.at).queries n q h refl).begins;
  queries = λ n q h. query_of_span a ss q ((f q.at).queries n q h refl).span (λ at x l. (f at).shown n q x h l);
  apart = λ n m at p q h g x y. ((f p.at).queries n p h refl).apart m at q g x y;
  answers = λ at h. let g = (f at).answers h in (g.0, g.1, g.2, g.3.1);
  choices = record {
    others = λ at to n. let w = other_names a at to n in ((f at).instruction w.0 w.1).others to n;
    named_once = λ to. (f to).before.named_once;
    named_alone = λ at to. (f to).before.named_alone at;
    not_fallen = λ at to. (f to).before.not_fallen at;
    no_start = λ to. (f to).before.no_start;
    behind = λ at h. ((f at).instruction h.0 h.1).behind h.2;
    before = λ to. (f to).before.before;
    not_named = λ at to. (f to).before.not_named at;
    no_start_behind = λ to. (f to).before.no_start_behind;
  };
  there = λ at i h. ((f at).instruction i h).there;
  keys = (f (length a.code)).tables refl;
  predicate_names = all_from (λ x. IsAtom a x.name) a.entries (λ n e h. ((f e.at).entries n e h refl).name);
  query_names = all_from (λ x. All (λ c. IsAtom a c) x.names) a.queries (λ n q h. ((f q.at).queries n q h refl).names);
}
