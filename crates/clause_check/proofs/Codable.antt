-- There is code for the program of accepted sentences.
use Rattle.std.proofs.Common.{◌≡◌, ℕ, zero, suc, ◌≤◌, Bool, true, false, cond, nat_lt, List, [], ◌∷◌, map, drop, Option, Some, None, refl, sym, ap}
use Rattle.std.proofs.Common.{subst, arith}
use Rattle.fd_language.specs.Term.{Name, term_count}
use Rattle.std.proofs.lemmas.Bool.{ltb-false}
use Rattle.std.specs.Str.{bytes_eq}
use Rattle.std.specs.Prelude.{codes, IsTrue, slice_get}
use Rattle.fd_model.proofs.Lemmas.{either, first_none, later_none}
use Rattle.range_terms.proofs.Lemmas.{least_none}
use Rattle.fd_language.proofs.Lemmas.{first_nil, second_nil}
use Rattle.fd_language.specs.PlacedTerm.{PlacedTerm, PlacedTerms, var, int, atom, comp, no_parts, part, plain, all_plain}
use Rattle.fd_language.specs.Lists.{Each}
use Rattle.fd_language.specs.Reading.{Sentence}
use Rattle.fd_language.specs.Spelling.{least_place}
use Rattle.fd_model.specs.Forms.{GoalForm, truth, failure, unification, posting, cutting, constraint, labelling, optimum, builtin, forms, form_in}
use Rattle.fd_model.specs.Refusals.{SentenceKind, query, clause, directive, fact, form_of, Functor, functor_of, second_part, part_count, most_arguments}
use Rattle.fd_model.specs.Refusals.{wide_places, wide_places_of, too_wide, clause_refusal, sentence_refusal, first_refusal}
use Rattle.fd_model.specs.Queries.{first_part, goal_by_form, goal_named, form_of_functor, goal_of, best_of, followed, either_way, body_goals, is_shown}
use Rattle.fd_model.specs.Queries.{shown_from, queries_by, queries_of, clauses_by, clauses_of, program_of}
use Rattle.fd_model.specs.Goal.{Goals, no_goals, goal, listed, True, Fail, Unify, Post, Constrain, Label, Call, Either, Builtin, Cut, If, IfElse, Not, Best}
use Rattle.fd_model.specs.Goal.{Clause, Query}
use Rattle.term_reader.specs.GivenParts.{AreSome, HasParts, EachHasParts}
use Rattle.clause_check.proofs.FormNames.{counted}
use Rattle.clause_check.specs.Codable.{IsNarrow, AreNarrow, is_named, IsCodableGoal, AreCodableGoals, EachCodable, ClausesCodable, AreOnce, QueriesCodable}
use Rattle.clause_check.specs.Codable.{IsCodable}

-- ---- terms

abbrev AsTerm : PlacedTerm → Type 0
AsTerm t = IsNarrow (plain t)

some_given : (ts : PlacedTerms) → AreSome ts → 1 ≤ term_count (all_plain ts)
some_given no_parts h = absurd h
some_given (part t ts) h = omega arith

few : (n : ℕ) (b : Bool) (p : ℕ) (ps : List ℕ) → nat_lt most_arguments n ≡ b → cond b (p ∷ ps) ps ≡ [] → (n ≤ most_arguments) × (ps ≡ [])
few n true p ps h e = absurd cc
few n false p ps h e = (ltb-false most_arguments n h, e)

mutual
  term_narrow : (t : PlacedTerm) → wide_places t ≡ [] → HasParts t → IsNarrow (plain t)
  term_narrow (var x p) e k = tt
  term_narrow (int z p) e k = tt
  term_narrow (atom a p) e k = tt
  term_narrow (comp f p ts) e k =
      let h = few (part_count ts) (nat_lt most_arguments (part_count ts)) p (wide_places_of ts) refl e in
      (some_given ts k.0, subst (λ n. n ≤ most_arguments) (sym (counted ts)) h.0, terms_narrow ts h.1 k.1)

  terms_narrow : (ts : PlacedTerms) → wide_places_of ts ≡ [] → EachHasParts ts → AreNarrow (all_plain ts)
  terms_narrow no_parts e k = tt
  terms_narrow (part t ts) e k =
      (term_narrow t (first_nil (wide_places t) (wide_places_of ts) e) k.0, terms_narrow ts (second_nil (wide_places t) (wide_places_of ts) e) k.1)

-- ---- goals

second_narrow : (t : PlacedTerm) → AsTerm t → AsTerm (second_part t)
second_narrow (comp f p (part a (part b ts))) h = h.2.1.0
second_narrow (comp f p (part a no_parts)) h = h
second_narrow (comp f p no_parts) h = h
second_narrow (var x p) h = h
second_narrow (int z p) h = h
second_narrow (atom a p) h = h

first_narrow : (t : PlacedTerm) → AsTerm t → AsTerm (first_part t)
first_narrow (comp f p (part a ts)) h = h.2.0
first_narrow (comp f p no_parts) h = h
first_narrow (var x p) h = h
first_narrow (int z p) h = h
first_narrow (atom a p) h = h

-- a built-in predicate is none of the goals that have a form of their own, and no best leaf is sought
abbrev IsOwn : GoalForm → Type 0
IsOwn (builtin k) = IsTrue (is_named k)
IsOwn _ = Unit {0}

abbrev IsOwnIfAny : Option GoalForm → Type 0
IsOwnIfAny None = Unit {0}
IsOwnIfAny (Some form) = IsOwn form

abbrev AreOwnRows : List (Name × GoalForm) → Type 0
AreOwnRows [] = Unit {0}
AreOwnRows (row ∷ rows) = IsOwn row.1 × AreOwnRows rows

own_in : (rows : List (Name × GoalForm)) (a : Name) → AreOwnRows rows → IsOwnIfAny (form_in rows a)
own_in [] a h = tt
own_in (row ∷ rows) a h = either IsOwnIfAny (bytes_eq a row.0) (Some row.1) (form_in rows a) h.0 (own_in rows a h.1)

own_rows : (n : ℕ) → AreOwnRows (forms n)
own_rows zero = (tt, (tt, (tt, (tt, (refl, tt)))))
own_rows (suc zero) = (refl, (refl, (refl, (refl, (refl, (refl, (refl, (tt, (tt, (tt, tt))))))))))
own_rows (suc (suc zero)) = (tt, (refl, (refl, (refl, (refl, (refl, (refl, (refl, (refl, (refl, own_constraints))))))))))
  where
    own_last : AreOwnRows (drop 19 (forms 2))
    own_last = (refl, (refl, (refl, (refl, (tt, (tt, tt))))))

    own_constraints : AreOwnRows (drop 10 (forms 2))
    own_constraints = (tt, (tt, (tt, (tt, (tt, (tt, (tt, (tt, (tt, own_last)))))))))
own_rows (suc (suc (suc zero))) = (tt, (tt, (tt, (tt, tt))))
own_rows (suc (suc (suc (suc n)))) = tt

own_form : (f : Option Functor) → IsOwnIfAny (form_of_functor f)
own_form None = tt
own_form (Some f) = own_in (forms f.arity) f.name (own_rows f.arity)

best_codable : (least : Bool) (f : Option GoalForm) (g c : PlacedTerm) → AsTerm g → AsTerm c → IsCodableGoal (best_of least f g c)
best_codable least (Some (labelling o)) g c h k = (first_narrow g h, k)
best_codable least (Some truth) g c h k = tt
best_codable least (Some failure) g c h k = tt
best_codable least (Some cutting) g c h k = tt
best_codable least (Some unification) g c h k = tt
best_codable least (Some posting) g c h k = tt
best_codable least (Some (constraint kind)) g c h k = tt
best_codable least (Some (optimum b)) g c h k = tt
best_codable least (Some (builtin b)) g c h k = tt
best_codable least None g c h k = tt

form_codable : (N : ℕ) (form : GoalForm) → IsOwn form → (t : PlacedTerm) → AsTerm t → IsCodableGoal (goal_by_form N form t)
form_codable N truth k t h = tt
form_codable N failure k t h = tt
form_codable N cutting k t h = tt
form_codable N unification k t h = (first_narrow t h, second_narrow t h)
form_codable N posting k t h = first_narrow t h
form_codable N (constraint c) k t h = h
form_codable N (labelling o) k t h = first_narrow t h
form_codable N (optimum least) k t h = best_codable least (form_of_functor (functor_of (first_part t))) (first_part t) (second_part t) (first_narrow t h) (second_narrow t h)
form_codable N (builtin b) k t h = (k, h)

named_codable : (N : ℕ) (o : Option GoalForm) → IsOwnIfAny o → (t : PlacedTerm) → AsTerm t → IsCodableGoal (goal_named N o t)
named_codable N (Some form) k t h = form_codable N form k t h
named_codable N None k t h = h

followed_codable : (gs hs : Goals) → AreCodableGoals gs → AreCodableGoals hs → AreCodableGoals (followed gs hs)
followed_codable no_goals hs h k = k
followed_codable (goal g gs) hs h k = (h.0, followed_codable gs hs h.1 k)

either_codable : (gs hs : Goals) → AreCodableGoals gs → AreCodableGoals hs → IsCodableGoal (either_way gs hs)
either_codable no_goals hs h k = (h, k)
either_codable (goal (If test holds) no_goals) hs h k = (h.0.0, h.0.1, k)
either_codable (goal (If test holds) (goal g gs)) hs h k = (h, k)
either_codable (goal True gs) hs h k = (h, k)
either_codable (goal Fail gs) hs h k = (h, k)
either_codable (goal (Unify s t) gs) hs h k = (h, k)
either_codable (goal (Post t r) gs) hs h k = (h, k)
either_codable (goal (Constrain c t) gs) hs h k = (h, k)
either_codable (goal (Label o t) gs) hs h k = (h, k)
either_codable (goal (Call t) gs) hs h k = (h, k)
either_codable (goal (Either a b) gs) hs h k = (h, k)
either_codable (goal (Builtin b t) gs) hs h k = (h, k)
either_codable (goal (Cut c) gs) hs h k = (h, k)
either_codable (goal (IfElse a b c) gs) hs h k = (h, k)
either_codable (goal (Not a) gs) hs h k = (h, k)
either_codable (goal (Best o l t c) gs) hs h k = (h, k)

module _ (N : ℕ) where
  one_codable : (t : PlacedTerm) → AsTerm t → AreCodableGoals (goal (goal_of N t) no_goals)
  one_codable t h = (named_codable N (form_of_functor (functor_of t)) (own_form (functor_of t)) t h, tt)

  -- by the name of a term with two parts
  two_codable : (comma semicolon arrow : Bool) (t : PlacedTerm) (gs hs : Goals) → AsTerm t → AreCodableGoals gs → AreCodableGoals hs
      → AreCodableGoals (cond comma (followed gs hs) (cond semicolon (goal (either_way gs hs) no_goals) (cond arrow (goal (If gs hs) no_goals) (goal (goal_of N t) no_goals))))
  two_codable true b c t gs hs w left right = followed_codable gs hs left right
  two_codable false true c t gs hs w left right = (either_codable gs hs left right, tt)
  two_codable false false true t gs hs w left right = ((left, right), tt)
  two_codable false false false t gs hs w left right = one_codable t w

  -- and of one with one part
  negation_codable : (is : Bool) (t : PlacedTerm) (gs : Goals) → AsTerm t → AreCodableGoals gs → AreCodableGoals (cond is (goal (Not gs) no_goals) (goal (goal_of N t) no_goals))
  negation_codable true t gs w own = (own, tt)
  negation_codable false t gs w own = one_codable t w

  body_codable : (t : PlacedTerm) → AsTerm t → AreCodableGoals (body_goals N t)
  body_codable (comp f p (part a (part b no_parts))) h =
      two_codable (bytes_eq f (codes ",")) (bytes_eq f (codes ";")) (bytes_eq f (codes "->")) (comp f p (part a (part b no_parts))) (body_goals N a) (body_goals N b) h
      (body_codable a h.2.0) (body_codable b h.2.1.0)
  body_codable (comp f p (part a (part b (part c ts)))) h = one_codable (comp f p (part a (part b (part c ts)))) h
  body_codable (comp f p (part a no_parts)) h = negation_codable (bytes_eq f (codes "\\+")) (comp f p (part a no_parts)) (body_goals N a) h (body_codable a h.2.0)
  body_codable (comp f p no_parts) h = one_codable (comp f p no_parts) h
  body_codable (var x p) h = one_codable (var x p) h
  body_codable (int z p) h = one_codable (int z p) h
  body_codable (atom a p) h = one_codable (atom a p) h

listed_codable : (gs : Goals) → AreCodableGoals gs → EachCodable (listed gs)
listed_codable no_goals h = tt
listed_codable (goal g gs) h = (h.0, listed_codable gs h.1)

-- ---- sentences

abbrev FormNarrow : SentenceKind → Type 0
FormNarrow (query b) = AsTerm b
FormNarrow (clause h b) = AsTerm h × AsTerm b
FormNarrow directive = Unit {0}
FormNarrow (fact t) = AsTerm t

sentence_form_codable : (t : PlacedTerm) → AsTerm t → FormNarrow (form_of t)
sentence_form_codable (comp f p (part b no_parts)) h =
    either FormNarrow (bytes_eq f (codes "?-")) (query b) _ h.2.0 (either FormNarrow (bytes_eq f (codes ":-")) directive (fact (comp f p (part b no_parts))) tt h)
sentence_form_codable (comp f p (part a (part b no_parts))) h = either FormNarrow (bytes_eq f (codes ":-")) (clause a b) (fact (comp f p (part a (part b no_parts)))) (h.2.0, h.2.1.0) h
sentence_form_codable _ h = h

-- the numbers shown rise
abbrev IsFrom : ℕ → List ℕ → Type 0
IsFrom n xs = (i x : ℕ) → slice_get xs i ≡ Some x → n ≤ x

from_more : (n : ℕ) (xs : List ℕ) → IsFrom (suc n) xs → IsFrom n xs
from_more n xs h i x e = omega (arith, h i x e)

from_with : (n : ℕ) (xs : List ℕ) → IsFrom (suc n) xs → IsFrom n (n ∷ xs)
from_with n xs h zero x e = let k : n ≡ x = cc in omega (arith, k)
from_with n xs h (suc i) x e = omega (arith, h i x e)

shown_rise : (n : ℕ) (names : List Name) → IsFrom n (shown_from n names)
shown_rise n [] = λ i x e. absurd cc
shown_rise n (name ∷ names) =
    let later = shown_rise (suc n) names in
    either (IsFrom n) (is_shown name) (n ∷ shown_from (suc n) names) (shown_from (suc n) names) (from_with n (shown_from (suc n) names) later) (from_more n (shown_from (suc n) names) later)

once_with : (n : ℕ) (xs : List ℕ) → IsFrom (suc n) xs → AreOnce xs → AreOnce (n ∷ xs)
once_with n xs h o zero zero x e k = refl
once_with n xs h o zero (suc j) x e k = let m : n ≡ x = cc in absurd (omega (arith, m, h j x k))
once_with n xs h o (suc i) zero x e k = let m : n ≡ x = cc in absurd (omega (arith, m, h i x e))
once_with n xs h o (suc i) (suc j) x e k = ap suc (o i j x e k)

once : (n : ℕ) (names : List Name) → AreOnce (shown_from n names)
once n [] = λ i j x h k. absurd cc
once n (name ∷ names) =
    let later = once (suc n) names in
    either AreOnce (is_shown name) (n ∷ shown_from (suc n) names) (shown_from (suc n) names) (once_with n (shown_from (suc n) names) (shown_rise (suc n) names) later) later

query_codable : (N : ℕ) (s : Sentence) (form : SentenceKind) (later : List Query) → FormNarrow form → QueriesCodable later → QueriesCodable (queries_by N s.names form later)
query_codable N s (query b) later h g = ((once 0 s.names, listed_codable (body_goals N b) (body_codable N b h)), g)
query_codable N s _ later h g = g

clause_codable : (N : ℕ) (s : Sentence) (form : SentenceKind) (later : List Clause) → FormNarrow form → ClausesCodable later → ClausesCodable (clauses_by N s.names form later)
clause_codable N s (query b) later h g = g
clause_codable N s (clause t b) later h g = ((h.0, listed_codable (body_goals N b) (body_codable N b h.1)), g)
clause_codable N s directive later h g = g
clause_codable N s (fact t) later h g = ((h, tt), g)

-- ---- the text

not_wide : (o : Option ℕ) → too_wide o ≡ None → o ≡ None
not_wide None e = refl
not_wide (Some p) e = absurd cc

sentences_codable : (M N : ℕ) (all : List PlacedTerm) (ss : List Sentence) → first_refusal M N all (map (λ s. s.term) ss) ≡ None → Each (λ s. HasParts s.term) ss
    → ClausesCodable (clauses_of N ss) × QueriesCodable (queries_of N ss)
sentences_codable M N all [] h k = (tt, tt)
sentences_codable M N all (s ∷ ss) h k =
    let here = first_none (sentence_refusal M N all s.term) (first_refusal M N all (map (λ s. s.term) ss)) h in
    let mine = first_none (too_wide (least_place (wide_places s.term))) (clause_refusal M N all s.term (form_of s.term)) here in
    let narrow : AsTerm s.term = term_narrow s.term (least_none (wide_places s.term) (not_wide (least_place (wide_places s.term)) mine)) k.0 in
    let form = sentence_form_codable s.term narrow in
    let others = sentences_codable M N all ss (later_none (sentence_refusal M N all s.term) (first_refusal M N all (map (λ s. s.term) ss)) h) k.1 in
    (clause_codable N s (form_of s.term) (clauses_of N ss) form others.0, query_codable N s (form_of s.term) (queries_of N ss) form others.1)

-- there is code for the program of sentences of which none is refused
pub accepted_codable : (M N : ℕ) (all : List PlacedTerm) (ss : List Sentence) → first_refusal M N all (map (λ s. s.term) ss) ≡ None → Each (λ s. HasParts s.term) ss → IsCodable (program_of N ss)
accepted_codable M N all ss h k = let both = sentences_codable M N all ss h k in record { clauses = both.0; queries = both.1 }
