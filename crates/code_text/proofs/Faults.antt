-- What is told of code that isn't verified.
use Rattle.std.proofs.Common.{◌≡◌, ◌⊎◌, ℕ, ◌<◌, ◌≤◌, ◌-◌, List, length, min, Option, Some, None, refl, sym, ◌∙◌, subst, inl, inr, arith}
use Rattle.std.proofs.lemmas.Bool.{cases_lt}
use Rattle.std.specs.Prelude.{MatchOption}
use Rattle.wam_code.specs.declared.instruction.Code.TheVariants.{AnswerNow}
use Rattle.wam_code.specs.declared.parts.Entry.{Entry}
use Rattle.wam_code.specs.Area.{State, Span, Area, Holds, HasEntry, HasQuery}
use Rattle.code_text.specs.LocalConditions.{AreAloneTold, FitsAlone, IsAnswerTold, AreAnswersTold}
use Rattle.code_flow.specs.PlaceConditions.{FitsAt, FitsEntry, FitsQuery, IsLastOf, ShowsAt, IsFirstFailing}
use Rattle.code_text.specs.Owners.{owner_at, AreOwners, IsOwnerTold, IsOwnersPlace, AreCrossings}
use Rattle.code_text.specs.Places.{FitsPlace, IsEntryTold, AreSpansTold, HasAllKeys}
use Rattle.code_text.specs.FaultPlaces.{IsTold, IsFault, Tells, TellsFaults}
use Rattle.code_text.proofs.QueryCrossings.{query_fits, entry_fails}
use Rattle.code_text.proofs.PlaceOwners.{owners_kept, one_query}
use Rattle.code_text.proofs.PlaceConditions.{place_past}
use Rattle.code_text.proofs.CrossingFaults.{crossings_kept}
use Rattle.code_text.proofs.FaultPlaces.{faults_by}

-- ---- what fits at a place

pub place_of : (a : Area) (ss : List State) (at : ℕ) → FitsAt a ss at → FitsPlace a ss at
place_of a ss at f = record { instruction = f.instruction; before = f.before; answers = f.answers }

pub alone_of : (a : Area) (ss : List State) (n : ℕ) (q : Span) → FitsQuery a ss n q → FitsAlone a ss q
alone_of a ss n q f = record { some = f.span.some; within = f.span.within; last = f.span.last; begins = f.begins; names = f.names }

-- ---- what stays told

pub fits_kept : (A : Type 0) (old new : Option ℕ) (p : ℕ) → ((p : ℕ) → IsTold old p → IsTold new p) → A ⊎ IsTold old p → A ⊎ IsTold new p
fits_kept A old new p kept (inl x) = inl x
fits_kept A old new p kept (inr t) = inr (kept p t)

pub answer_kept : (a : Area) (ss : List State) (old new : Option ℕ) (q : Span) → ((p : ℕ) → IsTold old p → IsTold new p) → IsAnswerTold a ss old q → IsAnswerTold a ss new q
answer_kept a ss old new q kept f at x l = fits_kept (ShowsAt ss at (length q.names)) old new at kept (f at x l)

pub entry_kept : (a : Area) (ss : List State) (own : List (Option ℕ)) (old new : Option ℕ) (n : ℕ) → ((p : ℕ) → IsTold old p → IsTold new p) → IsEntryTold a ss own old n → IsEntryTold a ss own new n
entry_kept a ss own old new n kept f e h = let g = f e h in (fits_kept (FitsEntry a ss e) old new e.at kept g.0, λ m q x y. kept q.at (g.1 m q x y))

-- told or not
told_or_not : (o : Option ℕ) (p : ℕ) → IsTold o p ⊎ ¬ IsTold o p
told_or_not None p = inr (λ t. t)
told_or_not (Some f) p = go (cases_lt p f)
  where
    go : (p < f) ⊎ (f ≤ p) → (f ≤ p) ⊎ ¬ (f ≤ p)
    go (inl l) = inr (λ g. (let z : ⊥ = omega (arith, l, g) in z))
    go (inr l) = inl l

-- ---- what fails at a place

module _ (a : Area) (ss : List State) where
  pub lengths_fault : (old new : Option ℕ) → ¬ (length ss ≡ length a.code) → Tells (λ p. p ≡ min (length ss) (length a.code)) old new → TellsFaults a ss old new
  lengths_fault old new ne t = faults_by a ss (λ p. p ≡ min (length ss) (length a.code)) old new t (λ p e never f. ne (f.states e))

  pub place_fault : (old new : Option ℕ) (at : ℕ) → ¬ FitsPlace a ss at → Tells (λ p. p ≡ at) old new → TellsFaults a ss old new
  place_fault old new at miss t = faults_by a ss (λ p. p ≡ at) old new t (λ p e never f. miss (place_of a ss at (subst (FitsAt a ss) e f)))

  pub tables_fault : (old new : Option ℕ) → ¬ HasAllKeys a → Tells (λ p. p ≡ length a.code) old new → TellsFaults a ss old new
  tables_fault old new miss t = faults_by a ss (λ p. p ≡ length a.code) old new t (λ p e never f. miss (f.tables e))

  module _ (n : ℕ) (q : Span) (h : HasQuery a n q) where
    pub alone_fault : (old new : Option ℕ) → ¬ FitsAlone a ss q → Tells (λ p. p ≡ q.at) old new → TellsFaults a ss old new
    alone_fault old new miss t = faults_by a ss (λ p. p ≡ q.at) old new t (λ p e never f. miss (alone_of a ss n q (f.queries n q h (sym e))))

    pub answer_fault : (old new : Option ℕ) → q.at < q.end → Holds a (q.end - 1) AnswerNow → ¬ ShowsAt ss (q.end - 1) (length q.names) → Tells (λ p. p ≡ q.end - 1) old new → TellsFaults a ss old new
    answer_fault old new some x miss t = faults_by a ss (λ p. p ≡ q.end - 1) old new t fails
      where
        fails : (p : ℕ) → p ≡ q.end - 1 → ¬ IsTold old p → ¬ FitsAt a ss p
        fails p e never f =
            let here : Holds a p AnswerNow = subst (λ k. Holds a k AnswerNow) (sym e) x in
            let last : IsLastOf q p = ((omega (arith, e, some), omega (arith, e, some)), omega (arith, e, some)) in
            miss (subst (λ k. ShowsAt ss k (length q.names)) e (f.shown n q here h last))

    pub answer_found : (told : Option ℕ) → IsAnswerTold a ss told q → (r : Span) → HasQuery a n r → IsAnswerTold a ss told r
    answer_found told x r g = subst (λ (y : Span). IsAnswerTold a ss told y) (one_query a n q r h g) x

    pub alone_found : (told : Option ℕ) → FitsAlone a ss q ⊎ IsTold told q.at → (r : Span) → HasQuery a n r → FitsAlone a ss r ⊎ IsTold told r.at
    alone_found told x r g = subst (λ (y : Span). FitsAlone a ss y ⊎ IsTold told y.at) (one_query a n q r h g) x

  module _ (n : ℕ) (x : Entry) (h : HasEntry a n x) where
    one_entry : (e : Entry) → HasEntry a n e → x ≡ e
    one_entry e g = let f : Some x ≡ Some e = sym h ∙ g in cc (f)

    pub entry_told : (own : List (Option ℕ)) (told : Option ℕ) → FitsEntry a ss x ⊎ IsTold told x.at → IsOwnerTold a (owner_at own x.at) told → IsEntryTold a ss own told n
    entry_told own told f o e g = subst (λ (y : Entry). (FitsEntry a ss y ⊎ IsTold told y.at) × IsOwnerTold a (owner_at own y.at) told) (one_entry e g) (f, o)

    pub entry_fault : (old new : Option ℕ) → ¬ FitsEntry a ss x → Tells (λ p. p ≡ x.at) old new → TellsFaults a ss old new
    entry_fault old new miss t = faults_by a ss (λ p. p ≡ x.at) old new t (λ p e never f. miss (f.entries n x h (sym e)))

    pub owner_fault : (own : List (Option ℕ)) (old new : Option ℕ) → AreOwners a (length a.code) old own → Tells (IsOwnersPlace a (owner_at own x.at)) old new → TellsFaults a ss old new
    owner_fault own old new o t = faults_by a ss (IsOwnersPlace a (owner_at own x.at)) old new t (λ p z never f. entry_fails a own old o ss p never f n x h z)

-- ---- predicates and queries

module _ (a : Area) (ss : List State) (own : List (Option ℕ)) (told entered crossed new : Option ℕ) where
  pub spans_told : AreOwners a (length a.code) told own → ((p : ℕ) → IsTold told p → IsTold new p)
      → ((n : ℕ) → n < length a.entries → IsEntryTold a ss own entered n) → ((p : ℕ) → IsTold entered p → IsTold new p)
      → ((at : ℕ) → at < length a.code → AreCrossings a own crossed at) → ((p : ℕ) → IsTold crossed p → IsTold new p) → AreAloneTold a ss new
      → AreAnswersTold a ss new → ((n : ℕ) (e : Entry) → HasEntry a n e → n < length a.entries) → AreSpansTold a ss new
  spans_told o first es second cs third alone answers low = record { entries = λ n e h. (es_new n e h).0; queries = queries; answers = answers }
    where
      es_new : (n : ℕ) → IsEntryTold a ss own new n
      es_new n e h = entry_kept a ss own entered new n second (es n (low n e h)) e h

      cs_new : (at : ℕ) → at < length a.code → AreCrossings a own new at
      cs_new at l = crossings_kept a own crossed new third at (cs at l)

      queries : (n : ℕ) (q : Span) → HasQuery a n q → FitsQuery a ss n q ⊎ IsTold new q.at
      queries n q h = go (told_or_not new q.at) (alone n q h)
        where
          go : IsTold new q.at ⊎ ¬ IsTold new q.at → FitsAlone a ss q ⊎ IsTold new q.at → FitsQuery a ss n q ⊎ IsTold new q.at
          go (inl t) f = inr t
          go (inr never) (inr t) = inr t
          go (inr never) (inl f) = inl (query_fits a own new (owners_kept a (length a.code) told new own first o) ss cs_new (λ k e x. (es_new k e x).1) n q h never f)

pub spans_kept : (a : Area) (ss : List State) (old new : Option ℕ) → ((p : ℕ) → IsTold old p → IsTold new p) → AreSpansTold a ss old → AreSpansTold a ss new
spans_kept a ss old new kept s = record {
  entries = λ n e h. fits_kept (FitsEntry a ss e) old new e.at kept (s.entries n e h);
  queries = λ n q h. fits_kept (FitsQuery a ss n q) old new q.at kept (s.queries n q h);
  answers = λ n q h. answer_kept a ss old new q kept (s.answers n q h);
}

-- ---- all places

module _ (a : Area) (ss : List State) (told : Option ℕ) (lengths : (length ss ≡ length a.code) ⊎ IsTold told (min (length ss) (length a.code)))
    (tables : HasAllKeys a ⊎ IsTold told (length a.code)) (spans : AreSpansTold a ss told)
    (places : (at : ℕ) → at < length a.code → FitsPlace a ss at ⊎ IsTold told at) where
  module _ (at : ℕ) (never : ¬ IsTold told at) where
    not_told : (A : Type 0) (p : ℕ) → p ≡ at → A ⊎ IsTold told p → A
    not_told A p e (inl x) = x
    not_told A p e (inr t) = absurd (never (subst (IsTold told) e t))

    place : FitsPlace a ss at
    place = go (cases_lt at (length a.code))
      where
        go : (at < length a.code) ⊎ (length a.code ≤ at) → FitsPlace a ss at
        go (inl l) = not_told (FitsPlace a ss at) at refl (places at l)
        go (inr l) = place_past a ss at l

    pub all_fit : FitsAt a ss at
    all_fit = record {
      states = λ e. not_told (length ss ≡ length a.code) (min (length ss) (length a.code)) (sym e) lengths;
      instruction = place.instruction;
      before = place.before;
      entries = λ n e h z. not_told (FitsEntry a ss e) e.at z (spans.entries n e h);
      queries = λ n q h z. not_told (FitsQuery a ss n q) q.at z (spans.queries n q h);
      answers = place.answers;
      shown = λ n q x h l. not_told (ShowsAt ss at (length q.names)) at refl (spans.answers n q h at x l);
      tables = λ e. not_told (HasAllKeys a) (length a.code) (sym e) tables;
    }

  pub none_told : told ≡ None → (at : ℕ) → FitsAt a ss at
  none_told e at = all_fit at (λ t. subst (λ o. IsTold o at) e t)

  pub first_told : (p : ℕ) → told ≡ Some p → IsFault a ss told → IsFirstFailing a ss p
  first_told p e f = record { fails = subst (IsFault a ss) e f; before = λ k l. all_fit k (λ t. (let g : p ≤ k = subst (λ o. IsTold o k) e t in let z : ⊥ = omega (arith, g, l) in z)) }

  pub told_result : IsFault a ss told → MatchOption told ((at : ℕ) → FitsAt a ss at) (IsFirstFailing a ss)
  told_result f = go told refl
    where
      go : (o : Option ℕ) → told ≡ o → MatchOption o ((at : ℕ) → FitsAt a ss at) (IsFirstFailing a ss)
      go None e = none_told e
      go (Some p) e = first_told p e f
