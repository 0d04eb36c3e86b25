-- The predicates of clauses, with one more clause.
use Rattle.std.proofs.Common.{◌≡◌, ℕ, ◌+◌, ◌<◌, Bool, true, false, cond, List, [], ◌∷◌, ◌++◌, Option, Some, None, length, map, take, get_or, refl, sym, ap, ap₂, ◌∙◌, subst}
use Rattle.std.proofs.Common.{append_assoc, append-nil, true≢false, inl, inr}
use Rattle.std.specs.Prelude.{◌&&◌, ◌||◌, not, filter}
use Rattle.std.specs.List.{list_any}
use Rattle.std.proofs.lemmas.List.{take_more, map-append}
use Rattle.std.proofs.lemmas.List.Elements.{filter-append}
use Rattle.std.proofs.Math.Bool.{or-false}
use Rattle.indexmap.specs.IndexSet.{insert_key}
use Rattle.text_warnings.specs.declared.terms.Functor.{Functor}
use Rattle.text_warnings.specs.declared.terms.Filed.{Filed}
use Rattle.text_warnings.specs.declared.clauses.Clause.{Clause}
use Rattle.text_warnings.specs.declared.Warning.{Warning}
use Rattle.text_warnings.specs.Runs.{is_known, is_front, firsts_behind, resumed_behind, repeated_behind}
use Rattle.text_warnings.specs.Terms.{is_after, same_numbers, same_filed}
use Rattle.text_warnings.specs.WarningViews.{key_of}
use Rattle.text_warnings.specs.Graphs.{apart_at, two_at, unreached_at, filed_at, file_firsts, firsts, resumed, repeated, is_missed, unreached_among, AreKeys}
use Rattle.text_warnings.proofs.RunSteps.{behind, behind_more, firsts_more, resumed_more, repeated_more}
use Rattle.text_warnings.proofs.Functors.{any_insert, any_inserted, equal_filed, same_itself}
use Rattle.text_warnings.proofs.ReachedNumbers.{or_cases, or_left, or_right}

-- ---- clauses with a key

-- what is kept of these clauses: the keys that they have, and the first clause of each
pub record HasFirsts {F : Type 0} (same : F → F → Bool) (key : Clause → F) (ks : List Clause) (keys : List F) (first : List Clause) : Type 0 where
  pub keys_are : (f : F) → list_any (same f) keys ≡ list_any (same f) (behind same key [] ks)
  pub first_is : first ≡ firsts_behind same key [] ks

module _ {F : Type 0} (same : F → F → Bool) (key : Clause → F)
    (inserted : (heads : List F) (f g : F) → list_any (same f) (insert_key same heads g) ≡ (same f g || list_any (same f) heads)) where
  -- the keys of the clauses, the last one first
  abbrev passed : List Clause → List F
  passed ks = behind same key [] ks

  -- with one more clause
  pub firsts_next : (ks : List Clause) (k : Clause) (keys new : List F) (first next : List Clause) → HasFirsts same key ks keys first → new ≡ insert_key same keys (key k)
      → next ≡ first ++ cond (list_any (same (key k)) keys) [] (k ∷ []) → HasFirsts same key (ks ++ k ∷ []) new next
  firsts_next ks k keys new first next h n f =
      let known : list_any (same (key k)) keys ≡ is_known same key (passed ks) (key k) = h.keys_are (key k) in
      record {
        keys_are = λ g.
            ap (list_any (same g)) n ∙ inserted keys g (key k) ∙ ap (λ (b : Bool). same g (key k) || b) (h.keys_are g)
            ∙ ap (list_any (same g)) (sym (behind_more same key [] ks k));
        first_is = f ∙ ap₂ (λ (l : List Clause) (b : Bool). l ++ cond b [] (k ∷ [])) h.first_is known ∙ sym (firsts_more same key [] ks k);
      }

  -- warnings of some of these clauses
  module _ (at : Clause → Warning) where
    one_of : (b : Bool) (k : Clause) → map at (cond b (k ∷ []) []) ≡ cond b (at k ∷ []) []
    one_of true k = refl
    one_of false k = refl

    warned_next : (b d : Bool) (chosen next : List Clause) (k : Clause) (old warnings later : List Warning) → d ≡ b → next ≡ chosen ++ cond b (k ∷ []) []
        → later ≡ warnings ++ cond d (at k ∷ []) [] → warnings ≡ old ++ map at chosen → later ≡ old ++ map at next
    warned_next b d chosen next k old warnings later e n l w =
        l ∙ ap₂ (λ (ws : List Warning) (x : Bool). ws ++ cond x (at k ∷ []) []) w e
        ∙ append_assoc old (map at chosen) (cond b (at k ∷ []) [])
        ∙ ap (λ (ws : List Warning). old ++ ws)
        (ap (λ (ws : List Warning). map at chosen ++ ws) (sym (one_of b k)) ∙ sym (map-append at chosen (cond b (k ∷ []) [])) ∙ ap (map at) (sym n))

    pub repeated_next : (ks : List Clause) (k : Clause) (keys : List F) (first : List Clause) (old warnings later : List Warning) → HasFirsts same key ks keys first
        → later ≡ warnings ++ cond (list_any (same (key k)) keys) (at k ∷ []) [] → warnings ≡ old ++ map at (repeated_behind same key [] ks)
        → later ≡ old ++ map at (repeated_behind same key [] (ks ++ k ∷ []))
    repeated_next ks k keys first old warnings later h l w =
        warned_next (is_known same key (passed ks) (key k)) (list_any (same (key k)) keys) (repeated_behind same key [] ks) (repeated_behind same key [] (ks ++ k ∷ [])) k old warnings later
        (h.keys_are (key k)) (repeated_more same key [] ks k) l w

    pub resumed_next : (ks : List Clause) (k : Clause) (keys : List F) (first : List Clause) (after : Bool) (old warnings later : List Warning) → HasFirsts same key ks keys first
        → after ≡ is_front same key (passed ks) (key k)
        → later ≡ warnings ++ cond (list_any (same (key k)) keys && not after) (at k ∷ []) [] → warnings ≡ old ++ map at (resumed_behind same key [] ks)
        → later ≡ old ++ map at (resumed_behind same key [] (ks ++ k ∷ []))
    resumed_next ks k keys first after old warnings later h a l w =
        warned_next (is_known same key (passed ks) (key k) && not (is_front same key (passed ks) (key k))) (list_any (same (key k)) keys && not after)
        (resumed_behind same key [] ks) (resumed_behind same key [] (ks ++ k ∷ [])) k old warnings later
        (ap₂ (λ (x y : Bool). x && not y) (h.keys_are (key k)) a) (resumed_more same key [] ks k) l w

any_behind : (p : Functor → Bool) (before : List Functor) (ks : List Clause) → list_any p (behind same_numbers key_of before ks) ≡ (list_any p (map key_of ks) || list_any p before)
any_behind p before [] = refl
any_behind p before (k ∷ ks) = any_behind p (k.functor ∷ before) ks ∙ turned (list_any p (map key_of ks)) (p k.functor) (list_any p before)
  where
    turned : (a b c : Bool) → (a || (b || c)) ≡ ((b || a) || c)
    turned true true c = refl
    turned true false c = refl
    turned false true c = refl
    turned false false c = refl

pub collected_keys : (ks : List Clause) (keys : List Functor) → ((f : Functor) → list_any (same_numbers f) keys ≡ list_any (same_numbers f) (behind same_numbers key_of [] ks)) → AreKeys ks keys
collected_keys ks keys h = λ f. h f ∙ any_behind (same_numbers f) [] ks ∙ or-false (list_any (same_numbers f) (map key_of ks))

pub take_next : (ks : List Clause) (i : ℕ) (d : Clause) → i < length ks → take i ks ++ get_or ks i d ∷ [] ≡ take (i + 1) ks
take_next ks i d h = sym (take_more ks i d h)

-- what is kept of these clauses in their files
pub record HasOpened (starts : List ℕ) (ks : List Clause) (keys : List Filed) (first : List Clause) (before : Option Filed) (old warnings : List Warning) : Type 0 where
  pub firsts : HasFirsts same_filed (filed_at starts) ks keys first
  pub apart : warnings ≡ old ++ map apart_at (resumed starts ks)
  pub front : (f : Filed) → is_after before f ≡ is_front same_filed (filed_at starts) (behind same_filed (filed_at starts) [] ks) f

pub opened_none : (starts : List ℕ) (keys : List Filed) (first : List Clause) (old : List Warning) → keys ≡ [] → first ≡ [] → HasOpened starts [] keys first None old old
opened_none starts keys first old n f = record {
  firsts = record { keys_are = λ g. ap (list_any (same_filed g)) n; first_is = f };
  apart = sym (append-nil old);
  front = λ g. refl;
}

pub opened_more : (starts : List ℕ) (ks : List Clause) (k : Clause) (keys new : List Filed) (first next : List Clause) (before : Option Filed) (old warnings later : List Warning)
    → HasOpened starts ks keys first before old warnings
    → new ≡ insert_key same_filed keys (filed_at starts k)
    → next ≡ first ++ cond (list_any (same_filed (filed_at starts k)) keys) [] (k ∷ [])
    → later ≡ warnings ++ cond (list_any (same_filed (filed_at starts k)) keys && not (is_after before (filed_at starts k))) (apart_at k ∷ []) []
    → HasOpened starts (ks ++ k ∷ []) new next (Some (filed_at starts k)) old later
opened_more starts ks k keys new first next before old warnings later h n f a = record {
  firsts = firsts_next same_filed (filed_at starts) any_inserted ks k keys new first next h.firsts n f;
  apart = resumed_next same_filed (filed_at starts) any_inserted apart_at ks k keys first (is_after before (filed_at starts k)) old warnings later h.firsts (h.front (filed_at starts k)) a h.apart;
  front = λ g. ap (λ (l : List Filed). is_front same_filed (filed_at starts) l g) (sym (behind_more same_filed (filed_at starts) [] ks k));
}

-- the same where the predicate in its file was told before
pub opened_by : (starts : List ℕ) (ks : List Clause) (k : Clause) (filed : Filed) (keys new : List Filed) (first next : List Clause) (before : Option Filed) (old warnings later : List Warning)
    → filed ≡ filed_at starts k → HasOpened starts ks keys first before old warnings
    → new ≡ insert_key same_filed keys filed
    → next ≡ first ++ cond (list_any (same_filed filed) keys) [] (k ∷ [])
    → later ≡ warnings ++ cond (list_any (same_filed filed) keys && not (is_after before filed)) (apart_at k ∷ []) []
    → HasOpened starts (ks ++ k ∷ []) new next (Some filed) old later
opened_by starts ks k filed keys new first next before old warnings later e h n f a =
    subst (λ (x : Filed). HasOpened starts (ks ++ k ∷ []) new next (Some x) old later) (sym e)
    (opened_more starts ks k keys new first next before old warnings later h (n ∙ ap (insert_key same_filed keys) e)
    (f ∙ ap (λ (x : Filed). first ++ cond (list_any (same_filed x) keys) [] (k ∷ [])) e)
    (a ∙ ap (λ (x : Filed). warnings ++ cond (list_any (same_filed x) keys && not (is_after before x)) (apart_at k ∷ []) []) e))

-- what is kept of the first ones of the files
pub record HasCollected (ks : List Clause) (keys : List Functor) (first : List Clause) (old warnings : List Warning) : Type 0 where
  pub firsts : HasFirsts same_numbers key_of ks keys first
  pub repeated : warnings ≡ old ++ map two_at (repeated ks)

pub collected_none : (keys : List Functor) (first : List Clause) (old : List Warning) → keys ≡ [] → first ≡ [] → HasCollected [] keys first old old
collected_none keys first old n f = record { firsts = record { keys_are = λ g. ap (list_any (same_numbers g)) n; first_is = f }; repeated = sym (append-nil old) }

pub collected_more : (ks : List Clause) (k : Clause) (keys new : List Functor) (first next : List Clause) (old warnings later : List Warning)
    → HasCollected ks keys first old warnings
    → new ≡ insert_key same_numbers keys k.functor
    → next ≡ first ++ cond (list_any (same_numbers k.functor) keys) [] (k ∷ [])
    → later ≡ warnings ++ cond (list_any (same_numbers k.functor) keys) (two_at k ∷ []) []
    → HasCollected (ks ++ k ∷ []) new next old later
collected_more ks k keys new first next old warnings later h n f a = record {
  firsts = firsts_next same_numbers key_of any_insert ks k keys new first next h.firsts n f;
  repeated = repeated_next same_numbers key_of any_insert two_at ks k keys first old warnings later h.firsts a h.repeated;
}

-- ---- the first clauses of the files have the predicates of all clauses, and the first of each is the first of all

module _ (starts : List ℕ) where
  abbrev filed : Clause → Filed
  filed k = filed_at starts k

  abbrev functors_of : List Filed → List Functor
  functors_of fs = map (λ f. f.functor) fs

  known_filed : (p : Functor → Bool) (f : Filed) (before : List Filed) → p f.functor ≡ true → list_any (same_filed f) before ≡ true → list_any p (functors_of before) ≡ true
  known_filed p f [] own e = absurd (true≢false (sym e))
  known_filed p f (g ∷ before) own e = elim (or_cases (same_filed f g) (list_any (same_filed f) before) e) [
    | inl h ↦ or_left (p g.functor) (list_any p (functors_of before)) (ap (λ (x : Filed). p x.functor) (sym (equal_filed f g h)) ∙ own)
    | inr h ↦ or_right (p g.functor) (list_any p (functors_of before)) (known_filed p f before own h)
  ]

  -- a clause whose predicate is known in its file brings none
  absorbed : (p : Functor → Bool) (f : Filed) (before : List Filed) → list_any (same_filed f) before ≡ true → (p f.functor || list_any p (functors_of before)) ≡ list_any p (functors_of before)
  absorbed p f before e = by (p f.functor) refl
    where
      by : (b : Bool) → p f.functor ≡ b → (b || list_any p (functors_of before)) ≡ list_any p (functors_of before)
      by true h = sym (known_filed p f before h e)
      by false h = refl

  moved : (a b c : Bool) → (a || (b || c)) ≡ ((b || a) || c)
  moved true true c = refl
  moved true false c = refl
  moved false true c = refl
  moved false false c = refl

  any_step : (p : Functor → Bool) (before : List Filed) (k : Clause) (ks rest : List Clause) (b : Bool) → is_known same_filed filed before (filed k) ≡ b
      → (list_any p (map key_of rest) || (p k.functor || list_any p (functors_of before))) ≡ (list_any p (map key_of ks) || (p k.functor || list_any p (functors_of before)))
      → (list_any p (map key_of (cond b [] (k ∷ []) ++ rest)) || list_any p (functors_of before)) ≡ ((p k.functor || list_any p (map key_of ks)) || list_any p (functors_of before))
  any_step p before k ks rest true e h =
      ap (λ (x : Bool). list_any p (map key_of rest) || x) (sym (absorbed p (filed k) before e)) ∙ h
      ∙ moved (list_any p (map key_of ks)) (p k.functor) (list_any p (functors_of before))
  any_step p before k ks rest false e h =
      sym (moved (list_any p (map key_of rest)) (p k.functor) (list_any p (functors_of before))) ∙ h
      ∙ moved (list_any p (map key_of ks)) (p k.functor) (list_any p (functors_of before))

  opening_any : (p : Functor → Bool) (before : List Filed) (ks : List Clause)
      → (list_any p (map key_of (firsts_behind same_filed filed before ks)) || list_any p (functors_of before)) ≡ (list_any p (map key_of ks) || list_any p (functors_of before))
  opening_any p before [] = refl
  opening_any p before (k ∷ ks) =
      any_step p before k ks (firsts_behind same_filed filed (filed k ∷ before) ks) (is_known same_filed filed before (filed k)) refl (opening_any p (filed k ∷ before) ks)

  pub opening_keys : (ks : List Clause) (keys : List Functor) → AreKeys (file_firsts starts ks) keys → AreKeys ks keys
  opening_keys ks keys h = λ f.
      h f ∙ sym (or-false (list_any (same_numbers f) (map key_of (file_firsts starts ks)))) ∙ opening_any (same_numbers f) [] ks ∙ or-false (list_any (same_numbers f) (map key_of ks))

  -- the functors before are those of the clauses before
  abbrev HasSame : List Functor → List Filed → Type 0
  HasSame fs before = (f : Functor) → list_any (same_numbers f) fs ≡ list_any (same_numbers f) (functors_of before)

  more_same : (before : List Filed) (k : Clause) (hs : List Functor) → HasSame hs before → HasSame (k.functor ∷ hs) (filed k ∷ before)
  more_same before k hs h = λ f. ap (λ (b : Bool). same_numbers f k.functor || b) (h f)

  -- what is to be shown of the clauses behind
  abbrev AreSame : List Filed → List Clause → Type 0
  AreSame before ks = (fs gs : List Functor) → HasSame fs before → HasSame gs before
      → firsts_behind same_numbers key_of fs (firsts_behind same_filed filed before ks) ≡ firsts_behind same_numbers key_of gs ks

  same_step : (before : List Filed) (k : Clause) (ks : List Clause) (fs gs : List Functor) (b : Bool) → is_known same_filed filed before (filed k) ≡ b
      → AreSame (filed k ∷ before) ks → HasSame fs before → HasSame gs before
      → firsts_behind same_numbers key_of fs (cond b [] (k ∷ []) ++ firsts_behind same_filed filed (filed k ∷ before) ks)
      ≡ cond (list_any (same_numbers k.functor) gs) [] (k ∷ []) ++ firsts_behind same_numbers key_of (k.functor ∷ gs) ks
  same_step before k ks fs gs true e next hf hg =
      next fs (k.functor ∷ gs) (λ f. hf f ∙ sym (absorbed (same_numbers f) (filed k) before e)) (more_same before k gs hg)
      ∙ ap (λ (b : Bool). cond b [] (k ∷ []) ++ firsts_behind same_numbers key_of (k.functor ∷ gs) ks)
      (sym (hg k.functor ∙ known_filed (same_numbers k.functor) (filed k) before (same_itself k.functor) e))
  same_step before k ks fs gs false e next hf hg =
      ap₂ (λ (b : Bool) (l : List Clause). cond b [] (k ∷ []) ++ l) (hf k.functor ∙ sym (hg k.functor))
      (next (k.functor ∷ fs) (k.functor ∷ gs) (more_same before k fs hf) (more_same before k gs hg))

  first_same : (before : List Filed) (ks : List Clause) → AreSame before ks
  first_same before [] = λ fs gs hf hg. refl
  first_same before (k ∷ ks) = λ fs gs hf hg. same_step before k ks fs gs (is_known same_filed filed before (filed k)) refl (first_same (filed k ∷ before) ks) hf hg

  pub opening_firsts : (ks : List Clause) → firsts (file_firsts starts ks) ≡ firsts ks
  opening_firsts ks = first_same [] ks [] [] (λ f. refl) (λ f. refl)

-- ---- predicates that aren't reached, with one more

unreached_of : (b : Bool) (k : Clause) → map unreached_at (cond b (k ∷ []) []) ≡ cond b (unreached_at k ∷ []) []
unreached_of true k = refl
unreached_of false k = refl

pub unreached_more : (starts : List ℕ) (keys : List Functor) (ns : List ℕ) (ks : List Clause) (i : ℕ) (d : Clause) (b : Bool) (old mid new : List Warning) → i < length ks
    → mid ≡ old ++ map unreached_at (unreached_among starts keys ns (take i ks)) → is_missed starts keys ns (get_or ks i d) ≡ b → new ≡ mid ++ cond b (unreached_at (get_or ks i d) ∷ []) []
    → new ≡ old ++ map unreached_at (unreached_among starts keys ns (take (i + 1) ks))
unreached_more starts keys ns ks i d b old mid new h m t e =
    let k = get_or ks i d in
    let before = unreached_among starts keys ns (take i ks) in
    let p : Clause → Bool = is_missed starts keys ns in
    let own : filter p (k ∷ []) ≡ cond b (k ∷ []) [] = ap (λ (x : Bool). cond x (k ∷ []) []) t in
    e ∙ ap (λ (l : List Warning). l ++ cond b (unreached_at k ∷ []) []) m ∙ append_assoc old (map unreached_at before) (cond b (unreached_at k ∷ []) [])
    ∙ ap (λ (l : List Warning). old ++ l)
    (ap (λ (l : List Warning). map unreached_at before ++ l) (sym (unreached_of b k) ∙ ap (map unreached_at) (sym own))
    ∙ sym (map-append unreached_at before (filter p (k ∷ [])))
    ∙ ap (map unreached_at) (sym (filter-append p (take i ks) (k ∷ [])) ∙ ap (filter p) (sym (take_more ks i d h))))
