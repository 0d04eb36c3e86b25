-- There is at most one judgement of an input.
use Rattle.std.proofs.Common.{◌≡◌, ℕ, suc, ◌+◌, List, [], ◌∷◌, length, Option, Some, None, refl, sym, ap, ◌∙◌, subst, inl, inr, arith, true≢false}
use Rattle.std.specs.Prelude.{Result, Ok, Err}
use Rattle.std.proofs.lemmas.Option.{same_Some}
use Rattle.fd_language.specs.declared.TheConstants.{INFINITY}
use Rattle.fd_language.specs.Reading as model
use Rattle.fd_language.specs.Reading.{Reading, sentences, token_fault, syntax_fault, too_deep}
use Rattle.fd_language.specs.Term.{Name}
use Rattle.fd_language.proofs.Lemmas.{one_verdict_of_reading}
use Rattle.fd_model.specs.declared.kinds.Order.{Order}
use Rattle.fd_model.specs.declared.kinds.Order.TheVariants.{Leftmost, FirstFail}
use Rattle.fd_model.specs.Goal.{Goal, Query}
use Rattle.fd_model.specs.Labelling.{open_ones}
use Rattle.fd_model.specs.Refusals.{form_of}
use Rattle.fd_model.specs.Satisfaction.{Assignment}
use Rattle.answer_check.specs.AnswerLines.{assigned, behind_row, IsAnswer, AreAnswers}
use Rattle.answer_check.specs.FlatForm.{FlatQuery, flat_query}
use Rattle.answer_check.specs.Judgement.{Judgement, judged, OrderVerdict, order_by, IsFirstBroken, EachFirstBroken, IsFirstFalling, IsRisingBy, IsOrderOf}
use Rattle.answer_check.specs.Judgement.{JudgesAnswers, JudgesQuery, JudgesReading, JudgesParts}
use Rattle.answer_check.specs.Laws.{OneJudgement}
use Rattle.answer_check.specs.Parts.{Parts, parts_of, place_behind}
use Rattle.answer_check.proofs.AnswerWords.{answer_is, IsShownAll}
use Rattle.answer_check.proofs.WholeQueries.{shown_query}

-- ---- answers

one_broken : (a : Assignment) (n : ℕ) (gs : List Goal) (o p : Option ℕ) → IsFirstBroken INFINITY a n gs o → IsFirstBroken INFINITY a n gs p → o ≡ p
one_broken a n [] o p h k = h ∙ sym k
one_broken a n (g ∷ gs) o p h k = elim h [
  | inl x ↦ elim k [ inl y ↦ one_broken a (suc n) gs o p x.1 y.1 | inr y ↦ absurd (y.0 x.0) ]
  | inr x ↦ elim k [ inl y ↦ absurd (x.0 y.0) | inr y ↦ x.1 ∙ sym y.1 ]
]

each_one : (gs : List Goal) (nss : List (List ℕ)) (vs ws : List (Option ℕ)) → EachFirstBroken INFINITY gs nss vs → EachFirstBroken INFINITY gs nss ws → vs ≡ ws
each_one gs [] vs ws h k = h ∙ sym k
each_one gs (ns ∷ nss) [] ws h k = absurd h
each_one gs (ns ∷ nss) (v ∷ vs) [] h k = absurd k
each_one gs (ns ∷ nss) (v ∷ vs) (w ∷ ws) h k =
    ap (λ x. x ∷ vs) (one_broken (assigned ns) 1 gs v w h.0 k.0) ∙ ap (λ xs. w ∷ xs) (each_one gs nss vs ws h.1 k.1)

one_falling : (xs ns : List ℕ) (n : ℕ) (nss : List (List ℕ)) (o p : Option ℕ) → IsFirstFalling xs ns n nss o → IsFirstFalling xs ns n nss p → o ≡ p
one_falling xs ns n [] o p h k = h ∙ sym k
one_falling xs ns n (ms ∷ nss) o p h k = elim h [
  | inl x ↦ elim k [ inl y ↦ one_falling xs ms (suc n) nss o p x.1 y.1 | inr y ↦ absurd (y.0 x.0) ]
  | inr x ↦ elim k [ inl y ↦ absurd (x.0 y.0) | inr y ↦ x.1 ∙ sym y.1 ]
]

one_rising : (xs : List ℕ) (nss : List (List ℕ)) (v w : OrderVerdict) → IsRisingBy xs nss v → IsRisingBy xs nss w → v ≡ w
one_rising xs [] v w h k = h ∙ sym k
one_rising xs (ns ∷ nss) v w h k = h.2 ∙ ap order_by (one_falling xs ns 2 nss h.0 k.0 h.1 k.1) ∙ sym k.2

one_order : (o : Order) (xs : List ℕ) (nss : List (List ℕ)) (v w : OrderVerdict) → IsOrderOf o xs nss v → IsOrderOf o xs nss w → v ≡ w
one_order Leftmost xs nss v w h k = one_rising xs nss v w h k
one_order FirstFail xs nss v w h k = h ∙ sym k

judges_once : (f : FlatQuery) (r : Result (List (List ℕ)) ℕ) (i j : Judgement) → JudgesAnswers INFINITY f r i → JudgesAnswers INFINITY f r j → i ≡ j
judges_once f (Err p) i j h k = h ∙ sym k
judges_once f (Ok nss) i j h k =
    h.4 ∙ ap (λ vs. judged vs h.1) (each_one f.constraints nss h.0 k.0 h.2 k.2) ∙ ap (λ v. judged k.0 v) (one_order f.order (open_ones f.members) nss h.1 k.1 h.3 k.3) ∙ sym k.4

-- ---- lines

one_row : (q : Query) (ns : List Name) (l ks ms : List ℕ) → IsShownAll q ns → IsAnswer INFINITY q l ks → IsAnswer INFINITY q l ms → ks ≡ ms
one_row q ns l ks ms s h k = same_Some ks ms (sym (answer_is q ns l ks s h) ∙ answer_is q ns l ms s k)

one_list : (q : Query) (ns : List Name) (at : ℕ) (ls : List (List ℕ)) (r s : Result (List (List ℕ)) ℕ) → IsShownAll q ns → AreAnswers INFINITY q at ls r → AreAnswers INFINITY q at ls s → r ≡ s
one_list q ns at [] r s w h k = h ∙ sym k
one_list q ns at (l ∷ ls) r s w h k = elim h [
  | inl x ↦ elim k [
    | inl y ↦ x.1 ∙ sym y.1
    | inr e ↦ elim e [ inl y ↦ absurd (true≢false (sym x.0 ∙ y.0)) | inr y ↦ absurd (true≢false (sym x.0 ∙ y.0)) ]
  ]
  | inr d ↦ elim d [
    | inl x ↦ elim k [
      | inl y ↦ absurd (true≢false (sym y.0 ∙ x.0))
      | inr e ↦ elim e [
        | inl y ↦
            let row = one_row q ns l x.1.0 y.1.0 w x.1.1 y.1.1 in
            let rest = one_list q ns (at + length l) ls x.1.2.0 y.1.2.0 w x.1.2.1 y.1.2.1 in
            x.1.2.2 ∙ ap (λ ks. behind_row ks x.1.2.0) row ∙ ap (behind_row y.1.0) rest ∙ sym y.1.2.2
        | inr y ↦ absurd (y.1 x.1.0 x.1.1)
      ]
    ]
    | inr x ↦ elim k [
      | inl y ↦ absurd (true≢false (sym y.0 ∙ x.0))
      | inr e ↦ elim e [ inl y ↦ absurd (x.1 y.1.0 y.1.1) | inr y ↦ x.2 ∙ sym y.2 ]
    ]
  ]
]

-- ---- inputs

judges_query : (at : ℕ) (ls : List (List ℕ)) (r : Result FlatQuery ℕ) (i j : Judgement)
    → ((f : FlatQuery) → r ≡ Ok f → (ns : List Name) × IsShownAll f.query ns) → JudgesQuery INFINITY at ls r i → JudgesQuery INFINITY at ls r j → i ≡ j
judges_query at ls (Err p) i j s h k = h ∙ sym k
judges_query at ls (Ok f) i j s h k =
    let n = s f refl in
    let same = one_list f.query n.0 at ls h.0 k.0 n.1 h.1 k.1 in
    judges_once f k.0 i j (subst (λ r. JudgesAnswers INFINITY f r i) same h.2) k.2

shown_of : (ss : List model.Sentence) (f : FlatQuery) → flat_query INFINITY ss ≡ Ok f → (ns : List Name) × IsShownAll f.query ns
shown_of [] f e = absurd (cc (e))
shown_of (s ∷ []) f e = shown_query s (form_of s.term) f e
shown_of (s ∷ u ∷ ss) f e = absurd (cc (e))

judges_reading : (at : ℕ) (ls : List (List ℕ)) (r : Reading) (i j : Judgement) → JudgesReading INFINITY at ls r i → JudgesReading INFINITY at ls r j → i ≡ j
judges_reading at ls (sentences ss) i j h k = judges_query at ls (flat_query INFINITY ss) i j (shown_of ss) h k
judges_reading at ls (token_fault cause place) i j h k = h ∙ sym k
judges_reading at ls (syntax_fault place) i j h k = h ∙ sym k
judges_reading at ls (too_deep place) i j h k = h ∙ sym k

judges_parts : (size : ℕ) (o : Option Parts) (i j : Judgement) → JudgesParts INFINITY size o i → JudgesParts INFINITY size o j → i ≡ j
judges_parts size None i j h k = h ∙ sym k
judges_parts size (Some p) i j h k =
    let same = one_verdict_of_reading p.text h.0 k.0 h.1 k.1 in
    judges_reading (place_behind p) p.lines k.0 i j (subst (λ r. JudgesReading INFINITY (place_behind p) p.lines r i) same h.2) k.2

pub one_judgement : OneJudgement
one_judgement input i j h k = elim h [
  | inl x ↦ elim k [
    | inl y ↦ x.1 ∙ sym y.1
    | inr e ↦ elim e [ inl y ↦ absurd (let a = x.0 in let b = y.0 in omega (arith, a, b)) | inr y ↦ absurd (let a = x.0 in let b = y.0 in omega (arith, a, b)) ]
  ]
  | inr d ↦ elim d [
    | inl x ↦ elim k [
      | inl y ↦ absurd (let a = x.0 in let b = y.0 in omega (arith, a, b))
      | inr e ↦ elim e [ inl y ↦ x.2 ∙ sym y.2 | inr y ↦ absurd (x.1 y.1) ]
    ]
    | inr x ↦ elim k [
      | inl y ↦ absurd (let a = x.0 in let b = y.0 in omega (arith, a, b))
      | inr e ↦ elim e [ inl y ↦ absurd (y.1 x.1) | inr y ↦ judges_parts (length input) (parts_of input) i j x.2 y.2 ]
    ]
  ]
]
