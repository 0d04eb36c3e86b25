-- What is written of each answer.
use Rattle.std.proofs.Common.{◌≡◌, ℕ, suc, ◌+◌, ◌<◌, ◌≤◌, Bool, true, ◌&&◌, List, [], ◌∷◌, ◌++◌, length, take, get_or, Option, Some, None, is_none, codes}
use Rattle.std.proofs.Common.{decimal, refl, sym, ap, ◌∙◌, subst, inl, inr, arith, append_assoc, append-nil}
use Rattle.std.specs.Prelude.{All}
use Rattle.std.specs.List.{list_all}
use Rattle.std.proofs.lemmas.List.Elements.{All-nil, All-cons, All-head, All-tail, All-append}
use Rattle.fd_language.specs.declared.TheConstants.{INFINITY}
use Rattle.fd_model.specs.Goal.{Goal}
use Rattle.fd_model.specs.Lines.{line}
use Rattle.fd_model.specs.Satisfaction.{Assignment}
use Rattle.answer_check.specs.declared.goals.Constraint.{Constraint}
use Rattle.answer_check.specs.AnswerLines.{assigned}
use Rattle.answer_check.specs.Checks.{IsBounded, CanCheck, AreFirstBroken}
use Rattle.answer_check.specs.Goals.{EachSays}
use Rattle.answer_check.specs.Judgement.{IsFirstBroken, EachFirstBroken, not_rising, answer_line, answer_lines, order_text}
use Rattle.answer_check.specs.Rows.{all_values}
use Rattle.answer_check.proofs.Lists.{take_next}
use Rattle.answer_check.proofs.Safety.{bounded_values_of}

-- ---- the lines

pub yes_line : (old one two new : List ℕ) (k : ℕ) → one ≡ old ++ codes "answer " → two ≡ one ++ decimal k → new ≡ two ++ codes ": yes\n" → new ≡ old ++ answer_line k None
yes_line old one two new k e f g =
    g ∙ ap (λ t. t ++ codes ": yes\n") (f ∙ ap (λ t. t ++ decimal k) e)
    ∙ append_assoc (old ++ codes "answer ") (decimal k) (codes ": yes\n")
    ∙ append_assoc old (codes "answer ") (decimal k ++ codes ": yes\n")
    ∙ ap (λ t. old ++ (codes "answer " ++ t)) (sym (append_assoc (decimal k) (codes ": yes") (codes "\n")))

pub no_line : (old one two three four new : List ℕ) (k g : ℕ) → one ≡ old ++ codes "answer " → two ≡ one ++ decimal k → three ≡ two ++ codes ": no "
    → four ≡ three ++ decimal g → new ≡ four ++ codes "\n" → new ≡ old ++ answer_line k (Some g)
no_line old one two three four new k g a b c d e =
    e ∙ ap (λ t. t ++ codes "\n") (d ∙ ap (λ t. t ++ decimal g) (c ∙ ap (λ t. t ++ codes ": no ") (b ∙ ap (λ t. t ++ decimal k) a)))
    ∙ append_assoc (((old ++ codes "answer ") ++ decimal k) ++ codes ": no ") (decimal g) (codes "\n")
    ∙ append_assoc ((old ++ codes "answer ") ++ decimal k) (codes ": no ") (decimal g ++ codes "\n")
    ∙ append_assoc (old ++ codes "answer ") (decimal k) (codes ": no " ++ (decimal g ++ codes "\n"))
    ∙ append_assoc old (codes "answer ") (decimal k ++ (codes ": no " ++ (decimal g ++ codes "\n")))
    ∙ ap (λ t. old ++ (codes "answer " ++ t)) (sym (append_assoc (decimal k) (codes ": no " ++ decimal g) (codes "\n")))

pub falling_line : (old one two new : List ℕ) (k : ℕ) → one ≡ old ++ codes "order: not rising at " → two ≡ one ++ decimal k → new ≡ two ++ codes "\n"
    → new ≡ old ++ line (codes "order: " ++ order_text (not_rising k))
falling_line old one two new k e f g =
    g ∙ ap (λ t. t ++ codes "\n") (f ∙ ap (λ t. t ++ decimal k) e)
    ∙ append_assoc (old ++ codes "order: not rising at ") (decimal k) (codes "\n")
    ∙ append_assoc old (codes "order: not rising at ") (decimal k ++ codes "\n")

pub lines_more : (k : ℕ) (vs : List (Option ℕ)) (v : Option ℕ) → answer_lines k (vs ++ v ∷ []) ≡ answer_lines k vs ++ answer_line (k + length vs) v
lines_more k [] v = append-nil (answer_line k v) ∙ (let e : k + 0 ≡ k = omega arith in ap (λ n. answer_line n v) (sym e))
lines_more k (w ∷ vs) v =
    ap (λ t. answer_line k w ++ t) (lines_more (suc k) vs v)
    ∙ sym (append_assoc (answer_line k w) (answer_lines (suc k) vs) (answer_line (suc k + length vs) v))
    ∙ (let e : suc k + length vs ≡ k + suc (length vs) = omega arith in ap (λ n. (answer_line k w ++ answer_lines (suc k) vs) ++ answer_line n v) e)

-- ---- the goals that are broken

pub first_broken : (a : Assignment) (n : ℕ) (gs : List Goal) (ks : List Constraint) (o : Option ℕ) → IsBounded a → EachSays gs ks → AreFirstBroken a n ks o → IsFirstBroken INFINITY a n gs o
first_broken a n [] [] o small s h = h
first_broken a n [] (k ∷ ks) o small s h = absurd s
first_broken a n (g ∷ gs) [] o small s h = absurd s
first_broken a n (g ∷ gs) (k ∷ ks) o small s h = elim h [
  | inl b ↦ inl ((s.0.same a small).0 b.0, first_broken a (suc n) gs ks o small s.1 b.1)
  | inr b ↦ inr ((λ x. b.0 ((s.0.same a small).1 x)), b.1)
]

pub each_can : (gs : List Goal) (ks : List Constraint) → EachSays gs ks → All CanCheck ks
each_can [] [] s = All-nil CanCheck
each_can [] (k ∷ ks) s = absurd s
each_can (g ∷ gs) [] s = absurd s
each_can (g ∷ gs) (k ∷ ks) s = All-cons CanCheck k ks s.0.safe (each_can gs ks s.1)

each_more : (gs : List Goal) (nss : List (List ℕ)) (vs : List (Option ℕ)) (ns : List ℕ) (v : Option ℕ) → EachFirstBroken INFINITY gs nss vs
    → IsFirstBroken INFINITY (assigned ns) 1 gs v → EachFirstBroken INFINITY gs (nss ++ ns ∷ []) (vs ++ v ∷ [])
each_more gs [] [] ns v h b = (b, refl)
each_more gs [] (w ∷ vs) ns v h b = absurd (cc (h))
each_more gs (ms ∷ nss) [] ns v h b = absurd h
each_more gs (ms ∷ nss) (w ∷ vs) ns v h b = (h.0, each_more gs nss vs ns v h.1 b)

all_more : (vs : List (Option ℕ)) (v : Option ℕ) → list_all is_none (vs ++ v ∷ []) ≡ (list_all is_none vs && is_none v)
all_more [] None = refl
all_more [] (Some k) = refl
all_more (None ∷ vs) v = all_more vs v
all_more (Some k ∷ vs) v = refl

-- what is written of the first so many answers
pub record IsReported (gs : List Goal) (nss : List (List ℕ)) (number : ℕ) (text : List ℕ) (is_good : Bool) : Type 0 where
  pub broken : List (Option ℕ)
  pub count : length broken ≡ number
  pub each : EachFirstBroken INFINITY gs (take number nss) broken
  pub written : text ≡ answer_lines 1 broken
  pub good : is_good ≡ list_all is_none broken

pub reported_none : (gs : List Goal) (nss : List (List ℕ)) → IsReported gs nss 0 [] true
reported_none gs nss = record { broken = []; count = refl; each = refl; written = refl; good = refl }

pub reported_more : (gs : List Goal) (ks : List Constraint) (nss : List (List ℕ)) (number : ℕ) (old new : List ℕ) (is_good : Bool) (row : List ℕ) (o : Option ℕ)
    → number < length nss → EachSays gs ks → row ≡ get_or nss number [] → All (λ n. n ≤ INFINITY) row
    → AreFirstBroken (assigned row) 1 ks o → new ≡ old ++ answer_line (number + 1) o → IsReported gs nss number old is_good → IsReported gs nss (number + 1) new (is_good && is_none o)
reported_more gs ks nss number old new is_good row o l s is small h e r = record {
  broken = r.broken ++ o ∷ [];
  count = (let c = r.count in let k = lengths r.broken o in omega (arith, c, k));
  each = subst (λ ms. EachFirstBroken INFINITY gs ms (r.broken ++ o ∷ [])) (sym (take_next nss number [] l))
      (each_more gs (take number nss) r.broken (get_or nss number []) o r.each
      (subst (λ ns. IsFirstBroken INFINITY (assigned ns) 1 gs o) is (first_broken (assigned row) 1 gs ks o (bounded_values_of row small) s h)));
  written = e ∙ ap (λ t. t ++ answer_line (number + 1) o) r.written
      ∙ (let c : number + 1 ≡ 1 + length r.broken = (let k = r.count in omega (arith, k)) in ap (λ n. answer_lines 1 r.broken ++ answer_line n o) c)
      ∙ sym (lines_more 1 r.broken o);
  good = ap (λ b. b && is_none o) r.good ∙ sym (all_more r.broken o);
} where
  lengths : (vs : List (Option ℕ)) (v : Option ℕ) → length (vs ++ v ∷ []) ≡ length vs + 1
  lengths [] v = refl
  lengths (w ∷ vs) v = let h = lengths vs v in omega (arith, h)

-- all values of rows are numbers
pub all_numbers : (nss : List (List ℕ)) → All (All (λ k. k ≤ INFINITY)) nss → All (λ k. k ≤ INFINITY) (all_values nss)
all_numbers [] h = All-nil (λ k. k ≤ INFINITY)
all_numbers (ns ∷ nss) h = All-append (λ k. k ≤ INFINITY) ns (all_values nss) (All-head (All (λ k. k ≤ INFINITY)) ns nss h) (all_numbers nss (All-tail (All (λ k. k ≤ INFINITY)) ns nss h))

-- ---- the whole report

pub none_missing : (gs : List Goal) (nss : List (List ℕ)) (number : ℕ) (text : List ℕ) (is_good : Bool) → take number nss ≡ nss
    → (r : IsReported gs nss number text is_good) → EachFirstBroken INFINITY gs nss r.broken
none_missing gs nss number text is_good e r = subst (λ ms. EachFirstBroken INFINITY gs ms r.broken) e r.each
