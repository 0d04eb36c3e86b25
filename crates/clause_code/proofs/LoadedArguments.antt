-- The arguments of goals, and one instruction behind them.
use Rattle.std.proofs.Common.{◌≡◌, ℕ, suc, ◌+◌, ◌<◌, Bool, List, [], ◌∷◌, ◌++◌, drop, get_or, length, ap, sym, ◌∙◌, subst, arith, add-one, drop-cons}
use Rattle.std.proofs.Common.{append_assoc}
use Rattle.fd_language.specs.Term.{Terms, term, term_count}
use Rattle.term_pool.specs.declared.TermId.{TermId}
use Rattle.term_pool.specs.Contents.{Contents}
use Rattle.term_pool.specs.Terms.{term_of, terms_by}
use Rattle.wam_code.specs.declared.instruction.Register.{Register}
use Rattle.wam_code.specs.declared.instruction.Code.{Code}
use Rattle.clause_code.specs.Steps.{Step, put_variable, code_of, marked_by_all, put, puts}
use Rattle.clause_code.specs.BuildStack.{Writes}
use Rattle.clause_code.specs.SimpleGoals.{variables, loads, AreMade}
use Rattle.wam_code.specs.declared.instruction.Code.TheVariants.{PostRange}
use Rattle.clause_code.proofs.GoalKinds.{count_variables}
use Rattle.clause_code.proofs.CodableTerms.{made_same}
use Rattle.clause_code.proofs.WrittenSteps.{Owes, owes_less}
use Rattle.clause_code.proofs.Rests.{count_terms, writes_both}

pub loaded : (c : Contents) (homes : List Register) (code mid new : List Code) (made later : List Bool) (ids : List TermId) (n : ℕ) (last : Code)
    → n ≡ length ids + 1 → Writes homes code made (puts c 1 n (terms_by (term_of c) ids)) mid later → new ≡ mid ++ (last ∷ [])
    → new ≡ code ++ loads c homes made (terms_by (term_of c) ids) last
loaded c homes code mid new made later ids n last e w f =
    let ts : Terms = terms_by (term_of c) ids in
    let k = count_terms (term_of c) ids in
    let m : n ≡ suc (term_count ts) = omega (arith, e, k) in
    f
    ∙ ap (λ l. l ++ (last ∷ [])) w.codes
    ∙ append_assoc code (code_of homes made (puts c 1 n ts)) (last ∷ [])
    ∙ ap (λ j. code ++ (code_of homes made (puts c 1 j ts) ++ (last ∷ []))) m

-- one variable after the other
pub slot_next : (c : Contents) (homes : List Register) (code new : List Code) (made later : List Bool) (slots : List ℕ) (i j free d : ℕ) (whole : List Code)
    (last : List Bool) → i < length slots → Owes homes code made (puts c j free (variables (drop i slots))) whole last
    → Writes homes code made (put_variable (get_or slots i d) j ∷ []) new later → Owes homes new later (puts c (j + 1) free (variables (drop (i + 1) slots))) whole last
slot_next c homes code new made later slots i j free d whole last l o w =
    let cons : puts c j free (variables (drop i slots)) ≡ (put_variable (get_or slots i d) j ∷ []) ++ puts c (j + 1) free (variables (drop (i + 1) slots)) =
    ap (λ ys. puts c j free (variables ys)) (drop-cons slots i d l)
    ∙ ap (λ k. (put_variable (get_or slots i d) j ∷ []) ++ puts c k free (variables (drop (suc i) slots))) (sym (add-one j))
    ∙ ap (λ k. (put_variable (get_or slots i d) j ∷ []) ++ puts c (j + 1) free (variables (drop k slots))) (sym (add-one i)) in
    owes_less homes code new made later (put_variable (get_or slots i d) j ∷ []) (puts c (j + 1) free (variables (drop (i + 1) slots))) whole last
    (subst (λ ss. Owes homes code made ss whole last) cons o) w

-- a range with its target
pub posted : (c : Contents) (slots : List ℕ) (homes : List Register) (code one two new : List Code) (made mid later : List Bool) (t : TermId) (r count' free : ℕ) → free ≡ length slots + 2
    → Writes homes code made (put c 1 free (term_of c t)) one mid → Writes homes one mid (puts c 2 free (variables slots)) two later → new ≡ two ++ (PostRange r count' ∷ [])
    → new ≡ code ++ loads c homes made (term (term_of c t) (variables slots)) (PostRange r count')
posted c slots homes code one two new made mid later t r count' free n f g h =
    let us : Terms = term (term_of c t) (variables slots) in
    let w = writes_both homes code one two made mid later (put c 1 free (term_of c t)) (puts c 2 free (variables slots)) f g in
    let k = count_variables slots in
    let z : free ≡ suc (term_count us) = omega (arith, n, k) in
    h
    ∙ ap (λ l. l ++ (PostRange r count' ∷ [])) w.codes
    ∙ append_assoc code (code_of homes made (puts c 1 free us)) (PostRange r count' ∷ [])
    ∙ ap (λ j. code ++ (code_of homes made (puts c 1 j us) ++ (PostRange r count' ∷ []))) z

pub posted_made : (made mid later : List Bool) (ss ts : List Step) → AreMade made → mid ≡ marked_by_all made ss → later ≡ marked_by_all mid ts → later ≡ made
posted_made made mid later ss ts a e f =
    let same : mid ≡ made = e ∙ made_same made ss a in
    f ∙ ap (λ m. marked_by_all m ts) same ∙ made_same made ts a
