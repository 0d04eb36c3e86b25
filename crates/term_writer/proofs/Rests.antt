-- What a term is behind the element of a list.
use Rattle.std.proofs.Common.{◌≡◌, ◌∙◌, ℕ, ℤ, ◌<◌, List, [], ◌∷◌, ◌++◌, length, Bool, true, false, cond, Option, refl, sym, ap, subst, arith}
use Rattle.std.specs.Prelude.{All, codes}
use Rattle.std.specs.Str.{bytes_eq}
use Rattle.fd_language.specs.Term.{Name, Term, Var, Int, Atom, Comp}
use Rattle.fd_language.specs.Operators.{Operator, infix_of}
use Rattle.fd_language.specs.TermTexts.{Mode, TermText, spelled, spelled_alone, spelled_infix, atom_text, call_text}
use Rattle.term_pool.specs.declared.TermId.{TermId}
use Rattle.term_pool.specs.Contents.{Contents}
use Rattle.term_pool.specs.Terms.{terms_by, term_of}
use Rattle.name_syntax.specs.declared.operators.Operator.{Operator as CodeOperator}
use Rattle.term_writer.specs.declared.pieces.CompoundForm.TheVariants as form
use Rattle.term_writer.specs.declared.pieces.Rest.TheVariants as rest
use Rattle.term_writer.specs.Pieces.{IsCompoundForm, IsRest, weight}
use Rattle.term_writer.proofs.Steps.{first_within, second_within}

abbrev IsTail : TermText → Type 0
IsTail s = s.rest ≡ codes "|" ++ s.at 999

module _ (c : Contents) (t : TermId) where
  tail_as : (x : Term) → term_of c t ≡ x → ((mode : Mode) (vars : ℕ → List ℕ) → IsTail (spelled mode vars x)) → IsRest c t rest.Tail
  tail_as x e h = λ mode vars. subst (λ (y : Term). IsTail (spelled mode vars y)) (sym e) (h mode vars)

  pub rest_var : (x : ℕ) → term_of c t ≡ Var x → IsRest c t rest.Tail
  rest_var x e = tail_as (Var x) e (λ mode vars. refl)

  pub rest_int : (z : ℤ) → term_of c t ≡ Int z → IsRest c t rest.Tail
  rest_int z e = tail_as (Int z) e (λ mode vars. refl)

  pub rest_nil : (a : Name) → term_of c t ≡ Atom a → bytes_eq a (codes "[]") ≡ true → IsRest c t rest.Nothing
  rest_nil a e is = λ mode vars. ap (λ (y : Term). (spelled mode vars y).rest) e ∙ ap (λ (b : Bool). cond b [] (codes "|" ++ atom_text mode a)) is

  pub rest_atom : (a : Name) → term_of c t ≡ Atom a → bytes_eq a (codes "[]") ≡ false → IsRest c t rest.Tail
  rest_atom a e is = tail_as (Atom a) e (λ mode vars. ap (λ (b : Bool). cond b [] (codes "|" ++ atom_text mode a)) is)

  module _ (f : Name) (ts : List TermId) (e : term_of c t ≡ Comp f (terms_by (term_of c) ts)) where
    as_parts : (us : List TermId) → ts ≡ us → term_of c t ≡ Comp f (terms_by (term_of c) us)
    as_parts us s = e ∙ ap (λ (vs : List TermId). Comp f (terms_by (term_of c) vs)) s

    pub rest_curly : (u : TermId) → IsCompoundForm f ts (form.Curly u) → IsRest c t rest.Tail
    rest_curly u h =
        tail_as (Comp f (terms_by (term_of c) (u ∷ []))) (as_parts (u ∷ []) h.0) (λ mode vars.
        let x : TermText = spelled mode vars (term_of c u) in
        either (bytes_eq f (codes "{}")) (codes "{" ++ (x.at 1200 ++ codes "}")) (call_text mode f (x ∷ [])))
      where
        either : (b : Bool) (v w : List ℕ) → IsTail (cond b (spelled_alone v) (spelled_alone w))
        either true v w = refl
        either false v w = refl

    pub rest_operation : (r : CodeOperator) (u v : TermId) → IsCompoundForm f ts (form.Infix r u v) → IsRest c t rest.Tail
    rest_operation r u v h =
        tail_as (Comp f (terms_by (term_of c) (u ∷ v ∷ []))) (as_parts (u ∷ v ∷ []) h.0) (λ mode vars.
        let x : TermText = spelled mode vars (term_of c u) in
        let y : TermText = spelled mode vars (term_of c v) in
        subst (λ (b : Bool). IsTail (cond b (record {
          at = λ limit. codes "[" ++ (x.at 999 ++ (y.rest ++ codes "]"));
          rest = codes "," ++ (x.at 999 ++ y.rest);
        }) (spelled_infix mode f (infix_of f) x y))) (sym h.1)
        (subst (λ (o : Option Operator). IsTail (spelled_infix mode f o x y)) (sym h.2) refl))

    pub rest_call : IsCompoundForm f ts form.Call → IsRest c t rest.Tail
    rest_call h = tail_as (Comp f (terms_by (term_of c) ts)) e (λ mode vars. subst IsTail (sym (h mode vars (term_of c))) refl)

    pub rest_list : (u v : TermId) → All (λ w. w.number < length c.entries) ts → IsCompoundForm f ts (form.Cell u v) → IsRest c t (rest.Cell u v)
    rest_list u v all h =
        let both = subst (All (λ w. w.number < length c.entries)) h.0 all in
        let is : term_of c t ≡ Comp f (terms_by (term_of c) (u ∷ v ∷ [])) = as_parts (u ∷ v ∷ []) h.0 in
        record {
          first_within = first_within (length c.entries) u (v ∷ []) both;
          more_within = second_within (length c.entries) u v [] both;
          text = λ mode vars.
              let x : TermText = spelled mode vars (term_of c u) in
              let y : TermText = spelled mode vars (term_of c v) in
              ap (λ (z : Term). (spelled mode vars z).rest) is
              ∙ ap (λ (b : Bool). (cond b (record { at = λ limit. codes "[" ++ (x.at 999 ++ (y.rest ++ codes "]")); rest = codes "," ++ (x.at 999 ++ y.rest) })
              (spelled_infix mode f (infix_of f) x y)).rest) h.1;
          lighter = omega (arith, ap weight is);
        }
