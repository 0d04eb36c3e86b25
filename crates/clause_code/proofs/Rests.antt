-- What is left of a list of terms.
use Rattle.std.proofs.Common.{◌≡◌, Bool, true, false, ℕ, suc, ◌+◌, ◌<◌, ◌≤◌, List, [], ◌∷◌, ◌++◌, drop, get_or, length, All, refl, ap, sym, ◌∙◌, subst, arith}
use Rattle.std.proofs.Common.{add-one, drop-cons, drop_of_length-le, append_assoc, append-nil}
use Rattle.std.proofs.lemmas.List.Elements.{All-push}
use Rattle.term_pool.specs.declared.AtomId.{AtomId}
use Rattle.term_pool.specs.PoolInvariant.{IsPool}
use Rattle.wam_code.specs.declared.instruction.Register.{Register}
use Rattle.wam_code.specs.declared.instruction.Code.{Code}
use Rattle.wam_code.specs.declared.instruction.Code.TheVariants.{PutStructure, GetStructure}
use Rattle.fd_language.specs.Term.{Name, Term, Terms, Var, Int, Atom, Comp, no_terms, term, term_count}
use Rattle.term_pool.specs.declared.TermId.{TermId}
use Rattle.term_pool.specs.Contents.{Contents, atom_name}
use Rattle.term_pool.specs.Terms.{term_of, terms_by, size, sizes}
use Rattle.clause_code.specs.declared.terms.Work.{Work}
use Rattle.clause_code.specs.declared.terms.Work.TheVariants.{Build, Close, Read}
use Rattle.clause_code.specs.Steps.{Step, put_structure, get_structure, atom_of, marked, marked_by_all, code_of, fill, filled, fills, behind, part, parts}
use Rattle.clause_code.specs.Steps.{build, builds, reading, readings, put, puts, get, gets, compounds, Suits, AllSuit}
use Rattle.clause_code.specs.BuildStack.{Writes, Turns, closing, opening, work_steps, stack_steps, total_weight, read_or_build, work_of, inners, IsWork, Pushes}
use Rattle.clause_code.specs.BuildStack.{Opens}
use Rattle.clause_code.proofs.StepEffects.{code_both, marked_both}
use Rattle.clause_code.proofs.WrittenSteps.{Owes, owes_less, atom_known}

-- the terms from the i-th on
abbrev pub rest : Contents → List TermId → ℕ → Terms
rest c ids i = terms_by (term_of c) (drop i ids)

pub rest_cons : (c : Contents) (ids : List TermId) (i : ℕ) (d : TermId) → i < length ids → rest c ids i ≡ term (term_of c (get_or ids i d)) (rest c ids (i + 1))
rest_cons c ids i d l = ap (terms_by (term_of c)) (drop-cons ids i d l ∙ ap (λ k. get_or ids i d ∷ drop k ids) (sym (add-one i)))

pub rest_none : (c : Contents) (ids : List TermId) (i : ℕ) → length ids ≤ i → rest c ids i ≡ no_terms
rest_none c ids i l = ap (terms_by (term_of c)) (drop_of_length-le ids l)

pub suits_next : (c : Contents) (v : ℕ) (ids : List TermId) (i : ℕ) (d : TermId) → i < length ids → AllSuit c v (rest c ids i)
    → Suits c v (term_of c (get_or ids i d)) × AllSuit c v (rest c ids (i + 1))
suits_next c v ids i d l s = subst (AllSuit c v) (rest_cons c ids i d l) s

parts_next : (c : Contents) (read : Bool) (j : ℕ) (t : Term) (ts : Terms) → parts c read j (term t ts) ≡ (part c read j t ∷ []) ++ parts c read (behind j t) ts
parts_next c read j (Var x) ts = refl
parts_next c read j (Int z) ts = refl
parts_next c read j (Atom a) ts = refl
parts_next c read j (Comp f us) ts = refl

pub parts_rest : (c : Contents) (read : Bool) (ids : List TermId) (i j : ℕ) (d : TermId) → i < length ids
    → parts c read j (rest c ids i) ≡ (part c read j (term_of c (get_or ids i d)) ∷ []) ++ parts c read (behind j (term_of c (get_or ids i d))) (rest c ids (i + 1))
parts_rest c read ids i j d l = ap (parts c read j) (rest_cons c ids i d l) ∙ parts_next c read j (term_of c (get_or ids i d)) (rest c ids (i + 1))

pub puts_rest : (c : Contents) (ids : List TermId) (i j free : ℕ) (d : TermId) → i < length ids
    → puts c j free (rest c ids i) ≡ put c j free (term_of c (get_or ids i d)) ++ puts c (j + 1) free (rest c ids (i + 1))
puts_rest c ids i j free d l = ap (puts c j free) (rest_cons c ids i d l) ∙ ap (λ k. put c j free (term_of c (get_or ids i d)) ++ puts c k free (rest c ids (i + 1))) (sym (add-one j))

pub gets_rest : (c : Contents) (ids : List TermId) (i j free : ℕ) (d : TermId) → i < length ids
    → gets c j free (rest c ids i) ≡ get c j free (term_of c (get_or ids i d)) ++ gets c (j + 1) free (rest c ids (i + 1))
gets_rest c ids i j free d l = ap (gets c j free) (rest_cons c ids i d l) ∙ ap (λ k. get c j free (term_of c (get_or ids i d)) ++ gets c k free (rest c ids (i + 1))) (sym (add-one j))

-- ---- stacks

pub stack_both : (c : Contents) (xs ys : List Work) → stack_steps c (xs ++ ys) ≡ stack_steps c ys ++ stack_steps c xs
stack_both c [] ys = sym (append-nil (stack_steps c ys))
stack_both c (x ∷ xs) ys = ap (λ l. l ++ work_steps c x) (stack_both c xs ys) ∙ append_assoc (stack_steps c ys) (stack_steps c xs) (work_steps c x)

pub weight_both : (c : Contents) (xs ys : List Work) → total_weight c (xs ++ ys) ≡ total_weight c xs + total_weight c ys
weight_both c [] ys = omega arith
weight_both c (x ∷ xs) ys = let e = weight_both c xs ys in omega (arith, e)

-- the works that are on the stack, and those that are still to be pushed
pub record Pushing (c : Contents) (read : Bool) (first free j i : ℕ) (ids : List TermId) (old now : List Work) : Type 0 where
  pub steps : inners c read j free (rest c ids i) ++ stack_steps c now ≡ inners c read first free (terms_by (term_of c) ids) ++ stack_steps c old
  pub weight : sizes (rest c ids i) + sizes (rest c ids i) + total_weight c now ≤ sizes (terms_by (term_of c) ids) + sizes (terms_by (term_of c) ids) + total_weight c old
  pub works : (v : ℕ) → AllSuit c v (terms_by (term_of c) ids) → All (IsWork c v) old → All (IsWork c v) now × AllSuit c v (rest c ids i)

no_inners : (c : Contents) (read : Bool) (j free : ℕ) → inners c read j free no_terms ≡ []
no_inners c true j free = refl
no_inners c false j free = refl

pub pushing_last : (c : Contents) (read : Bool) (first free j i : ℕ) (ids : List TermId) (old now : List Work) → length ids ≤ i
    → Pushing c read first free j i ids old now → Pushes c read first free ids old now
pushing_last c read first free j i ids old now l p =
    let none = rest_none c ids i l in
    record {
      steps = sym (ap (λ ss. ss ++ stack_steps c now) (no_inners c read j free)) ∙ ap (λ ts. inners c read j free ts ++ stack_steps c now) (sym none) ∙ p.steps;
      weight = let w = p.weight in omega (arith, w);
      works = λ v s a. (p.works v s a).0;
    }

pushed_steps : (c : Contents) (read : Bool) (j free : ℕ) (t : TermId) (u : Term) → term_of c t ≡ u → (ts : Terms) (now : List Work)
    → inners c read (behind j u) free ts ++ stack_steps c (now ++ work_of read u t j free) ≡ inners c read j free (term u ts) ++ stack_steps c now
pushed_steps c true j free t (Var x) e ts now = ap (λ l. readings c j free ts ++ stack_steps c l) (append-nil now)
pushed_steps c true j free t (Int z) e ts now = ap (λ l. readings c j free ts ++ stack_steps c l) (append-nil now)
pushed_steps c true j free t (Atom a) e ts now = ap (λ l. readings c j free ts ++ stack_steps c l) (append-nil now)
pushed_steps c true j free t (Comp f us) e ts now =
    let one : List Work = Read t j free ∷ [] in
    ap (λ l. readings c (suc j) free ts ++ l) (stack_both c now one ∙ ap (λ x. reading c j free x ++ stack_steps c now) e)
    ∙ sym (append_assoc (readings c (suc j) free ts) (reading c j free (Comp f us)) (stack_steps c now))
pushed_steps c false j free t (Var x) e ts now = ap (λ l. builds c j free ts ++ stack_steps c l) (append-nil now)
pushed_steps c false j free t (Int z) e ts now = ap (λ l. builds c j free ts ++ stack_steps c l) (append-nil now)
pushed_steps c false j free t (Atom a) e ts now = ap (λ l. builds c j free ts ++ stack_steps c l) (append-nil now)
pushed_steps c false j free t (Comp f us) e ts now =
    let one : List Work = Build t j free ∷ [] in
    ap (λ l. builds c (suc j) free ts ++ l) (stack_both c now one ∙ ap (λ x. build c j free x ++ stack_steps c now) e)
    ∙ sym (append_assoc (builds c (suc j) free ts) (build c j free (Comp f us)) (stack_steps c now))

waiting_weight : (c : Contents) (read : Bool) (t : TermId) (j free : ℕ) → total_weight c (read_or_build read t j free ∷ []) ≡ size (term_of c t) + size (term_of c t)
waiting_weight c true t j free = omega arith
waiting_weight c false t j free = omega arith

pushed_weight : (c : Contents) (read : Bool) (j free : ℕ) (t : TermId) (u : Term) → term_of c t ≡ u → (now : List Work)
    → total_weight c (now ++ work_of read u t j free) ≤ size u + size u + total_weight c now
pushed_weight c read j free t (Var x) e now = let a = ap (total_weight c) (append-nil now) in omega (arith, a)
pushed_weight c read j free t (Int z) e now = let a = ap (total_weight c) (append-nil now) in omega (arith, a)
pushed_weight c read j free t (Atom x) e now = let a = ap (total_weight c) (append-nil now) in omega (arith, a)
pushed_weight c read j free t (Comp f us) e now =
    let a = weight_both c now (read_or_build read t j free ∷ []) in
    let w = waiting_weight c read t j free in
    let s : size (term_of c t) ≡ size (Comp f us) = ap size e in
    omega (arith, a, w, s)

waiting_work : (c : Contents) (read : Bool) (v : ℕ) (t : TermId) (j free : ℕ) → t.number < length c.entries → Suits c v (term_of c t) → IsWork c v (read_or_build read t j free)
waiting_work c true v t j free own s = (own, s)
waiting_work c false v t j free own s = (own, s)

pushed_works : (c : Contents) (read : Bool) (v j free : ℕ) (t : TermId) (u : Term) → term_of c t ≡ u → t.number < length c.entries → Suits c v u
    → (now : List Work) → All (IsWork c v) now → All (IsWork c v) (now ++ work_of read u t j free)
pushed_works c read v j free t (Var x) e own s now a = subst (All (IsWork c v)) (sym (append-nil now)) a
pushed_works c read v j free t (Int z) e own s now a = subst (All (IsWork c v)) (sym (append-nil now)) a
pushed_works c read v j free t (Atom k) e own s now a = subst (All (IsWork c v)) (sym (append-nil now)) a
pushed_works c read v j free t (Comp f us) e own s now a = All-push (IsWork c v) now (read_or_build read t j free) a (waiting_work c read v t j free own (subst (Suits c v) (sym e) s))

pub pushing_next : (c : Contents) (read : Bool) (first free j next i : ℕ) (ids : List TermId) (old now new : List Work) (d : TermId) → i < length ids
    → (get_or ids i d).number < length c.entries → next ≡ behind j (term_of c (get_or ids i d))
    → new ≡ now ++ work_of read (term_of c (get_or ids i d)) (get_or ids i d) j free → Pushing c read first free j i ids old now → Pushing c read first free next (i + 1) ids old new
pushing_next c read first free j next i ids old now new d l own e n p =
    let t : TermId = get_or ids i d in
    let u : Term = term_of c t in
    let more : Terms = rest c ids (i + 1) in
    let cons : rest c ids i ≡ term u more = rest_cons c ids i d l in
    record {
      steps =
          ap (λ k. inners c read k free more ++ stack_steps c new) e
          ∙ ap (λ ws. inners c read (behind j u) free more ++ stack_steps c ws) n
          ∙ pushed_steps c read j free t u refl more now
          ∙ ap (λ ts. inners c read j free ts ++ stack_steps c now) (sym cons)
          ∙ p.steps;
      weight =
          let a = p.weight in
          let b : total_weight c new ≤ size u + size u + total_weight c now = subst (λ ws. total_weight c ws ≤ size u + size u + total_weight c now) (sym n)
          (pushed_weight c read j free t u refl now) in
          let s : sizes (rest c ids i) ≡ size u + sizes more = ap sizes cons in
          omega (arith, a, b, s);
      works = λ v s a.
          let w = p.works v s a in
          let both = suits_next c v ids i d l w.1 in
          (subst (All (IsWork c v)) (sym n) (pushed_works c read v j free t u refl own both.0 now w.0), both.1);
    }

-- ---- works that are taken

pub opens : (c : Contents) (t : TermId) (r free : ℕ) (f : Name) (ids : List TermId) (next : ℕ) (old mid new : List Work) → t.number < length c.entries
    → term_of c t ≡ Comp f (terms_by (term_of c) ids) → next ≡ free + compounds (terms_by (term_of c) ids)
    → mid ≡ old ++ (Close t r free ∷ []) → Pushes c false free next ids mid new → Opens c t r free old new
opens c t r free f ids next old mid new own e n m p =
    let us : Terms = terms_by (term_of c) ids in
    let last : List Step = put_structure (atom_of c f) (term_count us) r ∷ parts c false free us in
    let below : stack_steps c mid ≡ last ++ stack_steps c old = ap (stack_steps c) m ∙ stack_both c old (Close t r free ∷ []) ∙ ap (λ u. closing c r free u ++ stack_steps c old) e in
    record {
      steps =
          p.steps
          ∙ ap (λ l. builds c free next us ++ l) below
          ∙ sym (append_assoc (builds c free next us) last (stack_steps c old))
          ∙ ap (λ k. (builds c free k us ++ last) ++ stack_steps c old) n
          ∙ ap (λ u. build c r free u ++ stack_steps c old) (sym e);
      lighter =
          let w = p.weight in
          let a : total_weight c mid ≡ total_weight c old + total_weight c (Close t r free ∷ []) = ap (total_weight c) m ∙ weight_both c old (Close t r free ∷ []) in
          let s : size (term_of c t) ≡ 1 + sizes us = ap size e in
          omega (arith, w, a, s);
      works = λ v s a.
          let su : Suits c v (Comp f us) = subst (Suits c v) e s in
          p.works v su.3 (subst (All (IsWork c v)) (sym m) (All-push (IsWork c v) old (Close t r free) a (own, s)));
    }

pub count_terms : (g : TermId → Term) (ids : List TermId) → term_count (terms_by g ids) ≡ length ids
count_terms g [] = refl
count_terms g (t ∷ ts) = let e = count_terms g ts in omega (arith, e)

pub few_parts : (c : Contents) (v : ℕ) (t : TermId) (f : Name) (ids : List TermId) → term_of c t ≡ Comp f (terms_by (term_of c) ids) → Suits c v (term_of c t) → length ids ≤ 255
few_parts c v t f ids e s = let su : Suits c v (Comp f (terms_by (term_of c) ids)) = subst (Suits c v) e s in let m = su.2 in let k = count_terms (term_of c) ids in omega (arith, m, k)

-- a structure's instruction, and its arguments
pub writes_put : (c : Contents) (homes : List Register) (code mid new : List Code) (made later : List Bool) (name : AtomId) (ids : List TermId) (n r free : ℕ)
    → IsPool c → name.number < length c.names → n ≡ length ids → mid ≡ code ++ (PutStructure name n r ∷ [])
    → Writes homes mid made (parts c false free (terms_by (term_of c) ids)) new later
    → Writes homes code made (put_structure (atom_of c (atom_name c name)) (term_count (terms_by (term_of c) ids)) r ∷ parts c false free
    (terms_by (term_of c) ids)) new later
writes_put c homes code mid new made later name ids n r free valid l k e w =
    let us : Terms = terms_by (term_of c) ids in
    let a : name ≡ atom_of c (atom_name c name) = sym (atom_known c name valid l) in
    let d : n ≡ term_count us = k ∙ sym (count_terms (term_of c) ids) in
    record {
      codes =
          w.codes
          ∙ ap (λ x. x ++ code_of homes made (parts c false free us)) e
          ∙ append_assoc code (PutStructure name n r ∷ []) (code_of homes made (parts c false free us))
          ∙ ap (λ x. code ++ (PutStructure x n r ∷ code_of homes made (parts c false free us))) a
          ∙ ap (λ x. code ++ (PutStructure (atom_of c (atom_name c name)) x r ∷ code_of homes made (parts c false free us))) d;
      marks = w.marks;
    }

pub writes_get : (c : Contents) (homes : List Register) (code mid new : List Code) (made later : List Bool) (name : AtomId) (ids : List TermId) (n r free : ℕ)
    → IsPool c → name.number < length c.names → n ≡ length ids → mid ≡ code ++ (GetStructure name n r ∷ [])
    → Writes homes mid made (parts c true free (terms_by (term_of c) ids)) new later
    → Writes homes code made (get_structure (atom_of c (atom_name c name)) (term_count (terms_by (term_of c) ids)) r ∷ parts c true free
    (terms_by (term_of c) ids)) new later
writes_get c homes code mid new made later name ids n r free valid l k e w =
    let us : Terms = terms_by (term_of c) ids in
    let a : name ≡ atom_of c (atom_name c name) = sym (atom_known c name valid l) in
    let d : n ≡ term_count us = k ∙ sym (count_terms (term_of c) ids) in
    record {
      codes =
          w.codes
          ∙ ap (λ x. x ++ code_of homes made (parts c true free us)) e
          ∙ append_assoc code (GetStructure name n r ∷ []) (code_of homes made (parts c true free us))
          ∙ ap (λ x. code ++ (GetStructure x n r ∷ code_of homes made (parts c true free us))) a
          ∙ ap (λ x. code ++ (GetStructure (atom_of c (atom_name c name)) x r ∷ code_of homes made (parts c true free us))) d;
      marks = w.marks;
    }

pub writes_both : (homes : List Register) (code mid new : List Code) (made now later : List Bool) (ss ts : List Step) → Writes homes code made ss mid now
    → Writes homes mid now ts new later → Writes homes code made (ss ++ ts) new later
writes_both homes code mid new made now later ss ts f g = record {
  codes =
      g.codes
      ∙ ap (λ x. x ++ code_of homes now ts) f.codes
      ∙ append_assoc code (code_of homes made ss) (code_of homes now ts)
      ∙ ap (λ m. code ++ (code_of homes made ss ++ code_of homes m ts)) f.marks
      ∙ ap (λ x. code ++ x) (sym (code_both homes made ss ts));
  marks = g.marks ∙ ap (λ m. marked_by_all m ts) f.marks ∙ sym (marked_both made ss ts);
}

-- the last work of a stack is taken
pub turned : (c : Contents) (homes : List Register) (w : Work) (ws rest us : List Work) (code new : List Code) (made later : List Bool) (whole : List Code)
    (last : List Bool) → ws ≡ rest ++ (w ∷ []) → Turns c homes w rest code made us new later
    → Owes homes code made (stack_steps c ws) whole last → Owes homes new later (stack_steps c us) whole last
turned c homes w ws rest us code new made later whole last e t o =
    let same : stack_steps c ws ≡ t.steps ++ stack_steps c us = ap (stack_steps c) e ∙ stack_both c rest (w ∷ []) ∙ sym t.rest in
    owes_less homes code new made later t.steps (stack_steps c us) whole last (subst (λ ss. Owes homes code made ss whole last) same o) t.writes

pub turned_lighter : (c : Contents) (homes : List Register) (w : Work) (ws rest us : List Work) (code new : List Code) (made later : List Bool)
    → ws ≡ rest ++ (w ∷ []) → Turns c homes w rest code made us new later → total_weight c us < total_weight c ws
turned_lighter c homes w ws rest us code new made later e t = let a = ap (total_weight c) e in let b = weight_both c rest (w ∷ []) in let l = t.lighter in omega (arith, a, b, l)

-- a compound term is opened, and one is closed
pub turns_open : (c : Contents) (homes : List Register) (w : Work) (t : TermId) (r free : ℕ) (old new : List Work) (code : List Code) (made : List Bool)
    → w ≡ Build t r free → IsWork c (length homes) w → All (IsWork c (length homes)) old → Opens c t r free old new
    → Turns c homes w old code made new code made
turns_open c homes w t r free old new code made e k a o =
    let here : IsWork c (length homes) (Build t r free) = subst (IsWork c (length homes)) e k in
    let one : Turns c homes (Build t r free) old code made new code made = record {
      steps = [];
      writes = record { codes = sym (append-nil code); marks = refl };
      rest = o.steps;
      lighter = o.lighter;
      works = o.works (length homes) here.1 a;
    } in
    subst (λ v. Turns c homes v old code made new code made) (sym e) one

pub turns_close : (c : Contents) (homes : List Register) (w : Work) (t : TermId) (r free : ℕ) (old : List Work) (code new : List Code) (made later : List Bool)
    → w ≡ Close t r free → All (IsWork c (length homes)) old → Writes homes code made (closing c r free (term_of c t)) new later
    → Turns c homes w old code made old new later
turns_close c homes w t r free old code new made later e a k =
    let one : Turns c homes (Close t r free) old code made old new later = record { steps = closing c r free (term_of c t); writes = k; rest = refl; lighter = omega arith; works = a } in
    subst (λ v. Turns c homes v old code made old new later) (sym e) one

-- a structure is read, whose compound arguments are works then
pub turns_read : (c : Contents) (homes : List Register) (t : TermId) (r free : ℕ) (f : Name) (ids : List TermId) (next : ℕ) (old us : List Work)
    (code new : List Code) (made later : List Bool) → term_of c t ≡ Comp f (terms_by (term_of c) ids) → Suits c (length homes) (term_of c t)
    → All (IsWork c (length homes)) old
    → next ≡ free + compounds (terms_by (term_of c) ids) → Writes homes code made (opening c r free (Comp f (terms_by (term_of c) ids))) new later
    → Pushes c true free next ids old us → Turns c homes (Read t r free) old code made us new later
turns_read c homes t r free f ids next old us code new made later e s a n w p =
    let ts : Terms = terms_by (term_of c) ids in
    let first : List Step = opening c r free (Comp f ts) in
    let su : Suits c (length homes) (Comp f ts) = subst (Suits c (length homes)) e s in
    record {
      steps = first;
      writes = w;
      rest =
          ap (λ l. first ++ l) p.steps
          ∙ sym (append_assoc first (readings c free next ts) (stack_steps c old))
          ∙ ap (λ k. (first ++ readings c free k ts) ++ stack_steps c old) n
          ∙ ap (λ u. reading c r free u ++ stack_steps c old) (sym e);
      lighter = let l = p.weight in let z : size (term_of c t) ≡ 1 + sizes ts = ap size e in omega (arith, l, z);
      works = p.works (length homes) su.3 a;
    }

-- what is no structure is not read
pub turns_nothing : (c : Contents) (homes : List Register) (t : TermId) (r free : ℕ) (old : List Work) (code : List Code) (made : List Bool)
    → All (IsWork c (length homes)) old → reading c r free (term_of c t) ≡ [] → 1 ≤ size (term_of c t)
    → Turns c homes (Read t r free) old code made old code made
turns_nothing c homes t r free old code made a e l = record {
  steps = [];
  writes = record { codes = sym (append-nil code); marks = refl };
  rest = sym (ap (λ ss. ss ++ stack_steps c old) e);
  lighter = omega (arith, l);
  works = a;
}

-- a compound term is read by way of the stack
pub turned_read : (c : Contents) (homes : List Register) (w : Work) (t : TermId) (r free : ℕ) (ws us : List Work) (code new : List Code)
    (made later : List Bool) → w ≡ Read t r free → Turns c homes (Read t r free) ws code made us new later → Turns c homes w ws code made us new later
turned_read c homes w t r free ws us code new made later e h = subst (λ v. Turns c homes v ws code made us new later) (sym e) h

-- ---- one argument after the other

pub put_next : (homes : List Register) (code new : List Code) (made later : List Bool) (c : Contents) (ids : List TermId) (i j free : ℕ) (d : TermId)
    (whole : List Code) (last : List Bool) → i < length ids → Owes homes code made (puts c j free (rest c ids i)) whole last
    → Writes homes code made (put c j free (term_of c (get_or ids i d))) new later → Owes homes new later (puts c (j + 1) free (rest c ids (i + 1))) whole last
put_next homes code new made later c ids i j free d whole last l o w =
    owes_less homes code new made later (put c j free (term_of c (get_or ids i d))) (puts c (j + 1) free (rest c ids (i + 1))) whole last
    (subst (λ ss. Owes homes code made ss whole last) (puts_rest c ids i j free d l) o) w

pub get_next : (homes : List Register) (code new : List Code) (made later : List Bool) (c : Contents) (ids : List TermId) (i j free : ℕ) (d : TermId)
    (whole : List Code) (last : List Bool) → i < length ids → Owes homes code made (gets c j free (rest c ids i)) whole last
    → Writes homes code made (get c j free (term_of c (get_or ids i d))) new later → Owes homes new later (gets c (j + 1) free (rest c ids (i + 1))) whole last
get_next homes code new made later c ids i j free d whole last l o w =
    owes_less homes code new made later (get c j free (term_of c (get_or ids i d))) (gets c (j + 1) free (rest c ids (i + 1))) whole last
    (subst (λ ss. Owes homes code made ss whole last) (gets_rest c ids i j free d l) o) w

-- ---- variables that are still to be made

pub fills_next : (homes : List Register) (scratch : ℕ) (old code new : List Code) (first made : List Bool) (x : ℕ) → code ≡ old ++ fills homes scratch first x
    → made ≡ filled first x → new ≡ code ++ fill homes scratch made x → new ≡ old ++ fills homes scratch first (x + 1)
fills_next homes scratch old code new first made x e m n =
    n ∙ ap (λ l. l ++ fill homes scratch made x) e ∙ ap (λ k. (old ++ fills homes scratch first x) ++ fill homes scratch k x) m
    ∙ append_assoc old (fills homes scratch first x) (fill homes scratch (filled first x) x) ∙ ap (λ k. old ++ fills homes scratch first k) (sym (add-one x))

pub filled_next : (first made later : List Bool) (x : ℕ) → made ≡ filled first x → later ≡ marked made x → later ≡ filled first (x + 1)
filled_next first made later x m n = n ∙ ap (λ k. marked k x) m ∙ ap (filled first) (sym (add-one x))

pub part_next : (homes : List Register) (code new : List Code) (made later : List Bool) (c : Contents) (read : Bool) (ids : List TermId) (i j next : ℕ)
    (d : TermId) (whole : List Code) (last : List Bool) → i < length ids → next ≡ behind j (term_of c (get_or ids i d))
    → Owes homes code made (parts c read j (rest c ids i)) whole last → Writes homes code made (part c read j (term_of c (get_or ids i d)) ∷ []) new later
    → Owes homes new later (parts c read next (rest c ids (i + 1))) whole last
part_next homes code new made later c read ids i j next d whole last l e o w =
    let one : Step = part c read j (term_of c (get_or ids i d)) in
    subst (λ k. Owes homes new later (parts c read k (rest c ids (i + 1))) whole last) (sym e)
    (owes_less homes code new made later (one ∷ []) (parts c read (behind j (term_of c (get_or ids i d))) (rest c ids (i + 1))) whole last
    (subst (λ ss. Owes homes code made ss whole last) (parts_rest c read ids i j d l) o) w)
