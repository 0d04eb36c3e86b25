-- A compound term is visited by visits of its parts and one task that makes it.
use Rattle.std.proofs.Common.{◌≡◌, ℕ, suc, ◌+◌, ◌-◌, ◌*◌, ◌<◌, ◌≤◌, ap, sym, ◌∙◌, subst, arith, List, [], ◌∷◌, ◌++◌, length, take, drop, append_assoc}
use Rattle.std.proofs.Common.{length-append}
use Rattle.std.specs.Prelude.{map, reverse}
use Rattle.std.proofs.lemmas.List.{append-nil, length-take-le, map-append, reverse-append, reverse-reverse}
use Rattle.std.proofs.Math.Seq.{take-append_seam, drop-append_seam}
use Rattle.fd_language.specs.Term.{Name, Term, Comp}
use Rattle.term_pool.specs.Terms.{sizes}
use Rattle.heap_terms.specs.Tasks.{Task, visit, make, to_terms, finish, AreReady, ahead, Leaves}

pub visits_finish : (ts : List Term) (ks : List Task) (ds : List Term) → finish (map visit ts ++ ks) ds ≡ finish ks (ds ++ ts)
visits_finish [] ks ds = ap (finish ks) (sym (append-nil ds))
visits_finish (t ∷ ts) ks ds = visits_finish ts ks (ds ++ t ∷ []) ∙ ap (finish ks) (append_assoc ds (t ∷ []) ts)

pub compound_finish : (f : Name) (ts : List Term) (ks : List Task) (ds : List Term) → finish (map visit ts ++ make f (length ts) ∷ ks) ds ≡ finish (visit (Comp f (to_terms ts)) ∷ ks) ds
compound_finish f ts ks ds =
    let short : length (ds ++ ts) - length ts ≡ length ds = (let e = length-append ds ts in omega arith) in
    visits_finish ts (make f (length ts) ∷ ks) ds
    ∙ ap (λ n. finish ks (take n (ds ++ ts) ++ Comp f (to_terms (drop n (ds ++ ts))) ∷ [])) short
    ∙ ap (λ xs. finish ks (xs ++ Comp f (to_terms (drop (length ds) (ds ++ ts))) ∷ [])) (take-append_seam ds ts)
    ∙ ap (λ xs. finish ks (ds ++ Comp f (to_terms xs) ∷ [])) (drop-append_seam ds ts)

visits_ready : (ts : List Term) (ks : List Task) (n : ℕ) → AreReady ks (n + length ts) → AreReady (map visit ts ++ ks) n
visits_ready [] ks n h = subst (AreReady ks) (omega arith) h
visits_ready (t ∷ ts) ks n h = visits_ready ts ks (suc n) (let e : n + suc (length ts) ≡ suc n + length ts = omega arith in subst (AreReady ks) e h)

pub compound_ready : (f : Name) (ts : List Term) (ks : List Task) (n : ℕ) → AreReady (visit (Comp f (to_terms ts)) ∷ ks) n → AreReady (map visit ts ++ make f (length ts) ∷ ks) n
compound_ready f ts ks n h = visits_ready ts (make f (length ts) ∷ ks) n (let e : suc n ≡ suc (n + length ts - length ts) = omega arith in (omega arith, subst (AreReady ks) e h))

visits_ahead : (ts : List Term) (ks : List Task) → ahead (map visit ts ++ ks) ≡ 2 * sizes (to_terms ts) + ahead ks
visits_ahead [] ks = omega arith
visits_ahead (t ∷ ts) ks = let e = visits_ahead ts ks in omega arith

pub compound_ahead : (f : Name) (ts : List Term) (ks : List Task) → ahead (map visit ts ++ make f (length ts) ∷ ks) < ahead (visit (Comp f (to_terms ts)) ∷ ks)
compound_ahead f ts ks = let e = visits_ahead ts (make f (length ts) ∷ ks) in omega arith

-- A term that is looked at becomes a result.
pub leaves_result : (t : Term) (ks : List Task) (ds : List Term) (g : Term) → Leaves (visit t ∷ ks) ds g → Leaves ks (ds ++ t ∷ []) g
leaves_result t ks ds g l = record { ends = l.ends; ready = (let e : suc (length ds) ≡ length (ds ++ t ∷ []) = omega (arith, length-append ds (t ∷ [])) in subst (AreReady ks) e l.ready) }

-- A compound term becomes the visits of its parts and one task that makes it.
pub leaves_parts : (f : Name) (ts : List Term) (ks : List Task) (ds : List Term) (g : Term) → Leaves (visit (Comp f (to_terms ts)) ∷ ks) ds g → Leaves (map visit ts ++ make f (length ts) ∷ ks) ds g
leaves_parts f ts ks ds g l = record { ends = compound_finish f ts ks ds ∙ l.ends; ready = compound_ready f ts ks (length ds) l.ready }

-- The last results become a compound term.
pub leaves_compound : (f : Name) (n : ℕ) (ks : List Task) (ds : List Term) (g : Term) → Leaves (make f n ∷ ks) ds g
    → Leaves ks (take (length ds - n) ds ++ Comp f (to_terms (drop (length ds - n) ds)) ∷ []) g
leaves_compound f n ks ds g l =
    let t = Comp f (to_terms (drop (length ds - n) ds)) in
    let few : n ≤ length ds = l.ready.0 in
    let short : length (take (length ds - n) ds) ≡ length ds - n = length-take-le (length ds - n) ds (let q : length ds - n ≤ length ds = omega arith in q) in
    record {
      ends = l.ends;
      ready = (let e : suc (length ds - n) ≡ length (take (length ds - n) ds ++ t ∷ []) = omega (arith, length-append (take (length ds - n) ds) (t ∷ [])) in subst (AreReady ks) e l.ready.1);
    }

-- The stack of the code has the next task last.
module _ (A : Type 0) (f : A → Task) where
  abbrev pub stack : List A → List Task
  stack ks = map f (reverse ks)

  pub stack_top : (ks rest : List A) (k : A) → ks ≡ rest ++ k ∷ [] → stack ks ≡ f k ∷ stack rest
  stack_top ks rest k e = ap stack e ∙ ap (map f) (reverse-append rest (k ∷ []))

  pub stack_parts : (ks : List A) (m : A) (vs : List A) → stack ((ks ++ m ∷ []) ++ reverse vs) ≡ map f vs ++ f m ∷ stack ks
  stack_parts ks m vs =
      ap (map f) (reverse-append (ks ++ m ∷ []) (reverse vs) ∙ ap (λ xs. xs ++ reverse (ks ++ m ∷ [])) (reverse-reverse vs) ∙ ap (λ xs. vs ++ xs) (reverse-append ks (m ∷ [])))
      ∙ map-append f vs (m ∷ reverse ks)
