-- A walk's tasks and results as the code keeps them: the next task and the newest result last.
use Rattle.std.proofs.Common.{◌≡◌, ℕ, ◌-◌, ◌<◌, ap, sym, ◌∙◌, subst, arith, List, [], ◌∷◌, ◌++◌, length, take, drop}
use Rattle.std.specs.Prelude.{map, reverse}
use Rattle.std.proofs.lemmas.List.{map-append, take-map, drop-map, length-map}
use Rattle.term_pool.proofs.Lemmas.{size_above_zero}
use Rattle.fd_language.specs.Term.{Name, Term, Comp}
use Rattle.heap_terms.specs.Tasks.{Task, visit, make, to_terms, ahead, Leaves}
use Rattle.heap_terms.proofs.Tasks.{stack, stack_top, stack_parts, leaves_result, leaves_parts, leaves_compound, compound_ahead}

module _ (A R : Type 0) (task : A → Task) (term : R → Term) (g : Term) where
  -- the tasks leave the term g
  abbrev pub Walks : List A → List R → Type 0
  Walks ks ds = Leaves (stack A task ks) (map term ds) g

  abbrev pub effort : List A → ℕ
  effort ks = ahead (stack A task ks)

  last_task : (ks rest : List A) (k : A) (j : Task) → ks ≡ rest ++ k ∷ [] → task k ≡ j → stack A task ks ≡ j ∷ stack A task rest
  last_task ks rest k j e t = stack_top A task ks rest k e ∙ ap (λ i. i ∷ stack A task rest) t

  pushed : (ds es : List R) (r : R) (t : Term) → es ≡ ds ++ r ∷ [] → term r ≡ t → map term es ≡ map term ds ++ t ∷ []
  pushed ds es r t e q = ap (map term) e ∙ map-append term ds (r ∷ []) ∙ ap (λ u. map term ds ++ u ∷ []) q

  -- a term becomes a result
  module _ (ks rest : List A) (k : A) (t : Term) (split : ks ≡ rest ++ k ∷ []) (is : task k ≡ visit t) where
    pub walks_result : (ds es : List R) (r : R) → term r ≡ t → es ≡ ds ++ r ∷ [] → Walks ks ds → Walks rest es
    walks_result ds es r q e w =
        subst (λ xs. Leaves (stack A task rest) xs g) (sym (pushed ds es r t e q))
        (leaves_result t (stack A task rest) (map term ds) g (subst (λ js. Leaves js (map term ds) g) (last_task ks rest k (visit t) split is) w))

    pub result_smaller : effort rest < effort ks
    result_smaller = let e = ap ahead (last_task ks rest k (visit t) split is) in let p = size_above_zero t in omega arith

  -- a compound term becomes the visits of its parts and a task that makes it
  module _ (ks rest : List A) (k m : A) (vs ms : List A) (n : Name) (ts : List Term) (split : ks ≡ rest ++ k ∷ []) (is : task k ≡ visit (Comp n (to_terms ts)))
      (makes : task m ≡ make n (length ts)) (visits : map task vs ≡ map visit ts) (more : ms ≡ (rest ++ m ∷ []) ++ reverse vs) where
    parts : stack A task ms ≡ map visit ts ++ make n (length ts) ∷ stack A task rest
    parts = ap (stack A task) more ∙ stack_parts A task rest m vs ∙ ap (λ js. js ++ task m ∷ stack A task rest) visits ∙ ap (λ j. map visit ts ++ j ∷ stack A task rest) makes

    pub walks_parts : (ds : List R) → Walks ks ds → Walks ms ds
    walks_parts ds w =
        subst (λ js. Leaves js (map term ds) g) (sym parts)
        (leaves_parts n ts (stack A task rest) (map term ds) g (subst (λ js. Leaves js (map term ds) g) (last_task ks rest k (visit (Comp n (to_terms ts))) split is) w))

    pub parts_smaller : effort ms < effort ks
    parts_smaller = let e = ap ahead (last_task ks rest k (visit (Comp n (to_terms ts))) split is) in let f = ap ahead parts in let c = compound_ahead n ts (stack A task rest) in omega arith

  -- the last results become a compound term
  module _ (ks rest : List A) (k : A) (n : Name) (i : ℕ) (split : ks ≡ rest ++ k ∷ []) (is : task k ≡ make n i) where
    pub walks_made : (ds es : List R) (r : R) → term r ≡ Comp n (to_terms (map term (drop (length ds - i) ds))) → es ≡ take (length ds - i) ds ++ r ∷ [] → Walks ks ds → Walks rest es
    walks_made ds es r q e w =
        let l : Leaves (make n i ∷ stack A task rest) (map term ds) g = subst (λ js. Leaves js (map term ds) g) (last_task ks rest k (make n i) split is) w in
        let now = leaves_compound n i (stack A task rest) (map term ds) g l in
        let long : length (map term ds) ≡ length ds = length-map ds term in
        let same : take (length (map term ds) - i) (map term ds) ++ Comp n (to_terms (drop (length (map term ds) - i) (map term ds))) ∷ [] ≡ map term es =
        ap (λ j. take (j - i) (map term ds) ++ Comp n (to_terms (drop (j - i) (map term ds))) ∷ []) long
        ∙ ap (λ xs. xs ++ Comp n (to_terms (drop (length ds - i) (map term ds))) ∷ []) (take-map term (length ds - i) ds)
        ∙ ap (λ xs. map term (take (length ds - i) ds) ++ Comp n (to_terms xs) ∷ []) (drop-map term (length ds - i) ds)
        ∙ sym (pushed (take (length ds - i) ds) es r (Comp n (to_terms (map term (drop (length ds - i) ds)))) e q) in
        subst (λ xs. Leaves (stack A task rest) xs g) same now
