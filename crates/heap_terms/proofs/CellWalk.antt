-- The walk that reads a cell back, as far as it has come.
use Rattle.std.proofs.Common.{◌≡◌, ℕ, ◌-◌, ◌<◌, ◌≤◌, refl, ap, sym, ◌∙◌, subst, arith, inl, inr, List, [], ◌∷◌, ◌++◌, length, get_or, take, drop, length-append}
use Rattle.std.specs.Prelude.{map, reverse, All}
use Rattle.std.proofs.lemmas.List.{length-map}
use Rattle.std.proofs.lemmas.List.Elements.{All-append, All-take, All-drop}
use Rattle.std.proofs.lemmas.Simd.{map-map}
use Rattle.fd_language.specs.Term.{Name, Term, Comp, term}
use Rattle.term_pool.specs.declared.AtomId.{AtomId}
use Rattle.term_pool.specs.declared.TermId.{TermId}
use Rattle.term_pool.specs.Contents.{Contents, name_in}
use Rattle.term_pool.specs.Terms.{Extends, KeepsTerms}
use Rattle.term_pool.specs.Terms as pool
use Rattle.term_pool.proofs.Lemmas.{extends_trans, terms_by_same}
use Rattle.heap_cells.specs.declared.Cell.{Cell}
use Rattle.heap_cells.specs.Cells.{Cells, IsOf}
use Rattle.heap_cells.specs.Terms.{terms_by}
use Rattle.heap_cells.specs.Atoms.{IsAtomBelow}
use Rattle.heap_cells.specs.SeenTerms.{seen_term}
use Rattle.domain_ranges.specs.Views.{family_of}
use Rattle.heap_cells.proofs.Lemmas.{head_of, tail_of, none_at_all, both_of, all_front, all_push, all_reverse, map_same}
use Rattle.heap_terms.specs.declared.ReadTask.{ReadTask}
use Rattle.heap_terms.specs.declared.ReadTask.TheVariants.{Visit, Make}
use Rattle.heap_terms.specs.Tasks.{visit, make, to_terms, Leaves}
use Rattle.heap_terms.specs.CellReads.{PlacesAtZero, CanRead, VisitsCell, MakesTerm, task_of}
use Rattle.heap_terms.proofs.Stacks.{Walks, effort, walks_result, result_smaller, walks_parts, parts_smaller, walks_made}
use Rattle.heap_terms.proofs.Pools.{places_both}

-- the terms of cells, and of ids, as lists
pub to_terms-cells : (by : Cell → Term) (cs : List Cell) → to_terms (map by cs) ≡ terms_by by cs
to_terms-cells by [] = refl
to_terms-cells by (c ∷ cs) = ap (term (by c)) (to_terms-cells by cs)

to_terms-ids : (by : TermId → Term) (ts : List TermId) → to_terms (map by ts) ≡ pool.terms_by by ts
to_terms-ids by [] = refl
to_terms-ids by (t ∷ ts) = ap (term (by t)) (to_terms-ids by ts)

pub all_map : {X Y : Type 0} (P : X → Type 0) (Q : Y → Type 0) (f : X → Y) → ((x : X) → P x → Q (f x)) → (xs : List X) → All P xs → All Q (map f xs)
all_map P Q f e [] a = none_at_all Q
all_map P Q f e (x ∷ xs) a = both_of Q (f x) (map f xs) (e x (head_of P x xs a)) (all_map P Q f e xs (tail_of P x xs a))

both_all : {X : Type 0} (P Q : X → Type 0) (xs : List X) → All P xs → All Q xs → All (λ x. P x × Q x) xs
both_all P Q xs a b = λ k d l. (a k d l, b k d l)

abbrev pub Own : Contents → TermId → Type 0
Own p t = t.number < length p.entries

-- so far
pub record IsReading (names : List Name) (h : Cells) (sets : List (List ℕ)) (c : Cell) (before p : Contents) (ks : List ReadTask) (ds : List TermId) : Type 0 where
  pub tasks : All (CanRead names h) ks
  pub own : All (Own p) ds
  pub leaves : Walks ReadTask TermId (task_of names h sets) (pool.term_of p) (seen_term (name_in names) h (family_of sets) c) ks ds
  pub extends : Extends before p
  pub kept : KeepsTerms before p
  pub places : PlacesAtZero before p

module _ (names : List Name) (h : Cells) (sets : List (List ℕ)) (c : Cell) (before : Contents) where
  abbrev pub ahead_of : List ReadTask → ℕ
  ahead_of ks = effort ReadTask TermId (task_of names h sets) (pool.term_of before) (seen_term (name_in names) h (family_of sets) c) ks

  more_ids : (p q : Contents) → Extends p q → length p.entries ≤ length q.entries
  more_ids p q x = omega (arith, ap (λ es. length es) x.entries.1, length-append p.entries x.entries.0)

  wider : (p q : Contents) → Extends p q → (ds : List TermId) → All (Own p) ds → All (Own q) ds
  wider p q x ds a = λ k d l. (let o : Own p (get_or ds k d) = a k d l in omega (arith, more_ids p q x))

  -- the pool has grown
  pub grown : (p q : Contents) (ks : List ReadTask) (ds : List TermId) → Extends p q → KeepsTerms p q → PlacesAtZero p q
      → IsReading names h sets c before p ks ds → IsReading names h sets c before q ks ds
  grown p q ks ds x k z w = record {
    tasks = w.tasks;
    own = wider p q x ds w.own;
    leaves = subst (λ ts. Leaves (map (task_of names h sets) (reverse ks)) ts (seen_term (name_in names) h (family_of sets) c))
        (map_same (Own p) (pool.term_of p) (pool.term_of q) (λ t o. sym (k t o)) ds w.own) w.leaves;
    extends = extends_trans before p q w.extends x;
    kept = λ t l. k t (let m = more_ids before p w.extends in omega arith) ∙ w.kept t l;
    places = places_both before p q w.places z x;
  }

  -- a cell was looked at
  module _ (p q : Contents) (ks rest ms : List ReadTask) (ds es : List TermId) (d : Cell) (split : ks ≡ rest ++ Visit d ∷ []) (extends : Extends p q)
      (kept : KeepsTerms p q) (places : PlacesAtZero p q) (w : IsReading names h sets c before p ks ds) where
    before_it : All (CanRead names h) rest
    before_it = all_front (CanRead names h) rest (Visit d ∷ []) (subst (All (CanRead names h)) split w.tasks)

    now : IsReading names h sets c before q ks ds
    now = grown p q ks ds extends kept places w

    visited : VisitsCell names h sets d rest ds q ms es → IsReading names h sets c before q ms es × (ahead_of ms < ahead_of ks)
    visited (inl (e, (t, o, is, f))) = (
      record {
        tasks = subst (All (CanRead names h)) (sym e) before_it;
        own = subst (All (Own q)) (sym f) (all_push (Own q) ds t now.own o);
        leaves = subst (λ js. Walks ReadTask TermId (task_of names h sets) (pool.term_of q) (seen_term (name_in names) h (family_of sets) c) js es) (sym e)
            (walks_result ReadTask TermId (task_of names h sets) (pool.term_of q) (seen_term (name_in names) h (family_of sets) c) ks rest (Visit d)
            (seen_term (name_in names) h (family_of sets) d) split refl ds es t is f now.leaves);
        extends = now.extends;
        kept = now.kept;
        places = now.places;
      },
      subst (λ js. ahead_of js < ahead_of ks) (sym e)
          (result_smaller ReadTask TermId (task_of names h sets) (pool.term_of before) (seen_term (name_in names) h (family_of sets) c) ks rest (Visit d)
          (seen_term (name_in names) h (family_of sets) d) split refl),
    )
    visited (inr (f, args, is, below, o, a, more, e)) =
        let name = name_in names in
        let T = seen_term name h (family_of sets) in
        let ts = map T args in
        let top : task_of names h sets (Visit d) ≡ visit (Comp (name f) (to_terms ts)) = ap visit (is ∙ ap (Comp (name f)) (sym (to_terms-cells T args))) in
        let long : task_of names h sets (Make f (length args)) ≡ make (name f) (length ts) = ap (make (name f)) (sym (length-map args T)) in
        let all : map (task_of names h sets) (map Visit args) ≡ map visit ts = map-map (task_of names h sets) Visit args ∙ sym (map-map visit T args) in (
          record {
            tasks = subst (All (CanRead names h)) (sym more)
                (All-append (CanRead names h) (rest ++ Make f (length args) ∷ []) (reverse (map Visit args)) (all_push (CanRead names h) rest (Make f (length args)) before_it below)
                (all_reverse (CanRead names h) (map Visit args)
                (all_map (λ x. IsOf h x × IsAtomBelow (length names) x) (CanRead names h) Visit (λ x y. y) args
                (both_all (IsOf h) (IsAtomBelow (length names)) args o a))));
            own = subst (All (Own q)) (sym e) now.own;
            leaves = subst (λ xs. Walks ReadTask TermId (task_of names h sets) (pool.term_of q) (T c) ms xs) (sym e)
                (walks_parts ReadTask TermId (task_of names h sets) (pool.term_of q) (T c) ks rest (Visit d) (Make f (length args)) (map Visit args) ms (name f)
                ts split top long all more ds now.leaves);
            extends = now.extends;
            kept = now.kept;
            places = now.places;
          },
          parts_smaller ReadTask TermId (task_of names h sets) (pool.term_of before) (T c) ks rest (Visit d) (Make f (length args)) (map Visit args) ms (name f) ts split top long all more,
        )

    pub visited_on : VisitsCell names h sets d rest ds q ms es → IsReading names h sets c before q ms es
    visited_on v = (visited v).0

    pub visited_smaller : VisitsCell names h sets d rest ds q ms es → ahead_of ms < ahead_of ks
    visited_smaller v = (visited v).1

  -- a compound term was made
  module _ (p q : Contents) (ks rest : List ReadTask) (ds es : List TermId) (f : AtomId) (n : ℕ) (split : ks ≡ rest ++ Make f n ∷ []) (w : IsReading names h sets c before p ks ds) where
    pub made_on : Extends p q → KeepsTerms p q → PlacesAtZero p q → MakesTerm names f n p ds q es → IsReading names h sets c before q rest es
    made_on x k z (t, o, is, e) =
        let now = grown p q ks ds x k z w in
        let last = drop (length ds - n) ds in
        let same : pool.terms_by (pool.term_of p) last ≡ to_terms (map (pool.term_of q) last) =
        terms_by_same (pool.term_of p) (pool.term_of q) (length p.entries) last (All-drop (Own p) (length ds - n) ds w.own) (λ r l. sym (k r l)) ∙ sym (to_terms-ids (pool.term_of q) last) in
        record {
          tasks = all_front (CanRead names h) rest (Make f n ∷ []) (subst (All (CanRead names h)) split w.tasks);
          own = subst (All (Own q)) (sym e) (all_push (Own q) (take (length ds - n) ds) t (All-take (Own q) (length ds - n) ds now.own) o);
          leaves = walks_made ReadTask TermId (task_of names h sets) (pool.term_of q) (seen_term (name_in names) h (family_of sets) c) ks rest (Make f n)
              (name_in names f) n split refl ds es t (is ∙ ap (Comp (name_in names f)) same) e now.leaves;
          extends = now.extends;
          kept = now.kept;
          places = now.places;
        }
