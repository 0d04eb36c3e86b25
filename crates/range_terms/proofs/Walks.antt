-- One step of the walk, and what is left behind it.
use Rattle.std.proofs.Common.{◌≡◌, ℕ, ◌<◌, ◌+◌, List, [], ◌∷◌, ◌++◌, length, Option, Some, None, refl, sym, ap, subst, ◌∙◌, arith, length-append}
use Rattle.std.specs.Prelude.{All, min}
use Rattle.std.specs.Option.{option_to_list}
use Rattle.std.proofs.lemmas.List.{append-nil, append_assoc}
use Rattle.std.proofs.lemmas.List.Elements.{All-append, All-nil}
use Rattle.fd_language.proofs.Lemmas.{first_nil, second_nil}
use Rattle.fd_language.specs.declared.range_node.RangeNode.{RangeNode}
use Rattle.fd_language.specs.Spelling.{least_place}
use Rattle.term_pool.specs.Contents.{Contents}
use Rattle.range_terms.specs.declared.walk.Task.{Task}
use Rattle.range_terms.specs.declared.walk.Found.{Found}
use Rattle.range_terms.specs.TermNodes.{Wanted, one_node, joined}
use Rattle.range_terms.specs.Walk.{of_task, left, task_weight, load, IsOf, Puts, Refuses, Replaces, IsLeft}
use Rattle.range_terms.proofs.TermNodes.{joined-nil, joined_assoc}

pub left_append : (N : ℕ) (c : Contents) (ps qs : List Task) → left N c (ps ++ qs) ≡ joined (left N c qs) (left N c ps)
left_append N c [] qs = sym (joined-nil (left N c qs))
left_append N c (p ∷ ps) qs = ap (λ (u : Wanted). joined u (of_task N c p)) (left_append N c ps qs) ∙ joined_assoc (left N c qs) (left N c ps) (of_task N c p)

load-append : (c : Contents) (ps qs : List Task) → load c (ps ++ qs) ≡ load c ps + load c qs
unfolding load
load-append c [] qs = omega arith
load-append c (p ∷ ps) qs = omega (arith, load-append c ps qs)

load-one : (c : Contents) (p : Task) → load c (p ∷ []) ≡ task_weight c p
unfolding load
load-one c p = omega arith

pub load_two : (c : Contents) (p q : Task) → load c (p ∷ q ∷ []) ≡ task_weight c p + task_weight c q
unfolding load
load_two c p q = omega arith

pub load_three : (c : Contents) (p q r : Task) → load c (p ∷ q ∷ r ∷ []) ≡ task_weight c p + task_weight c q + task_weight c r
unfolding load
load_three c p q r = omega arith

load-nil : (c : Contents) → load c [] ≡ 0
unfolding load
load-nil c = refl

-- a node more
pub step_put : (N : ℕ) (c : Contents) (w : Wanted) (heavy : ℕ) (n : RangeNode) (p : ℕ) (old new : Found) (ahead : List Task) → w ≡ one_node n p → 0 < heavy
    → Puts n p old new → Replaces N c w heavy old ahead new ahead
step_put N c w heavy n p old new ahead e h s = record {
  more = [];
  pushed = sym (append-nil ahead);
  nodes = λ none. append-nil new.nodes.items ∙ s.nodes ∙ ap (λ (u : Wanted). old.nodes.items ++ u.nodes) (sym e);
  places = append-nil new.places.items ∙ s.places ∙ ap (λ (u : Wanted). old.places.items ++ u.places) (sym e);
  offenders = λ rest. ap (λ (o : Option ℕ). least_place (option_to_list o ++ rest)) s.offender ∙ ap (λ (u : Wanted). least_place (option_to_list old.offender ++ (u.offenders ++ rest))) (sym e);
  level = λ l. ap (λ (ns : List RangeNode). length ns) s.nodes ∙ one_more old.nodes.items old.places.items l ∙ ap (λ (ps : List ℕ). length ps) (sym s.places);
  lighter = omega (arith, load-nil c);
  within = All-nil (IsOf c);
}
  where
    one_more : (ns : List RangeNode) (ps : List ℕ) → length ns ≡ length ps → length (ns ++ n ∷ []) ≡ length (ps ++ p ∷ [])
    one_more ns ps l = omega (arith, length-append ns (n ∷ []), length-append ps (p ∷ []))

-- it fits nowhere
pub step_refuse : (N : ℕ) (c : Contents) (w : Wanted) (heavy p : ℕ) (old new : Found) (ahead : List Task) → (w.places ≡ []) × (w.offenders ≡ p ∷ []) → 0 < heavy
    → Refuses p old new → Replaces N c w heavy old ahead new ahead
step_refuse N c w heavy p old new ahead e h s = record {
  more = [];
  pushed = sym (append-nil ahead);
  nodes = λ none. let wrong : p ∷ [] ≡ [] = sym e.1 ∙ none in absurd cc;
  places = append-nil new.places.items ∙ s.places ∙ sym (append-nil old.places.items) ∙ ap (λ (ps : List ℕ). old.places.items ++ ps) (sym e.0);
  offenders = λ rest. s.offender rest ∙ ap (λ (os : List ℕ). least_place (option_to_list old.offender ++ (os ++ rest))) (sym e.1);
  level = λ l. ap (λ (ns : List RangeNode). length ns) s.nodes ∙ l ∙ ap (λ (ps : List ℕ). length ps) (sym s.places);
  lighter = omega (arith, load-nil c);
  within = All-nil (IsOf c);
}

-- all is left to tasks
pub step_open : (N : ℕ) (c : Contents) (w : Wanted) (heavy : ℕ) (found : Found) (ahead next more : List Task) → next ≡ ahead ++ more → w ≡ left N c more
    → load c more < heavy → All (IsOf c) more → Replaces N c w heavy found ahead found next
step_open N c w heavy found ahead next more e l h a = record {
  more = more;
  pushed = e;
  nodes = λ none. ap (λ (u : Wanted). found.nodes.items ++ u.nodes) (sym l);
  places = ap (λ (u : Wanted). found.places.items ++ u.places) (sym l);
  offenders = λ rest. ap (λ (u : Wanted). least_place (option_to_list found.offender ++ (u.offenders ++ rest))) (sym l);
  level = λ k. k;
  lighter = h;
  within = a;
}

-- some place is the smallest, unless there is none
some_least : (p : ℕ) (ps : List ℕ) → (q : ℕ) × (least_place (p ∷ ps) ≡ Some q)
some_least p [] = (p, refl)
some_least p (q ∷ ps) = some_least (min p q) ps

pub least_none : (ps : List ℕ) → least_place ps ≡ None → ps ≡ []
least_none [] h = refl
least_none (p ∷ ps) h = let s = some_least p ps in let wrong : Some s.0 ≡ None = sym s.1 ∙ h in absurd cc

-- the step keeps what is found and what is left
pub still_left : (N : ℕ) (c : Contents) (w : Wanted) (t : Task) (old new : Found) (rest next : List Task)
    → Replaces N c (of_task N c t) (task_weight c t) old rest new next → IsLeft N c w old (rest ++ t ∷ []) → All (IsOf c) rest → IsLeft N c w new next
still_left N c w t old new rest next s i a =
    let u : Wanted = of_task N c t in
    let before : left N c (rest ++ t ∷ []) ≡ joined u (left N c rest) = left_append N c rest (t ∷ []) in
    let after : left N c next ≡ joined (left N c s.more) (left N c rest) = ap (left N c) s.pushed ∙ left_append N c rest s.more in
    let offenders : least_place (option_to_list old.offender ++ (u.offenders ++ (left N c rest).offenders)) ≡ least_place w.offenders = ap
    (λ (v : Wanted). least_place (option_to_list old.offender ++ v.offenders)) (sym before) ∙ i.offenders in
    record {
      nodes = λ none.
          let nil : option_to_list old.offender ++ (u.offenders ++ (left N c rest).offenders) ≡ [] = least_none
          (option_to_list old.offender ++ (u.offenders ++ (left N c rest).offenders)) (offenders ∙ ap least_place none) in
          let mine : u.offenders ≡ [] = first_nil u.offenders (left N c rest).offenders (second_nil (option_to_list old.offender) (u.offenders ++ (left N c rest).offenders) nil) in
          ap (λ (v : Wanted). new.nodes.items ++ v.nodes) after ∙ sym (append_assoc new.nodes.items (left N c s.more).nodes (left N c rest).nodes)
          ∙ ap (λ (ns : List RangeNode). ns ++ (left N c rest).nodes) (s.nodes mine) ∙ append_assoc old.nodes.items u.nodes (left N c rest).nodes
          ∙ ap (λ (v : Wanted). old.nodes.items ++ v.nodes) (sym before) ∙ i.nodes none;
      places =
          ap (λ (v : Wanted). new.places.items ++ v.places) after ∙ sym (append_assoc new.places.items (left N c s.more).places (left N c rest).places)
          ∙ ap (λ (ps : List ℕ). ps ++ (left N c rest).places) s.places ∙ append_assoc old.places.items u.places (left N c rest).places
          ∙ ap (λ (v : Wanted). old.places.items ++ v.places) (sym before) ∙ i.places;
      offenders = ap (λ (v : Wanted). least_place (option_to_list new.offender ++ v.offenders)) after ∙ s.offenders (left N c rest).offenders ∙ offenders;
      level = s.level i.level;
      within = subst (All (IsOf c)) (sym s.pushed) (All-append (IsOf c) rest s.more a s.within);
    }

pub smaller_load : (N : ℕ) (c : Contents) (t : Task) (old new : Found) (rest next : List Task)
    → Replaces N c (of_task N c t) (task_weight c t) old rest new next → load c next < load c (rest ++ t ∷ [])
smaller_load N c t old new rest next s =
    subst (λ (ps : List Task). load c ps < load c (rest ++ t ∷ [])) (sym s.pushed)
    (omega (arith, load-append c rest s.more, load-append c rest (t ∷ []), load-one c t, s.lighter))
