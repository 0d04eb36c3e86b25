-- Arguments in one list: what one more agent and fewer agents leave.
use Rattle.std.proofs.Common.{◌≡◌, ℕ, ◌+◌, ◌<◌, ◌≤◌, ◌-◌, List, [], ◌∷◌, ◌++◌, take, drop, length, get_or, refl, ap, sym, ◌∙◌, subst, inl, inr, ◌⊎◌, arith, All}
use Rattle.std.proofs.Common.{eqb-true, ◌==◌}
use Rattle.std.proofs.lemmas.Bool.{cases_Bool, eqb-false}
use Rattle.std.proofs.lemmas.List.{length-append, length-take-le, length-take, get_or_append_left, get_or_at, get_or_default, get_or-take, get_or-map}
use Rattle.std.proofs.lemmas.List.{take-append-le, drop-append-le, drop_at, drop-take, take-take, take_all, take-map, map-append, length-drop}
use Rattle.std.proofs.lemmas.List.Elements.{All-push, All-head, All-tail, All-take}
use Rattle.range_code.specs.declared.frame.Arg.{Arg}
use Rattle.propagate_queue.specs.declared.agents.Agent.{Agent}
use Rattle.fd_language.specs.Range.{Range, Dom}
use Rattle.range_code.specs.Frames.{posted}
use Rattle.propagate_queue.specs.Postings.{Posting, posting_at}
use Rattle.range_code.specs.QuickForms.{IsQuick}
use Rattle.propagate_queue.specs.AgentArguments.{laid, laid_out, AreLaid, AreQuick}

-- arguments behind an agent's own
laid_before : (args more : List Arg) (a : Agent) → a.first + a.count ≤ length args → laid (args ++ more) a ≡ laid args a
laid_before args more a h = ap (λ l. record { range = a.code.value; target = a.target; args = l })
    (ap (take a.count) (drop-append-le a.first args more (omega (arith, h))) ∙ take-append-le a.count (drop a.first args) more (omega (arith, h, length-drop a.first args)))

laid_all_before : (args more : List Arg) (as' : List Agent) → All (λ a. a.first + a.count ≤ length args) as' → laid_out as' (args ++ more) ≡ laid_out as' args
laid_all_before args more [] h = refl
laid_all_before args more (a ∷ as') h = both (laid_before args more a (All-head (λ x. x.first + x.count ≤ length args) a as' h))
    (laid_all_before args more as' (All-tail (λ x. x.first + x.count ≤ length args) a as' h)) where
      both : {x y : Posting} {xs ys : List Posting} → x ≡ y → xs ≡ ys → x ∷ xs ≡ y ∷ ys
      both e f = cc

last_or_older : (n m : ℕ) → n < m + 1 → (n < m) ⊎ (n ≡ m)
last_or_older n m h = elim (cases_Bool (n == m)) [ inl e ↦ inr (eqb-true n m e) | inr e ↦ inl (let d : n ≡ m → ⊥ = eqb-false n m e in omega (arith, h, d)) ]

-- one more agent, with its arguments
pub laid_more : (as' all : List Agent) (args args' more : List Arg) (a : Agent) → AreLaid as' args → args' ≡ args ++ more → all ≡ as' ++ a ∷ [] → a.first ≡ length args → a.count ≡ length more
    → AreLaid all args' × (laid_out all args' ≡ laid_out as' args ++ record { range = a.code.value; target = a.target; args = more } ∷ [])
laid_more as' all args args' more a l e f g h = subst (λ x. AreLaid all x × (laid_out all x ≡ laid_out as' args ++ record { range = a.code.value; target = a.target; args = more } ∷ [])) (sym e)
    (subst (λ x. AreLaid x (args ++ more) × (laid_out x (args ++ more) ≡ laid_out as' args ++ record { range = a.code.value; target = a.target; args = more } ∷ [])) (sym f) (
      record {
        within = All-push (λ x. x.first + x.count ≤ length (args ++ more)) as' a (λ k d less. omega (arith, l.within k d less, size)) (omega (arith, g, h, size));
        rising = λ i j d less low. elim (last_or_older j (length as') (omega (arith, low, length-append as' (a ∷ [])))) [
          | inl o ↦ omega (
            arith,
            l.rising i j d less o,
            ap (λ x. x.first) (get_or_append_left as' (a ∷ []) d i (omega (arith, less, o))),
            ap (λ x. x.count) (get_or_append_left as' (a ∷ []) d i (omega (arith, less, o))),
            ap (λ x. x.first) (get_or_append_left as' (a ∷ []) d j o),
          )
          | inr o ↦ omega (
            arith,
            l.within i d (omega (arith, less, o)),
            g,
            ap (λ x. x.first) (get_or_append_left as' (a ∷ []) d i (omega (arith, less, o))),
            ap (λ x. x.count) (get_or_append_left as' (a ∷ []) d i (omega (arith, less, o))),
            ap (λ x. x.first) (ap (λ n. get_or (as' ++ a ∷ []) n d) o ∙ get_or_at as' a [] d (length as') refl),
          )
        ];
      },
      map-append (laid (args ++ more)) as' (a ∷ []) ∙ ap (λ x. x ++ laid (args ++ more) a ∷ []) (laid_all_before args more as' l.within)
          ∙ ap (λ x. laid_out as' args ++ record { range = a.code.value; target = a.target; args = x } ∷ []) own,
    ))
  where
    size : length (args ++ more) ≡ length args + length more
    size = length-append args more

    own : take a.count (drop a.first (args ++ more)) ≡ more
    own = ap (take a.count) (drop_at args more a.first (sym g)) ∙ take_all a.count more (omega (arith, h))

-- the quick forms with one more agent
pub quick_more : (as' all : List Agent) (args args' more : List Arg) (a : Agent) → AreLaid as' args → args' ≡ args ++ more → all ≡ as' ++ a ∷ [] → a.first ≡ length args → a.count ≡ length more
    → AreQuick as' args → IsQuick a.code.value more a.quick → AreQuick all args'
quick_more as' all args args' more a l e f g h old new = subst (λ x. AreQuick all x) (sym e) (subst (λ x. AreQuick x (args ++ more)) (sym f)
    (All-push (λ x. IsQuick (laid (args ++ more) x).range (laid (args ++ more) x).args x.quick) as' a
    (λ k d less. subst (λ (p : Posting). IsQuick p.range p.args (get_or as' k d).quick) (sym (laid_before args more (get_or as' k d) (l.within k d less))) (old k d less))
    (subst (λ x. IsQuick a.code.value x a.quick) (sym own) new)))
  where
    own : take a.count (drop a.first (args ++ more)) ≡ more
    own = ap (take a.count) (drop_at args more a.first (sym g)) ∙ take_all a.count more (omega (arith, h))

laid_cut : (args : List Arg) (n : ℕ) (a : Agent) → a.first + a.count ≤ n → laid (take n args) a ≡ laid args a
laid_cut args n a h = ap (λ l. record { range = a.code.value; target = a.target; args = l })
    (ap (λ m. take a.count (drop a.first (take m args))) (omega (arith, h))
    ∙ ap (take a.count) (drop-take a.first (n - a.first) args)
    ∙ take-take a.count (n - a.first) (drop a.first args) (omega (arith, h)))

laid_all_cut : (args : List Arg) (n : ℕ) (as' : List Agent) → All (λ a. a.first + a.count ≤ n) as' → laid_out as' (take n args) ≡ laid_out as' args
laid_all_cut args n [] h = refl
laid_all_cut args n (a ∷ as') h = both (laid_cut args n a (All-head (λ x. x.first + x.count ≤ n) a as' h)) (laid_all_cut args n as' (All-tail (λ x. x.first + x.count ≤ n) a as' h)) where
  both : {x y : Posting} {xs ys : List Posting} → x ≡ y → xs ≡ ys → x ∷ xs ≡ y ∷ ys
  both e f = cc

-- the first n agents, with the arguments before those of the next one
pub laid_less : (as' some : List Agent) (args args' : List Arg) (n : ℕ) (a : Agent) → AreLaid as' args → n < length as' → a ≡ get_or as' n a → some ≡ take n as'
    → args' ≡ take a.first args → AreLaid some args' × (laid_out some args' ≡ take n (laid_out as' args))
laid_less as' some args args' n a l less e f g = subst (λ x. AreLaid some x × (laid_out some x ≡ take n (laid_out as' args))) (sym g)
    (subst (λ x. AreLaid x (take a.first args) × (laid_out x (take a.first args) ≡ take n (laid_out as' args))) (sym f) (
      record {
        within = λ k d low. omega (arith, early k d low, length-take-le a.first args inside);
        rising = λ i j d low high. let there : j < n = omega (arith, high, length-take-le n as' (omega (arith, less))) in
            omega (
              arith,
              l.rising i j d low (omega (arith, there, less)),
              ap (λ x. x.first) (get_or-take n as' i d (omega (arith, low, there))),
              ap (λ x. x.count) (get_or-take n as' i d (omega (arith, low, there))),
              ap (λ x. x.first) (get_or-take n as' j d there),
            );
      },
      laid_all_cut args a.first (take n as') early ∙ sym (take-map (laid args) n as'),
    )) where
      inside : a.first ≤ length args
      inside = omega (arith, l.within n a less, ap (λ x. x.first) e)

      early : All (λ x. x.first + x.count ≤ a.first) (take n as')
      early k d low = let there : k < n = omega (arith, low, length-take-le n as' (omega (arith, less))) in
          omega (
            arith,
            l.rising k n d there less,
            ap (λ x. x.first) (get_or-take n as' k d there),
            ap (λ x. x.count) (get_or-take n as' k d there),
            ap (λ x. x.first) (e ∙ sym (get_or_default as' n d a less)),
          )

-- the quick forms of the first n agents
pub quick_less : (as' some : List Agent) (args args' : List Arg) (n : ℕ) (a : Agent) → AreLaid some args' → some ≡ take n as' → args' ≡ take a.first args → AreQuick as' args → AreQuick some args'
quick_less as' some args args' n a l f g old k d low =
    let there : k < length (take n as') = subst (λ x. k < length x) f low in
    let held : (get_or some k d).first + (get_or some k d).count ≤ length (take a.first args) = omega (arith, l.within k d low, ap length g) in
    subst (λ x. IsQuick (get_or some k d).code.value (take (get_or some k d).count (drop (get_or some k d).first x)) (get_or some k d).quick) (sym g)
    (subst (λ (p : Posting). IsQuick p.range p.args (get_or some k d).quick) (sym (laid_cut args a.first (get_or some k d) (omega (arith, held, length-take a.first args))))
    (subst (λ x. IsQuick (laid args (get_or x k d)).range (laid args (get_or x k d)).args (get_or x k d).quick) (sym f)
    (All-take (λ x. IsQuick (laid args x).range (laid args x).args x.quick) n as' old k d there)))

-- the quick form of an agent, by its number
pub quick_at : (as' : List Agent) (args : List Arg) (number : ℕ) (a : Agent) → number < length as' → a ≡ get_or as' number a → AreQuick as' args
    → IsQuick (posting_at (laid_out as' args) number).range (posting_at (laid_out as' args) number).args a.quick
quick_at as' args number a low e all =
    subst (λ (p : Posting). IsQuick p.range p.args a.quick) (sym (get_or-map (laid args) as' number a (record { range = Dom 0; target = 0; args = [] }) low ∙ ap (laid args) (sym e)))
    (subst (λ x. IsQuick (laid args x).range (laid args x).args x.quick) (sym e) (all number a low))

-- the range of an agent, by its own code and its place in the list of arguments
pub code_of : (as' : List Agent) (args flat : List Arg) (number : ℕ) (a : Agent) (r : Range) → number < length as' → a ≡ get_or as' number a → r ≡ a.code.value → flat ≡ args
    → posted r (take (a.first + a.count - a.first) (drop a.first flat)) ≡ posted (posting_at (laid_out as' args) number).range (posting_at (laid_out as' args) number).args
code_of as' args flat number a r low e f g =
    ap (λ q. posted q (take (a.first + a.count - a.first) (drop a.first flat))) f
    ∙ ap (λ n. posted a.code.value (take n (drop a.first flat))) count
    ∙ ap (λ l. posted a.code.value (take a.count (drop a.first l))) g
    ∙ sym (ap (λ (p : Posting). posted p.range p.args) at)
  where
    count : a.first + a.count - a.first ≡ a.count
    count = omega arith

    at : posting_at (laid_out as' args) number ≡ laid args a
    at = get_or-map (laid args) as' number a (record { range = Dom 0; target = 0; args = [] }) low ∙ ap (laid args) (sym e)
