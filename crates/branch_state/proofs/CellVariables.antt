-- Terms that are named by variables of the store, one after the other.
use Rattle.std.proofs.Common.{◌≡◌, ℕ, suc, ◌+◌, ◌<◌, ◌≢◌, ℤ, List, [], ◌∷◌, ◌++◌, length, Option, Some, None, refl, ap, sym, ◌∙◌, subst, inl, inr, ◌⊎◌, arith}
use Rattle.std.proofs.Common.{length-append}
use Rattle.std.proofs.lemmas.Bool.{cases_eq}
use Rattle.std.proofs.lemmas.Option.{none-some, same_Some}
use Rattle.fd_language.proofs.Lemmas.{decide_int}
use Rattle.branch_state.proofs.CellLooks.{same_int}
use Rattle.branch_meaning.proofs.Lemmas.{same_var, int_no_var}
use Rattle.fd_language.specs.declared.TheConstants.{INFINITY}
use Rattle.fd_language.specs.Family.{universe}
use Rattle.fd_language.specs.Term.{Term, Var, Int, Atom, Comp, apply}
use Rattle.heap_cells.specs.declared.Cell.{Cell}
use Rattle.heap_cells.specs.Cells.{Cells, IsOf, free, linked, slot_at, with_slot}
use Rattle.heap_cells.specs.Terms.{Naming, term_of}
use Rattle.heap_cells.proofs.Lemmas.{linked_below, of_same, slot_there, slot_elsewhere, same_apply}
use Rattle.range_code.specs.Frames.{family_of}
use Rattle.unify_core.specs.declared.Touch.{Touch}
use Rattle.unify_core.specs.declared.Touch.TheVariants.{Value, Same}
use Rattle.fd_language.specs.SingleValues.{value_at}
use Rattle.branch_lemmas.specs.Frames.{link_of, link_in}
use Rattle.branch_lemmas.proofs.Lemmas.{linked_none, linked_next}
use Rattle.branch_state.specs.declared.cell_looks.Look.{Look}
use Rattle.branch_state.specs.declared.cell_looks.Look.TheVariants.{Open, Linked, Number, Symbol}
use Rattle.heap_cells.specs.SeenTerms.{seen_term}
use Rattle.branch_state.specs.CellVariables.{slot_in, AreTold, IsTold, IsTermNaming, IsPut, TermStep}
use Rattle.branch_state.specs.StoreVariables.{LooksAs, offence, or_zero, OwnLinks}
use Rattle.branch_state.proofs.StoreVariables.{family_more, still_valued}

-- ---- touches that are told

told_kept : (of of' : ℤ → Option ℕ) → ((z : ℤ) (k : ℕ) → of z ≡ Some k → of' z ≡ Some k) → (fs : List Touch) → AreTold of fs → AreTold of' fs
told_kept of of' h [] t = tt
told_kept of of' h (Value k z ∷ fs) t = (h z k t.0, told_kept of of' h fs t.1)
told_kept of of' h (Same k j ∷ fs) t = absurd t

told_more : (of : ℤ → Option ℕ) (fs : List Touch) (k : ℕ) (z : ℤ) → AreTold of fs → of z ≡ Some k → AreTold of (fs ++ Value k z ∷ [])
told_more of [] k z t e = (e, tt)
told_more of (Value j w ∷ fs) k z t e = (t.0, told_more of fs k z t.1 e)
told_more of (Same i j ∷ fs) k z t e = absurd t

told_left : (k : ℕ) (z : ℤ) (fs gs : List Touch) → IsTold k z fs → IsTold k z (fs ++ gs)
told_left k z [] gs i = absurd i
told_left k z (f ∷ fs) gs i = elim i [ inl a ↦ inl a | inr a ↦ inr (told_left k z fs gs a) ]

told_last : (k : ℕ) (z : ℤ) (fs : List Touch) → IsTold k z (fs ++ Value k z ∷ [])
told_last k z [] = inl refl
told_last k z (f ∷ fs) = inr (told_last k z fs)

-- ---- naming

-- nothing is named yet
pub terms_start : (h : Cells) (sets : List (List ℕ)) (of : ℤ → Option ℕ) → ((z : ℤ) → of z ≡ None) → OwnLinks (length sets) h → IsTermNaming h sets (λ u. ⊥) h sets [] of
terms_start h sets of none o = record {
  more = [];
  links = linked_none h o.valid o.one;
  atoms = λ n a. a;
  listed = λ c k e. absurd e;
  below = o.below;
  longer = omega arith;
  same = λ k. refl;
  plain = λ u e. absurd e;
  named = λ c e. absurd e;
  numbered = λ z e. absurd e;
  fresh = λ z k e. absurd (none-some k (sym (none z) ∙ e));
  apart = λ z w k e f. absurd (none-some k (sym (none z) ∙ e));
  told = tt;
  all = λ z k e. absurd (none-some k (sym (none z) ∙ e));
}

-- the same terms in other words
pub terms_same : (h : Cells) (sets : List (List ℕ)) (N N' : Term → Type 0) (now : Cells) (S : List (List ℕ)) (fs : List Touch) (of : ℤ → Option ℕ)
    → ((u : Term) → N u → N' u) → ((u : Term) → N' u → N u) → IsTermNaming h sets N now S fs of → IsTermNaming h sets N' now S fs of
terms_same h sets N N' now S fs of to from w = record {
  more = w.more;
  links = w.links;
  atoms = w.atoms;
  listed = λ c k e. (let t = w.listed c k e in (to (Var c) t.0, t.1));
  below = w.below;
  longer = w.longer;
  same = w.same;
  plain = λ u e. w.plain u (from u e);
  named = λ c e. w.named c (from (Var c) e);
  numbered = λ z e. w.numbered z (from (Int z) e);
  fresh = λ z k e. (let t = w.fresh z k e in (to (Int z) t.0, t.1, t.2, t.3));
  apart = w.apart;
  told = w.told;
  all = w.all;
}

module _ (h : Cells) (sets : List (List ℕ)) (N : Term → Type 0) (now : Cells) (S : List (List ℕ)) (fs : List Touch) (of : ℤ → Option ℕ) (w : IsTermNaming h sets N now S fs of) (u : Term) where
  abbrev U : List ℕ
  U = universe INFINITY

  abbrev N' : Term → Type 0
  N' v = N v ⊎ (v ≡ u)

  -- u is named now by k, and the others as before
  pub record IsNextTerm (now' : Cells) (S' : List (List ℕ)) (fs' : List Touch) (of' : ℤ → Option ℕ) (k : ℕ) : Type 0 where
    pub naming : IsTermNaming h sets N' now' S' fs' of'
    pub own : k ≡ slot_in now' of' u
    pub others : (v : Term) → N v → slot_in now of v ≡ slot_in now' of' v

  wide : length (S ++ U ∷ []) ≡ suc (length S)
  wide = length-append S (U ∷ []) ∙ (let a : length S + 1 ≡ suc (length S) = omega arith in a)

  stays : (now' : Cells) (of' : ℤ → Option ℕ) → ((c k : ℕ) → link_in now c ≡ Some k → link_in now' c ≡ Some k)
      → ((z : ℤ) (k : ℕ) → of z ≡ Some k → of' z ≡ Some k) → (v : Term) → N v → slot_in now of v ≡ slot_in now' of' v
  stays now' of' keep keeps (Var c) n = (let k = w.named c n in ap or_zero (k.1 ∙ sym (keep c k.0 k.1)))
  stays now' of' keep keeps (Int z) n = (let k = w.numbered z n in ap or_zero (k.1 ∙ sym (keeps z k.0 k.1)))
  stays now' of' keep keeps (Atom a) n = refl
  stays now' of' keep keeps (Comp f ts) n = refl

  still : (v : Term) → N v → slot_in now of v ≡ slot_in now of v
  still v n = refl

  -- it is linked already
  linked_before : (d k : ℕ) → u ≡ Var d → link_in now d ≡ Some k → IsNextTerm now S fs of k
  linked_before d k is e = record {
    naming = record {
      more = w.more;
      links = w.links;
      atoms = w.atoms;
      listed = λ c j i. (let t = w.listed c j i in (inl t.0, t.1));
      below = w.below;
      longer = w.longer;
      same = w.same;
      plain = λ v n. elim n [ inl a ↦ w.plain v a | inr a ↦ ap (offence None) (a ∙ is) ];
      named = λ c n. elim n [ inl a ↦ w.named c a | inr a ↦ (k, ap (link_in now) (same_var c d (a ∙ is)) ∙ e) ];
      numbered = λ z n. elim n [ inl a ↦ w.numbered z a | inr a ↦ absurd (int_no_var z d (a ∙ is)) ];
      fresh = λ z j i. (let t = w.fresh z j i in (inl t.0, t.1, t.2, t.3));
      apart = w.apart;
      told = w.told;
      all = w.all;
    };
    own = sym (ap (slot_in now of) is ∙ ap or_zero e);
    others = still;
  }

  -- it is linked now, to a new variable
  module _ (d : ℕ) (is : u ≡ Var d) (there : d < length now.slots) (open_now : slot_at now d ≡ free) where
    abbrev K : ℕ
    K = length S

    abbrev next : Cells
    next = with_slot now d (linked K)

    here : link_in next d ≡ Some K
    here = ap link_of (slot_there now d (linked K) there)

    else : (c : ℕ) → c ≢ d → link_in next c ≡ link_in now c
    else c i = ap link_of (slot_elsewhere now d c (linked K) i)

    keep : (c k : ℕ) → link_in now c ≡ Some k → link_in next c ≡ Some k
    keep c k e = elim (cases_eq c d) [ inl i ↦ absurd (none-some k (sym (ap link_of (ap (slot_at now) i ∙ open_now)) ∙ e)) | inr i ↦ else c i ∙ e ]

    back : (c k : ℕ) → link_in next c ≡ Some k → (link_in now c ≡ Some k) ⊎ ((c ≡ d) × (k ≡ K))
    back c k e = elim (cases_eq c d) [ inl i ↦ inr (i, same_Some k K (sym e ∙ ap (link_in next) i ∙ here)) | inr i ↦ inl (sym (else c i) ∙ e) ]

    linked_now : IsNextTerm next (S ++ U ∷ []) fs of K
    linked_now = record {
      naming = record {
        more = (d, K) ∷ w.more;
        links = linked_next h now w.more w.links d K there open_now (λ c e. (let l = w.below c K e in omega (arith, l)));
        atoms = λ m a. linked_below m now (w.atoms m a) d K there;
        listed = λ c j i. elim i [
          | inl a ↦ (inr (ap Var a.0 ∙ sym is), (let b = a.1 in let l = w.longer in omega (arith, b, l)))
          | inr a ↦ (let t = w.listed c j a in (inl t.0, t.1))
        ];
        below = λ c k e. elim (back c k e) [ inl a ↦ (let l = w.below c k a in let v = wide in omega (arith, l, v)) | inr a ↦ (let b = a.1 in let v = wide in omega (arith, b, v)) ];
        longer = (let l = w.longer in let v = wide in omega (arith, l, v));
        same = λ k. family_more S k ∙ w.same k;
        plain = λ v n. elim n [ inl a ↦ w.plain v a | inr a ↦ ap (offence None) (a ∙ is) ];
        named = λ c n. elim n [
          | inl a ↦ (let k = w.named c a in (k.0, keep c k.0 k.1))
          | inr a ↦ (K, ap (link_in next) (same_var c d (a ∙ is)) ∙ here)
        ];
        numbered = λ z n. elim n [ inl a ↦ w.numbered z a | inr a ↦ absurd (int_no_var z d (a ∙ is)) ];
        fresh = λ z k i. (let t = w.fresh z k i in (
          inl t.0,
          t.1,
          (let l = t.2 in let v = wide in omega (arith, l, v)),
          λ c e. elim (back c k e) [ inl a ↦ t.3 c a | inr a ↦ (let b = a.1 in let l = t.2 in omega (arith, b, l)) ],
        ));
        apart = w.apart;
        told = w.told;
        all = w.all;
      };
      own = sym (ap (slot_in next of) is ∙ ap or_zero here);
      others = stays next of keep (λ z k e. e);
    }

  -- it is an integer that has its variable
  numbered_before : (z : ℤ) (k : ℕ) → u ≡ Int z → of z ≡ Some k → IsNextTerm now S fs of k
  numbered_before z k is e = record {
    naming = record {
      more = w.more;
      links = w.links;
      atoms = w.atoms;
      listed = λ c j i. (let t = w.listed c j i in (inl t.0, t.1));
      below = w.below;
      longer = w.longer;
      same = w.same;
      plain = λ v n. elim n [ inl a ↦ w.plain v a | inr a ↦ ap (offence None) (a ∙ is) ];
      named = λ c n. elim n [ inl a ↦ w.named c a | inr a ↦ absurd (int_no_var z c (sym is ∙ sym a)) ];
      numbered = λ y n. elim n [ inl a ↦ w.numbered y a | inr a ↦ (k, ap of (same_int y z (a ∙ is)) ∙ e) ];
      fresh = λ y j i. (let t = w.fresh y j i in (inl t.0, t.1, t.2, t.3));
      apart = w.apart;
      told = w.told;
      all = w.all;
    };
    own = sym (ap (slot_in now of) is ∙ ap or_zero e);
    others = still;
  }

  -- it is a new integer: a new variable is to get it
  module _ (z : ℤ) (is : u ≡ Int z) (of' : ℤ → Option ℕ) (none : of z ≡ None) (put : IsPut of of' z (length S)) where
    abbrev J : ℕ
    J = length S

    keeps : (y : ℤ) (k : ℕ) → of y ≡ Some k → of' y ≡ Some k
    keeps y k e = put.1 y (λ i. none-some k (sym none ∙ ap of (sym i) ∙ e)) ∙ e

    was : (y : ℤ) (k : ℕ) → of' y ≡ Some k → (of y ≡ Some k) ⊎ ((y ≡ z) × (k ≡ J))
    was y k e = elim (decide_int y z) [ inl i ↦ inr (i, same_Some k J (sym e ∙ ap of' i ∙ put.0)) | inr i ↦ inl (sym (put.1 y i) ∙ e) ]

    old : (y : ℤ) (k : ℕ) → of y ≡ Some k → k < J
    old y k e = (w.fresh y k e).2

    numbered_now : IsNextTerm now (S ++ U ∷ []) (fs ++ Value J z ∷ []) of' J
    numbered_now = record {
      naming = record {
        more = w.more;
        links = w.links;
        atoms = w.atoms;
        listed = λ c j i. (let t = w.listed c j i in (inl t.0, t.1));
        below = λ c k e. (let l = w.below c k e in let v = wide in omega (arith, l, v));
        longer = (let l = w.longer in let v = wide in omega (arith, l, v));
        same = λ k. family_more S k ∙ w.same k;
        plain = λ v n. elim n [ inl a ↦ w.plain v a | inr a ↦ ap (offence None) (a ∙ is) ];
        named = λ c n. elim n [ inl a ↦ w.named c a | inr a ↦ absurd (int_no_var z c (sym is ∙ sym a)) ];
        numbered = λ y n. elim n [
          | inl a ↦ (let k = w.numbered y a in (k.0, keeps y k.0 k.1))
          | inr a ↦ (J, ap of' (same_int y z (a ∙ is)) ∙ put.0)
        ];
        fresh = λ y k e. elim (was y k e) [
          | inl a ↦ (let t = w.fresh y k a in (inl t.0, t.1, (let l = t.2 in let v = wide in omega (arith, l, v)), t.3))
          | inr a ↦ (
            inr (ap Int a.0 ∙ sym is),
            (let b = a.1 in let l = w.longer in omega (arith, b, l)),
            (let b = a.1 in let v = wide in omega (arith, b, v)),
            λ c f. (let b = a.1 in let l = w.below c k f in omega (arith, b, l)),
          )
        ];
        apart = λ x y k e f. elim (was x k e) [
          | inl a ↦ elim (was y k f) [ inl b ↦ w.apart x y k a b | inr b ↦ absurd (let l = old x k a in let m = b.1 in omega (arith, l, m)) ]
          | inr a ↦ elim (was y k f) [ inl b ↦ absurd (let l = old y k b in let m = a.1 in omega (arith, l, m)) | inr b ↦ a.0 ∙ sym b.0 ]
        ];
        told = told_more of' fs J z (told_kept of of' keeps fs w.told) put.0;
        all = λ y k e. elim (was y k e) [
          | inl a ↦ told_left k y fs (Value J z ∷ []) (w.all y k a)
          | inr a ↦ subst (λ m. IsTold m y (fs ++ Value J z ∷ [])) (sym a.1) (subst (λ x. IsTold J x (fs ++ Value J z ∷ [])) (sym a.0) (told_last J z fs))
        ];
      };
      own = sym (ap (slot_in now of') is ∙ ap or_zero put.0);
      others = stays now of' (λ c k e. e) keeps;
    }

  -- whatever the term looks as
  pub term_next : (l : Look) → LooksAs now u l → (now' : Cells) (S' : List (List ℕ)) (fs' : List Touch) (of' : ℤ → Option ℕ) (k : ℕ)
      → TermStep l now S fs of now' S' fs' of' k → IsNextTerm now' S' fs' of' k
  term_next (Open i) looks now' S' fs' of' k st =
      let t = st.1 in
      let e1 : now' ≡ with_slot now i (linked (length S)) = t.1 ∙ ap (λ j. with_slot now i (linked j)) t.0 in
      subst (λ (o : ℤ → Option ℕ). IsNextTerm now' S' fs' o k) (sym st.0)
      (subst (IsNextTerm now' S' fs' of) (sym t.0) (subst (λ (f : List Touch). IsNextTerm now' S' f of (length S)) (sym t.3)
      (subst (λ (x : List (List ℕ)). IsNextTerm now' x fs of (length S)) (sym t.2)
      (subst (λ (x : Cells). IsNextTerm x (S ++ U ∷ []) fs of (length S)) (sym e1) (linked_now i looks.0 looks.1 looks.2)))))
  term_next (Linked j) looks now' S' fs' of' k st =
      let t = st.1 in
      subst (λ (o : ℤ → Option ℕ). IsNextTerm now' S' fs' o k) (sym st.0)
      (subst (IsNextTerm now' S' fs' of) (sym t.0) (subst (λ (f : List Touch). IsNextTerm now' S' f of j) (sym t.3)
      (subst (λ (x : List (List ℕ)). IsNextTerm now' x fs of j) (sym t.2)
      (subst (λ (x : Cells). IsNextTerm x S fs of j) (sym t.1) (linked_before looks.0 j looks.1 looks.2)))))
  term_next (Number z) looks now' S' fs' of' k st = elim st [
    | inl a ↦
        subst (λ (o : ℤ → Option ℕ). IsNextTerm now' S' fs' o k) (sym a.4)
        (subst (λ (f : List Touch). IsNextTerm now' S' f of k) (sym a.3) (subst (λ (x : List (List ℕ)). IsNextTerm now' x fs of k) (sym a.2)
        (subst (λ (x : Cells). IsNextTerm x S fs of k) (sym a.1) (numbered_before z k looks a.0))))
    | inr a ↦
        let t = a.2 in
        let e3 : fs' ≡ fs ++ Value (length S) z ∷ [] = t.3 ∙ ap (λ j. fs ++ Value j z ∷ []) t.0 in
        subst (IsNextTerm now' S' fs' of') (sym t.0) (subst (λ (f : List Touch). IsNextTerm now' S' f of' (length S)) (sym e3)
        (subst (λ (x : List (List ℕ)). IsNextTerm now' x (fs ++ Value (length S) z ∷ []) of' (length S)) (sym t.2)
        (subst (λ (x : Cells). IsNextTerm x (S ++ U ∷ []) (fs ++ Value (length S) z ∷ []) of' (length S)) (sym t.1) (numbered_now z looks of' a.0 (subst (IsPut of of' z) t.0 a.1)))))
  ]
  term_next Symbol looks now' S' fs' of' k st = absurd st.1

-- ---- what cells are seen as stays

module _ (h : Cells) (sets : List (List ℕ)) (N : Term → Type 0) (now : Cells) (S : List (List ℕ)) (fs : List Touch) (of : ℤ → Option ℕ)
    (w : IsTermNaming h sets N now S fs of) (c : Cell) (own : IsOf h c) where
  -- the cell is still the heap's
  pub still_of : IsOf now c
  still_of = of_same h now c (sym w.links.size) (sym (ap length w.links.parts)) own

  -- and is seen as before
  pub still_shown : (name : Naming) → seen_term name now (family_of S) c ≡ seen_term name h (family_of sets) c
  still_shown name =
      ap (apply (λ d. value_at (link_in now d) (family_of S) d)) (w.links.terms name c own)
      ∙ same_apply (λ d. value_at (link_in now d) (family_of S) d) (λ d. value_at (link_in h d) (family_of sets) d)
      (still_valued h sets now S w.more w.links (λ d k i. (w.listed d k i).1) w.same) (term_of name h c)
