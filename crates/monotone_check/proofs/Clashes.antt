-- What the nodes' variables find.
use Rattle.std.proofs.Common.{◌≡◌, ℕ, suc, ◌+◌, ◌≤◌, ◌<◌, List, ◌∷◌, ◌++◌, length, drop, get_or, Option, Some, None, refl, sym, ◌∙◌, ap, subst, inl, inr, ◌⊎◌}
use Rattle.fd_language.proofs.Lemmas.{first-append, earlier_assoc}
use Rattle.std.specs.Prelude.{Result, Ok, Err, IfOk, OnOk}
use Rattle.std.proofs.lemmas.List.{at_drop_all, at_drop_more}
use Rattle.std.proofs.Math.Numerals.{add-one}
use Rattle.fd_language.specs.declared.range_node.RangeNode.{RangeNode}
use Rattle.fd_language.specs.declared.range_node.RangeNode.TheVariants as node
use Rattle.fd_language.specs.declared.range_node.Offence.{Offence}
use Rattle.fd_language.specs.Family.{has}
use Rattle.fd_language.specs.Range.{leaf_of}
use Rattle.fd_language.specs.RangeVerdict.{leaf_clashes, clashes, where_first_clash, earlier, first}
use Rattle.monotone_check.specs.MetVariables.{AreSeen, FindsAt}

both_found : (xs ys : List Offence) (o : Option Offence) → o ≡ first xs → earlier o (first ys) ≡ first (xs ++ ys)
both_found xs ys o e = ap (λ p. earlier p (first ys)) e ∙ sym (first-append xs ys)

-- a parameter, and a variable by min, max, val or dom
found_param : (x place : ℕ) (ps ys qs : List ℕ) (o : Option Offence) →
    ((xs zs : List ℕ) → AreSeen xs ys → AreSeen zs ps → o ≡ first (where_first_clash (has xs x) (has zs x) place)) → ((zs : List ℕ) → AreSeen zs ps → AreSeen (x ∷ zs) qs) →
    FindsAt place (node.Param x) ps ys qs ys o
found_param x place ps ys qs o f g = λ at n ns ks bs e a b. (
  x ∷ ks,
  bs,
  g ks a,
  b,
  both_found (where_first_clash (has bs x) (has ks x) (at n)) (clashes at (suc n) (x ∷ ks) bs ns) o
      (f bs ks b a ∙ ap (λ p. first (where_first_clash (has bs x) (has ks x) p)) (sym e)),
)

-- the node is a leaf that names y so
abbrev pub Names : RangeNode → ℕ → Type 0
Names m y = (p : ℕ) (ks bs : List ℕ) (k : List ℕ → List ℕ → List Offence) → where_first_clash (has ks y) (has bs y) p ++ k ks (y ∷ bs) ≡ leaf_clashes p ks bs (leaf_of m) k

found_named : (m : RangeNode) (y place : ℕ) (ps ys zs : List ℕ) (o : Option Offence) → Names m y →
    ((xs us : List ℕ) → AreSeen xs ps → AreSeen us ys → o ≡ first (where_first_clash (has xs y) (has us y) place)) → ((us : List ℕ) → AreSeen us ys → AreSeen (y ∷ us) zs) →
    FindsAt place m ps ys ps zs o
found_named m y place ps ys zs o names f g = λ at n ns ks bs e a b. (
  ks,
  y ∷ bs,
  a,
  g bs b,
  both_found (where_first_clash (has ks y) (has bs y) (at n)) (clashes at (suc n) ks (y ∷ bs) ns) o (f ks bs a b ∙ ap (λ p. first (where_first_clash (has ks y) (has bs y) p)) (sym e))
      ∙ ap first (names (at n) ks bs (λ qs us. clashes at (suc n) qs us ns)),
)

pub loop_step : (at : ℕ → ℕ) (i : ℕ) (nodes : List RangeNode) (d : RangeNode) (place : ℕ) (clash found next whole : Option Offence)
    (old_ps old_ys new_ps new_ys : List ℕ) → i < length nodes → at i ≡ place →
    ((ps : List ℕ) × (ys : List ℕ) × AreSeen ps old_ps × AreSeen ys old_ys × (earlier clash (first (clashes at i ps ys (drop i nodes))) ≡ whole)) →
    FindsAt place (get_or nodes i d) old_ps old_ys new_ps new_ys found → next ≡ earlier clash found →
    (ps : List ℕ) × (ys : List ℕ) × AreSeen ps new_ps × AreSeen ys new_ys × (earlier next (first (clashes at (i + 1) ps ys (drop (i + 1) nodes))) ≡ whole)
loop_step at i nodes d place clash found next whole old_ps old_ys new_ps new_ys l e (ps, ys, a, b, h) f g =
    let (qs, zs, s, t, k) = f at i (drop (i + 1) nodes) ps ys e a b in (
      qs,
      zs,
      s,
      t,
      ap (λ o. earlier o (first (clashes at (i + 1) qs zs (drop (i + 1) nodes)))) g
          ∙ (earlier_assoc clash found (first (clashes at (i + 1) qs zs (drop (i + 1) nodes)))
          ∙ (ap (λ m. earlier clash (earlier found (first (clashes at m qs zs (drop (i + 1) nodes))))) (add-one i)
          ∙ (ap (λ o. earlier clash o) (k ∙ sym (at_drop_more (λ ns. first (clashes at i ps ys ns)) nodes i d l)) ∙ h))),
    )

nothing_behind : (o : Option Offence) → earlier o None ≡ o
nothing_behind None = refl
nothing_behind (Some o) = refl

pub loop_end : (at : ℕ → ℕ) (i : ℕ) (nodes : List RangeNode) (clash whole : Option Offence) (old_ps old_ys : List ℕ) → length nodes ≤ i →
    ((ps : List ℕ) × (ys : List ℕ) × AreSeen ps old_ps × AreSeen ys old_ys × (earlier clash (first (clashes at i ps ys (drop i nodes))) ≡ whole)) → clash ≡ whole
loop_end at i nodes clash whole old_ps old_ys l (ps, ys, a, b, h) =
    sym (nothing_behind clash) ∙ (sym (at_drop_all (λ ns. earlier clash (first (clashes at i ps ys ns))) nodes i l) ∙ h)

pub ok_both : {A E : Type 0} (r : Result A E) (P : A → Type 0) (Q : Type 0) (R : A → Type 0) → IfOk r P → OnOk r Q → ((o : A) → P o → Q → R o) → IfOk r R
ok_both (Ok o) P Q R h g f = f o h g
ok_both (Err e) P Q R h g f = tt

abbrev pub Clashing : ℕ → ℕ → List ℕ → List ℕ → Option Offence → Type 0
Clashing x place other own o = (xs ys : List ℕ) → AreSeen xs other → AreSeen ys own → o ≡ first (where_first_clash (has xs x) (has ys x) place)

abbrev pub Seeing : ℕ → List ℕ → List ℕ → Type 0
Seeing x old new = (ys : List ℕ) → AreSeen ys old → AreSeen (x ∷ ys) new

pub param_ok : {E : Type 0} (r : Result (Option Offence) E) (m : RangeNode) (x place : ℕ) (ps ys qs : List ℕ) → m ≡ node.Param x
    → IfOk r (Clashing x place ys ps) → OnOk r (Seeing x ps qs) → IfOk r (FindsAt place m ps ys qs ys)
param_ok r m x place ps ys qs e h g = ok_both r (Clashing x place ys ps) (Seeing x ps qs) (FindsAt place m ps ys qs ys) h g
    (λ o f s. subst (λ k. FindsAt place k ps ys qs ys o) (sym e) (found_param x place ps ys qs o f s))

names : (m : RangeNode) (y : ℕ) → (m ≡ node.Min y) ⊎ ((m ≡ node.Max y) ⊎ ((m ≡ node.Val y) ⊎ (m ≡ node.Dom y))) → Names m y
names m y (inl e) = subst (λ j. Names j y) (sym e) (λ p ks bs k. refl)
names m y (inr (inl e)) = subst (λ j. Names j y) (sym e) (λ p ks bs k. refl)
names m y (inr (inr (inl e))) = subst (λ j. Names j y) (sym e) (λ p ks bs k. refl)
names m y (inr (inr (inr e))) = subst (λ j. Names j y) (sym e) (λ p ks bs k. refl)

pub named_ok : {E : Type 0} (r : Result (Option Offence) E) (m : RangeNode) (y place : ℕ) (ps ys zs : List ℕ) → (m ≡ node.Min y) ⊎ ((m ≡ node.Max y) ⊎ ((m ≡ node.Val y) ⊎ (m ≡ node.Dom y)))
    → IfOk r (Clashing y place ps ys) → OnOk r (Seeing y ys zs) → IfOk r (FindsAt place m ps ys ps zs)
named_ok r m y place ps ys zs is h g = ok_both r (Clashing y place ps ys) (Seeing y ys zs) (FindsAt place m ps ys ps zs) h g (λ o f s. found_named m y place ps ys zs o (names m y is) f s)

pub found_none : (m : RangeNode) (place : ℕ) (ps ys : List ℕ) → ((x : ℕ) → m ≡ node.Param x → ⊥) → ((x : ℕ) → m ≡ node.Min x → ⊥)
    → ((x : ℕ) → m ≡ node.Max x → ⊥) → ((x : ℕ) → m ≡ node.Val x → ⊥) → ((x : ℕ) → m ≡ node.Dom x → ⊥) → FindsAt place m ps ys ps ys None
found_none (node.Param x) place ps ys a b c d e = absurd (a x refl)
found_none (node.Min y) place ps ys a b c d e = absurd (b y refl)
found_none (node.Max y) place ps ys a b c d e = absurd (c y refl)
found_none (node.Val y) place ps ys a b c d e = absurd (d y refl)
found_none (node.Dom y) place ps ys a b c d e = absurd (e y refl)
found_none m place ps ys a b c d e = λ at n ns ks bs i f g. (ks, bs, f, g, refl)
