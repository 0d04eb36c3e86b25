-- A turn of the loops over terms.
use Rattle.std.proofs.Common.{◌≡◌, ℕ, suc, ◌≤◌, Bool, true, false, cond, ℤ, pos, ◌+ℤ◌, ◌*ℤ◌, List, [], ◌∷◌, length, Option, None, Some, refl, sym, ap, subst}
use Rattle.std.proofs.Common.{◌∙◌, arith}
use Rattle.std.proofs.lemmas.Bool.Decides.{nat_tests}
use Rattle.std.specs.Prelude.{nat_eq}
use Rattle.std.specs.Ordering.{int_eq}
use Rattle.std.specs.List.{IsDistinct}
use Rattle.std.specs.Map.{keys_of}
use Rattle.std.proofs.lemmas.Option.{same_Some}
use Rattle.fd_model.specs.Linear.{in_integers}
use Rattle.linear_forms.specs.declared.sums.Share.{Share}
use Rattle.linear_forms.specs.Shares.{both, scaled_share, share_at, together, open_count, IsShare, IsWhole}
use Rattle.linear_forms.specs.Sums.{Adds, Exceeds, HasFitting, Scales, ScalesOver}
use Rattle.linear_forms.specs.Loops.{Adding, Scaling}
use Rattle.linear_forms.proofs.Shares.{same_key, tail_distinct, rest_none, at_head, past_head}

flip : (x y : ℕ) → nat_eq x y ≡ nat_eq y x
flip x y = grind (arith, nat_tests)

together_none : (r : Option Share) → together r None ≡ r
together_none None = refl
together_none (Some s) = refl

pub count_short : (ss : List Share) → open_count ss ≤ length ss
count_short [] = omega arith
count_short (s ∷ ss) = by (int_eq s.coefficient (pos 0)) (count_short ss) where
  by : (b : Bool) → open_count ss ≤ length ss → cond b (open_count ss) (suc (open_count ss)) ≤ length (s ∷ ss)
  by true h = omega arith
  by false h = omega arith

pub adding_starts : (old other : List (ℕ × Share)) → IsDistinct nat_eq (keys_of other) → Adding old other old other
adding_starts old other d = record {
  distinct = d;
  same = λ x v e. refl;
  part = λ x v e. e;
  done = λ x e. sym (together_none (share_at old x)) ∙ ap (together (share_at old x)) (sym e);
  inside = λ x u v e f g. absurd (let wrong : Some v ≡ None = sym g ∙ e in cc);
  unique = λ u. u;
}

pub adding_ends : (old other now : List (ℕ × Share)) → Adding old other now [] → Adds old other now
adding_ends old other now a = record { each = λ x. a.done x refl; inside = λ x u v e f. a.inside x u v refl e f; unique = a.unique }

module _ (old other now ahead : List (ℕ × Share)) (e : ℕ × Share) (a : Adding old other now (e ∷ ahead)) where
  here_now : share_at now e.0 ≡ share_at old e.0
  here_now = a.same e.0 e.1 (at_head e ahead)

  here_other : share_at other e.0 ≡ Some e.1
  here_other = a.part e.0 e.1 (at_head e ahead)

  -- the whole share, and that it is inside
  pub whole_is : (w : Share) → IsWhole (share_at now e.0) e.1 (Some w) → Some w ≡ together (share_at old e.0) (share_at other e.0)
  whole_is w h = by (share_at now e.0) h ∙ (λ i. together (here_now i) (sym here_other i)) where
    by : (r : Option Share) → IsWhole r e.1 (Some w) → Some w ≡ together r (Some e.1)
    by None g = g
    by (Some u) g = ap Some g.0

  whole_inside : (w : Share) → IsWhole (share_at now e.0) e.1 (Some w) → (u v : Share) → share_at old e.0 ≡ Some u → share_at other e.0 ≡ Some v → in_integers (u.coefficient +ℤ v.coefficient) ≡ true
  whole_inside w h u v p q =
      let f : IsWhole (Some u) e.1 (Some w) = subst (λ r. IsWhole r e.1 (Some w)) (here_now ∙ p) h in
      let same : e.1 ≡ v = same_Some e.1 v (sym here_other ∙ q) in
      subst (λ (t : Share). in_integers (u.coefficient +ℤ t.coefficient) ≡ true) same f.1

  pub whole_over : IsWhole (share_at now e.0) e.1 None → Exceeds old other
  whole_over h = by (share_at old e.0) refl (subst (λ r. IsWhole r e.1 None) here_now h) where
    by : (r : Option Share) → share_at old e.0 ≡ r → IsWhole r e.1 None → Exceeds old other
    by None p g = absurd (cc)
    by (Some u) p g = record { variable = e.0; share = both u e.1; is = λ i. together (p i) (here_other i); over = g }

  -- what is there is as it was, and a term that was whole fits
  pub one_fits : (w : Share) (new : List (ℕ × Share)) → IsWhole (share_at now e.0) e.1 (Some w) → new ≡ now → HasFitting new other
  one_fits w new h same = record {
    variable = e.0;
    share = e.1;
    is = here_other;
    fits = λ u p. let f : IsWhole (Some u) e.1 (Some w) = subst (λ r. IsWhole r e.1 (Some w)) (ap (λ (es : List (ℕ × Share)). share_at es e.0) (sym same) ∙ p) h in f.1;
  }

  pub adding_turn : (w : Share) (new : List (ℕ × Share)) → IsWhole (share_at now e.0) e.1 (Some w)
      → ((q : ℕ) → share_at new q ≡ cond (nat_eq e.0 q) (Some w) (share_at now q)) → IsDistinct nat_eq (keys_of new) → Adding old other new ahead
  adding_turn w new h u d = record {
    distinct = tail_distinct e ahead a.distinct;
    same = λ x v f. kept x v f (nat_eq x e.0) refl;
    part = λ x v f. let n = apart x v f in a.part x v (past_head e ahead x n ∙ f);
    done = λ x f. finished x f (nat_eq x e.0) refl;
    inside = λ x s t f g k. within x s t f g k (nat_eq x e.0) refl;
    unique = λ k. d;
  }
    where
      apart : (x : ℕ) (v : Share) → share_at ahead x ≡ Some v → nat_eq x e.0 ≡ false
      apart x v f = by (nat_eq x e.0) refl where
        by : (b : Bool) → nat_eq x e.0 ≡ b → b ≡ false
        by false k = refl
        by true k = let none : share_at ahead x ≡ None = ap (share_at ahead) (same_key x e.0 k) ∙ rest_none e ahead a.distinct in absurd (cc)

      other_key : (x : ℕ) (b : Bool) → nat_eq x e.0 ≡ b → share_at new x ≡ cond b (Some w) (share_at now x)
      other_key x b k = u x ∙ ap (λ c. cond c (Some w) (share_at now x)) (flip e.0 x ∙ k)

      kept : (x : ℕ) (v : Share) → share_at ahead x ≡ Some v → (b : Bool) → nat_eq x e.0 ≡ b → share_at new x ≡ share_at old x
      kept x v f b k = let n = apart x v f in other_key x false n ∙ a.same x v (past_head e ahead x n ∙ f)

      finished : (x : ℕ) → share_at ahead x ≡ None → (b : Bool) → nat_eq x e.0 ≡ b → share_at new x ≡ together (share_at old x) (share_at other x)
      finished x f true k = other_key x true k ∙ whole_is w h ∙ ap (λ y. together (share_at old y) (share_at other y)) (sym (same_key x e.0 k))
      finished x f false k = other_key x false k ∙ a.done x (past_head e ahead x k ∙ f)

      within : (x : ℕ) (s t : Share) → share_at ahead x ≡ None → share_at old x ≡ Some s → share_at other x ≡ Some t → (b : Bool) → nat_eq x e.0 ≡ b
          → in_integers (s.coefficient +ℤ t.coefficient) ≡ true
      within x s t f g j true k =
          let y : x ≡ e.0 = same_key x e.0 k in
          whole_inside w h s t (ap (share_at old) (sym y) ∙ g) (ap (share_at other) (sym y) ∙ j)
      within x s t f g j false k = a.inside x s t (past_head e ahead x k ∙ f) g j

pub scaling_starts : (k : ℤ) (old now : List (ℕ × Share)) → IsDistinct nat_eq (keys_of old) → now ≡ [] → IsDistinct nat_eq (keys_of now) → Scaling k old now old
scaling_starts k old now d e u = record {
  distinct = d;
  part = λ x v f. f;
  done = λ x v f g. absurd (let wrong : Some v ≡ None = sym g ∙ f in cc);
  none = λ x f. ap (λ es. share_at es x) e;
  inside = λ x v f g. absurd (let wrong : Some v ≡ None = sym g ∙ f in cc);
  unique = u;
}

pub scaling_ends : (k : ℤ) (old now : List (ℕ × Share)) → Scaling k old now [] → Scales k old now
scaling_ends k old now a = record { each = λ x v e. a.done x v refl e; none = a.none; inside = λ x v e. a.inside x v refl e; unique = a.unique }

module _ (k : ℤ) (old now ahead : List (ℕ × Share)) (e : ℕ × Share) (a : Scaling k old now (e ∷ ahead)) where
  scaling_here : share_at old e.0 ≡ Some e.1
  scaling_here = a.part e.0 e.1 (at_head e ahead)

  pub scaled_over : IsShare (scaled_share k e.1) None → ScalesOver k old
  scaled_over h = record { variable = e.0; share = e.1; is = scaling_here; over = h }

  pub scaling_turn : (w : Share) (new : List (ℕ × Share)) → IsShare (scaled_share k e.1) (Some w)
      → ((q : ℕ) → share_at new q ≡ cond (nat_eq e.0 q) (Some w) (share_at now q)) → IsDistinct nat_eq (keys_of new) → Scaling k old new ahead
  scaling_turn w new h u d = record {
    distinct = tail_distinct e ahead a.distinct;
    part = λ x v f. a.part x v (past_head e ahead x (apart x v f) ∙ f);
    done = λ x v f g. finished x v f g (nat_eq x e.0) refl;
    none = λ x f. still_none x f (nat_eq x e.0) refl;
    inside = λ x v f g. within x v f g (nat_eq x e.0) refl;
    unique = d;
  }
    where
      apart : (x : ℕ) (v : Share) → share_at ahead x ≡ Some v → nat_eq x e.0 ≡ false
      apart x v f = by (nat_eq x e.0) refl where
        by : (b : Bool) → nat_eq x e.0 ≡ b → b ≡ false
        by false k = refl
        by true k = let none : share_at ahead x ≡ None = ap (share_at ahead) (same_key x e.0 k) ∙ rest_none e ahead a.distinct in absurd (cc)

      other_key : (x : ℕ) (b : Bool) → nat_eq x e.0 ≡ b → share_at new x ≡ cond b (Some w) (share_at now x)
      other_key x b k = u x ∙ ap (λ c. cond c (Some w) (share_at now x)) (flip e.0 x ∙ k)

      same_share : (x : ℕ) (v : Share) → nat_eq x e.0 ≡ true → share_at old x ≡ Some v → e.1 ≡ v
      same_share x v k g = let f : share_at old x ≡ Some e.1 = ap (share_at old) (same_key x e.0 k) ∙ scaling_here in cc

      finished : (x : ℕ) (v : Share) → share_at ahead x ≡ None → share_at old x ≡ Some v → (b : Bool) → nat_eq x e.0 ≡ b → share_at new x ≡ Some (scaled_share k v)
      finished x v f g true j = other_key x true j ∙ ap Some h.0 ∙ ap (λ t. Some (scaled_share k t)) (same_share x v j g)
      finished x v f g false j = other_key x false j ∙ a.done x v (past_head e ahead x j ∙ f) g

      still_none : (x : ℕ) → share_at old x ≡ None → (b : Bool) → nat_eq x e.0 ≡ b → share_at new x ≡ None
      still_none x f true j = let g : share_at old x ≡ Some e.1 = ap (share_at old) (same_key x e.0 j) ∙ scaling_here in absurd (cc)
      still_none x f false j = other_key x false j ∙ a.none x f

      within : (x : ℕ) (v : Share) → share_at ahead x ≡ None → share_at old x ≡ Some v → (b : Bool) → nat_eq x e.0 ≡ b → in_integers (k *ℤ v.coefficient) ≡ true
      within x v f g true j = subst (λ (t : Share). in_integers (k *ℤ t.coefficient) ≡ true) (same_share x v j g) h.1
      within x v f g false j = a.inside x v (past_head e ahead x j ∙ f) g
