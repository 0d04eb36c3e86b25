-- Steps along a chain.
use Rattle.std.proofs.Common.{◌≡◌, ℕ, zero, suc, ◌<◌, ◌≤◌, ◌-◌, true, false, cond, ◌==◌, List, ◌∷◌, length, refl, ap, sym, ◌∙◌, subst, inl, inr, arith}
use Rattle.std.proofs.Common.{eqb-true, eq-eqb}
use Rattle.std.proofs.lemmas.Bool.{cases_Bool, and_parts, and_from}
use Rattle.fd_language.specs.declared.range_node.Feature.{Feature}
use Rattle.fd_language.specs.declared.range_node.Feature.TheVariants as feature
use Rattle.fd_language.specs.Features.{is_same_feature}
use Rattle.fd_language.proofs.Lemmas.{same_feature}
use Rattle.dependency_chains.specs.declared.Link.{Link}
use Rattle.dependency_chains.specs.Links.{link_at, is_in, latest, agents_in, agents_from, AreLinked}

pub feature_itself : (f : Feature) → is_same_feature f f ≡ true
feature_itself feature.Min = refl
feature_itself feature.Max = refl
feature_itself feature.Val = refl
feature_itself feature.Dom = refl

pub in_var : (l : Link) (k : ℕ) (f : Feature) → is_in l k f ≡ true → l.var ≡ k
in_var l k f h = eqb-true l.var k (and_parts (l.var == k) (is_same_feature l.feature f) h).0

pub in_feature : (l : Link) (k : ℕ) (f : Feature) → is_in l k f ≡ true → l.feature ≡ f
in_feature l k f h = same_feature l.feature f (and_parts (l.var == k) (is_same_feature l.feature f) h).1

pub in_own : (l : Link) → is_in l l.var l.feature ≡ true
in_own l = and_from (l.var == l.var) (is_same_feature l.feature l.feature) (eq-eqb l.var l.var refl) (feature_itself l.feature)

pub latest_below : (ls : List Link) (n k : ℕ) (f : Feature) → latest ls n k f ≤ n
latest_below ls zero k f = omega arith
latest_below ls (suc n) k f = elim (is_in (link_at ls n) k f) as (λ b. cond b (suc n) (latest ls n k f) ≤ suc n) [ true ↦ omega arith | false ↦ omega (arith, latest_below ls n k f) ]

pub latest_in : (ls : List Link) (n k : ℕ) (f : Feature) → is_in (link_at ls n) k f ≡ true → latest ls (suc n) k f ≡ suc n
latest_in ls n k f h = ap (λ b. cond b (suc n) (latest ls n k f)) h

pub latest_out : (ls : List Link) (n k : ℕ) (f : Feature) → is_in (link_at ls n) k f ≡ false → latest ls (suc n) k f ≡ latest ls n k f
latest_out ls n k f h = ap (λ b. cond b (suc n) (latest ls n k f)) h

pub same_latest : (ls ks : List Link) (n k : ℕ) (f : Feature) → ((i : ℕ) → i < n → link_at ls i ≡ link_at ks i) → latest ls n k f ≡ latest ks n k f
same_latest ls ks zero k f h = refl
same_latest ls ks (suc n) k f h =
    let later = same_latest ls ks n k f (λ i l. h i (omega (arith, l))) in
    ap (λ x. cond (is_in x k f) (suc n) (latest ls n k f)) (h n (omega arith)) ∙ ap (λ m. cond (is_in (link_at ks n) k f) (suc n) m) later

-- the chain that begins at its newest link
pub from_latest : (ls : List Link) (n k : ℕ) (f : Feature) → agents_from ls (latest ls n k f) ≡ agents_in ls n k f
from_latest ls zero k f = refl
from_latest ls (suc n) k f = elim (cases_Bool (is_in (link_at ls n) k f)) [
  | inl e ↦ ap (agents_from ls) (latest_in ls n k f e) ∙ ap (λ v. agents_in ls (suc n) v (link_at ls n).feature) (in_var (link_at ls n) k f e)
      ∙ ap (agents_in ls (suc n) k) (in_feature (link_at ls n) k f e)
  | inr e ↦ ap (agents_from ls) (latest_out ls n k f e) ∙ from_latest ls n k f ∙ sym (ap (λ b. cond b ((link_at ls n).agent ∷ agents_in ls n k f) (agents_in ls n k f)) e)
]

step : (ls : List Link) (n : ℕ) → n < length ls → AreLinked ls → agents_from ls (suc n) ≡ (link_at ls n).agent ∷ agents_from ls (link_at ls n).next
step ls n l linked =
    let x = link_at ls n in
    ap (λ b. cond b (x.agent ∷ agents_in ls n x.var x.feature) (agents_in ls n x.var x.feature)) (in_own x)
    ∙ ap (λ t. x.agent ∷ t) (sym (from_latest ls n x.var x.feature))
    ∙ ap (λ p. x.agent ∷ agents_from ls p) (sym (linked n l))

pub stepped : (ls : List Link) (place : ℕ) → 0 < place → place ≤ length ls → AreLinked ls → agents_from ls place ≡ (link_at ls (place - 1)).agent ∷ agents_from ls (link_at ls (place - 1)).next
stepped ls zero h l linked = absurd (omega arith)
stepped ls (suc n) h l linked =
    let e : suc n - 1 ≡ n = omega arith in
    subst (λ m. agents_from ls (suc n) ≡ (link_at ls m).agent ∷ agents_from ls (link_at ls m).next) (sym e) (step ls n (omega arith) linked)

pub step_within : (ls : List Link) (place : ℕ) → 0 < place → place ≤ length ls → AreLinked ls → (link_at ls (place - 1)).next ≤ length ls
step_within ls place h l linked =
    let x = link_at ls (place - 1) in
    omega (arith, linked (place - 1) (omega arith), latest_below ls (place - 1) x.var x.feature)
