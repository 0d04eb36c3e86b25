-- The agents that a change wakes.
use Rattle.std.proofs.Common.{◌≡◌, ℕ, zero, suc, ◌+◌, ◌<◌, ◌≤◌, Bool, true, false, cond, ◌||◌, ◌&&◌, ◌==◌, List, [], ◌∷◌, ◌++◌, length, get_or, take, refl, ap}
use Rattle.std.proofs.Common.{sym, ◌∙◌, arith}
use mathlib.Core.Path.{fun_ext}
use Rattle.std.specs.List.{list_any}
use Rattle.std.proofs.lemmas.List.{take_more, take_all}
use Rattle.std.proofs.lemmas.List.Folds.{list_any-append}
use Rattle.std.proofs.Math.Bool.{and-false}
use Rattle.domain_ranges.proofs.Lemmas.{has_append as has-append}
use Rattle.fd_language.specs.Family.{has}
use Rattle.fd_language.specs.declared.range_node.Feature.{Feature}
use Rattle.fd_language.specs.declared.range_node.Feature.TheVariants as feature
use Rattle.fd_language.specs.Features.{is_same_feature}
use Rattle.dependency_chains.specs.declared.Change.{Change}
use Rattle.dependency_chains.specs.declared.Link.{Link}
use Rattle.dependency_chains.specs.declared.Heads.{Heads}
use Rattle.dependency_chains.specs.AgentReads.{AgentRead}
use Rattle.dependency_chains.specs.WokenAgents.{wakes}
use Rattle.dependency_chains.specs.Links.{reading, reads_of, link_at, is_in, latest, agents_in, agents_from, head_of, AreChains}
use Rattle.dependency_chains.proofs.ChainSteps.{from_latest}

-- whether one of the first n links passes
abbrev any_link : List Link → ℕ → (Link → Bool) → Bool
any_link ls zero p = false
any_link ls (suc n) p = p (link_at ls n) || any_link ls n p

in_chain : (ls : List Link) (n k a : ℕ) (f : Feature) → has (agents_in ls n k f) a ≡ any_link ls n (λ l. (l.agent == a) && is_in l k f)
in_chain ls zero k a f = refl
in_chain ls (suc n) k a f = one (is_in (link_at ls n) k f) (link_at ls n).agent (agents_in ls n k f) _ (in_chain ls n k a f) where
  one : (b : Bool) (m : ℕ) (xs : List ℕ) (c : Bool) → has xs a ≡ c → has (cond b (m ∷ xs) xs) a ≡ (((m == a) && b) || c)
  one true m xs c h = ap (λ d. (m == a) || d) h ∙ same (m == a) c where
    same : (p c : Bool) → (p || c) ≡ ((p && true) || c)
    same p c = grind arith
  one false m xs c h = h ∙ same (m == a) c where
    same : (p c : Bool) → c ≡ ((p && false) || c)
    same p c = grind arith

any_either : (ls : List Link) (n : ℕ) (p q : Link → Bool) → (any_link ls n p || any_link ls n q) ≡ any_link ls n (λ l. p l || q l)
any_either ls zero p q = refl
any_either ls (suc n) p q = four (p (link_at ls n)) (any_link ls n p) (q (link_at ls n)) (any_link ls n q) (any_link ls n (λ l. p l || q l)) (any_either ls n p q) where
  four : (a b c d e : Bool) → (b || d) ≡ e → ((a || b) || (c || d)) ≡ ((a || c) || e)
  four a b c d e h = grind (arith, h)

any_gated : (ls : List Link) (n : ℕ) (b : Bool) (p : Link → Bool) → (b && any_link ls n p) ≡ any_link ls n (λ l. b && p l)
any_gated ls zero b p = and-false b
any_gated ls (suc n) b p = three b (p (link_at ls n)) (any_link ls n p) (any_link ls n (λ l. b && p l)) (any_gated ls n b p) where
  three : (a b c d : Bool) → (a && c) ≡ d → (a && (b || c)) ≡ ((a && b) || d)
  three a b c d h = grind (arith, h)

any_listed : (ls : List Link) (n : ℕ) (p : Link → Bool) → n ≤ length ls → any_link ls n p ≡ list_any p (take n ls)
any_listed ls zero p h = refl
any_listed ls (suc n) p h =
    let e : n + 1 ≡ suc n = omega arith in
    let parts : take (suc n) ls ≡ take n ls ++ link_at ls n ∷ [] = ap (λ m. take m ls) (sym e) ∙ take_more ls n (record { agent = 0; var = 0; feature = feature.Min; next = 0 }) (omega (arith, h)) in
    ap (λ b. p (link_at ls n) || b) (any_listed ls n p (omega (arith, h))) ∙ turned (p (link_at ls n)) (list_any p (take n ls))
    ∙ sym (ap (list_any p) parts ∙ list_any-append p (take n ls) (link_at ls n ∷ []))
  where
    turned : (a b : Bool) → (a || b) ≡ (b || (a || false))
    turned a b = grind arith

any_mapped : (ls : List Link) (p : AgentRead → Bool) → list_any p (reads_of ls) ≡ list_any (λ l. p (reading l)) ls
any_mapped [] p = refl
any_mapped (l ∷ ls) p = ap (λ b. p (reading l) || b) (any_mapped ls p)

gated : (b : Bool) (ls : List Link) (place head n k a : ℕ) (f : Feature) → (b ≡ true → place ≡ head) → (b ≡ false → place ≡ 0) → head ≡ latest ls n k f
    → has (agents_from ls place) a ≡ (b && any_link ls n (λ l. (l.agent == a) && is_in l k f))
gated true ls place head n k a f t e h = ap (λ p. has (agents_from ls p) a) (t refl ∙ h) ∙ ap (λ l. has l a) (from_latest ls n k f) ∙ in_chain ls n k a f
gated false ls place head n k a f t e h = ap (λ p. has (agents_from ls p) a) (e refl)

tests : (c : Change) (k a : ℕ) (l : Link) →
    (((l.agent == a) && is_in l k feature.Dom) || ((c.min && ((l.agent == a) && is_in l k feature.Min)) ||
    ((c.max && ((l.agent == a) && is_in l k feature.Max)) || (c.fixed && ((l.agent == a) && is_in l k feature.Val)))))
    ≡ ((l.agent == a) && ((l.var == k) && wakes c l.feature))
tests c k a l = four l.feature (l.agent == a) (l.var == k) c.min c.max c.fixed refl where
  four : (f : Feature) (p q x y z : Bool) → wakes (record { min = x; max = y; fixed = z }) f ≡ wakes (record { min = x; max = y; fixed = z }) f →
      ((p && (q && is_same_feature f feature.Dom)) ||
      ((x && (p && (q && is_same_feature f feature.Min))) ||
      ((y && (p && (q && is_same_feature f feature.Max))) || (z && (p && (q && is_same_feature f feature.Val))))))
      ≡ (p && (q && wakes (record { min = x; max = y; fixed = z }) f))
  four feature.Min p q x y z h = grind arith
  four feature.Max p q x y z h = grind arith
  four feature.Val p q x y z h = grind arith
  four feature.Dom p q x y z h = grind arith

pub woken_are : (ls : List Link) (hs : List Heads) (h : Heads) (c : Change) (k min max val a : ℕ) → AreChains ls hs → k < length hs → h ≡ get_or hs k h
    → (c.min ≡ true → min ≡ h.min) → (c.min ≡ false → min ≡ 0) → (c.max ≡ true → max ≡ h.max) → (c.max ≡ false → max ≡ 0) → (c.fixed ≡ true → val ≡ h.val) → (c.fixed ≡ false → val ≡ 0)
    → has (agents_from ls h.dom ++ (agents_from ls min ++ (agents_from ls max ++ agents_from ls val))) a ≡ list_any (λ r. (r.agent == a) && ((r.var == k) && wakes c r.feature)) (reads_of ls)
woken_are ls hs h c k min max val a chains within e t1 f1 t2 f2 t3 f3 =
    let n = length ls in
    let headed : (f : Feature) → head_of h f ≡ latest ls n k f = (λ f. ap (λ x. head_of x f) e ∙ chains.heads k h f within) in
    let chain : (f : Feature) → Link → Bool = (λ f l. (l.agent == a) && is_in l k f) in
    let dom = gated true ls h.dom h.dom n k a feature.Dom (λ q. refl) (λ q. absurd (cc)) (headed feature.Dom) in
    let low = gated c.min ls min h.min n k a feature.Min t1 f1 (headed feature.Min) ∙ any_gated ls n c.min (chain feature.Min) in
    let high = gated c.max ls max h.max n k a feature.Max t2 f2 (headed feature.Max) ∙ any_gated ls n c.max (chain feature.Max) in
    let one = gated c.fixed ls val h.val n k a feature.Val t3 f3 (headed feature.Val) ∙ any_gated ls n c.fixed (chain feature.Val) in
    has-append (agents_from ls h.dom) (agents_from ls min ++ (agents_from ls max ++ agents_from ls val)) a
    ∙ ap (λ b. has (agents_from ls h.dom) a || b) (has-append (agents_from ls min) (agents_from ls max ++ agents_from ls val) a
    ∙ ap (λ b. has (agents_from ls min) a || b) (has-append (agents_from ls max) (agents_from ls val) a))
    ∙ ap (λ b. b || (has (agents_from ls min) a || (has (agents_from ls max) a || has (agents_from ls val) a))) dom
    ∙ ap (λ b. any_link ls n (chain feature.Dom) || (b || (has (agents_from ls max) a || has (agents_from ls val) a))) low
    ∙ ap (λ b. any_link ls n (chain feature.Dom) || (any_link ls n (λ l. c.min && chain feature.Min l) || (b || has (agents_from ls val) a))) high
    ∙ ap (λ b. any_link ls n (chain feature.Dom) || (any_link ls n (λ l. c.min && chain feature.Min l) || (any_link ls n (λ l. c.max && chain feature.Max l) || b))) one
    ∙ ap (λ b. any_link ls n (chain feature.Dom) || (any_link ls n (λ l. c.min && chain feature.Min l) || b))
    (any_either ls n (λ l. c.max && chain feature.Max l) (λ l. c.fixed && chain feature.Val l))
    ∙ ap (λ b. any_link ls n (chain feature.Dom) || b) (any_either ls n (λ l. c.min && chain feature.Min l) (λ l. (c.max && chain feature.Max l) || (c.fixed && chain feature.Val l)))
    ∙ any_either ls n (chain feature.Dom) (λ l. (c.min && chain feature.Min l) || ((c.max && chain feature.Max l) || (c.fixed && chain feature.Val l)))
    ∙ ap (λ (p : Link → Bool). any_link ls n p) (fun_ext (λ l. tests c k a l))
    ∙ any_listed ls n (λ l. (l.agent == a) && ((l.var == k) && wakes c l.feature)) (omega arith)
    ∙ ap (list_any (λ l. (l.agent == a) && ((l.var == k) && wakes c l.feature))) (take_all n ls (omega arith))
    ∙ sym (any_mapped ls (λ r. (r.agent == a) && ((r.var == k) && wakes c r.feature)))

pub gate_within : (b : Bool) (head place n : ℕ) → place ≡ cond b head 0 → head ≤ n → place ≤ n
gate_within true head place n e h = omega (arith, e, h)
gate_within false head place n e h = omega (arith, e)
