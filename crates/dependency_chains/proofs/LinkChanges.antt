-- Links come and go at the newest end.
use Rattle.std.proofs.Common.{◌≡◌, ℕ, zero, suc, ◌+◌, ◌<◌, ◌≤◌, ◌-◌, Bool, true, false, cond, ◌&&◌, ◌==◌, List, [], ◌∷◌, ◌++◌, length, get_or, set, take}
use Rattle.std.proofs.Common.{filter, refl, ap, sym, ◌∙◌, subst, inl, inr, ◌⊎◌, arith, eqb-true, eq-eqb, All, nat_lt, lt-ltb, le-ltb}
use Rattle.std.proofs.lemmas.Bool.{cases_Bool, eqb-false}
use Rattle.std.proofs.lemmas.List.{length-append, length-set, length-map, length-take-le, get_or_append_left, get_or_at, get_or-set_same, get_or-set_other}
use Rattle.std.proofs.lemmas.List.{get_or-take, get_or-map, get_or_default, map-append, take_all, take_more, append-nil}
use Rattle.std.proofs.lemmas.List.Elements.{All-push, All-head, All-tail, All-cons, All-nil, filter-append}
use Rattle.fd_language.specs.declared.range_node.Feature.{Feature}
use Rattle.fd_language.specs.declared.range_node.Feature.TheVariants as feature
use Rattle.fd_language.specs.Features.{is_same_feature}
use Rattle.dependency_chains.specs.declared.Link.{Link}
use Rattle.dependency_chains.specs.declared.Heads.{Heads}
use Rattle.dependency_chains.specs.AgentReads.{AgentRead}
use Rattle.dependency_chains.specs.Links.{reading, reads_of, link_at, is_in, latest, head_of, AreChains}
use Rattle.dependency_chains.proofs.ChainSteps.{latest_out, same_latest, in_var, in_feature}

abbrev none : Link
none = record { agent = 0; var = 0; feature = feature.Min; next = 0 }

older : (ls : List Link) (l : Link) (n : ℕ) → n < length ls → link_at (ls ++ l ∷ []) n ≡ link_at ls n
older ls l n h = get_or_append_left ls (l ∷ []) none n h

newest : (ls : List Link) (l : Link) → link_at (ls ++ l ∷ []) (length ls) ≡ l
newest ls l = get_or_at ls l [] none (length ls) refl

pub last_or_older : (n m : ℕ) → n < suc m → (n < m) ⊎ (n ≡ m)
last_or_older n m h = elim (cases_Bool (n == m)) [ inl e ↦ inr (eqb-true n m e) | inr e ↦ inl (let d : n ≡ m → ⊥ = eqb-false n m e in omega (arith, h, d)) ]

latest_older : (ls : List Link) (l : Link) (n k : ℕ) (f : Feature) → n ≤ length ls → latest (ls ++ l ∷ []) n k f ≡ latest ls n k f
latest_older ls l n k f h = same_latest (ls ++ l ∷ []) ls n k f (λ i less. older ls l i (omega (arith, less, h)))

-- a head that is the newest link of its chain, or of what is left of it
abbrev Heading : List Link → List Heads → Type 0
Heading ls hs = (k : ℕ) (d : Heads) (f : Feature) → k < length hs → head_of (get_or hs k d) f ≡ latest ls (length ls) k f

in_other : (l : Link) (k : ℕ) (f : Feature) → (l.var ≡ k → ⊥) → is_in l k f ≡ false
in_other l k f n = elim (cases_Bool (is_in l k f)) [ inl e ↦ absurd (n (in_var l k f e)) | inr e ↦ e ]

in_same : (l : Link) (k : ℕ) (f : Feature) → l.var ≡ k → is_in l k f ≡ is_same_feature l.feature f
in_same l k f e = ap (λ b. b && is_same_feature l.feature f) (eq-eqb l.var k e)

heads_more : (ls : List Link) (hs : List Heads) (l : Link) (h : Heads) → l.var < length hs → Heading ls hs
    → ((f : Feature) → head_of h f ≡ cond (is_same_feature l.feature f) (suc (length ls)) (latest ls (length ls) l.var f))
    → Heading (ls ++ l ∷ []) (set hs l.var h)
heads_more ls hs l h within heads new k d f less' =
    let less : k < length hs = omega (arith, less', length-set hs l.var h) in
    let size : length (ls ++ l ∷ []) ≡ suc (length ls) = omega (arith, length-append ls (l ∷ [])) in
    let newly : latest (ls ++ l ∷ []) (suc (length ls)) k f ≡ cond (is_in l k f) (suc (length ls)) (latest ls (length ls) k f) =
    ap (λ x. cond (is_in x k f) (suc (length ls)) (latest (ls ++ l ∷ []) (length ls) k f)) (newest ls l)
    ∙ ap (λ m. cond (is_in l k f) (suc (length ls)) m) (latest_older ls l (length ls) k f (omega arith)) in
    elim (cases_Bool (k == l.var)) [
      | inl e ↦ let is : k ≡ l.var = eqb-true k l.var e in
          ap (λ x. head_of x f) (ap (λ j. get_or (set hs l.var h) j d) is ∙ get_or-set_same hs l.var h d within)
          ∙ new f
          ∙ ap (λ j. cond (is_same_feature l.feature f) (suc (length ls)) (latest ls (length ls) j f)) (sym is)
          ∙ ap (λ b. cond b (suc (length ls)) (latest ls (length ls) k f)) (sym (in_same l k f (sym is)))
          ∙ sym newly
          ∙ ap (λ n. latest (ls ++ l ∷ []) n k f) (sym size)
      | inr e ↦ let other : k ≡ l.var → ⊥ = eqb-false k l.var e in
          ap (λ x. head_of x f) (get_or-set_other hs l.var k h d other)
          ∙ heads k d f less
          ∙ ap (λ b. cond b (suc (length ls)) (latest ls (length ls) k f)) (sym (in_other l k f (λ q. other (sym q))))
          ∙ sym newly
          ∙ ap (λ n. latest (ls ++ l ∷ []) n k f) (sym size)
    ]

-- one more link, in front of its chain
pub chains_more : (ls ks : List Link) (hs : List Heads) (old h : Heads) (l : Link) (place : ℕ) → AreChains ls hs → l.var < length hs
    → All (λ x. x.agent ≤ l.agent) ls → old ≡ get_or hs l.var old → l.next ≡ head_of old l.feature → ks ≡ ls ++ l ∷ [] → place ≡ length ks
    → ((f : Feature) → head_of h f ≡ cond (is_same_feature l.feature f) place (head_of old f)) → AreChains ks (set hs l.var h)
chains_more ls ks hs old h l place c within agents e next f p new = subst (λ q. AreChains q (set hs l.var h)) (sym f) (record {
  vars = subst (λ n. All (λ x. x.var < n) (ls ++ l ∷ [])) (sym (length-set hs l.var h)) (All-push (λ x. x.var < length hs) ls l c.vars within);
  rising = λ i j le less. elim (last_or_older j (length ls) (omega (arith, less, length-append ls (l ∷ [])))) [
    | inl o ↦ omega (arith, c.rising i j le o, ap (λ x. x.agent) (older ls l i (omega (arith, le, o))), ap (λ x. x.agent) (older ls l j o))
    | inr o ↦ elim (last_or_older i (length ls) (omega (arith, le, o))) [
      | inl q ↦ omega (arith, agents i none q, ap (λ x. x.agent) (older ls l i q), ap (λ x. x.agent) (newest ls l), ap (λ m. (link_at (ls ++ l ∷ []) m).agent) o)
      | inr q ↦ omega (arith, ap (λ m. (link_at (ls ++ l ∷ []) m).agent) (q ∙ sym o))
    ]
  ];
  linked = λ n less. elim (last_or_older n (length ls) (omega (arith, less, length-append ls (l ∷ [])))) [
    | inl o ↦ subst (λ x. x.next ≡ latest (ls ++ l ∷ []) n x.var x.feature) (sym (older ls l n o))
        (c.linked n o ∙ sym (latest_older ls l n (link_at ls n).var (link_at ls n).feature (omega (arith, o))))
    | inr o ↦ subst (λ m. (link_at (ls ++ l ∷ []) m).next ≡ latest (ls ++ l ∷ []) m (link_at (ls ++ l ∷ []) m).var (link_at (ls ++ l ∷ []) m).feature) (sym o)
        (subst (λ x. x.next ≡ latest (ls ++ l ∷ []) (length ls) x.var x.feature) (sym (newest ls l))
        (next ∙ is_head l.feature ∙ sym (latest_older ls l (length ls) l.var l.feature (omega arith))))
  ];
  heads = heads_more ls hs l h within c.heads (λ g. new g ∙ ap (λ m. cond (is_same_feature l.feature g) m (head_of old g)) (p ∙ ap length f ∙ size)
      ∙ ap (λ m. cond (is_same_feature l.feature g) (suc (length ls)) m) (is_head g));
}) where
  size : length (ls ++ l ∷ []) ≡ suc (length ls)
  size = omega (arith, length-append ls (l ∷ []))

  is_head : (g : Feature) → head_of old g ≡ latest ls (length ls) l.var g
  is_head g = ap (λ x. head_of x g) (e ∙ get_or_default hs l.var old none_heads within) ∙ c.heads l.var none_heads g within where
    none_heads : Heads
    none_heads = record { min = 0; max = 0; val = 0; dom = 0 }

-- the newest link goes
pub chains_less : (ls ks : List Link) (hs : List Heads) (old h : Heads) (l : Link) → AreChains ks hs → ks ≡ ls ++ l ∷ [] → old ≡ get_or hs l.var old
    → ((f : Feature) → head_of h f ≡ cond (is_same_feature l.feature f) l.next (head_of old f)) → AreChains ls (set hs l.var h)
chains_less ls ks hs old h l c' f e new =
    let c : AreChains (ls ++ l ∷ []) hs = subst (λ q. AreChains q hs) f c' in
    let size : length (ls ++ l ∷ []) ≡ suc (length ls) = omega (arith, length-append ls (l ∷ [])) in
    let within : l.var < length hs = subst (λ x. x.var < length hs) (newest ls l) (c.vars (length ls) none (omega (arith, size))) in
    let newly : (k : ℕ) (g : Feature) → latest (ls ++ l ∷ []) (length (ls ++ l ∷ [])) k g ≡ cond (is_in l k g) (suc (length ls)) (latest ls (length ls) k g) = (λ k g.
    ap (λ n. latest (ls ++ l ∷ []) n k g) size
    ∙ ap (λ x. cond (is_in x k g) (suc (length ls)) (latest (ls ++ l ∷ []) (length ls) k g)) (newest ls l)
    ∙ ap (λ m. cond (is_in l k g) (suc (length ls)) m) (latest_older ls l (length ls) k g (omega arith))) in
    let next_is : l.next ≡ latest ls (length ls) l.var l.feature = subst (λ x. x.next ≡ latest (ls ++ l ∷ []) (length ls) x.var x.feature) (newest ls l)
    (c.linked (length ls) (omega (arith, size))) ∙ latest_older ls l (length ls) l.var l.feature (omega arith) in
    record {
      vars = λ n d less. subst (λ m. (get_or ls n d).var < m) (sym (length-set hs l.var h))
          (subst (λ x. x.var < length hs) (get_or_append_left ls (l ∷ []) d n less) (c.vars n d (omega (arith, less, size))));
      rising = λ i j le less. omega (arith, c.rising i j le (omega (arith, less, size)), ap (λ x. x.agent) (older ls l i (omega (arith, le, less))), ap (λ x. x.agent) (older ls l j less));
      linked = λ n less. subst (λ x. x.next ≡ latest (ls ++ l ∷ []) n x.var x.feature) (older ls l n less) (c.linked n (omega (arith, less, size)))
          ∙ latest_older ls l n (link_at ls n).var (link_at ls n).feature (omega (arith, less));
      heads = λ k d g less'. let less : k < length hs = omega (arith, less', length-set hs l.var h) in
          elim (cases_Bool (k == l.var)) [
            | inl q ↦ let is : k ≡ l.var = eqb-true k l.var q in
                ap (λ x. head_of x g) (ap (λ j. get_or (set hs l.var h) j d) is ∙ get_or-set_same hs l.var h d within) ∙ new g
                ∙ elim (cases_Bool (is_same_feature l.feature g)) [
                  | inl s ↦ ap (λ b. cond b l.next (head_of old g)) s ∙ next_is
                      ∙ ap (latest ls (length ls) l.var) (in_feature l l.var g (in_same l l.var g refl ∙ s)) ∙ ap (λ j. latest ls (length ls) j g) (sym is)
                  | inr s ↦ ap (λ b. cond b l.next (head_of old g)) s
                      ∙ ap (λ x. head_of x g) (e ∙ get_or_default hs l.var old d within) ∙ c.heads l.var d g within ∙ newly l.var g
                      ∙ ap (λ b. cond b (suc (length ls)) (latest ls (length ls) l.var g)) (in_same l l.var g refl ∙ s)
                      ∙ ap (λ j. latest ls (length ls) j g) (sym is)
                ]
            | inr q ↦ let other : k ≡ l.var → ⊥ = eqb-false k l.var q in
                ap (λ x. head_of x g) (get_or-set_other hs l.var k h d other) ∙ c.heads k d g less ∙ newly k g
                ∙ ap (λ b. cond b (suc (length ls)) (latest ls (length ls) k g)) (in_other l k g (λ p. other (sym p)))
          ];
    }

unread : (ls : List Link) (n k : ℕ) (f : Feature) → ((i : ℕ) → i < n → (link_at ls i).var < k) → latest ls n k f ≡ zero
unread ls zero k f h = refl
unread ls (suc n) k f h = latest_out ls n k f (in_other (link_at ls n) k f (λ e. omega (arith, h n (omega arith), e))) ∙ unread ls n k f (λ i l. h i (omega (arith, l)))

-- a variable that nobody reads
pub chains_var : (ls : List Link) (hs ks : List Heads) → AreChains ls hs → ks ≡ hs ++ record { min = 0; max = 0; val = 0; dom = 0 } ∷ [] → AreChains ls ks
chains_var ls hs ks c e =
    let new : Heads = record { min = 0; max = 0; val = 0; dom = 0 } in
    let size : length (hs ++ new ∷ []) ≡ suc (length hs) = omega (arith, length-append hs (new ∷ [])) in
    subst (AreChains ls) (sym e) (record {
      vars = λ n d less. omega (arith, c.vars n d less, size);
      rising = c.rising;
      linked = c.linked;
      heads = λ k d f less. elim (last_or_older k (length hs) (omega (arith, less, size))) [
        | inl o ↦ ap (λ x. head_of x f) (get_or_append_left hs (new ∷ []) d k o) ∙ c.heads k d f o
        | inr o ↦ ap (λ x. head_of x f) (ap (λ j. get_or (hs ++ new ∷ []) j d) o ∙ get_or_at hs new [] d (length hs) refl) ∙ zero_of f
            ∙ sym (unread ls (length ls) k f (λ i l. omega (arith, c.vars i none l, o)))
      ];
    })
  where
    zero_of : (f : Feature) → head_of (record { min = 0; max = 0; val = 0; dom = 0 }) f ≡ zero
    zero_of feature.Min = refl
    zero_of feature.Max = refl
    zero_of feature.Val = refl
    zero_of feature.Dom = refl

-- the last variables go, which nobody reads
pub chains_cut : (ls : List Link) (hs ks : List Heads) (vars : ℕ) → AreChains ls hs → ks ≡ take vars hs → vars ≤ length hs → All (λ l. l.var < vars) ls → AreChains ls ks
chains_cut ls hs ks vars c e le stay = subst (AreChains ls) (sym e) (record {
  vars = λ n d less. omega (arith, stay n d less, length-take-le vars hs le);
  rising = c.rising;
  linked = c.linked;
  heads = λ k d f less. let low : k < vars = omega (arith, less, length-take-le vars hs le) in ap (λ x. head_of x f) (get_or-take vars hs k d low) ∙ c.heads k d f (omega (arith, low, le));
})

pub links_all : (P : AgentRead → Type 0) (ls : List Link) → All P (reads_of ls) → All (λ l. P (reading l)) ls
links_all P ls h k d l = subst P (get_or-map reading ls k d (reading d) l) (h k (reading d) (omega (arith, l, length-map ls reading)))

pub all_filtered : (P Q : AgentRead → Type 0) (p : AgentRead → Bool) → ((x : AgentRead) → p x ≡ true → P x → Q x) → (xs : List AgentRead) → All P xs → All Q (filter p xs)
all_filtered P Q p go [] h = All-nil Q
all_filtered P Q p go (x ∷ xs) h =
    let later = all_filtered P Q p go xs (All-tail P x xs h) in
    elim (cases_Bool (p x)) [
      | inl e ↦ subst (λ b. All Q (cond b (x ∷ filter p xs) (filter p xs))) (sym e) (All-cons Q x (filter p xs) (go x e (All-head P x xs h)) later)
      | inr e ↦ subst (λ b. All Q (cond b (x ∷ filter p xs) (filter p xs))) (sym e) later
    ]

pub filter_whole : (p : AgentRead → Bool) (xs : List AgentRead) → All (λ x. p x ≡ true) xs → filter p xs ≡ xs
filter_whole p [] h = refl
filter_whole p (x ∷ xs) h = ap (λ b. cond b (x ∷ filter p xs) (filter p xs)) (All-head (λ y. p y ≡ true) x xs h) ∙ ap (λ l. x ∷ l) (filter_whole p xs (All-tail (λ y. p y ≡ true) x xs h))

-- a link of an agent that goes
pub filter_less : (agents : ℕ) (ls ks : List Link) (l : Link) → ks ≡ ls ++ l ∷ [] → agents ≤ l.agent
    → filter (λ r. nat_lt r.agent agents) (reads_of ls) ≡ filter (λ r. nat_lt r.agent agents) (reads_of ks)
filter_less agents ls ks l e h =
    sym (ap (λ q. filter (λ r. nat_lt r.agent agents) (reads_of q)) e ∙ ap (filter (λ r. nat_lt r.agent agents)) (map-append reading ls (l ∷ []))
    ∙ filter-append (λ r. nat_lt r.agent agents) (reads_of ls) (reading l ∷ [])
    ∙ ap (λ b. filter (λ r. nat_lt r.agent agents) (reads_of ls) ++ cond b (reading l ∷ []) []) (le-ltb l.agent agents h) ∙ append-nil (filter (λ r. nat_lt r.agent agents) (reads_of ls)))

-- where the newest link stays, all stay
pub all_stay : (agents : ℕ) (ls : List Link) (hs : List Heads) (l : Link) → AreChains ls hs → 0 < length ls → l ≡ get_or ls (length ls - 1) l → l.agent < agents
    → filter (λ r. nat_lt r.agent agents) (reads_of ls) ≡ reads_of ls
all_stay agents ls hs l c some e h = filter_whole (λ r. nat_lt r.agent agents) (reads_of ls) (λ k d less.
    let low : k < length ls = omega (arith, less, length-map ls reading) in
    subst (λ r. nat_lt r.agent agents ≡ true) (sym (get_or-map reading ls k none d low))
    (lt-ltb (link_at ls k).agent agents (omega (
      arith,
      h,
      c.rising k (length ls - 1) (omega (arith, low)) (omega (arith, some)),
      ap (λ x. x.agent) (e ∙ get_or_default ls (length ls - 1) l none (omega (arith, some))),
    ))))

pub last_apart : (ks : List Link) (n : ℕ) (l : Link) → n + 1 ≡ length ks → l ≡ get_or ks n l → ks ≡ take n ks ++ l ∷ []
last_apart ks n l e f = sym (take_all (n + 1) ks (omega (arith, e))) ∙ take_more ks n l (omega (arith, e)) ∙ ap (λ x. take n ks ++ x ∷ []) (sym f)
