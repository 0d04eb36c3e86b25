-- More posted ranges.
use Rattle.std.proofs.Common.{◌≡◌, ℕ, true, false, ◌==◌, List, [], ◌∷◌, ◌++◌, ◌⊎◌, IsTrue, ap, sym, ◌∙◌, subst, inl, inr}
use Rattle.std.proofs.lemmas.Bool.{or_cases, or_left, or_right, cases_Bool, true≢false}
use Rattle.fd_language.specs.Family.{has, IsSubset}
use Rattle.fd_language.specs.Range.{Indexical, reads, set_of}
use Rattle.fd_model.specs.ClosedFamilies.{AllPosted, constrained}
use Rattle.fd_language.proofs.Lemmas.{has_either, in_left, in_right, set_agree}
use Rattle.fd_model.proofs.ListNames.{named_left, named_right, posted_left, posted_right}
use Rattle.fd_model.specs.Satisfaction.{Assignment, singles}
use Rattle.fd_model.specs.Answers.{OneValue, Settles}
use Rattle.fd_model.proofs.ModelSubstitutions.{first_member}

pub posted_both : (H : Indexical → Type 0) (ps qs : List Indexical) → AllPosted H ps → AllPosted H qs → AllPosted H (ps ++ qs)
posted_both H [] qs h g = g
posted_both H (p ∷ ps) qs h g = (h.0, posted_both H ps qs h.1 g)

pub constrained_either : (ps qs : List Indexical) (x : ℕ) → has (constrained (ps ++ qs)) x ≡ true → (has (constrained ps) x ≡ true) ⊎ (has (constrained qs) x ≡ true)
constrained_either [] qs x h = inr h
constrained_either (p ∷ ps) qs x h = elim (or_cases (p.target == x) (has (reads p.range ++ constrained (ps ++ qs)) x) h) [
  | inl e ↦ inl (or_left (p.target == x) (has (reads p.range ++ constrained ps) x) e)
  | inr e ↦ elim (has_either (reads p.range) (constrained (ps ++ qs)) x e) [
    | inl f ↦ inl (or_right (p.target == x) (has (reads p.range ++ constrained ps) x) (in_left (reads p.range) (constrained ps) x f))
    | inr f ↦ elim (constrained_either ps qs x f) [
      | inl g ↦ inl (or_right (p.target == x) (has (reads p.range ++ constrained ps) x) (in_right (reads p.range) (constrained ps) x g))
      | inr g ↦ inr g
    ]
  ]
]

not_in_either : (xs ys : List ℕ) (x : ℕ) → has xs x ≡ false → has ys x ≡ false → has (xs ++ ys) x ≡ false
not_in_either xs ys x h k = elim (cases_Bool (has (xs ++ ys) x)) [
  | inl i ↦ elim (has_either xs ys x i) [ inl j ↦ absurd (true≢false (sym j ∙ h)) | inr j ↦ absurd (true≢false (sym j ∙ k)) ]
  | inr i ↦ i
]

-- newer ranges, whose added variables the older ones don't know
pub settles_both : (M : ℕ) (ps qs : List Indexical) (us ws : List ℕ) → Settles M ps us → Settles M qs ws
    → ((x : ℕ) → has (constrained qs) x ≡ true → has us x ≡ false) → ((x : ℕ) → has ws x ≡ true → has (constrained qs) x ≡ true)
    → Settles M (ps ++ qs) (us ++ ws)
settles_both M ps qs us ws newer older apart inside S family closed full others =
    let old : (x : ℕ) → has (constrained qs) x ≡ true → OneValue (S x) =
    older S family (posted_right (λ p. IsSubset (S p.target) (set_of M S p.range)) ps qs closed) (λ x c. full x (named_right ps qs x c))
    (λ x c f. others x (named_right ps qs x c) (not_in_either us ws x (apart x c) f)) in
    let new : (x : ℕ) → has (constrained ps) x ≡ true → OneValue (S x) =
    newer S family (posted_left (λ p. IsSubset (S p.target) (set_of M S p.range)) ps qs closed) (λ x c. full x (named_left ps qs x c))
    (λ x c f. elim (cases_Bool (has ws x)) [ inl k ↦ old x (inside x k) | inr k ↦ others x (named_left ps qs x c) (not_in_either us ws x f k) ]) in
    λ x c. elim (constrained_either ps qs x c) [ inl k ↦ new x k | inr k ↦ old x k ]

-- assignments that agree on what the ranges name
pub posted_moved : (M : ℕ) (a e : Assignment) (ps : List Indexical) → ((x : ℕ) → has (constrained ps) x ≡ true → e x ≡ a x)
    → AllPosted (λ p. IsTrue (has (set_of M (singles a) p.range) (a p.target))) ps
    → AllPosted (λ p. IsTrue (has (set_of M (singles e) p.range) (e p.target))) ps
posted_moved M a e [] same h = tt
posted_moved M a e (q ∷ qs) same h = (
  subst (λ n. has (set_of M (singles e) q.range) n ≡ true) (sym (same q.target (first_member q.target _)))
      (subst (λ l. has l (a q.target) ≡ true) (set_agree M (singles a) (singles e) q.range
      (λ x i. ap (λ n. n ∷ []) (sym (same x (or_right (q.target == x) _ (in_left (reads q.range) (constrained qs) x i)))))) h.0),
  posted_moved M a e qs (λ x i. same x (or_right (q.target == x) _ (in_right (reads q.range) (constrained qs) x i))) h.1,
)
