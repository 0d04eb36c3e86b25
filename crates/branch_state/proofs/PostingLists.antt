-- The ranges of a constraint that are listed as they are posted, one after the other.
use Rattle.std.proofs.Common.{◌≡◌, ℕ, zero, suc, ◌+◌, ◌<◌, true, ◌==◌, List, [], ◌∷◌, ◌++◌, length, map, take, get_or, refl, ap, sym, ◌∙◌, subst, arith}
use Rattle.std.proofs.Common.{append-nil, append_assoc, eq-eqb}
use Rattle.std.specs.Prelude.{All}
use Rattle.std.proofs.lemmas.Bool.{or_left, or_right}
use Rattle.std.proofs.lemmas.List.{take_more, map-append}
use Rattle.fd_language.specs.Family.{has}
use Rattle.fd_language.specs.Range.{Range, Indexical}
use Rattle.fd_language.specs.Term.{Var}
use Rattle.fd_language.proofs.Lemmas.{in_left, in_right, two}
use Rattle.heap_cells.specs.Cells.{Cells}
use Rattle.constraint_expand.specs.Pieces.{IsPiece}
use Rattle.constraint_expand.specs.Posts.{indexicals}
use Rattle.range_code.specs.declared.frame.Arg.{Arg}
use Rattle.range_code.specs.declared.frame.Arg.TheVariants as arg
use Rattle.range_code.specs.Frames.{AreArgs, posted}
use Rattle.range_code.specs.Slots.{slots_of}
use Rattle.propagate_queue.specs.declared.instance.Instance.{Instance}
use Rattle.propagate_queue.specs.Instances.{posting, IsInstance}
use Rattle.propagate_queue.specs.Postings.{Posting, ranged, IsPosting}
use Rattle.branch_state.specs.Constraints.{variables_in, store_variable, row_posting, AreUnbound, AreLinked}
use Rattle.branch_state.specs.PostingLists.{IsSamePosting, AreSamePostings, AreListed, LinksMore}
use Rattle.branch_state.specs.StoreVariables.{or_zero, IsNaming, OwnLinks}
use Rattle.branch_state.proofs.ConstraintLinks.{links_none, links_both, links_named, links_unbound, links_keep}
use Rattle.branch_state.proofs.ConstraintSteps.{of_pair, indexicals_map}
use Rattle.branch_state.proofs.Touches.{EachPosting, all_instances}

-- ---- postings that are the same

same_range : (a b : Posting) → IsSamePosting a b → ranged a ≡ ranged b
same_range a b s = two (λ (t : ℕ) (r : Range). record { target = t; range = r }) s.target (s.alike.same a.args ∙ ap (posted b.range) s.args)

-- the same ranges are posted
pub same_ranged : (ps qs : List Posting) → AreSamePostings ps qs → map ranged ps ≡ map ranged qs
same_ranged [] [] s = refl
same_ranged [] (q ∷ qs) s = absurd s
same_ranged (p ∷ ps) [] s = absurd s
same_ranged (p ∷ ps) (q ∷ qs) s = two (λ (r : Indexical) (rs : List Indexical). r ∷ rs) (same_range p q s.0) (same_ranged ps qs s.1)

same_fits : (count : ℕ) (a b : Posting) → IsSamePosting a b → IsPosting count b → IsPosting count a
same_fits count a b s f = (
  subst (λ k. k < count) (sym s.target) f.0,
  subst (λ ns. AreArgs count ns a.args) (sym s.alike.needs) (subst (AreArgs count _) (sym s.args) f.1),
)

each_same : (count : ℕ) (ps qs : List Posting) → AreSamePostings ps qs → EachPosting count qs → EachPosting count ps
each_same count [] [] s f = tt
each_same count [] (q ∷ qs) s f = absurd s
each_same count (p ∷ ps) [] s f = absurd s
each_same count (p ∷ ps) (q ∷ qs) s f = (same_fits count p q s.0 f.0, each_same count ps qs s.1 f.1)

-- and they fit
pub same_instances : (count : ℕ) (list : List Instance) (qs : List Posting) → AreSamePostings (map posting list) qs → EachPosting count qs → All (IsInstance count) list
same_instances count list qs s f = all_instances count list (map posting list) refl (each_same count (map posting list) qs s f)

same_both : (ps qs rs ts : List Posting) → AreSamePostings ps qs → AreSamePostings rs ts → AreSamePostings (ps ++ rs) (qs ++ ts)
same_both [] [] rs ts s t = t
same_both [] (q ∷ qs) rs ts s t = absurd s
same_both (p ∷ ps) [] rs ts s t = absurd s
same_both (p ∷ ps) (q ∷ qs) rs ts s t = (s.0, same_both ps qs rs ts s.1 t)

-- ---- the variables of ranges

pub variables_both : (ps qs : List Indexical) → variables_in (ps ++ qs) ≡ variables_in ps ++ variables_in qs
variables_both [] qs = refl
variables_both (p ∷ ps) qs = ap (λ l. (p.target ∷ slots_of p.range) ++ l) (variables_both ps qs) ∙ sym (append_assoc (p.target ∷ slots_of p.range) (variables_in ps) (variables_in qs))

pub variables_one : (p : Indexical) → variables_in (p ∷ []) ≡ p.target ∷ slots_of p.range
variables_one p = append-nil (p.target ∷ slots_of p.range)

args_moved : (of to : ℕ → ℕ) (ys : List ℕ) → ((x : ℕ) → has ys x ≡ true → of x ≡ to x) → map (λ y. arg.Var (of y)) ys ≡ map (λ y. arg.Var (to y)) ys
args_moved of to [] e = refl
args_moved of to (y ∷ ys) e =
    two (λ (a : Arg) (l : List Arg). a ∷ l) (ap arg.Var (e y (or_left (y == y) (has ys y) (eq-eqb y y refl)))) (args_moved of to ys (λ x i. e x (or_right (y == x) (has ys x) i)))

-- the same variables, the same postings
rows_moved : (of to : ℕ → ℕ) (ps : List Indexical) → ((x : ℕ) → has (variables_in ps) x ≡ true → of x ≡ to x) → map (row_posting of) ps ≡ map (row_posting to) ps
rows_moved of to [] e = refl
rows_moved of to (p ∷ ps) e =
    let target : of p.target ≡ to p.target = e p.target
    (in_left (p.target ∷ slots_of p.range) (variables_in ps) p.target
    (or_left (p.target == p.target) (has (slots_of p.range) p.target) (eq-eqb p.target p.target refl))) in
    let args = args_moved of to (slots_of p.range) (λ x i. e x (in_left (p.target ∷ slots_of p.range) (variables_in ps) x (or_right (p.target == x) (has (slots_of p.range) x) i))) in
    two (λ (q : Posting) (l : List Posting). q ∷ l) (two (λ (t : ℕ) (as' : List Arg). record { range = p.range; target = t; args = as' }) target args)
    (rows_moved of to ps (λ x i. e x (in_right (p.target ∷ slots_of p.range) (variables_in ps) x i)))

-- ---- lists

pub none_listed : (h : Cells) (list : List Instance) → AreListed h [] list list
none_listed h list = record { more = []; behind = sym (append-nil list); same = tt }

pub one_listed : (h : Cells) (p q : Indexical) (old new : List Instance) (i : Instance) → IsSamePosting (posting i) (row_posting (store_variable h) q) → q ≡ p
    → new ≡ old ++ i ∷ [] → AreListed h (p ∷ []) old new
one_listed h p q old new i s e n = record { more = i ∷ []; behind = n; same = (subst (λ r. IsSamePosting (posting i) (row_posting (store_variable h) r)) e s, tt) }

-- More are listed, and more variables are linked.
pub both_listed : (first : Cells) (sets : List (List ℕ)) → OwnLinks (length sets) first → (ps qs : List Indexical) (middle now : Cells) (S T : List (List ℕ))
    → LinksMore first sets (variables_in ps) middle S → OwnLinks (length S) middle → LinksMore middle S (variables_in qs) now T
    → (old next new : List Instance) → AreListed middle ps old next → AreListed now qs next new → AreListed now (ps ++ qs) old new
both_listed first sets own ps qs middle now S T a links b old next new x y = record {
  more = x.more ++ y.more;
  behind = y.behind ∙ ap (λ l. l ++ y.more) x.behind ∙ append_assoc old x.more y.more;
  same =
      subst (λ l. AreSamePostings l (map (row_posting (store_variable now)) (ps ++ qs))) (sym (map-append posting x.more y.more))
      (subst (AreSamePostings (map posting x.more ++ map posting y.more)) (sym (map-append (row_posting (store_variable now)) ps qs))
      (same_both (map posting x.more) (map (row_posting (store_variable now)) ps) (map posting y.more) (map (row_posting (store_variable now)) qs) moved y.same));
} where
  kept : (z : ℕ) → has (variables_in ps) z ≡ true → store_variable middle z ≡ store_variable now z
  kept z i =
      let k = (links_named first sets own (variables_in ps) middle S a).named z z i refl in
      ap or_zero (k.1 ∙ sym (links_keep middle S links (variables_in qs) now T b z k.0 k.1))

  moved : AreSamePostings (map posting x.more) (map (row_posting (store_variable now)) ps)
  moved = subst (AreSamePostings (map posting x.more)) (rows_moved (store_variable middle) (store_variable now) ps kept) x.same

-- ---- one range

module _ (h : Cells) (sets : List (List ℕ)) (own : OwnLinks (length sets) h) (p : Indexical) (middle : Cells) (S : List (List ℕ)) (a : LinksMore h sets (p.target ∷ []) middle S) where
  pub range_unbound : AreUnbound h (variables_in (p ∷ [])) → AreUnbound middle (slots_of p.range)
  range_unbound u x i = links_unbound h sets own (p.target ∷ []) middle S a x (u x (subst (λ l. has l x ≡ true) (sym (variables_one p)) (or_right (p.target == x) (has (slots_of p.range) x) i)))

  pub range_links : (now : Cells) (T : List (List ℕ)) → LinksMore middle S (slots_of p.range) now T → LinksMore h sets (variables_in (p ∷ [])) now T
  range_links now T b = subst (λ l. LinksMore h sets l now T) (sym (variables_one p)) (links_both h sets (p.target ∷ []) (slots_of p.range) middle now S T a b)

pub range_linked : (h : Cells) (sets : List (List ℕ)) → OwnLinks (length sets) h → (xs : List ℕ) (now : Cells) (S : List (List ℕ)) → LinksMore h sets xs now S → AreLinked now xs
range_linked h sets own xs now S m x i = (links_named h sets own xs now S m).named x x i refl

-- ---- a piece

piece_next : (ps : List (ℕ × Range)) (i : ℕ) (d : ℕ × Range) → i < length ps → indexicals (take (i + 1) ps) ≡ indexicals (take i ps) ++ of_pair (get_or ps i d) ∷ []
piece_next ps i d l = ap indexicals (take_more ps i d l) ∙ indexicals_map (take i ps ++ get_or ps i d ∷ [])
    ∙ map-append of_pair (take i ps) (get_or ps i d ∷ []) ∙ ap (λ l. l ++ of_pair (get_or ps i d) ∷ []) (sym (indexicals_map (take i ps)))

piece_has : (ps : List (ℕ × Range)) (i : ℕ) (d : ℕ × Range) → i < length ps → (x : ℕ) → has (variables_in (of_pair (get_or ps i d) ∷ [])) x ≡ true → has (variables_in (indexicals ps)) x ≡ true
piece_has [] i d l x e = absurd (omega (arith, l))
piece_has (p ∷ ps) zero d l x e = in_left (p.0 ∷ slots_of p.1) (variables_in (indexicals ps)) x (subst (λ l. has l x ≡ true) (variables_one (of_pair p)) e)
piece_has (p ∷ ps) (suc i) d l x e = in_right (p.0 ∷ slots_of p.1) (variables_in (indexicals ps)) x (piece_has ps i d (omega (arith, l)) x e)

module _ (h : Cells) (sets : List (List ℕ)) (own : OwnLinks (length sets) h) (piece : List (ℕ × Range)) (i : ℕ) (d : ℕ × Range) (l : i < length piece)
    (middle : Cells) (S : List (List ℕ)) (a : LinksMore h sets (variables_in (indexicals (take i piece))) middle S) where
  pub piece_unbound : AreUnbound h (variables_in (indexicals piece)) → AreUnbound middle (variables_in (of_pair (get_or piece i d) ∷ []))
  piece_unbound u x e = links_unbound h sets own (variables_in (indexicals (take i piece))) middle S a x (u x (piece_has piece i d l x e))

  module _ (now : Cells) (T : List (List ℕ)) (b : LinksMore middle S (variables_in (of_pair (get_or piece i d) ∷ [])) now T) where
    pub piece_links : LinksMore h sets (variables_in (indexicals (take (i + 1) piece))) now T
    piece_links =
        subst (λ xs. LinksMore h sets xs now T) (sym (ap variables_in (piece_next piece i d l) ∙ variables_both (indexicals (take i piece)) (of_pair (get_or piece i d) ∷ [])))
        (links_both h sets (variables_in (indexicals (take i piece))) (variables_in (of_pair (get_or piece i d) ∷ [])) middle now S T a b)

    pub piece_listed : OwnLinks (length S) middle → (old next new : List Instance) → AreListed middle (indexicals (take i piece)) old next
        → AreListed now (of_pair (get_or piece i d) ∷ []) next new → AreListed now (indexicals (take (i + 1) piece)) old new
    piece_listed links old next new x y =
        subst (λ ps. AreListed now ps old new) (sym (piece_next piece i d l))
        (both_listed h sets own (indexicals (take i piece)) (of_pair (get_or piece i d) ∷ []) middle now S T a links b old next new x y)

-- ---- all pieces

-- the ranges that were given so far are listed
pub record AreGiven (h : Cells) (sets : List (List ℕ)) (all left : List Indexical) (now : Cells) (S : List (List ℕ)) (list : List Instance) : Type 0 where
  pub done : List Indexical
  pub parts : all ≡ done ++ left
  pub linked : LinksMore h sets (variables_in done) now S
  pub listed : AreListed now done [] list

pub none_given : (h : Cells) (sets : List (List ℕ)) (all : List Indexical) (list : List Instance) → list ≡ [] → AreGiven h sets all all h sets list
none_given h sets all list e = record { done = []; parts = refl; linked = links_none h sets; listed = record { more = []; behind = e; same = tt } }

module _ (h : Cells) (sets : List (List ℕ)) (own : OwnLinks (length sets) h) (all left : List Indexical) (middle : Cells) (S : List (List ℕ))
    (next : List Instance) (g : AreGiven h sets all left middle S next) where
  pub given_unbound : (rest : List Indexical) (piece : List (ℕ × Range)) → IsPiece left rest piece → AreUnbound h (variables_in all) → AreUnbound middle (variables_in (indexicals piece))
  given_unbound rest piece p u x e =
      links_unbound h sets own (variables_in g.done) middle S g.linked x
      (u x (subst (λ l. has l x ≡ true) (sym (ap variables_in (g.parts ∙ ap (λ l. g.done ++ l) p.ranges) ∙ variables_both g.done (indexicals piece ++ rest)))
      (in_right (variables_in g.done) (variables_in (indexicals piece ++ rest)) x
      (subst (λ l. has l x ≡ true) (sym (variables_both (indexicals piece) rest)) (in_left (variables_in (indexicals piece)) (variables_in rest) x e)))))

  pub given_more : (rest : List Indexical) (piece : List (ℕ × Range)) → IsPiece left rest piece → OwnLinks (length S) middle → (now : Cells) (T : List (List ℕ))
      → LinksMore middle S (variables_in (indexicals piece)) now T → (new : List Instance) → AreListed now (indexicals piece) next new
      → AreGiven h sets all rest now T new
  given_more rest piece p links now T b new y = record {
    done = g.done ++ indexicals piece;
    parts = g.parts ∙ ap (λ l. g.done ++ l) p.ranges ∙ sym (append_assoc g.done (indexicals piece) rest);
    linked = subst (λ xs. LinksMore h sets xs now T) (sym (variables_both g.done (indexicals piece)))
        (links_both h sets (variables_in g.done) (variables_in (indexicals piece)) middle now S T g.linked b);
    listed = both_listed h sets own g.done (indexicals piece) middle now S T g.linked links b [] next new g.listed y;
  }

  module _ (over : left ≡ []) where
    all_done : g.done ≡ all
    all_done = sym (g.parts ∙ ap (λ l. g.done ++ l) over ∙ append-nil g.done)

    pub given_named : IsNaming Var h sets (variables_in all) middle S [] []
    given_named = subst (λ ps. IsNaming Var h sets (variables_in ps) middle S [] []) all_done (links_named h sets own (variables_in g.done) middle S g.linked)

    pub given_same : AreSamePostings (map posting next) (map (row_posting (store_variable middle)) all)
    given_same = subst (λ (l : List Instance). AreSamePostings (map posting l) (map (row_posting (store_variable middle)) all)) (sym g.listed.behind)
        (subst (λ ps. AreSamePostings (map posting g.listed.more) (map (row_posting (store_variable middle)) ps)) all_done g.listed.same)
