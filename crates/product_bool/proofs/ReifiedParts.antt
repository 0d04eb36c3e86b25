-- What is told, by its parts.
use Rattle.std.proofs.Common.{◌≡◌, ℕ, suc, ◌+◌, ℤ, List, [], ◌++◌, map, ap, sym, ◌∙◌, subst, arith, Result, Ok, Err}
use Rattle.fd_language.specs.Range.{Range, Indexical}
use Rattle.fd_model.specs.declared.kinds.QueryFault.{QueryFault}
use Rattle.fd_model.specs.Linear.{Linear, Comparison, IsOther, turned, of_one, of_both}
use Rattle.fd_model.specs.ReifiedRows.{told_by, both_sums, equal_ranges, reified_ranges, reified_end}
use Rattle.fd_model.specs.BooleanRows.{not_ranges}
use Rattle.fd_model.specs.Splitting as splitting
use Rattle.linear_forms.specs.LinearForm.{form_of}
use Rattle.product_bool.specs.declared.members.Placed.{Placed}
use Rattle.product_bool.specs.declared.parts.Split.{Split}
use Rattle.product_bool.specs.Posts.{indexicals, Posts}
use Rattle.product_bool.specs.Reified.{told_sums, told_parts}
use Rattle.product_bool.specs.Views.{parts_of}
use Rattle.product_bool.specs.declared.faults.SplitFault.{SplitFault}
use Rattle.product_bool.specs.declared.faults.SplitFault.TheVariants as fault
use Rattle.product_bool.specs.Faults.{fault_of, IsFaultOf}
use Rattle.std.specs.Prelude.{Option, Some, None, MatchOption}
use Rattle.product_bool.proofs.Gates.{posts_both, posted_list}

-- the fault of the sums is that of all
pub fault_told : (c : Comparison) (b : ℕ) (p : Placed) (w : ℤ) (l : Linear) (q : QueryFault) → told_sums c b p.fresh w l ≡ Err q → told_parts c b p w l ≡ Err q
fault_told c b p w l q h = ap (of_one (λ (ls : List Linear). Ok (record { equated = p.equated.items; ranges = reified_ranges c b p.fresh; sums = ls; fresh = reified_end c p.fresh }))) h

-- the sums, as they are told by numbers that were passed on
abbrev pub other_code : ℕ → ℤ → Linear → Result (List Linear) QueryFault
other_code n w l = of_both both_sums (told_by (n + 1) w l) (told_by (n + 1 + 1) w (turned l))

pub other_sums : (b n : ℕ) (w v : ℤ) (l : Linear) → v ≡ w → other_code n v l ≡ told_sums IsOther b n w l
other_sums b n w v l e = λ i. of_both both_sums (told_by (one i) (e i) l) (told_by (two i) (e i) (turned l)) where
  one : n + 1 ≡ suc n
  one = omega arith

  two : n + 1 + 1 ≡ suc (suc n)
  two = omega arith

-- a fault of one is that of another
pub fault_passed : {A B : Type 0} (d : Result A QueryFault) (e : Result B QueryFault) (f : SplitFault) → ((q : QueryFault) → d ≡ Err q → e ≡ Err q) → IsFaultOf d f → IsFaultOf e f
fault_passed d e f pass h = by_option (fault_of f) h where
  by_option : (o : Option QueryFault) → MatchOption o (f ≡ fault.NoMemory) (λ q. d ≡ Err q) → MatchOption o (f ≡ fault.NoMemory) (λ q. e ≡ Err q)
  by_option None h = h
  by_option (Some q) h = pass q h

abbrev taken : List (ℕ × ℤ) → List Indexical → List Linear → ℕ → Result splitting.Split QueryFault
taken a b c d = Ok (record { equated = a; ranges = b; sums = c; fresh = d })

pub other_told : (b n : ℕ) (p : Placed) (w : ℤ) (l : Linear) (s : Split) (ls : List Linear) (start one two : List (ℕ × Range))
    → told_sums IsOther b p.fresh w l ≡ Ok ls → s.equated.items ≡ p.equated.items → n ≡ p.fresh → s.added ≡ n + 1 + 1 + 1 → map form_of s.sums.items ≡ ls
    → start ≡ []
    → Posts (equal_ranges n (n + 1) (n + 1 + 1)) start one → Posts (not_ranges n b) one two → s.list.items ≡ two → told_parts IsOther b p w l ≡ Ok (parts_of s)
other_told b n p w l s ls start one two h e f g m none first second is =
    ap (of_one (λ (ls : List Linear). Ok (record { equated = p.equated.items; ranges = reified_ranges IsOther b p.fresh; sums = ls; fresh = reified_end IsOther p.fresh }))) h
    ∙ made (sym e) (ranges ∙ ap indexicals (sym is)) (sym m) (ends (p.fresh) n s.added f g) where
      made : {a a' : List (ℕ × ℤ)} {b b' : List Indexical} {c c' : List Linear} {d d' : ℕ} → a ≡ a' → b ≡ b' → c ≡ c' → d ≡ d' → taken a b c d ≡ taken a' b' c' d'
      made e f g h = λ i. taken (e i) (f i) (g i) (h i)

      ends : (m n k : ℕ) → n ≡ m → k ≡ n + 1 + 1 + 1 → m + 3 ≡ k
      ends m n k e f = omega arith

      both : Posts (equal_ranges n (n + 1) (n + 1 + 1) ++ not_ranges n b) [] two
      both = posts_both (equal_ranges n (n + 1) (n + 1 + 1)) (not_ranges n b) [] one two (subst (λ us. Posts (equal_ranges n (n + 1) (n + 1 + 1)) us one) none first) second

      numbers : (m n : ℕ) → n ≡ m → equal_ranges n (n + 1) (n + 1 + 1) ++ not_ranges n b ≡ equal_ranges m (suc m) (suc (suc m)) ++ not_ranges m b
      numbers m n e = three n (n + 1) (n + 1 + 1) m (suc m) (suc (suc m)) e (omega arith) (omega arith) where
        three : (x y z u v w : ℕ) → x ≡ u → y ≡ v → z ≡ w → equal_ranges x y z ++ not_ranges x b ≡ equal_ranges u v w ++ not_ranges u b
        three x y z u v w e f g = λ i. equal_ranges (e i) (f i) (g i) ++ not_ranges (e i) b

      ranges : reified_ranges IsOther b p.fresh ≡ indexicals two
      ranges = sym (numbers p.fresh n f) ∙ sym (posted_list (equal_ranges n (n + 1) (n + 1 + 1) ++ not_ranges n b) two both)
