-- The labelling of a list.
use Rattle.std.proofs.Common.{◌≡◌, ℕ, true, false, List, [], map, Option, Some, None, refl, sym, ap, ◌∙◌, subst}
use Rattle.std.specs.Prelude.{Result, Ok, Err}
use Rattle.std.specs.List.{list_all}
use Rattle.fd_language.specs.Family.{has, count_up}
use Rattle.fd_language.specs.Term.{Term}
use Rattle.fd_model.specs.declared.kinds.Order.{Order}
use Rattle.fd_model.specs.declared.kinds.QueryFault.{QueryFault}
use Rattle.fd_model.specs.Labelling.{read_list, open_ones}
use Rattle.fd_model.specs.Members as model
use Rattle.answer_check.specs.declared.goals.Labelling.{Labelling}
use Rattle.answer_check.specs.declared.members.Member.{Member}
use Rattle.answer_check.specs.FlatForm.{FlatGoals, has_below, labelled_by}
use Rattle.answer_check.specs.Goals.{AreLabels, HasNoLabels, FindsLabels, IsLabelling}
use Rattle.answer_check.specs.Members.{model_of, members_in, open_in}
use Rattle.answer_check.proofs.MemberTerms.{members_read, members_unread, open_same}

pub labels_none : (n : ℕ) (list : Term) → members_in list ≡ None → HasNoLabels n list
labels_none n list e = λ ms r. absurd (members_unread list ms e r)

below_is : (n : ℕ) (ms : List Member) (xs : List ℕ) → xs ≡ open_in ms → has_below n (map model_of ms) ≡ list_all (has xs) (count_up 0 n)
below_is n ms xs e = ap (λ (ys : List ℕ). list_all (has ys) (count_up 0 n)) (open_same ms ∙ sym e)

pub labels_some : (n : ℕ) (o : Order) (list : Term) (ms : List Member) (xs : List ℕ) (l : Labelling) → Some ms ≡ members_in list → xs ≡ open_in ms
    → list_all (has xs) (count_up 0 n) ≡ true → l.order ≡ o → l.labelled.items ≡ xs → AreLabels n o list l
labels_some n o list ms xs l e opened all order labelled = record {
  members = map model_of ms;
  read = members_read list ms (sym e);
  order = order;
  labelled = labelled ∙ opened ∙ sym (open_same ms);
  every = below_is n ms xs opened ∙ all;
}

pub labels_short : (n : ℕ) (list : Term) (ms : List Member) (xs : List ℕ) → Some ms ≡ members_in list → xs ≡ open_in ms → list_all (has xs) (count_up 0 n) ≡ false → HasNoLabels n list
labels_short n list ms xs e opened all = λ ns r.
    let both : Ok (map model_of ms) ≡ Ok ns = sym (members_read list ms (sym e)) ∙ r in
    let same : map model_of ms ≡ ns = cc in
    ap (has_below n) (sym same) ∙ below_is n ms xs opened ∙ all

-- the labelling goal of such a list
labelled_some : (n p : ℕ) (o : Order) (r : Result (List model.Member) QueryFault) (ms : List model.Member) (l : Labelling) → r ≡ Ok ms → has_below n ms ≡ true
    → l.order ≡ o → l.labelled.items ≡ open_ones ms → IsLabelling (labelled_by n p o r) l
labelled_some n p o r ms l e all order labelled = record {
  goals = (let g : FlatGoals = record { constraints = []; order = o; members = ms } in g);
  found = ap (labelled_by n p o) e ∙ rw all refl;
  bare = refl;
  order = order;
  labelled = labelled;
}

labelled_none : (n p : ℕ) (o : Order) (r : Result (List model.Member) QueryFault) → ((ms : List model.Member) → r ≡ Ok ms → has_below n ms ≡ false) → labelled_by n p o r ≡ Err p
labelled_none n p o (Ok ms) h = rw (h ms refl) refl
labelled_none n p o (Err f) h = refl

pub labelling_found : (n p : ℕ) (o : Order) (list : Term) (r : Option Labelling) → FindsLabels n o list r → (l : Labelling) → r ≡ Some l → IsLabelling (labelled_by n p o (read_list list)) l
labelling_found n p o list (Some k) h l e =
    let same : k ≡ l = cc in
    subst (IsLabelling (labelled_by n p o (read_list list))) same (labelled_some n p o (read_list list) h.members k h.read h.every h.order h.labelled)
labelling_found n p o list None h l e = absurd (cc (e))

pub labelling_missing : (n p : ℕ) (o : Order) (list : Term) (r : Option Labelling) → FindsLabels n o list r → r ≡ None → labelled_by n p o (read_list list) ≡ Err p
labelling_missing n p o list None h e = labelled_none n p o (read_list list) h
labelling_missing n p o list (Some k) h e = absurd (cc (e))
