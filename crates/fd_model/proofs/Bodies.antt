-- Two ways of a body are an if with another part where the left one is an if alone, and else either of both.
use Rattle.std.proofs.Common.{◌≡◌, refl, inl, inr, ◌⊎◌}
use Rattle.fd_model.specs.Goal.{Goals, no_goals, goal, True, Fail, Unify, Post, Constrain, Label, Call, Either, Builtin, Cut, If, IfElse, Not, Best}
use Rattle.fd_model.specs.Queries.{either_way}

abbrev pub IsEither : Goals → Goals → Type 0
IsEither gs hs = ((test : Goals) × (holds : Goals) × (gs ≡ goal (If test holds) no_goals) × (either_way gs hs ≡ IfElse test holds hs)) ⊎ (either_way gs hs ≡ Either gs hs)

pub either_is : (gs hs : Goals) → IsEither gs hs
either_is no_goals hs = inr refl
either_is (goal (If test holds) no_goals) hs = inl (test, holds, refl, refl)
either_is (goal True no_goals) hs = inr refl
either_is (goal Fail no_goals) hs = inr refl
either_is (goal (Unify s t) no_goals) hs = inr refl
either_is (goal (Post t r) no_goals) hs = inr refl
either_is (goal (Constrain c t) no_goals) hs = inr refl
either_is (goal (Label o t) no_goals) hs = inr refl
either_is (goal (Call t) no_goals) hs = inr refl
either_is (goal (Either a b) no_goals) hs = inr refl
either_is (goal (Builtin k t) no_goals) hs = inr refl
either_is (goal (Cut c) no_goals) hs = inr refl
either_is (goal (IfElse a b c) no_goals) hs = inr refl
either_is (goal (Not gs) no_goals) hs = inr refl
either_is (goal (Best o least t c) no_goals) hs = inr refl
either_is (goal True (goal h gs)) hs = inr refl
either_is (goal Fail (goal h gs)) hs = inr refl
either_is (goal (Unify s t) (goal h gs)) hs = inr refl
either_is (goal (Post t r) (goal h gs)) hs = inr refl
either_is (goal (Constrain c t) (goal h gs)) hs = inr refl
either_is (goal (Label o t) (goal h gs)) hs = inr refl
either_is (goal (Call t) (goal h gs)) hs = inr refl
either_is (goal (Either a b) (goal h gs)) hs = inr refl
either_is (goal (Builtin k t) (goal h gs)) hs = inr refl
either_is (goal (Cut c) (goal h gs)) hs = inr refl
either_is (goal (If a b) (goal h gs)) hs = inr refl
either_is (goal (IfElse a b c) (goal h gs)) hs = inr refl
either_is (goal (Not ks) (goal h gs)) hs = inr refl
either_is (goal (Best o least t c) (goal h gs)) hs = inr refl
