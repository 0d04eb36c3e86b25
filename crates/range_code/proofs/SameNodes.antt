-- What `==` tells of two nodes, by the comparison that their type derives.
use Rattle.std.proofs.Common.{◌≡◌, Bool, true, false, List, [], ◌∷◌, refl, sym, ◌∙◌, ap, inl, inr, ◌==◌}
use Rattle.std.specs.Ordering.{int_eq}
use Rattle.std.proofs.lemmas.Bool.{true≢false}
use Rattle.std.proofs.lemmas.Bool.Decides.{Decides-eqb, Decides-int_eq}
use denote.Struct.Field.{Field, u64-field, i64-field}
use denote.Struct.Values.{Values}
use denote.Enum.Declared.{Choice}
use denote.Enum.Compared.{Each, by}
use Rattle.fd_language.specs.declared.range_node.RangeNode.{RangeNode}
use Rattle.fd_language.specs.contracts.range_node.RangeNode.{enum}
use Rattle.fd_language.specs.contracts.range_node.RangeNodePartialEq.TheImpl.{ghosts}

-- a test of a variant's values passes where they are the same, and nowhere else
record Tells (Fs : List Field) (test : Values Fs → Values Fs → Bool) : Type 0 where
  same : (x y : Values Fs) → test x y ≡ true → x ≡ y
  alike : (x : Values Fs) → test x x ≡ true

abbrev Tell : (Fss : List (List Field)) → Each Bool Fss → Type 0
Tell [] each = Unit {0}
Tell (Fs ∷ Fss) each = Tells Fs each.0 × Tell Fss each.1

by_same : (Fss : List (List Field)) (each : Each Bool Fss) → Tell Fss each → (c d : Choice Fss) → by false false Fss each c d ≡ true → c ≡ d
by_same [] each t c d h = absurd c
by_same (Fs ∷ Fss) each t (inl x) (inl y) h = ap inl (t.0.same x y h)
by_same (Fs ∷ Fss) each t (inl x) (inr y) h = absurd (true≢false (sym h))
by_same (Fs ∷ Fss) each t (inr x) (inl y) h = absurd (true≢false (sym h))
by_same (Fs ∷ Fss) each t (inr x) (inr y) h = ap inr (by_same Fss each.1 t.1 x y h)

by_alike : (Fss : List (List Field)) (each : Each Bool Fss) → Tell Fss each → (c : Choice Fss) → by false false Fss each c c ≡ true
by_alike [] each t c = absurd c
by_alike (Fs ∷ Fss) each t (inl x) = t.0.alike x
by_alike (Fs ∷ Fss) each t (inr x) = by_alike Fss each.1 t.1 x

bare : Tells [] (λ x y. true)
bare = record { same = λ x y h. refl; alike = λ x. refl }

word : Tells (u64-field ∷ []) (λ x y. x.0 == y.0)
word = record { same = λ x y h. ap (λ n. (n, tt)) ((Decides-eqb x.0 y.0).0 h); alike = λ x. (Decides-eqb x.0 x.0).1 refl }

integer : Tells (i64-field ∷ []) (λ x y. int_eq x.0 y.0)
integer = record { same = λ x y h. ap (λ z. (z, tt)) ((Decides-int_eq x.0 y.0).0 h); alike = λ x. (Decides-int_eq x.0 x.0).1 refl }

pub node_same : (a b : RangeNode) → ghosts.eq a b ≡ true → a ≡ b
node_same a b h = sym (enum.eta a) ∙ (ap enum.make (by_same enum.parts _ (
  integer,
  (
    bare,
    (
      word,
      (
        word,
        (
          word,
          (
            word,
            (
              bare,
              (
                bare,
                (
                  bare,
                  (bare, (bare, (bare, (bare, (word, (bare, (bare, (bare, (bare, (bare, (bare, (bare, tt)))))))))))),
                ),
              ),
            ),
          ),
        ),
      ),
    ),
  ),
) (enum.as_values a) (enum.as_values b) h)
    ∙ enum.eta b)

pub node_alike : (a : RangeNode) → ghosts.eq a a ≡ true
node_alike a = by_alike enum.parts _ (
  integer,
  (
    bare,
    (word, (word, (word, (word, (bare, (bare, (bare, (bare, (bare, (bare, (bare, (word, (bare, (bare, (bare, (bare, (bare, (bare, (bare, tt))))))))))))))))))),
  ),
)
    (enum.as_values a)
