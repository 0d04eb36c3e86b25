use Rattle.std.proofs.Common.{sym, subst}
use Rattle.term_pool.specs.Terms.{term_of}
use Rattle.term_pool.proofs.Lemmas.{term_is_storable}
use Rattle.constraint_expand.specs.Lists.{AreWords}
use Rattle.constraint_expand.proofs.ListWalks.{walked_words}
use Rattle.constraint_expand.proofs.elements.element.Goals as goal

pub element_ranges-requires : goal.element_ranges-requires
element_ranges-requires c =
    let pool = c.args.pool.now in
    let list = c.args.list in
    subst AreWords (sym c.deref.ensures.value)
    (walked_words (term_of pool list) c.in_ok-elements.elements.items (term_is_storable pool c.in_ok-index.ensures.valid list c.requires.list) c.in_ok-elements.ensures)
