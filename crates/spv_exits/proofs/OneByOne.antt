-- Functions one by one.
use Rattle.std.proofs.Common.{◌+◌, [], ◌∷◌, ◌++◌, refl, sym, ap, ◌∙◌, arith, append_assoc, append-nil}
use Rattle.spv_exits.specs.Exits.{crowded, crowded_in_all}
use Rattle.spv_exits.specs.Laws.{NestedMore, CrowdedMore}

-- induction on the functions
pub together-more : NestedMore
together-more [] f m n all more = (n, 0, more, refl, (omega (arith, all)))
together-more (g ∷ fs) f m n all more =
    let later = together-more fs f all.1 n all.3 more in
    (all.0, all.1 + n, all.2, later, (let e = all.4 in omega arith))

-- induction on the functions
pub crowded-one_more : CrowdedMore
crowded-one_more [] f n = append-nil (crowded f n)
crowded-one_more (g ∷ fs) f n =
    ap (λ rs. crowded g n ++ rs) (crowded-one_more fs f n) ∙ sym (append_assoc (crowded g n) (crowded_in_all fs n) (crowded f n))
