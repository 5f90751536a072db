use Rattle.std.proofs.Common.{ℕ, List, None, Contains, sym, ap, subst, ◌∙◌}
use Rattle.std.specs.Option.{option_copied}
use Rattle.std.specs.List.{slice_get}
use Rattle.spv_types.specs.Meanings.{joined}
use Rattle.spv_types.proofs.WordLemmas.{found-nothing, found-small, found-zero, found-part, part-below}
use Rattle.spv_types.proofs.words.descend.Goals as goal

pub returns-in_default : goal.returns-in_default
returns-in_default c = λ table ids h.
    found-nothing table ids c.args.meanings.now.entries c.args.number c.args.k h (sym c.constant_numbered.ensures ∙ ap option_copied c.in_default.is)

pub returns-in-Small : goal.returns-in-Small
returns-in-Small c = λ table ids h.
    found-small table ids c.args.meanings.now.entries c.args.number c.args.k c.in-Some.constant.now c.in-Small.operand c.small_word.result h
    (sym c.constant_numbered.ensures ∙ ap option_copied c.in-Some.is) c.in-Small.is c.small_word.ensures

pub returns-in-Zeros : goal.returns-in-Zeros
returns-in-Zeros c = λ table ids h.
    found-zero table ids c.args.meanings.now.entries c.args.number c.args.k c.in-Some.constant.now c.zero_word.result h
    (sym c.constant_numbered.ensures ∙ ap option_copied c.in-Some.is) c.in-Zeros.is c.zero_word.ensures

pub returns-in-Some-find_part : goal.returns-in-Some-find_part
returns-in-Some-find_part c =
    let found = c.in-Some-find_part.ensures in (
      part-below c.requires.0 c.requires.1 c.args.meanings.now.entries c.args.number c.in-Some-find_part.part c.in-Some.constant.now c.in-Parts.parts c.requires.2
          (sym c.constant_numbered.ensures ∙ ap option_copied c.in-Some.is) c.in-Parts.is (subst (λ (xs : List ℕ). Contains xs c.in-Some-find_part.part) c.deref.ensures.value found.among),
      λ table ids h.
          found-part table ids c.args.meanings.now.entries c.args.number c.args.k c.in-Some.constant.now c.in-Parts.parts _ h
          (sym c.constant_numbered.ensures ∙ ap option_copied c.in-Some.is) c.in-Parts.is
          (ap (λ (xs : List ℕ). slice_get (joined table xs) c.args.k) (sym c.deref.ensures.value) ∙ found.found table ids h),
    )

pub returns-in-None : goal.returns-in-None
returns-in-None c = λ table ids h.
    found-part table ids c.args.meanings.now.entries c.args.number c.args.k c.in-Some.constant.now c.in-Parts.parts None h
    (sym c.constant_numbered.ensures ∙ ap option_copied c.in-Some.is) c.in-Parts.is
    (ap (λ (xs : List ℕ). slice_get (joined table xs) c.args.k) (sym c.deref.ensures.value) ∙ c.in-None.ensures.absent table ids h)
