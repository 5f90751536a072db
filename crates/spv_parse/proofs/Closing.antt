-- How a block ends that is no header of a loop.
use Rattle.std.proofs.Common.{◌≡◌, ℕ, false, List, ◌++◌, All, refl, sym, ap, subst, ◌∙◌}
use Rattle.spv_module.specs.declared.inst.Inst.{Inst}
use Rattle.spv_bodies.specs.Bodies.{Body}
use Rattle.spv_normal.specs.Order.{is_loop}
use Rattle.spv_spelling.specs.Spelling.{finishes}
use Rattle.spv_spelling.specs.Text.{behind_phis, text}
use Rattle.spv_tree.specs.declared.body.End.TheVariants as end
use Rattle.spv_tree.specs.declared.body.Item.{Item}
use Rattle.spv_tree.specs.Tree.{end_body, items_then, steps_then}
use Rattle.spv_sources.specs.declared.close.Close.{Close}
use Rattle.spv_sources.specs.declared.close.Close.TheVariants as close
use Rattle.spv_sources.specs.declared.close.Text.{Text}
use Rattle.spv_sources.specs.Close.{IsText, close_construct, close_lines, step_words}
use Rattle.spv_parse.specs.declared.scene.Scene.{Scene}
use Rattle.spv_parse.specs.declared.state.Onward.{Onward}
use Rattle.spv_parse.specs.declared.state.Onward.TheVariants as onward
use Rattle.spv_parse.specs.declared.state.State.TheVariants as state
use Rattle.spv_parse.specs.Scene.{context, insts_of, staying, Stands}
use Rattle.spv_parse.specs.Ways.{opens_loop}
use Rattle.spv_parse.specs.Ends.{Ends, GoesOn, IsPlain, Reads, SpellsLines, SpellsState}
use Rattle.spv_parse.proofs.Spelled.{IsStep, steps_spell}

-- ---- returns

pub returns_here : (s : Scene) (l : ℕ) (old new : List Item) → new ≡ old → Ends (SpellsLines s l (close_lines close.Return)) old (items_then new (end_body end.Return))
returns_here s l old new same = record { body = end_body end.Return; spells = finishes refl; same = ap (λ z. items_then z (end_body end.Return)) same }

pub returns_value : (s : Scene) (l value : ℕ) (old new : List Item) → new ≡ old
    → Ends (SpellsLines s l (close_lines (close.ReturnValue value))) old (items_then new (end_body (end.ReturnValue value)))
returns_value s l value old new same = record { body = end_body (end.ReturnValue value); spells = finishes refl; same = ap (λ z. items_then z (end_body (end.ReturnValue value))) same }

pub unreachable_here : (s : Scene) (l : ℕ) (old new : List Item) → new ≡ old → Ends (SpellsLines s l (close_lines close.Unreachable)) old (items_then new (end_body end.Unreachable))
unreachable_here s l old new same = record { body = end_body end.Unreachable; spells = finishes refl; same = ap (λ z. items_then z (end_body end.Unreachable)) same }

-- ---- behind instructions

plain_construct : (c : Close) → is_loop (close_construct c) ≡ false → IsPlain c
plain_construct close.Return e = tt
plain_construct (close.ReturnValue value) e = tt
plain_construct close.Unreachable e = tt
plain_construct (close.Branch target) e = tt
plain_construct (close.Split fork) e = tt
plain_construct (close.Choice control merge fork) e = tt
plain_construct (close.Switch control merge selector default cases) e = tt
plain_construct (close.Loop control merge next end) e = absurd (cc (e))

pub plain_close : (s : Scene) (l : ℕ) (t : Text) (c : Close) → c ≡ t.close → IsText (insts_of s) l t → opens_loop s l ≡ false → IsPlain c
plain_close s l t c is read bare = plain_construct c (ap (λ z. is_loop (close_construct z)) is ∙ sym (ap is_loop read.opens) ∙ bare)

pub reads_close : (s : Scene) (l left : ℕ) (t : Text) (c : Close) → c ≡ t.close → IsText (insts_of s) l t → Stands s l left → Reads s l left c
reads_close s l left t c is read st = subst (Reads s l left) (sym is) (record { stands = st; opens = read.opens; ends = read.ends })

module _ (s : Scene) (l left : ℕ) (t : Text) (steps : List Inst) (c : Close) (is_steps : steps ≡ t.steps.items) (is : c ≡ t.close) (read : IsText (insts_of s) l t)
    (old mid new : List Item) (moved : (rest : Body) → items_then mid rest ≡ items_then old (steps_then steps rest)) where
  all_lines : step_words steps ++ close_lines c ≡ behind_phis (text (insts_of s) l)
  all_lines = ap (λ z. step_words z ++ close_lines c) is_steps ∙ ap (λ z. step_words t.steps.items ++ close_lines z) is ∙ sym read.lines

  are_steps : All IsStep (step_words steps)
  are_steps = subst (λ z. All IsStep (step_words z)) (sym is_steps) read.steps

  behind_steps : (whole : Body) → Ends (SpellsLines s l (close_lines c)) mid whole → Ends (SpellsState s (state.Behind l)) old whole
  behind_steps whole e = record {
    body = steps_then steps e.body;
    spells =
        subst (λ z. SpellsLines s l z (steps_then steps e.body)) all_lines
        (steps_spell (insts_of s) (staying s) l (context s l) (close_lines c) e.body steps are_steps e.spells);
    same = e.same ∙ moved e.body;
  }

  pub goes_behind : (o : Onward) → GoesOn s (SpellsLines s l (close_lines c)) left mid new o → GoesOn s (SpellsState s (state.Behind l)) left old new o
  goes_behind (onward.To next) leads = record { some = leads.some; stands = leads.stands; spells = λ rest spells. behind_steps (items_then new rest) (leads.spells rest spells) }
  goes_behind (onward.End end) ends = behind_steps _ ends
