-- What the branches of a block spell.
use Rattle.std.proofs.Common.{◌≡◌, ℕ, true, false, not, ◌||◌, List, [], ◌∷◌, ◌++◌, None, All, sym, ap, subst, ◌∙◌}
use Rattle.std.proofs.lemmas.List.Elements.{All-head, All-tail}
use Rattle.spv_module.specs.Instruction.{Instruction}
use Rattle.spv_module.specs.declared.inst.Inst.{Inst}
use Rattle.spv_blocks.specs.Blocks.{construct, names}
use Rattle.spv_walk.specs.Contexts.{Context, behind}
use Rattle.spv_walk.proofs.Unique.{goes_unnamed, true_equal}
use Rattle.spv_bodies.specs.Bodies.{Body, ByBranch, InPlace, Leaves, Enters}
use Rattle.spv_normal.specs.Order.{is_front, is_loop}
use Rattle.spv_spelling.specs.Spelling.{Spells, SpellsBranch, SpellsArm, SpellsLoop, SpellsPart, SpellsHead, steps, leaves, comes, enters, plain, placed, begins}
use Rattle.spv_spelling.specs.Text.{Take, behind_phis, copies, phis, text}
use Rattle.spv_tree.specs.declared.body.Entry.TheVariants as entry
use Rattle.spv_tree.specs.declared.body.Exit.{Exit}
use Rattle.spv_tree.specs.Sound.{is_step, opcode_in}
use Rattle.spv_tree.specs.Tree.{exit_of, steps_then}
use Rattle.spv_sources.specs.Close.{step_words}
use Rattle.spv_parse.specs.declared.scene.Scene.{Scene}
use Rattle.spv_parse.specs.declared.state.State.{State}
use Rattle.spv_parse.specs.declared.state.State.TheVariants as state
use Rattle.spv_parse.specs.Scene.{code_of, context, insts_of, staying, toward, Stands}
use Rattle.spv_parse.specs.Ways.{IsEntered, IsExit, IsPart, opens_loop}
use Rattle.spv_parse.specs.Ends.{SpellsState, StandsState}

-- a block that is entered is no front where it is no header of a loop
pub entered_front : (s : Scene) (l left t : ℕ) → IsEntered s l left t → opens_loop s t ≡ false → is_front (code_of s) t ≡ false
entered_front s l left t e bare =
    ap (λ x. not x || is_loop (construct (code_of s) t)) (true_equal (names (code_of s) t) 0 (goes_unnamed (code_of s) l t e.goes.enters.free)) ∙ bare

-- ---- ways

pub way_exit : (s : Scene) (l t : ℕ) (exit : Exit) → IsExit s l t exit → SpellsBranch (insts_of s) (staying s) l (toward s l t) t (Leaves (exit_of exit))
way_exit s l t exit e = subst (λ k. SpellsBranch (insts_of s) (staying s) l (toward s l t) k (Leaves (exit_of exit))) e.same (leaves e.spells)

pub way_loop : (s : Scene) (l left t : ℕ) (values : List ℕ) (body : Body) → IsEntered s l left t → Take l (phis (text (insts_of s) t)) values
    → SpellsState s (state.Loop t (entry.Branch values)) body → SpellsBranch (insts_of s) (staying s) l (toward s l t) t body
way_loop s l left t values body e takes spells =
    comes e.goes takes (subst (λ c. SpellsLoop (insts_of s) (staying s) t c (ByBranch values) body) e.next.same spells)

pub way_block : (s : Scene) (l left t : ℕ) (body : Body) → IsEntered s l left t → opens_loop s t ≡ false → SpellsState s (state.Behind t) body
    → SpellsArm (insts_of s) (staying s) l (toward s l t) t (Enters t (copies (phis (text (insts_of s) t)) body))
way_block s l left t body e bare spells =
    enters e.goes (entered_front s l left t e bare) (subst (λ c. Spells (insts_of s) (staying s) t c (behind_phis (text (insts_of s) t)) body) e.next.same spells)

-- without a merge instruction the context stays
pub toward_bare : (s : Scene) (l t : ℕ) → construct (code_of s) l ≡ None → toward s l t ≡ context s l
toward_bare s l t e = ap (λ k. behind k l t (context s l)) e

-- ---- parts

pub part_stands : (s : Scene) (m n : ℕ) (st : State) → IsPart (code_of s) m st → Stands s m n → StandsState s st n
part_stands s m n (state.Behind l) p h = subst (λ k. Stands s k n × (opens_loop s k ≡ false)) (sym p.0) (h, p.1)
part_stands s m n (state.Loop l e) p h = subst (λ k. Stands s k n × (opens_loop s k ≡ true)) (sym p.0) (h, p.2)

pub part_spells : (s : Scene) (m : ℕ) (c : Context) (st : State) (body : Body) → IsPart (code_of s) m st → context s m ≡ c → SpellsState s st body
    → SpellsPart (insts_of s) (staying s) m c body
part_spells s m c (state.Behind l) body p same spells =
    plain p.1 (subst (λ d. Spells (insts_of s) (staying s) m d (behind_phis (text (insts_of s) m)) body) same
    (subst (λ k. SpellsState s (state.Behind k) body) p.0 spells))
part_spells s m c (state.Loop l e) body p same spells =
    placed (subst (λ d. SpellsLoop (insts_of s) (staying s) m d InPlace body) same
    (subst (λ x. SpellsState s (state.Loop m x) body) p.1 (subst (λ k. SpellsState s (state.Loop k e) body) p.0 spells)))

-- ---- steps

abbrev pub IsStep : List ℕ → Type 0
IsStep words = is_step (opcode_in words) ≡ true

pub steps_spell : (insts : List Instruction) (stays : ℕ → ℕ) (l : ℕ) (c : Context) (rest : List (List ℕ)) (body : Body) (list : List Inst)
    → All IsStep (step_words list) → Spells insts stays l c rest body
    → Spells insts stays l c (step_words list ++ rest) (steps_then list body)
steps_spell insts stays l c rest body [] each spells = spells
steps_spell insts stays l c rest body (inst ∷ list) each spells =
    steps (All-head IsStep inst.words (step_words list) each)
    (steps_spell insts stays l c rest body list (All-tail IsStep inst.words (step_words list) each) spells)

pub steps_head : (insts : List Instruction) (stays : ℕ → ℕ) (h : ℕ) (d : Context) (opening : List ℕ) (rest : List (List ℕ)) (body : Body) (list : List Inst)
    → All IsStep (step_words list) → SpellsHead insts stays h d opening rest body
    → SpellsHead insts stays h d opening (step_words list ++ rest) (steps_then list body)
steps_head insts stays h d opening rest body [] each spells = spells
steps_head insts stays h d opening rest body (inst ∷ list) each spells =
    begins (All-head IsStep inst.words (step_words list) each)
    (steps_head insts stays h d opening rest body list (All-tail IsStep inst.words (step_words list) each) spells)
