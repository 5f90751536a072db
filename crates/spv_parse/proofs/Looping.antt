-- Loops, and the arms of blocks.
use Rattle.std.proofs.Common.{◌≡◌, ℕ, false, List, [], ◌∷◌, ◌++◌, Some, All, sym, ap, subst, ◌∙◌}
use Rattle.spv_module.specs.declared.inst.Inst.{Inst}
use Rattle.spv_blocks.specs.Blocks.{ALoop, construct, merge_of, next_of}
use Rattle.spv_walk.specs.Contexts.{InBody, InNext, behind, next_context}
use Rattle.spv_bodies.specs.Bodies as plain
use Rattle.spv_bodies.specs.Bodies.{Body, Entry, Loops, Splits, Leaves}
use Rattle.spv_bodies.specs.Listing.{branch_line, loop_line}
use Rattle.spv_spelling.specs.Spelling.{SpellsArm, SpellsExit, SpellsHead, SpellsLoop, SpellsPart, goes, parted, parts, out}
use Rattle.spv_spelling.specs.Text.{Take, behind_phis, copies, front_of as front_in_text, phis, text}
use Rattle.spv_tree.specs.declared.body.Arm.{Arm}
use Rattle.spv_tree.specs.declared.body.Arm as arm
use Rattle.spv_tree.specs.declared.body.Block.{Block}
use Rattle.spv_tree.specs.declared.body.Entry.{Entry as DeclaredEntry}
use Rattle.spv_tree.specs.declared.body.Entry.TheVariants as entry
use Rattle.spv_tree.specs.declared.body.Exit.{Exit}
use Rattle.spv_tree.specs.declared.body.Item.{Item}
use Rattle.spv_tree.specs.declared.body.Item as item
use Rattle.spv_tree.specs.declared.body.Leaving.{Leaving}
use Rattle.spv_tree.specs.declared.body.Loop.{Loop}
use Rattle.spv_tree.specs.declared.body.Opening.{Opening}
use Rattle.spv_tree.specs.declared.body.Opening as opening
use Rattle.spv_tree.specs.declared.body.Sequence.{Sequence}
use Rattle.spv_tree.specs.Tree.{arm_body, entry_of, exit_of, front_of, item_then, items_then, opening_body, sequence_body, steps_then}
use Rattle.spv_tree.proofs.Equations.{arm_block, arm_exit, opening_branch, opening_split, then_loop, then_push}
use Rattle.spv_sources.specs.declared.close.Close.TheVariants as close
use Rattle.spv_sources.specs.declared.close.Fork.{Fork}
use Rattle.spv_sources.specs.declared.close.LoopEnd.{LoopEnd}
use Rattle.spv_sources.specs.declared.close.LoopEnd.TheVariants as loop_end
use Rattle.spv_sources.specs.declared.close.Text.{Text}
use Rattle.spv_sources.specs.Close.{IsText, close_construct, close_lines, fork_line, step_words}
use Rattle.spv_parse.specs.declared.scene.Scene.{Scene}
use Rattle.spv_parse.specs.declared.state.State.{State}
use Rattle.spv_parse.specs.declared.state.State.TheVariants as state
use Rattle.spv_parse.specs.declared.state.Parting.{Parting}
use Rattle.spv_parse.specs.Scene.{code_of, context, insts_of, staying, toward, IsNext, Stands}
use Rattle.spv_parse.specs.Ways.{IsEntered, IsExit, IsPart, IsParting, opens_loop}
use Rattle.spv_parse.specs.Ends.{BeginsBlock, Ends, Leads, SpellsArmTo, SpellsState}
use Rattle.spv_parse.specs.Loops.{IsTurn, OpensLoop}
use Rattle.spv_parse.proofs.Choosing.{part_next}
use Rattle.spv_parse.proofs.Spelled.{IsStep, part_spells, steps_head, way_block, way_exit, way_loop}
use Rattle.spv_parse.proofs.Standing.{continued, merged}

-- ---- how a loop opens

module _ (s : Scene) (h left control merge next : ℕ) (opens : construct (code_of s) h ≡ Some (ALoop merge next)) where
  in_body : (t : ℕ) → toward s h t ≡ InBody h merge next ∷ context s h
  in_body t = ap (λ k. behind k h t (context s h)) opens

  pub opens_branch : (t : ℕ) (a : Arm) → SpellsArmTo s h t (arm_body a) → OpensLoop s h control merge next (loop_end.Branch t) (opening.Branch a)
  opens_branch t a spells =
      subst (SpellsHead (insts_of s) (staying s) h (InBody h merge next ∷ context s h) (loop_line merge next control) (loop_line merge next control ∷ branch_line t ∷ []))
      (sym (opening_branch a)) (goes (subst (λ c. SpellsArm (insts_of s) (staying s) h c t (arm_body a)) (in_body t) spells))

  pub opens_split : (fork : Fork) (p : Parting) (lv : Leaving) → IsParting s h fork p → lv.condition ≡ fork.condition → lv.on ≡ p.on → lv.exit ≡ p.exit
      → SpellsArmTo s h p.other (arm_body lv.arm) → OpensLoop s h control merge next (loop_end.Split fork) (opening.Split lv)
  opens_split fork p lv parting condition on exit spells =
      let d = InBody h merge next ∷ context s h in
      let line = loop_line merge next control in
      let body = opening_split lv
      ∙ ap (λ z. Splits z lv.on (exit_of lv.exit) (arm_body lv.arm)) condition
      ∙ ap (λ z. Splits fork.condition z (exit_of lv.exit) (arm_body lv.arm)) on
      ∙ ap (λ z. Splits fork.condition p.on (exit_of z) (arm_body lv.arm)) exit in
      subst (SpellsHead (insts_of s) (staying s) h d line (line ∷ fork_line fork ∷ [])) (sym body)
      (subst (λ z. SpellsHead (insts_of s) (staying s) h d line (line ∷ z ∷ []) (Splits fork.condition p.on (exit_of p.exit) (arm_body lv.arm))) (sym parting.line)
      (parted (subst (λ c. SpellsExit (insts_of s) (staying s) h c (exit_of p.exit)) (in_body parting.target) parting.exits.spells)
      (subst (λ c. SpellsArm (insts_of s) (staying s) h c p.other (arm_body lv.arm)) (in_body p.other) spells)))

-- ---- loops

pub loop_opens : (s : Scene) (h : ℕ) (t : Text) (control merge next : ℕ) (end : LoopEnd) → t.close ≡ close.Loop control merge next end → IsText (insts_of s) h t
    → construct (code_of s) h ≡ Some (ALoop merge next)
loop_opens s h t control merge next end is read = read.opens ∙ ap close_construct is

module _ (s : Scene) (h left control merge next : ℕ) (end : LoopEnd) (st : Stands s h left) (opens : construct (code_of s) h ≡ Some (ALoop merge next)) where
  pub turn_merge : IsNext s left merge (context s h)
  turn_merge = merged s h left st merge (ap merge_of opens)

  pub turn_next : IsNext s left next (InNext h merge ∷ context s h)
  turn_next = subst (IsNext s left next) (ap (λ k. next_context k h (context s h)) opens) (continued s h left st next (ap next_of opens))

  pub turn_spells : (e : DeclaredEntry) (t : Loop) (steps : List Inst) (part : State) → behind_phis (text (insts_of s) h) ≡ step_words steps ++ close_lines (close.Loop control merge next end)
      → All IsStep (step_words steps) → t.entry ≡ e → t.control ≡ control → t.steps ≡ steps
      → front_of t.header ≡ front_in_text (insts_of s) (staying s) h → front_of t.next ≡ front_in_text (insts_of s) (staying s) next
      → front_of t.merge ≡ front_in_text (insts_of s) (staying s) merge → OpensLoop s h control merge next end t.opening
      → IsPart (code_of s) next part → Ends (SpellsState s part) [] (sequence_body t.continuing) → IsTurn s h e left t
  turn_spells e t steps part lines each is_entry is_control are_steps header front_next front_merge head is_part continuing =
      let label : t.merge.label ≡ merge = ap (λ (f : plain.Front). f.label) front_merge in
      let d = InBody h merge next ∷ context s h in
      let inner = steps_then steps (opening_body t.opening) in
      let whole_head =
      subst (λ z. SpellsHead (insts_of s) (staying s) h d (loop_line merge next control) z inner) (sym lines)
      (steps_head (insts_of s) (staying s) h d (loop_line merge next control) (close_lines (close.Loop control merge next end)) (opening_body t.opening) steps each head) in
      let part_body =
      part_spells s next (InNext h merge ∷ context s h) part (sequence_body t.continuing) is_part turn_next.same
      (subst (SpellsState s part) (sym continuing.same) continuing.spells) in
      record {
        next = subst (λ m. IsNext s left m (context s h)) (sym label) turn_merge;
        spells = λ rest spells.
            let f0 = front_in_text (insts_of s) (staying s) h in
            let f1 = front_in_text (insts_of s) (staying s) next in
            let f2 = front_in_text (insts_of s) (staying s) merge in
            let same = then_loop t rest
            ∙ ap (λ z. Loops (entry_of z) (front_of t.header) t.control (steps_then t.steps (opening_body t.opening)) (front_of t.next) (sequence_body t.continuing) (front_of t.merge) rest) is_entry
            ∙ ap (λ z. Loops (entry_of e) z t.control (steps_then t.steps (opening_body t.opening)) (front_of t.next) (sequence_body t.continuing) (front_of t.merge) rest) header
            ∙ ap (λ z. Loops (entry_of e) f0 z (steps_then t.steps (opening_body t.opening)) (front_of t.next) (sequence_body t.continuing) (front_of t.merge) rest) is_control
            ∙ ap (λ z. Loops (entry_of e) f0 control (steps_then z (opening_body t.opening)) (front_of t.next) (sequence_body t.continuing) (front_of t.merge) rest) are_steps
            ∙ ap (λ z. Loops (entry_of e) f0 control inner z (sequence_body t.continuing) (front_of t.merge) rest) front_next
            ∙ ap (λ z. Loops (entry_of e) f0 control inner f1 (sequence_body t.continuing) z rest) front_merge in
            subst (SpellsLoop (insts_of s) (staying s) h (context s h) (entry_of e)) (sym same)
            (parts opens whole_head part_body (subst (λ m. SpellsPart (insts_of s) (staying s) m (context s h) rest) label spells));
      }

-- a loop as an item
pub loop_leads : (s : Scene) (h left : ℕ) (e : DeclaredEntry) (t : Loop) (after : State) (old new : List Item) → IsTurn s h e left t
    → IsPart (code_of s) t.merge.label after → new ≡ old ++ item.Loop t ∷ [] → Leads s (SpellsState s (state.Loop h e)) left old new after
loop_leads s h left e t after old new turn part pushed = record {
  some = turn.next.some;
  stands = part_next s left t.merge.label (context s h) after part turn.next;
  spells = λ rest spells. record {
    body = item_then (item.Loop t) rest;
    spells = turn.spells rest (part_spells s t.merge.label (context s h) after rest part turn.next.same spells);
    same = ap (λ z. items_then z rest) pushed ∙ then_push old (item.Loop t) rest;
  };
}

-- and as an arm
pub loop_arm : (s : Scene) (h left : ℕ) (e : DeclaredEntry) (t : Loop) (after : State) (rest : Sequence) (a : Arm) → IsTurn s h e left t
    → IsPart (code_of s) t.merge.label after → Ends (SpellsState s after) [] (sequence_body rest) → arm_body a ≡ item_then (item.Loop t) (sequence_body rest)
    → SpellsState s (state.Loop h e) (arm_body a)
loop_arm s h left e t after rest a turn part ends is =
    subst (SpellsLoop (insts_of s) (staying s) h (context s h) (entry_of e)) (sym is)
    (turn.spells (sequence_body rest) (part_spells s t.merge.label (context s h) after (sequence_body rest) part turn.next.same
    (subst (SpellsState s after) (sym ends.same) ends.spells)))

-- ---- arms

pub block_begins : (s : Scene) (l : ℕ) (b : Block) (items : List Item) → b.label ≡ l → ((rest : Body) → items_then items rest ≡ copies (phis (text (insts_of s) l)) rest)
    → Ends (SpellsState s (state.Behind l)) items (sequence_body b.body) → BeginsBlock s l (arm_body (arm.Block b))
block_begins s l b items label copied ends = record {
  body = ends.body;
  spells = ends.spells;
  same = arm_block b ∙ ap (λ z. plain.Enters z (sequence_body b.body)) label ∙ ap (plain.Enters l) (ends.same ∙ copied ends.body);
}

pub arm_exits : (s : Scene) (l t : ℕ) (exit : Exit) → IsExit s l t exit → SpellsArmTo s l t (arm_body (arm.Exit exit))
arm_exits s l t exit e = subst (SpellsArm (insts_of s) (staying s) l (toward s l t) t) (sym (arm_exit exit)) (out (way_exit s l t exit e))

pub arm_loops : (s : Scene) (l left t : ℕ) (values : List ℕ) (body : Body) → IsEntered s l left t → Take l (phis (text (insts_of s) t)) values
    → SpellsState s (state.Loop t (entry.Branch values)) body → SpellsArmTo s l t body
arm_loops s l left t values body e takes spells = out (way_loop s l left t values body e takes spells)

pub arm_enters : (s : Scene) (l left t : ℕ) (body : Body) → IsEntered s l left t → opens_loop s t ≡ false → BeginsBlock s t body → SpellsArmTo s l t body
arm_enters s l left t body e bare b =
    subst (SpellsArm (insts_of s) (staying s) l (toward s l t) t) (sym b.same) (way_block s l left t b.body e bare b.spells)
