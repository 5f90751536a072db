-- How the blocks of a function spell its tree: each constructor is one way in which the lines of a block go on.
use Rattle.std.specs.Prelude.{◌≡◌, ℕ, Bool, true, false, List, [], ◌∷◌, Some, None}
use Rattle.spv_opcodes.specs.declared.op.TheConstants as op
use Rattle.spv_module.specs.Instruction.{Instruction}
use Rattle.spv_blocks.specs.Blocks.{Code, ASelection, ASwitch, ALoop, construct, seconds, is_label}
use Rattle.spv_blocks.specs.Cutting.{blocks_of}
use Rattle.spv_walk.specs.Contexts.{Context, InSelection, InArm, InBody, InNext, is_exit}
use Rattle.spv_walk.specs.Walk.{Enters, end_of}
use Rattle.spv_bodies.specs.Bodies.{Exit, Entry, ByBranch, InPlace, Body, Leaves, Finishes, Step, Enters as EntersBlock, Splits, Selects, Switches, Loops, Arms, Last, Also, Function}
use Rattle.spv_bodies.specs.Listing.{instruction, branch_line, split_line, selection_line, loop_line, pair_words}
use Rattle.spv_normal.specs.Lines.{before_labels}
use Rattle.spv_normal.specs.Order.{is_loop, is_front, first_label, joins}
use Rattle.spv_tree.specs.Sound.{is_step, is_end, opcode_in}
use Rattle.spv_tree.specs.Tree.{words_of}
use Rattle.spv_spelling.specs.Text.{text, phis, behind_phis, Take, front_of, copies, firsts}

-- the instructions of the function without line marks, and the label that stays for each block
module _ (insts : List Instruction) (stays : ℕ → ℕ) where
  abbrev pub code : Code
  code = blocks_of insts

  -- a branch of the block l in the context d that leaves a construct round it, with the values that the OpPhi of its target take from l
  pub record SpellsExit (l : ℕ) (d : Context) (exit : Exit) : Type 0 where
    pub leaves : is_exit d (end_of code l) exit.target ≡ true
    pub values : Take l (phis (text insts exit.target)) exit.values

  -- a branch of the block l in the context d enters t
  pub record Goes (l : ℕ) (d : Context) (t : ℕ) : Type 0 where
    pub enters : Enters code l t
    pub stays_in : is_exit d (end_of code l) t ≡ false

  mutual
    -- the block l in the context c goes on with these lines, up to the end of its part
    pub data Spells : (l : ℕ) (c : Context) → (rest : List (List ℕ)) → Body → Type 0 where
      steps : {l : ℕ} {c : Context} {words : List ℕ} {rest : List (List ℕ)} {body : Body} →
          is_step (opcode_in words) ≡ true → Spells l c rest body → Spells l c (words ∷ rest) (Step words body)
      finishes : {l : ℕ} {c : Context} {words : List ℕ} → is_end (opcode_in words) ≡ true → Spells l c (words ∷ []) (Finishes words)
      -- OpBranch without a merge instruction, to a block that is joined
      joined : {l t : ℕ} {c : Context} {body : Body} →
          construct code l ≡ None → Goes l c t → is_front code t ≡ false → Spells t c (behind_phis (text insts t)) body →
          Spells l c (branch_line t ∷ []) (copies (phis (text insts t)) body)
      -- or out of the part, or to a loop
      branches : {l t : ℕ} {c : Context} {body : Body} → construct code l ≡ None → SpellsBranch l c t body → Spells l c (branch_line t ∷ []) body
      -- OpBranchConditional without a merge instruction: out of the part and on
      splits : {l condition other : ℕ} {on : Bool} {c : Context} {exit : Exit} {body : Body} →
          construct code l ≡ None → SpellsExit l c exit → SpellsArm l c other body →
          Spells l c (split_line condition on exit.target other ∷ []) (Splits condition on exit body)
      selects : {l merge control condition yes no : ℕ} {c : Context} {first second rest : Body} →
          construct code l ≡ Some (ASelection merge) → SpellsArm l (InSelection merge ∷ c) yes first → SpellsArm l (InSelection merge ∷ c) no second →
          SpellsPart merge c rest →
          Spells l c (selection_line merge control ∷ split_line condition true yes no ∷ []) (Selects control condition first second (front_of insts stays merge) rest)
      -- an arm for each label, where it is named first
      switches : {l merge control selector default : ℕ} {cases : List (ℕ × ℕ)} {c : Context} {arms : Arms} {rest : Body} →
          construct code l ≡ Some (ASwitch merge) → SpellsArms l merge c (firsts (default ∷ seconds cases)) arms → SpellsPart merge c rest →
          Spells l c (selection_line merge control ∷ instruction op.SWITCH (selector ∷ default ∷ pair_words cases) ∷ [])
          (Switches control selector cases arms (front_of insts stays merge) rest)

    -- a branch of the block l in the context d to t leads out of the part or to a loop
    pub data SpellsBranch : (l : ℕ) (d : Context) (t : ℕ) → Body → Type 0 where
      leaves : {l : ℕ} {d : Context} {exit : Exit} → SpellsExit l d exit → SpellsBranch l d exit.target (Leaves exit)
      comes : {l h : ℕ} {d : Context} {values : List ℕ} {body : Body} →
          Goes l d h → Take l (phis (text insts h)) values → SpellsLoop h d (ByBranch values) body → SpellsBranch l d h body

    -- or to a block that keeps its label
    pub data SpellsArm : (l : ℕ) (d : Context) (t : ℕ) → Body → Type 0 where
      out : {l t : ℕ} {d : Context} {body : Body} → SpellsBranch l d t body → SpellsArm l d t body
      enters : {l t : ℕ} {d : Context} {body : Body} →
          Goes l d t → is_front code t ≡ false → Spells t d (behind_phis (text insts t)) body →
          SpellsArm l d t (EntersBlock t (copies (phis (text insts t)) body))

    -- the arms of the switch l, in the context c, by their labels
    pub data SpellsArms : (l merge : ℕ) (c : Context) (labels : List ℕ) → Arms → Type 0 where
      last : {l merge t : ℕ} {c : Context} {arm : Body} → SpellsArm l (InArm l merge t ∷ c) t arm → SpellsArms l merge c (t ∷ []) (Last arm)
      also : {l merge t : ℕ} {c : Context} {labels : List ℕ} {arm : Body} {arms : Arms} →
          SpellsArm l (InArm l merge t ∷ c) t arm → SpellsArms l merge c labels arms → SpellsArms l merge c (t ∷ labels) (Also arm arms)

    -- what a merge block or continue target l begins in the context c
    pub data SpellsPart : (l : ℕ) (c : Context) → Body → Type 0 where
      plain : {l : ℕ} {c : Context} {body : Body} → is_loop (construct code l) ≡ false → Spells l c (behind_phis (text insts l)) body → SpellsPart l c body
      placed : {l : ℕ} {c : Context} {body : Body} → SpellsLoop l c InPlace body → SpellsPart l c body

    -- the loop with the header h, in the context c
    pub data SpellsLoop : (h : ℕ) (c : Context) → Entry → Body → Type 0 where
      parts : {h merge next control : ℕ} {c : Context} {entry : Entry} {inner continuing rest : Body} →
          construct code h ≡ Some (ALoop merge next) → SpellsHead h (InBody h merge next ∷ c) (loop_line merge next control) (behind_phis (text insts h)) inner →
          SpellsPart next (InNext h merge ∷ c) continuing → SpellsPart merge c rest →
          SpellsLoop h c entry (Loops entry (front_of insts stays h) control inner (front_of insts stays next) continuing (front_of insts stays merge) rest)

    -- the header h goes on with these lines, of which the last but one is its merge instruction, behind which the context is d
    pub data SpellsHead : (h : ℕ) (d : Context) (opening : List ℕ) (rest : List (List ℕ)) → Body → Type 0 where
      begins : {h : ℕ} {d : Context} {opening words : List ℕ} {rest : List (List ℕ)} {body : Body} →
          is_step (opcode_in words) ≡ true → SpellsHead h d opening rest body → SpellsHead h d opening (words ∷ rest) (Step words body)
      goes : {h t : ℕ} {d : Context} {opening : List ℕ} {body : Body} → SpellsArm h d t body → SpellsHead h d opening (opening ∷ branch_line t ∷ []) body
      parted : {h condition other : ℕ} {on : Bool} {d : Context} {opening : List ℕ} {exit : Exit} {body : Body} →
          SpellsExit h d exit → SpellsArm h d other body →
          SpellsHead h d opening (opening ∷ split_line condition on exit.target other ∷ []) (Splits condition on exit body)

  -- the label of the first of the blocks that are joined with a block stays for it
  pub record AreStaying : Type 0 where
    pub joined : (l t : ℕ) → is_label code l ≡ true → joins code l t ≡ true → stays t ≡ stays l
    pub own : (t : ℕ) → ((l : ℕ) → is_label code l ≡ true → joins code l t ≡ true → ⊥) → stays t ≡ t

  -- the function's instructions spell its tree
  pub record SpellsFunction (f : Function) : Type 0 where
    pub staying : AreStaying
    pub front : words_of (before_labels insts) ≡ f.function ∷ f.parameters
    pub label : f.label ≡ first_label code
    pub body : Spells f.label [] (text insts f.label) f.body
