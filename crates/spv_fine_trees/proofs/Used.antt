-- What the line of an instruction uses, the instruction uses: branch weights are no ids.
use Rattle.std.proofs.Common.{◌≡◌, ℕ, Bool, true, false, cond, ◌==◌, List, [], ◌∷◌, drop, filter, map, take, Some, refl, sym, ap, ap₂, subst, ◌∙◌}
use Rattle.std.specs.List.{zip}
use Rattle.spv_opcodes.specs.declared.op.TheConstants as op
use Rattle.spv_grammar.specs.declared.kind.Kind.TheVariants.{Id, Weights}
use Rattle.spv_grammar.specs.declared.kind.Role.{Role}
use Rattle.spv_grammar.specs.declared.kind.Role.TheVariants.{Opcode, UsedId}
use Rattle.spv_grammar.specs.Table.{in_section, row_of}
use Rattle.spv_module.specs.Instruction.{Instruction, IsInstruction, opcode, roles}
use Rattle.spv_ids.specs.Ids.{is_needed, used_ids}
use Rattle.spv_declarations.proofs.Parts.{one-front, row-words}
use Rattle.spv_walk.proofs.Unique.{equal_true}
use Rattle.spv_bodies.specs.Listing.{instruction}
use Rattle.spv_normal.specs.Lines.{line}
use Rattle.spv_trees.specs.Standing.{OneOf}
use Rattle.spv_trees.proofs.Members.{one_left}
use Rattle.spv_fine.specs.Fine.{used_in}
use Rattle.spv_fine.proofs.Uses.{used_split}

abbrev picked : List Role → List ℕ → List ℕ
picked rs ws = map (λ part. part.1) (filter (λ part. is_needed part.0) (zip rs ws))

branch_row : row_of op.BRANCH_CONDITIONAL ≡ Some (in_section 11 (Id ∷ Id ∷ Id ∷ Weights ∷ []))
unfolding row_of
branch_row = refl

-- a conditional branch with its weights
branch_used : (i : Instruction) → IsInstruction i.words (roles i) → opcode i ≡ op.BRANCH_CONDITIONAL → (id : ℕ)
    → OneOf id (used_in (instruction op.BRANCH_CONDITIONAL (take 3 (drop 1 i.words)))) → OneOf id (used_ids i)
branch_used i whole e id o =
    let r = row-words op.BRANCH_CONDITIONAL (in_section 11 (Id ∷ Id ∷ Id ∷ Weights ∷ [])) i.words (roles i) branch_row refl e whole.parted in
    let a = one-front UsedId (Id ∷ Id ∷ Weights ∷ []) r.rest r.others r.fit in
    let b = one-front UsedId (Id ∷ Weights ∷ []) a.rest a.others a.fit in
    let c = one-front UsedId (Weights ∷ []) b.rest b.others b.fit in
    let words : i.words ≡ r.word ∷ a.word ∷ b.word ∷ c.word ∷ c.rest =
    r.words_are ∙ ap (λ z. r.word ∷ z) (a.words_are ∙ ap (λ z. a.word ∷ z) (b.words_are ∙ ap (λ z. b.word ∷ z) c.words_are)) in
    let parts : roles i ≡ Opcode ∷ UsedId ∷ UsedId ∷ UsedId ∷ c.others =
    r.parts_are ∙ ap (λ z. Opcode ∷ z) (a.parts_are ∙ ap (λ z. UsedId ∷ z) (b.parts_are ∙ ap (λ z. UsedId ∷ z) c.parts_are)) in
    let all : used_ids i ≡ a.word ∷ b.word ∷ c.word ∷ picked c.others c.rest = ap₂ (λ x y. picked x y) parts words in
    subst (OneOf id) (sym all)
    (one_left id (a.word ∷ b.word ∷ c.word ∷ []) (picked c.others c.rest)
    (subst (OneOf id) (ap (λ z. used_in (instruction op.BRANCH_CONDITIONAL (take 3 (drop 1 z)))) words ∙ used_split a.word true b.word c.word) o))

pub line_used : (i : Instruction) → IsInstruction i.words (roles i) → (id : ℕ) → OneOf id (used_in (line i)) → OneOf id (used_ids i)
line_used i whole id o = by (opcode i == op.BRANCH_CONDITIONAL) refl o where
  by : (b : Bool) → (opcode i == op.BRANCH_CONDITIONAL) ≡ b
      → OneOf id (used_in (cond b (instruction op.BRANCH_CONDITIONAL (take 3 (drop 1 i.words))) i.words)) → OneOf id (used_ids i)
  by true e h = branch_used i whole (equal_true (opcode i) op.BRANCH_CONDITIONAL e) id h
  by false e h = h
