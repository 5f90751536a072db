-- The OpPhi of a block that is entered: each takes its one value from the block that enters it.
use Rattle.std.proofs.Common.{◌≡◌, ℕ, false, inl, List, [], ◌∷◌, map, filter, drop, slice_index, refl, sym, ap, subst, ◌∙◌, arith}
use Rattle.std.specs.List.{position, slice_get, zip}
use Rattle.std.specs.Option.{option_and_then, option_map_or}
use Rattle.spv_opcodes.specs.declared.op.TheConstants as op
use Rattle.spv_grammar.specs.declared.kind.Role.TheVariants.{Opcode}
use Rattle.spv_grammar.specs.Operands.{behind, body_roles, roles_of}
use Rattle.spv_grammar.specs.Roles.{is_defined_id}
use Rattle.spv_grammar.specs.Table.{row_of}
use Rattle.spv_module.specs.Instruction.{Instruction, parts}
use Rattle.spv_ids.specs.Ids.{is_needed}
use Rattle.spv_blocks.specs.Blocks.{Code, seconds}
use Rattle.spv_blocks.specs.Cutting.{blocks_of, body_of, pairs}
use Rattle.spv_walk.specs.Contexts.{Context}
use Rattle.spv_walk.specs.Phis.{phi_faults}
use Rattle.spv_walk.specs.Walk.{Enters, Walk}
use Rattle.spv_walk.proofs.Unique.{goes_branches}
use Rattle.spv_bodies.specs.Listing.{instruction}
use Rattle.spv_normal.specs.Lines.{behind_label}
use Rattle.spv_normal.specs.Order.{is_front}
use Rattle.spv_normal_trees.proofs.Arranging.{walked_label}
use Rattle.spv_normal_trees.proofs.Texts.{opcode_spelled}
use Rattle.spv_spelling.specs.Clean.{IsClean, no_pointers}
use Rattle.spv_spelling.specs.Text.{copy_of, phi_pairs, phis, text}
use Rattle.spv_spelling.specs.Whole.{IsAdmitted}
use Rattle.spv_trees.specs.Standing.{OneOf}
use Rattle.spv_structured.proofs.Lists.{each_at}
use Rattle.spv_standing.proofs.Fits.{NamesOnce, one_parent, phis_fit}
use Rattle.spv_standing.proofs.Fronts.{word_3}
use Rattle.spv_standing.proofs.Lines.{split_at}
use Rattle.spv_standing.proofs.Rounds.{branch_block, one_predecessor, settles}
use Rattle.spv_fine.specs.Fine.{defined_in, used_in}

no_seconds : (ps : List (ℕ × ℕ)) → seconds ps ≡ [] → ps ≡ []
no_seconds [] e = refl
no_seconds (p ∷ ps) e = absurd (cc e)

one_pair : (l : ℕ) (ws : List ℕ) → seconds (pairs ws) ≡ l ∷ [] → pairs ws ≡ (slice_index ws 0, l) ∷ []
one_pair l [] e = absurd (cc e)
one_pair l (a ∷ []) e = absurd (cc e)
one_pair l (a ∷ b ∷ ws) e =
    let same : b ≡ l = cc e in
    let none : seconds (pairs ws) ≡ [] = cc e in
    ap (λ ps. (a, b) ∷ ps) (no_seconds (pairs ws) none) ∙ ap (λ x. (a, x) ∷ []) same

module _ (insts : List Instruction) (admitted : IsAdmitted insts) where
  abbrev f : Code
  f = blocks_of insts

  clean : IsClean no_pointers f
  clean = admitted.clean

  -- the value of an OpPhi stands beside the block that enters
  pub one_value : (l t : ℕ) (c : Context) → Walk f t c → Enters f l t → is_front f t ≡ false → (words : List ℕ) → OneOf words (phis (text insts t))
      → OneOf (slice_index words 3, l) (phi_pairs words)
  one_value l t c w e no_front words o =
      let s = split_at insts t (walked_label no_pointers f clean t c w) in
      let faults : phi_faults no_pointers f t (body_of (behind_label insts t)) ≡ [] =
      (settles f clean t c w (record { block_of = _; found = s.first })).phis in
      let go = goes_branches f l t e.free in
      let b = branch_block f l t go in
      let one : seconds (phi_pairs words) ≡ l ∷ [] =
      one_parent f l t b.block_of b.found go (λ q. one_predecessor f clean l t q e no_front) (seconds (phi_pairs words))
      (each_at (NamesOnce f t) (phis (text insts t)) (phis_fit no_pointers f t (behind_label insts t) faults) words o) in
      subst (OneOf (slice_index words 3, l)) (sym (one_pair l (drop 3 words) one)) (inl (ap (λ v. (v, l)) (sym (word_3 words))))

-- ---- what a copy uses and defines

copied_roles : (t r v : ℕ) → roles_of (instruction op.COPY_OBJECT (t ∷ r ∷ v ∷ [])) ≡ behind (Opcode ∷ []) (body_roles op.COPY_OBJECT (t ∷ r ∷ v ∷ []))
unfolding roles_of
copied_roles t r v = ap (λ n. behind (Opcode ∷ []) (body_roles n (t ∷ r ∷ v ∷ []))) (opcode_spelled op.COPY_OBJECT (t ∷ r ∷ v ∷ []) (omega arith))

pub used_copy : (words : List ℕ) → used_in (copy_of words) ≡ slice_index words 1 ∷ slice_index words 3 ∷ []
unfolding row_of
used_copy words =
    ap (λ rs. map (λ part. part.1) (filter (λ part. is_needed part.0) (zip (parts rs) (copy_of words))))
    (copied_roles (slice_index words 1) (slice_index words 2) (slice_index words 3))

pub defined_copy : (words : List ℕ) → defined_in (copy_of words) ≡ slice_index words 2 ∷ []
unfolding row_of
defined_copy words =
    ap (λ rs. option_map_or (λ id. id ∷ [])
    (option_and_then (slice_get (copy_of words)) (position
    is_defined_id (parts rs))) [])
    (copied_roles (slice_index words 1) (slice_index words 2) (slice_index words 3))
