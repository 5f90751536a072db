-- Lines in which values stand for others of their types: they fit in a module that is alike, as what was there fitted.
use Rattle.std.proofs.Common.{◌≡◌, ℕ, ◌≤◌, Bool, true, false, ◌==◌, List, [], ◌∷◌, ◌++◌, drop, None, refl, sym, ap, ap₂, ◌∙◌, subst, true≢false}
use Rattle.std.specs.Prelude.{slice_index}
use Rattle.std.specs.List.{All, AllByRecursion}
use Rattle.std.proofs.lemmas.List.Elements.{All-cons, All-nil}
use Rattle.spv_opcodes.specs.declared.op.TheConstants as op
use Rattle.spv_grammar.specs.Operands.{opcode_of}
use Rattle.spv_module.specs.First.{unless}
use Rattle.spv_module.specs.Instruction.{Instruction}
use Rattle.spv_ids.specs.Ids.{kind, used_ids}
use Rattle.spv_typing.specs.Kinds.{is_one_of}
use Rattle.spv_declarations.specs.Laws.{IsUnbroken}
use Rattle.spv_usage.specs.declared.stages.Stage.TheVariants.{Opening}
use Rattle.spv_alike.proofs.Lookups.{kind_by_words}
use Rattle.spv_alike_uses.specs.Alike.{AreAlikeBut, Stays, firm_kinds, is_firm}
use Rattle.spv_alike_uses.specs.Laws.{UsesWhatStays}
use Rattle.spv_alike_uses.proofs.Rules.{rules_stay}
use Rattle.spv_editing.specs.Editing.{Edit}
use Rattle.spv_editing.specs.Showing.{steps_of, uses_of}
use Rattle.spv_typed_trees.specs.Typed.{StepFits, as_instruction}
use Rattle.spv_typed_edits.specs.Edits.{HasItsType, SameTypes, StandFor, is_type, is_variable, type_kinds}
use Rattle.spv_replaced_values.specs.Replaced.{stands_in}
use Rattle.spv_replaced_values.proofs.Fixed.{Case, near_words, same_code}
use Rattle.spv_replaced_values.proofs.Rules.{fits_where_replaced}
use Rattle.spv_replaced_values.proofs.Standing.{fits_alike, near_length}
use Rattle.spv_built.specs.Built.{IsShort}
use Rattle.spv_built_edits.specs.Edits.{PutsLine}
use Rattle.spv_built_edits.specs.Laws.{FitsWhereValuesStand}
use Rattle.spv_built_edits.proofs.Dropping.{one_in_front}

-- nothing has gone
abbrev nothing : ℕ → Bool
nothing id = false

all_stay : (ids : List ℕ) → AllByRecursion (Stays nothing) ids
all_stay [] = tt
all_stay (id ∷ ids) = (refl, all_stay ids)

module _ (before after : List Instruction) (e : Edit) (unbroken : IsUnbroken before) (alike : AreAlikeBut nothing before after) where
  -- ---- a line that is put

  abbrev case_of : (words : List ℕ) → PutsLine before e words → Case
  case_of words p = record { insts = before; words = words; others = p.line; replaces = p.replaces }

  line_fits : (words : List ℕ) (p : PutsLine before e words) → StepFits before Opening words → StepFits after Opening p.line
  line_fits words p h =
      let f = fits_where_replaced before Opening words p.line unbroken p.replaces h in
      let i = as_instruction p.line in
      let uses : UsesWhatStays nothing i = record { whole = p.whole; used = all_stay (used_ids i); function = λ is. refl } in
      let s = rules_stay nothing before after unbroken alike i i uses refl in
      record {
        arithmetic = ap₂ (λ (a b : Bool). unless a 501 ++ unless b 502) s.arithmetic s.arithmetic_result ∙ f.arithmetic;
        composites = s.composites ∙ f.composites;
        storage = s.storage Opening ∙ f.storage;
        ordering = s.ordering ∙ f.ordering;
        result = s.results None ∙ f.result;
        call = s.call ∙ f.call;
      }

  stands : (words : List ℕ) → PutsLine before e words → StandFor before after words (e.steps words)
  stands words p =
      subst (StandFor before after words) (sym p.is) (record {
        fit = λ h. All-cons (λ line. StepFits after Opening line) p.line [] (line_fits words p h) (All-nil (λ line. StepFits after Opening line));
        variables =
            All-cons (λ line. is_variable line ≡ is_variable words) p.line [] (ap (λ (o : ℕ). o == op.VARIABLE) (same_code (case_of words p)))
            (All-nil (λ line. is_variable line ≡ is_variable words));
      })

  short : (words : List ℕ) → PutsLine before e words → IsShort words → AllByRecursion IsShort (e.steps words)
  short words p s =
      subst (AllByRecursion IsShort) (sym p.is)
      (subst (λ (n : ℕ). n ≤ 65535) (sym (near_length before words p.line (near_words (case_of words p)))) s, tt)

  -- ---- all of them; induction on the lists

  all_stand : (steps : List (List ℕ)) → AllByRecursion (PutsLine before e) steps → All (λ words. StandFor before after words (e.steps words)) steps
  all_stand [] h = All-nil (λ words. StandFor before after words (e.steps words))
  all_stand (words ∷ steps) h = All-cons (λ words. StandFor before after words (e.steps words)) words steps (stands words h.0) (all_stand steps h.1)

  all_short : (steps : List (List ℕ)) → AllByRecursion (PutsLine before e) steps
      → AllByRecursion (λ words. IsShort words → AllByRecursion IsShort (e.steps words)) steps
  all_short [] h = tt
  all_short (words ∷ steps) h = (short words h.0, all_short steps h.1)

  all_typed : (ids : List ℕ) → AllByRecursion (λ id. stands_in before id (e.uses id) ≡ true) ids → All (λ id. HasItsType before after id (e.uses id)) ids
  all_typed [] h = All-nil (λ id. HasItsType before after id (e.uses id))
  all_typed (id ∷ ids) h =
      All-cons (λ id. HasItsType before after id (e.uses id)) id ids
      (λ t k. alike.values (e.uses id) refl ∙ (fits_alike before id (e.uses id) h.0).type ∙ k) (all_typed ids h.1)

  -- ---- types

  same_types : SameTypes before after
  same_types = record { words = λ t h. alike.fixed t refl (one_in_front type_kinds (drop 9 firm_kinds) (kind before t) h); others = others }
    where
      none : (t : ℕ) (b : Bool) → is_type after t ≡ b → is_firm after t ≡ false → is_type after t ≡ false
      none t false k loose = k
      none t true k loose = absurd (true≢false (sym (one_in_front type_kinds (drop 9 firm_kinds) (kind after t) k) ∙ loose))

      by : (t : ℕ) (b : Bool) → is_firm before t ≡ b → is_type before t ≡ false → is_type after t ≡ false
      by t true firm h =
          ap (is_one_of type_kinds)
          (kind_by_words after t ∙ ap (λ (ws : List ℕ). opcode_of (slice_index ws 0)) (alike.fixed t refl firm) ∙ sym (kind_by_words before t))
          ∙ h
      by t false firm h = none t (is_type after t) refl (alike.loose t refl firm)

      others : (t : ℕ) → is_type before t ≡ false → is_type after t ≡ false
      others t h = by t (is_firm before t) refl h

pub fits_where_values_stand : FitsWhereValuesStand
fits_where_values_stand before after e f unbroken alike pointers keeps puts = record {
  steps = keeps;
  short = all_short before after e unbroken alike (steps_of f.body) puts.steps;
  pointers = pointers;
  round = record {
    types = same_types before after e unbroken alike;
    parameters = alike.parameters (slice_index f.function 2) refl;
    whole = unbroken.whole;
  };
  fitting = all_stand before after e unbroken alike (steps_of f.body) puts.steps;
  uses = all_typed before after e unbroken alike (uses_of f.body) puts.uses;
}
