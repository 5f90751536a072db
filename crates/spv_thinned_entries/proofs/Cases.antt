-- A module and what is left of it, with what is known of both: ids that stay are defined by what is kept, with the same words.
use Rattle.std.proofs.Common.{◌≡◌, ℕ, Bool, ◌==◌, ◌&&◌, List, ap₂}
use Rattle.std.specs.List.{AllByRecursion}
use Rattle.spv_opcodes.specs.declared.op.TheConstants as op
use Rattle.spv_module.specs.Instruction.{Instruction}
use Rattle.spv_ids.specs.Ids.{kind, word_of, words_of}
use Rattle.spv_declarations.specs.Laws.{IsUnbroken}
use Rattle.spv_alike_uses.specs.Alike.{AreAlikeBut, Stays}
use Rattle.spv_alike_uses.proofs.Lookups.{Case}
use Rattle.spv_calls.specs.Calls.{is_global}
use Rattle.spv_thinned.specs.Thinned.{IsThinned}
use Rattle.spv_thinned.proofs.Definitions as definitions
use Rattle.spv_thinned.proofs.Definitions.{Fact}
use Rattle.spv_thinned.proofs.Whole.{facts_of, thinned_is_alike}
use Rattle.spv_thinned_entries.specs.Laws.{KeepsEntries}

-- ---- the two modules

pub record Thinning : Type 0 where
  pub gone : ℕ → Bool
  pub keep : Instruction → Bool
  pub before : List Instruction
  pub after : List Instruction
  pub unbroken : IsUnbroken before
  pub thin : IsThinned gone keep before after
  pub keeps_entries : KeepsEntries keep before
  pub facts : AllByRecursion (Fact gone keep before) before
  pub alike : AreAlikeBut gone before after

abbrev pub thinning : (gone : ℕ → Bool) (keep : Instruction → Bool) (before after : List Instruction) → IsUnbroken before → IsThinned gone keep before after
    → KeepsEntries keep before → Thinning
thinning gone keep before after h thin entries = record {
  gone = gone;
  keep = keep;
  before = before;
  after = after;
  unbroken = h;
  thin = thin;
  keeps_entries = entries;
  facts = facts_of gone keep before after h thin;
  alike = thinned_is_alike gone keep before after h thin;
}

-- the same, as modules that are alike but for what has gone
abbrev pub case_of : Thinning → Case
case_of t = record { gone = t.gone; before = t.before; after = t.after; unbroken = t.unbroken; alike = t.alike }

abbrev pub In : Thinning → ℕ → Type 0
In t id = Stays t.gone id

abbrev pub FactOf : Thinning → Instruction → Type 0
FactOf t i = Fact t.gone t.keep t.before i

-- ---- ids that stay

module _ (t : Thinning) (id : ℕ) (s : In t id) where
  pub same_kind : kind t.after id ≡ kind t.before id
  same_kind = definitions.same_kind t.gone t.keep t.before t.after t.thin t.facts id s

  pub same_word : (k : ℕ) → word_of t.after id k ≡ word_of t.before id k
  same_word k = definitions.same_word t.gone t.keep t.before t.after t.thin t.facts id s k

  pub same_words : (k : ℕ) → words_of t.after id k ≡ words_of t.before id k
  same_words k = definitions.same_words t.gone t.keep t.before t.after t.thin t.facts id s k

  pub same_global : is_global t.after id ≡ is_global t.before id
  same_global = ap₂ (λ (k : ℕ) (b : Bool). k == op.VARIABLE && b) same_kind (t.alike.outside id s)
