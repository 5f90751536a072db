-- 604 EntryName: the names of entry points. OpEntryPoint has an execution model, a function, a name, and the ids of its interface behind its first word.
use Rattle.std.specs.Prelude.{ℕ, Bool, cond, ◌&&◌, not, nat_eq, List, take, drop}
use Rattle.std.specs.List.{list_any}
use Rattle.std.specs.Cmp.Lexicographic.{pointwise}
use Rattle.spv_grammar.specs.Text.{text_words}
use Rattle.spv_module.specs.Instruction.{Instruction}
use Rattle.spv_module.specs.Layout.{is_entry_point}

-- The words of its name. A string is padded with zeros, so two are the same exactly where their words are.
abbrev pub entry_name : Instruction → List ℕ
entry_name i = take (text_words (drop 3 i.words)) (drop 3 i.words)

-- an entry point with these words as its name
abbrev pub has_name : (name : List ℕ) → Instruction → Bool
has_name name i = is_entry_point i && pointwise nat_eq name (entry_name i)

-- an entry point's name is that of none before it; every other instruction passes
unfoldable pub name_fits : (before : List Instruction) → Instruction → Bool
name_fits before i = not (is_entry_point i && list_any (has_name (entry_name i)) before)
