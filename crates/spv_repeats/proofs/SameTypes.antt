-- Types that are the same, among those that stand once.
use Rattle.std.proofs.Common.{◌≡◌, ℕ, Bool, true, false, cond, ◌&&◌, ◌||◌, ◌==◌, nat_eq, List, [], ◌∷◌, drop, Option, Some, None, refl, sym, ap, subst, ◌∙◌}
use Rattle.std.specs.Global.{Vec}
use Rattle.std.specs.BTreeSet.{BTreeSet}
use Rattle.std.specs.List.{list_any}
use Rattle.std.specs.Option.{option_map}
use Rattle.std.specs.Cmp.Lexicographic.{pointwise, texts_ties}
use Rattle.std.proofs.lemmas.Bool.{and_right, eqb-true}
use Rattle.spv_module.specs.Instruction.{Instruction, opcode}
use Rattle.spv_repeats.specs.Repeats.{is_unique_type, is_same_type, occurs, is_one_of, unique_types}
use Rattle.spv_repeats.specs.Steps.{Adds, Follows, HasTypes, is_type, vec_cmp, type_words}
use Rattle.spv_repeats.proofs.KeySets.{has-add}

-- an instruction of the same opcode as a type that stands once is one
same_opcode : (xs : List ℕ) (o p : ℕ) (rest : Bool) → is_one_of xs o ≡ true → (is_one_of xs p && (o == p && rest)) ≡ (o == p && rest)
same_opcode xs o p rest unique = by (o == p) refl
  where
    by : (b : Bool) → (o == p) ≡ b → (is_one_of xs p && (b && rest)) ≡ (b && rest)
    by true e = ap (λ (b : Bool). b && rest) (subst (λ (n : ℕ). is_one_of xs n ≡ true) (eqb-true o p e) unique)
    by false e = and_right (is_one_of xs p) false refl

-- induction on those before
same_types : (i : Instruction) (before : List Instruction) → is_unique_type i ≡ true → list_any (λ j. is_unique_type j && pointwise nat_eq (type_words i) (type_words j)) before ≡ list_any (is_same_type i) before
same_types i [] unique = refl
same_types i (j ∷ js) unique =
    ap (λ (b : Bool). b || list_any (λ k. is_unique_type k && pointwise nat_eq (type_words i) (type_words k)) js) (same_opcode unique_types (opcode i) (opcode j) (pointwise nat_eq (drop 2 i.words) (drop 2 j.words)) unique)
    ∙ ap (λ (b : Bool). is_same_type i j || b) (same_types i js unique)

abbrev of_some : Option (List ℕ) → List ℕ
of_some None = []
of_some (Some ws) = ws

pub follows-type : (old new : BTreeSet (Vec ℕ)) (key : Option (Vec ℕ)) (known : Bool) (i : Instruction) →
    option_map (λ (k : Vec ℕ). k.items) key ≡ cond (is_unique_type i) (Some (type_words i)) None → Adds vec_cmp old new key known → Follows HasTypes occurs old new i known
follows-type old new key known i e adds = by (is_unique_type i) refl key e adds
  where
    by : (unique : Bool) → is_unique_type i ≡ unique → (o : Option (Vec ℕ)) → option_map (λ (k : Vec ℕ). k.items) o ≡ cond unique (Some (type_words i)) None → Adds vec_cmp old new o known → Follows HasTypes occurs old new i known
    by true u None e' adds' = cc
    by true u (Some k) e' adds' =
        let items : k.items ≡ type_words i = ap of_some e' in
        record {
          answers = λ before h.
              adds'.known ∙ h.has k
              ∙ ap (λ (ws : List ℕ). list_any (λ j. is_unique_type j && pointwise nat_eq ws (type_words j)) before) items
              ∙ same_types i before u
              ∙ ap (λ (b : Bool). b && list_any (is_same_type i) before) (sym u);
          kept = λ before h.
              has-add vec_cmp is_type old new (Some k) known before i adds'
              (λ q. sym (texts_ties q.items k.items) ∙ ap (pointwise nat_eq q.items) items ∙ ap (λ (b : Bool). b && pointwise nat_eq q.items (type_words i)) (sym u)) h;
        }
    by false u None e' adds' =
        record {
          answers = λ before h. adds'.known ∙ ap (λ (b : Bool). b && list_any (is_same_type i) before) (sym u);
          kept = λ before h. has-add vec_cmp is_type old new None known before i adds' (λ q. ap (λ (b : Bool). b && pointwise nat_eq q.items (type_words i)) (sym u)) h;
        }
    by false u (Some k) e' adds' = cc
