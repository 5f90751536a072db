-- The parts of an instruction's words stay whatever words stand where it uses ids.
use Rattle.std.proofs.Common.{◌≡◌, ℕ, zero, suc, ◌+◌, ◌*◌, ◌%◌, ◌<◌, ◌≤◌, Bool, true, false, cond, ◌==◌, ◌&&◌, ◌||◌, not, nat_le, nat_lt, List, [], ◌∷◌, ◌++◌}
use Rattle.std.proofs.Common.{length, take, drop, replicate, Option, Some, None, Result, Ok, Err, refl, sym, ap, ◌∙◌, subst, arith}
use Rattle.std.specs.Option.{option_map, option_and_then}
use Rattle.std.specs.List.{position_or_len}
use Rattle.std.specs.Option.{unwrap_or}
use Rattle.std.proofs.lemmas.Bool.Decides.{nat_tests}
use Rattle.spv_grammar.specs.declared.kind.Role.{Role}
use Rattle.spv_grammar.specs.declared.kind.Role.TheVariants.{Opcode, TypeId, DefinedId, UsedId, Literal, Octets, UnknownEnumerant, BadOctets}
use Rattle.spv_grammar.specs.declared.kind.Kind.{Kind}
use Rattle.spv_grammar.specs.declared.kind.Kind.TheVariants.{ResultType, ResultId, Id, OptionalId, Ids, IdPairs, Number, SomeNumbers, Numbers, Weights, Cases}
use Rattle.spv_grammar.specs.declared.kind.Kind.TheVariants.{Text, OptionalText, SetName, One, MemoryOperands, Decoration, ExtInst}
use Rattle.spv_opcodes.specs.declared.op.TheConstants as op
use Rattle.spv_opcodes.specs.declared.decoration.TheConstants as decoration
use Rattle.spv_grammar.specs.Enumerants.{is_known, is_memory_operands, is_aligned, is_bare_decoration, is_numbered_decoration, is_builtin, ext_operands}
use Rattle.spv_grammar.specs.Roles.{is_used_id}
use Rattle.spv_grammar.specs.Table.{Shape, row_of}
use Rattle.spv_grammar.specs.Text.{text_words, has_zero_octet, is_text, is_set_name}
use Rattle.spv_grammar.specs.Operands.{Taken, none, one, all, all_if, after, mark, in_turn, text_by, text_role, set_name_role, memory_operands, builtin}
use Rattle.spv_grammar.specs.Operands.{decorated, extended, taken, operand_roles, fitted, behind, row_roles, inner_shape, inner_roles, spec_constant_roles}
use Rattle.spv_grammar.specs.Operands.{body_roles, opcode_of, roles_of}

-- ---- the words that are put

-- words, with those of `v`, one for each place, where ids are used
abbrev pub mixed : (v : ℕ → ℕ) → List Role → List ℕ → List ℕ
mixed v [] ws = ws
mixed v (r ∷ rs) [] = []
mixed v (r ∷ rs) (w ∷ ws) = cond (is_used_id r) (v 0) w ∷ mixed (λ n. v (suc n)) rs ws

pub mixed-none : (v : ℕ → ℕ) (rs : List Role) → mixed v rs [] ≡ []
mixed-none v [] = refl
mixed-none v (r ∷ rs) = refl

pub length-mixed : (v : ℕ → ℕ) (rs : List Role) (ws : List ℕ) → length (mixed v rs ws) ≡ length ws
length-mixed v [] ws = refl
length-mixed v (r ∷ rs) [] = refl
length-mixed v (r ∷ rs) (w ∷ ws) = ap suc (length-mixed (λ n. v (suc n)) rs ws)

-- a word that uses no id stays
unused_stays : (r : Role) (x w : ℕ) → is_used_id r ≡ false → cond (is_used_id r) x w ≡ w
unused_stays r x w e = ap (λ used. cond used x w) e

mark_unused : (known : Bool) → is_used_id (mark known) ≡ false
mark_unused true = refl
mark_unused false = refl

-- ---- operands

-- the parts that an operand took, and the words that it left, others put where ids are used
abbrev Left : Taken → List Role → Option Taken → Type 0
Left t more found = (later : ℕ → ℕ) × (found ≡ Some (record { roles = t.roles; rest = mixed later more t.rest }))

-- an operand takes the same parts of the words that are put, and leaves what is put of the rest
abbrev Keeps : Option Taken → (List ℕ → Option Taken) → List ℕ → Type 0
Keeps None g ws = Unit {0}
Keeps (Some t) g ws = (v : ℕ → ℕ) (more : List Role) → Left t more (g (mixed v (t.roles ++ more) ws))

-- the same, behind a word that stays
record Behind (v : ℕ → ℕ) (w : ℕ) (ws : List ℕ) (t : Taken) (g : List ℕ → Option Taken) (more : List Role) : Type 0 where
  words : List ℕ
  later : ℕ → ℕ
  front : mixed v (t.roles ++ more) (w ∷ ws) ≡ w ∷ words
  takes : g words ≡ Some (record { roles = t.roles; rest = mixed later more t.rest })

abbrev KeepsBehind : Option Taken → (List ℕ → Option Taken) → ℕ → List ℕ → Type 0
KeepsBehind None g w ws = Unit {0}
KeepsBehind (Some t) g w ws = (v : ℕ → ℕ) (more : List Role) → Behind v w ws t g more

one-keeps : (role : Role) (ws : List ℕ) → Keeps (one role ws) (one role) ws
one-keeps role [] = tt
one-keeps role (w ∷ ws) = λ v more. ((λ n. v (suc n)), refl)

none-keeps : (ws : List ℕ) → Keeps (none ws) none ws
none-keeps ws = λ v more. (v, refl)

all_if-keeps : (fits : Bool) (roles : List Role) (ws : List ℕ) (g : List ℕ → Option Taken) →
    ((v : ℕ → ℕ) (more : List Role) → g (mixed v (roles ++ more) ws) ≡ all_if fits roles) → Keeps (all_if fits roles) g ws
all_if-keeps true roles ws g h = λ v more. (v, h v more ∙ ap (λ rest. Some (record { roles = roles; rest = rest })) (sym (mixed-none v more)))
all_if-keeps false roles ws g h = tt

times-keeps : (fits : ℕ → Bool) (role : Role) (ws : List ℕ) →
    Keeps (all_if (fits (length ws)) (replicate (length ws) role)) (λ xs. all_if (fits (length xs)) (replicate (length xs) role)) ws
times-keeps fits role ws =
    all_if-keeps (fits (length ws)) (replicate (length ws) role) ws (λ xs. all_if (fits (length xs)) (replicate (length xs) role))
    (λ v more. ap (λ n. all_if (fits n) (replicate n role)) (length-mixed v (replicate (length ws) role ++ more) ws))

all-keeps : (role : Role) (ws : List ℕ) → Keeps (all role ws) (all role) ws
all-keeps role ws = times-keeps (λ n. true) role ws

-- the parts of words in turn hang on how many there are
in_turn-same : (xs ws : List ℕ) → length xs ≡ length ws → in_turn xs ≡ in_turn ws
in_turn-same [] [] e = refl
in_turn-same [] (w ∷ ws) e = absurd (omega (arith, e))
in_turn-same (x ∷ xs) [] e = absurd (omega (arith, e))
in_turn-same (x ∷ []) (w ∷ []) e = refl
in_turn-same (x ∷ []) (w ∷ v ∷ ws) e = absurd (omega (arith, e))
in_turn-same (x ∷ y ∷ xs) (w ∷ []) e = absurd (omega (arith, e))
in_turn-same (x ∷ y ∷ xs) (w ∷ v ∷ ws) e = ap (λ rs. Literal ∷ UsedId ∷ rs) (in_turn-same xs ws (omega (arith, e)))

cases-keeps : (most : ℕ) (ws : List ℕ) → Keeps (taken (Cases most) ws) (taken (Cases most)) ws
cases-keeps most ws =
    all_if-keeps (length ws % 2 == 0 && nat_le (length ws) (2 * most)) (in_turn ws) ws (taken (Cases most))
    (λ v more.
    let xs = mixed v (in_turn ws ++ more) ws in
    let long = length-mixed v (in_turn ws ++ more) ws in
    ap (λ n. all_if (n % 2 == 0 && nat_le n (2 * most)) (in_turn xs)) long
    ∙ ap (all_if (length ws % 2 == 0 && nat_le (length ws) (2 * most))) (in_turn-same xs ws long))

after-keeps : (t : Option Taken) (role : Role) (w : ℕ) (ws : List ℕ) (g : List ℕ → Option Taken) → is_used_id role ≡ false → Keeps t g ws →
    KeepsBehind (option_map (after (role ∷ [])) t) (λ xs. option_map (after (role ∷ [])) (g xs)) w ws
after-keeps None role w ws g e k = tt
after-keeps (Some t) role w ws g e k = λ v more.
    let found = k (λ n. v (suc n)) more in
    record {
      words = mixed (λ n. v (suc n)) (t.roles ++ more) ws;
      later = found.0;
      front = ap (λ x. x ∷ mixed (λ n. v (suc n)) (t.roles ++ more) ws) (unused_stays role (v 0) w e);
      takes = ap (option_map (after (role ∷ []))) found.1;
    }

cond-behind : (c : Bool) (t u : Option Taken) (g h : List ℕ → Option Taken) (w : ℕ) (ws : List ℕ) → KeepsBehind t g w ws → KeepsBehind u h w ws →
    KeepsBehind (cond c t u) (λ xs. cond c (g xs) (h xs)) w ws
cond-behind true t u g h w ws k l = k
cond-behind false t u g h w ws k l = l

cond-keeps : (c : Bool) (t u : Option Taken) (g h : List ℕ → Option Taken) (ws : List ℕ) → Keeps t g ws → Keeps u h ws →
    Keeps (cond c t u) (λ xs. cond c (g xs) (h xs)) ws
cond-keeps true t u g h ws k l = k
cond-keeps false t u g h ws k l = l

-- what is behind a word that stays is kept with it
whole_from_behind : (t : Option Taken) (g h : List ℕ → Option Taken) (w : ℕ) (ws : List ℕ) → ((xs : List ℕ) → g (w ∷ xs) ≡ h xs) → KeepsBehind t h w ws
    → Keeps t g (w ∷ ws)
whole_from_behind None g h w ws same k = tt
whole_from_behind (Some t) g h w ws same k = λ v more. let found = k v more in (found.later, ap g found.front ∙ same found.words ∙ found.takes)

mark-keeps : (known : ℕ → Bool) (w : ℕ) (ws : List ℕ) (g : List ℕ → Option Taken) → ((x : ℕ) (xs : List ℕ) → g (x ∷ xs) ≡ one (mark (known x)) (x ∷ xs)) →
    Keeps (one (mark (known w)) (w ∷ ws)) g (w ∷ ws)
mark-keeps known w ws g same = λ v more. (
  (λ n. v (suc n)),
  ap (λ x. g (x ∷ mixed (λ n. v (suc n)) more ws)) (unused_stays (mark (known w)) (v 0) w (mark_unused (known w)))
      ∙ same w (mixed (λ n. v (suc n)) more ws),
)

builtin-keeps : (ws : List ℕ) → Keeps (builtin ws) builtin ws
builtin-keeps [] = tt
builtin-keeps (w ∷ ws) = mark-keeps is_builtin w ws builtin (λ x xs. refl)

memory-keeps : (w : ℕ) (ws : List ℕ) → KeepsBehind (memory_operands w ws) (memory_operands w) w ws
memory-keeps w ws =
    after-keeps (cond (is_aligned w) (one Literal ws) (none ws)) (mark (is_memory_operands w)) w ws (λ xs. cond (is_aligned w) (one Literal xs) (none xs))
    (mark_unused (is_memory_operands w))
    (cond-keeps (is_aligned w) (one Literal ws) (none ws) (one Literal) none ws (one-keeps Literal ws) (none-keeps ws))

decorated-keeps : (w : ℕ) (ws : List ℕ) → KeepsBehind (decorated w ws) (decorated w) w ws
decorated-keeps w ws =
    let bare = after-keeps (none ws) Literal w ws none refl (none-keeps ws) in
    let numbered = after-keeps (one Literal ws) Literal w ws (one Literal) refl (one-keeps Literal ws) in
    let built_in = after-keeps (builtin ws) Literal w ws builtin refl (builtin-keeps ws) in
    let unknown = after-keeps (all Literal ws) UnknownEnumerant w ws (all Literal) refl (all-keeps Literal ws) in
    cond-behind (is_bare_decoration w) _ _ (λ xs. option_map (after (Literal ∷ [])) (none xs))
    (λ xs. cond (is_numbered_decoration w) (option_map (after (Literal ∷ [])) (one Literal xs))
    (cond (w == decoration.BUILTIN) (option_map (after (Literal ∷ [])) (builtin xs)) (option_map (after (UnknownEnumerant ∷ [])) (all Literal xs)))) w ws bare
    (cond-behind (is_numbered_decoration w) _ _ (λ xs. option_map (after (Literal ∷ [])) (one Literal xs))
    (λ xs. cond (w == decoration.BUILTIN) (option_map (after (Literal ∷ [])) (builtin xs)) (option_map (after (UnknownEnumerant ∷ [])) (all Literal xs))) w ws
    numbered
    (cond-behind (w == decoration.BUILTIN) _ _ (λ xs. option_map (after (Literal ∷ [])) (builtin xs))
    (λ xs. option_map (after (UnknownEnumerant ∷ [])) (all Literal xs)) w ws built_in unknown))

extended-keeps : (count : Option ℕ) (w : ℕ) (ws : List ℕ) → KeepsBehind (extended count ws) (extended count) w ws
extended-keeps None w ws = after-keeps (all UsedId ws) UnknownEnumerant w ws (all UsedId) refl (all-keeps UsedId ws)
extended-keeps (Some n) w ws =
    after-keeps (all_if (length ws == n) (replicate (length ws) UsedId)) Literal w ws (λ xs. all_if (length xs == n) (replicate (length xs) UsedId)) refl
    (times-keeps (λ m. m == n) UsedId ws)

-- ---- strings

-- the number of words of the string in front, by recursion
abbrev text_length : List ℕ → ℕ
text_length [] = 0
text_length (w ∷ ws) = cond (has_zero_octet w) 1 (suc (text_length ws))

one_text : (z : Bool) (n len : ℕ) →
    unwrap_or (option_map suc (cond (nat_lt (cond (not z) (1 + n) 0) (suc len)) (Some (cond (not z) (1 + n) 0)) None)) (suc len)
    ≡ cond z 1 (suc (unwrap_or (option_map suc (cond (nat_lt n len) (Some n) None)) len))
one_text true n len = grind (arith, nat_tests)
one_text false n len = grind (arith, nat_tests)

text-length : (ws : List ℕ) → text_words ws ≡ text_length ws
text-length [] = refl
text-length (w ∷ ws) = one_text (has_zero_octet w) (position_or_len has_zero_octet ws) (length ws) ∙ ap (λ n. cond (has_zero_octet w) 1 (suc n))
    (text-length ws)

within_step : (z : Bool) (n len : ℕ) → n ≤ len → cond z 1 (suc n) ≤ suc len
within_step true n len h = omega arith
within_step false n len h = omega (arith, h)

text_length-within : (ws : List ℕ) → text_length ws ≤ length ws
text_length-within [] = omega arith
text_length-within (w ∷ ws) = within_step (has_zero_octet w) (text_length ws) (length ws) (text_length-within ws)

-- words of one part that uses no id stay
front_stays : (v : ℕ → ℕ) (r : Role) (more : List Role) (n : ℕ) (ws : List ℕ) → is_used_id r ≡ false → n ≤ length ws →
    (later : ℕ → ℕ) × (mixed v (replicate n r ++ more) ws ≡ take n ws ++ mixed later more (drop n ws))
front_stays v r more zero ws e h = (v, refl)
front_stays v r more (suc n) [] e h = absurd (omega (arith, h))
front_stays v r more (suc n) (w ∷ ws) e h =
    let rest = front_stays (λ n. v (suc n)) r more n ws e (omega (arith, h)) in (
      rest.0,
      ap (λ x. x ∷ mixed (λ n. v (suc n)) (replicate n r ++ more) ws) (unused_stays r (v 0) w e) ∙ ap (λ vs. w ∷ vs) rest.1,
    )

take_front : (n : ℕ) (ws zs : List ℕ) → n ≤ length ws → take n (take n ws ++ zs) ≡ take n ws
take_front zero ws zs h = refl
take_front (suc n) [] zs h = absurd (omega (arith, h))
take_front (suc n) (w ∷ ws) zs h = ap (λ vs. w ∷ vs) (take_front n ws zs (omega (arith, h)))

drop_front : (n : ℕ) (ws zs : List ℕ) → n ≤ length ws → drop n (take n ws ++ zs) ≡ zs
drop_front zero ws zs h = refl
drop_front (suc n) [] zs h = absurd (omega (arith, h))
drop_front (suc n) (w ∷ ws) zs h = drop_front n ws zs (omega (arith, h))

text_step : (z : Bool) (v : ℕ → ℕ) (more : List Role) (w : ℕ) (ws : List ℕ) → has_zero_octet w ≡ z →
    text_length (take (text_length ws) ws ++ mixed v more (drop (text_length ws) ws)) ≡ text_length ws →
    text_length (take (cond z 1 (suc (text_length ws))) (w ∷ ws) ++ mixed v more (drop (cond z 1 (suc (text_length ws))) (w ∷ ws))) ≡ cond z 1
    (suc (text_length ws))
text_step true v more w ws e h = ap (λ z. cond z 1 (suc (text_length (take 0 ws ++ mixed v more (drop 0 ws))))) e
text_step false v more w ws e h =
    ap (λ z. cond z 1 (suc (text_length (take (text_length ws) ws ++ mixed v more (drop (text_length ws) ws))))) e ∙ ap suc h

-- a string ends where it ended
text_stays : (v : ℕ → ℕ) (more : List Role) (ws : List ℕ)
    → text_length (take (text_length ws) ws ++ mixed v more (drop (text_length ws) ws)) ≡ text_length ws
text_stays v more [] = ap text_length (mixed-none v more)
text_stays v more (w ∷ ws) = text_step (has_zero_octet w) v more w ws refl (text_stays v more ws)

abbrev text_of : (List ℕ → Role) → ℕ → List ℕ → Option Taken
text_of role n ws = Some (record { roles = replicate n (role (take n ws)); rest = drop n ws })

text_by-some : (role : List ℕ → Role) (ws : List ℕ) → 0 < length ws → text_by role ws ≡ text_of role (text_words ws) ws
text_by-some role [] h = absurd (omega (arith, h))
text_by-some role (w ∷ ws) h = refl

text_front : (v : ℕ → ℕ) (role : List ℕ → Role) (more : List Role) (n : ℕ) (ws xs : List ℕ) → 0 < length ws → n ≡ text_length ws → length xs ≡ length ws →
    xs ≡ take n ws ++ mixed v more (drop n ws) →
    text_by role xs ≡ Some (record { roles = replicate n (role (take n ws)); rest = mixed v more (drop n ws) })
text_front v role more n ws xs some is long fronts =
    let within : n ≤ length ws = omega (arith, is, text_length-within ws) in
    let put = mixed v more (drop n ws) in
    let ends : text_words xs ≡ n =
    text-length xs ∙ ap text_length fronts ∙ ap (λ m. text_length (take m ws ++ mixed v more (drop m ws))) is ∙ text_stays v more ws ∙ sym is in
    text_by-some role xs (omega (arith, long, some))
    ∙ ap (λ m. text_of role m xs) ends
    ∙ ap (text_of role n) fronts
    ∙ ap (λ front. Some (record { roles = replicate n (role front); rest = drop n (take n ws ++ put) })) (take_front n ws put within)
    ∙ ap (λ rest. Some (record { roles = replicate n (role (take n ws)); rest = rest })) (drop_front n ws put within)

text-keeps : (role : List ℕ → Role) (ws : List ℕ) → ((ws : List ℕ) → is_used_id (role ws) ≡ false) → Keeps (text_by role ws) (text_by role) ws
text-keeps role [] unused = tt
text-keeps role (w ∷ ws) unused = λ v more.
    let n = text_words (w ∷ ws) in
    let is : n ≡ text_length (w ∷ ws) = text-length (w ∷ ws) in
    let part = role (take n (w ∷ ws)) in
    let fronts = front_stays v part more n (w ∷ ws) (unused (take n (w ∷ ws))) (omega (arith, is, text_length-within (w ∷ ws))) in (
      fronts.0,
      text_front fronts.0 role more n (w ∷ ws) (mixed v (replicate n part ++ more) (w ∷ ws)) (omega arith) is
          (length-mixed v (replicate n part ++ more) (w ∷ ws)) fronts.1,
    )

text_unused : (text : Bool) → is_used_id (cond text Octets BadOctets) ≡ false
text_unused true = refl
text_unused false = refl

set_unused : (text known : Bool) → is_used_id (cond text (cond known Octets UnknownEnumerant) BadOctets) ≡ false
set_unused true true = refl
set_unused true false = refl
set_unused false known = refl

-- ---- all operands of an instruction

taken-keeps : (kind : Kind) (ws : List ℕ) → Keeps (taken kind ws) (taken kind) ws
taken-keeps ResultType ws = one-keeps TypeId ws
taken-keeps ResultId ws = one-keeps DefinedId ws
taken-keeps Id ws = one-keeps UsedId ws
taken-keeps OptionalId [] = λ v more. (
  v,
  ap (taken OptionalId) (mixed-none v more) ∙ ap (λ rest. Some (record { roles = []; rest = rest })) (sym (mixed-none v more)),
)
taken-keeps OptionalId (w ∷ ws) = λ v more. ((λ n. v (suc n)), refl)
taken-keeps (Ids most) ws = times-keeps (λ n. nat_le n most) UsedId ws
taken-keeps IdPairs ws = times-keeps (λ n. n % 2 == 0) UsedId ws
taken-keeps Number ws = one-keeps Literal ws
taken-keeps SomeNumbers ws = times-keeps (λ n. nat_lt 0 n) Literal ws
taken-keeps Numbers ws = all-keeps Literal ws
taken-keeps Weights ws = times-keeps (λ n. n == 0 || n == 2) Literal ws
taken-keeps (Cases most) ws = cases-keeps most ws
taken-keeps Text ws = text-keeps text_role ws (λ xs. text_unused (is_text xs))
taken-keeps OptionalText [] = λ v more. (
  v,
  ap (taken OptionalText) (mixed-none v more) ∙ ap (λ rest. Some (record { roles = []; rest = rest })) (sym (mixed-none v more)),
)
taken-keeps OptionalText (w ∷ ws) = λ v more. optional_text v more w ws
  where
    from_some : (xs : List ℕ) → 0 < length xs → taken OptionalText xs ≡ text_by text_role xs
    from_some [] h = absurd (omega (arith, h))
    from_some (x ∷ xs) h = refl

    optional_text : (v : ℕ → ℕ) (more : List Role) (w : ℕ) (ws : List ℕ) →
        let n = text_words (w ∷ ws) in
        let roles = replicate n (text_role (take n (w ∷ ws))) in
        (later : ℕ → ℕ)
        × (taken OptionalText (mixed v (roles ++ more) (w ∷ ws)) ≡ Some (record { roles = roles; rest = mixed later more (drop n (w ∷ ws)) }))
    optional_text v more w ws =
        let n = text_words (w ∷ ws) in
        let roles = replicate n (text_role (take n (w ∷ ws))) in
        let found = text-keeps text_role (w ∷ ws) (λ xs. text_unused (is_text xs)) v more in
        (found.0, from_some (mixed v (roles ++ more) (w ∷ ws)) (omega (arith, length-mixed v (roles ++ more) (w ∷ ws))) ∙ found.1)
taken-keeps SetName ws = text-keeps set_name_role ws (λ xs. set_unused (is_text xs) (is_set_name xs))
taken-keeps (One enumerant) [] = tt
taken-keeps (One enumerant) (w ∷ ws) = mark-keeps (is_known enumerant) w ws (taken (One enumerant)) (λ x xs. refl)
taken-keeps MemoryOperands [] = λ v more. (
  v,
  ap (taken MemoryOperands) (mixed-none v more) ∙ ap (λ rest. Some (record { roles = []; rest = rest })) (sym (mixed-none v more)),
)
taken-keeps MemoryOperands (w ∷ ws) = whole_from_behind (memory_operands w ws) (taken MemoryOperands) (memory_operands w) w ws (λ xs. refl) (memory-keeps w ws)
taken-keeps Decoration [] = tt
taken-keeps Decoration (w ∷ ws) = whole_from_behind (decorated w ws) (taken Decoration) (decorated w) w ws (λ xs. refl) (decorated-keeps w ws)
taken-keeps ExtInst [] = tt
taken-keeps ExtInst (w ∷ ws) =
    whole_from_behind (extended (ext_operands w) ws) (taken ExtInst) (extended (ext_operands w)) w ws (λ xs. refl) (extended-keeps (ext_operands w) w ws)

-- all operands have the same parts
abbrev Stays : List Kind → Type 0
Stays kinds = (v : ℕ → ℕ) (ws : List ℕ) (rs : List Role) → operand_roles kinds ws ≡ Some rs → operand_roles kinds (mixed v rs ws) ≡ Some rs

abbrev then_others : List Kind → Taken → Option (List Role)
then_others kinds t = option_map (λ roles. t.roles ++ roles) (operand_roles kinds t.rest)

others_stay : (v : ℕ → ℕ) (kind : Kind) (kinds : List Kind) (ws : List ℕ) (t : Taken) (others : Option (List Role)) (rs : List Role)
    → Keeps (Some t) (taken kind) ws → Stays kinds →
    operand_roles kinds t.rest ≡ others → option_map (λ roles. t.roles ++ roles) others ≡ Some rs
    → option_and_then (then_others kinds) (taken kind (mixed v rs ws)) ≡ Some rs
others_stay v kind kinds ws t None rs k later found e = cc
others_stay v kind kinds ws t (Some others) rs k later found e =
    let all : Some (t.roles ++ others) ≡ Some rs = e in
    let same : t.roles ++ others ≡ rs = ap (λ o. unwrap_or o []) all in
    let left = k v others in
    subst (λ roles. option_and_then (then_others kinds) (taken kind (mixed v roles ws)) ≡ Some roles) same
    (ap (option_and_then (then_others kinds)) left.1 ∙ ap (option_map (λ roles. t.roles ++ roles)) (later left.0 t.rest others found))

first_stays : (v : ℕ → ℕ) (kind : Kind) (kinds : List Kind) (ws : List ℕ) (t : Option Taken) (rs : List Role) → Keeps t (taken kind) ws → Stays kinds →
    option_and_then (then_others kinds) t ≡ Some rs → option_and_then (then_others kinds) (taken kind (mixed v rs ws)) ≡ Some rs
first_stays v kind kinds ws None rs k later e = cc
first_stays v kind kinds ws (Some t) rs k later e = others_stay v kind kinds ws t (operand_roles kinds t.rest) rs k later refl e

-- induction on the operands
operands_stay : (kinds : List Kind) → Stays kinds
operands_stay [] v [] rs e = ap (operand_roles []) (mixed-none v rs) ∙ e
operands_stay [] v (w ∷ ws) rs e = cc
operands_stay (kind ∷ kinds) v ws rs e = first_stays v kind kinds ws (taken kind ws) rs (taken-keeps kind ws) (operands_stay kinds) e

-- ---- the whole instruction

abbrev Same : Result (List Role) ℕ → (List ℕ → Result (List Role) ℕ) → List ℕ → Type 0
Same (Err rule) g ws = Unit {0}
Same (Ok rs) g ws = (v : ℕ → ℕ) → g (mixed v rs ws) ≡ Ok rs

fitted-same : (found : Option (List Role)) (g : List ℕ → Option (List Role)) (ws : List ℕ)
    → ((v : ℕ → ℕ) (rs : List Role) → found ≡ Some rs → g (mixed v rs ws) ≡ Some rs) →
    Same (fitted found) (λ xs. fitted (g xs)) ws
fitted-same None g ws h = tt
fitted-same (Some rs) g ws h = λ v. ap fitted (h v rs refl)

row-same : (row : Option Shape) (ws : List ℕ) → Same (row_roles row ws) (row_roles row) ws
row-same None ws = tt
row-same (Some shape) ws = fitted-same (operand_roles shape.kinds ws) (operand_roles shape.kinds) ws (λ v rs e. operands_stay shape.kinds v ws rs e)

cond-same : (c : Bool) (x y : Result (List Role) ℕ) (g h : List ℕ → Result (List Role) ℕ) (ws : List ℕ) → Same x g ws → Same y h ws →
    Same (cond c x y) (λ xs. cond c (g xs) (h xs)) ws
cond-same true x y g h ws k l = k
cond-same false x y g h ws k l = l

inner-same : (o : ℕ) (ws : List ℕ) → Same (inner_roles o ws) (inner_roles o) ws
inner-same o ws =
    cond-same (o == op.SPEC_CONSTANT_OP) (Err 106) (row_roles (option_map inner_shape (row_of o)) ws) (λ xs. Err 106)
    (row_roles (option_map inner_shape (row_of o))) ws tt
    (row-same (option_map inner_shape (row_of o)) ws)

spec_step : (t r o : ℕ) (ws : List ℕ) (inner : Result (List Role) ℕ) → Same inner (inner_roles o) ws →
    Same (behind (TypeId ∷ DefinedId ∷ Literal ∷ []) inner) spec_constant_roles (t ∷ r ∷ o ∷ ws)
spec_step t r o ws (Err rule) k = tt
spec_step t r o ws (Ok rs) k = λ v. ap (behind (TypeId ∷ DefinedId ∷ Literal ∷ [])) (k (λ n. v (suc (suc (suc n)))))

spec-same : (ws : List ℕ) → Same (spec_constant_roles ws) spec_constant_roles ws
spec-same [] = tt
spec-same (t ∷ []) = tt
spec-same (t ∷ r ∷ []) = tt
spec-same (t ∷ r ∷ o ∷ ws) = spec_step t r o ws (inner_roles o ws) (inner-same o ws)

body-same : (o : ℕ) (ws : List ℕ) → Same (body_roles o ws) (body_roles o) ws
body-same o ws =
    cond-same (o == op.SPEC_CONSTANT_OP) (spec_constant_roles ws) (row_roles (row_of o) ws) spec_constant_roles (row_roles (row_of o)) ws (spec-same ws)
    (row-same (row_of o) ws)

head_step : (w : ℕ) (ws : List ℕ) (body : Result (List Role) ℕ) → Same body (body_roles (opcode_of w)) ws
    → Same (behind (Opcode ∷ []) body) roles_of (w ∷ ws)
unfolding roles_of
head_step w ws (Err rule) k = tt
head_step w ws (Ok rs) k = λ v. ap (behind (Opcode ∷ [])) (k (λ n. v (suc n)))

roles-same : (ws : List ℕ) → Same (roles_of ws) roles_of ws
unfolding roles_of
roles-same [] = tt
roles-same (w ∷ ws) = head_step w ws (body_roles (opcode_of w) ws) (body-same (opcode_of w) ws)

-- the words that are put have the same parts
pub roles_stay : (v : ℕ → ℕ) (ws : List ℕ) (rs : List Role) → roles_of ws ≡ Ok rs → roles_of (mixed v rs ws) ≡ Ok rs
roles_stay v ws rs e = subst (λ answer. Same answer roles_of ws) e (roles-same ws) v

-- the first word uses no id
abbrev HeadStays : Result (List Role) ℕ → Type 0
HeadStays (Err rule) = Unit {0}
HeadStays (Ok roles) = (later : List Role) × (roles ≡ Opcode ∷ later)

head_stays : (body : Result (List Role) ℕ) → HeadStays (behind (Opcode ∷ []) body)
head_stays (Err rule) = tt
head_stays (Ok roles) = (roles, refl)

pub first_part : (w : ℕ) (ws : List ℕ) (rs : List Role) → roles_of (w ∷ ws) ≡ Ok rs → (later : List Role) × (rs ≡ Opcode ∷ later)
unfolding roles_of
first_part w ws rs e = subst HeadStays e (head_stays (body_roles (opcode_of w) ws))
