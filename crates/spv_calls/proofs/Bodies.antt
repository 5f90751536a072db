-- What the instructions of a function call and name, read one after the other.
use Rattle.std.proofs.Common.{◌≡◌, ℕ, suc, ◌+◌, ◌<◌, ◌≤◌, Bool, true, false, cond, not, ◌&&◌, List, [], ◌∷◌, ◌++◌, length, take, drop, filter, map, get_or, Option, Some, None, refl, sym, ap, subst, ◌∙◌, append_assoc, add-one, arith}
use Rattle.std.proofs.Math.ListN.{drop_of_length-le}
use Rattle.std.proofs.Math.Seq.{drop-cons}
use Rattle.std.specs.List.{cons_option, filter_map, flat_map, range_with_len, slice_get, take_while, zip}
use Rattle.std.proofs.lemmas.List.FromFn.{map-range_with_len_more}
use Rattle.std.proofs.lemmas.List.{append-nil}
use Rattle.std.proofs.lemmas.List.Sums.{take_while-cons}
use Rattle.std.proofs.lemmas.Option.{get_or_from_slice_get}
use Rattle.spv_grammar.specs.declared.kind.Role.{Role}
use Rattle.spv_module.specs.Code.{is_function}
use Rattle.spv_module.specs.Instruction.{Instruction}
use Rattle.spv_ids.specs.Ids.{is_needed, used_ids}
use Rattle.spv_calls.specs.Calls.{callee, callees, globals_in, globals_of, up_to_function, function_in, function_at}
use Rattle.spv_calls.specs.Kept.{kept}

-- ---- the ids of an instruction

kept_by : (test : ℕ → Bool) (part : Role × ℕ) (parts : List (Role × ℕ)) (needed passes : Bool) → is_needed part.0 ≡ needed → test part.1 ≡ passes → kept test (part ∷ parts) ≡ cond (needed && passes) (part.1 ∷ []) [] ++ kept test parts
kept_by test part parts true true e f = rw (e, f) refl
kept_by test part parts true false e f = rw (e, f) refl
kept_by test part parts false p e f = rw e refl

kept_cons : (test : ℕ → Bool) (part : Role × ℕ) (parts : List (Role × ℕ)) (both : Bool) → both ≡ (is_needed part.0 && test part.1) → kept test (part ∷ parts) ≡ cond both (part.1 ∷ []) [] ++ kept test parts
kept_cons test part parts both e =
    kept_by test part parts (is_needed part.0) (test part.1) refl refl ∙ ap (λ (b : Bool). cond b (part.1 ∷ []) [] ++ kept test parts) (sym e)

-- the ids that are added, in front of those that are left to be
abbrev pub Adds : (ℕ → Bool) → (roles : List Role) (words : List ℕ) (k : ℕ) (old new : List ℕ) → Type 0
Adds test roles words k old new = new ++ kept test (zip (drop k roles) (drop k words)) ≡ old ++ kept test (zip roles words)

zip_at : (roles : List Role) (words : List ℕ) (k : ℕ) (r d : Role) → k < length roles → k < length words → get_or roles k d ≡ r → zip (drop k roles) (drop k words) ≡ (r, get_or words k 0) ∷ zip (drop (k + 1) roles) (drop (k + 1) words)
zip_at roles words k r d short small e =
    rw add-one (ap (λ (rs : List Role). zip rs (drop k words)) (drop-cons roles k d short)
    ∙ ap (λ (ws : List ℕ). zip (get_or roles k d ∷ drop (suc k) roles) ws) (drop-cons words k 0 small)
    ∙ ap (λ (x : Role). (x, get_or words k 0) ∷ zip (drop (suc k) roles) (drop (suc k) words)) e)

pub adds-more : (test : ℕ → Bool) (roles : List Role) (words : List ℕ) (k : ℕ) (r d : Role) (both : Bool) (old mid new : List ℕ) → Adds test roles words k old mid → k < length roles → k < length words → get_or roles k d ≡ r → both ≡ (is_needed r && test (get_or words k 0)) →
    new ≡ mid ++ cond both (get_or words k 0 ∷ []) [] → Adds test roles words (k + 1) old new
adds-more test roles words k r d both old mid new a short small at e more =
    let rest = zip (drop (k + 1) roles) (drop (k + 1) words) in
    let one = cond both (get_or words k 0 ∷ []) [] in
    ap (λ (xs : List ℕ). xs ++ kept test rest) more
    ∙ append_assoc mid one (kept test rest)
    ∙ ap (λ (xs : List ℕ). mid ++ xs) (sym (ap (kept test) (zip_at roles words k r d short small at) ∙ kept_cons test (r, get_or words k 0) rest both e))
    ∙ a

pub adds-all : (test : ℕ → Bool) (roles : List Role) (words : List ℕ) (k : ℕ) (old new : List ℕ) → Adds test roles words k old new → length roles ≤ k → new ≡ old ++ kept test (zip roles words)
adds-all test roles words k old new a past =
    sym (append-nil new)
    ∙ ap (λ (xs : List ℕ). new ++ xs) (sym (ap (λ (rs : List Role). kept test (zip rs (drop k words))) (drop_of_length-le roles past)))
    ∙ a

-- ---- the instructions of a function

drop_at : (insts : List Instruction) (j : ℕ) (i : Instruction) → j < length insts → slice_get insts j ≡ Some i → drop j insts ≡ i ∷ drop (j + 1) insts
drop_at insts j i fits at = rw add-one (drop-cons insts j i fits ∙ ap (λ (x : Instruction). x ∷ drop (suc j) insts) (get_or_from_slice_get insts j i i at))

pub up-more : (insts : List Instruction) (j : ℕ) (i : Instruction) → j < length insts → slice_get insts j ≡ Some i → is_function i ≡ false → up_to_function (drop j insts) ≡ i ∷ up_to_function (drop (j + 1) insts)
up-more insts j i fits at e =
    ap up_to_function (drop_at insts j i fits at)
    ∙ take_while-cons (λ (x : Instruction). not (is_function x)) i (drop (j + 1) insts)
    ∙ ap (λ (b : Bool). cond (not b) (i ∷ up_to_function (drop (j + 1) insts)) []) e

pub up-stops : (insts : List Instruction) (j : ℕ) (i : Instruction) → j < length insts → slice_get insts j ≡ Some i → is_function i ≡ true → up_to_function (drop j insts) ≡ []
up-stops insts j i fits at e =
    ap up_to_function (drop_at insts j i fits at)
    ∙ take_while-cons (λ (x : Instruction). not (is_function x)) i (drop (j + 1) insts)
    ∙ ap (λ (b : Bool). cond (not b) (i ∷ up_to_function (drop (j + 1) insts)) []) e

pub up-ends : (insts : List Instruction) (j : ℕ) → length insts ≤ j → up_to_function (drop j insts) ≡ []
up-ends insts j past = ap up_to_function (drop_of_length-le insts past)

-- what is added in front of what is left to be read
abbrev pub Goes : (List Instruction → List ℕ) → (insts : List Instruction) (k j : ℕ) (old new : List ℕ) → Type 0
Goes read insts k j old new = new ++ read (up_to_function (drop j insts)) ≡ old ++ read (up_to_function (drop k insts))

-- a reading of instructions is that of the first, and then that of the others
pub record IsReading (read : List Instruction → List ℕ) : Type 0 where
  pub none : read [] ≡ []
  pub cons : (i : Instruction) (is : List Instruction) → read (i ∷ is) ≡ read (i ∷ []) ++ read is

callees_cons : (o : Option ℕ) (rest : List ℕ) → cons_option o rest ≡ cons_option o [] ++ rest
callees_cons None rest = refl
callees_cons (Some x) rest = refl

pub callees-read : (insts : List Instruction) → IsReading (callees insts)
callees-read insts = record { none = refl; cons = λ i is. callees_cons (callee insts i) (callees insts is) }

pub globals-read : (insts : List Instruction) → IsReading (globals_in insts)
globals-read insts = record {
  none = refl;
  cons = λ i is. ap (λ (xs : List ℕ). xs ++ globals_in insts is) (sym (append-nil (globals_of insts i)));
}

pub goes-on : (read : List Instruction → List ℕ) (insts : List Instruction) (k j : ℕ) (i : Instruction) (old mid new : List ℕ) → IsReading read → Goes read insts k j old mid → j < length insts → slice_get insts j ≡ Some i → is_function i ≡ false → new ≡ mid ++ read (i ∷ []) → Goes read insts k (j + 1) old new
goes-on read insts k j i old mid new r g fits at e more =
    let rest = up_to_function (drop (j + 1) insts) in
    ap (λ (xs : List ℕ). xs ++ read rest) more
    ∙ append_assoc mid (read (i ∷ [])) (read rest)
    ∙ ap (λ (xs : List ℕ). mid ++ xs) (sym (r.cons i rest) ∙ ap read (sym (up-more insts j i fits at e)))
    ∙ g

pub goes-stop : (read : List Instruction → List ℕ) (insts : List Instruction) (k j : ℕ) (old new : List ℕ) → IsReading read → Goes read insts k j old new → up_to_function (drop j insts) ≡ [] → new ≡ old ++ read (up_to_function (drop k insts))
goes-stop read insts k j old new r g none = sym (append-nil new) ∙ ap (λ (xs : List ℕ). new ++ xs) (sym (ap read none ∙ r.none)) ∙ g

-- ---- the whole of a function

pub function-at : (insts : List Instruction) (k : ℕ) (i : Instruction) → k < length insts → slice_get insts k ≡ Some i → is_function i ≡ true → function_at insts k ≡ i ∷ up_to_function (drop (k + 1) insts)
function-at insts k i fits at e = ap function_in (drop_at insts k i fits at) ∙ ap (λ (b : Bool). cond b (i ∷ up_to_function (drop (k + 1) insts)) []) e

pub no-function-at : (insts : List Instruction) (k : ℕ) (i : Instruction) → k < length insts → slice_get insts k ≡ Some i → is_function i ≡ false → function_at insts k ≡ []
no-function-at insts k i fits at e = ap function_in (drop_at insts k i fits at) ∙ ap (λ (b : Bool). cond b (i ∷ up_to_function (drop (k + 1) insts)) []) e

pub reads-function : (read : List Instruction → List ℕ) (insts : List Instruction) (k : ℕ) (i : Instruction) (old mid new : List ℕ) → IsReading read → k < length insts → slice_get insts k ≡ Some i → is_function i ≡ true → mid ≡ old ++ read (i ∷ []) →
    new ≡ mid ++ read (up_to_function (drop (k + 1) insts)) → new ≡ old ++ read (function_at insts k)
reads-function read insts k i old mid new r fits at e first rest =
    let others = up_to_function (drop (k + 1) insts) in
    rest
    ∙ ap (λ (xs : List ℕ). xs ++ read others) first
    ∙ append_assoc old (read (i ∷ [])) (read others)
    ∙ ap (λ (xs : List ℕ). old ++ xs) (sym (r.cons i others))
    ∙ ap (λ (is : List Instruction). old ++ read is) (sym (function-at insts k i fits at e))

pub reads-nothing : (read : List Instruction → List ℕ) (insts : List Instruction) (k : ℕ) (i : Instruction) (old : List ℕ) → IsReading read → k < length insts → slice_get insts k ≡ Some i → is_function i ≡ false → old ≡ old ++ read (function_at insts k)
reads-nothing read insts k i old r fits at e = sym (append-nil old) ∙ ap (λ (xs : List ℕ). old ++ xs) (sym (ap read (no-function-at insts k i fits at e) ∙ r.none))

-- ---- the rows of all places

pub rows-more : (row : ℕ → List ℕ) (k : ℕ) (old new : List (List ℕ)) (last : List ℕ) → old ≡ map row (range_with_len 0 k) → last ≡ row k → new ≡ old ++ last ∷ [] → new ≡ map row (range_with_len 0 (k + 1))
rows-more row k old new last before e more =
    more
    ∙ ap (λ (rows : List (List ℕ)). rows ++ last ∷ []) before
    ∙ ap (λ (x : List ℕ). map row (range_with_len 0 k) ++ x ∷ []) e
    ∙ sym (map-range_with_len_more row 0 k k (omega arith))
