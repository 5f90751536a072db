-- Reading one operand is a step of reading all.
use Rattle.std.proofs.Common.{◌≡◌, ℕ, List, ◌∷◌, ◌++◌, Option, Some, None, refl, sym, ap, subst, append_assoc, ◌+◌, ◌<◌, suc, length, drop, get_or, add-one}
use Rattle.std.proofs.Math.Seq.{drop-cons}
use Rattle.std.specs.Option.{option_map, option_and_then}
use Rattle.spv_grammar.specs.declared.kind.Role.{Role}
use Rattle.spv_grammar.specs.declared.kind.Kind.{Kind}
use Rattle.spv_grammar.specs.Operands.{Taken, taken, after, operand_roles}

appended : (x : Option (List Role)) (a b : List Role) → option_map (λ rs. a ++ rs) (option_map (λ rs. b ++ rs) x) ≡ option_map (λ rs. (a ++ b) ++ rs) x
appended None a b = refl
appended (Some rs) a b = ap Some (sym (append_assoc a b rs))

step_of : (t : Option Taken) (kinds : List Kind) (old : List Role) (u : Taken) → option_map (after old) t ≡ Some u →
    option_map (λ rs. old ++ rs) (option_and_then (λ v. option_map (λ rs. v.roles ++ rs) (operand_roles kinds v.rest)) t)
    ≡ option_map (λ rs. u.roles ++ rs) (operand_roles kinds u.rest)
step_of None kinds old u h = cc
step_of (Some t) kinds old u h =
    let e : after old t ≡ u = cc in
    subst (λ (v : Taken). option_map (λ rs. old ++ rs) (option_map (λ rs. t.roles ++ rs) (operand_roles kinds t.rest)) ≡ option_map (λ rs. v.roles ++ rs) (operand_roles kinds v.rest)) e
    (appended (operand_roles kinds t.rest) old t.roles)

-- an operand that took words in front leaves the others to the operands behind it
pub operand_roles-step : (kind : Kind) (kinds : List Kind) (ws : List ℕ) (old : List Role) (u : Taken) → option_map (after old) (taken kind ws) ≡ Some u →
    option_map (λ rs. old ++ rs) (operand_roles (kind ∷ kinds) ws) ≡ option_map (λ rs. u.roles ++ rs) (operand_roles kinds u.rest)
operand_roles-step kind kinds ws old u h = step_of (taken kind ws) kinds old u h

-- the same at a place of the list of operands
pub operand_roles-at : (kinds : List Kind) (i : ℕ) (d : Kind) (ws : List ℕ) (old : List Role) (u : Taken) → i < length kinds → option_map (after old) (taken (get_or kinds i d) ws) ≡ Some u →
    option_map (λ rs. old ++ rs) (operand_roles (drop i kinds) ws) ≡ option_map (λ rs. u.roles ++ rs) (operand_roles (drop (i + 1) kinds) u.rest)
operand_roles-at kinds i d ws old u h e = rw (add-one, drop-cons kinds i d h) (operand_roles-step (get_or kinds i d) (drop (suc i) kinds) ws old u e)
