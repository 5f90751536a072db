-- What stands outside functions is told by the statements before the first function: those of functions say nothing of a module as a whole.
use Rattle.std.proofs.Common.{◌≡◌, ℕ, suc, Bool, true, false, cond, ◌==◌, ◌&&◌, List, [], ◌∷◌, ◌++◌, Option, Some, None, refl, sym, ap, ◌∙◌}
use Rattle.std.specs.Prelude.{nat_eq, slice_index, is_some}
use Rattle.std.specs.List.{AllByRecursion}
use Rattle.std.specs.Cmp.Lexicographic.{pointwise}
use Rattle.spv_opcodes.specs.declared.decoration.TheConstants as decoration
use Rattle.spv_opcodes.specs.declared.builtin.TheConstants as builtin
use Rattle.spv_meaning.specs.Constants.{Specialisation, Table, IsType, IsConstant, decorated, member_decorated, first_literal, length_at, words_at, members_of, type_at, given, defined, with_entry}
use Rattle.spv_meaning.specs.Constants.{table_from, table_of}
use Rattle.spv_meaning.specs.Types.{Array, RuntimeArray, Struct, Member}
use Rattle.spv_meaning.specs.Statements as says
use Rattle.spv_meaning.specs.Statements.{Statement}
use Rattle.spv_machine.specs.Dispatch.{Dispatch}
use Rattle.spv_machine.specs.Setting.{entry_function, or_else, triple_in, triple_of, size_by_constant, size_by_ids, size_by_literals, size_for, size_for_entry, size_in, array_lengths}
use Rattle.spv_norm_means.specs.Laws.{SameOutside}

-- what may stand in functions: nothing that is said of a module as a whole
abbrev pub is_inner : Statement → Bool
is_inner (says.EntryPoint function name) = false
is_inner (says.LocalSize function sizes) = false
is_inner (says.LocalSizeId function sizes) = false
is_inner (says.Decorate target kind literals) = false
is_inner (says.MemberDecorate target member kind literals) = false
is_inner (says.TypeArray r element length) = false
is_inner other = true

abbrev pub AllInner : List Statement → Type 0
AllInner ss = AllByRecursion (λ s. is_inner s ≡ true) ss

-- nothing, or a function
abbrev pub IsBegun : List Statement → Type 0
IsBegun [] = Unit {0}
IsBegun (says.Function r ∷ rest) = Unit {0}
IsBegun other = ⊥

-- ---- each by recursion on the statements

entry_before : (name : List ℕ) (xs ys : List Statement) → AllInner ys → entry_function (xs ++ ys) name ≡ entry_function xs name
entry_before name [] [] h = refl
entry_before name [] (says.EntryPoint f n ∷ ys) h = absurd (cc)
entry_before name [] (other ∷ ys) h = entry_before name [] ys h.1
entry_before name (says.EntryPoint f n ∷ xs) ys h = ap (λ o. cond (pointwise nat_eq n name) (Some f) o) (entry_before name xs ys h)
entry_before name (other ∷ xs) ys h = entry_before name xs ys h

decorated_before : (id kind : ℕ) (xs ys : List Statement) → AllInner ys → decorated (xs ++ ys) id kind ≡ decorated xs id kind
decorated_before id kind [] [] h = refl
decorated_before id kind [] (says.Decorate target what literals ∷ ys) h = absurd (cc)
decorated_before id kind [] (other ∷ ys) h = decorated_before id kind [] ys h.1
decorated_before id kind (says.Decorate target what literals ∷ xs) ys h =
    ap (λ o. cond (target == id && what == kind) (Some literals) o) (decorated_before id kind xs ys h)
decorated_before id kind (other ∷ xs) ys h = decorated_before id kind xs ys h

member_before : (id number kind : ℕ) (xs ys : List Statement) → AllInner ys → member_decorated (xs ++ ys) id number kind ≡ member_decorated xs id number kind
member_before id number kind [] [] h = refl
member_before id number kind [] (says.MemberDecorate target member what literals ∷ ys) h = absurd (cc)
member_before id number kind [] (other ∷ ys) h = member_before id number kind [] ys h.1
member_before id number kind (says.MemberDecorate target member what literals ∷ xs) ys h =
    ap (λ o. cond (target == id && (member == number && what == kind)) (Some literals) o) (member_before id number kind xs ys h)
member_before id number kind (other ∷ xs) ys h = member_before id number kind xs ys h

constant_before : (table : Table) (xs ys : List Statement) → AllInner ys → size_by_constant (xs ++ ys) table ≡ size_by_constant xs table
constant_before table [] [] h = refl
constant_before table [] (says.Decorate target what literals ∷ ys) h = absurd (cc)
constant_before table [] (other ∷ ys) h = constant_before table [] ys h.1
constant_before table (says.Decorate target what literals ∷ xs) ys h =
    ap (λ o. cond (what == decoration.BUILTIN && slice_index literals 0 == builtin.WORKGROUP_SIZE) (Some (triple_in (words_at table target))) o)
    (constant_before table xs ys h)
constant_before table (other ∷ xs) ys h = constant_before table xs ys h

ids_before : (table : Table) (f : ℕ) (xs ys : List Statement) → AllInner ys → size_by_ids (xs ++ ys) table f ≡ size_by_ids xs table f
ids_before table f [] [] h = refl
ids_before table f [] (says.LocalSizeId of ids ∷ ys) h = absurd (cc)
ids_before table f [] (other ∷ ys) h = ids_before table f [] ys h.1
ids_before table f (says.LocalSizeId of ids ∷ xs) ys h = ap (λ o. cond (of == f) (Some (triple_of table ids)) o) (ids_before table f xs ys h)
ids_before table f (other ∷ xs) ys h = ids_before table f xs ys h

literals_before : (f : ℕ) (xs ys : List Statement) → AllInner ys → size_by_literals (xs ++ ys) f ≡ size_by_literals xs f
literals_before f [] [] h = refl
literals_before f [] (says.LocalSize of sizes ∷ ys) h = absurd (cc)
literals_before f [] (other ∷ ys) h = literals_before f [] ys h.1
literals_before f (says.LocalSize of sizes ∷ xs) ys h = ap (λ o. cond (of == f) (Some (triple_in sizes)) o) (literals_before f xs ys h)
literals_before f (other ∷ xs) ys h = literals_before f xs ys h

lengths_before : (table : Table) (xs ys : List Statement) → AllInner ys → array_lengths (xs ++ ys) table ≡ array_lengths xs table
lengths_before table [] [] h = refl
lengths_before table [] (says.TypeArray r element length ∷ ys) h = absurd (cc)
lengths_before table [] (other ∷ ys) h = lengths_before table [] ys h.1
lengths_before table (says.TypeArray r element length ∷ xs) ys h = ap (λ ns. length_at table length ∷ ns) (lengths_before table xs ys h)
lengths_before table (other ∷ xs) ys h = lengths_before table xs ys h

-- ---- the table: it ends at the first function

table_before : (all : List Statement) (s : Specialisation) (table : Table) (xs ys : List Statement) → IsBegun ys
    → table_from all s table (xs ++ ys) ≡ table_from all s table xs
table_before all s table [] [] h = refl
table_before all s table [] (says.Function r ∷ ys) h = refl
table_before all s table [] (other ∷ ys) h = absurd h
table_before all s table (says.Function r ∷ xs) ys h = refl
table_before all s table (other ∷ xs) ys h = table_before all s (with_entry table (defined all s table other)) xs ys h

-- and of the whole it asks for decorations alone
module _ (all all2 : List Statement) (h : (id kind : ℕ) → decorated all id kind ≡ decorated all2 id kind)
    (m : (id number kind : ℕ) → member_decorated all id number kind ≡ member_decorated all2 id number kind) where
  members_same : (table : Table) (id number : ℕ) (types : List ℕ) → members_of all table id number types ≡ members_of all2 table id number types
  members_same table id number [] = refl
  members_same table id number (t ∷ ts) = λ i.
      Member (first_literal (m id number decoration.OFFSET i)) (is_some (m id number decoration.VOLATILE i)) (type_at table t)
      (members_same table id (suc number) ts i)

  defined_same : (s : Specialisation) (table : Table) (st : Statement) → defined all s table st ≡ defined all2 s table st
  defined_same s table (says.TypeArray r element length) = λ i.
      Some (r, IsType (Array (first_literal (h r decoration.ARRAY_STRIDE i)) (length_at table length) (type_at table element)))
  defined_same s table (says.TypeRuntimeArray r element) = λ i.
      Some (r, IsType (RuntimeArray (first_literal (h r decoration.ARRAY_STRIDE i)) (type_at table element)))
  defined_same s table (says.TypeStruct r members) = λ i. Some (r, IsType (Struct (members_same table r 0 members i)))
  defined_same s table (says.SpecConstant t r words) = λ i.
      Some (r, IsConstant (type_at table t) (given (h r decoration.SPEC_ID i) s (type_at table t) words))
  defined_same s table other = refl

  table_same : (s : Specialisation) (table : Table) (xs : List Statement) → table_from all s table xs ≡ table_from all2 s table xs
  table_same s table [] = refl
  table_same s table (says.Function r ∷ xs) = refl
  table_same s table (other ∷ xs) =
      ap (λ e. table_from all s (with_entry table e) xs) (defined_same s table other) ∙ table_same s (with_entry table (defined all2 s table other)) xs

-- ---- all of it

module _ (xs ys zs : List Statement) (inner : AllInner ys) (inner2 : AllInner zs) (begun : IsBegun ys) (begun2 : IsBegun zs) where
  entries_alike : (name : List ℕ) → entry_function (xs ++ ys) name ≡ entry_function (xs ++ zs) name
  entries_alike name = entry_before name xs ys inner ∙ sym (entry_before name xs zs inner2)

  decorations_alike : (id kind : ℕ) → decorated (xs ++ ys) id kind ≡ decorated (xs ++ zs) id kind
  decorations_alike id kind = decorated_before id kind xs ys inner ∙ sym (decorated_before id kind xs zs inner2)

  members_alike : (id number kind : ℕ) → member_decorated (xs ++ ys) id number kind ≡ member_decorated (xs ++ zs) id number kind
  members_alike id number kind = member_before id number kind xs ys inner ∙ sym (member_before id number kind xs zs inner2)

  tables_alike : (s : Specialisation) → table_of (xs ++ ys) s ≡ table_of (xs ++ zs) s
  tables_alike s =
      table_before (xs ++ ys) s [] xs ys begun
      ∙ (table_same (xs ++ ys) (xs ++ zs) decorations_alike members_alike s [] xs
      ∙ sym (table_before (xs ++ zs) s [] xs zs begun2))

  size_for_alike : (table : Table) (f : ℕ) → size_for (xs ++ ys) table f ≡ size_for (xs ++ zs) table f
  size_for_alike table f = λ i.
      or_else ((constant_before table xs ys inner ∙ sym (constant_before table xs zs inner2)) i)
      (or_else ((ids_before table f xs ys inner ∙ sym (ids_before table f xs zs inner2)) i)
      ((literals_before f xs ys inner ∙ sym (literals_before f xs zs inner2)) i))

  for_entry_alike : (table : Table) (o : Option ℕ) → size_for_entry (xs ++ ys) table o ≡ size_for_entry (xs ++ zs) table o
  for_entry_alike table None = refl
  for_entry_alike table (Some f) = size_for_alike table f

  sizes_alike : (d : Dispatch) → size_in (xs ++ ys) d ≡ size_in (xs ++ zs) d
  sizes_alike d = λ i. for_entry_alike (tables_alike d.specialisation i) (entries_alike d.entry i) i

  pub same_outside : SameOutside (xs ++ ys) (xs ++ zs)
  same_outside = record {
    entries = entries_alike;
    decorations = decorations_alike;
    tables = tables_alike;
    sizes = sizes_alike;
    lengths = λ table. lengths_before table xs ys inner ∙ sym (lengths_before table xs zs inner2);
  }
