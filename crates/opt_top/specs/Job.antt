-- The job that the words of a command give.
use Rattle.std.specs.Prelude.{ℕ, Bool, true, cond, ◌==◌, ◌||◌, not, List, [], ◌∷◌, map, Option, Some, None, codes, nat_eq}
use Rattle.std.specs.Cmp.Lexicographic.{pointwise}
use Rattle.std.specs.Rc.{rc_str_bytes}
use Rattle.std.specs.declared.rc.RcStr.{RcStr}
use Rattle.std.specs.declared.alloc.Global.{Global}

-- texts as lists of bytes
abbrev pub texts : List (RcStr Global) → List (List ℕ)
texts words = map rc_str_bytes words

abbrev pub is_text : List ℕ → List ℕ → Bool
is_text a b = pointwise nat_eq a b

-- a file to read and a file to write
pub record FileJob : Type 0 where
  pub input : List ℕ
  pub output : List ℕ

-- an input is named by `-`, or by a word that does not begin with `-`
abbrev pub is_input_name : List ℕ → Bool
is_input_name [] = true
is_input_name (c ∷ cs) = not (c == 45) || is_text (c ∷ cs) (codes "-")

-- `--strip-debug`, an input, `-o` and an output are a job; no other words are one yet
abbrev pub file_job : (flag input mark output : List ℕ) → Option FileJob
file_job flag input mark output =
    cond (is_text flag (codes "--strip-debug")) (cond (is_input_name input) (cond (is_text mark (codes "-o")) (Some (record { input = input; output = output })) None) None) None

abbrev pub job_of : List (List ℕ) → Option FileJob
job_of (flag ∷ input ∷ mark ∷ output ∷ []) = file_job flag input mark output
job_of _ = None
