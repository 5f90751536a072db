-- Each function of the normal form is read as the tree that the function of the module is read as.
use Rattle.std.proofs.Common.{◌≡◌, ℕ, ◌<◌, ◌≤◌, List, length, slice_get, Some, refl, sym, ap, ◌∙◌, subst, arith}
use Rattle.spv_module.specs.Instruction.{Instruction}
use Rattle.spv_blocks.specs.Cutting.{blocks_of, function_insts}
use Rattle.spv_walk.specs.Rules.{Broken}
use Rattle.spv_bodies.specs.Bodies.{depth}
use Rattle.spv_normal.specs.Lines.{without_marks}
use Rattle.spv_normal.specs.Normal.{normal_function}
use Rattle.spv_tree.specs.declared.body.Body.{Body}
use Rattle.spv_tree.specs.Tree.{body_of, words_of}
use Rattle.spv_spelling.specs.Clean.{IsClean}
use Rattle.spv_spelling.specs.Spelling.{SpellsFunction}
use Rattle.spv_spelling.specs.Whole.{IsAdmitted}
use Rattle.spv_respelling.proofs.Admitted as admitted
use Rattle.spv_respelling.proofs.Inside.{no_marks}
use Rattle.spv_respelling.proofs.Whole.{respells_listing}
use Rattle.spv_functions.specs.Functions.{IsTree, is_pointer}
use Rattle.spv_norm_structured.specs.Laws.{IsNormAgain, IsReadAsTrees, NormIsParsed}
use Rattle.spv_norm_structured.proofs.Again.{IsAgain, again_at, count_again, place_below}
use Rattle.spv_norm_structured.proofs.Depths.{new_depth, no_deeper, old_depth}
use Rattle.spv_norm_structured.proofs.Pointers.{unbroken_at}

module _ (insts again : List Instruction) (bodies : List Body) (h : IsReadAsTrees insts bodies) (n : IsNormAgain insts again) (k : ℕ)
    (a : IsAgain insts bodies k (function_insts k again)) where
  abbrev old : List Instruction
  old = function_insts k insts

  abbrev new : List Instruction
  new = function_insts k again

  stays : ℕ → ℕ
  stays = a.tree.parsed.spelled.stays

  new_admitted : IsAdmitted new
  new_admitted =
      let s = a.tree.parsed.spelled in
      admitted.listing_is_admitted (without_marks old) s.stays (body_of a.body) s.admitted s.spells new a.lists a.instructions

  new_spells : SpellsFunction new (λ l. l) (body_of a.body)
  new_spells =
      let s = a.tree.parsed.spelled in
      respells_listing (without_marks old) s.stays (body_of a.body) s.admitted s.spells new a.lists

  bare : without_marks new ≡ new
  bare = no_marks new a.text

  stays_normal : normal_function new ≡ words_of new
  stays_normal =
      let s = a.tree.parsed.spelled in
      admitted.normal_stays old s.stays (body_of a.body) s.admitted s.spells new (a.lists ∙ a.tree.normal) a.instructions

  -- which types are pointers matters to what is broken alone
  new_clean : IsClean (is_pointer again) (blocks_of new)
  new_clean = record {
    unbroken = unbroken_at insts again bodies h n k a;
    walked = new_admitted.clean.walked;
    entered = new_admitted.clean.entered;
    turned = new_admitted.clean.turned;
  }

  no_deeper_now : depth (body_of a.body).body ≤ 255
  no_deeper_now =
      let less = no_deeper (blocks_of old) _ (depth (body_of a.body).body) a.tree.parsed.depth (old_depth insts again bodies k a) a.tree.parsed.nested.greatest in
      let within = a.tree.parsed.within in
      omega (arith, less, within)

  pub tree_again : IsTree (is_pointer again) new a.body
  tree_again = record {
    parsed = record {
      depth = depth (body_of a.body).body;
      nested = record { unbroken = unbroken_at insts again bodies h n k a; greatest = new_depth insts again bodies k a };
      within = no_deeper_now;
      clean = new_clean;
      spelled = record {
        admitted = subst IsAdmitted (sym bare) new_admitted;
        stays = λ l. l;
        spells = subst (λ z. SpellsFunction z (λ l. l) (body_of a.body)) (sym bare) new_spells;
      };
    };
    sound = a.tree.sound;
    normal = sym a.lists ∙ sym stays_normal;
  }

pub norm_is_parsed : NormIsParsed
norm_is_parsed insts again bodies h n k body at =
    let below = place_below bodies k body at in
    let a = again_at insts again bodies h n k (subst (λ m. k < m) (sym (count_again insts again bodies h n)) below) in
    let found : Some a.body ≡ Some body = sym a.at ∙ at in
    let same : a.body ≡ body = cc found in
    subst (IsTree (is_pointer again) (function_insts k again)) same (tree_again insts again bodies h n k a)
