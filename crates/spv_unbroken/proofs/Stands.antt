-- What breaks no rule stands where it is listed.
use Rattle.spv_trees.proofs.Listed.{listing_law}
use Rattle.spv_structured.proofs.Stands.{structured_stands}
use Rattle.spv_unbroken.specs.Laws.{SoundAgrees, UnbrokenStands}
use Rattle.spv_unbroken.proofs.Structured.{unbroken_is_structured}

pub sound_agrees : SoundAgrees
sound_agrees is_pointer r f insts u =
    structured_stands r f is_pointer u.sound (unbroken_is_structured f insts is_pointer u.sound u.opens u.arms u.words u.none) u.function u.parameters

pub unbroken_stands : UnbrokenStands
unbroken_stands functions is_pointer r f insts first last u known fresh once =
    listing_law functions r f first last (sound_agrees is_pointer r f insts u) known fresh once
