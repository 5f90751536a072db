use Rattle.std.proofs.Common.{refl}
use Rattle.spv_editing.proofs.Becoming.{split-becomes}
use Rattle.spv_editing.proofs.editing.edit_split.Goals as goal

pub returns : goal.returns
returns g c = split-becomes (g.E.Editor.edit c.args.editor.now) c.args.split _ c.used-condition.ensures refl c.in_ok-exit.ensures refl
