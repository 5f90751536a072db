use Rattle.spv_stripped.proofs.StringUses as whole
use Rattle.spv_stripped.proofs.strings.strings_law.Goals as goal

pub returns : goal.returns
returns c = whole.module_uses_no_strings
