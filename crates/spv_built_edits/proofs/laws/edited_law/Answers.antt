use Rattle.spv_built_edits.proofs.Built as built
use Rattle.spv_built_edits.proofs.Dropping as dropping
use Rattle.spv_built_edits.proofs.Normal as normal
use Rattle.spv_built_edits.proofs.Short as short
use Rattle.spv_built_edits.proofs.Values as values
use Rattle.spv_built_edits.proofs.laws.edited_law.Goals as goal

pub returns-clause-normal : goal.returns-clause-normal
returns-clause-normal c = normal.normal_stays

pub returns-clause-short : goal.returns-clause-short
returns-clause-short c = short.short_stays

pub returns-clause-built : goal.returns-clause-built
returns-clause-built c = built.built_stays

pub returns-clause-dropped : goal.returns-clause-dropped
returns-clause-dropped c = built.built_where_dropped

pub returns-clause-fits : goal.returns-clause-fits
returns-clause-fits c = dropping.fits_where_dropped

pub returns-clause-replaced : goal.returns-clause-replaced
returns-clause-replaced c = built.built_where_replaced

pub returns-clause-values : goal.returns-clause-values
returns-clause-values c = values.fits_where_values_stand
