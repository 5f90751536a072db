-- What a job of the code says.
use Rattle.opt_top.specs.declared.job.FileJob.{FileJob as CodeJob}
use Rattle.opt_top.specs.Job.{FileJob}

abbrev pub seen : CodeJob → FileJob
seen job = record { input = job.input.now; output = job.output.now }
