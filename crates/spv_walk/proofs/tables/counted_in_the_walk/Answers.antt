use Rattle.spv_walk.proofs.Letter as letter
use Rattle.spv_walk.proofs.tables.counted_in_the_walk.Goals as goal

pub returns-clause-back : goal.returns-clause-back
returns-clause-back c = letter.back_is_walked

pub returns-clause-fall : goal.returns-clause-fall
returns-clause-fall c = letter.fall_not_counted

pub returns-clause-entered : goal.returns-clause-entered
returns-clause-entered c = letter.entered_tries

pub returns-clause-led : goal.returns-clause-led
returns-clause-led c = letter.fall_is_led

pub returns-clause-arms : goal.returns-clause-arms
returns-clause-arms c = letter.fall_by_arms
