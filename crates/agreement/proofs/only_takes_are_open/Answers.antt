use Rattle.agreement.proofs.Takes.{only_takes_are_open, runs_go_by_takes, free_runs_go_by_takes}
use Rattle.agreement.proofs.only_takes_are_open.Goals as goal

pub returns-clause-of_a_step : goal.returns-clause-of_a_step
returns-clause-of_a_step g c = only_takes_are_open

pub returns-clause-of_a_run : goal.returns-clause-of_a_run
returns-clause-of_a_run g c = runs_go_by_takes

pub returns-clause-of_a_free_run : goal.returns-clause-of_a_free_run
returns-clause-of_a_free_run g c = free_runs_go_by_takes
