use Rattle.machine.proofs.histories.Runs as runs
use Rattle.machine.proofs.laws.runs_go_on.Goals as goal

pub returns : goal.returns
returns c = record { histories = runs.history_run; files = runs.history_file; with_memory = runs.runs_with_memory }
