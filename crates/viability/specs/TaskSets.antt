-- A set of tasks of a table, by a flag for each task.
use Rattle.std.specs.Prelude.{Bool, List, length, take}
use Rattle.viability.specs.declared.task_set.TaskSet.{TaskSet}

-- one flag to a task; those behind them mean nothing
abbrev pub members_of : TaskSet → List Bool
members_of s = take (length s.tasks.now) s.flags
