-- The names of the jobs.
use Rattle.std.specs.Prelude.{ℕ, List, Option, Some, None, bytes_eq, codes, if◌then◌else◌}
use Rattle.command_line.specs.declared.job.Job.{Job}
use Rattle.command_line.specs.declared.job.Job.TheVariants.{Exec, Check, Eval, Run, Compile, Bench, Explain, Export, Call, Verify, Cert}

abbrev pub job_named : List ℕ → Option Job
job_named name =
    if bytes_eq name (codes "exec") then Some Exec
    else (if bytes_eq name (codes "check") then Some Check
    else (if bytes_eq name (codes "eval") then Some Eval
    else (if bytes_eq name (codes "run") then Some Run
    else (if bytes_eq name (codes "compile") then Some Compile
    else (if bytes_eq name (codes "bench") then Some Bench
    else (if bytes_eq name (codes "explain") then Some Explain
    else (if bytes_eq name (codes "export") then Some Export
    else (if bytes_eq name (codes "call") then Some Call
    else (if bytes_eq name (codes "verify") then Some Verify
    else (if bytes_eq name (codes "cert") then Some Cert else None))))))))))
