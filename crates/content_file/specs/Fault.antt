-- What the fault of another layer is to one who reads a content file.
use Rattle.file_table.specs.declared.fault.BuildFault.{BuildFault}
use Rattle.file_table.specs.declared.fault.BuildFault.TheVariants as builds
use Rattle.content_file.specs.declared.fault.Flaw.{Flaw}
use Rattle.content_file.specs.declared.fault.Flaw.TheVariants as flaws

-- the flaw of a path that a builder would refuse for this fault
abbrev pub path_flaw : BuildFault → Flaw
path_flaw builds.Order = flaws.Order
path_flaw _ = flaws.Path
