-- Why a line was not taken.
use Rattle.std.specs.Prelude.{ℕ}
use Rattle.snap_config.specs.declared.fault.LineFault.{LineFault}
use Rattle.snap_config.specs.declared.fault.LineFault.TheVariants.{Refused, Memory}
use Rattle.array_setup.specs.declared.pattern.PatternFault.{PatternFault}
use Rattle.array_setup.specs.declared.pattern.PatternFault.TheVariants.{Bad, Memory as PatternMemory}
use Rattle.snap_config.specs.declared.why.ConfigFault.{ConfigFault}
use Rattle.snap_config.specs.declared.why.ConfigFault.TheVariants.{BadLine, Memory as ConfigMemory}
use Rattle.snap_config.specs.declared.why.Why.TheVariants.{Pattern}

-- the fault of a configuration at a line
abbrev pub fault_at : ℕ → LineFault → ConfigFault
fault_at line (Refused why) = BadLine line why
fault_at line Memory = ConfigMemory

-- the fault of a line whose pattern was not read
abbrev pub pattern_fault : PatternFault → LineFault
pattern_fault Bad = Refused Pattern
pattern_fault PatternMemory = Memory
