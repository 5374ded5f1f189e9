-- What the reading calls leave, and what they say of a line.
use Rattle.std.specs.Prelude.{◌≡◌, Result, Ok, Err, ⊤}
use Rattle.snap_config.specs.Builder.{BuilderValue, Said}
use Rattle.snap_config.specs.declared.builder.SetupBuilder.{SetupBuilder}
use Rattle.snap_config.specs.declared.fault.LineFault.{LineFault}
use Rattle.snap_config.specs.declared.fault.LineFault.TheVariants.{Refused, Memory}
use Rattle.snap_config.specs.declared.why.Why.{Why}

abbrev pub builder_value : SetupBuilder → BuilderValue
builder_value builder = record {
  parities = builder.parities.items;
  contents = builder.contents.items;
  disks = builder.disks.items;
  rules = builder.rules.items;
  nohidden = builder.nohidden;
  block_size = builder.block_size;
  hash_size = builder.hash_size;
  autosave = builder.autosave;
  split = builder.split;
}

-- a fault is the one that is said, or want of memory
abbrev pub Explains : {A : Type 0} → LineFault → Result A Why → Type 0
Explains (Refused why) said = said ≡ Err why
Explains Memory said = ⊤

-- an answer is what is said, or want of memory; after it a builder is what is said
abbrev pub Follows : {T : Type 0} → Result T LineFault → Said → BuilderValue → Type 0
Follows (Ok _) said new = said ≡ Ok new
Follows (Err fault) said new = Explains fault said
