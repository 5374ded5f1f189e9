-- How a table is kept while it is built.
use Rattle.file_table.specs.declared.builder.Builder.TheInside.{Inside}
use Rattle.file_table.specs.Building.{BuildingValue}
use Rattle.file_table.specs.Counted.{IsCounted}
use Rattle.file_table.specs.Stripes.{users_of, lacking_of}

abbrev pub building_of : Inside → BuildingValue
building_of builder = record { shape = builder.shape; length = builder.length; columns = builder.disks.items; infos = builder.infos.items }

-- all that was pushed is well formed, and what is counted of it is right
abbrev pub IsBuilder : Inside → Type 0
IsBuilder builder = IsCounted (building_of builder) (users_of builder.stripes) (lacking_of builder.stripes) builder.records builder.due builder.lacking builder.end
