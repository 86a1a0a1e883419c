-- The hasher with which a table's hash begins. No contract of a table cites it.
use Rattle.std.specs.Hash.DefaultHasher.{initial}
use Rattle.std.specs.RandomState.{initial_hasher}
use Rattle.std.specs.declared.hash.DefaultHasher.{DefaultHasher}
use Rattle.input_output.specs.declared.table_hash.Key.{Key}
use Rattle.input_output.specs.declared.table_hash.Key.TheVariants.{Drawn, Zero}
use Rattle.input_output.specs.declared.table_hash.TableHash.{TableHash}

abbrev pub hasher_under : Key → DefaultHasher
hasher_under (Drawn drawn) = initial_hasher drawn
hasher_under Zero = initial

abbrev pub first_hasher : TableHash → DefaultHasher
first_hasher hash = hasher_under hash.key
