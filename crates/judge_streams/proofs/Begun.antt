-- Zeros are a table with no stream.
use mathlib.Core.Path.{◌≡◌, refl}
use mathlib.Core.List.{[]}
use native.Mathlib.Omega.{arith}
use lib.ListN.{replicate}
use Rattle.bits.specs.Tabulate.{tabulate}
use Rattle.judge_streams.specs.inside.Table.{table_size, Table, entries_of}

pub zeros : Table (replicate table_size 0)
zeros = record { long = refl; few = omega arith }

pub no-entries : entries_of (replicate table_size 0) ≡ []
unfolding entries_of tabulate
no-entries = refl
