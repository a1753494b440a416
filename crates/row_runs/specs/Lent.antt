-- A row's guards that are lent, and the row of them and its terms.
use Rattle.std.specs.Prelude.{List}
use Rattle.numeric.specs.Threshold.{Term}
use Rattle.rows.specs.Rows.{Row, Guard, row_of}
use Rattle.rows.specs.Lent.{terms_of}
use Rattle.row_runs.specs.Guards.{guards}
use Rattle.row_runs.specs.declared.Guards.{Guards as LentGuards}
use Rattle.row_runs.specs.declared.Row.{Row as LentRow}

abbrev pub guards_of : LentGuards → List Guard
guards_of g = guards g.bounds.now g.nodes.now

-- `raw` is the list that the row was merged from, which is not lent.
abbrev pub row_in : List Term → LentRow → Row
row_in raw r = row_of raw (terms_of r.terms) (guards_of r.guards)
